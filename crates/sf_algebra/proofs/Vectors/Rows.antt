-- Combinations of the rows of a matrix.
use Rattle.std.proofs.Common.{◌≡◌, ℕ, zero, suc, ◌+◌, ◌<◌, ◌≤◌, List, [], ◌∷◌, ◌++◌, length, map, refl, sym, ◌∙◌, ap, arith}
use Rattle.sf_algebra.specs.Matrices.{Matrix}
use Rattle.sf_algebra.specs.MatrixOperations.{row_at, row_combination, matrix_product}
use Rattle.sf_algebra.specs.Monomials.{Monomial}
use Rattle.sf_algebra.specs.Multiples.{place_product, negative, combination}
use Rattle.sf_algebra.specs.Rings.{Ring, Weights}
use Rattle.sf_algebra.specs.Terms.{Term}
use Rattle.sf_algebra.specs.VectorOperations.{row_sum, row_multiple}
use Rattle.sf_algebra.specs.Vectors.{Place, Vector, place_cmp, IsCanonicalRow}
use Rattle.sf_algebra.proofs.Multiplying.Associativity.{IsOfRows, combination_combination, combination-multiple, combination-negative}
use Rattle.sf_algebra.proofs.Multiplying.CombinationLaws.{combination-add, combination-add_rows, combination-append, combination-cons, combination-push, combination-nil, combination-one}
use Rattle.sf_algebra.proofs.Multiplying.Combinations.{IsCanonical-combination}
use Rattle.sf_algebra.proofs.Multiplying.Keys.{place_keys}

-- a coefficient stands for the row at its position
pub position_rows : (weights : Weights) (row : ℕ → List (Term Place))
    → IsOfRows (place_keys weights) (λ k. k.monomial) (λ k. row k.position)
position_rows weights row = record { monomial_act = λ a k. refl; row_act = λ a k. refl }

-- the row at a position of mapped rows
pub row_at-map : (f : List (Term Place) → List (Term Place)) → f [] ≡ [] → (rows : List Vector) (i : ℕ)
    → row_at (map (λ (v : Vector). record { degree = v.degree; terms = f v.terms }) rows) i ≡ f (row_at rows i)
row_at-map f none [] i = sym none
row_at-map f none (v ∷ vs) zero = refl
row_at-map f none (v ∷ vs) (suc i) = row_at-map f none vs i

-- past the rows there is none
pub row_at-past : (rows : List Vector) (i : ℕ) → length rows ≤ i → row_at rows i ≡ []
row_at-past [] i h = refl
row_at-past (v ∷ vs) zero h = absurd (omega arith)
row_at-past (v ∷ vs) (suc i) h = row_at-past vs i (omega arith)

-- the rows of a list followed by another one
pub row_at-append_first : (rows more : List Vector) (i : ℕ) → i < length rows → row_at (rows ++ more) i ≡ row_at rows i
row_at-append_first [] more i h = absurd (omega arith)
row_at-append_first (v ∷ vs) more zero h = refl
row_at-append_first (v ∷ vs) more (suc i) h = row_at-append_first vs more i (omega arith)

pub row_at-append_second : (rows more : List Vector) (i : ℕ) → row_at (rows ++ more) (length rows + i) ≡ row_at more i
row_at-append_second [] more i = ap (row_at more) (omega arith)
row_at-append_second (v ∷ vs) more i = let next : length (v ∷ vs) + i ≡ suc (length vs + i) = omega arith in ap (row_at (v ∷ (vs ++ more))) next ∙ row_at-append_second vs more i

module _ (ring : Ring) (positive : 0 < ring.modulus) where
  pub IsCanonical-row_combination : (rows : List Vector) (c : List (Term Place))
      → IsCanonicalRow ring (row_combination ring rows c)
  IsCanonical-row_combination rows c =
      IsCanonical-combination (place_keys ring.weights) ring.modulus (λ k. k.monomial)
      (λ k. row_at rows k.position) positive c

  pub row_combination-nil : (rows : List Vector) → row_combination ring rows [] ≡ []
  row_combination-nil rows =
      combination-nil (place_keys ring.weights) ring.modulus positive (λ k. k.monomial) (λ k. row_at rows k.position)

  -- one coefficient gives a multiple of a row
  pub row_combination-one : (rows : List Vector) (t : Term Place)
      → row_combination ring rows (t ∷ [])
      ≡ row_multiple ring (record { at = t.at.monomial; coefficient = t.coefficient }) (row_at rows t.at.position)
  row_combination-one rows t =
      combination-one (place_keys ring.weights) ring.modulus positive (λ k. k.monomial) (λ k. row_at rows k.position) t

  -- two lists of coefficients one after the other
  pub row_combination-append : (rows : List Vector) (c d : List (Term Place))
      → row_combination ring rows (c ++ d) ≡ row_sum ring (row_combination ring rows c) (row_combination ring rows d)
  row_combination-append rows c d =
      combination-append (place_keys ring.weights) ring.modulus positive (λ k. k.monomial)
      (λ k. row_at rows k.position) c d

  -- one coefficient more, in front
  pub row_combination-cons : (rows : List Vector) (t : Term Place) (c : List (Term Place))
      → row_combination ring rows (t ∷ c)
      ≡ row_sum ring (row_multiple ring (record { at = t.at.monomial; coefficient = t.coefficient })
      (row_at rows t.at.position)) (row_combination ring rows c)
  row_combination-cons rows t c =
      combination-cons (place_keys ring.weights) ring.modulus positive (λ k. k.monomial)
      (λ k. row_at rows k.position) t c

  -- one coefficient more, behind, as a loop adds it
  pub row_combination-push : (rows : List Vector) (c : List (Term Place)) (t : Term Place)
      → row_combination ring rows (c ++ t ∷ [])
      ≡ row_sum ring (row_combination ring rows c)
      (row_multiple ring (record { at = t.at.monomial; coefficient = t.coefficient }) (row_at rows t.at.position))
  row_combination-push rows c t =
      combination-push (place_keys ring.weights) ring.modulus positive (λ k. k.monomial)
      (λ k. row_at rows k.position) c t

  -- additive in the coefficients
  pub row_combination-add : (rows : List Vector) (c d : List (Term Place))
      → row_combination ring rows (row_sum ring c d)
      ≡ row_sum ring (row_combination ring rows c) (row_combination ring rows d)
  row_combination-add rows c d =
      combination-add (place_keys ring.weights) (place_keys ring.weights) ring.modulus positive (λ k. k.monomial)
      (λ k. row_at rows k.position) c d

  -- additive in the rows
  pub row_combination-add_rows : (sums rows others : List Vector)
      → ((i : ℕ) → row_at sums i ≡ row_sum ring (row_at rows i) (row_at others i)) → (c : List (Term Place))
      → row_combination ring sums c ≡ row_sum ring (row_combination ring rows c) (row_combination ring others c)
  row_combination-add_rows sums rows others same c =
      (λ i. combination (place_cmp ring.weights) place_product ring.modulus (λ k. k.monomial) (λ k. same k.position i) c)
      ∙ combination-add_rows (place_keys ring.weights) ring.modulus positive (λ k. k.monomial)
      (λ k. row_at rows k.position) (λ k. row_at others k.position) c

  -- multiples of the coefficients
  pub row_combination-multiple : (rows : List Vector) (s : Term Monomial) (c : List (Term Place))
      → row_combination ring rows (row_multiple ring s c) ≡ row_multiple ring s (row_combination ring rows c)
  row_combination-multiple rows s c =
      combination-multiple (place_keys ring.weights) (place_keys ring.weights) ring.modulus positive (λ k. k.monomial)
      (λ k. row_at rows k.position) (position_rows ring.weights (row_at rows)) s c

  pub row_combination-negative : (rows : List Vector) (c : List (Term Place)) → IsCanonicalRow ring c
      → row_combination ring rows (negative ring.modulus c) ≡ negative ring.modulus (row_combination ring rows c)
  row_combination-negative rows c h =
      combination-negative (place_keys ring.weights) (place_keys ring.weights) ring.modulus positive (λ k. k.monomial)
      (λ k. row_at rows k.position) (position_rows ring.weights (row_at rows)) c h

  -- the rows of a product are combinations
  pub row_at-matrix_product : (m n : Matrix) (i : ℕ) → m.ring ≡ ring
      → row_at (matrix_product m n).rows i ≡ row_combination ring n.rows (row_at m.rows i)
  row_at-matrix_product m n i e =
      row_at-map (row_combination m.ring n.rows)
      (ap (λ q. row_combination q n.rows []) e ∙ row_combination-nil n.rows) m.rows i
      ∙ ap (λ q. row_combination q n.rows (row_at m.rows i)) e

  -- associative: the rows of a product are combined as those of its second factor, with combined coefficients
  pub row_combination-matrix_product : (m n : Matrix) (c : List (Term Place)) → m.ring ≡ ring
      → row_combination ring (matrix_product m n).rows c ≡ row_combination ring n.rows (row_combination ring m.rows c)
  row_combination-matrix_product m n c e =
      (λ i. combination (place_cmp ring.weights) place_product ring.modulus (λ k. k.monomial) (λ k. row_at-matrix_product m n k.position e i) c)
      ∙ sym (combination_combination (place_keys ring.weights) (place_keys ring.weights) ring.modulus positive (λ k. k.monomial) (λ k. row_at n.rows k.position) (position_rows ring.weights (row_at n.rows)) (λ k. k.monomial) (λ k. row_at m.rows k.position) c)
