-- The Kronecker product: its shape, its rows, and that it respects products.
use Rattle.std.proofs.Common.{◌≡◌, refl, ℕ, zero, suc, ◌+◌, ◌*◌, ◌<◌, List, [], ◌∷◌, ◌++◌, map, length, ℤ, ◌+ℤ◌, sym, ap, ◌∙◌, subst, arith, suc-mul, zero-mul}
use Rattle.std.specs.List.{AllByRecursion, flat_map}
use Rattle.std.proofs.lemmas.List.{length-map, map-append}
use Rattle.sf_algebra.specs.Matrices.{Matrix, row_degrees, IsMatrix}
use Rattle.sf_algebra.specs.MatrixOperations.{row_at, kronecker_terms, degree_sums, kronecker}
use Rattle.sf_algebra.specs.Rings.{Ring}
use Rattle.sf_algebra.specs.Terms.{Term}
use Rattle.sf_algebra.specs.Vectors.{Place, Vector, IsVector}
use Rattle.sf_algebra.proofs.Basics.Lists.{AllByRecursion-append, AllByRecursion-weaken}
use Rattle.sf_algebra.proofs.GradedMatrices.Stacks.{AllByRecursion-map}
use Rattle.sf_algebra.proofs.Tensors.KroneckerTerms.{kronecker_terms-nil, kronecker_terms-nil_first}
use Rattle.sf_algebra.proofs.Tensors.KroneckerVectors.{IsVector-kronecker_terms}
use Rattle.sf_algebra.proofs.Vectors.Rows.{row_at-append_first, row_at-append_second}

-- the vectors with other terms and degrees
abbrev changed : (ℤ → ℤ) → (List (Term Place) → List (Term Place)) → List Vector → List Vector
changed d f vs = map (λ (v : Vector). record { degree = d v.degree; terms = f v.terms }) vs

-- the rows that one row of the first matrix gives
abbrev pub kronecker_row : Ring → ℕ → Vector → List Vector → List Vector
kronecker_row ring n v rows = changed (λ e. v.degree +ℤ e) (kronecker_terms ring n v.terms) rows

pub length-kronecker_row : (ring : Ring) (n : ℕ) (v : Vector) (rows : List Vector)
    → length (kronecker_row ring n v rows) ≡ length rows
length-kronecker_row ring n v rows =
    length-map rows (λ (w : Vector). record { degree = v.degree +ℤ w.degree; terms = kronecker_terms ring n v.terms w.terms })

row_at-changed : (d : ℤ → ℤ) (f : List (Term Place) → List (Term Place)) → f [] ≡ [] → (vs : List Vector) (i : ℕ)
    → row_at (changed d f vs) i ≡ f (row_at vs i)
row_at-changed d f none [] i = sym none
row_at-changed d f none (v ∷ vs) zero = refl
row_at-changed d f none (v ∷ vs) (suc i) = row_at-changed d f none vs i

module _ (ring : Ring) (n : ℕ) (positive : 0 < ring.modulus) where
  -- the pair of row i of the first and row k of the second stands at the pair's number
  pub row_at-kronecker_rows : (us vs : List Vector) (i k m : ℕ) → k < length vs → m ≡ i * length vs + k
      → row_at (flat_map (λ (u : Vector). kronecker_row ring n u vs) us) m
      ≡ kronecker_terms ring n (row_at us i) (row_at vs k)
  row_at-kronecker_rows [] vs i k m h e = sym (kronecker_terms-nil_first ring n positive (row_at vs k))
  row_at-kronecker_rows (u ∷ us) vs zero k m h e =
      let size : length (kronecker_row ring n u vs) ≡ length vs = length-kronecker_row ring n u vs in
      let same : m ≡ k = omega (arith, zero-mul (length vs)) in
      ap (row_at (flat_map (λ (u : Vector). kronecker_row ring n u vs) (u ∷ us))) same
      ∙ row_at-append_first (kronecker_row ring n u vs) _ k (omega arith)
      ∙ row_at-changed (λ e. u.degree +ℤ e) (kronecker_terms ring n u.terms)
      (kronecker_terms-nil ring n positive u.terms) vs k
  row_at-kronecker_rows (u ∷ us) vs (suc i) k m h e =
      let size : length (kronecker_row ring n u vs) ≡ length vs = length-kronecker_row ring n u vs in
      let next : m ≡ length (kronecker_row ring n u vs) + (i * length vs + k) = omega (arith, suc-mul i (length vs)) in
      ap (row_at (flat_map (λ (u : Vector). kronecker_row ring n u vs) (u ∷ us))) next
      ∙ row_at-append_second (kronecker_row ring n u vs) _ (i * length vs + k)
      ∙ row_at-kronecker_rows us vs i k (i * length vs + k) h refl

pub row_at-kronecker : (a b : Matrix) → 0 < a.ring.modulus → (i k : ℕ) → k < length b.rows
    → row_at (kronecker a b).rows (i * length b.rows + k)
    ≡ kronecker_terms a.ring (length b.target) (row_at a.rows i) (row_at b.rows k)
row_at-kronecker a b positive i k h = row_at-kronecker_rows a.ring (length b.target) positive a.rows b.rows i k _ h refl

degrees-changed : (d : ℤ → ℤ) (f : List (Term Place) → List (Term Place)) (vs : List Vector)
    → map (λ (v : Vector). v.degree) (changed d f vs) ≡ map d (map (λ (v : Vector). v.degree) vs)
degrees-changed d f [] = refl
degrees-changed d f (v ∷ vs) = ap (λ es. d v.degree ∷ es) (degrees-changed d f vs)

degrees-kronecker_rows : (ring : Ring) (n : ℕ) (us vs : List Vector)
    → map (λ (v : Vector). v.degree) (flat_map (λ (u : Vector). kronecker_row ring n u vs) us)
    ≡ degree_sums (map (λ (v : Vector). v.degree) us) (map (λ (v : Vector). v.degree) vs)
degrees-kronecker_rows ring n [] vs = refl
degrees-kronecker_rows ring n (u ∷ us) vs =
    map-append (λ (v : Vector). v.degree) (kronecker_row ring n u vs)
    (flat_map (λ (u : Vector). kronecker_row ring n u vs) us)
    ∙ (λ i. degrees-changed (λ e. u.degree +ℤ e) (kronecker_terms ring n u.terms) vs i ++ degrees-kronecker_rows ring n us vs i)

pub row_degrees-kronecker : (a b : Matrix) → row_degrees (kronecker a b) ≡ degree_sums (row_degrees a) (row_degrees b)
row_degrees-kronecker a b = degrees-kronecker_rows a.ring (length b.target) a.rows b.rows

pub AllByRecursion-flat_map : {X Y : Type 0} (P : Y → Type 0) (f : X → List Y) (xs : List X)
    → AllByRecursion (λ x. AllByRecursion P (f x)) xs → AllByRecursion P (flat_map f xs)
AllByRecursion-flat_map P f [] h = tt
AllByRecursion-flat_map P f (x ∷ xs) h =
    AllByRecursion-append P (f x) (flat_map f xs) h.0 (AllByRecursion-flat_map P f xs h.1)

pub IsMatrix-kronecker : (a b : Matrix) → 0 < a.ring.modulus → a.ring ≡ b.ring → IsMatrix a → IsMatrix b
    → IsMatrix (kronecker a b)
IsMatrix-kronecker a b positive rings h k =
    let rows : AllByRecursion (IsVector a.ring b.target) b.rows =
    subst (λ ring. AllByRecursion (IsVector ring b.target) b.rows) (sym rings) k in
    AllByRecursion-flat_map _ (λ (v : Vector). kronecker_row a.ring (length b.target) v b.rows) a.rows
    (AllByRecursion-weaken _ _
    (λ v e. AllByRecursion-map _ (λ (w : Vector). record { degree = v.degree +ℤ w.degree; terms = kronecker_terms a.ring (length b.target) v.terms w.terms }) b.rows
    (AllByRecursion-weaken _ _ (λ w f. IsVector-kronecker_terms a.ring positive a.target b.target v w e f) b.rows rows))
    a.rows h)
