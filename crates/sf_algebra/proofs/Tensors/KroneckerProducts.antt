-- The Kronecker product of two products is the product of two Kronecker products.
use Rattle.std.proofs.Common.{◌≡◌, refl, ℕ, ◌+◌, ◌*◌, ◌<◌, List, [], ◌∷◌, ◌++◌, length, ◌+ℤ◌, sym, ap, ◌∙◌, subst}
use Rattle.std.specs.List.{AllByRecursion, flat_map}
use Rattle.std.proofs.lemmas.List.{length-map, map-append}
use Rattle.sf_algebra.specs.Matrices.{Matrix, IsMatrix}
use Rattle.sf_algebra.specs.MatrixOperations.{row_at, row_combination, matrix_product, moved, kronecker_terms, degree_sums, kronecker, IsComposable}
use Rattle.sf_algebra.specs.Multiples.{place_product, combination}
use Rattle.sf_algebra.specs.Rings.{Ring}
use Rattle.sf_algebra.specs.Terms.{Term}
use Rattle.sf_algebra.specs.Vectors.{Place, Vector, place_cmp}
use Rattle.sf_algebra.proofs.Basics.Lists.{AllByRecursion-weaken}
use Rattle.sf_algebra.proofs.GradedMatrices.Columns.{AllByRecursion-always}
use Rattle.sf_algebra.proofs.GradedMatrices.MatrixRows.{StandsWithin, with_terms}
use Rattle.sf_algebra.proofs.Multiplying.Associativity.{combination_combination}
use Rattle.sf_algebra.proofs.Multiplying.CombinationLaws.{combination-same, combination-rows}
use Rattle.sf_algebra.proofs.Multiplying.Combinations.{IsCanonical-combination, total-combination}
use Rattle.sf_algebra.proofs.Multiplying.Keys.{place_keys}
use Rattle.sf_algebra.proofs.Tensors.Kronecker.{kronecker_row, row_at-kronecker_rows}
use Rattle.sf_algebra.proofs.Tensors.KroneckerTerms.{kronecker_terms-combination, kronecker_terms-combination_first, moved_term}
use Rattle.sf_algebra.proofs.Terms.DoubleTotals.{total-map}
use Rattle.sf_algebra.proofs.Vectors.Rows.{position_rows}

-- the rows of the Kronecker product of two matrices, the second of which has n columns
abbrev pub kronecker_rows : Ring → ℕ → List Vector → List Vector → List Vector
kronecker_rows ring n us vs = flat_map (λ (u : Vector). kronecker_row ring n u vs) us

module _ (ring : Ring) (positive : 0 < ring.modulus) where
  -- coefficients that are moved stand for rows further on
  pub row_combination-moved : (rows : List Vector) (by : ℕ) (c : List (Term Place))
      → row_combination ring rows (moved by c)
      ≡ combination (place_cmp ring.weights) place_product ring.modulus (λ k. k.monomial)
      (λ k. row_at rows (by + k.position)) c
  row_combination-moved rows by c =
      combination-same (place_keys ring.weights) ring.modulus positive (λ k. k.monomial) (λ k. row_at rows k.position)
      (moved by c) _
      (IsCanonical-combination (place_keys ring.weights) ring.modulus (λ k. k.monomial) (λ k. row_at rows (by + k.position)) positive c)
      (λ g additive. total-map ring.modulus _ (moved_term by) c ∙ sym (total-combination (place_keys ring.weights) ring.modulus (λ k. k.monomial) (λ k. row_at rows (by + k.position)) g additive c))

  -- the tensor product of two combinations combines the Kronecker product's rows
  pub kronecker_terms-row_combinations : (n : ℕ) (us vs : List Vector) (v w : List (Term Place))
      → StandsWithin (length vs) w
      → kronecker_terms ring n (row_combination ring us v) (row_combination ring vs w)
      ≡ row_combination ring (kronecker_rows ring n us vs) (kronecker_terms ring (length vs) v w)
  kronecker_terms-row_combinations n us vs v w within =
      kronecker_terms-combination_first ring n positive (λ k. k.monomial) (λ k. row_at us k.position) v
      (row_combination ring vs w)
      ∙ (λ i. combination (place_cmp ring.weights) place_product ring.modulus (λ (k : Place). k.monomial) (λ (k : Place). pairs k i) v)
      ∙ sym (combination_combination (place_keys ring.weights) (place_keys ring.weights) ring.modulus positive (λ k. k.monomial) (λ k. row_at (kronecker_rows ring n us vs) k.position) (position_rows ring.weights (row_at (kronecker_rows ring n us vs))) (λ k. k.monomial) (λ k. moved (k.position * length vs) w) v)
    where
      pairs : (k : Place) → kronecker_terms ring n (row_at us k.position) (row_combination ring vs w)
          ≡ row_combination ring (kronecker_rows ring n us vs) (moved (k.position * length vs) w)
      pairs k =
          kronecker_terms-combination ring n positive (λ l. l.monomial) (λ l. row_at vs l.position) w
          (row_at us k.position)
          ∙ combination-rows (place_keys ring.weights) ring.modulus positive (λ l. l.monomial)
          (λ l. kronecker_terms ring n (row_at us k.position) (row_at vs l.position))
          (λ l. row_at (kronecker_rows ring n us vs) (k.position * length vs + l.position)) w
          (AllByRecursion-weaken _ _ (λ t h. sym (row_at-kronecker_rows ring n positive us vs k.position t.at.position (k.position * length vs + t.at.position) h refl)) w within)
          ∙ sym (row_combination-moved (kronecker_rows ring n us vs) (k.position * length vs) w)

-- rows that are changed one by one have the Kronecker product's rows changed, where tensor products change so
kronecker_row-with_terms : (ring : Ring) (n m : ℕ) (f g h : List (Term Place) → List (Term Place)) (u : Vector)
    (vs : List Vector)
    → AllByRecursion (λ v. kronecker_terms ring n (f u.terms) (g v.terms) ≡ h (kronecker_terms ring m u.terms v.terms))
    vs
    → kronecker_row ring n (record { degree = u.degree; terms = f u.terms }) (with_terms g vs)
    ≡ with_terms h (kronecker_row ring m u vs)
kronecker_row-with_terms ring n m f g h u [] same = refl
kronecker_row-with_terms ring n m f g h u (v ∷ vs) same = λ i. record { degree = u.degree +ℤ v.degree; terms = same.0 i } ∷ kronecker_row-with_terms ring n m f g h u vs same.1 i

pub kronecker_rows-with_terms : (ring : Ring) (n m : ℕ) (f g h : List (Term Place) → List (Term Place))
    (us vs : List Vector)
    → AllByRecursion (λ u. AllByRecursion
    (λ v. kronecker_terms ring n (f u.terms) (g v.terms) ≡ h (kronecker_terms ring m u.terms v.terms)) vs) us
    → kronecker_rows ring n (with_terms f us) (with_terms g vs) ≡ with_terms h (kronecker_rows ring m us vs)
kronecker_rows-with_terms ring n m f g h [] vs same = refl
kronecker_rows-with_terms ring n m f g h (u ∷ us) vs same =
    (λ i. kronecker_row-with_terms ring n m f g h u vs same.0 i ++ kronecker_rows-with_terms ring n m f g h us vs same.1 i)
    ∙ sym (map-append (λ (v : Vector). record { degree = v.degree; terms = h v.terms }) (kronecker_row ring m u vs) (kronecker_rows ring m us vs))

pub kronecker-matrix_product : (a b c d : Matrix) → IsComposable a b → IsComposable c d → a.ring ≡ c.ring → IsMatrix c
    → kronecker (matrix_product a b) (matrix_product c d) ≡ matrix_product (kronecker a c) (kronecker b d)
kronecker-matrix_product a b c d ab cd rings is_matrix =
    let ring = a.ring in
    let n = length d.target in
    let rows = ap (λ q. kronecker_rows ring n (with_terms (row_combination ring b.rows) a.rows) (with_terms (row_combination q d.rows) c.rows)) (sym rings)
    ∙ kronecker_rows-with_terms ring n (length c.target) (row_combination ring b.rows) (row_combination ring d.rows)
    (row_combination ring (kronecker_rows ring n b.rows d.rows)) a.rows c.rows
    (AllByRecursion-always _ (λ u. AllByRecursion-weaken _ _ (λ v k. row u.terms v.terms (AllByRecursion-weaken _ _ (λ t e. e.0) v.terms k.homogeneous)) c.rows is_matrix) a.rows)
    ∙ ap (λ q. with_terms (row_combination ring (kronecker_rows q n b.rows d.rows)) (kronecker_rows ring (length c.target) a.rows c.rows)) ab.rings in
    λ i. record { ring = ring; target = degree_sums b.target d.target; rows = rows i }
  where
    size : length d.rows ≡ length c.target
    size = sym (length-map d.rows (λ (v : Vector). v.degree)) ∙ ap length cd.degrees

    row : (u v : List (Term Place)) → StandsWithin (length c.target) v
        → kronecker_terms a.ring (length d.target) (row_combination a.ring b.rows u) (row_combination a.ring d.rows v)
        ≡ row_combination a.ring (kronecker_rows a.ring (length d.target) b.rows d.rows)
        (kronecker_terms a.ring (length c.target) u v)
    row u v within =
        kronecker_terms-row_combinations a.ring ab.positive (length d.target) b.rows d.rows u v
        (subst (λ k. StandsWithin k v) (sym size) within)
        ∙ ap (λ k. row_combination a.ring (kronecker_rows a.ring (length d.target) b.rows d.rows) (kronecker_terms a.ring k u v)) size
