-- The rows of a matrix by their numbers. A matrix is set by its degrees and its entries.
use Rattle.std.proofs.Common.{◌≡◌, refl, ℕ, zero, suc, ◌+◌, ◌<◌, List, [], ◌∷◌, map, length, take, drop, ℤ, ap, arith, subst, sym}
use Rattle.std.specs.List.{AllByRecursion}
use Rattle.sf_algebra.specs.Matrices.{Matrix, row_degrees, IsMatrix}
use Rattle.sf_algebra.specs.MatrixOperations.{row_at}
use Rattle.sf_algebra.specs.Rings.{Ring}
use Rattle.sf_algebra.specs.Terms.{Term, IsDescending}
use Rattle.sf_algebra.specs.Vectors.{Place, Vector, place_cmp, entry, IsVector, IsCanonicalRow}
use Rattle.sf_algebra.proofs.Basics.Lists.{AllByRecursion-weaken}
use Rattle.sf_algebra.proofs.Vectors.Positions.{same_from_entries}
use Rattle.sf_algebra.proofs.Vectors.RowParts.{IsCanonical-row_at}

-- the vectors with other terms of the same degrees
abbrev pub with_terms : (List (Term Place) → List (Term Place)) → List Vector → List Vector
with_terms f vs = map (λ (v : Vector). record { degree = v.degree; terms = f v.terms }) vs

-- all terms stand at the first n positions
abbrev pub StandsWithin : ℕ → List (Term Place) → Type 0
StandsWithin n ts = AllByRecursion (λ t. t.at.position < n) ts

pub row_at-drop : (n : ℕ) (vs : List Vector) (i k : ℕ) → k ≡ n + i → row_at (drop n vs) i ≡ row_at vs k
row_at-drop zero vs i k e = ap (row_at vs) (let same : i ≡ k = omega arith in same)
row_at-drop (suc n) [] i k e = refl
row_at-drop (suc n) (v ∷ vs) i zero e = absurd (omega arith)
row_at-drop (suc n) (v ∷ vs) i (suc k) e = row_at-drop n vs i k (omega arith)

pub row_at-take : (n : ℕ) (vs : List Vector) (i : ℕ) → i < n → row_at (take n vs) i ≡ row_at vs i
row_at-take zero vs i h = absurd (omega arith)
row_at-take (suc n) [] i h = refl
row_at-take (suc n) (v ∷ vs) zero h = refl
row_at-take (suc n) (v ∷ vs) (suc i) h = row_at-take n vs i (omega arith)

-- what holds of the terms of each row, and of no terms, holds of the row at each number
pub row_at-each : (P : List (Term Place) → Type 0) → P [] → (vs : List Vector) → AllByRecursion (λ v. P v.terms) vs
    → (i : ℕ) → P (row_at vs i)
row_at-each P none [] h i = none
row_at-each P none (v ∷ vs) h zero = h.0
row_at-each P none (v ∷ vs) h (suc i) = row_at-each P none vs h.1 i

module _ (ring : Ring) (degrees : List ℤ) (vs : List Vector) (h : AllByRecursion (IsVector ring degrees) vs) where
  pub IsCanonical-matrix_row : (i : ℕ) → IsCanonicalRow ring (row_at vs i)
  IsCanonical-matrix_row = IsCanonical-row_at ring vs (AllByRecursion-weaken _ _ (λ v k. k.canonical) vs h)

  pub IsWithin-matrix_row : (i : ℕ) → StandsWithin (length degrees) (row_at vs i)
  IsWithin-matrix_row i =
      row_at-each (StandsWithin (length degrees)) tt vs
      (AllByRecursion-weaken _ _ (λ v k. AllByRecursion-weaken _ _ (λ t e. e.0) v.terms k.homogeneous) vs h) i

pub same_rows : (us vs : List Vector) → map (λ (v : Vector). v.degree) us ≡ map (λ (v : Vector). v.degree) vs
    → ((i : ℕ) → row_at us i ≡ row_at vs i) → us ≡ vs
same_rows [] [] degrees same = refl
same_rows [] (v ∷ vs) degrees same = cc
same_rows (u ∷ us) [] degrees same = cc
same_rows (u ∷ us) (v ∷ vs) degrees same =
    let first : u.degree ≡ v.degree = cc in
    let others : map (λ (w : Vector). w.degree) us ≡ map (λ (w : Vector). w.degree) vs = cc in
    let rest = same_rows us vs others (λ i. same (suc i)) in
    λ i. record { degree = first i; terms = same zero i } ∷ rest i

-- matrices with equal entries, and equal degrees, are equal
pub same_matrices : (a b : Matrix) → IsMatrix a → IsMatrix b → a.ring ≡ b.ring → a.target ≡ b.target
    → row_degrees a ≡ row_degrees b → ((i j : ℕ) → entry j (row_at a.rows i) ≡ entry j (row_at b.rows i)) → a ≡ b
same_matrices a b h k rings targets degrees same =
    let rows : a.rows ≡ b.rows = same_rows a.rows b.rows degrees (λ i. same_from_entries a.ring.weights _ _
    (IsCanonical-matrix_row a.ring a.target a.rows h i).descending
    (subst (λ (q : Ring). IsDescending (place_cmp q.weights) (row_at b.rows i)) (sym rings) (IsCanonical-matrix_row b.ring b.target b.rows k i).descending)
    (same i)) in
    λ i. record { ring = rings i; target = targets i; rows = rows i }
