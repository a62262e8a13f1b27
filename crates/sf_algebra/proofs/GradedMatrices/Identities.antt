-- The identity: its rows are the unit vectors.
use Rattle.std.proofs.Common.{◌≡◌, refl, ℕ, suc, ◌+◌, ◌<◌, List, [], ◌∷◌, ◌++◌, map, length, ℤ, pos, sym, ap, subst, arith, append_assoc}
use Rattle.std.specs.List.{AllByRecursion}
use Rattle.std.proofs.lemmas.List.{get_or_at}
use Rattle.std.proofs.Math.ListN.{length-append}
use Rattle.sf_algebra.specs.Matrices.{row_degrees, IsMatrix}
use Rattle.sf_algebra.specs.MatrixOperations.{unit_vector, unit_rows, identity}
use Rattle.sf_algebra.specs.Rings.{Ring}
use Rattle.sf_algebra.specs.Vectors.{Vector, IsVector}
use Rattle.sf_algebra.proofs.Vectors.HomogeneousVectors.{IsVector-unit_vector}

-- the degrees of the unit vectors
pub degrees-unit_rows : (i : ℕ) (ds : List ℤ) → map (λ (v : Vector). v.degree) (unit_rows i ds) ≡ ds
degrees-unit_rows i [] = refl
degrees-unit_rows i (d ∷ ds) = ap (λ es. d ∷ es) (degrees-unit_rows (suc i) ds)

pub length-unit_rows : (i : ℕ) (ds : List ℤ) → length (unit_rows i ds) ≡ length ds
length-unit_rows i [] = refl
length-unit_rows i (d ∷ ds) = ap suc (length-unit_rows (suc i) ds)

pub unit_rows-append : (i : ℕ) (ds es : List ℤ) (n : ℕ) → n ≡ i + length ds
    → unit_rows i (ds ++ es) ≡ unit_rows i ds ++ unit_rows n es
unit_rows-append i [] es n e = ap (λ m. unit_rows m es) (let same : i ≡ n = omega arith in same)
unit_rows-append i (d ∷ ds) es n e = ap (λ vs. unit_vector d i ∷ vs) (unit_rows-append (suc i) ds es n (omega arith))

-- one more unit vector
pub unit_rows-push : (i : ℕ) (ds : List ℤ) (d : ℤ) (n : ℕ) → n ≡ i + length ds
    → unit_rows i (ds ++ d ∷ []) ≡ unit_rows i ds ++ unit_vector d n ∷ []
unit_rows-push i ds d n e = unit_rows-append i ds (d ∷ []) n e

module _ (ring : Ring) (above : 1 < ring.modulus) where
  IsVector-unit_rows : (front ds : List ℤ) (i : ℕ) → i ≡ length front
      → AllByRecursion (IsVector ring (front ++ ds)) (unit_rows i ds)
  IsVector-unit_rows front [] i e = tt
  IsVector-unit_rows front (d ∷ ds) i e =
      let inside : i < length (front ++ d ∷ ds) = rw length-append (omega arith) in
      let size : suc i ≡ length (front ++ d ∷ []) = rw length-append (omega arith) in (
        subst (λ c. IsVector ring (front ++ d ∷ ds) (unit_vector c i)) (get_or_at front d ds (pos 0) i (sym e))
            (IsVector-unit_vector ring (front ++ d ∷ ds) above i inside),
        subst (λ all. AllByRecursion (IsVector ring all) (unit_rows (suc i) ds)) (append_assoc front (d ∷ []) ds)
            (IsVector-unit_rows (front ++ d ∷ []) ds (suc i) size),
      )

  pub IsMatrix-identity : (ds : List ℤ) → IsMatrix (identity ring ds)
  IsMatrix-identity ds = IsVector-unit_rows [] ds 0 refl

pub row_degrees-identity : (ring : Ring) (ds : List ℤ) → row_degrees (identity ring ds) ≡ ds
row_degrees-identity ring ds = degrees-unit_rows 0 ds
