-- Tensor products of rows of matrices stand within bounds.
use Rattle.std.proofs.Common.{ℕ, ◌*◌, ◌<◌, ◌≤◌, List, length, map, ℤ, ◌+ℤ◌, arith}
use Rattle.std.proofs.Math.Nat.{mul-le-mul_right}
use Rattle.std.specs.List.{AllByRecursion}
use Rattle.sf_algebra.specs.Rings.{Ring}
use Rattle.sf_algebra.specs.Vectors.{Vector, IsVector}
use Rattle.sf_algebra.proofs.Basics.Lists.{AllByRecursion-weaken}
use Rattle.sf_algebra.proofs.Tensors.KroneckerVectors.{pair_below}
use Rattle.sf_matrix.specs.Bounds.{IsDegree, SumsFit, PositionsFit}
use Rattle.sf_matrix.proofs.Pieces.{AllByRecursion-unmap}

-- the first position of what a term gives
first_below : (i m n bound : ℕ) → i < m → m * n < bound → i * n < bound
first_below i m n bound first size =
    let rows : i * n ≤ m * n = mul-le-mul_right n (omega arith) in
    omega arith

-- the positions of the tensor product of two rows
pub PositionsFit-vectors : (ring : Ring) (ds es : List ℤ) (v w : Vector) → length ds * length es < 18446744073709551616
    → IsVector ring ds v → IsVector ring es w → PositionsFit (length es) v.terms w.terms
PositionsFit-vectors ring ds es v w size h k =
    AllByRecursion-weaken _ _
    (λ t e. (
      first_below t.at.position (length ds) (length es) _ e.0 size,
      AllByRecursion-weaken _ _
          (λ u f. omega (arith, pair_below t.at.position u.at.position (length ds) (length es) e.0 f.0, size)) w.terms k.homogeneous,
    )
    )
    v.terms h.homogeneous

-- sums of the degrees of rows, row by row
pub SumsFit-rows : (rows others : List Vector)
    → SumsFit (map (λ (v : Vector). v.degree) rows) (map (λ (v : Vector). v.degree) others)
    → AllByRecursion (λ (v : Vector). AllByRecursion (λ (w : Vector). IsDegree (v.degree +ℤ w.degree)) others) rows
SumsFit-rows rows others h =
    AllByRecursion-weaken _ _ (λ v e. AllByRecursion-unmap _ (λ (w : Vector). w.degree) others e) rows
    (AllByRecursion-unmap _ (λ (v : Vector). v.degree) rows h)
