-- A difference, added to what was taken away.
use Rattle.std.proofs.Common.{◌≡◌, ◌<◌, sym, ◌∙◌, ap, refl, subst}
use Rattle.sf_algebra.specs.Matrices.{Matrix, row_degrees, IsMatrix}
use Rattle.sf_algebra.specs.MatrixOperations.{negated}
use Rattle.sf_algebra.specs.Rings.{Ring}
use Rattle.sf_algebra.proofs.GradedMatrices.NegatedMatrices.{row_degrees-negated}
use Rattle.sf_blocks.specs.MatrixSums.{AreParallel, matrix_sum, IsZeroMatrix}
use Rattle.sf_blocks.proofs.MatrixSums.SumGroups.{AreParallel-matrix_sum, AreParallel-sym, AreParallel-trans, matrix_sum-assoc, matrix_sum-comm, matrix_sum-negated}
use Rattle.sf_blocks.proofs.TwoByTwo.ZeroParts.{IsZeroMatrix-zero_matrix, matrix_sum-zero_first}

pub AreParallel-negated : (a : Matrix) → AreParallel a (negated a)
AreParallel-negated a = record { rings = refl; targets = refl; degrees = sym (row_degrees-negated a) }

-- a + (b - a) = b
pub sum-difference : (a b : Matrix) → 0 < a.ring.modulus → IsMatrix a → IsMatrix b → AreParallel a b
    → matrix_sum a (matrix_sum b (negated a)) ≡ b
sum-difference a b positive ma mb h =
    let positive_there : 0 < b.ring.modulus = subst (λ (q : Ring). 0 < q.modulus) h.rings positive in
    let n = AreParallel-negated a in
    let back = AreParallel-trans b a (negated a) (AreParallel-sym a b h) n in
    let gone = matrix_sum a (negated a) in
    let zeros : IsZeroMatrix gone =
    subst IsZeroMatrix (sym (matrix_sum-negated a positive ma))
    (IsZeroMatrix-zero_matrix a.ring (row_degrees a) a.target) in
    ap (matrix_sum a) (matrix_sum-comm b (negated a) back positive_there)
    ∙ sym (matrix_sum-assoc a (negated a) b positive n (AreParallel-sym b (negated a) back))
    ∙ matrix_sum-zero_first gone b (AreParallel-trans gone a b (AreParallel-matrix_sum a (negated a) n) h) positive mb
    zeros
