-- The product of matrices is a matrix.
use Rattle.std.proofs.Common.{◌≡◌, sym, subst}
use Rattle.std.specs.List.{AllByRecursion}
use Rattle.sf_algebra.specs.Matrices.{Matrix, row_degrees, IsMatrix}
use Rattle.sf_algebra.specs.MatrixOperations.{row_combination, matrix_product, IsComposable}
use Rattle.sf_algebra.specs.Vectors.{Vector, IsVector}
use Rattle.sf_algebra.proofs.Basics.Lists.{AllByRecursion-weaken}
use Rattle.sf_algebra.proofs.GradedMatrices.Stacks.{AllByRecursion-map, degrees-with_terms}
use Rattle.sf_algebra.proofs.Vectors.HomogeneousVectors.{IsVector-row_combination}

pub row_degrees-matrix_product : (a b : Matrix) → row_degrees (matrix_product a b) ≡ row_degrees a
row_degrees-matrix_product a b = degrees-with_terms (row_combination a.ring b.rows) a.rows

pub IsMatrix-matrix_product : (a b : Matrix) → IsComposable a b → IsMatrix a → IsMatrix b
    → IsMatrix (matrix_product a b)
IsMatrix-matrix_product a b c h k =
    let rows : AllByRecursion (IsVector a.ring b.target) b.rows =
    subst (λ ring. AllByRecursion (IsVector ring b.target) b.rows) (sym c.rings) k in
    AllByRecursion-map (IsVector a.ring b.target)
    (λ (v : Vector). record { degree = v.degree; terms = row_combination a.ring b.rows v.terms }) a.rows
    (AllByRecursion-weaken _ _
    (λ v e. IsVector-row_combination (record { ring = a.ring; target = b.target; rows = b.rows }) c.positive rows v (subst (λ ds. IsVector a.ring ds v) (sym c.degrees) e))
    a.rows h)
