-- What holds of total differentials. (Weibel, "An Introduction to Homological Algebra", section 1.2.)
use Rattle.std.specs.Prelude.{◌≡◌, ◌↔◌, ◌<◌, List}
use Rattle.sf_algebra.specs.Matrices.{Matrix, row_degrees, IsMatrix}
use Rattle.sf_algebra.specs.MatrixOperations.{matrix_product}
use Rattle.sf_algebra.specs.Rings.{Ring, IsRing}
use Rattle.sf_blocks.specs.BlockLists.{IsTo}
use Rattle.sf_blocks.specs.DirectSums.{IsZeroModulo}
use Rattle.sf_blocks.specs.MatrixSums.{IsZeroMatrix}
use Rattle.sf_blocks.specs.TotalDifferentials.{Spot, AreDiagonal, AreSpotsBelow, HasBicomplexLaws, total_source, total_target, total_differential}
use Rattle.sf_blocks.specs.TotalRelations.{total_relations, AreRelationsBelow, HasBicomplexLawsModulo}

-- a total differential is a matrix from the free modules of a diagonal together to those below them together
abbrev pub HasTotalDifferentials : Type 0
HasTotalDifferentials =
    (ring : Ring) (ss : List Spot) → AreDiagonal ring ss
    → IsMatrix (total_differential ring ss)
    × (row_degrees (total_differential ring ss) ≡ total_source ss)
    × ((total_differential ring ss).target ≡ total_target ss)

-- two of them, one after the other, are zero exactly where the laws of a bicomplex hold
abbrev pub SquaresToZero : Type 0
SquaresToZero =
    (ring : Ring) (ss ts : List Spot) → 0 < ring.modulus → AreDiagonal ring ss → AreDiagonal ring ts → AreSpotsBelow ss ts
    → IsZeroMatrix (matrix_product (total_differential ring ss) (total_differential ring ts)) ↔ HasBicomplexLaws ss ts

-- the relations of the modules of a diagonal together are a matrix to their free modules together
abbrev pub HasTotalRelations : Type 0
HasTotalRelations =
    (ring : Ring) (ss : List Spot) (rs : List Matrix) → AreRelationsBelow ring ss rs
    → IsTo ring (total_target ss) (total_relations ring rs)

-- two total differentials, one after the other, are zero modulo these exactly where the laws of a bicomplex hold modulo
-- the relations of each module
abbrev pub SquaresToZeroModulo : Type 0
SquaresToZeroModulo =
    (ring : Ring) (ss ts : List Spot) (rs : List Matrix) → IsRing ring → AreDiagonal ring ss → AreDiagonal ring ts
    → AreSpotsBelow ss ts → AreRelationsBelow ring ts rs
    → IsZeroModulo (total_relations ring rs) (matrix_product (total_differential ring ss) (total_differential ring ts))
    ↔ HasBicomplexLawsModulo ss ts rs
