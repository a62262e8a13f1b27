-- What holds of lists of graded matrices side by side and one above another. (Any textbook of linear algebra.)
use Rattle.std.specs.Prelude.{◌≡◌, ◌<◌, List, map, ℤ, neg_ℤ}
use Rattle.sf_algebra.specs.Matrices.{Matrix, row_degrees, IsMatrix}
use Rattle.sf_algebra.specs.MatrixOperations.{matrix_product, transposed}
use Rattle.sf_algebra.specs.Rings.{Ring}
use Rattle.sf_blocks.specs.BlockLists.{side_by_side, all_stacked, sum_of_all, products_of_pairs, IsFrom, AreFromOne, AreToOne, AreComposable, all_targets, all_sources}

-- matrices from one free module are side by side a matrix to all their targets together
abbrev pub HasMatricesSideBySide : Type 0
HasMatricesSideBySide =
    (ring : Ring) (source : List ℤ) (ms : List Matrix) → AreFromOne ring source ms
    → IsFrom ring source (side_by_side ring source ms) × ((side_by_side ring source ms).target ≡ all_targets ms)

-- matrices to one free module are stacked to a matrix from all their sources together
abbrev pub HasStacksOfAll : Type 0
HasStacksOfAll =
    (ring : Ring) (target : List ℤ) (ms : List Matrix) → AreToOne ring target ms
    → IsMatrix (all_stacked ring target ms) × (row_degrees (all_stacked ring target ms) ≡ all_sources ms)

-- matrices side by side times a stack are the sum of the products, one by one
abbrev pub MultipliesBlocksOfLists : Type 0
MultipliesBlocksOfLists =
    (ring : Ring) (source target : List ℤ) (ms ns : List Matrix) → 0 < ring.modulus → AreFromOne ring source ms
    → AreToOne ring target ns → AreComposable ms ns
    → matrix_product (side_by_side ring source ms) (all_stacked ring target ns)
    ≡ sum_of_all ring source target (products_of_pairs ms ns)

-- a matrix times matrices side by side is the products side by side
abbrev pub MultipliesSideBySide : Type 0
MultipliesSideBySide =
    (ring : Ring) (source : List ℤ) (m : Matrix) (ms : List Matrix) → 0 < ring.modulus → IsFrom ring source m
    → AreFromOne ring m.target ms
    → matrix_product m (side_by_side ring m.target ms) ≡ side_by_side ring source (map (matrix_product m) ms)

-- a stack times a matrix is the stack of the products
abbrev pub MultipliesStacksOfAll : Type 0
MultipliesStacksOfAll =
    (ring : Ring) (ms : List Matrix) (n : Matrix) → 0 < ring.modulus → AreToOne ring (row_degrees n) ms
    → matrix_product (all_stacked ring (row_degrees n) ms) n
    ≡ all_stacked ring n.target (map (λ (m : Matrix). matrix_product m n) ms)

-- the transpose of matrices side by side is the stack of the transposes
abbrev pub TransposesSideBySide : Type 0
TransposesSideBySide =
    (ring : Ring) (source : List ℤ) (ms : List Matrix) → AreFromOne ring source ms
    → transposed (side_by_side ring source ms) ≡ all_stacked ring (map neg_ℤ source) (map transposed ms)

-- the transposes of a stack stand side by side
abbrev pub TransposesStacksOfAll : Type 0
TransposesStacksOfAll =
    (ring : Ring) (target : List ℤ) (ms : List Matrix) → AreToOne ring target ms
    → transposed (all_stacked ring target ms) ≡ side_by_side ring (map neg_ℤ target) (map transposed ms)
