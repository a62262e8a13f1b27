-- Lists of graded matrices, side by side, one above another, and added. (Any textbook of linear algebra.)
use Rattle.std.specs.Prelude.{◌≡◌, ⊤, List, [], ◌∷◌, ℤ}
use Rattle.std.specs.List.{AllByRecursion, flat_map}
use Rattle.sf_algebra.specs.Matrices.{Matrix, row_degrees, IsMatrix}
use Rattle.sf_algebra.specs.MatrixOperations.{matrix_product, stacked, IsComposable}
use Rattle.sf_algebra.specs.Rings.{Ring}
use Rattle.sf_blocks.specs.MatrixSums.{matrix_sum, zero_matrix}
use Rattle.sf_blocks.specs.SideBySide.{beside}

-- the matrices side by side, from one free module
abbrev pub side_by_side : Ring → List ℤ → List Matrix → Matrix
side_by_side ring source [] = zero_matrix ring source []
side_by_side ring source (m ∷ ms) = beside m (side_by_side ring source ms)

-- the matrices one above another, to one free module
abbrev pub all_stacked : Ring → List ℤ → List Matrix → Matrix
all_stacked ring target [] = zero_matrix ring [] target
all_stacked ring target (m ∷ ms) = stacked m (all_stacked ring target ms)

-- the sum of matrices between two free modules
abbrev pub sum_of_all : Ring → List ℤ → List ℤ → List Matrix → Matrix
sum_of_all ring source target [] = zero_matrix ring source target
sum_of_all ring source target (m ∷ ms) = matrix_sum m (sum_of_all ring source target ms)

-- each matrix of the first list times that at its position in the second
abbrev pub products_of_pairs : List Matrix → List Matrix → List Matrix
products_of_pairs [] ns = []
products_of_pairs (a ∷ ms) [] = []
products_of_pairs (a ∷ ms) (b ∷ ns) = matrix_product a b ∷ products_of_pairs ms ns

-- m is a matrix over the ring from this free module
pub record IsFrom (ring : Ring) (source : List ℤ) (m : Matrix) : Type 0 where
  pub ring_of : m.ring ≡ ring
  pub source_of : row_degrees m ≡ source
  pub matrix : IsMatrix m

-- m is a matrix over the ring to this free module
pub record IsTo (ring : Ring) (target : List ℤ) (m : Matrix) : Type 0 where
  pub ring_of : m.ring ≡ ring
  pub target_of : m.target ≡ target
  pub matrix : IsMatrix m

abbrev pub AreFromOne : Ring → List ℤ → List Matrix → Type 0
AreFromOne ring source ms = AllByRecursion (IsFrom ring source) ms

abbrev pub AreToOne : Ring → List ℤ → List Matrix → Type 0
AreToOne ring target ms = AllByRecursion (IsTo ring target) ms

-- the lists are of one length, and the matrices at each position compose
abbrev pub AreComposable : List Matrix → List Matrix → Type 0
AreComposable [] [] = ⊤
AreComposable (a ∷ ms) (b ∷ ns) = IsComposable a b × AreComposable ms ns
AreComposable [] (b ∷ ns) = ⊥
AreComposable (a ∷ ms) [] = ⊥

-- the free modules to which the matrices go one after another, and those from which they go
abbrev pub all_targets : List Matrix → List ℤ
all_targets ms = flat_map (λ (m : Matrix). m.target) ms

abbrev pub all_sources : List Matrix → List ℤ
all_sources ms = flat_map (λ (m : Matrix). row_degrees m) ms
