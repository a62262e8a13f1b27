-- The differential of the total complex of a bicomplex of free modules, whose vertical and horizontal maps anticommute.
-- (Weibel, "An Introduction to Homological Algebra", section 1.2.)
use Rattle.std.specs.Prelude.{◌≡◌, ⊤, List, [], ◌∷◌, ℤ, length, drop}
use Rattle.std.specs.List.{flat_map}
use Rattle.sf_algebra.specs.Matrices.{Matrix, row_degrees, IsMatrix}
use Rattle.sf_algebra.specs.MatrixOperations.{matrix_product}
use Rattle.sf_algebra.specs.Rings.{Ring}
use Rattle.sf_blocks.specs.MatrixSums.{matrix_sum, zero_matrix, IsZeroMatrix}
use Rattle.sf_blocks.specs.SideBySide.{AreBeside, beside, blocks}

-- the maps from one free module of a bicomplex, that in column p and row q: dv to column p and row q - 1, and dh to
-- column p - 1 and row q
pub record Spot : Type 0 where
  pub vertical : Matrix
  pub horizontal : Matrix

-- the free modules of some spots one after another, and those below them
abbrev pub total_source : List Spot → List ℤ
total_source ss = flat_map (λ (s : Spot). row_degrees s.vertical) ss

abbrev pub total_target : List Spot → List ℤ
total_target ss = flat_map (λ (s : Spot). s.vertical.target) ss

-- where dv of the first spot goes; nowhere where there is no spot
abbrev pub first_target : List Spot → List ℤ
first_target [] = []
first_target (s ∷ ss) = s.vertical.target

-- dv and dh are matrices from one free module over the ring, and dh goes to `left`
pub record IsSpot (ring : Ring) (left : List ℤ) (s : Spot) : Type 0 where
  pub ring_of : s.vertical.ring ≡ ring
  pub together : AreBeside s.vertical s.horizontal
  pub left_of : s.horizontal.target ≡ left
  pub vertical : IsMatrix s.vertical
  pub horizontal : IsMatrix s.horizontal

-- the spots of one diagonal, by descending column: dh of each goes where dv of the next goes, and that of the last
-- leaves the bicomplex
abbrev pub AreDiagonal : Ring → List Spot → Type 0
AreDiagonal ring [] = ⊤
AreDiagonal ring (s ∷ ss) = IsSpot ring (first_target ss) s × AreDiagonal ring ss

-- m with zeros behind it, up to the degrees of the target
abbrev pub widened : List ℤ → Matrix → Matrix
widened target m = beside m (zero_matrix m.ring (row_degrees m) (drop (length m.target) target))

-- d = dv + dh: for each spot the rows (dv, dh), those of the next one column further right, and zeros elsewhere
abbrev pub total_differential : Ring → List Spot → Matrix
total_differential ring [] = zero_matrix ring [] []
total_differential ring (s ∷ ss) =
    blocks s.vertical (widened (total_target ss) s.horizontal)
    (zero_matrix ring (total_source ss) s.vertical.target) (total_differential ring ss)

-- the spots of the second diagonal are those below the spots of the first
abbrev pub AreSpotsBelow : List Spot → List Spot → Type 0
AreSpotsBelow [] [] = ⊤
AreSpotsBelow (s ∷ ss) (t ∷ ts) = (row_degrees t.vertical ≡ s.vertical.target) × AreSpotsBelow ss ts
AreSpotsBelow [] (t ∷ ts) = ⊥
AreSpotsBelow (s ∷ ss) [] = ⊥

-- the laws of a bicomplex from a spot s, where t is the spot below, and the one at the left the first of the others:
-- dv dv = 0, dv dh + dh dv = 0 and dh dh = 0
abbrev pub HasLawsAt : Spot → Spot → List Spot → Type 0
HasLawsAt s t [] = IsZeroMatrix (matrix_product s.vertical t.vertical)
HasLawsAt s t (u ∷ us) =
    IsZeroMatrix (matrix_product s.vertical t.vertical)
    × (IsZeroMatrix (matrix_sum (matrix_product s.vertical t.horizontal) (matrix_product s.horizontal u.vertical))
    × IsZeroMatrix (matrix_product s.horizontal u.horizontal))

-- they hold from each spot of a diagonal
abbrev pub HasBicomplexLaws : List Spot → List Spot → Type 0
HasBicomplexLaws [] ts = ⊤
HasBicomplexLaws (s ∷ ss) [] = ⊤
HasBicomplexLaws (s ∷ ss) (t ∷ ts) = HasLawsAt s t ts × HasBicomplexLaws ss ts
