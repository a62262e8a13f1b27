-- Bicomplexes of presented modules: the relations of the total complex, and the laws modulo relations. (Weibel, "An
-- Introduction to Homological Algebra", section 1.2.)
use Rattle.std.specs.Prelude.{⊤, List, [], ◌∷◌, drop}
use Rattle.sf_algebra.specs.Matrices.{Matrix}
use Rattle.sf_algebra.specs.MatrixOperations.{matrix_product}
use Rattle.sf_algebra.specs.Rings.{Ring}
use Rattle.sf_blocks.specs.BlockLists.{IsTo}
use Rattle.sf_blocks.specs.DirectSums.{direct_sum, IsZeroModulo}
use Rattle.sf_blocks.specs.MatrixSums.{matrix_sum, zero_matrix}
use Rattle.sf_blocks.specs.TotalDifferentials.{Spot}

-- the relations of modules together: their direct sum
abbrev pub total_relations : Ring → List Matrix → Matrix
total_relations ring [] = zero_matrix ring [] []
total_relations ring (r ∷ rs) = direct_sum r (total_relations ring rs)

-- relations for where dv of each of these spots goes
abbrev pub AreRelationsBelow : Ring → List Spot → List Matrix → Type 0
AreRelationsBelow ring [] [] = ⊤
AreRelationsBelow ring (s ∷ ss) (r ∷ rs) = IsTo ring s.vertical.target r × AreRelationsBelow ring ss rs
AreRelationsBelow ring [] (r ∷ rs) = ⊥
AreRelationsBelow ring (s ∷ ss) [] = ⊥

-- m is zero modulo the first of these relations; where there are none, m leaves the bicomplex
abbrev pub IsZeroModuloFirst : List Matrix → Matrix → Type 0
IsZeroModuloFirst [] m = ⊤
IsZeroModuloFirst (r ∷ rs) m = IsZeroModulo r m

-- the laws of a bicomplex from a spot s, where t is the spot below, the one at the left is the first of the others, and
-- the relations are those where dv of t and of the others go
abbrev pub HasLawsModuloAt : Spot → Spot → List Spot → List Matrix → Type 0
HasLawsModuloAt s t [] rs = IsZeroModuloFirst rs (matrix_product s.vertical t.vertical)
HasLawsModuloAt s t (u ∷ us) rs =
    IsZeroModuloFirst rs (matrix_product s.vertical t.vertical)
    × (IsZeroModuloFirst (drop 1 rs)
    (matrix_sum (matrix_product s.vertical t.horizontal) (matrix_product s.horizontal u.vertical))
    × IsZeroModuloFirst (drop 2 rs) (matrix_product s.horizontal u.horizontal))

-- they hold from each spot of a diagonal
abbrev pub HasBicomplexLawsModulo : List Spot → List Spot → List Matrix → Type 0
HasBicomplexLawsModulo [] ts rs = ⊤
HasBicomplexLawsModulo (s ∷ ss) [] rs = ⊤
HasBicomplexLawsModulo (s ∷ ss) (t ∷ ts) rs = HasLawsModuloAt s t ts rs × HasBicomplexLawsModulo ss ts (drop 1 rs)
