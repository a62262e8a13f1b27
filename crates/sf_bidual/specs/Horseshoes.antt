-- Horseshoes: of resolutions of a module and of a quotient by it, one of the module over both. (Weibel, "An Introduction
-- to Homological Algebra", 2.2.8; the choice of the lifts is this project's own.)
use Rattle.std.specs.Prelude.{◌≡◌, ◌↔◌, ◌<◌, ℕ, zero, suc, List, [], ◌∷◌}
use Rattle.sf_algebra.specs.Matrices.{Matrix, row_degrees}
use Rattle.sf_algebra.specs.MatrixOperations.{matrix_product, negated, stacked}
use Rattle.sf_algebra.specs.Vectors.{Vector}
use Rattle.sf_groebner.specs.Lifts.{IsLift}
use Rattle.sf_groebner.specs.Presentations.{IsRelation}
use Rattle.sf_groebner.specs.Spans.{InSpan}
use Rattle.sf_blocks.specs.BlockLists.{IsTo}
use Rattle.sf_blocks.specs.SideBySide.{triangle}
use Rattle.sf_homotopy.specs.Exactness.{IsExactPair}

-- each vector of a list has its lift over m at its place in another
abbrev pub HaveLifts : Matrix → List Vector → List Vector → Type 0
HaveLifts m [] [] = Unit {0}
HaveLifts m [] (c ∷ cs) = ⊥
HaveLifts m (v ∷ vs) [] = ⊥
HaveLifts m (v ∷ vs) (c ∷ cs) = IsLift m v c × HaveLifts m vs cs

-- the rows of l are the lifts of the rows of v over m
pub record AreLifts (m v l : Matrix) : Type 0 where
  pub ring : l.ring ≡ m.ring
  pub target : l.target ≡ row_degrees m
  pub rows : HaveLifts m v.rows l.rows

-- A complex is given by its maps: number 0 goes into a free module, number j + 1 arrives where number j leaves. The
-- horseshoe of two of them has, with sides that go from the last to the first, the maps (first, then sides), and from
-- there on the rows (first, 0), and below them (sides, last).
abbrev pub horseshoe : (first last sides : ℕ → Matrix) → ℕ → Matrix
horseshoe first last sides zero = stacked (first zero) (sides zero)
horseshoe first last sides (suc j) = triangle (first (suc j)) (sides (suc j)) (last (suc j))

-- each side is the lift, over the first complex, of the negative of the next map of the last one before the side before
abbrev pub AreSides : (first last sides : ℕ → Matrix) → Type 0
AreSides first last sides =
    (j : ℕ) → AreLifts (first j) (negated (matrix_product (last (suc j)) (sides j))) (sides (suc j))

-- the first complex is exact, and so is the last one, from number 1 on; the rows of side 0 generate over what the first
-- complex resolves, and map 1 of the last one gives their relations modulo that
pub record IsHorseshoe (first last sides : ℕ → Matrix) : Type 0 where
  pub above_one : 1 < (first 0).ring.modulus
  pub first_exact : (j : ℕ) → IsExactPair (first j) (first (suc j))
  pub last_exact : (j : ℕ) → IsExactPair (last (suc j)) (last (suc (suc j)))
  pub start : IsTo (first 0).ring (first 0).target (sides 0)
  pub last_ring : (last 1).ring ≡ (first 0).ring
  pub last_target : (last 1).target ≡ row_degrees (sides 0)
  pub relations : (c : Vector) → IsRelation (sides 0) (InSpan (first 0)) c ↔ InSpan (last 1) c
  pub lifts : AreSides first last sides
