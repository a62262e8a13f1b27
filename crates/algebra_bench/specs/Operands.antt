-- Small matrices, whose Kronecker products have room. They serve the contracts of private functions.
use Rattle.std.specs.Prelude.{◌≡◌, ◌≤◌, List, length, ℤ, pos, ◌≤ℤ◌}
use Rattle.std.specs.List.{AllByRecursion}
use Rattle.sf_algebra.specs.Matrices.{Matrix, IsMatrix, row_degrees}
use Rattle.sf_algebra.specs.Rings.{IsPositive}

-- at most 60 generators, each of degree 0
pub record AreFlat (degrees : List ℤ) : Type 0 where
  pub few : length degrees ≤ 60
  pub flat : AllByRecursion (λ (d : ℤ). d ≡ pos 0) degrees

-- a degree is 0 or 1
abbrev pub IsLow : ℤ → Type 0
IsLow d = (pos 0 ≤ℤ d) × (d ≤ℤ pos 1)

-- rows of low degrees over such generators
pub record IsOperand (m : Matrix) : Type 0 where
  pub weights : IsPositive m.ring.weights
  pub matrix : IsMatrix m
  pub target : AreFlat m.target
  pub rows : AllByRecursion IsLow (row_degrees m)
