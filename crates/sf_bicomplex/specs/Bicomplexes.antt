-- Bicomplexes of presented modules. There are finitely many columns, numbered from 0, the lowest; rows are numbered by
-- any integers. (Weibel, "An Introduction to Homological Algebra", section 1.2.)
use Rattle.std.specs.Prelude.{◌≡◌, ◌≤◌, ℕ, zero, suc, List, [], ℤ, pos, ◌-ℤ◌}
use Rattle.sf_algebra.specs.Matrices.{Matrix}
use Rattle.sf_algebra.specs.MatrixOperations.{matrix_product}
use Rattle.sf_algebra.specs.Rings.{Ring, IsRing}
use Rattle.sf_groebner.specs.Presentations.{IsModuleMap}
use Rattle.sf_blocks.specs.BlockLists.{IsFrom, IsTo}
use Rattle.sf_blocks.specs.DirectSums.{IsZeroModulo}
use Rattle.sf_blocks.specs.MatrixSums.{matrix_sum}

-- the relations of the module in column p and row q, the map from there to row q - 1, and that to column p - 1
pub record Bicomplex : Type 0 where
  pub ring : Ring
  pub columns : ℕ
  pub relations : ℕ → ℤ → Matrix
  pub vertical : ℕ → ℤ → Matrix
  pub horizontal : ℕ → ℤ → Matrix

-- the degrees of the generators of the module at the left; left of column 0 there is none
abbrev pub left_degrees : Bicomplex → ℕ → ℤ → List ℤ
left_degrees b zero q = []
left_degrees b (suc p) q = (b.relations p q).target

-- what leaves the bicomplex is zero, both maps are maps of presented modules, and modulo relations dv dv = 0,
-- dv dh + dh dv = 0 and dh dh = 0
pub record IsBicomplex (b : Bicomplex) : Type 0 where
  pub is_ring : IsRing b.ring
  pub modules : (p : ℕ) (q : ℤ) → IsTo b.ring (b.relations p q).target (b.relations p q)
  pub outside : (p : ℕ) (q : ℤ) → b.columns ≤ p → (b.relations p q).target ≡ []
  pub downward : (p : ℕ) (q : ℤ) → IsModuleMap (b.relations p q) (b.relations p (q -ℤ pos 1)) (b.vertical p q)
  pub leftward : (p : ℕ) (q : ℤ) → IsModuleMap (b.relations (suc p) q) (b.relations p q) (b.horizontal (suc p) q)
  pub leaving : (q : ℤ) → IsFrom b.ring (b.relations 0 q).target (b.horizontal 0 q)
  pub leaving_target : (q : ℤ) → (b.horizontal 0 q).target ≡ []
  pub twice_down : (p : ℕ) (q : ℤ)
      → IsZeroModulo (b.relations p (q -ℤ pos 1 -ℤ pos 1))
      (matrix_product (b.vertical p q) (b.vertical p (q -ℤ pos 1)))
  pub across : (p : ℕ) (q : ℤ)
      → IsZeroModulo (b.relations p (q -ℤ pos 1))
      (matrix_sum (matrix_product (b.vertical (suc p) q) (b.horizontal (suc p) (q -ℤ pos 1)))
      (matrix_product (b.horizontal (suc p) q) (b.vertical p q)))
  pub twice_left : (p : ℕ) (q : ℤ)
      → IsZeroModulo (b.relations p q) (matrix_product (b.horizontal (suc (suc p)) q) (b.horizontal (suc p) q))
