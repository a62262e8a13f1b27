-- Bicomplexes of free modules whose rows are exact but for the highest column, where a complex of free modules is set.
-- (Weibel, "An Introduction to Homological Algebra", section 2.7.)
use Rattle.std.specs.Prelude.{◌≡◌, ◌↔◌, ℕ, suc, ◌<◌, List, [], ℤ, pos, ◌-ℤ◌}
use Rattle.sf_algebra.specs.Matrices.{Matrix}
use Rattle.sf_algebra.specs.MatrixOperations.{matrix_product}
use Rattle.sf_algebra.specs.VectorOperations.{vector_sum}
use Rattle.sf_algebra.specs.Vectors.{Vector, IsVector}
use Rattle.sf_groebner.specs.Spans.{InSpan, IsSyzygy, combined}
use Rattle.sf_blocks.specs.BlockLists.{IsFrom}
use Rattle.sf_bicomplex.specs.Bicomplexes.{Bicomplex, IsBicomplex}
use Rattle.sf_bicomplex.specs.TotalColumns.{total_degrees, total_map}

-- a complex of free modules, by the degrees of their generators and its maps from each place q to q - 1, and the maps that
-- set it into a column of a bicomplex
pub record Augmentation : Type 0 where
  pub degrees : ℤ → List ℤ
  pub map : ℤ → Matrix
  pub set : ℤ → Matrix

-- the modules of the bicomplex are free; each row is exact below its highest column; what goes nowhere along the row there
-- is what is set, one to one; and to set passes dv
pub record ResolvesRows (b : Bicomplex) (top : ℕ) (a : Augmentation) : Type 0 where
  pub highest : b.columns ≡ suc top
  pub free : (p : ℕ) (q : ℤ) → (b.relations p q).rows ≡ []
  pub map_from : (q : ℤ) → IsFrom b.ring (a.degrees q) (a.map q)
  pub map_target : (q : ℤ) → (a.map q).target ≡ a.degrees (q -ℤ pos 1)
  pub set_from : (q : ℤ) → IsFrom b.ring (a.degrees q) (a.set q)
  pub set_target : (q : ℤ) → (a.set q).target ≡ (b.relations top q).target
  pub exact : (p : ℕ) (q : ℤ) → p < top → (v : Vector) → IsSyzygy (b.horizontal p q) v → InSpan (b.horizontal (suc p) q) v
  pub resolves : (q : ℤ) (v : Vector) → IsSyzygy (b.horizontal top q) v ↔ InSpan (a.set q) v
  pub one_to_one : (q : ℤ) (c : Vector) → IsSyzygy (a.set q) c → c.terms ≡ []
  pub passes : (q : ℤ) → matrix_product (a.map q) (a.set (q -ℤ pos 1)) ≡ matrix_product (a.set q) (b.vertical top q)

-- what is set stands in the highest column, which is the first of the total complex; the total map goes on as the complex
abbrev pub SetsComplex : Type 0
SetsComplex =
    (b : Bicomplex) → IsBicomplex b → (top : ℕ) (a : Augmentation) → ResolvesRows b top a → (n m : ℤ) → m ≡ n -ℤ pos 1
    → (c : Vector) → IsVector b.ring (a.degrees (n -ℤ pos top)) c
    → IsVector b.ring (total_degrees b n) (combined (a.set (n -ℤ pos top)) c)
    × (combined (total_map b n m) (combined (a.set (n -ℤ pos top)) c)
    ≡ combined (a.set (m -ℤ pos top)) (combined (a.map (n -ℤ pos top)) c))

-- what is set and a boundary of the total complex is a boundary of the complex
abbrev pub HasBoundariesThatAreSet : Type 0
HasBoundariesThatAreSet =
    (b : Bicomplex) → IsBicomplex b → (top : ℕ) (a : Augmentation) → ResolvesRows b top a → (n m : ℤ) → m ≡ n -ℤ pos 1
    → (t c : Vector) → IsVector b.ring (total_degrees b n) t → IsVector b.ring (a.degrees (m -ℤ pos top)) c
    → combined (total_map b n m) t ≡ combined (a.set (m -ℤ pos top)) c → InSpan (a.map (n -ℤ pos top)) c

-- each cycle of the total complex is one of the complex that is set, plus a boundary
abbrev pub HasCyclesThatAreSet : Type 0
HasCyclesThatAreSet =
    (b : Bicomplex) → IsBicomplex b → (top : ℕ) (a : Augmentation) → ResolvesRows b top a → (k n m : ℤ) → n ≡ k -ℤ pos 1
    → m ≡ n -ℤ pos 1 → (t : Vector) → IsVector b.ring (total_degrees b n) t → (combined (total_map b n m) t).terms ≡ []
    → (c u : Vector) × IsSyzygy (a.map (n -ℤ pos top)) c × IsVector b.ring (total_degrees b k) u × (u.degree ≡ t.degree)
    × (t ≡ vector_sum b.ring (combined (a.set (n -ℤ pos top)) c) (combined (total_map b k n) u))
