-- How many places of one degree of a graph's free module are divided by leads, and how many stand for coefficients. (This
-- project's own; that the graph has as many leads in a degree as there are coefficients is the dimension of a free module.)
use Rattle.std.specs.Prelude.{ℕ, ◌≤◌, Bool, nat_le, List, length, filter, ℤ}
use Rattle.sf_algebra.specs.Matrices.{Matrix}
use Rattle.sf_algebra.specs.Vectors.{Place, Vector}
use Rattle.sf_groebner.specs.ReducedBases.{is_divided}
use Rattle.sf_groebner.specs.Spans.{graph_degrees}
use Rattle.sf_variables.specs.Columns.{AreColumns}

-- whether a place of the graph's free module stands for a coefficient: its position is behind those of the target
abbrev pub is_source : Matrix → Place → Bool
is_source m k = nat_le (length m.target) k.position

abbrev pub count_sources : Matrix → List Place → ℕ
count_sources m ks = length (filter (is_source m) ks)

-- how many places the leads of rows divide
abbrev pub count_divided : List Vector → List Place → ℕ
count_divided rows ks = length (filter (is_divided rows) ks)

-- these are all places of degree d of the graph's free module over n variables
abbrev pub AreGraphColumns : ℕ → Matrix → ℤ → List Place → Type 0
AreGraphColumns n m d ks = AreColumns m.ring.weights n (graph_degrees m) d ks

-- the leads of rows divide as many places of degree d as stand for coefficients
pub record IsFull (n : ℕ) (m : Matrix) (rows : List Vector) (d : ℤ) : Type 0 where
  pub columns : List Place
  pub places : AreGraphColumns n m d columns
  pub enough : count_sources m columns ≤ count_divided rows columns
