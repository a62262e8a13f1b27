-- Where Buchberger's algorithm ends: the rows of a Gröbner basis of a graph. (Cox, Little, O'Shea, "Ideals,
-- Varieties, and Algorithms", chapter 2, section 10.)
use Rattle.std.specs.Prelude.{◌≡◌, ◌≤◌, ℕ, [], length}
use Rattle.std.specs.List.{AllByRecursion}
use Rattle.sf_algebra.specs.Bounds.{GREATEST_SIZE}
use Rattle.sf_algebra.specs.Matrices.{Matrix}
use Rattle.sf_algebra.specs.Vectors.{Vector}
use Rattle.sf_groebner.specs.GraphRows.{graph_matrix}
use Rattle.sf_groebner.specs.Small.{HasLeadUpTo}
use Rattle.sf_groebner.specs.Spans.{IsGraphVector, graph_degrees}
use Rattle.sf_groebner.proofs.PairLoops.GrowingBases.{IsGrowing}

-- rows of the graph of m at which nothing waits any more, few and with low leads
pub record IsGrown (limit : ℕ) (m rows : Matrix) : Type 0 where
  pub ring : rows.ring ≡ m.ring
  pub target : rows.target ≡ graph_degrees m
  pub growing : IsGrowing m.ring (IsGraphVector m) (graph_matrix m).rows rows.rows [] []
  pub few : length rows.rows ≤ GREATEST_SIZE
  pub low : AllByRecursion (λ (v : Vector). HasLeadUpTo m.ring.weights limit v.terms) rows.rows
