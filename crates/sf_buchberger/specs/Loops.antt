-- What Buchberger's algorithm keeps while pairs and generators wait, and how near it is to its end. (Cox, Little,
-- O'Shea, "Ideals, Varieties, and Algorithms", chapter 2, section 10; the measure is this project's own.)
use Rattle.std.specs.Prelude.{◌≡◌, ℕ, ◌+◌, ◌-◌, ◌*◌, ◌<◌, ◌≤◌, [], length}
use Rattle.std.specs.List.{AllByRecursion}
use Rattle.sf_algebra.specs.Bounds.{GREATEST_SIZE}
use Rattle.sf_algebra.specs.Matrices.{Matrix}
use Rattle.sf_algebra.specs.Vectors.{Vector}
use Rattle.sf_groebner.specs.GraphRows.{graph_matrix}
use Rattle.sf_groebner.specs.Small.{HasLeadUpTo}
use Rattle.sf_groebner.specs.Spans.{IsGraphVector, graph_degrees}
use Rattle.sf_groebner.proofs.Constructions.LeadDivisors.{lead_places}
use Rattle.sf_groebner.proofs.PairLoops.GrowingBases.{IsGrowing}
use Rattle.sf_buchberger.specs.DonePairs.{AreDone}
use Rattle.sf_buchberger.specs.QueuedPairs.{IsQueuedInput, IsQueuedPair, input_numbers, pair_numbers, queued_inputs}
use Rattle.sf_buchberger.specs.declared.growth.state.Growth.{Growth}

-- the rows grow to a basis of the graph of m: what isn't done waits by its degree, and the rows are few and have low
-- leads
pub record IsLooping (limit : ℕ) (m : Matrix) (g : Growth) : Type 0 where
  pub ring : g.rows.ring ≡ m.ring
  pub target : g.rows.target ≡ graph_degrees m
  pub growing : IsGrowing m.ring (IsGraphVector m) (graph_matrix m).rows g.rows.rows (pair_numbers g.pairs)
      (input_numbers g.waiting)
  pub queued : AllByRecursion (IsQueuedPair m.ring.weights (graph_degrees m) g.rows.rows) g.pairs
  pub inputs : AllByRecursion (IsQueuedInput (graph_matrix m).rows) g.waiting
  pub few : length g.rows.rows ≤ GREATEST_SIZE
  pub low : AllByRecursion (λ (v : Vector). HasLeadUpTo m.ring.weights limit v.terms) g.rows.rows
  pub places : g.leads ≡ lead_places g.rows.rows
  pub reduced : AreDone m.ring g.rows.rows g.done

-- how many steps there can be: each new row brings fewer pairs than there may be rows
abbrev pub left_to_do : Growth → ℕ
left_to_do g = (GREATEST_SIZE - length g.rows.rows) * (GREATEST_SIZE + 1) + (length g.pairs + length g.waiting)

-- a step keeps all that, and leaves less to do
pub record IsNearer (limit : ℕ) (m : Matrix) (before after : Growth) : Type 0 where
  pub loops : IsLooping limit m after
  pub nearer : left_to_do after < left_to_do before

-- at first there are no rows, and all generators wait
abbrev pub started : Matrix → Growth
started generators = record {
  rows = record generators { rows = [] };
  leads = [];
  pairs = [];
  waiting = queued_inputs 0 generators.rows;
  done = [];
}
