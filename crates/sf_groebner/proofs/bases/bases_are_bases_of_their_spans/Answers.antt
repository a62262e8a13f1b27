use Rattle.sf_algebra.specs.Matrices.{row_degrees}
use Rattle.sf_algebra.proofs.Monomials.Weights.{field_ring}
use Rattle.sf_groebner.specs.Spans.{InSpan, IsSyzygy}
use Rattle.sf_groebner.proofs.Constructions.OwnSpans.{own_span, reduced-own_span}
use Rattle.sf_groebner.proofs.Constructions.SmallParts.{small-first_blocks, small-syzygies, small-values}
use Rattle.sf_groebner.proofs.Spanning.SpanCombinations.{span_submodule}
use Rattle.sf_groebner.proofs.Spanning.SyzygyCombinations.{syzygy_submodule}
use Rattle.sf_groebner.proofs.bases.bases_are_bases_of_their_spans.Goals as goal

pub returns : goal.returns
returns c = record {
  span = λ m positive matrix basis h.
      reduced-own_span m.ring m.target (InSpan m) (span_submodule m positive matrix) basis h positive;
  syzygies = λ m positive basis h.
      reduced-own_span m.ring (row_degrees m) (IsSyzygy m) (syzygy_submodule m positive) basis h positive;
  spans = λ m prime matrix basis h. own_span m.ring m.target (InSpan m) (span_submodule m (field_ring prime) matrix) basis h prime;
  spans_syzygies = λ m prime basis h. own_span m.ring (row_degrees m) (IsSyzygy m) (syzygy_submodule m (field_ring prime)) basis h prime;
  small_values = λ limit m positive matrix basis small. small-values limit m positive basis small matrix;
  small_syzygies = small-syzygies;
  small_blocks = small-first_blocks;
}
