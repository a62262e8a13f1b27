use Rattle.std.proofs.Common.{[]}
use Rattle.sf_groebner.specs.Presentations.{IsZero}
use Rattle.sf_groebner.specs.Spans.{InSpan}
use Rattle.sf_groebner.proofs.Spanning.SumsAndMultiples.{span_closed, zero_closed}
use Rattle.sf_groebner.proofs.Uniqueness.KeptGenerators.{AreKept-chosen}
use Rattle.sf_groebner.proofs.minimal.minimal_generators_are_chosen.Goals as goal

pub returns : goal.returns
returns c = record {
  span = λ base positive matrix. AreKept-chosen base.ring base.target (InSpan base) positive (span_closed base positive);
  zero = λ ring positive. AreKept-chosen ring [] IsZero positive (zero_closed ring positive);
}
