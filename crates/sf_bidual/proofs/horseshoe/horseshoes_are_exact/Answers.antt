use Rattle.sf_bidual.proofs.Horseshoes.Exactness.{horseshoe_exact, horseshoe_spans}
use Rattle.sf_bidual.proofs.horseshoe.horseshoes_are_exact.Goals as goal

pub returns : goal.returns
returns c = record {
  exact = horseshoe_exact;
  spans = horseshoe_spans;
}
