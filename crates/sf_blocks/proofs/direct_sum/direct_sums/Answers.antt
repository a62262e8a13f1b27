use Rattle.sf_blocks.proofs.DirectSums.SummandSpans.{InSpan-direct_sum, InSpan-summands}
use Rattle.sf_blocks.proofs.DirectSums.ZeroModulo.{IsZeroModulo-beside, IsZeroModulo-stacked, IsZeroModulo-zero}
use Rattle.sf_blocks.proofs.direct_sum.direct_sums.Goals as goal

pub returns : goal.returns
returns c = record {
  spans = λ a b is_ring rings ma mb d us vs hu hv. (
    InSpan-summands a b is_ring rings ma mb d us vs hu hv,
    λ both. InSpan-direct_sum a b is_ring rings ma mb d us vs hu hv both.0 both.1,
  );
  beside = IsZeroModulo-beside;
  stacks = IsZeroModulo-stacked;
  zeros = IsZeroModulo-zero;
}
