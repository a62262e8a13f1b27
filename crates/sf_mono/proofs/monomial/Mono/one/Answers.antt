use Rattle.std.proofs.Common.{refl, arith}
use Rattle.sf_algebra.specs.Monomials.{one}
use Rattle.sf_mono.proofs.Packing.{StandsFor-number}
use Rattle.sf_mono.proofs.monomial.Mono.one.Goals as goal

pub invariant_of-result : goal.invariant_of-result
invariant_of-result c = (StandsFor-number _ one (omega arith) refl).packed

pub returns : goal.returns
returns c = record { one = (StandsFor-number _ one (omega arith) refl).monomial }
