use Rattle.sf_mono.proofs.Packing.{StandsFor, StandsFor-quotient}
use Rattle.sf_mono.proofs.monomial.Mono.quotient.Goals as goal

pub invariant_of-result : goal.invariant_of-result
invariant_of-result c =
    let s : StandsFor c.self.inside.packed c.args.self = record { monomial = c.self.view_is; packed = c.self.invariant } in
    let t : StandsFor c.other.inside.packed c.args.other = record { monomial = c.other.view_is; packed = c.other.invariant } in
    (StandsFor-quotient _ _ _ _ s t c.requires.divisor).packed

pub returns : goal.returns
returns c =
    let s : StandsFor c.self.inside.packed c.args.self = record { monomial = c.self.view_is; packed = c.self.invariant } in
    let t : StandsFor c.other.inside.packed c.args.other = record { monomial = c.other.view_is; packed = c.other.invariant } in
    record { quotient = (StandsFor-quotient _ _ _ _ s t c.requires.divisor).monomial }
