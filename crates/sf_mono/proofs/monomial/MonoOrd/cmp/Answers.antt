use Rattle.std.proofs.Common.{◌∙◌}
use Rattle.sf_mono.proofs.Packing.{StandsFor, nat_cmp-StandsFor}
use Rattle.sf_mono.proofs.monomial.MonoOrd.cmp.Goals as goal

pub returns : goal.returns
returns c =
    let s : StandsFor c.self.inside.packed c.args.self.now = record { monomial = c.self.view_is; packed = c.self.invariant } in
    let t : StandsFor c.other.inside.packed c.args.other.now = record { monomial = c.other.view_is; packed = c.other.invariant } in
    c.cmp.ensures ∙ nat_cmp-StandsFor _ _ _ _ s t
