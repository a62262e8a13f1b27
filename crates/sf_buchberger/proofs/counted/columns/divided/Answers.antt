use Rattle.std.proofs.Common.{◌∙◌, arith}
use Rattle.std.specs.List.{list_any}
use Rattle.sf_algebra.specs.Vectors.{Place}
use Rattle.sf_groebner.specs.Leads.{place_divides}
use Rattle.sf_buchberger.proofs.DegreeBases.Flags.{flags_more, same_flag}
use Rattle.sf_buchberger.proofs.counted.columns.divided.Goals as goal

pub loop-place-preserved : goal.loop-place-preserved
loop-place-preserved c =
    flags_more (λ (k : Place). list_any (λ j. place_divides j k) c.args.leads.now) c.args.columns.now c.loop-place.place-index c.place-item.result c.loop-place.divided.items c.push.new.self.items c.is_some.result
    (omega (arith, c.loop-place-test.true)) c.place-item.is c.loop-place.invariant c.in_ok-push.ensures.items
    (c.is_some.ensures ∙ same_flag (list_any (λ j. place_divides j c.place-item.result) c.args.leads.now) c.divisor_of.result c.divisor_of.ensures.divisor)
