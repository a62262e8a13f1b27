use Rattle.std.proofs.Common.{◌↔◌, IsTrue, IsSome, subst}
use Rattle.std.specs.List.{list_any}
use Rattle.sf_algebra.specs.Vectors.{Place}
use Rattle.sf_groebner.specs.Leads.{place_divides}
use Rattle.sf_buchberger.proofs.DegreeBases.Flags.{divisor_decides}
use Rattle.sf_buchberger.proofs.counted.columns.divisor_of.Goals as goal

pub returns : goal.returns
returns c =
    let k : Place = record { position = c.place.inside.position; monomial = c.place.inside.monomial } in
    record {
      divisor = subst (λ (l : Place). IsTrue (list_any (λ j. place_divides j l) c.args.leads.now) ↔ IsSome c.divisor.result) c.place.view_is
          (divisor_decides k c.args.leads.now c.divisor.result c.divisor.ensures.none c.divisor.ensures.within c.divisor.ensures.divisor);
    }
