use Rattle.sf_matrix.proofs.Plans.Rules.{meets_exit}
use Rattle.sf_genmor.proofs.QuotientSteps.{quotient_cut, quotient_fails, quotient_found, quotient_presentable, units_are}
use Rattle.sf_genmor.proofs.quotient.present_quotient.Goals as goal

pub returns-in_err-base : goal.returns-in_err-base
returns-in_err-base g c = meets_exit c.from_residual.ensures.1 (quotient_fails c.args.m.now c.in_err-base.ensures)

pub returns-in_err-units : goal.returns-in_err-units
returns-in_err-units g c = meets_exit c.from_residual-in_err-units.ensures.1 (quotient_cut c.args.m.now c.in_ok-base.ensures)

pub present-requires : goal.present-requires
present-requires g c =
    let units = units_are c.args.m.now _ _ _ c.modulus-2.ensures.ring c.target.ensures.target c.in_ok-units.ensures.units in
    record { presentable = quotient_presentable c.args.m.now c.in_ok-base.ensures units }

pub returns : goal.returns
returns g c =
    let units = units_are c.args.m.now _ _ _ c.modulus-2.ensures.ring c.target.ensures.target c.in_ok-units.ensures.units in
    quotient_found c.args.m.now c.in_ok-base.ensures units c.present.ensures
