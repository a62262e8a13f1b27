use Rattle.std.proofs.Common.{sym}
use Rattle.std.proofs.lemmas.Result.{err_from_is_err_and}
use Rattle.sf_matrix.proofs.Plans.Rules.{meets_cut}
use Rattle.sf_script.specs.declared.checked.Checked.TheVariants.{Lift}
use Rattle.sf_session.proofs.Settling.{failed}
use Rattle.sf_session.proofs.TaskAnswers.{lift_coefficients}
use Rattle.sf_session.proofs.outcomes.lift_outcome.Goals as goal

pub lift_of-requires-clause-vector : goal.lift_of-requires-clause-vector
lift_of-requires-clause-vector g c = rw c.relations-relations.ensures.relations c.requires.vector

pub one_row-requires : goal.one_row-requires
one_row-requires g c = lift_coefficients _ _ _ _ c.in_ok-lift_of.field-0 c.in-Some.coefficients c.in-Some.is c.in_ok-lift_of.ensures

pub returns-in_err-one_row-in-Some : goal.returns-in_err-one_row-in-Some
returns-in_err-one_row-in-Some g c =
    let r = c.from_residual-in_err-one_row-in-Some in
    let p = err_from_is_err_and r.result r.ensures.1 in
    let at_given = sym c.relations-relations.ensures.relations in
    rw (p.1, p.2) (rw at_given (failed (Lift c.relations-relations.result.now c.args.vector) (meets_cut c.in_ok-lift_of.ensures)))
