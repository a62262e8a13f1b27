use Rattle.std.proofs.Common.{true, false}
use Rattle.sf_matrix.proofs.Plans.Rules.{meets_exit}
use Rattle.sf_session.proofs.TaskSteps.{lift_cut, lift_failed, lift_found}
use Rattle.sf_session.proofs.looks.lift_of.Goals as goal

pub returns-in_err-entry : goal.returns-in_err-entry
returns-in_err-entry g c = meets_exit c.from_residual.ensures.1 (lift_failed c.args.v.now c.in_err-entry.ensures.looked)

pub returns-in_err-rest : goal.returns-in_err-rest
returns-in_err-rest g c =
    meets_exit c.from_residual-in_err-rest.ensures.1 (lift_cut c.args.v.now c.in_ok-entry.ensures.looked)

pub returns : goal.returns
returns g c =
    lift_found c.args.v.now false c.requires.vector c.in_ok-entry.ensures.looked c.in_ok-rest.ensures.reduction c.if-is_empty.ensures.empty

pub returns-then-is_empty : goal.returns-then-is_empty
returns-then-is_empty g c =
    lift_found c.args.v.now true c.requires.vector c.in_ok-entry.ensures.looked c.in_ok-rest.ensures.reduction c.if-is_empty.ensures.empty
