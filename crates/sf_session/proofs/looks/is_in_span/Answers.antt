use Rattle.sf_matrix.proofs.Plans.Rules.{meets_exit}
use Rattle.sf_session.proofs.TaskSteps.{membership_cut, membership_failed, membership_found}
use Rattle.sf_session.proofs.looks.is_in_span.Goals as goal

pub returns-in_err-entry : goal.returns-in_err-entry
returns-in_err-entry g c = meets_exit c.from_residual.ensures.1 (membership_failed c.args.v.now c.in_err-entry.ensures.looked)

pub returns-in_err-rest : goal.returns-in_err-rest
returns-in_err-rest g c =
    meets_exit c.from_residual-in_err-rest.ensures.1 (membership_cut c.args.v.now c.in_ok-entry.ensures.looked)

pub returns : goal.returns
returns g c =
    membership_found c.args.v.now c.requires.vector c.in_ok-entry.ensures.looked c.in_ok-rest.ensures.reduction c.is_empty.ensures.empty
