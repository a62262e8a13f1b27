use Rattle.std.proofs.Common.{rules}
use Rattle.sf_matrix.proofs.Plans.Rules.{meets_exit}
use Rattle.sf_genmor.proofs.LookSteps.{basis_cut, basis_failed, basis_found, basis_none}
use Rattle.sf_genmor.proofs.looks.basis_of.Goals as goal

pub returns-in_err-look : goal.returns-in_err-look
returns-in_err-look g c = meets_exit c.from_residual.ensures.1 (basis_failed c.in_err-look.ensures.looked)

pub returns-in_err-copy-in-None : goal.returns-in_err-copy-in-None
returns-in_err-copy-in-None g c =
    meets_exit c.from_residual-in_err-copy-in-None.ensures.1 (basis_cut c.in_ok-look.ensures.looked)

pub returns-in_err-copy-in-Some : goal.returns-in_err-copy-in-Some
returns-in_err-copy-in-Some g c =
    meets_exit c.from_residual-in_err-copy-in-Some.ensures.1 (basis_cut c.in_ok-look.ensures.looked)

pub returns-in_ok-copy-in-None : goal.returns-in_ok-copy-in-None
returns-in_ok-copy-in-None g c = basis_none c.in-None.is c.in_ok-look.ensures.looked (search rules)

pub returns-in_ok-copy-in-Some : goal.returns-in_ok-copy-in-Some
returns-in_ok-copy-in-Some g c =
    basis_found c.in-Some.is c.in_ok-look.ensures.looked c.at.ensures.graph (search rules)
