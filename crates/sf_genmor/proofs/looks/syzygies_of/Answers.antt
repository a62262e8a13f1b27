use Rattle.std.proofs.Common.{rules}
use Rattle.sf_matrix.proofs.Plans.Rules.{meets_exit}
use Rattle.sf_genmor.proofs.LookSteps.{syzygies_cut, syzygies_failed, rowless, syzygies_found, syzygies_none}
use Rattle.sf_genmor.proofs.looks.syzygies_of.Goals as goal

pub returns-in_err-look : goal.returns-in_err-look
returns-in_err-look g c = meets_exit c.from_residual.ensures.1 (syzygies_failed c.in_err-look.ensures.looked)

pub returns-in_err-copy-in-Some : goal.returns-in_err-copy-in-Some
returns-in_err-copy-in-Some g c =
    meets_exit c.from_residual-in_err-copy-in-Some.ensures.1 (syzygies_cut c.in_ok-look.ensures.looked)

pub returns-in-None : goal.returns-in-None
returns-in-None g c = syzygies_none c.in-None.is (rowless c.in-None.is c.in_ok-look.ensures.looked) c.in_ok-look.ensures.looked (search rules)

pub returns-in_ok-copy-in-Some : goal.returns-in_ok-copy-in-Some
returns-in_ok-copy-in-Some g c =
    syzygies_found c.in-Some.is c.in_ok-look.ensures.looked c.at.ensures.graph (search rules)
