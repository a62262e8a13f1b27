use Rattle.std.proofs.Common.{◌≡◌, ◌⊎◌, subst, sym}
use Rattle.std.proofs.lemmas.Result.{IfOk-weaker, on_err_weaker}
use Rattle.sf_session.specs.Cuts.{IsCut}
use Rattle.sf_session.specs.State.{State}
use Rattle.sf_session.proofs.Findings.{cut_found, executed_found}
use Rattle.sf_session.proofs.session.Session.execute.Goals as goal

pub returns-in-Ok-clause-reply : goal.returns-in-Ok-clause-reply
returns-in-Ok-clause-reply g c =
    IfOk-weaker c.settle.result _ _
    (λ reply comes. executed_found c.args.client c.args.checked c.args.self.now c.found.new.self c.requires.sound c.in-Ok.outcome
    c.in-Ok.ensures.found reply.items c.settle.new.self comes)
    c.settle.ensures.reply

pub returns-in-Ok-clause-cut : goal.returns-in-Ok-clause-cut
returns-in-Ok-clause-cut g c =
    let found = cut_found c.args.client c.args.checked c.args.self.now c.found.new.self c.found.result c.found.ensures.found in
    on_err_weaker c.settle.result
    (λ kept. subst (λ (s : State). (s ≡ c.args.self.now) ⊎ IsCut c.args.checked c.args.self.now s) (sym kept) found)
    c.settle.ensures.kept

pub returns-in-Err-Large-clause-cut : goal.returns-in-Err-Large-clause-cut
returns-in-Err-Large-clause-cut g c =
    let found = cut_found c.args.client c.args.checked c.args.self.now c.found.new.self c.found.result c.found.ensures.found in
    on_err_weaker c.refuse.result
    (λ kept. subst (λ (s : State). (s ≡ c.args.self.now) ⊎ IsCut c.args.checked c.args.self.now s) (sym kept) found)
    c.refuse.ensures.kept

pub returns-clause-cut : goal.returns-clause-cut
returns-clause-cut g c =
    cut_found c.args.client c.args.checked c.args.self.now c.found.new.self c.found.result c.found.ensures.found
