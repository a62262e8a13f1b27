use Rattle.std.proofs.Common.{◌≡◌, true, false, Ok, Err, ap, sym, ◌∙◌, subst}
use Rattle.std.proofs.lemmas.Result.{IfOk-weaker}
use Rattle.sf_script.specs.Names.{Env}
use Rattle.sf_script.specs.Refusals.{checked}
use Rattle.sf_session.specs.SoundChecks.{IsSoundCheck}
use Rattle.sf_session.specs.State.{State}
use Rattle.sf_session.proofs.Checked.{checked_sound}
use Rattle.sf_session.proofs.Lines.{variables_written}
use Rattle.sf_session.proofs.Refused.{carried_refused}
use Rattle.sf_session.proofs.SessionRoom.{low_source, written_modules}
use Rattle.sf_session.proofs.session.Session.carry_out.Goals as goal
use Rattle.sf_session.proofs.session.Session.carry_out.Goals.{in-Limit, in_default}

pub check_line-requires-clause-degrees : goal.check_line-requires-clause-degrees
check_line-requires-clause-degrees g c = written_modules c.self.inside.env c.self.invariant.0

pub execute-requires-clause-sound : goal.execute-requires-clause-sound
execute-requires-clause-sound g c =
    let command = c.args.line.command in
    let answered : checked c.self.inside.env c.args.line.client command ≡ Ok c.in-Ok.checked =
    sym c.in_ok-checked.ensures.checked ∙ c.in-Ok.is in
    subst (λ (env : Env). IsSoundCheck env c.in-Ok.checked) (ap (λ (s : State). s.env) c.self.view_is)
    (checked_sound c.self.inside.env c.self.invariant.0 c.args.line.client command c.in-Ok.checked
    (variables_written command c.requires.written) answered)

pub execute-requires-clause-low : goal.execute-requires-clause-low
execute-requires-clause-low g c =
    low_source c.self.inside.env c.self.invariant.1 c.args.line.client c.args.line.command c.in-Ok.checked
    (sym c.in_ok-checked.ensures.checked ∙ c.in-Ok.is)

pub returns-in-Err-2-clause-reply : goal.returns-in-Err-2-clause-reply
returns-in-Err-2-clause-reply g c =
    elim c.match-matches.branch [
      | in-Limit w ↦ let clash : true ≡ false = sym w.matches-is ∙ c.if-gives_limit.false in cc
      | in_default w ↦
          let answered : checked c.args.self.now.env c.args.line.client c.args.line.command ≡ Err c.in-Err.fault =
          ap (λ (s : State). checked s.env c.args.line.client c.args.line.command) (sym c.self.view_is)
          ∙ sym c.in_ok-checked.ensures.checked
          ∙ c.in-Err.is in
          IfOk-weaker c.settle-in-Err-2.result _ _
          (λ reply comes. carried_refused c.args.line.client c.args.line.command c.args.self.now c.settle-in-Err-2.new.self reply.items
          c.in-Err.fault answered w.in_default.not-Limit comes)
          c.settle-in-Err-2.ensures.reply
    ]
