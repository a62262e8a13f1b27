use Rattle.std.proofs.Common.{◌≡◌, ap, ◌∙◌, sym, subst}
use Rattle.sf_script.specs.Names.{Env}
use Rattle.sf_session.specs.SoundChecks.{IsSoundCheck}
use Rattle.sf_session.specs.Sound.{IsSound}
use Rattle.sf_session.specs.State.{State, LooksOnceNoted, begun}
use Rattle.sf_session.specs.Tasks.{has_list}
use Rattle.sf_session.proofs.Findings.{early_found, sound_found}
use Rattle.sf_session.proofs.Looked.{finds, kept_looked}
use Rattle.sf_session.proofs.SessionRoom.{call_room}
use Rattle.sf_session.proofs.Taken.{IsKept}
use Rattle.sf_session.proofs.session.Session.found.Goals as goal

pub outcome_of-requires : goal.outcome_of-requires
outcome_of-requires g c =
    record {
      room = call_room c.args.self.now.env c.args.checked c.requires.sound c.requires.small c.requires.low;
      grew = c.self.invariant.4;
    }

pub invariant_of-self : goal.invariant_of-self
invariant_of-self g c =
    let env = c.self.inside.env in
    let check = subst (λ (e : Env). IsSoundCheck e c.args.checked) (sym (ap (λ (s : State). s.env) c.self.view_is)) c.requires.sound in
    let began : c.begin.new.env ≡ begun (has_list c.args.checked) env =
    c.begin.ensures ∙ ap (λ b. begun b env) c.has_list.ensures in
    subst (λ (e : Env). IsKept e c.outcome_of.new.shelf c.outcome_of.new.bases) (sym began)
    (kept_looked c.args.checked env c.self.inside.store c.outcome_of.new.bases check c.outcome_of.result c.outcome_of.ensures.settles
    c.self.inside.shelf c.outcome_of.new.shelf c.outcome_of.ensures.grew c.self.invariant)

pub returns-clause-found : goal.returns-clause-found
returns-clause-found g c =
    let env = c.self.inside.env in
    let began : c.begin.new.env ≡ begun (has_list c.args.checked) env =
    c.begin.ensures ∙ ap (λ b. begun b env) c.has_list.ensures in
    finds c.args.checked env c.self.inside.shelf c.self.inside.store c.outcome_of.new.bases c.self.invariant c.outcome_of.result
    c.outcome_of.ensures.settles
    c.begin.new.env began c.args.self.now c.self.view_is

pub returns-clause-sound : goal.returns-clause-sound
returns-clause-sound g c =
    let sound = subst (λ (s : State). IsSound s.env) c.self.view_is c.self.invariant.0 in
    sound_found c.args.checked c.args.self.now _ sound c.requires.sound c.outcome_of.result (returns-clause-found g c)

pub returns-clause-early : goal.returns-clause-early
returns-clause-early g c =
    let sound = subst (λ (s : State). IsSound s.env) c.self.view_is c.self.invariant.0 in
    let once = subst (λ (s : State). LooksOnceNoted s.env.heads s.looked) c.self.view_is c.self.invariant.3 in
    early_found c.args.checked c.args.self.now _ sound c.requires.sound c.requires.small once c.outcome_of.result
    (returns-clause-found g c)
