-- A line has exactly one reply, and leaves exactly one state.
use Rattle.std.proofs.Common.{◌≡◌, ℕ, ◌+◌, List, [], Result, Ok, Err, refl, sym, ◌∙◌, ap, subst}
use Rattle.std.specs.Prelude.{MatchResult}
use Rattle.sf_algebra.specs.Matrices.{Matrix}
use Rattle.sf_matrix.specs.declared.basis.BaseFault.TheVariants as ends
use Rattle.sf_matrix.specs.declared.basis.BaseFault.{BaseFault}
use Rattle.sf_matrix.specs.Tables.{add_all}
use Rattle.sf_matrix.specs.Runs.{Run, IsWhole, Agrees}
use Rattle.sf_matrix.proofs.Plans.Existence.{run_exists}
use Rattle.sf_matrix.proofs.Plans.Uniqueness.{run_unique}
use Rattle.sf_script.specs.Grammar.{Reading, Silent, Malformed, Read, forms, is_line, line_of}
use Rattle.sf_script.specs.Refusals.{checked}
use Rattle.sf_script.specs.declared.checked.Checked.{Checked}
use Rattle.sf_script.specs.declared.command.Command.{Command}
use Rattle.sf_script.specs.declared.fault.LineFault.TheVariants.{Syntax, Large}
use Rattle.sf_script.specs.declared.fault.LineFault.{LineFault}
use Rattle.sf_script.specs.Kinds.{kinds}
use Rattle.sf_script.specs.declared.command.Command.TheVariants as commands
use Rattle.sf_script.specs.declared.command.Line.{Line}
use Rattle.sf_script.proofs.Lines.{line_column}
use Rattle.sf_grammar.specs.Forms.{line_reach}
use Rattle.sf_grammar.specs.Reaches.{IsColumn}
use Rattle.sf_grammar.proofs.Columns.{column_one}
use Rattle.sf_session.specs.Sound.{IsSound}
use Rattle.sf_session.specs.Outcomes.{outcome, outcome_text, refused, state_after}
use Rattle.sf_session.specs.Replies.{Comes, Given, Executed, Carried, Answered, Step}
use Rattle.sf_session.specs.State.{State, limit_of, noted_state, variables_of, with_looks}
use Rattle.sf_session.specs.Tasks.{Found, plan_of}
use Rattle.sf_session.specs.declared.outcome.Outcome.TheVariants.{Refuses}
use Rattle.sf_session.specs.declared.outcome.Outcome.{Outcome}
use Rattle.sf_session.specs.SoundChecks.{IsSoundCheck}
use Rattle.sf_session.proofs.Checked.{checked_sound}
use Rattle.sf_session.proofs.Lines.{line_has}
use Rattle.sf_session.proofs.SoundStates.{check_ready, noted_sound, outcome_sound}
use Rattle.sf_session.proofs.TaskAnswers.{IsReady, task_fixed}

-- a relation between a reply and a state that exactly one pair meets
pub record IsOne (P : List ℕ → State → Type 0) : Type 0 where
  pub reply : List ℕ
  pub state : State
  pub met : P reply state
  pub only : (other : List ℕ) (new : State) → P other new → (other ≡ reply) × (new ≡ state)

comes_one : (client : List ℕ) (out : Outcome) (old : State) → IsOne (Comes client out old)
comes_one client out old = record {
  reply = outcome_text (variables_of old.env.heads) out;
  state = state_after client out old;
  met = (refl, refl);
  only = λ other new h. h;
}

-- what comes of the end of a plan's run
given_one : (client : List ℕ) (c : Checked) → IsReady c → (old : State) (limit : ℕ) (looked : List Matrix)
    (end : Result (Found c) BaseFault) → Run limit (plan_of c) looked end → IsWhole end → IsOne (Given client c end old)
given_one client c ready old limit looked (Ok a) run whole =
    let fixed = task_fixed limit c ready looked a run in
    let names = variables_of old.env.heads in
    record {
      reply = outcome_text names (outcome c a);
      state = state_after client (outcome c a) old;
      met = (a, fixed.0, (refl, refl));
      only = λ other new h. (
        h.2.0 ∙ ap (λ (b : Found c). outcome_text names (outcome c b)) (fixed.1 h.0 h.1),
        h.2.1 ∙ ap (λ (b : Found c). state_after client (outcome c b) old) (fixed.1 h.0 h.1),
      );
    }
given_one client c ready old limit looked (Err ends.Memory) run whole = absurd whole
given_one client c ready old limit looked (Err (ends.Large rows cols)) run whole =
    comes_one client (Refuses (Large rows cols)) old

executed_one : (client : List ℕ) (c : Checked) → IsReady c → (old : State) → IsOne (Executed client c old)
executed_one client c ready old =
    let found = run_exists (limit_of old.env.heads) (plan_of c) in
    let one = given_one client c ready (with_looks found.0 old) (limit_of old.env.heads) found.0 found.1 found.3 found.2 in
    record {
      reply = one.reply;
      state = one.state;
      met = record { looked = found.0; end = found.1; run = found.3; given = one.met };
      only = λ other new h.
          one.only other new
          (agreeing found.0 h.looked found.1 h.end other new
          (run_unique (limit_of old.env.heads) (plan_of c) found.0 h.looked found.1 h.end found.3 found.2 h.run) h.given);
    }
  where
    agreeing : (ms ns : List Matrix) (end other : Result (Found c) BaseFault) (text : List ℕ) (new : State)
        → Agrees ms end ns other → Given client c other (with_looks ns old) text new
        → Given client c end (with_looks ms old) text new
    agreeing ms ns end (Ok a) text new same h =
        subst (λ (r : Result (Found c) BaseFault). Given client c r (with_looks ms old) text new) (sym same.1)
        (subst (λ (ks : List Matrix). Given client c (Ok a) (with_looks ks old) text new) same.0 h)
    agreeing ms ns end (Err ends.Memory) text new same h = absurd h
    agreeing ms ns end (Err (ends.Large rows cols)) text new same h =
        subst (λ (r : Result (Found c) BaseFault). Given client c r (with_looks ms old) text new) (sym same.1)
        (subst (λ (ks : List Matrix). Given client c (Err (ends.Large rows cols)) (with_looks ks old) text new) same.0 h)

-- the command of a line gives one reply, where what its checks answer is ready
pub carried_one : (client : List ℕ) (command : Command) (old : State)
    → ((c : Checked) → checked old.env client command ≡ Ok c → IsReady c) → IsOne (Carried client command old)
carried_one client command old ready = by (checked old.env client command) refl
  where
    by : (r : Result Checked LineFault) → checked old.env client command ≡ r
        → IsOne (λ text new. MatchResult r (λ c. Executed client c old text new) (λ fault. Comes client (refused command fault) old text new))
    by (Ok c) e = executed_one client c (ready c e) old
    by (Err fault) e = comes_one client (refused command fault) old

-- a line that isn't in the grammar leaves it at one column
malformed_one : (line : List ℕ) (old : State)
    → IsOne (λ text new. (column : ℕ) × IsColumn is_line line column × Comes [] (Refuses (Syntax column)) old text new)
malformed_one line old =
    let column = 1 + line_reach kinds forms line in
    let names = variables_of old.env.heads in
    record {
      reply = outcome_text names (Refuses (Syntax column));
      state = state_after [] (Refuses (Syntax column)) old;
      met = (column, line_column line, (refl, refl));
      only = λ other new h.
          let same = column_one is_line line h.0 column h.1 (line_column line) in
          (h.2.0 ∙ ap (λ (n : ℕ). outcome_text names (Refuses (Syntax n))) same, h.2.1);
    }

-- so has each line in a sound state
pub step_one : (old : State) (line : List ℕ) → IsSound old.env → IsOne (Step old line)
step_one old line sound = by (line_of line) refl
  where
    by : (r : Reading) → line_of line ≡ r → IsOne (Answered line r old)
    by Silent e = record { reply = []; state = old; met = (refl, refl); only = λ other new h. h }
    by Malformed e = malformed_one line old
    by (Read l) e =
        carried_one l.client l.command old (λ c f.
        check_ready old.env c (checked_sound old.env sound l.client l.command c (line_has line l e) f))

-- what a line leaves is sound
pub step_sound : (old : State) (line text : List ℕ) (new : State) → IsSound old.env → Step old line text new → IsSound new.env
step_sound old line text new sound = by (line_of line) refl
  where
    noted : (n : State) → n ≡ noted_state old → IsSound n.env
    noted n e = subst (λ (s : State). IsSound s.env) (sym e) (noted_sound old.env sound)

    refused_one : (command : Command) (fault : LineFault) (client : List ℕ)
        → IsSound (state_after client (refused command fault) old).env
    refused_one (commands.Spectral version) fault client = noted_sound old.env sound
    refused_one (commands.Ring modulus names) fault client = noted_sound old.env sound
    refused_one (commands.Limit limit) fault client = sound
    refused_one (commands.Module name degrees relations) fault client = noted_sound old.env sound
    refused_one (commands.Map name source target matrix) fault client = noted_sound old.env sound
    refused_one (commands.Complex name maps) fault client = noted_sound old.env sound
    refused_one (commands.Let name query) fault client = noted_sound old.env sound
    refused_one (commands.Ask query) fault client = noted_sound old.env sound
    refused_one (commands.Show name) fault client = noted_sound old.env sound
    refused_one (commands.Basis name) fault client = noted_sound old.env sound
    refused_one (commands.Syz name) fault client = noted_sound old.env sound
    refused_one (commands.Member name vector) fault client = noted_sound old.env sound
    refused_one (commands.Lift name vector) fault client = noted_sound old.env sound
    refused_one (commands.Resolve name steps) fault client = noted_sound old.env sound
    refused_one commands.Later fault client = noted_sound old.env sound

    executed : (client : List ℕ) (c : Checked) → IsSoundCheck old.env c → Executed client c old text new → IsSound new.env
    executed client c check h = ended h.end h.run h.given
      where
        ended : (end : Result (Found c) BaseFault) → Run (limit_of old.env.heads) (plan_of c) h.looked end
            → Given client c end (with_looks h.looked old) text new → IsSound new.env
        ended (Ok a) run given =
            let fixed = task_fixed (limit_of old.env.heads) c (check_ready old.env c check) h.looked a run in
            let same : new ≡ state_after client (outcome c a) (with_looks h.looked old) =
            given.2.1 ∙ ap (λ (b : Found c). state_after client (outcome c b) (with_looks h.looked old)) (fixed.1 given.0 given.1) in
            subst (λ (s : State). IsSound s.env) (sym same)
            (outcome_sound client old sound c check (limit_of old.env.heads) h.looked a run (add_all old.looked h.looked))
        ended (Err ends.Memory) run given = absurd given
        ended (Err (ends.Large rows cols)) run given =
            subst (λ (s : State). IsSound s.env) (sym given.1) (noted_sound old.env sound)

    carried : (l : Line) → line_of line ≡ Read l → (r : Result Checked LineFault) → checked old.env l.client l.command ≡ r
        → MatchResult r (λ c. Executed l.client c old text new) (λ fault. Comes l.client (refused l.command fault) old text new)
        → IsSound new.env
    carried l e (Ok c) f h = executed l.client c (checked_sound old.env sound l.client l.command c (line_has line l e) f) h
    carried l e (Err fault) f h =
        subst (λ (s : State). IsSound s.env) (sym h.1) (refused_one l.command fault l.client)

    by : (r : Reading) → line_of line ≡ r → Answered line r old text new → IsSound new.env
    by Silent e h = subst (λ (s : State). IsSound s.env) (sym h.1) sound
    by Malformed e h = noted new h.2.1
    by (Read l) e h = carried l e (checked old.env l.client l.command) refl h
