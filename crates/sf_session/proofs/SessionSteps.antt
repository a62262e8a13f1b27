-- What a session has carried out at each of its exits.
use Rattle.std.proofs.Common.{◌≡◌, ◌⊎◌, inl, inr, ℕ, Bool, true, false, List, [], Some, None, Result, Ok, Err, refl, sym, ap, ◌∙◌, subst, append-nil, IsTrue}
use Rattle.sf_algebra.specs.Matrices.{Matrix}
use Rattle.sf_matrix.specs.Meets.{Meets}
use Rattle.sf_matrix.specs.Plans.{answer}
use Rattle.sf_matrix.specs.Runs.{Run, IsWhole, Agrees}
use Rattle.sf_matrix.specs.Runs.Run.{ends, stops}
use Rattle.sf_script.specs.declared.fault.LineFault.TheVariants as faults
use Rattle.sf_matrix.specs.Tables.{Table, add_all, matrices_of}
use Rattle.sf_matrix.specs.declared.basis.BaseFault.TheVariants.{Memory, Large}
use Rattle.sf_matrix.specs.declared.basis.BaseFault.{BaseFault}
use Rattle.sf_matrix.proofs.Plans.Existence.{run_exists}
use Rattle.sf_matrix.proofs.Plans.Uniqueness.{run_unique}
use Rattle.sf_script.specs.Headings.{noted}
use Rattle.sf_script.specs.declared.checked.Checked.TheVariants as checks
use Rattle.sf_script.specs.declared.checked.Checked.{Checked}
use Rattle.sf_script.specs.declared.heads.Heads.TheVariants.{Unopened, Opened, Within}
use Rattle.sf_script.specs.declared.heads.Heads.{Heads}
use Rattle.sf_session.specs.Cuts.{IsCut}
use Rattle.sf_session.specs.Outcomes.{outcome, outcome_text, state_after}
use Rattle.sf_session.specs.Replies.{Comes, Executed}
use Rattle.sf_session.specs.Settling.{Settles, IsOutcomeOf}
use Rattle.sf_session.specs.Sound.{IsSound}
use Rattle.sf_session.specs.SoundChecks.{IsSoundCheck}
use Rattle.sf_session.specs.State.{State, limit_of, looking, noted_state, variables_of, with_looks}
use Rattle.sf_session.specs.Tasks.{Found, has_list, plan_of}
use Rattle.sf_session.specs.declared.outcome.Outcome.TheVariants as outs
use Rattle.sf_session.specs.declared.outcome.Outcome.{Outcome}
use Rattle.sf_session.proofs.SoundStates.{outcome_sound}
use Rattle.sf_session.proofs.TaskAnswers.{IsReady, task_fixed}

-- to note a line twice is to note it once
pub noted_twice : (heads : Heads) → noted (noted heads) ≡ noted heads
noted_twice Unopened = refl
noted_twice Opened = refl
noted_twice (Within setting) = refl

pub variables_noted : (heads : Heads) → variables_of (noted heads) ≡ variables_of heads
variables_noted Unopened = refl
variables_noted Opened = refl
variables_noted (Within setting) = refl

pub limit_noted : (heads : Heads) → limit_of (noted heads) ≡ limit_of heads
limit_noted Unopened = refl
limit_noted Opened = refl
limit_noted (Within setting) = refl

-- what comes of lines with a working list: they are noted whatever comes
abbrev pub IsNoting : Outcome → Type 0
IsNoting (outs.Tells reply) = Unit {0}
IsNoting outs.Opens = ⊥
IsNoting (outs.Enters ring) = ⊥
IsNoting (outs.Limits limit) = ⊥
IsNoting (outs.Defines name what) = Unit {0}
IsNoting (outs.Refuses fault) = Unit {0}
IsNoting (outs.Bars fault) = ⊥

noting : (c : Checked) → has_list c ≡ true → (a : Found c) → IsNoting (outcome c a)
noting checks.Opens e a = cc
noting (checks.Enters ring) e a = cc
noting (checks.Limits n) e a = cc
noting (checks.Defines name m) e a = cc
noting (checks.Maps name f) e None = tt
noting (checks.Maps name f) e (Some k) = tt
noting (checks.Chains name c) e None = tt
noting (checks.Chains name c) e (Some k) = tt
noting (checks.Lets name q) e a = tt
noting (checks.Asks q) e a = tt
noting (checks.Shows what) e a = cc
noting (checks.Basis m) e a = tt
noting (checks.Syz m) e a = tt
noting (checks.Member m v) e a = tt
noting (checks.Lift m v) e None = tt
noting (checks.Lift m v) e (Some c) = tt
noting (checks.Resolves m k) e a = tt

-- such an outcome leaves the same, whether or not the line was noted before
pub after_noted : (client : List ℕ) (out : Outcome) (s : State) → IsNoting out
    → state_after client out (noted_state s) ≡ state_after client out s
after_noted client (outs.Tells reply) s h = ap (λ heads. record s { env = record s.env { heads = heads } }) (noted_twice s.env.heads)
after_noted client outs.Opens s h = absurd h
after_noted client (outs.Enters ring) s h = absurd h
after_noted client (outs.Limits limit) s h = absurd h
after_noted client (outs.Defines name what) s h =
    ap (λ heads. record (state_after client (outs.Defines name what) s) { env = record (state_after client (outs.Defines name what) s).env { heads = heads } })
    (noted_twice s.env.heads)
after_noted client (outs.Refuses fault) s h = ap (λ heads. record s { env = record s.env { heads = heads } }) (noted_twice s.env.heads)
after_noted client (outs.Bars fault) s h = absurd h

came : (client : List ℕ) (out : Outcome) (b : Bool) (s : State) → (b ≡ true → IsNoting out) → (text : List ℕ) (new : State)
    → Comes client out (looking b s) text new → Comes client out s text new
came client out true s h text new k =
    (k.0 ∙ ap (λ names. outcome_text names out) (variables_noted s.env.heads), k.1 ∙ after_noted client out s (h refl))
came client out false s h text new k = k

module _ (client : List ℕ) (c : Checked) (old : State) (t u : Table) (limit : t.limit ≡ limit_of old.env.heads)
    (before : matrices_of t.entries ≡ old.looked) where
  -- the state after the looks
  abbrev pub seen : State
  seen = record old { looked = matrices_of u.entries }

  with_these : (looked : List Matrix) → matrices_of u.entries ≡ add_all (matrices_of t.entries) looked → seen ≡ with_looks looked old
  with_these looked e = ap (λ ms. record old { looked = ms }) (e ∙ ap (λ ms. add_all ms looked) before)

  -- the line is answered
  pub executed : IsReady c → (out : Outcome) → Settles c t (Ok out) u → (text : List ℕ) (new : State)
      → Comes client out (looking (has_list c) seen) text new → Executed client c old text new
  executed ready out h text new k = by h.end h.met h.told
    where
      by : (end : Result (Found c) BaseFault) → Meets t (plan_of c) end u
          → IsOutcomeOf c end (Ok out) → Executed client c old text new
      by (Ok a) met told =
          let run = subst (λ n. Run n (plan_of c) met.looked (Ok a)) limit met.run in
          let fixed = task_fixed (limit_of old.env.heads) c ready met.looked a run in
          let came_of : Comes client (outcome c a) (looking (has_list c) seen) text new =
          subst (λ (o : Outcome). Comes client o (looking (has_list c) seen) text new) told k in
          let shown = came client (outcome c a) (has_list c) seen (λ e. noting c e a) text new came_of in
          record {
            looked = met.looked;
            end = Ok a;
            run = run;
            given = (
              a,
              fixed.0,
              subst (λ (s : State). Comes client (outcome c a) s text new) (with_these met.looked met.grown.matrices) shown,
            );
          }
      by (Err fault) met told = absurd told

  -- a matrix isn't small
  pub executed_large : (rows cols : ℕ) → Settles c t (Err (Large rows cols)) u → (text : List ℕ) (new : State)
      → Comes [] (outs.Refuses (faults.Large rows cols)) (looking (has_list c) seen) text new → Executed client c old text new
  executed_large rows cols h text new k = by h.end h.met h.told
    where
      by : (end : Result (Found c) BaseFault) → Meets t (plan_of c) end u → IsOutcomeOf c end (Err (Large rows cols))
          → Executed client c old text new
      by (Ok a) met told = absurd told
      by (Err fault) met told =
          let met_large = subst (λ (f : BaseFault). Meets t (plan_of c) (Err f) u) (sym told) met in
          let run = subst (λ n. Run n (plan_of c) met_large.looked (Err (Large rows cols))) limit met_large.run in
          let shown = came client (outs.Refuses (faults.Large rows cols)) (has_list c) seen (λ e. tt) text new k in
          record {
            looked = met_large.looked;
            end = Err (Large rows cols);
            run = run;
            given = subst (λ (s : State). Comes client (outs.Refuses (faults.Large rows cols)) s text new)
                (with_these met_large.looked met_large.grown.matrices) shown;
          }

  -- memory is wanting: the looks are the first of a whole run
  cut_run : (looked : List Matrix) (end : Result (Found c) BaseFault) → Run (limit_of old.env.heads) (plan_of c) looked end
      → matrices_of u.entries ≡ add_all (matrices_of t.entries) looked → IsTrue (has_list c) → (new : State)
      → new ≡ noted_state seen → IsCut c old new
  cut_run looked end run grown list new e =
      let found = run_exists (limit_of old.env.heads) (plan_of c) in
      let state : new ≡ noted_state (with_looks looked old) = e ∙ ap noted_state (with_these looked grown) in
      by found.0 found.1 found.2 found.3 end run
      (run_unique (limit_of old.env.heads) (plan_of c) found.0 looked found.1 end found.3 found.2 run) state
    where
      all_looked : (ms : List Matrix) (finish : Result (Found c) BaseFault) → IsWhole finish
          → Run (limit_of old.env.heads) (plan_of c) ms finish → looked ≡ ms → new ≡ noted_state (with_looks looked old)
          → IsCut c old new
      all_looked ms finish done run same state = record {
        list = list;
        looked = ms;
        more = [];
        end = finish;
        whole = done;
        run = subst (λ (ks : List Matrix). Run (limit_of old.env.heads) (plan_of c) ks finish) (sym (append-nil ms)) run;
        state = state ∙ ap (λ ks. noted_state (with_looks ks old)) same;
      }

      by : (ms : List Matrix) (finish : Result (Found c) BaseFault) → IsWhole finish
          → Run (limit_of old.env.heads) (plan_of c) ms finish → (other : Result (Found c) BaseFault)
          → Run (limit_of old.env.heads) (plan_of c) looked other → Agrees ms finish looked other
          → new ≡ noted_state (with_looks looked old) → IsCut c old new
      by ms finish done run (Ok a) other same state = all_looked ms finish done run same.0 state
      by ms finish done run (Err Memory) other same state = record {
        list = list;
        looked = looked;
        more = same.0;
        end = finish;
        whole = done;
        run = subst (λ (ks : List Matrix). Run (limit_of old.env.heads) (plan_of c) ks finish) same.1 run;
        state = state;
      }
      by ms finish done run (Err (Large rows cols)) other same state = all_looked ms finish done run same.0 state

  -- a line without a working list looks at nothing
  pub unlooked : (end : Result (Found c) BaseFault) (looked : List Matrix) → Run (limit_of old.env.heads) (plan_of c) looked end
      → has_list c ≡ false → looked ≡ []
  unlooked end looked run e = by c end looked run e
    where
      answered : {A : Type 0} (limit : ℕ) (a : A) (end : Result A BaseFault) (looked : List Matrix) → Run limit (answer a) looked end
          → looked ≡ []
      answered limit a end looked ends = refl
      answered limit a end looked stops = refl

      by : (c : Checked) (end : Result (Found c) BaseFault) (looked : List Matrix) → Run (limit_of old.env.heads) (plan_of c) looked end
          → has_list c ≡ false → looked ≡ []
      by checks.Opens end looked run e = answered _ tt end looked run
      by (checks.Enters ring) end looked run e = answered _ tt end looked run
      by (checks.Limits n) end looked run e = answered _ tt end looked run
      by (checks.Defines name m) end looked run e = answered _ tt end looked run
      by (checks.Maps name f) end looked run e = cc
      by (checks.Chains name c) end looked run e = cc
      by (checks.Lets name q) end looked run e = cc
      by (checks.Asks q) end looked run e = cc
      by (checks.Shows what) end looked run e = answered _ tt end looked run
      by (checks.Basis m) end looked run e = cc
      by (checks.Syz m) end looked run e = cc
      by (checks.Member m v) end looked run e = cc
      by (checks.Lift m v) end looked run e = cc
      by (checks.Resolves m k) end looked run e = cc

  -- memory was wanting on the way, or for the text
  pub cut : (result : Result Outcome BaseFault) → Settles c t result u → (new : State) → new ≡ looking (has_list c) seen
      → (new ≡ old) ⊎ IsCut c old new
  cut result h new e = by (has_list c) refl e
    where
      run : Run (limit_of old.env.heads) (plan_of c) h.met.looked h.end
      run = subst (λ n. Run n (plan_of c) h.met.looked h.end) limit h.met.run

      by : (b : Bool) → has_list c ≡ b → new ≡ looking b seen → (new ≡ old) ⊎ IsCut c old new
      by true f g = inr (cut_run h.met.looked h.end run h.met.grown.matrices f new g)
      by false f g =
          let none : h.met.looked ≡ [] = unlooked h.end h.met.looked run f in
          inl (g ∙ with_these h.met.looked h.met.grown.matrices ∙ ap (λ ks. with_looks ks old) none)

  -- what comes of a line leaves a sound state
  pub outcome_kept : IsSound old.env → IsSoundCheck old.env c → (out : Outcome) → Settles c t (Ok out) u
      → IsSound (state_after client out (looking (has_list c) seen)).env
  outcome_kept sound check out h = by h.end h.met h.told
    where
      noting_same : (b : Bool) → has_list c ≡ b → (a : Found c)
          → state_after client (outcome c a) (looking b seen) ≡ state_after client (outcome c a) seen
      noting_same true e a = after_noted client (outcome c a) seen (noting c e a)
      noting_same false e a = refl

      by : (end : Result (Found c) BaseFault) → Meets t (plan_of c) end u → IsOutcomeOf c end (Ok out)
          → IsSound (state_after client out (looking (has_list c) seen)).env
      by (Ok a) met told =
          let run = subst (λ n. Run n (plan_of c) met.looked (Ok a)) limit met.run in
          let after = outcome_sound client old sound c check (limit_of old.env.heads) met.looked a run (matrices_of u.entries) in
          subst (λ (o : Outcome). IsSound (state_after client o (looking (has_list c) seen)).env) (sym told)
          (subst (λ (s : State). IsSound s.env) (sym (noting_same (has_list c) refl a)) after)
      by (Err fault) met told = absurd told
