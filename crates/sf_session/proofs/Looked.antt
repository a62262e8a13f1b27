-- What a session keeps of its names and its table while a line is carried out.
use Rattle.std.proofs.Common.{◌≡◌, Bool, true, false, List, [], refl, sym, ap, ◌∙◌, subst, Result}
use Rattle.sf_algebra.specs.Matrices.{Matrix}
use Rattle.sf_matrix.specs.Runs.{Run}
use Rattle.sf_matrix.specs.Tables.{Table, add_all, matrices_of}
use Rattle.sf_matrix.specs.declared.basis.BaseFault.{BaseFault}
use Rattle.sf_object.specs.Shelves.{GrewOver, Shelved}
use Rattle.sf_script.specs.Headings.{noted}
use Rattle.sf_script.specs.Names.{Env}
use Rattle.sf_script.specs.declared.checked.Checked.TheVariants as checks
use Rattle.sf_script.specs.declared.checked.Checked.{Checked}
use Rattle.sf_script.specs.declared.heads.Heads.TheVariants.{Unopened, Opened, Within}
use Rattle.sf_script.specs.declared.heads.Heads.{Heads}
use Rattle.sf_session.specs.Settling.{Finds, Settles}
use Rattle.sf_session.specs.SoundChecks.{IsGiven, IsSoundCheck}
use Rattle.sf_session.specs.State.{State, LooksOnceNoted, begun, looking}
use Rattle.sf_session.specs.Tasks.{has_list, plan_of}
use Rattle.sf_session.specs.declared.outcome.Outcome.{Outcome}
use Rattle.sf_session.proofs.SessionSteps.{limit_noted, unlooked}
use Rattle.sf_session.proofs.SoundStates.{noted_sound}
use Rattle.sf_session.proofs.Taken.{IsKept}

-- a line with a working list comes in a ring
list_given : (env : Env) (c : Checked) → has_list c ≡ true → IsSoundCheck env c → IsGiven env
list_given env checks.Opens e h = cc
list_given env (checks.Enters ring) e h = cc
list_given env (checks.Limits n) e h = cc
list_given env (checks.Defines name m) e h = cc
list_given env (checks.Maps name f) e h = (h.setting, h.within)
list_given env (checks.Chains name c) e h = (h.setting, h.within)
list_given env (checks.Lets name q) e h = (h.setting, h.within)
list_given env (checks.Asks q) e h = (h.setting, h.within)
list_given env (checks.Shows what) e h = cc
list_given env (checks.Basis m) e h = h
list_given env (checks.Syz m) e h = h
list_given env (checks.Member m v) e h = (h.setting, h.within)
list_given env (checks.Lift m v) e h = (h.setting, h.within)
list_given env (checks.Resolves m k) e h = h

-- the ring is given
abbrev IsWithinSome : Heads → Type 0
IsWithinSome Unopened = ⊥
IsWithinSome Opened = ⊥
IsWithinSome (Within setting) = Unit {0}

-- behind a line that is noted in a ring anything may be looked at
looks_noted : (heads : Heads) (ms : List Matrix) → IsWithinSome heads → LooksOnceNoted (noted heads) ms
looks_noted Unopened ms h = absurd h
looks_noted Opened ms h = absurd h
looks_noted (Within setting) ms h = λ e. cc

-- when its matrices were looked at
pub kept_looked : (c : Checked) (env : Env) (t u : Table) → IsSoundCheck env c → (result : Result Outcome BaseFault)
    → Settles c t result u → (old new : List Shelved) → GrewOver new u → IsKept env old t
    → IsKept (begun (has_list c) env) new u
kept_looked c env t u check result h old new grew kept = by (has_list c) refl
  where
    by : (b : Bool) → has_list c ≡ b → IsKept (begun b env) new u
    by true e =
        let given = list_given env c e check in
        let within : IsWithinSome env.heads = subst IsWithinSome (sym given.1) tt in (
          noted_sound env kept.0,
          kept.1,
          h.met.grown.limit ∙ kept.2 ∙ sym (limit_noted env.heads),
          looks_noted env.heads (matrices_of u.entries) within,
          grew,
        )
    by false e =
        let run = subst (λ n. Run n (plan_of c) h.met.looked h.end) kept.2 h.met.run in
        let none = unlooked [] c (record { env = env; looked = matrices_of t.entries }) t u kept.2 refl h.end h.met.looked run e in
        let same = h.met.grown.matrices ∙ ap (λ ks. add_all (matrices_of t.entries) ks) none in
        (kept.0, kept.1, h.met.grown.limit ∙ kept.2, subst (LooksOnceNoted env.heads) (sym same) kept.3, grew)

-- what was found, and how
pub finds : (c : Checked) (env : Env) (shelf : List Shelved) (t u : Table) → IsKept env shelf t
    → (result : Result Outcome BaseFault) → Settles c t result u → (after : Env) → after ≡ begun (has_list c) env → (old : State) → record { env = env; looked = matrices_of t.entries } ≡ old
    → Finds c old result (record { env = after; looked = matrices_of u.entries })
finds c env shelf t u kept result h after e old view =
    subst (λ (s : State). Finds c s result (record { env = after; looked = matrices_of u.entries })) view (record {
      before = t;
      after = u;
      limit = kept.2;
      looked = refl;
      settled = h;
      state = by (has_list c) e;
    })
  where
    by : (b : Bool) → after ≡ begun b env
        → record { env = after; looked = matrices_of u.entries } ≡ looking b (record { env = env; looked = matrices_of u.entries })
    by true f = ap (λ (new : Env). record { env = new; looked = matrices_of u.entries }) f
    by false f = ap (λ (new : Env). record { env = new; looked = matrices_of u.entries }) f
