-- A line that is refused before anything is looked at.
use Rattle.std.proofs.Common.{◌≡◌, ℕ, ℤ, List, Err, refl, sym, subst}
use Rattle.sf_script.specs.Refusals.{checked}
use Rattle.sf_script.specs.declared.command.Command.TheVariants.{Spectral, Ring, Limit, Module, Map, Complex, Let, Ask, Show, Basis, Syz, Member, Lift, Resolve, Later}
use Rattle.sf_script.specs.declared.command.Command.{Command}
use Rattle.sf_script.specs.declared.fault.LineFault.{LineFault}
use Rattle.sf_session.specs.Outcomes.{refused}
use Rattle.sf_session.specs.Replies.{Carried, Comes}
use Rattle.sf_session.specs.State.{State}
use Rattle.sf_session.specs.declared.outcome.Outcome.TheVariants as outs
use Rattle.sf_session.specs.declared.outcome.Outcome.{Outcome}

-- but for a limit all lines are refused alike
refused_other : (command : Command) (fault : LineFault) → ((limit : ℤ) → command ≡ Limit limit → ⊥)
    → refused command fault ≡ outs.Refuses fault
refused_other (Spectral version) fault other = refl
refused_other (Ring modulus names) fault other = refl
refused_other (Limit limit) fault other = absurd (other limit refl)
refused_other (Module name degrees relations) fault other = refl
refused_other (Map name source target matrix) fault other = refl
refused_other (Complex name maps) fault other = refl
refused_other (Let name query) fault other = refl
refused_other (Ask query) fault other = refl
refused_other (Show name) fault other = refl
refused_other (Basis name) fault other = refl
refused_other (Syz name) fault other = refl
refused_other (Member name vector) fault other = refl
refused_other (Lift name vector) fault other = refl
refused_other (Resolve name steps) fault other = refl
refused_other Later fault other = refl

pub carried_refused : (client : List ℕ) (command : Command) (old new : State) (text : List ℕ) (fault : LineFault)
    → checked old.env client command ≡ Err fault → ((limit : ℤ) → command ≡ Limit limit → ⊥)
    → Comes client (outs.Refuses fault) old text new → Carried client command old text new
carried_refused client command old new text fault e other h =
    rw e (subst (λ (out : Outcome). Comes client out old text new) (sym (refused_other command fault other)) h)
