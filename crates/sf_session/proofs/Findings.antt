-- What a session has carried out when it found through its table what comes of a line.
use Rattle.std.proofs.Common.{◌≡◌, ◌⊎◌, ℕ, List, [], Result, Ok, Err, IfOk, sym, subst}
use Rattle.sf_matrix.specs.declared.basis.BaseFault.TheVariants.{Large}
use Rattle.sf_matrix.specs.declared.basis.BaseFault.{BaseFault}
use Rattle.sf_script.specs.SmallTerms.{HasSmallTerms}
use Rattle.sf_script.specs.declared.checked.Checked.{Checked}
use Rattle.sf_script.specs.declared.fault.LineFault.TheVariants as faults
use Rattle.sf_session.specs.Cuts.{IsCut}
use Rattle.sf_session.specs.Outcomes.{state_after}
use Rattle.sf_session.specs.Replies.{Comes, Executed}
use Rattle.sf_session.specs.Settling.{Finds, MayCome}
use Rattle.sf_session.specs.Sound.{IsSound}
use Rattle.sf_session.specs.SoundChecks.{IsSoundCheck}
use Rattle.sf_session.specs.State.{State, LooksOnceNoted}
use Rattle.sf_session.specs.declared.outcome.Outcome.TheVariants as outs
use Rattle.sf_session.specs.declared.outcome.Outcome.{Outcome}
use Rattle.sf_session.proofs.SessionComing.{may_come}
use Rattle.sf_session.proofs.SessionSteps.{cut, executed, executed_large, outcome_kept}
use Rattle.sf_session.proofs.SoundStates.{check_ready}

module _ (client : List ℕ) (c : Checked) (old begun : State) where
  -- the line is answered
  pub executed_found : IsSoundCheck old.env c → (out : Outcome) → Finds c old (Ok out) begun → (text : List ℕ) (new : State)
      → Comes client out begun text new → Executed client c old text new
  executed_found check out h text new comes =
      executed client c old h.before h.after h.limit h.looked (check_ready old.env c check) out h.settled text new
      (subst (λ (s : State). Comes client out s text new) h.state comes)

  -- a matrix isn't small
  pub executed_large_found : (rows cols : ℕ) → Finds c old (Err (Large rows cols)) begun → (text : List ℕ) (new : State)
      → Comes [] (outs.Refuses (faults.Large rows cols)) begun text new → Executed client c old text new
  executed_large_found rows cols h text new comes =
      executed_large client c old h.before h.after h.limit h.looked rows cols h.settled text new
      (subst (λ (s : State). Comes [] (outs.Refuses (faults.Large rows cols)) s text new) h.state comes)

  -- memory was wanting, for the looks or for the text
  pub cut_found : (result : Result Outcome BaseFault) → Finds c old result begun → (begun ≡ old) ⊎ IsCut c old begun
  cut_found result h = cut client c old h.before h.after h.limit h.looked result h.settled begun h.state

module _ (c : Checked) (old begun : State) (sound : IsSound old.env) (check : IsSoundCheck old.env c) where
  -- the state after what comes of it is sound
  pub sound_found : (result : Result Outcome BaseFault) → Finds c old result begun
      → IfOk result (λ (out : Outcome). (client : List ℕ) → IsSound (state_after client out begun).env)
  sound_found (Ok out) h = λ client.
      subst (λ (s : State). IsSound (state_after client out s).env) (sym h.state)
      (outcome_kept client c old h.before h.after h.limit h.looked sound check out h.settled)
  sound_found (Err fault) h = tt

  -- and it may come
  pub early_found : HasSmallTerms c → LooksOnceNoted old.env.heads old.looked → (result : Result Outcome BaseFault)
      → Finds c old result begun → IfOk result (λ (out : Outcome). MayCome out begun)
  early_found small once (Ok out) h =
      subst (MayCome out) (sym h.state)
      (may_come c old h.before h.after h.limit h.looked sound check small once out h.settled)
  early_found small once (Err fault) h = tt
