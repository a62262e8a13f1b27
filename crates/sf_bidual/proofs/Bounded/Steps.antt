-- The steps of a resolution without an end: over n variables each is over n variables, and step n has no rows.
use Rattle.std.proofs.Common.{◌≡◌, ◌≤◌, ℕ, zero, suc, List, [], ◌∷◌, drop, refl, sym, subst}
use Rattle.std.specs.List.{AllByRecursion}
use Rattle.sf_algebra.specs.Matrices.{Matrix, IsMatrix}
use Rattle.sf_algebra.specs.Monomials.{VARIABLES}
use Rattle.sf_algebra.specs.Rings.{IsRing, IsOverField}
use Rattle.sf_algebra.proofs.Monomials.Weights.{field_ring}
use Rattle.sf_groebner.specs.Presentations.{IsZero}
use Rattle.sf_groebner.specs.Resolutions.{AreNextSteps, IsFirstStep, IsNextStep}
use Rattle.sf_groebner.specs.Spans.{InSpan, IsSyzygy}
use Rattle.sf_variables.specs.Variables.{IsMatrixInVariables}
use Rattle.sf_variables.proofs.Presenting.MatrixBases.{minimal_in_variables, span_in_variables, syzygies_in_variables}
use Rattle.sf_hilbert.proofs.Exactness.Bound.{ends_after_variables}

-- the first k of a sequence of matrices
abbrev first_steps : (ℕ → Matrix) → ℕ → List Matrix
first_steps steps zero = []
first_steps steps (suc k) = steps 0 ∷ first_steps (λ j. steps (suc j)) k

drop-first_steps : (steps : ℕ → Matrix) (n : ℕ) → drop n (first_steps steps (suc n)) ≡ steps n ∷ []
drop-first_steps steps zero = refl
drop-first_steps steps (suc n) = drop-first_steps (λ j. steps (suc j)) n

AreNextSteps-first : (before : Matrix) (steps : ℕ → Matrix) → IsNextStep before (steps 0)
    → ((i : ℕ) → IsNextStep (steps i) (steps (suc i))) → (k : ℕ) → AreNextSteps before (first_steps steps k)
AreNextSteps-first before steps here next zero = tt
AreNextSteps-first before steps here next (suc k) =
    (here, AreNextSteps-first (steps 0) (λ j. steps (suc j)) (next 0) (λ j. next (suc j)) k)

module _ (n : ℕ) (relations : Matrix) (prime : IsOverField relations.ring) (keeps : IsMatrixInVariables n relations)
    (steps : ℕ → Matrix) (first : IsFirstStep relations (steps 0))
    (next : (i : ℕ) → IsNextStep (steps i) (steps (suc i))) where
  step-ring : (i : ℕ) → IsRing (steps i).ring
  step-ring zero = subst IsRing (sym first.ring) (field_ring prime)
  step-ring (suc i) = subst IsRing (sym (next i).ring) (step-ring i)

  pub each_step_in_variables : (i : ℕ) → IsMatrixInVariables n (steps i)
  each_step_in_variables zero =
      minimal_in_variables relations.ring n (InSpan relations) IsZero
      (span_in_variables n relations (field_ring prime) keeps) (steps 0).rows first.minimal
  each_step_in_variables (suc i) =
      minimal_in_variables (steps i).ring n (IsSyzygy (steps i)) IsZero
      (syzygies_in_variables n (steps i) (step-ring i) (each_step_in_variables i)) (steps (suc i)).rows (next i).minimal

  pub step_past_variables : 1 ≤ n → n ≤ VARIABLES → IsMatrix relations → (steps n).rows ≡ []
  step_past_variables some few matrix =
      let all = ends_after_variables n some few relations prime matrix keeps (first_steps steps (suc n))
      (first, AreNextSteps-first (steps 0) (λ j. steps (suc j)) (next 0) (λ j. next (suc j)) n) in
      (subst (AllByRecursion (λ (step : Matrix). step.rows ≡ [])) (drop-first_steps steps n) all).0
