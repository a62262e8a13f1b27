-- The runs of the plan of a resolution, one step after another.
use Rattle.std.proofs.Common.{◌≡◌, inl, inr, ℕ, zero, suc, ◌+◌, ◌≤◌, List, [], ◌∷◌, ◌++◌, length, take, Ok, Err, refl, sym, ◌∙◌, ap, subst, arith}
use Rattle.std.specs.Prelude.{◌⊎◌}
use Rattle.std.proofs.lemmas.List.{length-append, take-append-le, take_all}
use Rattle.sf_algebra.specs.Matrices.{Matrix}
use Rattle.sf_matrix.specs.declared.basis.BaseFault.{BaseFault}
use Rattle.sf_matrix.specs.Meets.{Meets}
use Rattle.sf_matrix.specs.Plans.{Plan, answer, bind}
use Rattle.sf_matrix.specs.Runs.{Run, ends}
use Rattle.sf_matrix.specs.Tables.{Table}
use Rattle.sf_matrix.proofs.Plans.Readings.{answer_is, bind_is}
use Rattle.sf_matrix.proofs.Plans.Rules.{meets_answer, meets_fails, meets_then}
use Rattle.sf_object.specs.Kept.{IsKept}
use Rattle.sf_object.specs.ResolutionPlans.{resolution_plan, step_plan}
use Rattle.sf_object.proofs.Kept.{kept_both, kept_found, meets_kept}

-- the steps with one more
abbrev with_step : List Matrix → Matrix → Plan (List Matrix)
with_step steps step = answer (steps ++ step ∷ [])

abbrev one_more : Matrix → List Matrix → Plan (List Matrix)
one_more relations steps = bind (step_plan relations steps) (with_step steps)

-- the steps but the last one, and the last one
pub record HasLastStep (limit : ℕ) (relations : Matrix) (k : ℕ) (steps : List Matrix) : Type 0 where
  pub earlier : List Matrix
  pub step : Matrix
  pub looked : List Matrix
  pub others : List Matrix
  pub first : Run limit (resolution_plan relations k) looked (Ok earlier)
  pub last : Run limit (step_plan relations earlier) others (Ok step)
  pub same : steps ≡ earlier ++ step ∷ []

pub last_step : (limit : ℕ) (relations : Matrix) (k : ℕ) (looked steps : List Matrix)
    → Run limit (resolution_plan relations (suc k)) looked (Ok steps) → HasLastStep limit relations k steps
unfolding resolution_plan
last_step limit relations k looked steps run =
    let parts = bind_is limit (resolution_plan relations k) (one_more relations) looked steps run in
    let last = bind_is limit (step_plan relations parts.0) (with_step parts.0) parts.2 steps parts.4 in
    record {
      earlier = parts.0;
      step = last.0;
      looked = parts.1;
      others = last.1;
      first = parts.3;
      last = last.3;
      same = answer_is limit (parts.0 ++ last.0 ∷ []) last.2 steps last.4;
    }

pub no_step : (limit : ℕ) (relations : Matrix) (looked steps : List Matrix)
    → Run limit (resolution_plan relations zero) looked (Ok steps) → steps ≡ []
unfolding resolution_plan
no_step limit relations looked steps run = answer_is limit [] looked steps run

-- there are as many as were asked for
pub length_first : (limit : ℕ) (relations : Matrix) (k : ℕ) (looked steps : List Matrix)
    → Run limit (resolution_plan relations k) looked (Ok steps) → length steps ≡ k
length_first limit relations zero looked steps run = ap length (no_step limit relations looked steps run)
length_first limit relations (suc k) looked steps run =
    let h = last_step limit relations k looked steps run in
    let earlier = length_first limit relations k h.looked h.earlier h.first in
    let whole : length (h.earlier ++ h.step ∷ []) ≡ length h.earlier + 1 = length-append h.earlier (h.step ∷ []) in
    ap length h.same ∙ omega arith

module _ {t u : Table} (relations : Matrix) (k : ℕ) where
  -- a fault at a step is one of the whole
  pub step_failed : {v : Table} {fault : BaseFault} (steps : List Matrix) → Meets t (resolution_plan relations k) (Ok steps) u
      → Meets u (step_plan relations steps) (Err fault) v → Meets t (resolution_plan relations (suc k)) (Err fault) v
  unfolding resolution_plan
  step_failed steps h n = meets_then (one_more relations) h (meets_fails (with_step steps) n)

  pub step_met : {v : Table} (steps : List Matrix) (step : Matrix) → Meets t (resolution_plan relations k) (Ok steps) u
      → Meets u (step_plan relations steps) (Ok step) v
      → Meets t (resolution_plan relations (suc k)) (Ok (steps ++ step ∷ [])) v
  unfolding resolution_plan
  step_met steps step h n = meets_then (one_more relations) h (meets_then (with_step steps) n (meets_answer refl))

  one_failed : {fault : BaseFault} → Meets t (resolution_plan relations k) (Err fault) u
      → Meets t (resolution_plan relations (suc k)) (Err fault) u
  unfolding resolution_plan
  one_failed h = meets_fails (one_more relations) h

last_or_before : (k n : ℕ) → k ≤ suc n → (k ≡ suc n) ⊎ (k ≤ n)
last_or_before zero n h = inr (omega arith)
last_or_before (suc k) zero h = inl (omega arith)
last_or_before (suc k) (suc n) h = elim (last_or_before k n (omega arith)) [
  | inl same ↦ inl (ap suc same)
  | inr before ↦ inr (omega arith)
]

-- a fault among the first steps is one of more steps
pub later_failed : {t u : Table} (relations : Matrix) (k n : ℕ) {fault : BaseFault} → k ≤ n
    → Meets t (resolution_plan relations k) (Err fault) u → Meets t (resolution_plan relations n) (Err fault) u
later_failed {t} {u} relations k zero {fault} within h =
    let same : k ≡ zero = omega arith in subst (λ i. Meets t (resolution_plan relations i) (Err fault) u) same h
later_failed {t} {u} relations k (suc n) {fault} within h =
    elim (last_or_before k n within) [
      | inl same ↦ subst (λ i. Meets t (resolution_plan relations i) (Err fault) u) same h
      | inr before ↦ one_failed relations n (later_failed relations k n before h)
    ]

-- no step is kept of any module
pub kept_none : (t : Table) (relations : Matrix) → IsKept t (resolution_plan relations zero) []
unfolding resolution_plan
kept_none t relations = record { looked = []; run = ends; there = tt }

-- the steps that a table keeps are as many as were asked for
pub length_kept : {t : Table} (relations : Matrix) (k : ℕ) (steps : List Matrix) → IsKept t (resolution_plan relations k) steps
    → length steps ≡ k
length_kept {t} relations k steps h = length_first t.limit relations k h.looked steps h.run

-- one step more
pub step_kept : {t u : Table} (relations : Matrix) (k : ℕ) (steps : List Matrix) (step : Matrix)
    → IsKept t (resolution_plan relations k) steps → Meets t (step_plan relations steps) (Ok step) u
    → IsKept u (resolution_plan relations (suc k)) (steps ++ step ∷ [])
step_kept relations k steps step h n = kept_found (step_met relations k steps step (meets_kept h) n)

-- fewer steps are kept where some are
record AreEarlierKept (t : Table) (relations : Matrix) (k : ℕ) (steps : List Matrix) : Type 0 where
  earlier : List Matrix
  step : Matrix
  kept : IsKept t (resolution_plan relations k) earlier
  same : steps ≡ earlier ++ step ∷ []

earlier_kept : {t : Table} (relations : Matrix) (k : ℕ) (steps : List Matrix) → IsKept t (resolution_plan relations (suc k)) steps
    → AreEarlierKept t relations k steps
unfolding resolution_plan
earlier_kept {t} relations k steps h =
    let parts = kept_both (resolution_plan relations k) (one_more relations) h in
    let last = kept_both (step_plan relations parts.first) (with_step parts.first) parts.behind in
    record {
      earlier = parts.first;
      step = last.first;
      kept = parts.kept;
      same = answer_is t.limit (parts.first ++ last.first ∷ []) last.behind.looked steps last.behind.run;
    }

whole_kept : {t : Table} (relations : Matrix) (k n : ℕ) (steps : List Matrix) → k ≡ n
    → IsKept t (resolution_plan relations n) steps → IsKept t (resolution_plan relations k) (take k steps)
whole_kept {t} relations k n steps same h =
    let size = length_kept relations n steps h in
    subst (λ i. IsKept t (resolution_plan relations i) (take k steps)) (sym same)
    (subst (IsKept t (resolution_plan relations n)) (sym (take_all k steps (omega arith))) h)

pub fewer_kept : {t : Table} (relations : Matrix) (k n : ℕ) (steps : List Matrix) → k ≤ n
    → IsKept t (resolution_plan relations n) steps → IsKept t (resolution_plan relations k) (take k steps)
fewer_kept {t} relations k zero steps within h = whole_kept relations k zero steps (omega arith) h
fewer_kept {t} relations k (suc n) steps within h =
    elim (last_or_before k n within) [
      | inl same ↦ whole_kept relations k (suc n) steps same h
      | inr before ↦
          let e = earlier_kept relations n steps h in
          let size = length_kept relations n e.earlier e.kept in
          subst (IsKept t (resolution_plan relations k))
          (sym (take-append-le k e.earlier (e.step ∷ []) (omega arith)) ∙ ap (take k) (sym e.same))
          (fewer_kept relations k n e.earlier before e.kept)
    ]
