-- What the calls that make steps have met of their plans.
use Rattle.std.proofs.Common.{◌≡◌, inl, inr, ℕ, suc, ◌+◌, ◌-◌, ◌≤◌, ◌<◌, List, [], ◌∷◌, ◌++◌, length, take, Some, slice_get, Result, IsErrAnd, Ok, Err, refl, sym, ◌∙◌, ap, subst, arith, append-nil, append_assoc}
use Rattle.std.specs.Prelude.{◌⊎◌}
use Rattle.std.proofs.lemmas.List.{length-append, take_all}
use Rattle.std.proofs.lemmas.Option.{none-some, same_Some}
use Rattle.std.proofs.lemmas.Result.{err_from_is_err_and}
use Rattle.sf_algebra.specs.Matrices.{Matrix, row_degrees}
use Rattle.sf_algebra.specs.Rings.{IsRing}
use Rattle.sf_algebra.specs.Vectors.{Vector}
use Rattle.sf_algebra.proofs.Monomials.Weights.{field_ring}
use Rattle.sf_groebner.specs.Resolutions.{IsResolution}
use Rattle.sf_groebner.specs.Small.{IsSmall}
use Rattle.sf_groebner.proofs.Constructions.SmallParts.{small-syzygies}
use Rattle.sf_matrix.specs.declared.basis.BaseFault.TheVariants.{Memory}
use Rattle.sf_matrix.specs.declared.basis.BaseFault.{BaseFault}
use Rattle.sf_matrix.specs.Meets.{Meets}
use Rattle.sf_matrix.specs.Plans.{Plan, answer}
use Rattle.sf_matrix.specs.Runs.{Run}
use Rattle.sf_matrix.specs.Tables.{Table, graph_of}
use Rattle.sf_matrix.proofs.Plans.Readings.{answer_is}
use Rattle.sf_matrix.proofs.Plans.Rules.{meets_cut, meets_fails, meets_then}
use Rattle.sf_genmor.specs.LookPlans.{basis_plan, syzygies_plan}
use Rattle.sf_genmor.specs.PresentationPlans.{IsPresentable, generators_plan, without_rows}
use Rattle.sf_genmor.proofs.LookAnswers.{basis_look, syzygies_look}
use Rattle.sf_genmor.proofs.PresentationSteps.{none-inside}
use Rattle.sf_genmor.proofs.SmallLooks.{HasSmallRows, IsSmallLook, moderate_degrees, small_basis, small_candidates_of, small_look}
use Rattle.sf_object.specs.Kept.{IsKept}
use Rattle.sf_object.specs.ResolutionPlans.{first_step_plan, last_of, minimal_plan, next_step_plan, resolution_plan, step_plan}
use Rattle.sf_object.proofs.Kept.{kept_found, kept_over, meets_kept}
use Rattle.sf_object.proofs.ResolutionRuns.{fewer_kept, later_failed, step_failed, step_met}
use Rattle.sf_resolve.specs.Making.{AreMoreUpTo, first_told}
use Rattle.sf_resolve.proofs.StepAnswers.{resolution_is}

-- the reduced basis of syzygies is small
small_syzygies : (limit : ℕ) (m : Matrix) (looked : List Matrix) (b : Matrix) → Run limit (syzygies_plan m) looked (Ok b)
    → HasSmallRows limit b
unfolding syzygies_plan
small_syzygies limit m looked b run =
    let found = small_look limit m (λ elements. answer (graph_of m elements).syzygies) looked b run in
    subst (HasSmallRows limit) (sym (answer_is limit (graph_of m found.0).syzygies found.1 b found.3))
    (by found.0 found.2 found.2.small)
  where
    by : (elements : List Vector) → IsSmallLook limit m elements → IsSmall limit m elements ⊎ ((m.rows ≡ []) × (elements ≡ []))
        → HasSmallRows limit (graph_of m elements).syzygies
    by elements h (inl small) = inl (
      small-syzygies limit m (field_ring h.looked_at.field) elements small,
      moderate_degrees (row_degrees m) small.size.row_degrees,
    )
    by elements h (inr none) = inr (ap (λ es. (graph_of m es).syzygies.rows) none.1)

-- so its minimal generators may be asked for, and those of the reduced basis of a span
module _ {t u : Table} (m : Matrix) {b : Matrix} where
  pub presentable_basis : Meets t (basis_plan m) (Ok b) u → IsPresentable u.limit b (without_rows b)
  presentable_basis h =
      let found = basis_look t.limit m h.looked b h.run in
      let ring : b.ring ≡ m.ring = ap (λ (x : Matrix). x.ring) found.2 in
      let positive = subst IsRing (sym ring) (field_ring found.1.field) in
      record {
        ring = refl;
        target = refl;
        inside = none-inside b positive;
        candidates =
            small_candidates_of u.limit b (without_rows b)
            (subst (λ limit. HasSmallRows limit b) (sym h.grown.limit) (small_basis t.limit m h.looked b h.run));
      }

  pub presentable_syzygies : Meets t (syzygies_plan m) (Ok b) u → IsPresentable u.limit b (without_rows b)
  presentable_syzygies h =
      let found = syzygies_look t.limit m h.looked b h.run in
      let ring : b.ring ≡ m.ring = ap (λ (x : Matrix). x.ring) found.2 in
      let positive = subst IsRing (sym ring) (field_ring found.1.field) in
      record {
        ring = refl;
        target = refl;
        inside = none-inside b positive;
        candidates =
            small_candidates_of u.limit b (without_rows b)
            (subst (λ limit. HasSmallRows limit b) (sym h.grown.limit) (small_syzygies t.limit m h.looked b h.run));
      }

  -- one step is its look and the question for minimal generators
  pub first_met : {v : Table} {end : Result Matrix BaseFault} → Meets t (basis_plan m) (Ok b) u
      → Meets u (minimal_plan b) end v → Meets t (first_step_plan m) end v
  unfolding first_step_plan basis_plan
  first_met h k = meets_then minimal_plan h k

  pub next_met : {v : Table} {end : Result Matrix BaseFault} → Meets t (syzygies_plan m) (Ok b) u
      → Meets u (minimal_plan b) end v → Meets t (next_step_plan m) end v
  unfolding next_step_plan syzygies_plan
  next_met h k = meets_then minimal_plan h k

module _ {t u : Table} (m : Matrix) {fault : BaseFault} where
  pub first_failed : Meets t (basis_plan m) (Err fault) u → Meets t (first_step_plan m) (Err fault) u
  unfolding first_step_plan basis_plan
  first_failed h = meets_fails minimal_plan h

  pub next_failed : Meets t (syzygies_plan m) (Err fault) u → Meets t (next_step_plan m) (Err fault) u
  unfolding next_step_plan syzygies_plan
  next_failed h = meets_fails minimal_plan h

pub minimal_met : {t u : Table} {end : Result Matrix BaseFault} (basis none : Matrix) → none ≡ without_rows basis
    → Meets t (generators_plan basis none) end u → Meets t (minimal_plan basis) end u
unfolding generators_plan
minimal_met {t} {u} {end} basis none same h = subst (λ n. Meets t (generators_plan basis n) end u) same h

-- the step behind some steps
pub behind_none : {t u : Table} {end : Result Matrix BaseFault} (relations : Matrix) (steps : List Matrix) → steps ≡ []
    → Meets t (first_step_plan relations) end u → Meets t (step_plan relations steps) end u
behind_none {t} {u} {end} relations steps none h = subst (λ ds. Meets t (step_plan relations ds) end u) (sym none) h

last_is : (s : Matrix) (steps : List Matrix) → slice_get (s ∷ steps) (length steps) ≡ Some (last_of s steps)
last_is s [] = refl
last_is s (d ∷ steps) = last_is d steps

pub behind_last : {t u : Table} {end : Result Matrix BaseFault} (relations : Matrix) (steps : List Matrix) (before : Matrix)
    → slice_get steps (length steps - 1) ≡ Some before → Meets t (next_step_plan before) end u
    → Meets t (step_plan relations steps) end u
behind_last relations [] before last h = absurd (none-some before last)
behind_last {t} {u} {end} relations (s ∷ steps) before last h =
    let size : length (s ∷ steps) - 1 ≡ length steps = omega arith in
    let same : before ≡ last_of s steps =
    same_Some before (last_of s steps) (sym last ∙ ap (slice_get (s ∷ steps)) size ∙ last_is s steps) in
    subst (λ d. Meets t (next_step_plan d) end u) same h

-- what holds where the steps up to step i were made behind the first ones
pub record AreMade (t : Table) (relations : Matrix) (before : List Matrix) (i : ℕ) (steps : List Matrix) (u : Table) : Type 0 where
  pub more : List Matrix
  pub same : steps ≡ before ++ more
  pub count : length steps ≡ i
  pub meets : Meets t (resolution_plan relations i) (Ok steps) u

pub made_first : {t : Table} (relations : Matrix) (before : List Matrix)
    → IsKept t (resolution_plan relations (length before)) before → AreMade t relations before (length before) before t
made_first relations before h =
    record { more = []; same = sym (append-nil before); count = refl; meets = meets_kept h }

module _ {t u : Table} (relations : Matrix) (before : List Matrix) (i : ℕ) (steps : List Matrix)
    (made : AreMade t relations before i steps u) where
  pub made_next : {v : Table} (step : Matrix) → Meets u (step_plan relations steps) (Ok step) v
      → AreMade t relations before (i + 1) (steps ++ step ∷ []) v
  made_next {v} step n =
      let count = made.count in
      let longer : length (steps ++ step ∷ []) ≡ length steps + 1 = length-append steps (step ∷ []) in
      let next : suc i ≡ i + 1 = omega arith in
      record {
        more = made.more ++ step ∷ [];
        same = ap (λ ds. ds ++ step ∷ []) made.same ∙ append_assoc before made.more (step ∷ []);
        count = omega arith;
        meets =
            subst (λ j. Meets t (resolution_plan relations j) (Ok (steps ++ step ∷ [])) v) next
            (step_met relations i steps step made.meets n);
      }

  -- the table keeps them
  pub made_kept : IsKept u (resolution_plan relations (length steps)) steps
  made_kept =
      subst (λ j. IsKept u (resolution_plan relations j) steps) (sym made.count) (kept_found made.meets)

  pub kept_after : {v : Table} {end : Result Matrix BaseFault} → Meets u (step_plan relations steps) end v
      → IsKept v (resolution_plan relations (length steps)) steps
  kept_after n = kept_over n made_kept

  pub made_few : (k : ℕ) → i ≤ k → AreMoreUpTo before k steps
  made_few k within =
      let whole : length (before ++ made.more) ≡ length before + length made.more = length-append before made.more in
      let size = ap length made.same in
      let count = made.count in
      record { more = made.more; steps = made.same; few = omega arith }

  -- at step k all are there
  pub made_all : (k : ℕ) → i ≡ k → Meets t (resolution_plan relations k) (Ok (take k steps)) u
  made_all k last =
      let count = made.count in
      subst (λ ds. Meets t (resolution_plan relations k) (Ok ds) u) (sym (take_all k steps (omega arith)))
      (subst (λ j. Meets t (resolution_plan relations j) (Ok steps) u) last made.meets)

  -- a fault before step k
  pub made_failed : {v : Table} (k : ℕ) {fault : BaseFault} → i < k → Meets u (step_plan relations steps) (Err fault) v
      → Meets t (resolution_plan relations k) (Err fault) v
  made_failed k below n = later_failed relations (suc i) k (omega arith) (step_failed relations i steps made.meets n)

  -- memory is wanting for a step that was found
  pub made_cut : {v : Table} (k : ℕ) (step : Matrix) → i < k → Meets u (step_plan relations steps) (Ok step) v
      → Meets t (resolution_plan relations k) (Err Memory) v
  made_cut k step below n = made_failed k below (meets_cut n)

-- where all were there, nothing is looked at
pub found_all : {t : Table} (relations : Matrix) (k : ℕ) (steps : List Matrix) → k ≤ length steps
    → IsKept t (resolution_plan relations (length steps)) steps
    → Meets t (resolution_plan relations k) (Ok (take k steps)) t
found_all relations k steps enough h = meets_kept (fewer_kept relations k (length steps) steps enough h)

pub found_few : (k : ℕ) (steps : List Matrix) → AreMoreUpTo steps k steps
found_few k steps = record { more = []; steps = sym (append-nil steps); few = omega arith }

-- the steps as a slice has them
pub at_slice : {t u : Table} {end : Result Matrix BaseFault} (relations : Matrix) (slice steps : List Matrix) → slice ≡ steps
    → Meets t (step_plan relations slice) end u → Meets t (step_plan relations steps) end u
at_slice {t} {u} {end} relations slice steps same h = subst (λ ds. Meets t (step_plan relations ds) end u) same h

-- a fault that `?` hands on
pub told_exit : {t u : Table} {plan : Plan (List Matrix)} {fault : BaseFault} (r : Result (Unit {0}) BaseFault) (k : ℕ)
    (steps : List Matrix) → IsErrAnd r (λ e. e ≡ fault) → Meets t plan (Err fault) u → Meets t plan (first_told k steps r) u
told_exit {t} {u} {plan} r k steps exit h =
    let p = err_from_is_err_and r exit in subst (λ q. Meets t plan (first_told k steps q) u) (sym (p.1 ∙ ap Err p.2)) h

-- what a table keeps is the resolution
pub kept_resolution : {t : Table} (relations m : Matrix) (k : ℕ) (steps : List Matrix) → relations ≡ m
    → IsKept t (resolution_plan relations k) steps → IsResolution m steps
kept_resolution {t} relations m k steps same h =
    subst (λ r. IsResolution r steps) same (resolution_is t.limit relations k h.looked steps h.run)
