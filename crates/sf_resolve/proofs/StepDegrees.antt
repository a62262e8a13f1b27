-- The steps that the plan answers are matrices, and their rows have degrees that exceed those of small matrices by at most the limit:
-- each step but the last was looked at, so its degrees are small, and the leads of what is found are within the limit.
use Rattle.std.proofs.Common.{◌≡◌, inl, inr, ℕ, zero, suc, List, [], ◌∷◌, Ok, refl, sym, ◌∙◌, ap, subst, map}
use Rattle.std.specs.Prelude.{◌⊎◌}
use Rattle.std.specs.List.{AllByRecursion}
use Rattle.sf_algebra.specs.Bounds.{IsSmallDegree}
use Rattle.sf_algebra.specs.Matrices.{Matrix, IsMatrix, row_degrees}
use Rattle.sf_algebra.specs.Vectors.{Vector, IsVector}
use Rattle.sf_algebra.proofs.Basics.Lists.{AllByRecursion-append}
use Rattle.sf_algebra.proofs.Monomials.Weights.{field_ring}
use Rattle.sf_groebner.specs.Small.{IsSmallReducedBasis}
use Rattle.sf_groebner.specs.Spans.{InSpan}
use Rattle.sf_groebner.proofs.Constructions.SmallParts.{small-syzygies, small-values}
use Rattle.sf_groebner.proofs.Uniqueness.PresentedModules.{AllByRecursion-kept}
use Rattle.sf_matrix.specs.Runs.{Run}
use Rattle.sf_matrix.specs.Tables.{graph_of}
use Rattle.sf_genmor.specs.PresentationDegrees.{IsDegreeUpTo}
use Rattle.sf_genmor.specs.PresentationPlans.{generators_plan, without_rows}
use Rattle.sf_genmor.proofs.PresentationAnswers.{generators_are}
use Rattle.sf_genmor.proofs.PresentationDegrees.{basis_degrees, kept_degrees}
use Rattle.sf_genmor.proofs.SmallLooks.{IsSmallLook, small_look}
use Rattle.sf_object.specs.ResolutionPlans.{first_step_plan, last_of, minimal_plan, next_step_plan, resolution_plan, step_plan}
use Rattle.sf_object.proofs.ResolutionRuns.{last_step, no_step}
use Rattle.sf_resolve.specs.ResolutionLaws.{IsSoundStep}

-- the rows of a small reduced basis over small degrees, or none
abbrev HasLowRows : ℕ → Matrix → Type 0
HasLowRows limit b = (IsSmallReducedBasis limit b × AllByRecursion IsSmallDegree b.target) ⊎ (b.rows ≡ [])

low_values : (limit : ℕ) (m : Matrix) (elements : List Vector) → IsSmallLook limit m elements
    → HasLowRows limit (graph_of m elements).basis
low_values limit m elements h = elim h.small [
  | inl small ↦
      inl (small-values limit m (field_ring h.looked_at.field) elements small h.looked_at.matrix, small.size.column_degrees)
  | inr none ↦ inr (ap (λ es. (graph_of m es).basis.rows) none.1)
]

low_syzygies : (limit : ℕ) (m : Matrix) (elements : List Vector) → IsSmallLook limit m elements
    → HasLowRows limit (graph_of m elements).syzygies
low_syzygies limit m elements h = elim h.small [
  | inl small ↦ inl (small-syzygies limit m (field_ring h.looked_at.field) elements small, small.size.row_degrees)
  | inr none ↦ inr (ap (λ es. (graph_of m es).syzygies.rows) none.1)
]

low_degrees : (limit : ℕ) (b : Matrix) → IsMatrix b → HasLowRows limit b → AllByRecursion (IsDegreeUpTo limit) (row_degrees b)
low_degrees limit b matrix (inl h) = basis_degrees limit b h.0 h.1 matrix
low_degrees limit b matrix (inr none) =
    subst (λ rows. AllByRecursion (IsDegreeUpTo limit) (map (λ (v : Vector). v.degree) rows)) (sym none) tt

minimal_sound : (limit : ℕ) (b : Matrix) (looked : List Matrix) (step : Matrix) → HasLowRows limit b
    → Run limit (minimal_plan b) looked (Ok step) → IsSoundStep limit b step
unfolding generators_plan
minimal_sound limit b looked step low run =
    let keeps = generators_are limit b (without_rows b) looked step run in
    let matrix : IsMatrix b = keeps.sensible.2 in
    record {
      ring = ap (λ (m : Matrix). m.ring) keeps.same;
      matrix =
          subst IsMatrix (sym keeps.same)
          (AllByRecursion-kept b.ring b.target (IsVector b.ring b.target) (InSpan (without_rows b)) [] b.rows keeps.rows matrix
          keeps.kept_rows);
      degrees = kept_degrees (IsDegreeUpTo limit) b (without_rows b) step keeps (low_degrees limit b matrix low);
    }

over : (limit : ℕ) (b relations step : Matrix) → b.ring ≡ relations.ring → IsSoundStep limit b step → IsSoundStep limit relations step
over limit b relations step same h = record { ring = h.ring ∙ same; matrix = h.matrix; degrees = h.degrees }

first_sound : (limit : ℕ) (relations : Matrix) (looked : List Matrix) (step : Matrix)
    → Run limit (first_step_plan relations) looked (Ok step) → IsSoundStep limit relations step
unfolding first_step_plan
first_sound limit relations looked step run =
    let found = small_look limit relations (λ elements. minimal_plan (graph_of relations elements).basis) looked step run in
    over limit (graph_of relations found.0).basis relations step refl
    (minimal_sound limit (graph_of relations found.0).basis found.1 step (low_values limit relations found.0 found.2) found.3)

next_sound : (limit : ℕ) (before : Matrix) (looked : List Matrix) (step : Matrix)
    → Run limit (next_step_plan before) looked (Ok step) → IsSoundStep limit before step
unfolding next_step_plan
next_sound limit before looked step run =
    let found = small_look limit before (λ elements. minimal_plan (graph_of before elements).syzygies) looked step run in
    over limit (graph_of before found.0).syzygies before step refl
    (minimal_sound limit (graph_of before found.0).syzygies found.1 step (low_syzygies limit before found.0 found.2) found.3)

-- the last of some steps that are sound
last_ring : (limit : ℕ) (relations s : Matrix) (steps : List Matrix) → s.ring ≡ relations.ring
    → AllByRecursion (IsSoundStep limit relations) steps → (last_of s steps).ring ≡ relations.ring
last_ring limit relations s [] same h = same
last_ring limit relations s (d ∷ steps) same h = last_ring limit relations d steps h.0.ring h.1

one_sound : (limit : ℕ) (relations : Matrix) (steps : List Matrix) (looked : List Matrix) (step : Matrix)
    → AllByRecursion (IsSoundStep limit relations) steps → Run limit (step_plan relations steps) looked (Ok step)
    → IsSoundStep limit relations step
one_sound limit relations [] looked step h run = first_sound limit relations looked step run
one_sound limit relations (s ∷ steps) looked step h run =
    over limit (last_of s steps) relations step (last_ring limit relations s steps h.0.ring h.1)
    (next_sound limit (last_of s steps) looked step run)

pub steps_sound : (limit : ℕ) (relations : Matrix) (k : ℕ) (looked steps : List Matrix)
    → Run limit (resolution_plan relations k) looked (Ok steps) → AllByRecursion (IsSoundStep limit relations) steps
steps_sound limit relations zero looked steps run =
    subst (AllByRecursion (IsSoundStep limit relations)) (sym (no_step limit relations looked steps run)) tt
steps_sound limit relations (suc k) looked steps run =
    let h = last_step limit relations k looked steps run in
    let earlier = steps_sound limit relations k h.looked h.earlier h.first in
    subst (AllByRecursion (IsSoundStep limit relations)) (sym h.same)
    (AllByRecursion-append (IsSoundStep limit relations) h.earlier (h.step ∷ []) earlier
    (one_sound limit relations h.earlier h.others h.step earlier h.last, tt))
