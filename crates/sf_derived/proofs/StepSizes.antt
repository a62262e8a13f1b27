-- The steps that the plan of a resolution answers have at most 4,096 rows.
use Rattle.std.proofs.Common.{◌≤◌, inl, inr, ℕ, zero, suc, List, [], ◌∷◌, ◌++◌, length, Ok, sym, subst, arith}
use Rattle.std.specs.List.{AllByRecursion}
use Rattle.sf_algebra.specs.Bounds.{GREATEST_SIZE}
use Rattle.sf_algebra.specs.Matrices.{Matrix}
use Rattle.sf_algebra.specs.Rings.{Ring}
use Rattle.sf_algebra.specs.Vectors.{Vector}
use Rattle.sf_algebra.proofs.Basics.Lists.{AllByRecursion-append}
use Rattle.sf_algebra.proofs.Monomials.Weights.{field_ring}
use Rattle.sf_groebner.specs.MinimalGenerators.{AreKept}
use Rattle.sf_groebner.proofs.Constructions.SmallParts.{small-syzygies, small-values}
use Rattle.sf_matrix.specs.Runs.{Run}
use Rattle.sf_matrix.specs.Tables.{graph_of}
use Rattle.sf_genmor.specs.PresentationPlans.{generators_plan, without_rows}
use Rattle.sf_genmor.proofs.PresentationAnswers.{generators_are}
use Rattle.sf_genmor.proofs.SmallLooks.{IsSmallLook, small_look}
use Rattle.sf_object.specs.ResolutionPlans.{first_step_plan, last_of, minimal_plan, next_step_plan, resolution_plan, step_plan}
use Rattle.sf_object.proofs.ResolutionRuns.{last_step, no_step}

abbrev pub HasFewRows : Matrix → Type 0
HasFewRows m = length m.rows ≤ GREATEST_SIZE

-- no more are kept than there are
length-kept : (ring : Ring) (B : Vector → Type 0) (earlier vs kept : List Vector) → AreKept ring B earlier vs kept
    → length kept ≤ length vs
length-kept ring B earlier [] kept h = subst (λ (ws : List Vector). length ws ≤ 0) (sym h) (omega arith)
length-kept ring B earlier (v ∷ vs) kept (inl h) =
    let fewer = length-kept ring B (earlier ++ v ∷ []) vs kept h.1 in omega arith
length-kept ring B earlier (v ∷ vs) kept (inr h) =
    let fewer = length-kept ring B (earlier ++ v ∷ []) vs h.1.0 h.1.2 in
    subst (λ (ws : List Vector). length ws ≤ suc (length vs)) (sym h.1.1) (omega arith)

few_minimal : (limit : ℕ) (b : Matrix) (looked : List Matrix) (step : Matrix) → HasFewRows b
    → Run limit (minimal_plan b) looked (Ok step) → HasFewRows step
unfolding generators_plan
few_minimal limit b looked step few run =
    let keeps = generators_are limit b (without_rows b) looked step run in
    let fewer = length-kept b.ring _ [] b.rows keeps.rows keeps.kept_rows in
    subst HasFewRows (sym keeps.same) (omega arith)

few_values : (limit : ℕ) (m : Matrix) (elements : List Vector) → IsSmallLook limit m elements
    → HasFewRows (graph_of m elements).basis
few_values limit m elements h = elim h.small [
  | inl small ↦
      (small-values limit m (field_ring h.looked_at.field) elements small h.looked_at.matrix).within.few
  | inr none ↦ subst (λ es. HasFewRows (graph_of m es).basis) (sym none.1) (omega arith)
]

few_syzygies : (limit : ℕ) (m : Matrix) (elements : List Vector) → IsSmallLook limit m elements
    → HasFewRows (graph_of m elements).syzygies
few_syzygies limit m elements h = elim h.small [
  | inl small ↦ (small-syzygies limit m (field_ring h.looked_at.field) elements small).within.few
  | inr none ↦ subst (λ es. HasFewRows (graph_of m es).syzygies) (sym none.1) (omega arith)
]

few_first : (limit : ℕ) (relations : Matrix) (looked : List Matrix) (step : Matrix)
    → Run limit (first_step_plan relations) looked (Ok step) → HasFewRows step
unfolding first_step_plan
few_first limit relations looked step run =
    let found = small_look limit relations (λ elements. minimal_plan (graph_of relations elements).basis) looked step run in
    few_minimal limit (graph_of relations found.0).basis found.1 step (few_values limit relations found.0 found.2) found.3

few_next : (limit : ℕ) (before : Matrix) (looked : List Matrix) (step : Matrix)
    → Run limit (next_step_plan before) looked (Ok step) → HasFewRows step
unfolding next_step_plan
few_next limit before looked step run =
    let found = small_look limit before (λ elements. minimal_plan (graph_of before elements).syzygies) looked step run in
    few_minimal limit (graph_of before found.0).syzygies found.1 step (few_syzygies limit before found.0 found.2) found.3

few_one : (limit : ℕ) (relations : Matrix) (steps : List Matrix) (looked : List Matrix) (step : Matrix)
    → Run limit (step_plan relations steps) looked (Ok step) → HasFewRows step
few_one limit relations [] looked step run = few_first limit relations looked step run
few_one limit relations (s ∷ steps) looked step run = few_next limit (last_of s steps) looked step run

pub few_steps : (limit : ℕ) (relations : Matrix) (k : ℕ) (looked steps : List Matrix)
    → Run limit (resolution_plan relations k) looked (Ok steps) → AllByRecursion HasFewRows steps
few_steps limit relations zero looked steps run =
    subst (AllByRecursion HasFewRows) (sym (no_step limit relations looked steps run)) tt
few_steps limit relations (suc k) looked steps run =
    let h = last_step limit relations k looked steps run in
    subst (AllByRecursion HasFewRows) (sym h.same)
    (AllByRecursion-append HasFewRows h.earlier (h.step ∷ []) (few_steps limit relations k h.looked h.earlier h.first)
    (few_one limit relations h.earlier h.others h.step h.last, tt))
