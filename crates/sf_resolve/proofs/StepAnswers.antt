-- What the plans of steps answer: the steps of the canonical resolution, and nothing else.
use Rattle.std.proofs.Common.{◌≡◌, ℕ, zero, suc, List, [], ◌∷◌, ◌++◌, length, Ok, refl, sym, ◌∙◌, subst, ℤ, arith}
use Rattle.sf_algebra.specs.Matrices.{Matrix, IsMatrix, row_degrees}
use Rattle.sf_algebra.specs.Rings.{Ring, IsRing, IsOverField}
use Rattle.sf_algebra.specs.Vectors.{Vector}
use Rattle.sf_algebra.proofs.Monomials.Weights.{field_ring}
use Rattle.sf_groebner.specs.BasisParts.{syzygies_of, values_of}
use Rattle.sf_groebner.specs.MinimalGenerators.{AreMinimal, matrix_of}
use Rattle.sf_groebner.specs.Presentations.{IsZero}
use Rattle.sf_groebner.specs.ReducedBases.{IsReducedBasis}
use Rattle.sf_groebner.specs.Resolutions.{AreNextSteps, IsFirstStep, IsNextStep, IsResolution}
use Rattle.sf_groebner.specs.Spans.{InSpan, IsSyzygy}
use Rattle.sf_groebner.proofs.PartsOfBases.GraphParts.{reduced-span, reduced-syzygies}
use Rattle.sf_groebner.proofs.Uniqueness.Presentations.{unique_resolution}
use Rattle.sf_matrix.specs.Plans.{answer}
use Rattle.sf_matrix.specs.Questions.{kept}
use Rattle.sf_matrix.specs.Runs.{Run}
use Rattle.sf_matrix.specs.Tables.{graph_of}
use Rattle.sf_matrix.proofs.Plans.Readings.{answer_is, ask_is, look_is}
use Rattle.sf_genmor.proofs.PresentationAnswers.{minimal_modulo_none}
use Rattle.sf_object.specs.ResolutionPlans.{first_step_plan, last_of, minimal_plan, next_step_plan, resolution_plan, step_plan}
use Rattle.sf_object.proofs.ResolutionRuns.{last_step, length_first, no_step}
use Rattle.sf_resolve.specs.ResolutionLaws.{AreFirstSteps}

-- the minimal generators of a module with a known reduced basis
record HasMinimalRows (ring : Ring) (target : List ℤ) (N : Vector → Type 0) (step : Matrix) : Type 0 where
  same_ring : step.ring ≡ ring
  same_target : step.target ≡ target
  minimal : AreMinimal ring N IsZero step.rows

minimal_is : (ring : Ring) → IsRing ring → (target : List ℤ) (N : Vector → Type 0) (rows : List Vector)
    → IsReducedBasis ring.weights N rows → (limit : ℕ) (looked : List Matrix) (step : Matrix)
    → Run limit (minimal_plan (matrix_of ring target rows)) looked (Ok step) → HasMinimalRows ring target N step
minimal_is ring positive target N rows reduced limit looked step run =
    let found =
    ask_is limit (kept (matrix_of ring target []) rows) (λ ws. answer (matrix_of ring target ws)) looked step run in
    let same = answer_is limit (matrix_of ring target found.0) looked step found.3 in
    subst (HasMinimalRows ring target N) (sym same)
    (record {
      same_ring = refl;
      same_target = refl;
      minimal = minimal_modulo_none ring positive target N rows found.0 reduced found.2;
    })

pub first_is : (limit : ℕ) (relations : Matrix) (looked : List Matrix) (step : Matrix)
    → Run limit (first_step_plan relations) looked (Ok step) → IsFirstStep relations step
unfolding first_step_plan
first_is limit relations looked step run =
    let found = look_is limit relations (λ elements. minimal_plan (graph_of relations elements).basis) looked step run in
    let positive = field_ring found.2.field in
    let is =
    minimal_is relations.ring positive relations.target (InSpan relations) (values_of relations found.0)
    (reduced-span relations positive found.2.matrix found.0 found.2.reduced) limit found.1 step found.3 in
    record { ring = is.same_ring; target = is.same_target; minimal = is.minimal }

pub next_is : (limit : ℕ) (before : Matrix) (looked : List Matrix) (step : Matrix)
    → Run limit (next_step_plan before) looked (Ok step) → IsNextStep before step
unfolding next_step_plan
next_is limit before looked step run =
    let found = look_is limit before (λ elements. minimal_plan (graph_of before elements).syzygies) looked step run in
    let positive = field_ring found.2.field in
    let is =
    minimal_is before.ring positive (row_degrees before) (IsSyzygy before) (syzygies_of before found.0)
    (reduced-syzygies before positive found.0 found.2.reduced) limit found.1 step found.3 in
    record { ring = is.same_ring; target = is.same_target; minimal = is.minimal }

-- one step behind others
next-more : (before : Matrix) (steps : List Matrix) (step : Matrix) → AreNextSteps before steps
    → IsNextStep (last_of before steps) step → AreNextSteps before (steps ++ step ∷ [])
next-more before [] step h n = (n, tt)
next-more before (s ∷ steps) step h n = (h.0, next-more s steps step h.1 n)

one-more : (limit : ℕ) (relations : Matrix) (steps : List Matrix) (looked : List Matrix) (step : Matrix)
    → IsResolution relations steps → Run limit (step_plan relations steps) looked (Ok step)
    → IsResolution relations (steps ++ step ∷ [])
one-more limit relations [] looked step h run = (first_is limit relations looked step run, tt)
one-more limit relations (s ∷ steps) looked step h run =
    (h.0, next-more s steps step h.1 (next_is limit (last_of s steps) looked step run))

pub resolution_is : (limit : ℕ) (relations : Matrix) (k : ℕ) (looked steps : List Matrix)
    → Run limit (resolution_plan relations k) looked (Ok steps) → IsResolution relations steps
resolution_is limit relations zero looked steps run =
    subst (IsResolution relations) (sym (no_step limit relations looked steps run)) tt
resolution_is limit relations (suc k) looked steps run =
    let h = last_step limit relations k looked steps run in
    subst (IsResolution relations) (sym h.same)
    (one-more limit relations h.earlier h.others h.step (resolution_is limit relations k h.looked h.earlier h.first) h.last)

-- relations of which a step was made are a matrix over a field
pub record IsOverFieldMatrix (m : Matrix) : Type 0 where
  pub field : IsOverField m.ring
  pub matrix : IsMatrix m

first_matrix : (limit : ℕ) (relations : Matrix) (looked : List Matrix) (step : Matrix)
    → Run limit (first_step_plan relations) looked (Ok step) → IsOverFieldMatrix relations
unfolding first_step_plan
first_matrix limit relations looked step run =
    let found = look_is limit relations (λ elements. minimal_plan (graph_of relations elements).basis) looked step run in
    record { field = found.2.field; matrix = found.2.matrix }

pub resolved_matrix : (limit : ℕ) (relations : Matrix) (k : ℕ) (looked steps : List Matrix)
    → Run limit (resolution_plan relations (suc k)) looked (Ok steps) → IsOverFieldMatrix relations
resolved_matrix limit relations zero looked steps run =
    let h = last_step limit relations zero looked steps run in
    first_matrix limit relations h.others h.step
    (subst (λ ds. Run limit (step_plan relations ds) h.others (Ok h.step)) (no_step limit relations h.looked h.earlier h.first) h.last)
resolved_matrix limit relations (suc k) looked steps run =
    let h = last_step limit relations (suc k) looked steps run in
    resolved_matrix limit relations k h.looked h.earlier h.first

no_items : {X : Type 0} (xs : List X) → length xs ≡ 0 → xs ≡ []
no_items [] e = refl
no_items (x ∷ xs) e = absurd (omega arith)

unique : (limit : ℕ) (relations : Matrix) (k : ℕ) (looked steps : List Matrix)
    → Run limit (resolution_plan relations k) looked (Ok steps) → (others : List Matrix) → length others ≡ k
    → IsResolution relations others → others ≡ steps
unique limit relations zero looked steps run others count other =
    no_items others count ∙ sym (no_step limit relations looked steps run)
unique limit relations (suc k) looked steps run others count other =
    let over = resolved_matrix limit relations k looked steps run in
    let size = length_first limit relations (suc k) looked steps run in
    unique_resolution relations (field_ring over.field) over.matrix others steps (count ∙ sym size) other
    (resolution_is limit relations (suc k) looked steps run)

pub answers_resolution : (limit : ℕ) (relations : Matrix) (k : ℕ) (looked steps : List Matrix)
    → Run limit (resolution_plan relations k) looked (Ok steps)
    → AreFirstSteps relations k steps × ((others : List Matrix) → AreFirstSteps relations k others → others ≡ steps)
answers_resolution limit relations k looked steps run = (
  record {
    count = length_first limit relations k looked steps run;
    resolution = resolution_is limit relations k looked steps run;
  },
  λ others h. unique limit relations k looked steps run others h.count h.resolution,
)
