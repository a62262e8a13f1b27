-- What the plan of a resolution answers: the steps of the definition, and nothing else; and where they end. (Weibel, "An
-- Introduction to Homological Algebra", section 2.2; Cox, Little, O'Shea, "Using Algebraic Geometry", chapter 6, section 2.)
use Rattle.std.specs.Prelude.{◌≡◌, ℕ, ◌≤◌, List, [], drop, length, Ok}
use Rattle.std.specs.List.{AllByRecursion}
use Rattle.sf_algebra.specs.Matrices.{Matrix, IsMatrix, row_degrees}
use Rattle.sf_algebra.specs.Monomials.{VARIABLES}
use Rattle.sf_groebner.specs.Resolutions.{IsResolution}
use Rattle.sf_matrix.specs.Runs.{Run}
use Rattle.sf_genmor.specs.PresentationDegrees.{IsDegreeUpTo}
use Rattle.sf_object.specs.ResolutionPlans.{resolution_plan}
use Rattle.sf_variables.specs.Variables.{IsMatrixInVariables}

-- the steps 1 to k of the resolution of the module with these relations
pub record AreFirstSteps (relations : Matrix) (k : ℕ) (steps : List Matrix) : Type 0 where
  pub count : length steps ≡ k
  pub resolution : IsResolution relations steps

-- they are what the plan answers, and nothing else is
abbrev pub AnswersResolution : Type 0
AnswersResolution =
    (limit : ℕ) (relations : Matrix) (k : ℕ) (looked steps : List Matrix)
    → Run limit (resolution_plan relations k) looked (Ok steps)
    → AreFirstSteps relations k steps × ((others : List Matrix) → AreFirstSteps relations k others → others ≡ steps)

-- for relations in n variables, at least one, the steps past the first n have no row
abbrev pub EndsAfterVariables : Type 0
EndsAfterVariables =
    (n : ℕ) → 1 ≤ n → n ≤ VARIABLES → (limit : ℕ) (relations : Matrix) (k : ℕ) (looked steps : List Matrix)
    → IsMatrixInVariables n relations → Run limit (resolution_plan relations k) looked (Ok steps)
    → AllByRecursion (λ (step : Matrix). step.rows ≡ []) (drop n steps)

-- a matrix over the ring of the relations; its rows have degrees that exceed those of small matrices by at most the limit
pub record IsSoundStep (limit : ℕ) (relations step : Matrix) : Type 0 where
  pub ring : step.ring ≡ relations.ring
  pub matrix : IsMatrix step
  pub degrees : AllByRecursion (IsDegreeUpTo limit) (row_degrees step)

-- so is each step, whatever the degrees of the relations
abbrev pub AnswersSoundSteps : Type 0
AnswersSoundSteps =
    (limit : ℕ) (relations : Matrix) (k : ℕ) (looked steps : List Matrix)
    → Run limit (resolution_plan relations k) looked (Ok steps) → AllByRecursion (IsSoundStep limit relations) steps
