-- The degrees of the presentations that plans answer. (The bounds are this project's own.)
use Rattle.std.specs.Prelude.{◌≡◌, ℕ, List, Ok, ℤ, pos, neg_ℤ, ◌+ℤ◌, ◌≤ℤ◌}
use Rattle.std.specs.List.{AllByRecursion}
use Rattle.sf_algebra.specs.Bounds.{GREATEST_DEGREE, IsSmallDegree}
use Rattle.sf_algebra.specs.Matrices.{Matrix, row_degrees}
use Rattle.sf_matrix.specs.Runs.{Run}
use Rattle.sf_genmor.specs.declared.presentation.Presentation.{Presentation}
use Rattle.sf_genmor.specs.PresentationPlans.{present_plan}

-- a degree that exceeds the degrees of small matrices by at most a limit
abbrev pub IsDegreeUpTo : ℕ → ℤ → Type 0
IsDegreeUpTo limit d = (neg_ℤ GREATEST_DEGREE ≤ℤ d) × (d ≤ℤ (GREATEST_DEGREE +ℤ pos limit))

-- generators have the degrees of small matrices, and relations exceed these by at most the limit
pub record HasSmallDegrees (limit : ℕ) (p : Presentation) : Type 0 where
  pub generators : AllByRecursion IsSmallDegree (row_degrees p.gens)
  pub relations : AllByRecursion (IsDegreeUpTo limit) (row_degrees p.rels)
  pub reduced : AllByRecursion (IsDegreeUpTo limit) (row_degrees p.reduced_rels)

-- so it is with what the plan of a presentation answers, whatever the degrees of the candidates
abbrev pub AnswersSmallDegrees : Type 0
AnswersSmallDegrees =
    (limit : ℕ) (n base : Matrix) (looked : List Matrix) (p : Presentation) → base.ring ≡ n.ring → base.target ≡ n.target
    → Run limit (present_plan n base) looked (Ok p) → HasSmallDegrees limit p
