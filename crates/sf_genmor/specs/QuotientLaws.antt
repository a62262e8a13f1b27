-- What the plan of a quotient of a free module answers, and when the size of the matrix alone tells how it ends. (Weibel, "An
-- Introduction to Homological Algebra", section 1.1. The bounds are this project's own.)
use Rattle.std.specs.Prelude.{◌≡◌, ℕ, List, length, Ok, Err}
use Rattle.sf_algebra.specs.Matrices.{Matrix}
use Rattle.sf_algebra.specs.Rings.{IsOverField}
use Rattle.sf_matrix.specs.declared.basis.BaseFault.{BaseFault}
use Rattle.sf_matrix.specs.Meets.{Meets}
use Rattle.sf_matrix.specs.Runs.{Run}
use Rattle.sf_matrix.specs.Tables.{Table}
use Rattle.sf_genmor.specs.declared.presentation.Presentation.{Presentation}
use Rattle.sf_genmor.specs.QuotientPlans.{IsQuotientOf, quotient_plan}
use Rattle.sf_genmor.specs.SoundPresentations.{IsSoundOver}

-- the presentation of all vectors modulo the span, and nothing else
abbrev pub AnswersQuotient : Type 0
AnswersQuotient =
    (limit : ℕ) (m : Matrix) (looked : List Matrix) (p : Presentation) → Run limit (quotient_plan m) looked (Ok p)
    → IsQuotientOf m p × ((q : Presentation) → IsQuotientOf m q → q ≡ p)

-- matrices over the ring, of small degrees
abbrev pub AnswersSoundQuotient : Type 0
AnswersSoundQuotient =
    (limit : ℕ) (m : Matrix) (looked : List Matrix) (p : Presentation) → Run limit (quotient_plan m) looked (Ok p)
    → IsSoundOver m.ring limit p

-- for each matrix of so many rows and columns the plan ends in this fault, and looks at nothing
abbrev pub EndsBySize : ℕ → ℕ → BaseFault → Type 0
EndsBySize rows columns fault =
    (t : Table) (m : Matrix) → IsOverField m.ring → length m.rows ≡ rows → length m.target ≡ columns
    → Meets t (quotient_plan m) (Err fault) t
