-- What the plans answer: what the definitions say, and nothing else. (Cox, Little, O'Shea, "Using Algebraic Geometry", chapter
-- 5, sections 2 and 3.)
use Rattle.std.specs.Prelude.{◌≡◌, ℕ, List, Option, Ok}
use Rattle.sf_algebra.specs.Matrices.{Matrix}
use Rattle.sf_algebra.specs.Vectors.{Vector}
use Rattle.sf_groebner.specs.ReducedBases.{IsSpanBasis}
use Rattle.sf_matrix.specs.Runs.{Run}
use Rattle.sf_genmor.specs.declared.presentation.Presentation.{Presentation}
use Rattle.sf_genmor.specs.CoordinatePlans.{SpansRelationsModulo, TellsCoordinates, coordinates_plan}
use Rattle.sf_genmor.specs.LookPlans.{IsBasisMatrix, IsRelationMatrix, IsSyzygyMatrix, basis_plan, blocks_plan, syzygies_plan}
use Rattle.sf_genmor.specs.PresentationPlans.{present_plan}
use Rattle.sf_genmor.specs.PresentedSpans.{PresentsSpan}

-- the reduced basis of the span
abbrev pub AnswersBasis : Type 0
AnswersBasis =
    (limit : ℕ) (m : Matrix) (looked : List Matrix) (b : Matrix) → Run limit (basis_plan m) looked (Ok b)
    → IsBasisMatrix m b × ((c : Matrix) → IsBasisMatrix m c → c ≡ b)

-- that of the syzygies
abbrev pub AnswersSyzygies : Type 0
AnswersSyzygies =
    (limit : ℕ) (m : Matrix) (looked : List Matrix) (b : Matrix) → Run limit (syzygies_plan m) looked (Ok b)
    → IsSyzygyMatrix m b × ((c : Matrix) → IsSyzygyMatrix m c → c ≡ b)

-- that of the relations of the rows of one matrix modulo the span of another one
abbrev pub AnswersRelations : Type 0
AnswersRelations =
    (limit : ℕ) (m base : Matrix) (looked : List Matrix) (b : Matrix) → m.ring ≡ base.ring → m.target ≡ base.target
    → Run limit (blocks_plan m base) looked (Ok b)
    → IsRelationMatrix m base b × ((c : Matrix) → IsRelationMatrix m base c → c ≡ b)

-- the presentation of the span of a reduced basis modulo another span
abbrev pub AnswersPresentation : Type 0
AnswersPresentation =
    (limit : ℕ) (n base : Matrix) (looked : List Matrix) (p : Presentation) → IsSpanBasis n n.rows
    → base.ring ≡ n.ring → base.target ≡ n.target → Run limit (present_plan n base) looked (Ok p)
    → PresentsSpan n base p × ((q : Presentation) → PresentsSpan n base q → q ≡ p)

-- coordinates of a vector, where relations are known that span all of them
abbrev pub AnswersCoordinates : Type 0
AnswersCoordinates =
    (limit : ℕ) (generators base relations : Matrix) (v : Vector) (looked : List Matrix) (found : Option Vector)
    → base.ring ≡ generators.ring → base.target ≡ generators.target → SpansRelationsModulo generators base relations
    → Run limit (coordinates_plan generators base v) looked (Ok found)
    → TellsCoordinates generators base relations v found
    × ((other : Option Vector) → TellsCoordinates generators base relations v other → other ≡ found)
