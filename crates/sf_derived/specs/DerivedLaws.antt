-- What the plans of Ext and Tor answer. (Weibel, "An Introduction to Homological Algebra", sections 2.5 and 2.6.)
use Rattle.std.specs.Prelude.{◌≡◌, ℕ, List, Ok}
use Rattle.sf_algebra.specs.Matrices.{Matrix}
use Rattle.sf_matrix.specs.Plans.{Plan}
use Rattle.sf_matrix.specs.Runs.{Run}
use Rattle.sf_genmor.specs.declared.presentation.Presentation.{Presentation}
use Rattle.sf_genmor.specs.SoundPresentations.{IsSoundOver}
use Rattle.sf_derived.specs.DerivedPlans.{IsExtOf, IsTorOf, ext_plan, tor_plan}

-- what a plan answers of two modules over one ring means this, and nothing else does
abbrev pub AnswersAt : (Matrix → Matrix → ℕ → Plan Presentation) → (Matrix → Matrix → ℕ → Presentation → Type 0) → Type 0
AnswersAt plan Means =
    (limit : ℕ) (m n : Matrix) (i : ℕ) (looked : List Matrix) (p : Presentation) → m.ring ≡ n.ring
    → Run limit (plan m n i) looked (Ok p) → Means m n i p × ((q : Presentation) → Means m n i q → q ≡ p)

abbrev pub AnswersExt : Type 0
AnswersExt = AnswersAt ext_plan IsExtOf

abbrev pub AnswersTor : Type 0
AnswersTor = AnswersAt tor_plan IsTorOf

-- matrices over the ring, of small degrees
abbrev pub AnswersSoundAt : (Matrix → Matrix → ℕ → Plan Presentation) → Type 0
AnswersSoundAt plan =
    (limit : ℕ) (m n : Matrix) (i : ℕ) (looked : List Matrix) (p : Presentation) → m.ring ≡ n.ring
    → Run limit (plan m n i) looked (Ok p) → IsSoundOver n.ring limit p

abbrev pub AnswersSoundExt : Type 0
AnswersSoundExt = AnswersSoundAt ext_plan

abbrev pub AnswersSoundTor : Type 0
AnswersSoundTor = AnswersSoundAt tor_plan
