-- Canonical free resolutions of a presented module. (Weibel, "An Introduction to Homological Algebra", section 2.2;
-- each step is given by minimal generators.)
use Rattle.std.specs.Prelude.{◌≡◌, List, [], ◌∷◌}
use Rattle.sf_algebra.specs.Matrices.{Matrix, row_degrees}
use Rattle.sf_groebner.specs.MinimalGenerators.{AreMinimal}
use Rattle.sf_groebner.specs.Presentations.{IsZero}
use Rattle.sf_groebner.specs.Spans.{InSpan, IsSyzygy}

-- the first step: the minimal generators of the span of the relations
pub record IsFirstStep (relations step : Matrix) : Type 0 where
  pub ring : step.ring ≡ relations.ring
  pub target : step.target ≡ relations.target
  pub minimal : AreMinimal relations.ring (InSpan relations) IsZero step.rows

-- a further step: the minimal generators of the syzygies of the one before
pub record IsNextStep (before step : Matrix) : Type 0 where
  pub ring : step.ring ≡ before.ring
  pub target : step.target ≡ row_degrees before
  pub minimal : AreMinimal before.ring (IsSyzygy before) IsZero step.rows

-- each step follows from the one before
abbrev pub AreNextSteps : Matrix → List Matrix → Type 0
AreNextSteps before [] = Unit {0}
AreNextSteps before (step ∷ steps) = IsNextStep before step × AreNextSteps step steps

-- the steps of the resolution of the module with these relations, from the first on
abbrev pub IsResolution : Matrix → List Matrix → Type 0
IsResolution relations [] = Unit {0}
IsResolution relations (step ∷ steps) = IsFirstStep relations step × AreNextSteps step steps
