-- What the plans of homology, kernels, images and cokernels answer. (Weibel, "An Introduction to Homological Algebra", section 1.1.)
use Rattle.std.specs.Prelude.{◌≡◌, ℕ, List, Ok}
use Rattle.sf_algebra.specs.Matrices.{Matrix}
use Rattle.sf_algebra.specs.Rings.{Ring}
use Rattle.sf_groebner.specs.Homology.{ComplexPlace}
use Rattle.sf_matrix.specs.Plans.{Plan}
use Rattle.sf_matrix.specs.Runs.{Run}
use Rattle.sf_object.specs.declared.map.Map.{Map}
use Rattle.sf_object.specs.Faults.{IsBetween}
use Rattle.sf_genmor.specs.declared.presentation.Presentation.{Presentation}
use Rattle.sf_genmor.specs.SoundPresentations.{IsSoundOver}
use Rattle.sf_module.specs.HomologyPlans.{HasMeetingMaps, IsHomologyOf, homology_plan}
use Rattle.sf_module.specs.ModulePlans.{IsKernelOf, IsImageOf, IsCokernelOf, kernel_plan, image_plan, cokernel_plan}

-- what a plan answers of matrices that fit together means this, and nothing else does
abbrev pub AnswersWith : {X : Type 0} → (X → Type 0) → (X → Plan Presentation) → (X → Presentation → Type 0) → Type 0
AnswersWith {X} Fits plan Means =
    (limit : ℕ) (x : X) (looked : List Matrix) (p : Presentation) → Fits x → Run limit (plan x) looked (Ok p)
    → Means x p × ((q : Presentation) → Means x q → q ≡ p)

abbrev pub AnswersHomology : Type 0
AnswersHomology = AnswersWith HasMeetingMaps homology_plan IsHomologyOf

abbrev pub AnswersKernel : Type 0
AnswersKernel = AnswersWith IsBetween kernel_plan IsKernelOf

abbrev pub AnswersImage : Type 0
AnswersImage = AnswersWith IsBetween image_plan IsImageOf

abbrev pub AnswersCokernel : Type 0
AnswersCokernel = AnswersWith IsBetween cokernel_plan IsCokernelOf

-- all that a plan answers are matrices over the ring, of small degrees
abbrev pub AnswersSound : {X : Type 0} → (X → Type 0) → (X → Ring) → (X → Plan Presentation) → Type 0
AnswersSound {X} Fits ring_of plan =
    (limit : ℕ) (x : X) (looked : List Matrix) (p : Presentation) → Fits x → Run limit (plan x) looked (Ok p)
    → IsSoundOver (ring_of x) limit p

abbrev pub ring_of_map : Map → Ring
ring_of_map f = f.matrix.ring

abbrev pub ring_of_place : ComplexPlace → Ring
ring_of_place place = place.here.ring

abbrev pub AnswersSoundHomology : Type 0
AnswersSoundHomology = AnswersSound HasMeetingMaps ring_of_place homology_plan

abbrev pub AnswersSoundKernel : Type 0
AnswersSoundKernel = AnswersSound IsBetween ring_of_map kernel_plan

abbrev pub AnswersSoundImage : Type 0
AnswersSoundImage = AnswersSound IsBetween ring_of_map image_plan

abbrev pub AnswersSoundCokernel : Type 0
AnswersSoundCokernel = AnswersSound IsBetween ring_of_map cokernel_plan
