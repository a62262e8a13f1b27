-- The plans of Ext and Tor answer the homology of the definitions, and nothing else.
use Rattle.std.proofs.Common.{ℕ, suc, List, Ok, subst}
use Rattle.sf_algebra.specs.Matrices.{Matrix}
use Rattle.sf_groebner.specs.Homology.{ComplexPlace}
use Rattle.sf_matrix.specs.Runs.{Run}
use Rattle.sf_matrix.proofs.Plans.Readings.{bind_is}
use Rattle.sf_genmor.specs.declared.presentation.Presentation.{Presentation}
use Rattle.sf_module.specs.HomologyPlans.{IsHomologyOf, homology_plan}
use Rattle.sf_module.proofs.HomologyAnswers.{homology_answered, homology_sound}
use Rattle.sf_object.specs.ResolutionPlans.{resolution_plan}
use Rattle.sf_resolve.proofs.StepAnswers.{answers_resolution}
use Rattle.sf_derived.specs.DerivedLaws.{AnswersExt, AnswersSoundExt, AnswersSoundTor, AnswersTor}
use Rattle.sf_derived.specs.DerivedPlans.{ext_plan, resolved, tor_plan}
use Rattle.sf_derived.specs.Places.{hom_place, product_place}
use Rattle.sf_derived.proofs.ResolvedMaps.{ext_meets, tor_meets}

-- the steps, and the homology behind them
record HasSteps (limit : ℕ) (m : Matrix) (i : ℕ) (place : List Matrix → ComplexPlace) (p : Presentation) : Type 0 where
  steps : List Matrix
  first : List Matrix
  others : List Matrix
  resolution : Run limit (resolution_plan m (suc i)) first (Ok steps)
  homology : Run limit (homology_plan (place steps)) others (Ok p)

module _ (limit : ℕ) (m n : Matrix) (i : ℕ) (looked : List Matrix) (p : Presentation) where
  ext_runs : Run limit (ext_plan m n i) looked (Ok p) → HasSteps limit m i (λ steps. hom_place (resolved m steps) n i) p
  unfolding ext_plan
  ext_runs run =
      let r = bind_is limit (resolution_plan m (suc i)) (λ steps. homology_plan (hom_place (resolved m steps) n i)) looked p run in
      record { steps = r.0; first = r.1; others = r.2; resolution = r.3; homology = r.4 }

  tor_runs : Run limit (tor_plan m n i) looked (Ok p) → HasSteps limit m i (λ steps. product_place (resolved m steps) n i) p
  unfolding tor_plan
  tor_runs run =
      let r = bind_is limit (resolution_plan m (suc i)) (λ steps. homology_plan (product_place (resolved m steps) n i)) looked p run in
      record { steps = r.0; first = r.1; others = r.2; resolution = r.3; homology = r.4 }

pub answers_ext : AnswersExt
answers_ext limit m n i looked p rings run =
    let r = ext_runs limit m n i looked p run in
    let place = λ (steps : List Matrix). hom_place (resolved m steps) n i in
    let steps = answers_resolution limit m (suc i) r.first r.steps r.resolution in
    let homology =
    homology_answered limit (place r.steps) r.others p (ext_meets limit m n i r.first r.steps r.resolution rings) r.homology in (
      record { steps = r.steps; resolution = steps.0; homology = homology.0 },
      λ q k. homology.1 q (subst (λ ds. IsHomologyOf (place ds) q) (steps.1 k.steps k.resolution) k.homology),
    )

pub answers_tor : AnswersTor
answers_tor limit m n i looked p rings run =
    let r = tor_runs limit m n i looked p run in
    let place = λ (steps : List Matrix). product_place (resolved m steps) n i in
    let steps = answers_resolution limit m (suc i) r.first r.steps r.resolution in
    let homology =
    homology_answered limit (place r.steps) r.others p (tor_meets limit m n i r.first r.steps r.resolution rings) r.homology in (
      record { steps = r.steps; resolution = steps.0; homology = homology.0 },
      λ q k. homology.1 q (subst (λ ds. IsHomologyOf (place ds) q) (steps.1 k.steps k.resolution) k.homology),
    )

pub answers_sound_ext : AnswersSoundExt
answers_sound_ext limit m n i looked p rings run =
    let r = ext_runs limit m n i looked p run in
    homology_sound limit (hom_place (resolved m r.steps) n i) r.others p
    (ext_meets limit m n i r.first r.steps r.resolution rings) r.homology

pub answers_sound_tor : AnswersSoundTor
answers_sound_tor limit m n i looked p rings run =
    let r = tor_runs limit m n i looked p run in
    homology_sound limit (product_place (resolved m r.steps) n i) r.others p
    (tor_meets limit m n i r.first r.steps r.resolution rings) r.homology
