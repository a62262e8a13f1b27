-- The plans of Ext and Tor, and what their answers mean. (Weibel, "An Introduction to Homological Algebra", sections 2.5 and 2.6; the
-- resolution is the canonical one. The working lists are this project's own.)
use Rattle.std.specs.Prelude.{ℕ, suc, List}
use Rattle.sf_algebra.specs.Matrices.{Matrix}
use Rattle.sf_bicomplex.specs.TensorBicomplexes.{FreeComplex, complex_of}
use Rattle.sf_matrix.specs.Plans.{Plan, bind}
use Rattle.sf_genmor.specs.declared.presentation.Presentation.{Presentation}
use Rattle.sf_module.specs.HomologyPlans.{IsHomologyOf, homology_plan}
use Rattle.sf_object.specs.ResolutionPlans.{resolution_plan}
use Rattle.sf_resolve.specs.ResolutionLaws.{AreFirstSteps}
use Rattle.sf_derived.specs.Places.{hom_place, product_place}

-- the module in place 0 and the steps of a resolution, as a complex of free modules
abbrev pub resolved : Matrix → List Matrix → FreeComplex
resolved m steps = complex_of m.ring m.target steps

-- the steps 1 to i + 1 of the resolution of M, and then the homology at place i
unfoldable pub ext_plan : Matrix → Matrix → ℕ → Plan Presentation
ext_plan m n i = bind (resolution_plan m (suc i)) (λ steps. homology_plan (hom_place (resolved m steps) n i))

unfoldable pub tor_plan : Matrix → Matrix → ℕ → Plan Presentation
tor_plan m n i = bind (resolution_plan m (suc i)) (λ steps. homology_plan (product_place (resolved m steps) n i))

-- the homology at place i of the maps from the resolution of M to N
pub record IsExtOf (m n : Matrix) (i : ℕ) (p : Presentation) : Type 0 where
  pub steps : List Matrix
  pub resolution : AreFirstSteps m (suc i) steps
  pub homology : IsHomologyOf (hom_place (resolved m steps) n i) p

-- the homology at place i of the tensor product of the resolution of M and N
pub record IsTorOf (m n : Matrix) (i : ℕ) (p : Presentation) : Type 0 where
  pub steps : List Matrix
  pub resolution : AreFirstSteps m (suc i) steps
  pub homology : IsHomologyOf (product_place (resolved m steps) n i) p
