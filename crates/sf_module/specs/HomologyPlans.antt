-- The plan of the homology at a place of a complex, and what its answer means. (Weibel, "An Introduction to Homological Algebra",
-- section 1.1; in homalg's convention. The working list is this project's own.)
use Rattle.std.specs.Prelude.{◌≡◌}
use Rattle.sf_algebra.specs.Matrices.{Matrix, row_degrees}
use Rattle.sf_algebra.specs.MatrixOperations.{stacked}
use Rattle.sf_algebra.specs.Vectors.{Vector}
use Rattle.sf_groebner.specs.Homology.{ComplexPlace, IsHomology}
use Rattle.sf_groebner.specs.Presentations.{IsModuleMap}
use Rattle.sf_groebner.specs.Spans.{InSpan, combined}
use Rattle.sf_matrix.specs.Plans.{Plan, bind}
use Rattle.sf_genmor.specs.declared.presentation.Presentation.{Presentation}
use Rattle.sf_genmor.specs.LookPlans.{IsBasisMatrix, basis_plan, blocks_plan}
use Rattle.sf_genmor.specs.PresentationPlans.{present_plan}

-- the place of the module `here` between the map that arrives and the map out of it
abbrev pub place_between : Matrix → Matrix → Matrix → Matrix → ComplexPlace
place_between before here after beyond = record { arriving = before; here = here; out = after; beyond = beyond }

-- over one ring, the maps and the modules round a place meet
pub record HasMeetingMaps (place : ComplexPlace) : Type 0 where
  pub arriving_ring : place.arriving.ring ≡ place.here.ring
  pub out_ring : place.out.ring ≡ place.here.ring
  pub beyond_ring : place.out.ring ≡ place.beyond.ring
  pub arriving_target : place.arriving.target ≡ place.here.target
  pub out_degrees : row_degrees place.out ≡ place.here.target
  pub out_target : place.out.target ≡ place.beyond.target

-- the map out is one of modules, and what arrives goes to zero modulo the relations beyond
pub record IsComplexAt (place : ComplexPlace) : Type 0 where
  pub arriving_ring : place.arriving.ring ≡ place.here.ring
  pub arriving_target : place.arriving.target ≡ place.here.target
  pub out_map : IsModuleMap place.here place.beyond place.out
  pub square : (v : Vector) → InSpan place.arriving v → InSpan place.beyond (combined place.out v)

-- the map that arrives, then the relations of the module
abbrev pub boundaries_of : ComplexPlace → Matrix
boundaries_of place = stacked place.arriving place.here

-- the cycles modulo the span of what arrives and of the relations
unfoldable pub homology_plan : ComplexPlace → Plan Presentation
homology_plan place =
    bind (blocks_plan place.out place.beyond) (λ cycles.
    bind (basis_plan (boundaries_of place)) (λ boundaries. present_plan cycles boundaries))

-- generators and relations of the homology, and the reduced basis of the relations
pub record IsHomologyOf (place : ComplexPlace) (p : Presentation) : Type 0 where
  pub presents : IsHomology place p.gens p.rels
  pub reduced : IsBasisMatrix p.rels p.reduced_rels
