-- Kernel, image, cokernel and homology. (Weibel, "An Introduction to Homological Algebra", section 1.1; in homalg's
-- convention.)
use Rattle.std.specs.Prelude.{◌≡◌, List, ℤ}
use Rattle.sf_algebra.specs.Matrices.{Matrix, row_degrees, IsMatrix}
use Rattle.sf_algebra.specs.MatrixOperations.{stacked}
use Rattle.sf_algebra.specs.Rings.{Ring}
use Rattle.sf_algebra.specs.Vectors.{Vector, IsVector}
use Rattle.sf_groebner.specs.Presentations.{IsRelation, IsPresentation}
use Rattle.sf_groebner.specs.Spans.{InSpan}

-- a place of a complex: the map that arrives at the module with the relations `here`, and the map out of it into the
-- module with the relations `beyond`
pub record ComplexPlace : Type 0 where
  pub arriving : Matrix
  pub here : Matrix
  pub out : Matrix
  pub beyond : Matrix

-- the matrices that stand round a place are over one ring, and their free modules meet
pub record IsComplexPlace (place : ComplexPlace) : Type 0 where
  pub arriving_matrix : IsMatrix place.arriving
  pub here_matrix : IsMatrix place.here
  pub out_matrix : IsMatrix place.out
  pub beyond_matrix : IsMatrix place.beyond
  pub arriving_ring : place.arriving.ring ≡ place.here.ring
  pub out_ring : place.out.ring ≡ place.here.ring
  pub beyond_ring : place.beyond.ring ≡ place.here.ring
  pub arriving_target : place.arriving.target ≡ place.here.target
  pub out_degrees : row_degrees place.out ≡ place.here.target
  pub out_target : place.out.target ≡ place.beyond.target

-- all vectors of a free module
abbrev pub IsAny : Ring → List ℤ → Vector → Type 0
IsAny ring degrees v = IsVector ring degrees v

-- the cycles at a place with the map `out` into a module with the relations `beyond`: the c with c out in their span
abbrev pub IsCycle : Matrix → Matrix → Vector → Type 0
IsCycle out beyond c = IsRelation out (InSpan beyond) c

-- the homology at a place: the cycles modulo the span of the map that arrives and the relations there
abbrev pub IsHomology : ComplexPlace → Matrix → Matrix → Type 0
IsHomology place generators relations =
    IsPresentation place.here.ring place.here.target (IsCycle place.out place.beyond)
    (InSpan (stacked place.arriving place.here)) generators relations

-- the kernel of the map from the module with the relations `source` to that with the relations `target`
abbrev pub IsKernel : Matrix → Matrix → Matrix → Matrix → Matrix → Type 0
IsKernel source target map generators relations =
    IsPresentation source.ring source.target (IsCycle map target) (InSpan source) generators relations

-- its image: the span of the map and the relations `target`, modulo these
abbrev pub IsImage : Matrix → Matrix → Matrix → Matrix → Type 0
IsImage target map generators relations =
    IsPresentation target.ring target.target (InSpan (stacked map target)) (InSpan target) generators relations

-- its cokernel: all vectors modulo the span of the map and the relations `target`
abbrev pub IsCokernel : Matrix → Matrix → Matrix → Matrix → Type 0
IsCokernel target map generators relations =
    IsPresentation target.ring target.target (IsAny target.ring target.target)
    (InSpan (stacked map target)) generators relations
