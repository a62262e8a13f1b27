-- The plan of a free module modulo the span of a matrix, and what its answer means. (Weibel, "An Introduction to Homological
-- Algebra", section 1.1: the cokernel. The working list is this project's own.)
use Rattle.std.specs.Prelude.{List, ℤ}
use Rattle.sf_algebra.specs.Matrices.{Matrix}
use Rattle.sf_algebra.specs.Rings.{Ring}
use Rattle.sf_groebner.specs.Homology.{IsAny}
use Rattle.sf_groebner.specs.MinimalGenerators.{matrix_of}
use Rattle.sf_groebner.specs.Presentations.{IsPresentation}
use Rattle.sf_groebner.specs.Spans.{InSpan}
use Rattle.sf_matrix.specs.Plans.{Plan, bind}
use Rattle.sf_presented.specs.FreeBases.{unit_basis}
use Rattle.sf_genmor.specs.declared.presentation.Presentation.{Presentation}
use Rattle.sf_genmor.specs.LookPlans.{IsBasisMatrix, basis_plan}
use Rattle.sf_genmor.specs.PresentationPlans.{present_plan}

-- the reduced basis of all vectors of a free module
abbrev pub units_over : Ring → List ℤ → Matrix
units_over ring degrees = matrix_of ring degrees (unit_basis degrees)

-- all vectors modulo the span of the rows
unfoldable pub quotient_plan : Matrix → Plan Presentation
quotient_plan m = bind (basis_plan m) (λ base. present_plan (units_over m.ring m.target) base)

-- its generators and relations, and the reduced basis of the relations
pub record IsQuotientOf (m : Matrix) (p : Presentation) : Type 0 where
  pub presents : IsPresentation m.ring m.target (IsAny m.ring m.target) (InSpan m) p.gens p.rels
  pub reduced : IsBasisMatrix p.rels p.reduced_rels
