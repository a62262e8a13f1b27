-- The plans of the kernel, the image and the cokernel of a map, and what their answers mean. (Weibel, "An Introduction to Homological
-- Algebra", section 1.1; in homalg's convention. The working lists are this project's own.)
use Rattle.sf_algebra.specs.Matrices.{Matrix}
use Rattle.sf_algebra.specs.MatrixOperations.{stacked}
use Rattle.sf_groebner.specs.Homology.{IsKernel, IsImage, IsCokernel}
use Rattle.sf_groebner.specs.Presentations.{IsModuleMap}
use Rattle.sf_matrix.specs.Plans.{Plan, bind}
use Rattle.sf_object.specs.declared.map.Map.{Map}
use Rattle.sf_genmor.specs.declared.presentation.Presentation.{Presentation}
use Rattle.sf_genmor.specs.LookPlans.{IsBasisMatrix, basis_plan, blocks_plan}
use Rattle.sf_genmor.specs.PresentationPlans.{present_plan}
use Rattle.sf_genmor.specs.QuotientPlans.{quotient_plan}

-- each relation of the source is sent into the span of the target's relations
abbrev pub IsWellDefined : Map → Type 0
IsWellDefined f = IsModuleMap f.source f.target f.matrix

-- the rows of the matrix, then the relations of the target
abbrev pub images_and_relations : Map → Matrix
images_and_relations f = stacked f.matrix f.target

-- the vectors that are sent into the span of the target's relations, modulo that of the source's
unfoldable pub kernel_plan : Map → Plan Presentation
kernel_plan f =
    bind (blocks_plan f.matrix f.target) (λ cycles. bind (basis_plan f.source) (λ base. present_plan cycles base))

-- the span of images and relations modulo that of the relations
unfoldable pub image_plan : Map → Plan Presentation
image_plan f =
    bind (basis_plan (images_and_relations f)) (λ whole. bind (basis_plan f.target) (λ base. present_plan whole base))

-- all vectors modulo the span of images and relations
unfoldable pub cokernel_plan : Map → Plan Presentation
cokernel_plan f = quotient_plan (images_and_relations f)

-- generators and relations of the kernel, and the reduced basis of the relations
pub record IsKernelOf (f : Map) (p : Presentation) : Type 0 where
  pub presents : IsKernel f.source f.target f.matrix p.gens p.rels
  pub reduced : IsBasisMatrix p.rels p.reduced_rels

-- of the image
pub record IsImageOf (f : Map) (p : Presentation) : Type 0 where
  pub presents : IsImage f.target f.matrix p.gens p.rels
  pub reduced : IsBasisMatrix p.rels p.reduced_rels

-- and of the cokernel
pub record IsCokernelOf (f : Map) (p : Presentation) : Type 0 where
  pub presents : IsCokernel f.target f.matrix p.gens p.rels
  pub reduced : IsBasisMatrix p.rels p.reduced_rels
