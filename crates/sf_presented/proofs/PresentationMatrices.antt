-- Generators and relations of kernels, images and cokernels are matrices, as their vectors are homogeneous.
use Rattle.std.proofs.Common.{◌≡◌, subst}
use Rattle.sf_algebra.specs.Matrices.{Matrix, row_degrees, IsMatrix}
use Rattle.sf_algebra.specs.MatrixOperations.{stacked}
use Rattle.sf_algebra.specs.Rings.{IsRing}
use Rattle.sf_algebra.specs.Vectors.{IsVector}
use Rattle.sf_algebra.proofs.GradedMatrices.Stacks.{IsMatrix-stacked}
use Rattle.sf_groebner.specs.Homology.{IsAny, IsCycle, IsKernel, IsImage, IsCokernel}
use Rattle.sf_groebner.specs.Spans.{InSpan}
use Rattle.sf_groebner.proofs.Spanning.SpanCombinations.{span_submodule_of}
use Rattle.sf_groebner.proofs.Uniqueness.PresentedModules.{IsMatrix-generators, IsMatrix-relations}

pub IsMatrix-kernel : (source target map : Matrix) → map.ring ≡ source.ring → row_degrees map ≡ source.target
    → (g r : Matrix) → IsKernel source target map g r → IsMatrix g × IsMatrix r
IsMatrix-kernel source target map same_ring degrees g r h = (
  IsMatrix-generators source.ring source.target (IsCycle map target) (InSpan source) g r h
      (λ v k. subst (λ ds. IsVector source.ring ds v) degrees
      (subst (λ q. IsVector q (row_degrees map) v) same_ring k.coefficients)),
  IsMatrix-relations source.ring source.target (IsCycle map target) (InSpan source) g r h,
)

pub IsMatrix-image : (target map : Matrix) → IsRing target.ring → map.ring ≡ target.ring → map.target ≡ target.target
    → IsMatrix map → IsMatrix target → (g r : Matrix) → IsImage target map g r → IsMatrix g × IsMatrix r
IsMatrix-image target map positive same_ring same matrix other g r h =
    let whole = span_submodule_of target.ring positive target.target (stacked map target) same_ring same
    (IsMatrix-stacked map target same_ring same matrix other) in (
      IsMatrix-generators target.ring target.target (InSpan (stacked map target)) (InSpan target) g r h
          whole.module_like.vectors,
      IsMatrix-relations target.ring target.target (InSpan (stacked map target)) (InSpan target) g r h,
    )

pub IsMatrix-cokernel : (target map g r : Matrix) → IsCokernel target map g r → IsMatrix g × IsMatrix r
IsMatrix-cokernel target map g r h = (
  IsMatrix-generators target.ring target.target (IsAny target.ring target.target) (InSpan (stacked map target)) g r h
      (λ v k. k),
  IsMatrix-relations target.ring target.target (IsAny target.ring target.target) (InSpan (stacked map target)) g r h,
)
