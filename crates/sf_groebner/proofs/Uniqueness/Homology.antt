-- Homology, kernels, images and cokernels are determined by their matrices.
use Rattle.std.proofs.Common.{◌≡◌, sym, subst}
use Rattle.sf_algebra.specs.Matrices.{Matrix, row_degrees, IsMatrix}
use Rattle.sf_algebra.specs.MatrixOperations.{stacked}
use Rattle.sf_algebra.specs.Rings.{Ring, IsRing}
use Rattle.sf_groebner.specs.Homology.{ComplexPlace, IsAny, IsCycle, IsHomology, IsKernel, IsImage, IsCokernel}
use Rattle.sf_groebner.specs.Spans.{InSpan}
use Rattle.sf_groebner.proofs.Spanning.Modules.{IsModuleLike}
use Rattle.sf_groebner.proofs.Spanning.Spans.{relation_module, span_module}
use Rattle.sf_groebner.proofs.Uniqueness.MinimalGenerators.{HasOneBasis}
use Rattle.sf_groebner.proofs.Uniqueness.Presentations.{any_module, unique_presentation}
use Rattle.sf_groebner.proofs.Uniqueness.UniqueBases.{unique_reduced}

module _ (ring : Ring) (positive : IsRing ring) where
  -- a span, with the ring as it is known
  pub span_of : (m : Matrix) → m.ring ≡ ring → IsMatrix m → IsModuleLike ring m.target (InSpan m)
  span_of m same matrix =
      subst (λ q. IsModuleLike q m.target (InSpan m)) same
      (span_module m (subst (λ q. IsRing q) (sym same) positive) matrix)

  pub one_span_basis : (m : Matrix) → m.ring ≡ ring → IsMatrix m → HasOneBasis ring.weights (InSpan m)
  one_span_basis m same matrix = unique_reduced ring positive m.target (InSpan m) (span_of m same matrix)

  pub one_cycle_basis : (out beyond : Matrix) → out.ring ≡ ring → beyond.ring ≡ ring → IsMatrix beyond
      → HasOneBasis ring.weights (IsCycle out beyond)
  one_cycle_basis out beyond first second matrix =
      let here = subst (λ q. IsRing q) (sym first) positive in
      subst (λ (q : Ring). HasOneBasis q.weights (IsCycle out beyond)) first
      (unique_reduced out.ring here (row_degrees out) (IsCycle out beyond)
      (relation_module out here beyond.target (InSpan beyond) (subst (λ q. IsModuleLike q beyond.target (InSpan beyond)) (sym first) (span_of beyond second matrix))))

pub unique_homology : (place : ComplexPlace) → IsRing place.here.ring → place.arriving.ring ≡ place.here.ring
    → place.out.ring ≡ place.here.ring → place.beyond.ring ≡ place.here.ring
    → IsMatrix (stacked place.arriving place.here) → IsMatrix place.beyond → (g r h s : Matrix) → IsHomology place g r
    → IsHomology place h s → (g ≡ h) × (r ≡ s)
unique_homology place positive first second third matrix other =
    unique_presentation place.here.ring positive place.here.target place.arriving.target
    (IsCycle place.out place.beyond) (InSpan (stacked place.arriving place.here))
    (one_cycle_basis place.here.ring positive place.out place.beyond second third other)
    (span_of place.here.ring positive (stacked place.arriving place.here) first matrix)

pub unique_kernel : (source target map : Matrix) → IsRing source.ring → map.ring ≡ source.ring
    → target.ring ≡ source.ring
    → IsMatrix source → IsMatrix target → (g r h s : Matrix) → IsKernel source target map g r
    → IsKernel source target map h s → (g ≡ h) × (r ≡ s)
unique_kernel source target map positive first second matrix other =
    unique_presentation source.ring positive source.target source.target (IsCycle map target) (InSpan source)
    (one_cycle_basis source.ring positive map target first second other)
    (span_of source.ring positive source (λ i. source.ring) matrix)

pub unique_image : (target map : Matrix) → IsRing target.ring → map.ring ≡ target.ring → IsMatrix (stacked map target)
    → IsMatrix target
    → (g r h s : Matrix) → IsImage target map g r → IsImage target map h s → (g ≡ h) × (r ≡ s)
unique_image target map positive same matrix other =
    unique_presentation target.ring positive target.target target.target (InSpan (stacked map target)) (InSpan target)
    (one_span_basis target.ring positive (stacked map target) same matrix)
    (span_of target.ring positive target (λ i. target.ring) other)

pub unique_cokernel : (target map : Matrix) → IsRing target.ring → map.ring ≡ target.ring
    → IsMatrix (stacked map target)
    → (g r h s : Matrix) → IsCokernel target map g r → IsCokernel target map h s → (g ≡ h) × (r ≡ s)
unique_cokernel target map positive same matrix =
    unique_presentation target.ring positive target.target map.target (IsAny target.ring target.target)
    (InSpan (stacked map target))
    (unique_reduced target.ring positive target.target (IsAny target.ring target.target) (any_module target.ring positive target.target))
    (span_of target.ring positive (stacked map target) same matrix)
