-- The generators of a presentation generate, and its relations span all relations: once for all modules, then for
-- kernels, images, cokernels and homology.
use Rattle.std.proofs.Common.{◌≡◌, List, [], refl, sym, ◌∙◌, subst, ℤ}
use Rattle.sf_algebra.specs.Matrices.{Matrix, row_degrees, IsMatrix}
use Rattle.sf_algebra.specs.MatrixOperations.{stacked}
use Rattle.sf_algebra.specs.Rings.{Ring, IsRing, IsOverField}
use Rattle.sf_algebra.specs.Vectors.{Vector, IsVector, IsCanonicalRow}
use Rattle.sf_algebra.proofs.GradedMatrices.Stacks.{IsMatrix-stacked}
use Rattle.sf_algebra.proofs.Monomials.Weights.{field_ring}
use Rattle.sf_algebra.proofs.Vectors.Degrees.{IsHomogeneous-row_combination}
use Rattle.sf_algebra.proofs.Vectors.Rows.{IsCanonical-row_combination, row_combination-nil}
use Rattle.sf_algebra.proofs.Vectors.RowSums.{row_sum-nil}
use Rattle.sf_algebra.proofs.Basics.Lists.{AllByRecursion-weaken}
use Rattle.sf_groebner.specs.Homology.{ComplexPlace, IsComplexPlace, IsAny, IsCycle, IsHomology, IsKernel, IsImage, IsCokernel}
use Rattle.sf_groebner.specs.MinimalGenerators.{IsInSum, matrix_of}
use Rattle.sf_groebner.specs.Presentations.{IsModuleMap, IsPresentation, IsRelation}
use Rattle.sf_groebner.specs.Spans.{InSpan}
use Rattle.sf_groebner.proofs.PartsOfBases.StackedSpans.{InSpan-stacked_sum}
use Rattle.sf_groebner.proofs.Spanning.SpanCombinations.{relation_submodule, span_submodule_of}
use Rattle.sf_groebner.proofs.Spanning.Submodules.{IsSubmodule}
use Rattle.sf_groebner.proofs.Uniqueness.GeneratingBases.{AreMinimal-generate, AreMinimal-inside}
use Rattle.sf_groebner.proofs.Uniqueness.Presentations.{any_module}
use Rattle.sf_groebner.proofs.Uniqueness.PresentedModules.{minimal-inside}
use Rattle.sf_groebner.proofs.Uniqueness.ReducedCoordinates.{InSpan-minimal, InSpan-minimal_inside}
use Rattle.sf_presented.specs.Presented.{IsPresentedBy}

module _ (ring : Ring) (prime : IsOverField ring) (target : List ℤ) (N B : Vector → Type 0)
    (n : IsSubmodule ring target N) (b : IsSubmodule ring target B) (g r : Matrix)
    (h : IsPresentation ring target N B g r) where
  -- the relations of the generators, over the ring as it is known
  relations_submodule : IsSubmodule ring (row_degrees g) (IsRelation g B)
  relations_submodule =
      subst (λ q. IsSubmodule q (row_degrees g) (IsRelation g B)) h.generators_ring
      (relation_submodule g (subst (λ q. IsRing q) (sym h.generators_ring) (field_ring prime)) target B
      (subst (λ q. IsSubmodule q target B) (sym h.generators_ring) b))

  as_rows : matrix_of ring (row_degrees g) r.rows ≡ r
  as_rows = λ i. record { ring = sym h.relations_ring i; target = sym h.relations_target i; rows = r.rows }

  pub presented : IsPresentedBy N B g r
  presented = record {
    inside = minimal-inside ring target N B g.rows h.generators_minimal;
    generate = λ v k.
        subst (λ q. IsInSum q g.rows B v) (sym h.generators_ring)
        (AreMinimal-generate ring prime target N B n b g.rows h.generators_minimal v k);
    relate = λ c. (
      λ k. subst (λ m. InSpan m c) as_rows
          (InSpan-minimal ring prime (row_degrees g) (IsRelation g B) relations_submodule r.rows h.relations_minimal c k),
      λ k. InSpan-minimal_inside ring prime (row_degrees g)
          (IsRelation g B) relations_submodule r.rows h.relations_minimal c
          (subst (λ m. InSpan m c) (sym as_rows) k),
    );
  }

  -- where B is in N, only vectors of N are such sums
  pub presented-sums : ((v : Vector) → B v → N v) → (v : Vector) → IsInSum g.ring g.rows B v → N v
  presented-sums within v k =
      AreMinimal-inside ring prime target N B n b g.rows h.generators_minimal within v
      (subst (λ q. IsInSum q g.rows B v) h.generators_ring k)

-- cycles, over the ring and the degrees as they are known
cycle_submodule : (ring : Ring) → IsRing ring → (degrees : List ℤ) (out beyond : Matrix) → out.ring ≡ ring
    → beyond.ring ≡ ring → row_degrees out ≡ degrees → IsMatrix beyond → IsSubmodule ring degrees (IsCycle out beyond)
cycle_submodule ring positive degrees out beyond first second same matrix =
    subst (λ ds. IsSubmodule ring ds (IsCycle out beyond)) same
    (subst (λ q. IsSubmodule q (row_degrees out) (IsCycle out beyond)) first
    (relation_submodule out (subst (λ q. IsRing q) (sym first) positive) beyond.target (InSpan beyond)
    (span_submodule_of out.ring (subst (λ q. IsRing q) (sym first) positive) beyond.target beyond
    (second ∙ sym first) refl matrix)))

-- all vectors
any_submodule : (ring : Ring) → IsRing ring → (degrees : List ℤ) → IsSubmodule ring degrees (IsAny ring degrees)
any_submodule ring positive degrees = record {
  module_like = any_module ring positive degrees;
  combinations = λ rows inside d c h. record {
    canonical = IsCanonical-row_combination ring positive.modulus rows c;
    homogeneous =
        IsHomogeneous-row_combination degrees ring rows (AllByRecursion-weaken _ _ (λ v k. k.homogeneous) rows inside)
        d c h;
  };
}

pub presented-kernel : (source target map : Matrix) → IsOverField source.ring → IsMatrix source → IsMatrix target
    → IsModuleMap source target map → (g r : Matrix) → IsKernel source target map g r
    → IsPresentedBy (IsCycle map target) (InSpan source) g r
presented-kernel source target map prime first second h g r =
    let positive : IsRing source.ring = field_ring prime in
    presented source.ring prime source.target (IsCycle map target) (InSpan source)
    (cycle_submodule source.ring positive source.target map target h.source_ring
    (sym h.target_ring ∙ h.source_ring) h.source_degrees second)
    (span_submodule_of source.ring positive source.target source refl refl first) g r

-- a map sends the relations of its source to relations, so they are cycles
pub sums-kernel : (source target map : Matrix) → IsOverField source.ring → IsMatrix source → IsMatrix target
    → IsModuleMap source target map → (g r : Matrix) → IsKernel source target map g r → (v : Vector)
    → IsInSum g.ring g.rows (InSpan source) v → IsCycle map target v
sums-kernel source target map prime first second h g r k =
    let positive : IsRing source.ring = field_ring prime in
    let part : IsSubmodule source.ring source.target (InSpan source) =
    span_submodule_of source.ring positive source.target source refl refl first in
    presented-sums source.ring prime source.target (IsCycle map target) (InSpan source)
    (cycle_submodule source.ring positive source.target map target h.source_ring
    (sym h.target_ring ∙ h.source_ring) h.source_degrees second)
    part g r k
    (λ v l. record {
      coefficients =
          subst (λ q. IsVector q (row_degrees map) v) (sym h.source_ring)
          (subst (λ ds. IsVector source.ring ds v) (sym h.source_degrees) (part.module_like.vectors v l));
      inside = h.sends v l;
    })

module _ (source target map : Matrix) (prime : IsOverField target.ring) (matrix : IsMatrix target)
    (h : IsModuleMap source target map) where
  both : IsSubmodule target.ring target.target (InSpan (stacked map target))
  both =
      span_submodule_of target.ring (field_ring prime) target.target (stacked map target) h.target_ring h.target_degrees
      (IsMatrix-stacked map target h.target_ring h.target_degrees h.matrix matrix)

  pub presented-image : (g r : Matrix) → IsImage target map g r
      → IsPresentedBy (InSpan (stacked map target)) (InSpan target) g r
  presented-image =
      presented target.ring prime target.target (InSpan (stacked map target)) (InSpan target) both
      (span_submodule_of target.ring (field_ring prime) target.target target refl refl matrix)

  part : IsSubmodule target.ring target.target (InSpan target)
  part = span_submodule_of target.ring (field_ring prime) target.target target refl refl matrix

  -- the relations are in the span of both
  relations-both : (v : Vector) → InSpan target v → InSpan (stacked map target) v
  relations-both v k =
      let map_positive : IsRing map.ring = subst (λ q. IsRing q) (sym h.target_ring) (field_ring prime) in
      InSpan-stacked_sum map target map_positive h.target_ring v (record {
        first = v;
        second = record { degree = v.degree; terms = [] };
        in_module = k;
        in_span = record {
          coefficients = record { degree = v.degree; terms = [] };
          homogeneous = record { canonical = record { descending = tt; residues = tt }; homogeneous = tt };
          value = λ i. record { degree = v.degree; terms = row_combination-nil map.ring map_positive.modulus map.rows i };
        };
        first_degree = refl;
        second_degree = refl;
        sum =
            row_sum-nil map.ring map_positive.modulus v.terms
            (subst (λ q. IsCanonicalRow q v.terms) (sym h.target_ring) (part.module_like.vectors v k).canonical);
      })

  pub sums-image : (g r : Matrix) → IsImage target map g r → (v : Vector) → IsInSum g.ring g.rows (InSpan target) v
      → InSpan (stacked map target) v
  sums-image g r k =
      presented-sums target.ring prime target.target (InSpan (stacked map target)) (InSpan target) both part g r k
      relations-both

  pub presented-cokernel : (g r : Matrix) → IsCokernel target map g r
      → IsPresentedBy (IsAny target.ring target.target) (InSpan (stacked map target)) g r
  presented-cokernel =
      presented target.ring prime target.target (IsAny target.ring target.target) (InSpan (stacked map target))
      (any_submodule target.ring (field_ring prime) target.target) both

module _ (place : ComplexPlace) (prime : IsOverField place.here.ring) (h : IsComplexPlace place) where
  positive_here : IsRing place.here.ring
  positive_here = field_ring prime

  cycles : IsSubmodule place.here.ring place.here.target (IsCycle place.out place.beyond)
  cycles =
      cycle_submodule place.here.ring positive_here place.here.target place.out place.beyond h.out_ring h.beyond_ring
      h.out_degrees h.beyond_matrix

  arriving_and_here : IsSubmodule place.here.ring place.here.target (InSpan (stacked place.arriving place.here))
  arriving_and_here =
      span_submodule_of place.here.ring positive_here place.here.target (stacked place.arriving place.here)
      h.arriving_ring h.arriving_target
      (IsMatrix-stacked place.arriving place.here h.arriving_ring h.arriving_target h.arriving_matrix h.here_matrix)

  pub presented-homology : (g r : Matrix) → IsHomology place g r
      → IsPresentedBy (IsCycle place.out place.beyond) (InSpan (stacked place.arriving place.here)) g r
  presented-homology =
      presented place.here.ring prime place.here.target (IsCycle place.out place.beyond)
      (InSpan (stacked place.arriving place.here)) cycles arriving_and_here

  pub sums-homology : ((v : Vector) → InSpan (stacked place.arriving place.here) v → IsCycle place.out place.beyond v)
      → (g r : Matrix) → IsHomology place g r → (v : Vector)
      → IsInSum g.ring g.rows (InSpan (stacked place.arriving place.here)) v → IsCycle place.out place.beyond v
  sums-homology within g r k =
      presented-sums place.here.ring prime place.here.target (IsCycle place.out place.beyond)
      (InSpan (stacked place.arriving place.here)) cycles arriving_and_here g r k within
