-- Modules with reduced bases have presentations modulo spans: homology, kernels, images and cokernels.
use Rattle.std.proofs.Common.{◌≡◌, List, length, refl, sym, ◌∙◌, subst, ℤ}
use Rattle.std.specs.List.{AllByRecursion}
use Rattle.sf_algebra.specs.Matrices.{Matrix, IsMatrix, row_degrees}
use Rattle.sf_algebra.specs.MatrixOperations.{identity, stacked}
use Rattle.sf_algebra.specs.Rings.{Ring, Weights, IsRing, IsOverField}
use Rattle.sf_algebra.specs.Vectors.{Vector, IsVector}
use Rattle.sf_algebra.proofs.GradedMatrices.Identities.{IsMatrix-identity, row_degrees-identity}
use Rattle.sf_algebra.proofs.GradedMatrices.Stacks.{IsMatrix-stacked}
use Rattle.sf_algebra.proofs.Monomials.Weights.{field_ring}
use Rattle.sf_algebra.proofs.Vectors.HomogeneousVectors.{row_combination-identity}
use Rattle.sf_groebner.specs.Cuts.{IsFirstBlock}
use Rattle.sf_groebner.specs.Homology.{ComplexPlace, IsComplexPlace, IsAny, IsCokernel, IsCycle, IsHomology, IsImage, IsKernel}
use Rattle.sf_groebner.specs.MinimalGenerators.{matrix_of}
use Rattle.sf_groebner.specs.Presentations.{IsModuleMap, IsPresentation, IsRelation}
use Rattle.sf_groebner.specs.ReducedBases.{IsReducedBasis}
use Rattle.sf_groebner.specs.Spans.{InSpan, IsSyzygy}
use Rattle.sf_groebner.proofs.Constructions.MatrixBases.{span_basis, syzygy_basis}
use Rattle.sf_groebner.proofs.Constructions.MinimalExistence.{minimal_modulo_span, minimal_modulo_zero}
use Rattle.sf_groebner.proofs.PartsOfBases.FirstParts.{reduced-first_parts}
use Rattle.sf_groebner.proofs.PartsOfBases.Relations.{IsRelation-blocks}
use Rattle.sf_groebner.proofs.Spanning.SameModules.{IsReducedBasis-same}
use Rattle.sf_groebner.proofs.Spanning.Spans.{span_module}

-- a module is given by a reduced basis
abbrev pub HasBasis : Weights → (Vector → Type 0) → Type 0
HasBasis weights N = (basis : List Vector) × IsReducedBasis weights N basis

-- the relations of the rows of a modulo the span of those of b
pub relation_basis : (a b : Matrix) → IsOverField a.ring → a.ring ≡ b.ring → a.target ≡ b.target → IsMatrix a
    → IsMatrix b → HasBasis a.ring.weights (IsRelation a (InSpan b))
relation_basis a b prime rings targets h k =
    let m = stacked a b in
    let positive : IsRing a.ring = field_ring prime in
    let s = syzygy_basis m prime (IsMatrix-stacked a b rings targets h k) in (
      _,
      IsReducedBasis-same a.ring.weights (IsFirstBlock a b) (IsRelation a (InSpan b))
          (λ v. (IsRelation-blocks a b positive rings v).1) (λ v. (IsRelation-blocks a b positive rings v).0) _
          (reduced-first_parts m.ring (row_degrees m) (IsSyzygy m) (λ w l. l.coefficients) (length a.rows) s.0 s.1),
    )

-- all vectors of a free module
pub any_basis : (ring : Ring) → IsOverField ring → (degrees : List ℤ) → HasBasis ring.weights (IsAny ring degrees)
any_basis ring prime degrees =
    let m = identity ring degrees in
    let positive : IsRing ring = field_ring prime in
    let matrix = IsMatrix-identity ring prime.prime.above_one degrees in
    let s = span_basis m prime matrix in (
      s.0,
      IsReducedBasis-same ring.weights (InSpan m) (IsAny ring degrees) (span_module m positive matrix).vectors
          (λ v h. record { coefficients = v; homogeneous = subst (λ ds. IsVector ring ds v) (sym (row_degrees-identity ring degrees)) h; value = (λ i. record { degree = v.degree; terms = row_combination-identity ring positive.modulus degrees v h i }) })
          s.0 s.1,
    )

module _ (ring : Ring) (prime : IsOverField ring) (target : List ℤ) (N : Vector → Type 0)
    (vectors : (v : Vector) → N v → IsVector ring target v) (basis : HasBasis ring.weights N) where
  presentation_modulo_rows : (rows : List Vector) → AllByRecursion (IsVector ring target) rows
      → (generators : Matrix) × (relations : Matrix)
      × IsPresentation ring target N (InSpan (matrix_of ring target rows)) generators relations
  presentation_modulo_rows rows h =
      let base = matrix_of ring target rows in
      let g = minimal_modulo_span ring target prime N vectors basis.0 basis.1 rows h in
      let generators = matrix_of ring target g.generators in
      let relations_basis = relation_basis generators base prime refl refl g.vectors h in
      let r = minimal_modulo_zero ring (row_degrees generators) prime (IsRelation generators (InSpan base)) (λ c k. k.coefficients) relations_basis.0 relations_basis.1 in (
        generators,
        matrix_of ring (row_degrees generators) r.generators,
        record {
          generators_ring = refl;
          generators_target = refl;
          generators_minimal = g.minimal;
          relations_ring = refl;
          relations_target = refl;
          relations_minimal = r.minimal;
        },
      )

  -- a module with a reduced basis has a presentation modulo the span of a matrix
  pub presentation_exists : (base : Matrix) → base.ring ≡ ring → base.target ≡ target → IsMatrix base
      → (generators : Matrix) × (relations : Matrix) × IsPresentation ring target N (InSpan base) generators relations
  presentation_exists base rings targets matrix =
      let same : matrix_of ring target base.rows ≡ base =
      λ i. record { ring = sym rings i; target = sym targets i; rows = base.rows } in
      let rows : AllByRecursion (IsVector ring target) base.rows =
      subst (λ (m : Matrix). AllByRecursion (IsVector m.ring m.target) base.rows) (sym same) matrix in
      subst (λ (m : Matrix). (generators : Matrix) × (relations : Matrix) × IsPresentation ring target N (InSpan m) generators relations) same (presentation_modulo_rows base.rows rows)

-- cycles are homogeneous vectors
cycle-vector : (ring : Ring) (degrees : List ℤ) (out beyond : Matrix) → out.ring ≡ ring → row_degrees out ≡ degrees
    → (c : Vector) → IsCycle out beyond c → IsVector ring degrees c
cycle-vector ring degrees out beyond rings same c h =
    subst (λ q. IsVector q degrees c) rings (subst (λ ds. IsVector out.ring ds c) same h.coefficients)

pub homology_exists : (place : ComplexPlace) → IsOverField place.here.ring → IsComplexPlace place
    → (generators : Matrix) × (relations : Matrix) × IsHomology place generators relations
homology_exists place prime h =
    presentation_exists place.here.ring prime place.here.target (IsCycle place.out place.beyond)
    (cycle-vector place.here.ring place.here.target place.out place.beyond h.out_ring h.out_degrees)
    (subst (λ (q : Ring). HasBasis q.weights (IsCycle place.out place.beyond)) h.out_ring
    (relation_basis place.out place.beyond (subst IsOverField (sym h.out_ring) prime) (h.out_ring ∙ sym h.beyond_ring) h.out_target h.out_matrix h.beyond_matrix))
    (stacked place.arriving place.here) h.arriving_ring h.arriving_target
    (IsMatrix-stacked place.arriving place.here h.arriving_ring h.arriving_target h.arriving_matrix h.here_matrix)

pub kernel_exists : (source target map : Matrix) → IsOverField source.ring → IsMatrix source → IsMatrix target
    → IsModuleMap source target map
    → (generators : Matrix) × (relations : Matrix) × IsKernel source target map generators relations
kernel_exists source target map prime first second h =
    presentation_exists source.ring prime source.target (IsCycle map target)
    (cycle-vector source.ring source.target map target h.source_ring h.source_degrees)
    (subst (λ (q : Ring). HasBasis q.weights (IsCycle map target)) h.source_ring
    (relation_basis map target (subst IsOverField (sym h.source_ring) prime) h.target_ring h.target_degrees h.matrix second))
    source refl refl first

module _ (source target map : Matrix) (prime : IsOverField target.ring) (matrix : IsMatrix target)
    (h : IsModuleMap source target map) where
  both_matrix : IsMatrix (stacked map target)
  both_matrix = IsMatrix-stacked map target h.target_ring h.target_degrees h.matrix matrix

  pub image_exists : (generators : Matrix) × (relations : Matrix) × IsImage target map generators relations
  image_exists =
      let prime_map : IsOverField map.ring = subst IsOverField (sym h.target_ring) prime in
      let positive : IsRing map.ring = field_ring prime_map in
      presentation_exists target.ring prime target.target (InSpan (stacked map target))
      (λ v k. subst (λ q. IsVector q target.target v) h.target_ring (subst (λ ds. IsVector map.ring ds v) h.target_degrees ((span_module (stacked map target) positive both_matrix).vectors v k)))
      (subst (λ (q : Ring). HasBasis q.weights (InSpan (stacked map target))) h.target_ring (span_basis (stacked map target) prime_map both_matrix))
      target refl refl matrix

  pub cokernel_exists : (generators : Matrix) × (relations : Matrix) × IsCokernel target map generators relations
  cokernel_exists =
      presentation_exists target.ring prime target.target (IsAny target.ring target.target) (λ v k. k)
      (any_basis target.ring prime target.target)
      (stacked map target) h.target_ring h.target_degrees both_matrix
