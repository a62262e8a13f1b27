-- Of what a mere fact is: where a fact is of one value alone, so is the mere fact, since values are equal in one way; and
-- where there is such a value, it is this one, so the fact holds of it.
use Rattle.std.proofs.Common.{◌≡◌, inl, inr, List, [], ◌∷◌, length, refl, sym, ◌∙◌, subst, ℤ}
use Rattle.std.specs.List.{AllByRecursion}
use Rattle.std.proofs.Props.{props}
use mathlib.Core.Logic.{∥∥₁_elim, ∥∥₁_map}
use Rattle.sf_algebra.specs.Matrices.{Matrix, row_degrees, IsMatrix}
use Rattle.sf_algebra.specs.MatrixOperations.{matrix_product, stacked}
use Rattle.sf_algebra.specs.Rings.{Ring, IsRing, IsOverField}
use Rattle.sf_algebra.specs.VectorOperations.{vector_difference}
use Rattle.sf_algebra.specs.Vectors.{Vector, IsVector, IsCanonicalRow}
use Rattle.sf_algebra.proofs.GradedMatrices.Stacks.{IsMatrix-stacked}
use Rattle.sf_algebra.proofs.Monomials.Weights.{field_ring}
use Rattle.sf_algebra.proofs.Vectors.VectorProps.{IsVector-prop}
use Rattle.sf_groebner.specs.Homology.{ComplexPlace, IsComplexPlace, IsHomology, IsKernel, IsImage, IsCokernel}
use Rattle.sf_groebner.specs.Maps.{AreEqualModulo}
use Rattle.sf_groebner.specs.MinimalGenerators.{AreMinimal, matrix_of}
use Rattle.sf_groebner.specs.Presentations.{IsPresentation, IsZero, IsRelation, IsModuleMap, IsReducedByRelations, AreRelationsModulo}
use Rattle.sf_groebner.specs.ReducedBases.{IsReducedBy, IsSpanBasis}
use Rattle.sf_groebner.specs.Resolutions.{IsFirstStep, IsNextStep, IsResolution}
use Rattle.sf_groebner.specs.Spans.{combined, InSpan, IsSyzygy}
use Rattle.sf_groebner.proofs.Basics.Propositions.{IsMatrix-prop, IsReducedBy-prop}
use Rattle.sf_groebner.proofs.Constructions.MatrixBases.{span_basis, syzygy_basis}
use Rattle.sf_groebner.proofs.Constructions.MinimalExistence.{minimal_modulo_span, minimal_modulo_zero}
use Rattle.sf_groebner.proofs.Constructions.PresentationExistence.{relation_basis, homology_exists, kernel_exists, image_exists, cokernel_exists}
use Rattle.sf_groebner.proofs.Constructions.ResolutionExistence.{resolution_exists}
use Rattle.sf_groebner.proofs.Constructions.SumDecisions.{decide_span}
use Rattle.sf_groebner.proofs.Spanning.Modules.{IsModuleLike}
use Rattle.sf_groebner.proofs.Spanning.Spans.{relation_module, span_module}
use Rattle.sf_groebner.proofs.Uniqueness.Homology.{span_of, unique_homology, unique_kernel, unique_image, unique_cokernel}
use Rattle.sf_groebner.proofs.Uniqueness.MinimalGenerators.{HasOneBasis, unique_minimal}
use Rattle.sf_groebner.proofs.Uniqueness.Presentations.{unique_presentation, unique_first_step, unique_next_step, unique_resolution}
use Rattle.sf_groebner.proofs.Uniqueness.UniqueBases.{unique_reduced}
use Rattle.sf_presented.specs.Coordinates.{AreCoordinates}
use Rattle.sf_presented.specs.Inverses.{AreInverseModulo}
use Rattle.sf_presented.specs.KeptFacts.{Merely}
use Rattle.sf_presented.proofs.Coordinates.{IsMatrix-relations_modulo, unique_coordinates}

-- values are equal in one way at most
same_vector-prop : (v w : Vector) → IsProp (v ≡ w)
same_vector-prop v w = hlevel props

same_degree-prop : (d e : ℤ) → IsProp (d ≡ e)
same_degree-prop d e = hlevel props

same_degrees-prop : (ds es : List ℤ) → IsProp (ds ≡ es)
same_degrees-prop ds es = hlevel props

same_ring-prop : (q r : Ring) → IsProp (q ≡ r)
same_ring-prop q r = hlevel props

same_vectors-prop : (vs ws : List Vector) → IsProp (vs ≡ ws)
same_vectors-prop vs ws = hlevel props

same_matrix-prop : (a b : Matrix) → IsProp (a ≡ b)
same_matrix-prop a b = hlevel props

same_matrices-prop : (ms ns : List Matrix) → IsProp (ms ≡ ns)
same_matrices-prop ms ns = hlevel props

same_pair-prop : (g h r s : Matrix) → IsProp ((g ≡ h) × (r ≡ s))
same_pair-prop g h r s = hlevel props

-- a proposition that two facts imply is implied by the mere facts
pub merely-both : (P Q R : Type 0) → IsProp R → (P → Q → R) → Merely P → Merely Q → R
merely-both P Q R prop f p q = ∥∥₁_elim p prop (λ x. ∥∥₁_elim q prop (f x))

-- a fact that holds of one value alone, and of one, holds where it merely does
pub merely-holds : {X : Type 0} (P : X → Type 0) (x y : X) → IsProp (x ≡ y) → (P x → P y → x ≡ y) → P x → Merely (P y)
    → P y
merely-holds P x y prop one h k = subst P (∥∥₁_elim k prop (one h)) h

-- the same of two matrices
merely-holds_pair : (P : Matrix → Matrix → Type 0) (g r h s : Matrix) → (P g r → P h s → (g ≡ h) × (r ≡ s)) → P g r
    → Merely (P h s) → P h s
merely-holds_pair P g r h s one p q =
    let same : (g ≡ h) × (r ≡ s) = ∥∥₁_elim q (same_pair-prop g h r s) (one p) in
    subst (λ m. P m s) same.0 (subst (P g) same.1 p)

module _ (m : Matrix) (positive : IsRing m.ring) (matrix : IsMatrix m) where
  one_span_basis : HasOneBasis m.ring.weights (InSpan m)
  one_span_basis = unique_reduced m.ring positive m.target (InSpan m) (span_module m positive matrix)

  pub merely-span_basis : (a b : List Vector) → Merely (IsSpanBasis m a) → Merely (IsSpanBasis m b) → a ≡ b
  merely-span_basis a b = merely-both _ _ (a ≡ b) (same_vectors-prop a b) (one_span_basis a b)

  pub merely-first_step : (a b : Matrix) → Merely (IsFirstStep m a) → Merely (IsFirstStep m b) → a ≡ b
  merely-first_step a b = merely-both _ _ (a ≡ b) (same_matrix-prop a b) (unique_first_step m positive matrix a b)

  pub merely-resolution : (a b : List Matrix) → length a ≡ length b → Merely (IsResolution m a)
      → Merely (IsResolution m b) → a ≡ b
  merely-resolution a b size =
      merely-both _ _ (a ≡ b) (same_matrices-prop a b) (unique_resolution m positive matrix a b size)

pub merely-minimal_span : (m base : Matrix) → IsRing m.ring → IsMatrix m → (a b : List Vector)
    → Merely (AreMinimal m.ring (InSpan m) (InSpan base) a) → Merely (AreMinimal m.ring (InSpan m) (InSpan base) b)
    → a ≡ b
merely-minimal_span m base positive matrix a b =
    merely-both _ _ (a ≡ b) (same_vectors-prop a b)
    (unique_minimal m.ring m.target (InSpan m) (InSpan base) (one_span_basis m positive matrix) a b)

one_relation_basis : (m base : Matrix) → IsRing m.ring → m.ring ≡ base.ring → IsMatrix base
    → HasOneBasis m.ring.weights (IsRelation m (InSpan base))
one_relation_basis m base positive same matrix =
    unique_reduced m.ring positive (row_degrees m) (IsRelation m (InSpan base))
    (relation_module m positive base.target (InSpan base) (span_of m.ring positive base (sym same) matrix))

pub merely-minimal_relations : (m base : Matrix) → IsRing m.ring → m.ring ≡ base.ring → IsMatrix base
    → (a b : List Vector) → Merely (AreMinimal m.ring (IsRelation m (InSpan base)) IsZero a)
    → Merely (AreMinimal m.ring (IsRelation m (InSpan base)) IsZero b) → a ≡ b
merely-minimal_relations m base positive same matrix a b =
    merely-both _ _ (a ≡ b) (same_vectors-prop a b)
    (unique_minimal m.ring (row_degrees m) (IsRelation m (InSpan base)) IsZero
    (one_relation_basis m base positive same matrix) a b)

pub merely-next_step : (before : Matrix) → IsRing before.ring → (a b : Matrix) → Merely (IsNextStep before a)
    → Merely (IsNextStep before b) → a ≡ b
merely-next_step before positive a b =
    merely-both _ _ (a ≡ b) (same_matrix-prop a b) (unique_next_step before positive a b)

-- presentations of N modulo B, of which a homology, a kernel, an image and a cokernel are instances
pub merely-presentation : (ring : Ring) → IsRing ring → (target degrees : List ℤ) (N B : Vector → Type 0)
    → HasOneBasis ring.weights N → IsModuleLike ring degrees B → (g r h s : Matrix)
    → Merely (IsPresentation ring target N B g r) → Merely (IsPresentation ring target N B h s) → (g ≡ h) × (r ≡ s)
merely-presentation ring positive target degrees N B one module_like g r h s =
    merely-both _ _ _ (same_pair-prop g h r s)
    (unique_presentation ring positive target degrees N B one module_like g r h s)

pub merely-homology : (place : ComplexPlace) → IsRing place.here.ring → place.arriving.ring ≡ place.here.ring
    → place.out.ring ≡ place.here.ring → place.beyond.ring ≡ place.here.ring
    → IsMatrix (stacked place.arriving place.here) → IsMatrix place.beyond → (g r h s : Matrix)
    → Merely (IsHomology place g r) → Merely (IsHomology place h s) → (g ≡ h) × (r ≡ s)
merely-homology place positive first second third matrix other g r h s =
    merely-both _ _ _ (same_pair-prop g h r s) (unique_homology place positive first second third matrix other g r h s)

pub merely-kernel : (source target map : Matrix) → IsRing source.ring → map.ring ≡ source.ring
    → target.ring ≡ source.ring → IsMatrix source → IsMatrix target → (g r h s : Matrix)
    → Merely (IsKernel source target map g r) → Merely (IsKernel source target map h s) → (g ≡ h) × (r ≡ s)
merely-kernel source target map positive first second matrix other g r h s =
    merely-both _ _ _ (same_pair-prop g h r s)
    (unique_kernel source target map positive first second matrix other g r h s)

pub merely-image : (target map : Matrix) → IsRing target.ring → map.ring ≡ target.ring → IsMatrix (stacked map target)
    → IsMatrix target → (g r h s : Matrix) → Merely (IsImage target map g r) → Merely (IsImage target map h s)
    → (g ≡ h) × (r ≡ s)
merely-image target map positive same matrix other g r h s =
    merely-both _ _ _ (same_pair-prop g h r s) (unique_image target map positive same matrix other g r h s)

pub merely-cokernel : (target map : Matrix) → IsRing target.ring → map.ring ≡ target.ring
    → IsMatrix (stacked map target) → (g r h s : Matrix) → Merely (IsCokernel target map g r)
    → Merely (IsCokernel target map h s) → (g ≡ h) × (r ≡ s)
merely-cokernel target map positive same matrix g r h s =
    merely-both _ _ _ (same_pair-prop g h r s) (unique_cokernel target map positive same matrix g r h s)

pub merely-coordinates : (generators base relations : Matrix) → IsOverField generators.ring
    → AreRelationsModulo generators base relations → (v : Vector) → IsCanonicalRow generators.ring v.terms
    → (c d : Vector) → Merely (AreCoordinates generators base relations v c)
    → Merely (AreCoordinates generators base relations v d) → c ≡ d
merely-coordinates generators base relations prime given v canonical c d =
    merely-both _ _ (c ≡ d) (same_vector-prop c d)
    (unique_coordinates generators base relations prime given v canonical c d)

-- modulo a prime, where what there is is known to be there
module _ (m : Matrix) (prime : IsOverField m.ring) (matrix : IsMatrix m) where
  pub kept-span_basis : (basis : List Vector) → Merely (IsSpanBasis m basis) → IsSpanBasis m basis
  kept-span_basis basis =
      let e = span_basis m prime matrix in
      merely-holds (IsSpanBasis m) e.0 basis (same_vectors-prop e.0 basis)
      (one_span_basis m (field_ring prime) matrix e.0 basis) e.1

  pub kept-resolution : (steps : List Matrix) → Merely (IsResolution m steps) → IsResolution m steps
  kept-resolution steps =
      let e = resolution_exists m prime matrix (length steps) in
      merely-holds (IsResolution m) e.0 steps (same_matrices-prop e.0 steps)
      (unique_resolution m (field_ring prime) matrix e.0 steps e.1) e.2

  -- a first step is a resolution of one step
  pub kept-first_step : (step : Matrix) → Merely (IsFirstStep m step) → IsFirstStep m step
  kept-first_step step h =
      let one : Merely (IsResolution m (step ∷ [])) = ∥∥₁_map h (λ k. (k, tt)) in (kept-resolution (step ∷ []) one).0

  pub kept-next_step : (step : Matrix) → Merely (IsNextStep m step) → IsNextStep m step
  kept-next_step step =
      let b = syzygy_basis m prime matrix in
      let g = minimal_modulo_zero m.ring (row_degrees m) prime (IsSyzygy m) (λ c k. k.coefficients) b.0 b.1 in
      let next : Matrix = matrix_of m.ring (row_degrees m) g.generators in
      merely-holds (IsNextStep m) next step (same_matrix-prop next step) (unique_next_step m (field_ring prime) next step)
      (record { ring = refl; target = refl; minimal = g.minimal })

pub kept-homology : (place : ComplexPlace) → IsOverField place.here.ring → IsComplexPlace place → (g r : Matrix)
    → Merely (IsHomology place g r) → IsHomology place g r
kept-homology place prime h g r =
    let e = homology_exists place prime h in
    merely-holds_pair (IsHomology place) e.0 e.1 g r
    (unique_homology place (field_ring prime) h.arriving_ring h.out_ring h.beyond_ring
    (IsMatrix-stacked place.arriving place.here h.arriving_ring h.arriving_target h.arriving_matrix h.here_matrix)
    h.beyond_matrix e.0 e.1 g r)
    e.2

pub kept-kernel : (source target map : Matrix) → IsOverField source.ring → IsMatrix source → IsMatrix target
    → IsModuleMap source target map → (g r : Matrix) → Merely (IsKernel source target map g r)
    → IsKernel source target map g r
kept-kernel source target map prime first second h g r =
    let e = kernel_exists source target map prime first second h in
    merely-holds_pair (IsKernel source target map) e.0 e.1 g r
    (unique_kernel source target map (field_ring prime) h.source_ring
    (sym h.target_ring ∙ h.source_ring) first second e.0 e.1 g r)
    e.2

module _ (source target map : Matrix) (prime : IsOverField target.ring) (matrix : IsMatrix target)
    (h : IsModuleMap source target map) (g r : Matrix) where
  both : IsMatrix (stacked map target)
  both = IsMatrix-stacked map target h.target_ring h.target_degrees h.matrix matrix

  pub kept-image : Merely (IsImage target map g r) → IsImage target map g r
  kept-image =
      let e = image_exists source target map prime matrix h in
      merely-holds_pair (IsImage target map) e.0 e.1 g r
      (unique_image target map (field_ring prime) h.target_ring both matrix e.0 e.1 g r) e.2

  pub kept-cokernel : Merely (IsCokernel target map g r) → IsCokernel target map g r
  kept-cokernel =
      let e = cokernel_exists source target map prime matrix h in
      merely-holds_pair (IsCokernel target map) e.0 e.1 g r
      (unique_cokernel target map (field_ring prime) h.target_ring both e.0 e.1 g r) e.2

-- a vector that merely is in a span is homogeneous, so it is decided whether it is there
pub kept-InSpan : (m : Matrix) → IsOverField m.ring → IsMatrix m → (v : Vector) → Merely (InSpan m v) → InSpan m v
kept-InSpan m prime matrix v h =
    let vector : IsVector m.ring m.target v =
    ∥∥₁_elim h (IsVector-prop m.ring m.target v) ((span_module m (field_ring prime) matrix).vectors v) in
    elim (decide_span m prime matrix v vector) [
      | inl inside ↦ inside
      | inr outside ↦ absurd (∥∥₁_elim h (λ x y. absurd x) outside)
    ]

-- what is merely reduced by relations is reduced by the basis that there is
pub kept-reduced : (m : Matrix) → IsOverField m.ring → IsMatrix m → (v : Vector) → Merely (IsReducedByRelations m v)
    → IsReducedByRelations m v
kept-reduced m prime matrix v h =
    let b = span_basis m prime matrix in
    record {
      basis = b.0;
      reduced_basis = b.1;
      reduced =
          ∥∥₁_elim h (IsReducedBy-prop b.0 v.terms)
          (λ k. subst (λ basis. IsReducedBy basis v.terms)
          (one_span_basis m (field_ring prime) matrix k.basis b.0 k.reduced_basis b.1) k.reduced);
    }

pub kept-coordinates : (generators base relations : Matrix) → IsOverField generators.ring
    → AreRelationsModulo generators base relations → (v c : Vector)
    → Merely (AreCoordinates generators base relations v c) → AreCoordinates generators base relations v c
kept-coordinates generators base relations prime given v c h = record {
  coefficients =
      ∥∥₁_elim h (IsVector-prop generators.ring (row_degrees generators) c) (λ k. k.coefficients);
  reduced =
      kept-reduced relations (subst IsOverField (sym given.ring) prime)
      (IsMatrix-relations_modulo generators base relations prime given) c (∥∥₁_map h (λ k. k.reduced));
  value = record {
    degrees = ∥∥₁_elim h (same_degree-prop v.degree c.degree) (λ k. k.value.degrees);
    difference =
        kept-InSpan base (subst IsOverField given.base_ring prime) given.base_matrix
        (vector_difference generators.ring v (combined generators c)) (∥∥₁_map h (λ k. k.value.difference));
  };
}

-- minimal generators of a span modulo a span, and of the relations of vectors modulo a span
pub kept-minimal_span : (m base : Matrix) → IsOverField m.ring → base.ring ≡ m.ring → base.target ≡ m.target
    → IsMatrix m → IsMatrix base → (generators : List Vector)
    → Merely (AreMinimal m.ring (InSpan m) (InSpan base) generators)
    → AreMinimal m.ring (InSpan m) (InSpan base) generators
kept-minimal_span m base prime rings targets matrix other generators h =
    let b = span_basis m prime matrix in
    let rows : AllByRecursion (IsVector m.ring m.target) base.rows =
    subst (λ q. AllByRecursion (IsVector q m.target) base.rows) rings
    (subst (λ ds. AllByRecursion (IsVector base.ring ds) base.rows) targets other) in
    let g =
    minimal_modulo_span m.ring m.target prime (InSpan m)
    (span_module m (field_ring prime) matrix).vectors b.0 b.1 base.rows rows in
    let there : AreMinimal m.ring (InSpan m) (InSpan base) g.generators =
    subst (λ q. AreMinimal m.ring (InSpan m) (InSpan (matrix_of q m.target base.rows)) g.generators)
    (sym rings) g.minimal in
    merely-holds (AreMinimal m.ring (InSpan m) (InSpan base)) g.generators generators
    (same_vectors-prop g.generators generators)
    (unique_minimal m.ring m.target (InSpan m) (InSpan base)
    (one_span_basis m (field_ring prime) matrix) g.generators generators) there h

pub kept-minimal_relations : (m base : Matrix) → IsOverField m.ring → m.ring ≡ base.ring → m.target ≡ base.target
    → IsMatrix m → IsMatrix base → (generators : List Vector)
    → Merely (AreMinimal m.ring (IsRelation m (InSpan base)) IsZero generators)
    → AreMinimal m.ring (IsRelation m (InSpan base)) IsZero generators
kept-minimal_relations m base prime rings targets matrix other generators h =
    let b = relation_basis m base prime rings targets matrix other in
    let g =
    minimal_modulo_zero m.ring (row_degrees m) prime (IsRelation m (InSpan base)) (λ c k. k.coefficients) b.0 b.1 in
    merely-holds (AreMinimal m.ring (IsRelation m (InSpan base)) IsZero) g.generators generators
    (same_vectors-prop g.generators generators)
    (unique_minimal m.ring (row_degrees m) (IsRelation m (InSpan base)) IsZero
    (one_relation_basis m base (field_ring prime) rings other) g.generators generators)
    g.minimal h

pub kept-module_map : (source target map : Matrix) → IsOverField target.ring → IsMatrix target
    → Merely (IsModuleMap source target map) → IsModuleMap source target map
kept-module_map source target map prime matrix h = record {
  matrix = ∥∥₁_elim h (IsMatrix-prop map) (λ k. k.matrix);
  source_ring = ∥∥₁_elim h (same_ring-prop map.ring source.ring) (λ k. k.source_ring);
  target_ring = ∥∥₁_elim h (same_ring-prop map.ring target.ring) (λ k. k.target_ring);
  source_degrees = ∥∥₁_elim h (same_degrees-prop (row_degrees map) source.target) (λ k. k.source_degrees);
  target_degrees = ∥∥₁_elim h (same_degrees-prop map.target target.target) (λ k. k.target_degrees);
  sends = λ v inside. kept-InSpan target prime matrix (combined map v) (∥∥₁_map h (λ k. k.sends v inside));
}

-- equality modulo a span
kept-equal : (m : Matrix) → IsOverField m.ring → IsMatrix m → (u v : Vector)
    → Merely (AreEqualModulo m.ring (InSpan m) u v) → AreEqualModulo m.ring (InSpan m) u v
kept-equal m prime matrix u v h = record {
  degrees = ∥∥₁_elim h (same_degree-prop u.degree v.degree) (λ k. k.degrees);
  difference = kept-InSpan m prime matrix (vector_difference m.ring u v) (∥∥₁_map h (λ k. k.difference));
}

pub kept-inverse : (first second to from : Matrix) → IsOverField first.ring → IsMatrix first → IsMatrix second
    → Merely (AreInverseModulo first second to from) → AreInverseModulo first second to from
kept-inverse first second to from prime matrix other h =
    let rings : first.ring ≡ second.ring =
    ∥∥₁_elim h (same_ring-prop first.ring second.ring) (λ k. sym k.to_map.source_ring ∙ k.to_map.target_ring) in
    let other_prime : IsOverField second.ring = subst IsOverField rings prime in
    record {
      to_map = kept-module_map first second to other_prime other (∥∥₁_map h (λ k. k.to_map));
      from_map = kept-module_map second first from prime matrix (∥∥₁_map h (λ k. k.from_map));
      back = λ v vector.
          kept-equal first prime matrix v (combined (matrix_product to from) v) (∥∥₁_map h (λ k. k.back v vector));
      forth = λ v vector.
          kept-equal second other_prime other v (combined (matrix_product from to) v)
          (∥∥₁_map h (λ k. k.forth v vector));
    }
