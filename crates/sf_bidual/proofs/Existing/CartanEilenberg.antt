-- Cartan-Eilenberg resolutions exist: canonical resolutions of boundaries and homology, then sides of both horseshoes.
use Rattle.std.proofs.Common.{◌≡◌, ℕ, suc, List, sym, subst, ℤ}
use Rattle.sf_algebra.specs.Matrices.{Matrix, row_degrees, IsMatrix}
use Rattle.sf_algebra.specs.Rings.{Ring, IsRing, IsOverField}
use Rattle.sf_algebra.specs.Vectors.{Vector, IsVector}
use Rattle.sf_algebra.proofs.Monomials.Weights.{field_ring}
use Rattle.sf_groebner.specs.Presentations.{IsZero}
use Rattle.sf_groebner.specs.Spans.{InSpan, IsSyzygy}
use Rattle.sf_groebner.proofs.Constructions.MatrixBases.{span_basis, syzygy_basis}
use Rattle.sf_groebner.proofs.Constructions.PresentationExistence.{HasBasis}
use Rattle.sf_groebner.proofs.Spanning.Spans.{span_module}
use Rattle.sf_groebner.proofs.Uniqueness.PresentedModules.{minimal-inside}
use Rattle.sf_bidual.specs.Bidual.{HasNoStepPast, IsBidualOf, dual_maps}
use Rattle.sf_bidual.specs.CartanEilenberg.{CartanEilenberg, IsCartanEilenberg, IsCochainComplex, IsResolutionOf, arriving}
use Rattle.sf_bidual.specs.Horseshoes.{AreLifts, AreSides, horseshoe}
use Rattle.sf_bidual.proofs.BidualSpots.DualComplexes.{complex_of_steps}
use Rattle.sf_bidual.proofs.Columns.Arriving.{IsTo-arriving, arriving-zero}
use Rattle.sf_bidual.proofs.Columns.OneColumn.{prepared_first, prepared_second}
use Rattle.sf_bidual.proofs.Existing.Resolutions.{resolution_modulo, resolution_modulo_zero}
use Rattle.sf_bidual.proofs.Existing.Steps.{IsGood, all_steps, all_steps-first, all_steps-next}
use Rattle.sf_bidual.proofs.Horseshoes.Sides.{IsPrepared, lifts_exist, sides_exist}

module _ (ring : Ring) (maps : ℕ → Matrix) (prime : IsOverField ring) (complex : IsCochainComplex ring maps) where
  module _ (m : Matrix) (e : m.ring ≡ ring) (matrix : IsMatrix m) where
    span-basis : HasBasis ring.weights (InSpan m)
    span-basis =
        subst (λ (q : Ring). HasBasis q.weights (InSpan m)) e
        (span_basis m (subst IsOverField (sym e) prime) matrix)

    syzygy-basis : HasBasis ring.weights (IsSyzygy m)
    syzygy-basis =
        subst (λ (q : Ring). HasBasis q.weights (IsSyzygy m)) e
        (syzygy_basis m (subst IsOverField (sym e) prime) matrix)

    span-vectors : (target : List ℤ) → m.target ≡ target → (v : Vector) → InSpan m v → IsVector ring target v
    span-vectors target same v k =
        subst (λ q. IsVector q target v) e
        (subst (λ ds. IsVector m.ring ds v) same
        ((span_module m (subst (λ q. IsRing q) (sym e) (field_ring prime)) matrix).vectors v k))

  boundaries : (i : ℕ) → (steps : ℕ → Matrix)
      × IsResolutionOf ring (row_degrees (maps i)) (InSpan (arriving ring maps i)) IsZero steps
  boundaries i =
      let to = IsTo-arriving ring maps prime complex i in
      resolution_modulo_zero ring prime (row_degrees (maps i)) (InSpan (arriving ring maps i))
      (span-vectors (arriving ring maps i) to.ring_of to.matrix (row_degrees (maps i)) to.target_of)
      (span-basis (arriving ring maps i) to.ring_of to.matrix)

  homology : (i : ℕ) → (steps : ℕ → Matrix)
      × IsResolutionOf ring (row_degrees (maps i)) (IsSyzygy (maps i)) (InSpan (arriving ring maps i)) steps
  homology i =
      let to = IsTo-arriving ring maps prime complex i in
      resolution_modulo ring prime (row_degrees (maps i)) (IsSyzygy (maps i))
      (λ v k. subst (λ q. IsVector q (row_degrees (maps i)) v) (complex.rings i) k.coefficients)
      (syzygy-basis (maps i) (complex.rings i) (complex.matrices i)) (arriving ring maps i) to.ring_of to.target_of
      to.matrix

  module _ (i : ℕ) where
    abbrev b : ℕ → Matrix
    b = (boundaries i).0

    abbrev g : ℕ → Matrix
    g = (homology i).0

    b-prime : IsOverField (b 0).ring
    b-prime = subst IsOverField (sym (boundaries i).1.presentation.generators_ring) prime

    inner-prepared : IsPrepared b g (g 0)
    inner-prepared =
        prepared_first ring prime (arriving ring maps i) (maps i) (IsTo-arriving ring maps prime complex i)
        (complex.rings i) (complex.matrices i) (arriving-zero ring maps prime complex i) b g (boundaries i).1
        (homology i).1

    inner : (sides : ℕ → Matrix) × (sides 0 ≡ g 0) × AreSides b g sides
    inner = sides_exist b g (g 0) inner-prepared b-prime

    abbrev next : ℕ → Matrix
    next = (boundaries (suc i)).0

    after : IsResolutionOf ring (maps i).target (InSpan (maps i)) IsZero next
    after =
        subst (λ ds. IsResolutionOf ring ds (InSpan (maps i)) IsZero next) (complex.meet i).degrees
        (boundaries (suc i)).1

    section : (l : Matrix) × AreLifts (maps i) (next 0) l
    section =
        lifts_exist (maps i) (next 0) (subst IsOverField (sym (complex.rings i)) prime) (complex.matrices i)
        (minimal-inside ring (maps i).target (InSpan (maps i)) IsZero (next 0).rows after.presentation.generators_minimal)

    outer-prepared : IsPrepared (horseshoe b g inner.0) next section.0
    outer-prepared =
        prepared_second ring prime (arriving ring maps i) (maps i) (IsTo-arriving ring maps prime complex i)
        (complex.rings i) (complex.matrices i) (arriving-zero ring maps prime complex i) b g (boundaries i).1
        (homology i).1 inner.0 inner.1 inner.2 next after (λ j. section.0) section.1

    outer : (sides : ℕ → Matrix) × (sides 0 ≡ section.0) × AreSides (horseshoe b g inner.0) next sides
    outer = sides_exist (horseshoe b g inner.0) next section.0 outer-prepared b-prime

  pub cartan_eilenberg_exists : (x : CartanEilenberg) × IsCartanEilenberg ring maps x
  cartan_eilenberg_exists = (
    record {
      boundaries = λ i. (boundaries i).0;
      homology = λ i. (homology i).0;
      inner = λ i. (inner i).0;
      outer = λ i. (outer i).0;
    },
    record {
      boundaries = λ i. (boundaries i).1;
      homology = λ i. (homology i).1;
      inner_start = λ i. (inner i).1;
      inner_sides = λ i. (inner i).2;
      outer_start = λ i. subst (AreLifts (maps i) ((boundaries (suc i)).0 0)) (sym (outer i).1) (section i).1;
      outer_sides = λ i. (outer i).2;
    },
  )

pub bidual_exists : (relations : Matrix) → IsOverField relations.ring → IsMatrix relations
    → (steps : ℕ → Matrix) × (x : CartanEilenberg) × ((n : ℕ) → HasNoStepPast n x → IsBidualOf relations n steps x)
bidual_exists relations prime matrix =
    let good : IsGood relations = record { prime = prime; matrix = matrix } in
    let steps = all_steps relations good in
    let first = all_steps-first relations good in
    let next = all_steps-next relations good in
    let found =
    cartan_eilenberg_exists relations.ring (dual_maps steps) prime
    (complex_of_steps relations steps prime matrix first next) in
    (steps, found.0, λ n ends. record { first = first; next = next; cartan = found.1; ends = ends })
