-- One column of a Cartan-Eilenberg resolution, as two horseshoes: over the boundaries the homology, and over the cycles
-- the next boundaries.
use Rattle.std.proofs.Common.{◌≡◌, ◌↔◌, ◌<◌, ℕ, suc, List, refl, sym, ◌∙◌, ap, subst, ℤ}
use Rattle.sf_algebra.specs.Matrices.{Matrix, row_degrees, IsMatrix}
use Rattle.sf_algebra.specs.MatrixOperations.{matrix_product, row_combination, IsComposable}
use Rattle.sf_algebra.specs.Rings.{Ring, IsRing, IsOverField}
use Rattle.sf_algebra.specs.VectorOperations.{row_sum, vector_difference}
use Rattle.sf_algebra.specs.Vectors.{Vector, IsVector}
use Rattle.sf_algebra.proofs.Monomials.Weights.{field_ring}
use Rattle.sf_algebra.proofs.Multiplying.Keys.{place_keys}
use Rattle.sf_algebra.proofs.Vectors.HomogeneousVectors.{IsVector-row_combination}
use Rattle.sf_algebra.proofs.Vectors.Rows.{row_combination-matrix_product}
use Rattle.sf_algebra.proofs.Vectors.RowSums.{row_sum-comm}
use Rattle.sf_groebner.specs.MinimalGenerators.{IsInSum}
use Rattle.sf_groebner.specs.Presentations.{IsRelation, IsZero}
use Rattle.sf_groebner.specs.Spans.{InSpan, IsSyzygy, combined}
use Rattle.sf_groebner.proofs.PartsOfBases.StackedSpans.{InSpan-stacked, InSpan-stacked_sum}
use Rattle.sf_groebner.proofs.Spanning.SpanCombinations.{span_submodule_of}
use Rattle.sf_groebner.proofs.Spanning.Submodules.{IsSubmodule}
use Rattle.sf_groebner.proofs.Spanning.SyzygyCombinations.{syzygy_submodule}
use Rattle.sf_groebner.proofs.Uniqueness.Lifts.{IsSyzygy-difference}
use Rattle.sf_groebner.proofs.Uniqueness.Subtractions.{add-negative_back}
use Rattle.sf_presented.specs.Presented.{IsPresentedBy}
use Rattle.sf_blocks.specs.BlockLists.{IsTo}
use Rattle.sf_blocks.specs.MatrixSums.{IsZeroMatrix}
use Rattle.sf_homotopy.specs.Exactness.{IsExactPair}
use Rattle.sf_homotopy.proofs.Exactness.ZeroProducts.{syzygies_of_span}
use Rattle.sf_bidual.specs.CartanEilenberg.{IsResolutionOf}
use Rattle.sf_bidual.specs.Horseshoes.{AreLifts, AreSides, IsHorseshoe, horseshoe}
use Rattle.sf_bidual.proofs.Columns.Resolutions.{IsMatrix-generating, exact-later, exact-resolution_of, first-target, presents, spans-generating, steps-ring, sums-inside}
use Rattle.sf_bidual.proofs.Columns.Sums.{sum-swap, sum-within}
use Rattle.sf_bidual.proofs.Horseshoes.Exactness.{horseshoe_exact}
use Rattle.sf_bidual.proofs.Horseshoes.Sides.{IsPrepared, horseshoe_of}
use Rattle.sf_bidual.proofs.Horseshoes.Lifts.{IsMatrix-lifts, matrix_product-lifts, row_degrees-lifts}

module _ (ring : Ring) (prime : IsOverField ring) (arriving delta : Matrix) (to : IsTo ring (row_degrees delta) arriving)
    (delta-ring : delta.ring ≡ ring) (delta-matrix : IsMatrix delta)
    (none : IsZeroMatrix (matrix_product arriving delta)) (b h : ℕ → Matrix)
    (boundaries : IsResolutionOf ring (row_degrees delta) (InSpan arriving) IsZero b)
    (homology : IsResolutionOf ring (row_degrees delta) (IsSyzygy delta) (InSpan arriving) h) where
  abbrev degrees : List ℤ
  degrees = row_degrees delta

  positive : IsRing ring
  positive = field_ring prime

  above : 1 < ring.modulus
  above = prime.prime.above_one

  spanned : IsSubmodule ring degrees (InSpan arriving)
  spanned = span_submodule_of ring positive degrees arriving to.ring_of to.target_of to.matrix

  cycles : IsSubmodule ring degrees (IsSyzygy delta)
  cycles =
      subst (λ q. IsSubmodule q degrees (IsSyzygy delta)) delta-ring
      (syzygy_submodule delta (subst (λ q. IsRing q) (sym delta-ring) positive))

  images : IsSubmodule ring delta.target (InSpan delta)
  images = span_submodule_of ring positive delta.target delta delta-ring refl delta-matrix

  meet : IsComposable arriving delta
  meet = record {
    positive = subst (λ (q : Ring). 0 < q.modulus) (sym to.ring_of) positive.modulus;
    rings = to.ring_of ∙ sym delta-ring;
    degrees = sym to.target_of;
  }

  -- boundaries are cycles
  within : (v : Vector) → InSpan arriving v → IsSyzygy delta v
  within = syzygies_of_span delta arriving meet to.matrix none

  b-ring : (b 0).ring ≡ ring
  b-ring = boundaries.presentation.generators_ring

  h-ring : (h 0).ring ≡ ring
  h-ring = homology.presentation.generators_ring

  pub boundaries-onto : (v : Vector) → InSpan (b 0) v ↔ InSpan arriving v
  boundaries-onto = spans-generating ring prime degrees (InSpan arriving) spanned b boundaries

  pub boundaries-exact : (j : ℕ) → IsExactPair (b j) (b (suc j))
  boundaries-exact = exact-resolution_of ring prime degrees (InSpan arriving) spanned b boundaries

  pub homology-presented : IsPresentedBy (IsSyzygy delta) (InSpan arriving) (h 0) (h 1)
  homology-presented = presents ring prime degrees (IsSyzygy delta) (InSpan arriving) cycles spanned h homology

  pub homology-exact : (j : ℕ) → IsExactPair (h (suc j)) (h (suc (suc j)))
  homology-exact = exact-later ring prime degrees (IsSyzygy delta) (InSpan arriving) cycles spanned h homology

  -- the first horseshoe
  relations-inner : (c : Vector) → IsRelation (h 0) (InSpan (b 0)) c ↔ InSpan (h 1) c
  relations-inner c = (
    λ k. (homology-presented.relate c).0
        (record { coefficients = k.coefficients; inside = (boundaries-onto (combined (h 0) c)).0 k.inside }),
    λ k. let r = (homology-presented.relate c).1 k in
        record { coefficients = r.coefficients; inside = (boundaries-onto (combined (h 0) c)).1 r.inside },
  )

  pub prepared_first : IsPrepared b h (h 0)
  prepared_first = record {
    above_one = subst (λ (q : Ring). 1 < q.modulus) (sym b-ring) above;
    first_exact = boundaries-exact;
    last_exact = homology-exact;
    into = record {
      ring_of = h-ring ∙ sym b-ring;
      target_of = homology.presentation.generators_target ∙ sym boundaries.presentation.generators_target;
      matrix = IsMatrix-generating ring prime degrees (IsSyzygy delta) (InSpan arriving) cycles spanned h homology;
    };
    last_ring = steps-ring ring prime degrees (IsSyzygy delta) (InSpan arriving) cycles spanned h homology 1
        ∙ sym b-ring;
    last_target = first-target ring prime degrees (IsSyzygy delta) (InSpan arriving) cycles spanned h homology;
    relations = relations-inner;
  }

  module _ (inner : ℕ → Matrix) (inner-start : inner 0 ≡ h 0) (inner-sides : AreSides b h inner) where
    pub first_horseshoe : IsHorseshoe b h inner
    first_horseshoe =
        horseshoe_of b h inner (subst (IsPrepared b h) (sym inner-start) prepared_first) inner-sides

    abbrev pub z : ℕ → Matrix
    z = horseshoe b h inner

    pub cycles-exact : (j : ℕ) → IsExactPair (z j) (z (suc j))
    cycles-exact = horseshoe_exact b h inner first_horseshoe

    b-positive : IsRing (b 0).ring
    b-positive = subst (λ q. IsRing q) (sym b-ring) positive

    h-positive : IsRing (h 0).ring
    h-positive = subst (λ q. IsRing q) (sym h-ring) positive

    inner-ring : (inner 0).ring ≡ ring
    inner-ring = ap (λ (m : Matrix). m.ring) inner-start ∙ h-ring

    pub cycles-onto : (v : Vector) → InSpan (z 0) v ↔ IsSyzygy delta v
    cycles-onto v = (
      λ k.
          let sum : IsInSum (b 0).ring (b 0).rows (InSpan (inner 0)) v =
          InSpan-stacked (b 0) (inner 0) b-positive (b-ring ∙ sym inner-ring) v k in
          let swapped : IsInSum (h 0).ring (h 0).rows (InSpan (b 0)) v =
          sum-swap (b 0) (h 0) b-positive (h-ring ∙ sym b-ring) v
          (subst (λ (m : Matrix). IsInSum (b 0).ring (b 0).rows (InSpan m) v) inner-start sum) in
          sums-inside ring prime degrees (IsSyzygy delta) (InSpan arriving) cycles spanned h homology within v
          (sum-within (h 0).ring (h 0).rows (InSpan (b 0)) (InSpan arriving) (λ w k. (boundaries-onto w).0 k) v swapped),
      λ k.
          let sum : IsInSum (h 0).ring (h 0).rows (InSpan (b 0)) v =
          sum-within (h 0).ring (h 0).rows (InSpan arriving) (InSpan (b 0)) (λ w k. (boundaries-onto w).1 k) v
          (homology-presented.generate v k) in
          InSpan-stacked_sum (b 0) (inner 0) b-positive (b-ring ∙ sym inner-ring) v
          (subst (λ (m : Matrix). IsInSum (b 0).ring (b 0).rows (InSpan m) v) (sym inner-start)
          (sum-swap (h 0) (b 0) h-positive (b-ring ∙ sym h-ring) v sum)),
    )

    module _ (next : ℕ → Matrix) (after : IsResolutionOf ring delta.target (InSpan delta) IsZero next)
        (outer : ℕ → Matrix) (outer-start : AreLifts delta (next 0) (outer 0)) where
      -- the second horseshoe
      abbrev section : Matrix
      section = outer 0

      section-ring : section.ring ≡ delta.ring
      section-ring = outer-start.ring

      section-matrix : IsMatrix section
      section-matrix = IsMatrix-lifts delta (next 0) section outer-start

      section-degrees : row_degrees section ≡ row_degrees (next 0)
      section-degrees = row_degrees-lifts delta (next 0) section outer-start

      next-ring : (next 0).ring ≡ ring
      next-ring = after.presentation.generators_ring

      section-value : matrix_product section delta ≡ next 0
      section-value =
          matrix_product-lifts delta (next 0) section outer-start (delta-ring ∙ sym next-ring)
          (sym after.presentation.generators_target)

      section-positive : 0 < section.ring.modulus
      section-positive =
          subst (λ (q : Ring). 0 < q.modulus) (sym (section-ring ∙ delta-ring)) positive.modulus

      -- its combinations are sent to those of the next boundaries
      section-sent : (c : Vector)
          → combined delta (combined section c) ≡ combined (next 0) c
      section-sent c = λ i. record {
        degree = c.degree;
        terms = (ap (λ q. row_combination q delta.rows (row_combination section.ring section.rows c.terms)) (sym section-ring)
            ∙ sym (row_combination-matrix_product section.ring section-positive section delta c.terms refl)
            ∙ (λ j. row_combination (section-value j).ring (section-value j).rows c.terms)) i;
      }

      section-vector : (c : Vector) → IsVector section.ring (row_degrees section) c
          → IsVector delta.ring (row_degrees delta) (combined section c)
      section-vector c k =
          subst (λ q. IsVector q (row_degrees delta) (combined section c)) section-ring
          (subst (λ ds. IsVector section.ring ds (combined section c)) outer-start.target
          (IsVector-row_combination section section-positive section-matrix c k))

      after-exact : IsExactPair (next 0) (next 1)
      after-exact = exact-resolution_of ring prime delta.target (InSpan delta) images next after 0

      relations-outer : (c : Vector) → IsRelation section (InSpan (z 0)) c ↔ InSpan (next 1) c
      relations-outer c = (
        λ k. (after-exact.exact c).0 (record {
          coefficients = subst (λ q. IsVector q (row_degrees (next 0)) c) (section-ring ∙ delta-ring ∙ sym next-ring)
              (subst (λ ds. IsVector section.ring ds c) section-degrees k.coefficients);
          zero = sym (ap (λ (v : Vector). v.terms) (section-sent c)) ∙ ((cycles-onto (combined section c)).0 k.inside).zero;
        }),
        λ k.
            let s = (after-exact.exact c).1 k in
            let coefficients : IsVector section.ring (row_degrees section) c =
            subst (λ q. IsVector q (row_degrees section) c) (sym (section-ring ∙ delta-ring ∙ sym next-ring))
            (subst (λ ds. IsVector (next 0).ring ds c) (sym section-degrees) s.coefficients) in
            record {
              coefficients = coefficients;
              inside = (cycles-onto (combined section c)).1 (record {
                coefficients = section-vector c coefficients;
                zero = ap (λ (v : Vector). v.terms) (section-sent c) ∙ s.zero;
              });
            },
      )

      pub prepared_second : IsPrepared z next (outer 0)
      prepared_second = record {
        above_one = subst (λ (q : Ring). 1 < q.modulus) (sym b-ring) above;
        first_exact = cycles-exact;
        last_exact = λ j. exact-resolution_of ring prime delta.target (InSpan delta) images next after (suc j);
        into = record {
          ring_of = section-ring ∙ delta-ring ∙ sym b-ring;
          target_of = outer-start.target ∙ sym boundaries.presentation.generators_target;
          matrix = section-matrix;
        };
        last_ring = after-exact.meet.rings ∙ next-ring ∙ sym b-ring;
        last_target = sym after-exact.meet.degrees ∙ sym section-degrees;
        relations = relations-outer;
      }

      module _ (outer-sides : AreSides (horseshoe b h inner) next outer) where
        pub second_horseshoe : IsHorseshoe z next outer
        second_horseshoe = horseshoe_of z next outer prepared_second outer-sides

        pub column-exact : (j : ℕ) → IsExactPair (horseshoe z next outer j) (horseshoe z next outer (suc j))
        column-exact = horseshoe_exact z next outer second_horseshoe

        column-sum : (v : Vector) → IsVector ring degrees v → IsInSum (b 0).ring (z 0).rows (InSpan section) v
        column-sum v k =
            let vector : IsVector delta.ring degrees v = subst (λ q. IsVector q degrees v) (sym delta-ring) k in
            let image : InSpan (next 0) (combined delta v) =
            (spans-generating ring prime delta.target (InSpan delta) images next after (combined delta v)).1
            (record { coefficients = v; homogeneous = vector; value = refl }) in
            let c : Vector = image.coefficients in
            let coefficients : IsVector section.ring (row_degrees section) c =
            subst (λ q. IsVector q (row_degrees section) c) (sym (section-ring ∙ delta-ring ∙ sym next-ring))
            (subst (λ ds. IsVector (next 0).ring ds c) (sym section-degrees) image.homogeneous) in
            let s : Vector = combined section c in
            let vector_there : IsVector delta.ring degrees s = section-vector c coefficients in
            let rest : Vector = vector_difference delta.ring v s in
            let syzygy : IsSyzygy delta rest =
            IsSyzygy-difference delta (subst (λ q. IsRing q) (sym delta-ring) positive) v s vector vector_there
            (sym (section-sent c ∙ image.value)) in
            record {
              first = s;
              second = rest;
              in_module = record { coefficients = c; homogeneous = coefficients; value = refl };
              in_span = (cycles-onto rest).1 syzygy;
              first_degree = ap (λ (w : Vector). w.degree) image.value;
              second_degree = refl;
              sum = row_sum-comm (b 0).ring b-positive.modulus s.terms rest.terms
                  ∙ ap (λ q. row_sum q rest.terms s.terms) (b-ring ∙ sym delta-ring)
                  ∙ add-negative_back (place_keys delta.ring.weights) delta.ring.modulus
                  (subst (λ (q : Ring). 0 < q.modulus) (sym delta-ring) positive.modulus) v.terms s.terms vector.canonical
                  vector_there.canonical;
            }

        pub column-onto : (v : Vector) → InSpan (horseshoe z next outer 0) v ↔ IsVector ring degrees v
        column-onto v = (
          λ k.
              (span_submodule_of ring positive degrees (horseshoe z next outer 0) b-ring
              boundaries.presentation.generators_target (column-exact 0).out_matrix).module_like.vectors v k,
          λ k. InSpan-stacked_sum (z 0) section b-positive (b-ring ∙ sym delta-ring ∙ sym section-ring) v (column-sum v k),
        )
