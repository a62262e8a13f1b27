-- The homology of the complex that is set and that of the total complex, by inverse matrices.
use Rattle.std.proofs.Common.{◌≡◌, ◌<◌, append-nil, ℕ, List, [], ◌++◌, sym, ap, ◌∙◌, subst, refl, arith, ℤ, pos, ◌-ℤ◌, ◌+ℤ◌}
use Rattle.std.proofs.lemmas.Int.{ints}
use Rattle.sf_algebra.specs.Matrices.{IsMatrix, Matrix, row_degrees}
use Rattle.sf_algebra.specs.MatrixOperations.{row_combination, stacked}
use Rattle.sf_algebra.specs.Multiples.{negative}
use Rattle.sf_algebra.specs.Rings.{IsOverField, Ring}
use Rattle.sf_algebra.specs.VectorOperations.{row_sum, vector_difference, vector_sum}
use Rattle.sf_algebra.specs.Vectors.{IsCanonicalRow, IsVector, Vector}
use Rattle.sf_algebra.proofs.Basics.Lists.{AllByRecursion-weaken}
use Rattle.sf_algebra.proofs.Vectors.HomogeneousVectors.{IsVector-row_combination}
use Rattle.sf_groebner.specs.MinimalGenerators.{matrix_of}
use Rattle.sf_groebner.proofs.MapsOnHomology.EqualModulo.{AreEqualModulo-inside, add-negative_again}
use Rattle.sf_homotopy.proofs.Exactness.Spans.{span_rows}
use Rattle.sf_algebra.proofs.Operators.Correspondences.{converse}
use Rattle.sf_algebra.proofs.Vectors.RowSums.{row_sum-comm}
use Rattle.sf_algebra.proofs.Vectors.Rows.{IsCanonical-row_combination, row_combination-nil}
use Rattle.sf_groebner.specs.Homology.{IsCycle}
use Rattle.sf_groebner.specs.Maps.{AreEqualModulo}
use Rattle.sf_groebner.specs.Presentations.{IsPresentation, IsRelation, IsZero}
use Rattle.sf_groebner.specs.Spans.{InSpan, IsSyzygy, combined, combined_rows}
use Rattle.sf_groebner.proofs.Spanning.SpanCombinations.{zero-inside}
use Rattle.sf_presented.specs.Inverses.{AreInverseModulo}
use Rattle.sf_presented.proofs.EqualModulo.{AreEqualModulo-sym}
use Rattle.sf_bicomplex.specs.Bicomplexes.{Bicomplex, IsBicomplex}
use Rattle.sf_bicomplex.specs.Descriptions.{Describes}
use Rattle.sf_bicomplex.specs.GivenHomology.{IsGivenHomology, set_rows}
use Rattle.sf_bicomplex.specs.InducedFiltrations.{IsTotalBoundary, IsTotalHomology}
use Rattle.sf_bicomplex.specs.ResolvedHomology.{IsSetHomology, SetsClass}
use Rattle.sf_bicomplex.specs.ResolvedRows.{Augmentation, ResolvesRows}
use Rattle.sf_bicomplex.specs.TotalColumns.{total_degrees, total_map, total_module}
use Rattle.sf_bicomplex.proofs.Columns.Splits.{first_of_sum}
use Rattle.sf_bicomplex.proofs.Filtrations.HomologyParts.{next-lower}
use Rattle.sf_bicomplex.proofs.Spans.Described.{described, described-inverse}
use Rattle.sf_bicomplex.proofs.Spans.IsomorphicClasses.{IsIsomorphismOfClasses, IsSentTo, isomorphism-class_map, isomorphism-class_map_back}
use Rattle.sf_bicomplex.proofs.Spans.PageSpans.{IsSpanned-all_boundaries, IsSpanned-total_cycles, IsSpanned-zero}
use Rattle.sf_bicomplex.proofs.Spans.SpannedModules.{IsSpanned, IsSpanned-relation, IsSpanned-same, IsSpanned-span, IsSubmodule-spanned, spanned-one_presentation, spanned-presentation}
use Rattle.sf_bicomplex.proofs.Staircases.FreeTotals.{lowest-no_rows, nothing-spanned}
use Rattle.sf_bicomplex.proofs.Staircases.ResolvedLaws.{boundaries_that_are_set, cycles_that_are_set, sets_complex}
use Rattle.sf_bicomplex.proofs.TotalComplexes.Diagonals.{total_map-rows}
use Rattle.sf_bicomplex.proofs.TotalComplexes.TotalGroups.{total_ring}
use Rattle.sf_bicomplex.proofs.TotalComplexes.TotalMaps.{no_generators}
use Rattle.sf_bicomplex.proofs.TotalComplexes.TotalModules.{lowest-submodule}

module _ (b : Bicomplex) (h : IsBicomplex b) (prime : IsOverField b.ring) (top : ℕ) (a : Augmentation)
    (resolved : ResolvesRows b top a) (n : ℤ) where
  abbrev above : ℤ
  above = n +ℤ pos 1

  abbrev below : ℤ
  below = n -ℤ pos 1

  first-lower : n ≡ n +ℤ pos 1 -ℤ pos 1
  first-lower = next-lower n above refl

  abbrev rows : List Vector
  rows = (a.set (n -ℤ pos top)).rows

  -- what is set, over the ring of the bicomplex
  set-value : (c : Vector) → combined (a.set (n -ℤ pos top)) c ≡ combined_rows b.ring rows c
  set-value c = λ i. record {
    degree = c.degree;
    terms = row_combination ((resolved.set_from (n -ℤ pos top)).ring_of i) rows c.terms;
  }

  -- coefficients of a map are vectors of the complex
  from_coefficients : (q : ℤ) (c : Vector) → IsVector (a.map q).ring (row_degrees (a.map q)) c → IsVector b.ring (a.degrees q) c
  from_coefficients q c x =
      subst (λ ds. IsVector b.ring ds c) (resolved.map_from q).source_of
      (subst (λ r. IsVector r (row_degrees (a.map q)) c) (resolved.map_from q).ring_of x)

  syzygies : IsSpanned b.ring (a.degrees (n -ℤ pos top)) (IsSyzygy (a.map (n -ℤ pos top)))
  syzygies =
      let q = n -ℤ pos top in
      let m : Matrix = a.map q in
      subst (λ ds. IsSpanned b.ring ds (IsSyzygy m)) (resolved.map_from q).source_of
      (IsSpanned-same b.ring (row_degrees m) (IsRelation m IsZero) (IsSyzygy m)
      (λ v. (
        λ e. record { coefficients = e.coefficients; zero = e.inside },
        λ e. record { coefficients = e.coefficients; inside = e.zero },
      ))
      (IsSpanned-relation b.ring prime m.target m (resolved.map_from q).ring_of refl (resolved.map_from q).matrix IsZero
      (IsSpanned-zero b.ring h.is_ring m.target)))

  arriving : IsSpanned b.ring (a.degrees (n -ℤ pos top)) (InSpan (a.map (n +ℤ pos 1 -ℤ pos top)))
  arriving =
      let q = n +ℤ pos 1 -ℤ pos top in
      let there : q -ℤ pos 1 ≡ n -ℤ pos top = omega (arith, ints) in
      IsSpanned-span b.ring (a.degrees (n -ℤ pos top)) (a.map q) (resolved.map_from q).ring_of
      (resolved.map_target q ∙ ap a.degrees there) (resolved.map_from q).matrix

  cycles : IsSpanned b.ring (total_degrees b n) (IsCycle (total_map b n (n -ℤ pos 1)) (total_module b (n -ℤ pos 1)))
  cycles = IsSpanned-total_cycles b h prime n below refl

  boundaries : IsSpanned b.ring (total_degrees b n) (IsTotalBoundary b (n +ℤ pos 1) n)
  boundaries = IsSpanned-all_boundaries b h prime above n first-lower

  pub one_set_homology : ((g : Matrix) × (relations : Matrix) × IsSetHomology b top a n g relations)
      × ((g relations other others : Matrix) → IsSetHomology b top a n g relations → IsSetHomology b top a n other others
      → (g ≡ other) × (relations ≡ others))
  one_set_homology =
      let degrees = a.degrees (n -ℤ pos top) in
      let N : Vector → Type 0 = IsSyzygy (a.map (n -ℤ pos top)) in
      let B : Vector → Type 0 = InSpan (a.map (n +ℤ pos 1 -ℤ pos top)) in (
        spanned-presentation b.ring prime degrees N B syzygies arriving,
        spanned-one_presentation b.ring prime degrees N B syzygies arriving,
      )

  -- without relations boundaries are images
  images : stacked (total_map b (n +ℤ pos 1) n) (total_module b n) ≡ total_map b (n +ℤ pos 1) n
  images =
      let m : Matrix = total_map b above n in
      λ i. record {
        ring = m.ring;
        target = m.target;
        rows = (ap (λ vs. m.rows ++ vs) (lowest-no_rows b h resolved.free n b.columns) ∙ append-nil m.rows) i;
      }

  sends : (c : Vector) → IsSyzygy (a.map (n -ℤ pos top)) c
      → IsCycle (total_map b n (n -ℤ pos 1)) (total_module b (n -ℤ pos 1)) (combined (a.set (n -ℤ pos top)) c)
  sends c e =
      let q = n -ℤ pos top in
      let laws = sets_complex b h top a resolved n below refl c (from_coefficients q c e.coefficients) in
      let put : Vector = combined (a.set q) c in
      let next : Matrix = a.set (below -ℤ pos top) in
      let none : (combined (total_map b n below) put).terms ≡ [] =
      ap (λ (v : Vector). v.terms) laws.1 ∙ ap (row_combination next.ring next.rows) e.zero
      ∙ subst (λ r. row_combination r next.rows [] ≡ []) (sym (resolved.set_from (below -ℤ pos top)).ring_of)
      (row_combination-nil b.ring h.is_ring.modulus next.rows) in
      record {
        coefficients = subst (λ ds. IsVector b.ring ds put) (sym (total_map-rows b h n below refl)) laws.0;
        inside = subst (λ ts. InSpan (total_module b below) (record { degree = c.degree; terms = ts })) (sym none)
            (zero-inside b.ring h.is_ring (total_degrees b below) (InSpan (total_module b below))
            (lowest-submodule b h below b.columns) c.degree);
      }

  bounds : (c : Vector) → InSpan (a.map (n +ℤ pos 1 -ℤ pos top)) c
      → IsTotalBoundary b (n +ℤ pos 1) n (combined (a.set (n -ℤ pos top)) c)
  bounds c e =
      let q = n +ℤ pos 1 -ℤ pos top in
      let x = from_coefficients q e.coefficients e.homogeneous in
      let laws = sets_complex b h top a resolved above n first-lower e.coefficients x in
      let up : Vector = combined (a.set q) e.coefficients in
      subst (λ m. InSpan m (combined (a.set (n -ℤ pos top)) c)) (sym images)
      (record {
        coefficients = up;
        homogeneous = subst (λ ds. IsVector b.ring ds up) (sym (total_map-rows b h above n first-lower)) laws.0;
        value = laws.1 ∙ ap (combined (a.set (n -ℤ pos top))) e.value;
      })

  bounded : (c : Vector) → IsSyzygy (a.map (n -ℤ pos top)) c
      → IsTotalBoundary b (n +ℤ pos 1) n (combined (a.set (n -ℤ pos top)) c) → InSpan (a.map (n +ℤ pos 1 -ℤ pos top)) c
  bounded c e inside =
      let put : Vector = combined (a.set (n -ℤ pos top)) c in
      let k = subst (λ m. InSpan m put) images inside in
      boundaries_that_are_set b h top a resolved above n first-lower k.coefficients c
      (subst (λ ds. IsVector b.ring ds k.coefficients) (total_map-rows b h above n first-lower) k.homogeneous)
      (from_coefficients (n -ℤ pos top) c e.coefficients) k.value

  onto : (z : Vector) → IsCycle (total_map b n (n -ℤ pos 1)) (total_module b (n -ℤ pos 1)) z
      → (c : Vector) × IsSyzygy (a.map (n -ℤ pos top)) c
      × AreEqualModulo b.ring (IsTotalBoundary b (n +ℤ pos 1) n) (combined_rows b.ring rows c) z
  onto z e =
      let x = subst (λ ds. IsVector b.ring ds z) (total_map-rows b h n below refl) e.coefficients in
      let none =
      nothing-spanned b.ring h.is_ring (total_module b below) (total_ring b h below (pos 0))
      (lowest-no_rows b h resolved.free below b.columns) (combined (total_map b n below) z) e.inside in
      let found = cycles_that_are_set b h top a resolved above n below first-lower refl z x none in
      let c : Vector = found.0 in
      let u : Vector = found.1 in
      let put : Vector = combined_rows b.ring rows c in
      let image : Vector = combined (total_map b above n) u in
      let put_canonical = IsCanonical-row_combination b.ring h.is_ring.modulus rows c.terms in
      let image_canonical = IsCanonical-row_combination b.ring h.is_ring.modulus (total_map b above n).rows u.terms in
      let sum : z ≡ vector_sum b.ring put image =
      found.5 ∙ ap (λ v. vector_sum b.ring v image) (set-value c) in
      let rest : image.terms ≡ row_sum b.ring z.terms (negative b.ring.modulus put.terms) =
      first_of_sum b.ring h.is_ring image.terms put.terms z.terms image_canonical put_canonical
      (row_sum-comm b.ring h.is_ring.modulus image.terms put.terms ∙ sym (ap (λ (v : Vector). v.terms) sum)) in
      let span : InSpan (total_map b above n) (vector_difference b.ring z put) = record {
        coefficients = u;
        homogeneous = subst (λ ds. IsVector b.ring ds u) (sym (total_map-rows b h above n first-lower)) found.3;
        value = λ i. record { degree = found.4 i; terms = rest i };
      } in
      let B : Vector → Type 0 = IsTotalBoundary b above n in (
        c,
        found.2,
        AreEqualModulo-sym b.ring h.is_ring (total_degrees b n) B
            (IsSubmodule-spanned b.ring (total_degrees b n) h.is_ring B boundaries) z put x.canonical put_canonical
            (record {
              degrees = ap (λ (v : Vector). v.degree) sum;
              difference = subst (λ m. InSpan m (vector_difference b.ring z put)) (sym images) span;
            }),
      )

  sent : IsIsomorphismOfClasses b.ring (IsSyzygy (a.map (n -ℤ pos top))) (InSpan (a.map (n +ℤ pos 1 -ℤ pos top)))
      (IsCycle (total_map b n (n -ℤ pos 1)) (total_module b (n -ℤ pos 1))) (IsTotalBoundary b (n +ℤ pos 1) n)
      (a.set (n -ℤ pos top)).rows
  sent = record {
    sends = λ c e. subst (IsCycle (total_map b n below) (total_module b below)) (set-value c) (sends c e);
    bounds = λ c e. subst (IsTotalBoundary b above n) (set-value c) (bounds c e);
    bounded = λ c e k. bounded c e (subst (IsTotalBoundary b above n) (sym (set-value c)) k);
    onto = onto;
  }

  -- where the complex ends, all vectors are cycles
  ends-cycles : a.degrees (n -ℤ pos top -ℤ pos 1) ≡ [] → (c : Vector) → IsVector b.ring (a.degrees (n -ℤ pos top)) c
      → IsSyzygy (a.map (n -ℤ pos top)) c
  ends-cycles ends c x =
      let q = n -ℤ pos top in
      let m : Matrix = a.map q in
      let from = resolved.map_from q in
      let known : Matrix = matrix_of b.ring [] m.rows in
      let same : m ≡ known = λ i. record {
        ring = from.ring_of i;
        target = (resolved.map_target q ∙ ends) i;
        rows = m.rows;
      } in
      let y : IsVector b.ring (row_degrees m) c = subst (λ ds. IsVector b.ring ds c) (sym from.source_of) x in
      let none : row_combination b.ring m.rows c.terms ≡ [] =
      no_generators b.ring _
      (IsVector-row_combination known h.is_ring.modulus (subst IsMatrix same from.matrix) c y) in
      record {
        coefficients = subst (λ r. IsVector r (row_degrees m) c) (sym from.ring_of) y;
        zero = subst (λ r. row_combination r m.rows c.terms ≡ []) (sym from.ring_of) none;
      }

  pub gives_cokernel : a.degrees (n -ℤ pos top -ℤ pos 1) ≡ []
      → IsGivenHomology b n (set_rows b top a n) (a.map (n +ℤ pos 1 -ℤ pos top))
  gives_cokernel ends =
      let q = n -ℤ pos top in
      let s : Matrix = a.set q in
      let from = resolved.set_from q in
      let N : Vector → Type 0 = IsCycle (total_map b n below) (total_module b below) in
      let A : Vector → Type 0 = IsTotalBoundary b above n in
      let module_a = IsSubmodule-spanned b.ring (total_degrees b n) h.is_ring A boundaries in
      let module_b =
      IsSubmodule-spanned b.ring (a.degrees q) h.is_ring (InSpan (a.map (n +ℤ pos 1 -ℤ pos top))) arriving in
      let above_one = subst (λ (r : Ring). 1 < r.modulus) (sym from.ring_of) prime.prime.above_one in
      let canonical : (c : Vector) → IsCanonicalRow b.ring (row_combination b.ring rows c.terms) =
      λ c. IsCanonical-row_combination b.ring h.is_ring.modulus rows c.terms in
      record {
        ring = refl;
        target = refl;
        presented = record {
          inside =
              AllByRecursion-weaken (InSpan s) N
              (λ v e. subst N e.value
              (sends e.coefficients
              (ends-cycles ends e.coefficients
              (subst (λ ds. IsVector b.ring ds e.coefficients) from.source_of
              (subst (λ r. IsVector r (row_degrees s) e.coefficients) from.ring_of e.homogeneous)))))
              rows (span_rows s above_one from.matrix);
          generate = λ z e.
              let found = onto z e in
              let c : Vector = found.0 in
              let put : Vector = combined_rows b.ring rows c in
              let z_vector = subst (λ ds. IsVector b.ring ds z) (total_map-rows b h n below refl) e.coefficients in
              let back =
              AreEqualModulo-sym b.ring h.is_ring (total_degrees b n) A module_a put z (canonical c) z_vector.canonical
              found.2 in
              record {
                first = vector_difference b.ring z put;
                second = put;
                in_module = back.difference;
                in_span = record {
                  coefficients = c;
                  homogeneous = subst (λ ds. IsVector b.ring ds c) (sym from.source_of)
                      (from_coefficients q c found.1.coefficients);
                  value = refl;
                };
                first_degree = refl;
                second_degree = found.2.degrees;
                sum = add-negative_again b.ring h.is_ring z.terms put.terms z_vector.canonical (canonical c);
              };
          relate = λ c. (
            λ k.
                let x = subst (λ ds. IsVector b.ring ds c) from.source_of k.coefficients in
                bounded c (ends-cycles ends c x) (subst A (sym (set-value c)) k.inside),
            λ k. record {
              coefficients = subst (λ ds. IsVector b.ring ds c) (sym from.source_of) (module_b.module_like.vectors c k);
              inside = subst A (set-value c) (bounds c k);
            },
          );
        };
      }

  -- where it is exact, so is the total complex
  pub gives_exact_places : ((c : Vector) → IsSyzygy (a.map (n -ℤ pos top)) c → InSpan (a.map (n +ℤ pos 1 -ℤ pos top)) c)
      → (z : Vector) → IsCycle (total_map b n (n -ℤ pos 1)) (total_module b (n -ℤ pos 1)) z
      → IsTotalBoundary b (n +ℤ pos 1) n z
  gives_exact_places exact z e =
      let found = onto z e in
      let A : Vector → Type 0 = IsTotalBoundary b above n in
      let module_a = IsSubmodule-spanned b.ring (total_degrees b n) h.is_ring A boundaries in
      let x = subst (λ ds. IsVector b.ring ds z) (total_map-rows b h n below refl) e.coefficients in
      AreEqualModulo-inside b.ring h.is_ring (total_degrees b n) A module_a.module_like (combined_rows b.ring rows found.0)
      z x.canonical found.2 (subst A (set-value found.0) (bounds found.0 (exact found.0 found.1)))

  module _ (g relations other others : Matrix) (given : IsSetHomology b top a n g relations)
      (total : IsTotalHomology b n other others) where
    pub inverse_set_maps : ((to : Matrix) × Describes (SetsClass b top a n) other others g to)
        × ((from : Matrix) × Describes (converse (SetsClass b top a n)) g relations other from)
        × ((to from : Matrix) → Describes (SetsClass b top a n) other others g to
        → Describes (converse (SetsClass b top a n)) g relations other from → AreInverseModulo relations others to from)
    inverse_set_maps =
        let N : Vector → Type 0 = IsSyzygy (a.map (n -ℤ pos top)) in
        let B : Vector → Type 0 = InSpan (a.map (n +ℤ pos 1 -ℤ pos top)) in
        let M : Vector → Type 0 = IsCycle (total_map b n below) (total_module b below) in
        let A : Vector → Type 0 = IsTotalBoundary b above n in
        let F : Vector → Vector → Type 0 = SetsClass b top a n in
        let source = a.degrees (n -ℤ pos top) in
        let target = total_degrees b n in
        let module_n = IsSubmodule-spanned b.ring source h.is_ring N syzygies in
        let module_m = IsSubmodule-spanned b.ring target h.is_ring M cycles in
        let module_a = IsSubmodule-spanned b.ring target h.is_ring A boundaries in
        let there : (c z : Vector) → SetsClass b top a n c z → IsSentTo b.ring N M A rows c z =
        λ c z e. record {
          first = e.cycle;
          inside = e.total;
          same = subst (λ v. AreEqualModulo b.ring A v z) (set-value c) e.same;
        } in
        let back : (c z : Vector) → IsSentTo b.ring N M A rows c z → SetsClass b top a n c z =
        λ c z e. record {
          cycle = e.first;
          total = e.inside;
          same = subst (λ v. AreEqualModulo b.ring A v z) (sym (set-value c)) e.same;
        } in
        let f =
        isomorphism-class_map b.ring h.is_ring source target N B M A module_n module_m module_a rows sent F there back in
        let b_f =
        isomorphism-class_map_back b.ring h.is_ring source target N B M A module_n module_m module_a rows sent F there
        back in
        let known : IsPresentation b.ring target M A other others =
        subst (λ q. IsPresentation q target M A other others) (total_ring b h n (pos 0)) total in (
          described b.ring prime source target N B M A syzygies arriving cycles boundaries F f g relations other others
              given known,
          described b.ring prime target source M A N B cycles boundaries syzygies arriving (converse F) b_f other others
              g relations known given,
          λ to from. described-inverse b.ring prime source target N B M A syzygies arriving cycles boundaries F f g
              relations other others given known b_f to from,
        )
