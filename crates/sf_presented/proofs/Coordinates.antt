-- Coordinates: of a sum with a vector of the base they are the coefficients of the other part, reduced by the relations;
-- two coordinates of one vector differ by a relation.
use Rattle.std.proofs.Common.{◌≡◌, ◌+◌, length, refl, sym, ◌∙◌, ap, subst}
use Rattle.sf_algebra.specs.Matrices.{Matrix, row_degrees, IsMatrix}
use Rattle.sf_algebra.specs.MatrixOperations.{row_combination, stacked, vector_part}
use Rattle.sf_algebra.specs.Multiples.{negative}
use Rattle.sf_algebra.specs.Rings.{Ring, IsRing, IsOverField}
use Rattle.sf_algebra.specs.VectorOperations.{row_sum, vector_difference}
use Rattle.sf_algebra.specs.Vectors.{Vector, IsVector, IsCanonicalRow}
use Rattle.sf_algebra.proofs.Monomials.Weights.{field_ring}
use Rattle.sf_algebra.proofs.Multiplying.Keys.{place_keys}
use Rattle.sf_algebra.proofs.Vectors.RowSums.{row_sum-comm}
use Rattle.sf_algebra.proofs.Vectors.Rows.{IsCanonical-row_combination}
use Rattle.sf_groebner.specs.Lifts.{IsLift}
use Rattle.sf_groebner.specs.Maps.{AreEqualModulo}
use Rattle.sf_groebner.specs.Presentations.{AreRelationsModulo, IsRelation, IsZero}
use Rattle.sf_groebner.specs.Spans.{InSpan, IsCoefficients, combined}
use Rattle.sf_groebner.proofs.Constructions.Rests.{reduced_vector_exists}
use Rattle.sf_groebner.proofs.MapsOnHomology.EqualModulo.{add-negative_again}
use Rattle.sf_groebner.proofs.PartsOfBases.StackedSpans.{first_coefficients, last_coefficients, row_combination-blocks, InSpan-stacked, InSpan-stacked_sum}
use Rattle.sf_groebner.proofs.Spanning.SpanCombinations.{span_submodule_of}
use Rattle.sf_groebner.proofs.Spanning.Spans.{combined-difference, IsVector-difference}
use Rattle.sf_groebner.proofs.Spanning.Submodules.{IsSubmodule}
use Rattle.sf_groebner.proofs.Uniqueness.PresentedModules.{minimal-vectors}
use Rattle.sf_groebner.proofs.Uniqueness.ReducedCoordinates.{InSpan-relations, IsRelation-span, reduced_coordinates, unique_reduced_vector}
use Rattle.sf_groebner.proofs.Uniqueness.Subtractions.{add-negative_front}
use Rattle.sf_presented.specs.Coordinates.{AreCoordinates}
use Rattle.sf_presented.proofs.EqualModulo.{AreEqualModulo-sym, AreEqualModulo-trans}

module _ (generators base relations : Matrix) (prime : IsOverField generators.ring)
    (given : AreRelationsModulo generators base relations) where
  abbrev ring : Ring
  ring = generators.ring

  pub coordinates-positive : IsRing generators.ring
  coordinates-positive = field_ring prime

  -- the base as a module over the ring of the generators
  pub base_submodule : IsSubmodule generators.ring base.target (InSpan base)
  base_submodule =
      span_submodule_of ring coordinates-positive base.target base (sym given.base_ring) refl given.base_matrix

  pub IsMatrix-relations_modulo : IsMatrix relations
  IsMatrix-relations_modulo =
      subst (λ (m : Matrix). IsMatrix m)
      (λ i. record { ring = sym given.ring i; target = sym given.target i; rows = relations.rows })
      (minimal-vectors ring (row_degrees generators) (IsRelation generators (InSpan base)) IsZero
      (row_degrees generators) (λ v k. k.coefficients) relations.rows given.minimal)

  canonical-combined : (c : Vector) → IsCanonicalRow ring (combined generators c).terms
  canonical-combined c = IsCanonical-row_combination ring coordinates-positive.modulus generators.rows c.terms

  -- a sum is equal to its part beside the base
  equal-from_sum : (v first second : Vector) → InSpan base first → IsCanonicalRow ring second.terms
      → first.degree ≡ v.degree → second.degree ≡ v.degree → row_sum ring first.terms second.terms ≡ v.terms
      → AreEqualModulo ring (InSpan base) v second
  equal-from_sum v first second inside canonical h k sum =
      let first_canonical : IsCanonicalRow ring first.terms =
      (base_submodule.module_like.vectors first inside).canonical in
      let terms : first.terms ≡ row_sum ring v.terms (negative ring.modulus second.terms) =
      sym (add-negative_front (place_keys ring.weights) ring.modulus coordinates-positive.modulus first.terms
      second.terms first_canonical canonical)
      ∙ ap (λ ts. row_sum ring ts (negative ring.modulus second.terms)) sum in
      record {
        degrees = sym k;
        difference = subst (InSpan base) (λ i. record { degree = h i; terms = terms i }) inside;
      }

  -- coefficients that give what is equal differ by a relation
  pub relation-from_equal : (c d : Vector) → IsCoefficients generators c → IsCoefficients generators d
      → AreEqualModulo generators.ring (InSpan base) (combined generators c) (combined generators d)
      → InSpan relations (vector_difference relations.ring c d)
  relation-from_equal c d h k same =
      subst (λ q. InSpan relations (vector_difference q c d)) (sym given.ring)
      (InSpan-relations generators base relations prime given (vector_difference ring c d) (record {
        coefficients = IsVector-difference ring coordinates-positive (row_degrees generators) c d h k same.degrees;
        inside =
            subst (InSpan base) (sym (combined-difference generators coordinates-positive c d k.canonical))
            same.difference;
      }))

  -- and coefficients that differ by a relation give what is equal
  pub equal-from_relation : (c d : Vector) → IsCanonicalRow generators.ring d.terms → c.degree ≡ d.degree
      → InSpan relations (vector_difference relations.ring c d)
      → AreEqualModulo generators.ring (InSpan base) (combined generators c) (combined generators d)
  equal-from_relation c d canonical degrees h = record {
    degrees = degrees;
    difference =
        subst (InSpan base) (combined-difference generators coordinates-positive c d canonical)
        (IsRelation-span generators base relations prime given (vector_difference ring c d)
        (subst (λ q. InSpan relations (vector_difference q c d)) given.ring h)).inside;
  }

  -- over the relations' own ring and target
  pub over_relations : (c : Vector) → IsCoefficients generators c → IsVector relations.ring relations.target c
  over_relations c h =
      subst (λ q. IsVector q relations.target c) (sym given.ring) (subst (λ ds. IsVector ring ds c) (sym given.target) h)

  pub from_relations : (c : Vector) → IsVector relations.ring relations.target c → IsCoefficients generators c
  from_relations c h =
      subst (λ ds. IsVector ring ds c) given.target (subst (λ q. IsVector q relations.target c) given.ring h)

  -- a vector with coefficients has coordinates
  pub coordinates-reduced : (v c : Vector) → IsCanonicalRow generators.ring v.terms → IsCoefficients generators c
      → AreEqualModulo generators.ring (InSpan base) v (combined generators c)
      → (d : Vector) × AreCoordinates generators base relations v d
  coordinates-reduced v c canonical h same =
      let w =
      reduced_vector_exists relations (subst IsOverField (sym given.ring) prime) IsMatrix-relations_modulo c
      (over_relations c h) in (
        w.0,
        record {
          coefficients = from_relations w.0 w.1;
          reduced = w.4;
          value =
              AreEqualModulo-trans ring coordinates-positive base.target (InSpan base) base_submodule v
              (combined generators c) (combined generators w.0)
              canonical (canonical-combined c) (canonical-combined w.0) same
              (equal-from_relation c w.0 (from_relations w.0 w.1).canonical (sym w.2) w.3);
        },
      )

  pub coordinates_exist : (v : Vector) → InSpan (stacked generators base) v
      → (c : Vector) × AreCoordinates generators base relations v c
  coordinates_exist v h =
      let s = InSpan-stacked generators base coordinates-positive given.base_ring v h in
      let c : Vector = s.in_span.coefficients in
      let canonical : IsCanonicalRow ring v.terms =
      subst (λ (w : Vector). IsCanonicalRow ring w.terms) h.value
      (IsCanonical-row_combination ring coordinates-positive.modulus
      (stacked generators base).rows h.coefficients.terms) in
      let second : AreEqualModulo ring (InSpan base) v s.second =
      equal-from_sum v s.first s.second s.in_module
      (subst (λ (w : Vector). IsCanonicalRow ring w.terms) s.in_span.value
      (canonical-combined c)) s.first_degree s.second_degree s.sum in
      coordinates-reduced v c canonical s.in_span.homogeneous
      (subst (AreEqualModulo ring (InSpan base) v) (sym s.in_span.value) second)

  pub coordinates-inside : (v c : Vector) → IsCanonicalRow generators.ring v.terms
      → AreCoordinates generators base relations v c → InSpan (stacked generators base) v
  coordinates-inside v c canonical h =
      InSpan-stacked_sum generators base coordinates-positive given.base_ring v (record {
        first = vector_difference ring v (combined generators c);
        second = combined generators c;
        in_module = h.value.difference;
        in_span = record { coefficients = c; homogeneous = h.coefficients; value = refl };
        first_degree = refl;
        second_degree = sym h.value.degrees;
        sum =
            add-negative_again ring coordinates-positive v.terms (combined generators c).terms canonical
            (canonical-combined c);
      })

  pub unique_coordinates : (v : Vector) → IsCanonicalRow generators.ring v.terms → (c d : Vector)
      → AreCoordinates generators base relations v c → AreCoordinates generators base relations v d → c ≡ d
  unique_coordinates v canonical c d h k =
      let same : AreEqualModulo ring (InSpan base) (combined generators c) (combined generators d) =
      AreEqualModulo-trans ring coordinates-positive base.target (InSpan base) base_submodule
      (combined generators c) v (combined generators d)
      (canonical-combined c) canonical (canonical-combined d)
      (AreEqualModulo-sym ring coordinates-positive base.target (InSpan base) base_submodule v
      (combined generators c) canonical (canonical-combined c) h.value)
      k.value in
      unique_reduced_vector relations
      (subst (λ q. IsRing q) (sym given.ring) coordinates-positive) IsMatrix-relations_modulo c d
      (over_relations c h.coefficients) (over_relations d k.coefficients) same.degrees
      (relation-from_equal c d h.coefficients k.coefficients same) h.reduced k.reduced

  pub coordinates-lift : (v c : Vector) → IsLift (stacked generators base) v c
      → AreCoordinates generators base relations v (vector_part 0 (length generators.rows) c)
  coordinates-lift v c h =
      let n = length generators.rows in
      let first : Vector = vector_part 0 n c in
      let last : Vector = vector_part n (n + length base.rows) c in
      let degree : c.degree ≡ v.degree = ap (λ x. x.degree) h.value in
      let inside : InSpan base (combined base last) = record {
        coefficients = last;
        homogeneous =
            subst (λ q. IsVector q (row_degrees base) last) given.base_ring
            (last_coefficients generators base c h.coefficients);
        value = refl;
      } in
      let sum : row_sum ring (combined base last).terms (combined generators first).terms ≡ v.terms =
      ap (λ q. row_sum ring (row_combination q base.rows last.terms) (combined generators first).terms)
      (sym given.base_ring)
      ∙ row_sum-comm ring coordinates-positive.modulus _ _
      ∙ row_combination-blocks generators base coordinates-positive c h.coefficients
      ∙ ap (λ x. x.terms) h.value in
      record {
        coefficients = first_coefficients generators base c h.coefficients;
        reduced = reduced_coordinates generators base relations prime given v c h;
        value =
            equal-from_sum v (combined base last) (combined generators first) inside
            (canonical-combined first) degree degree sum;
      }
