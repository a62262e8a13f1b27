-- Squares of maps that commute modulo relations: the upper map's cycles go to the lower map's, and the span of the
-- upper map and its relations goes into that of the lower ones.
use Rattle.std.proofs.Common.{◌≡◌, List, refl, sym, ◌∙◌, ap, subst, ℤ}
use Rattle.sf_algebra.specs.Matrices.{Matrix, row_degrees, IsMatrix}
use Rattle.sf_algebra.specs.MatrixOperations.{row_combination, stacked}
use Rattle.sf_algebra.specs.Multiples.{negative}
use Rattle.sf_algebra.specs.Rings.{Ring, IsRing}
use Rattle.sf_algebra.specs.Terms.{Term}
use Rattle.sf_algebra.specs.VectorOperations.{row_sum}
use Rattle.sf_algebra.specs.Vectors.{Place, Vector, IsVector, IsCanonicalRow}
use Rattle.sf_algebra.proofs.Vectors.HomogeneousVectors.{IsVector-row_combination}
use Rattle.sf_algebra.proofs.Vectors.RowSums.{row_sum-assoc}
use Rattle.sf_algebra.proofs.Vectors.Rows.{IsCanonical-row_combination, row_combination-add}
use Rattle.sf_groebner.specs.Homology.{IsCycle}
use Rattle.sf_groebner.specs.Maps.{IsSquare}
use Rattle.sf_groebner.specs.MinimalGenerators.{IsInSum}
use Rattle.sf_groebner.specs.Spans.{IsCoefficients, combined, InSpan}
use Rattle.sf_groebner.proofs.MapsOnHomology.EqualModulo.{add-negative_again, AreEqualModulo-inside}
use Rattle.sf_groebner.proofs.PartsOfBases.StackedSpans.{InSpan-stacked, InSpan-stacked_sum}
use Rattle.sf_groebner.proofs.Spanning.SpanCombinations.{span_submodule_of, submodule_closed}
use Rattle.sf_groebner.proofs.Spanning.Submodules.{IsSubmodule}
use Rattle.sf_groebner.proofs.Spanning.SumsAndMultiples.{HasSumsAndMultiples}

module _ (ring : Ring) (positive : IsRing ring) (m : Matrix) (same_ring : m.ring ≡ ring) where
  -- a matrix over the ring takes vectors over its rows' degrees to vectors over its target
  pub IsVector-combined : IsMatrix m → (source target : List ℤ) → row_degrees m ≡ source → m.target ≡ target
      → (c : Vector) → IsVector ring source c → IsVector ring target (combined m c)
  IsVector-combined matrix source target first second c h =
      let coefficients : IsCoefficients m c =
      subst (λ q. IsVector q (row_degrees m) c) (sym same_ring) (subst (λ ds. IsVector ring ds c) (sym first) h) in
      subst (λ ds. IsVector ring ds (combined m c)) second
      (subst (λ q. IsVector q m.target (combined m c)) same_ring (IsVector-row_combination m (subst (λ q. IsRing q) (sym same_ring) positive).modulus matrix c coefficients))

  pub IsCanonical-combined : (c : Vector) → IsCanonicalRow ring (combined m c).terms
  IsCanonical-combined c =
      subst (λ q. IsCanonicalRow q (combined m c).terms) same_ring
      (IsCanonical-row_combination m.ring (subst (λ q. IsRing q) (sym same_ring) positive).modulus m.rows c.terms)

module _ (upper upper_relations lower lower_relations left right : Matrix)
    (square : IsSquare upper upper_relations lower lower_relations left right) where
  abbrev ring : Ring
  ring = right.ring

  upper_ring : upper.ring ≡ ring
  upper_ring = square.upper_map.ring ∙ sym square.right_map.source_ring

  lower_ring : lower.ring ≡ ring
  lower_ring = square.lower_map.ring ∙ sym square.right_map.target_ring

  relations_submodule : IsSubmodule ring lower_relations.target (InSpan lower_relations)
  relations_submodule =
      span_submodule_of ring square.positive lower_relations.target lower_relations
      (sym square.right_map.target_ring) refl square.lower_map.relations_matrix

  left_coefficients : (c : Vector) → IsCoefficients upper c → IsCoefficients lower (combined left c)
  left_coefficients c h =
      subst (λ q. IsVector q (row_degrees lower) (combined left c)) (sym lower_ring)
      (IsVector-combined ring square.positive left square.left_ring square.left_matrix (row_degrees upper) (row_degrees lower) square.left_source square.left_target c
      (subst (λ q. IsVector q (row_degrees upper) c) upper_ring h))

  pub square-cycles : (c : Vector) → IsCycle upper upper_relations c → IsCycle lower lower_relations (combined left c)
  square-cycles c h = record {
    coefficients = left_coefficients c h.coefficients;
    inside =
        AreEqualModulo-inside ring square.positive lower_relations.target
        (InSpan lower_relations) relations_submodule.module_like (combined right (combined upper c))
        (combined lower (combined left c))
        (IsCanonical-combined ring square.positive lower lower_ring (combined left c))
        (square.commutes c h.coefficients) (square.right_map.sends (combined upper c) h.inside);
  }

  -- what is the sum of a relation and what the upper map gives
  square-sum : (v : Vector) → IsInSum upper.ring upper.rows (InSpan upper_relations) v
      → IsInSum lower.ring lower.rows (InSpan lower_relations) (combined right v)
  square-sum v h =
      let c : Vector = h.in_span.coefficients in
      let degree : c.degree ≡ v.degree = ap (λ x. x.degree) h.in_span.value ∙ h.second_degree in
      let relation : Vector = combined right h.first in
      let through : Vector = combined right (combined upper c) in
      let below : Vector = combined lower (combined left c) in
      let closed : HasSumsAndMultiples ring (InSpan lower_relations) =
      submodule_closed ring square.positive lower_relations.target (InSpan lower_relations) relations_submodule in
      let apart : List (Term Place) = row_sum ring through.terms (negative ring.modulus below.terms) in
      let sum : row_sum ring (row_sum ring relation.terms apart) below.terms ≡ (combined right v).terms =
      row_sum-assoc ring square.positive.modulus relation.terms apart below.terms
      ∙ ap (row_sum ring relation.terms)
      (add-negative_again ring square.positive through.terms below.terms (IsCanonical-combined ring square.positive right refl (combined upper c)) (IsCanonical-combined ring square.positive lower lower_ring (combined left c)))
      ∙ sym (row_combination-add ring square.positive.modulus right.rows h.first.terms (combined upper c).terms)
      ∙ ap (λ (x : Vector). row_combination ring right.rows (row_sum ring h.first.terms x.terms)) h.in_span.value
      ∙ ap (row_combination ring right.rows)
      (subst (λ q. row_sum q h.first.terms h.second.terms ≡ v.terms) upper_ring h.sum) in
      record {
        first = record { degree = v.degree; terms = row_sum ring relation.terms apart };
        second = below;
        in_module = closed.sums v.degree relation.terms apart
            (subst (λ d. InSpan lower_relations (record { degree = d; terms = relation.terms })) h.first_degree (square.right_map.sends h.first h.in_module))
            (subst (λ d. InSpan lower_relations (record { degree = d; terms = apart })) degree (square.commutes c h.in_span.homogeneous).difference);
        in_span = record { coefficients = combined left c; homogeneous = left_coefficients c h.in_span.homogeneous; value = refl };
        first_degree = refl;
        second_degree = degree;
        sum =
            subst (λ q. row_sum q (row_sum ring relation.terms apart) below.terms ≡ (combined right v).terms)
            (sym lower_ring) sum;
      }

  pub square-spans : (v : Vector) → InSpan (stacked upper upper_relations) v
      → InSpan (stacked lower lower_relations) (combined right v)
  square-spans v h =
      InSpan-stacked_sum lower lower_relations
      (subst (λ q. IsRing q) (sym lower_ring) square.positive) square.lower_map.ring (combined right v)
      (square-sum v (InSpan-stacked upper upper_relations (subst (λ q. IsRing q) (sym upper_ring) square.positive) square.upper_map.ring v h))
