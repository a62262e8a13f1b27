-- The coefficients of a stack are those of its first rows and those of the others, and its span is the sum of their
-- spans.
use Rattle.std.proofs.Common.{◌≡◌, ◌+◌, ◌++◌, length, refl, sym, ◌∙◌, ap, subst, arith}
use Rattle.std.proofs.lemmas.List.{length-append, length-map}
use Rattle.sf_algebra.specs.Matrices.{Matrix, row_degrees}
use Rattle.sf_algebra.specs.MatrixOperations.{part_terms, row_combination, stacked, vector_part}
use Rattle.sf_algebra.specs.Rings.{IsRing}
use Rattle.sf_algebra.specs.VectorOperations.{row_sum}
use Rattle.sf_algebra.specs.Vectors.{Vector, IsVector}
use Rattle.sf_algebra.proofs.GradedMatrices.MatrixRows.{StandsWithin}
use Rattle.sf_algebra.proofs.GradedMatrices.PartTerms.{IsVector-part_terms}
use Rattle.sf_algebra.proofs.GradedMatrices.Ranges.{slice_range-first, slice_range-second}
use Rattle.sf_algebra.proofs.GradedMatrices.Stacks.{row_degrees-stacked}
use Rattle.sf_algebra.proofs.Vectors.RowSums.{row_sum-comm}
use Rattle.sf_algebra.proofs.Vectors.StackedRows.{row_combination-stacked}
use Rattle.sf_groebner.specs.MinimalGenerators.{IsInSum}
use Rattle.sf_groebner.specs.Spans.{IsCoefficients, combined, InSpan}
use Rattle.sf_groebner.proofs.PartsOfBases.GraphParts.{IsWithin-coefficients}
use Rattle.sf_groebner.proofs.PartsOfBases.PairedVectors.{paired_terms, paired_terms-parts, IsVector-pair}

module _ (a b : Matrix) where
  pub stack_coefficients : (c : Vector) → IsVector a.ring (row_degrees a ++ row_degrees b) c
      → IsCoefficients (stacked a b) c
  stack_coefficients c h = subst (λ ds. IsVector a.ring ds c) (sym (row_degrees-stacked a b)) h

  blocks : (c : Vector) → IsCoefficients (stacked a b) c → IsVector a.ring (row_degrees a ++ row_degrees b) c
  blocks c h = subst (λ ds. IsVector a.ring ds c) (row_degrees-stacked a b) h

  -- the coefficients of the first rows, and those of the others
  pub first_coefficients : (c : Vector) → IsCoefficients (stacked a b) c
      → IsVector a.ring (row_degrees a) (vector_part 0 (length a.rows) c)
  first_coefficients c h =
      subst (λ ds. IsVector a.ring ds (vector_part 0 (length a.rows) c))
      (slice_range-first (row_degrees a) (row_degrees b) (length a.rows) (length-map a.rows (λ (v : Vector). v.degree)))
      (IsVector-part_terms a.ring (row_degrees a ++ row_degrees b) 0 (length a.rows) c (blocks c h))

  pub last_coefficients : (c : Vector) → IsCoefficients (stacked a b) c
      → IsVector a.ring (row_degrees b) (vector_part (length a.rows) (length a.rows + length b.rows) c)
  last_coefficients c h =
      subst (λ ds. IsVector a.ring ds (vector_part (length a.rows) (length a.rows + length b.rows) c))
      (slice_range-second (row_degrees a) (row_degrees b) (length a.rows) (length a.rows + length b.rows) (length-map a.rows (λ (v : Vector). v.degree)) (rw length-map (omega arith)))
      (IsVector-part_terms a.ring (row_degrees a ++ row_degrees b) (length a.rows) (length a.rows + length b.rows) c (blocks c h))

  module _ (positive : IsRing a.ring) where
    -- a combination of stacked rows, by blocks
    pub row_combination-blocks : (c : Vector) → IsCoefficients (stacked a b) c
        → row_sum a.ring (row_combination a.ring a.rows (part_terms 0 (length a.rows) c.terms))
        (row_combination a.ring b.rows (part_terms (length a.rows) (length a.rows + length b.rows) c.terms))
        ≡ row_combination a.ring (a.rows ++ b.rows) c.terms
    row_combination-blocks c h =
        let within : StandsWithin (length a.rows + length b.rows) c.terms =
        subst (λ n. StandsWithin n c.terms) (let size : length (a.rows ++ b.rows) ≡ length a.rows + length b.rows = rw length-append refl in size) (IsWithin-coefficients (stacked a b) c h) in
        sym (row_combination-stacked a.ring positive.modulus a.rows b.rows (part_terms 0 (length a.rows) c.terms) (part_terms (length a.rows) (length a.rows + length b.rows) c.terms)
        (IsWithin-coefficients a (vector_part 0 (length a.rows) c) (first_coefficients c h)))
        ∙ ap (row_combination a.ring (a.rows ++ b.rows))
        (paired_terms-parts a.ring.weights (length a.rows) (length b.rows) c.terms h.canonical.descending within)

    module _ (rings : a.ring ≡ b.ring) where
      pub InSpan-stacked : (v : Vector) → InSpan (stacked a b) v → IsInSum a.ring a.rows (InSpan b) v
      InSpan-stacked v h =
          let c : Vector = h.coefficients in
          let first = vector_part 0 (length a.rows) c in
          let last = vector_part (length a.rows) (length a.rows + length b.rows) c in
          let degree : c.degree ≡ v.degree = ap (λ x. x.degree) h.value in
          record {
            first = combined b last;
            second = combined a first;
            in_module = record { coefficients = last; homogeneous = subst (λ q. IsVector q (row_degrees b) last) rings (last_coefficients c h.homogeneous); value = refl };
            in_span = record { coefficients = first; homogeneous = first_coefficients c h.homogeneous; value = refl };
            first_degree = degree;
            second_degree = degree;
            sum =
                ap (λ q. row_sum a.ring (row_combination q b.rows last.terms) (row_combination a.ring a.rows first.terms)) (sym rings)
                ∙ row_sum-comm a.ring positive.modulus _ _
                ∙ row_combination-blocks c h.homogeneous
                ∙ ap (λ x. x.terms) h.value;
          }

      pub InSpan-stacked_sum : (v : Vector) → IsInSum a.ring a.rows (InSpan b) v → InSpan (stacked a b) v
      InSpan-stacked_sum v h =
          let ring = a.ring in
          let c : Vector = h.in_span.coefficients in
          let d : Vector = h.in_module.coefficients in
          let first : IsVector ring (row_degrees a) (record { degree = v.degree; terms = c.terms }) =
          subst (λ e. IsVector ring (row_degrees a) (record { degree = e; terms = c.terms }))
          (ap (λ x. x.degree) h.in_span.value ∙ h.second_degree) h.in_span.homogeneous in
          let last : IsVector ring (row_degrees b) (record { degree = v.degree; terms = d.terms }) =
          subst (λ e. IsVector ring (row_degrees b) (record { degree = e; terms = d.terms }))
          (ap (λ x. x.degree) h.in_module.value ∙ h.first_degree)
          (subst (λ q. IsVector q (row_degrees b) d) (sym rings) h.in_module.homogeneous) in
          let pair : IsVector ring (row_degrees a ++ row_degrees b) (record { degree = v.degree; terms = paired_terms (length a.rows) c.terms d.terms }) =
          subst (λ n. IsVector ring (row_degrees a ++ row_degrees b) (record { degree = v.degree; terms = paired_terms n c.terms d.terms })) (length-map a.rows (λ (x : Vector). x.degree))
          (IsVector-pair (row_degrees a) (row_degrees b) v.degree ring c.terms d.terms first last) in
          let value : row_combination ring (a.rows ++ b.rows) (paired_terms (length a.rows) c.terms d.terms) ≡ v.terms =
          row_combination-stacked ring positive.modulus a.rows b.rows c.terms d.terms
          (IsWithin-coefficients a c h.in_span.homogeneous)
          ∙ (λ i. row_sum ring (h.in_span.value i).terms ((ap (λ q. row_combination q b.rows d.terms) rings ∙ ap (λ x. x.terms) h.in_module.value) i))
          ∙ row_sum-comm ring positive.modulus h.second.terms h.first.terms
          ∙ h.sum in
          record {
            coefficients = record { degree = v.degree; terms = paired_terms (length a.rows) c.terms d.terms };
            homogeneous = stack_coefficients _ pair;
            value = (λ i. record { degree = v.degree; terms = value i });
          }
