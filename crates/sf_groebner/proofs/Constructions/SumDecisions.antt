-- Whether a vector is in a span, or in the sum of a span and another, is decided.
use Rattle.std.proofs.Common.{◌≡◌, inl, inr, ◌+◌, ◌≤◌, List, [], ◌∷◌, ◌++◌, length, refl, sym, ◌∙◌, ap, subst, arith, ℤ}
use Rattle.std.proofs.lemmas.List.{length-append, length-map, map-append}
use Rattle.std.specs.List.{AllByRecursion}
use Rattle.sf_algebra.specs.Matrices.{Matrix, IsMatrix, degrees_of}
use Rattle.sf_algebra.specs.MatrixOperations.{part_terms, row_combination, vector_part}
use Rattle.sf_algebra.specs.Rings.{Ring, IsRing, IsOverField}
use Rattle.sf_algebra.specs.Terms.{Term}
use Rattle.sf_algebra.specs.VectorOperations.{row_sum}
use Rattle.sf_algebra.specs.Vectors.{Place, Vector, IsVector}
use Rattle.sf_algebra.proofs.Basics.Lists.{AllByRecursion-append, AllByRecursion-weaken}
use Rattle.sf_algebra.proofs.GradedMatrices.MatrixRows.{StandsWithin}
use Rattle.sf_algebra.proofs.GradedMatrices.PartTerms.{IsVector-part_terms}
use Rattle.sf_algebra.proofs.GradedMatrices.Ranges.{slice_range-first, slice_range-second}
use Rattle.sf_algebra.proofs.Monomials.Weights.{field_ring}
use Rattle.sf_algebra.proofs.Vectors.RowSums.{row_sum-comm}
use Rattle.sf_algebra.proofs.Vectors.StackedRows.{row_combination-stacked}
use Rattle.sf_groebner.specs.MinimalGenerators.{IsInSum, matrix_of}
use Rattle.sf_groebner.specs.Presentations.{IsZero}
use Rattle.sf_groebner.specs.Spans.{InSpan}
use Rattle.sf_groebner.proofs.Basics.Decisions.{IsDecided, decide_from}
use Rattle.sf_groebner.proofs.Constructions.MatrixBases.{span_basis}
use Rattle.sf_groebner.proofs.Constructions.Rests.{basis_division, rest_none}
use Rattle.sf_groebner.proofs.PartsOfBases.PairedVectors.{IsVector-pair, paired_terms, paired_terms-parts}
use Rattle.sf_groebner.proofs.Uniqueness.KeptGenerators.{IsSumAt, IsSumAt-from, IsSumAt-to}
use Rattle.sf_groebner.proofs.Uniqueness.ReducedCoordinates.{InSpan-sum, IsInSum-span}

decide_none : (ts : List (Term Place)) → IsDecided (ts ≡ [])
decide_none [] = inl refl
decide_none (t ∷ ts) = inr (λ e. cc)

-- by the rest of a division
pub decide_span : (m : Matrix) → IsOverField m.ring → IsMatrix m → (v : Vector) → IsVector m.ring m.target v
    → IsDecided (InSpan m v)
decide_span m prime matrix v vector =
    let b = span_basis m prime matrix in
    let e = basis_division m prime matrix b.0 b.1 v vector in
    let rest : Vector = e.0 in
    let both = rest_none m (field_ring prime) matrix b.0 b.1 v vector rest e.1 e.2 in
    decide_from (rest.terms ≡ []) (InSpan m v) both.0 both.1 (decide_none rest.terms)

module _ (ring : Ring) (positive : IsRing ring) (target : List ℤ) (earlier rows : List Vector) where
  whole_degrees : degrees_of (earlier ++ rows) ≡ degrees_of earlier ++ degrees_of rows
  whole_degrees = map-append (λ (v : Vector). v.degree) earlier rows

  length-degrees_of : (vs : List Vector) → length (degrees_of vs) ≡ length vs
  length-degrees_of vs = length-map vs (λ (v : Vector). v.degree)

  -- a sum of combinations of two lists of rows is a combination of all rows
  pub InSpan-IsInSum : (v : Vector) → IsInSum ring earlier (InSpan (matrix_of ring target rows)) v
      → InSpan (matrix_of ring target (earlier ++ rows)) v
  InSpan-IsInSum v h =
      let s = IsSumAt-from ring target (InSpan (matrix_of ring target rows)) earlier v h in
      let n = length earlier in
      let c : Vector = s.inside.coefficients in
      let value : row_combination ring rows c.terms ≡ s.first = ap (λ (w : Vector). w.terms) s.inside.value in
      let last : IsVector ring (degrees_of rows) (record { degree = v.degree; terms = c.terms }) =
      subst (λ d. IsVector ring (degrees_of rows) (record { degree = d; terms = c.terms }))
      (ap (λ (w : Vector). w.degree) s.inside.value) s.inside.homogeneous in
      let pair : IsVector ring (degrees_of earlier ++ degrees_of rows) (record { degree = v.degree; terms = paired_terms n s.coefficients c.terms }) =
      subst (λ k. IsVector ring (degrees_of earlier ++ degrees_of rows) (record { degree = v.degree; terms = paired_terms k s.coefficients c.terms })) (length-degrees_of earlier)
      (IsVector-pair (degrees_of earlier) (degrees_of rows) v.degree ring s.coefficients c.terms s.vector last) in
      let within : StandsWithin n s.coefficients = subst (λ k. StandsWithin k s.coefficients) (length-degrees_of earlier) (AllByRecursion-weaken _ _ (λ t k. k.0) s.coefficients s.vector.homogeneous) in
      let terms : row_combination ring (earlier ++ rows) (paired_terms n s.coefficients c.terms) ≡ v.terms =
      row_combination-stacked ring positive.modulus earlier rows s.coefficients c.terms within
      ∙ row_sum-comm ring positive.modulus (row_combination ring earlier s.coefficients)
      (row_combination ring rows c.terms)
      ∙ ap (λ ts. row_sum ring ts (row_combination ring earlier s.coefficients)) value
      ∙ s.sum in record {
        coefficients = record { degree = v.degree; terms = paired_terms n s.coefficients c.terms };
        homogeneous =
            subst (λ ds. IsVector ring ds (record { degree = v.degree; terms = paired_terms n s.coefficients c.terms }))
            (sym whole_degrees) pair;
        value = λ i. record { degree = v.degree; terms = terms i };
      }

  -- and the other way round
  pub IsInSum-InSpan : (v : Vector) → InSpan (matrix_of ring target (earlier ++ rows)) v
      → IsInSum ring earlier (InSpan (matrix_of ring target rows)) v
  IsInSum-InSpan v h =
      let n = length earlier in
      let end = n + length rows in
      let c : Vector = h.coefficients in
      let blocks : IsVector ring (degrees_of earlier ++ degrees_of rows) c =
      subst (λ ds. IsVector ring ds c) whole_degrees h.homogeneous in
      let first : IsVector ring (degrees_of earlier) (vector_part 0 n c) =
      subst (λ ds. IsVector ring ds (vector_part 0 n c)) (slice_range-first (degrees_of earlier) (degrees_of rows) n (length-degrees_of earlier))
      (IsVector-part_terms ring (degrees_of earlier ++ degrees_of rows) 0 n c blocks) in
      let fits : n + length (degrees_of rows) ≤ end = rw length-degrees_of (omega arith) in
      let last : IsVector ring (degrees_of rows) (vector_part n end c) =
      subst (λ ds. IsVector ring ds (vector_part n end c)) (slice_range-second (degrees_of earlier) (degrees_of rows) n end (length-degrees_of earlier) fits)
      (IsVector-part_terms ring (degrees_of earlier ++ degrees_of rows) n end c blocks) in
      let size : length (degrees_of earlier ++ degrees_of rows) ≡ n + length rows = rw length-append (λ i. length-degrees_of earlier i + length-degrees_of rows i) in
      let within : StandsWithin (n + length rows) c.terms =
      subst (λ k. StandsWithin k c.terms) size (AllByRecursion-weaken _ _ (λ t k. k.0) c.terms blocks.homogeneous) in
      let first_within : StandsWithin n (part_terms 0 n c.terms) = subst (λ k. StandsWithin k (part_terms 0 n c.terms)) (length-degrees_of earlier) (AllByRecursion-weaken _ _ (λ t k. k.0) (part_terms 0 n c.terms) first.homogeneous) in
      let sum : IsSumAt ring target (InSpan (matrix_of ring target rows)) earlier c.degree (row_combination ring (earlier ++ rows) c.terms) = record {
        first = row_combination ring rows (part_terms n end c.terms);
        coefficients = part_terms 0 n c.terms;
        inside = record { coefficients = vector_part n end c; homogeneous = last; value = refl };
        vector = first;
        sum =
            row_sum-comm ring positive.modulus (row_combination ring rows (part_terms n end c.terms))
            (row_combination ring earlier (part_terms 0 n c.terms))
            ∙ sym (row_combination-stacked ring positive.modulus earlier rows (part_terms 0 n c.terms) (part_terms n end c.terms) first_within)
            ∙ ap (row_combination ring (earlier ++ rows))
            (paired_terms-parts ring.weights n (length rows) c.terms blocks.canonical.descending within);
      } in
      IsSumAt-to ring target (InSpan (matrix_of ring target rows)) earlier v
      (subst (λ (w : Vector). IsSumAt ring target (InSpan (matrix_of ring target rows)) earlier w.degree w.terms) h.value sum)

module _ (ring : Ring) (prime : IsOverField ring) (target : List ℤ) (earlier : List Vector)
    (matrix : AllByRecursion (IsVector ring target) earlier) (v : Vector) (vector : IsVector ring target v) where
  pub decide_sum_zero : IsDecided (IsInSum ring earlier IsZero v)
  decide_sum_zero =
      let positive : IsRing ring = field_ring prime in
      decide_from (InSpan (matrix_of ring target earlier) v) (IsInSum ring earlier IsZero v)
      (IsInSum-span (matrix_of ring target earlier) positive v) (InSpan-sum (matrix_of ring target earlier) positive v)
      (decide_span (matrix_of ring target earlier) prime matrix v vector)

  pub decide_sum_span : (rows : List Vector) → AllByRecursion (IsVector ring target) rows
      → IsDecided (IsInSum ring earlier (InSpan (matrix_of ring target rows)) v)
  decide_sum_span rows other =
      let positive : IsRing ring = field_ring prime in
      decide_from (InSpan (matrix_of ring target (earlier ++ rows)) v)
      (IsInSum ring earlier (InSpan (matrix_of ring target rows)) v)
      (IsInSum-InSpan ring positive target earlier rows v) (InSpan-IsInSum ring positive target earlier rows v)
      (decide_span (matrix_of ring target (earlier ++ rows)) prime (AllByRecursion-append (IsVector ring target) earlier rows matrix other) v vector)
