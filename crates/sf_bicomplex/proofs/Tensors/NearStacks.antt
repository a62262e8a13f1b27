-- The vectors near values of rows, modulo a span, are the span of the stack of these rows and that of the span.
use Rattle.std.proofs.Common.{◌≡◌, ◌↔◌, List, refl, sym, ap, ◌∙◌, subst, ℤ}
use Rattle.sf_algebra.specs.Matrices.{IsMatrix, Matrix, degrees_of}
use Rattle.sf_algebra.specs.MatrixOperations.{stacked}
use Rattle.sf_algebra.specs.Rings.{IsRing}
use Rattle.sf_algebra.specs.VectorOperations.{row_sum, vector_difference}
use Rattle.sf_algebra.specs.Vectors.{IsCanonicalRow, IsVector, Vector}
use Rattle.sf_algebra.proofs.GradedMatrices.Stacks.{IsMatrix-stacked}
use Rattle.sf_algebra.proofs.Multiplying.Keys.{place_keys}
use Rattle.sf_algebra.proofs.Vectors.Rows.{IsCanonical-row_combination}
use Rattle.sf_groebner.specs.MinimalGenerators.{IsInSum, matrix_of}
use Rattle.sf_groebner.specs.Spans.{InSpan, combined_rows}
use Rattle.sf_groebner.proofs.PartsOfBases.StackedSpans.{InSpan-stacked, InSpan-stacked_sum}
use Rattle.sf_groebner.proofs.Spanning.Spans.{span_module}
use Rattle.sf_groebner.proofs.Uniqueness.Subtractions.{add-negative_back, add-negative_front}
use Rattle.sf_bicomplex.specs.Pages.{IsNear}

module _ (T : Matrix) (positive : IsRing T.ring) (T_matrix : IsMatrix T) (rows : List Vector)
    (A_matrix : IsMatrix (matrix_of T.ring T.target rows)) (source : List ℤ) (sources : degrees_of rows ≡ source)
    (B : Vector → Type 0) (same : (v : Vector) → B v ↔ InSpan T v) where
  abbrev A : Matrix
  A = matrix_of T.ring T.target rows

  canonical : (u : Vector) → IsCanonicalRow T.ring (combined_rows T.ring rows u).terms
  canonical u = IsCanonical-row_combination T.ring positive.modulus rows u.terms

  pub near-stacked : (w : Vector) → IsNear T.ring T.target (combined_rows T.ring rows) (IsVector T.ring source) B w
      ↔ InSpan (stacked (matrix_of T.ring T.target rows) T) w
  near-stacked w = (
    λ e.
        let u : Vector = e.source in
        let value : Vector = combined_rows T.ring rows u in
        InSpan-stacked_sum A T positive refl w
        (record {
          first = vector_difference T.ring w value;
          second = value;
          in_module = (same (vector_difference T.ring w value)).0 e.equal.difference;
          in_span = record {
            coefficients = u;
            homogeneous = subst (λ ds. IsVector T.ring ds u) (sym sources) e.inside;
            value = refl;
          };
          first_degree = refl;
          second_degree = sym e.equal.degrees;
          sum = add-negative_back (place_keys T.ring.weights) T.ring.modulus positive.modulus w.terms value.terms
              e.vector.canonical (canonical u);
        }),
    λ k.
        let s : IsInSum T.ring rows (InSpan T) w = InSpan-stacked A T positive refl w k in
        let u : Vector = s.in_span.coefficients in
        let value : Vector = combined_rows T.ring rows u in
        let first = (span_module T positive T_matrix).vectors s.first s.in_module in
        let terms : s.second.terms ≡ value.terms = ap (λ (x : Vector). x.terms) (sym s.in_span.value) in
        let rest : s.first ≡ vector_difference T.ring w value =
        λ i. record {
          degree = s.first_degree i;
          terms = (sym (add-negative_front (place_keys T.ring.weights) T.ring.modulus positive.modulus s.first.terms
              value.terms first.canonical (canonical u))
              ∙ ap (λ (x : Vector). (vector_difference T.ring x value).terms)
              (λ j. record { degree = w.degree; terms = (ap (row_sum T.ring s.first.terms) (sym terms) ∙ s.sum) j })) i;
        } in
        record {
          vector = (span_module (stacked A T) positive (IsMatrix-stacked A T refl refl A_matrix T_matrix)).vectors w k;
          source = u;
          inside = subst (λ ds. IsVector T.ring ds u) sources s.in_span.homogeneous;
          equal = record {
            degrees = sym (ap (λ (x : Vector). x.degree) s.in_span.value ∙ s.second_degree);
            difference = (same (vector_difference T.ring w value)).1 (subst (InSpan T) rest s.in_module);
          };
        },
  )
