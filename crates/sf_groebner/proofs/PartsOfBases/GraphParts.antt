-- The first parts of the graph's vectors are the span, the last ones the syzygies; a row's last part is the lift of its
-- first.
use Rattle.std.proofs.Common.{◌≡◌, ℕ, ◌+◌, List, [], length, refl, sym, ◌∙◌, ap, subst, ℤ, arith}
use Rattle.std.proofs.lemmas.List.{length-append, length-map}
use Rattle.sf_algebra.specs.Matrices.{Matrix, row_degrees, IsMatrix}
use Rattle.sf_algebra.specs.MatrixOperations.{row_combination, part_terms, vector_part}
use Rattle.sf_algebra.specs.Rings.{Ring, IsRing}
use Rattle.sf_algebra.specs.Vectors.{Vector, IsVector}
use Rattle.sf_algebra.proofs.Basics.Lists.{AllByRecursion-weaken}
use Rattle.sf_algebra.proofs.GradedMatrices.MatrixRows.{StandsWithin}
use Rattle.sf_algebra.proofs.GradedMatrices.PartTerms.{IsVector-part_terms}
use Rattle.sf_algebra.proofs.GradedMatrices.Ranges.{slice_range-second}
use Rattle.sf_groebner.specs.Cuts.{first_parts, last_parts, IsFirstPart}
use Rattle.sf_groebner.specs.ReducedBases.{IsReducedBasis, IsSpanBasis, IsSyzygyBasis, IsGraphBasis}
use Rattle.sf_groebner.specs.Spans.{IsCoefficients, combined, InSpan, IsSyzygy, graph_degrees, value_terms, coefficient_terms, IsGraphVector}
use Rattle.sf_groebner.proofs.PartsOfBases.FirstParts.{reduced-first_parts, reduced-last_parts}
use Rattle.sf_groebner.proofs.PartsOfBases.PairedVectors.{paired_terms, part_terms-pair_first, part_terms-pair_last, IsVector-pair}
use Rattle.sf_groebner.proofs.Spanning.SameModules.{IsReducedBasis-same}
use Rattle.sf_groebner.proofs.Spanning.Spans.{span_module}

pub IsWithin-IsVector : (ring : Ring) (degrees : List ℤ) (v : Vector) → IsVector ring degrees v
    → StandsWithin (length degrees) v.terms
IsWithin-IsVector ring degrees v h = AllByRecursion-weaken _ _ (λ t e. e.0) v.terms h.homogeneous

pub IsWithin-coefficients : (m : Matrix) (c : Vector) → IsCoefficients m c → StandsWithin (length m.rows) c.terms
IsWithin-coefficients m c h =
    subst (λ n. StandsWithin n c.terms) (length-map m.rows (λ (v : Vector). v.degree))
    (IsWithin-IsVector m.ring (row_degrees m) c h)

module _ (m : Matrix) where
  -- how many positions the graph's free module has
  pub length-graph_degrees : length (graph_degrees m) ≡ length m.target + length m.rows
  length-graph_degrees = rw (length-append, length-map) refl

  -- the coefficients of a vector of the graph
  pub graph_coefficients : (w : Vector) → IsGraphVector m w
      → IsCoefficients m (vector_part (length m.target) (length m.target + length m.rows) w)
  graph_coefficients w h =
      subst (λ ds. IsVector m.ring ds (vector_part (length m.target) (length m.target + length m.rows) w))
      (slice_range-second m.target (row_degrees m) (length m.target) (length m.target + length m.rows) refl (rw length-map (omega arith)))
      (IsVector-part_terms m.ring (graph_degrees m) (length m.target) (length m.target + length m.rows) w h.vector)

  -- they give its value
  pub graph_value : (w : Vector) → IsGraphVector m w
      → combined m (vector_part (length m.target) (length m.target + length m.rows) w)
      ≡ vector_part 0 (length m.target) w
  graph_value w h = λ i. record { degree = w.degree; terms = sym h.value i }

  -- the vector of the graph with these coefficients
  abbrev pub graph_of : Vector → Vector
  graph_of c = record {
    degree = c.degree;
    terms = paired_terms (length m.target) (row_combination m.ring m.rows c.terms) c.terms;
  }

  module _ (positive : IsRing m.ring) where
    abbrev pub IsValue : Vector → Type 0
    IsValue c = IsVector m.ring m.target (combined m c)

    pub graph_of-first : (c : Vector) → IsValue c → value_terms m (graph_of c).terms ≡ row_combination m.ring m.rows c.terms
    graph_of-first c h =
        part_terms-pair_first (length m.target) (row_combination m.ring m.rows c.terms) c.terms
        (IsWithin-IsVector m.ring m.target (combined m c) h)

    pub graph_of-last : (c : Vector) → IsValue c → IsCoefficients m c → coefficient_terms m (graph_of c).terms ≡ c.terms
    graph_of-last c h k =
        part_terms-pair_last (length m.target) (length m.rows) (row_combination m.ring m.rows c.terms) c.terms
        (IsWithin-IsVector m.ring m.target (combined m c) h) (IsWithin-coefficients m c k)

    pub IsGraphVector-graph_of : (c : Vector) → IsValue c → IsCoefficients m c → IsGraphVector m (graph_of c)
    IsGraphVector-graph_of c h k = record {
      vector =
          IsVector-pair m.target (row_degrees m) c.degree m.ring (row_combination m.ring m.rows c.terms) c.terms h k;
      value = graph_of-first c h ∙ ap (row_combination m.ring m.rows) (sym (graph_of-last c h k));
    }

    abbrev IsValuePart : Vector → Type 0
    IsValuePart = IsFirstPart (length m.target) (IsGraphVector m)

    span_from_part : (v : Vector) → IsValuePart v → InSpan m v
    span_from_part v h = record {
      coefficients = vector_part (length m.target) (length m.target + length m.rows) h.whole;
      homogeneous = graph_coefficients h.whole h.inside;
      value = graph_value h.whole h.inside ∙ h.part;
    }

    part_from_span : IsMatrix m → (v : Vector) → InSpan m v → IsValuePart v
    part_from_span matrix v h =
        let value : IsValue h.coefficients =
        subst (IsVector m.ring m.target) (sym h.value) ((span_module m positive matrix).vectors v h) in
        record {
          whole = graph_of h.coefficients;
          inside = IsGraphVector-graph_of h.coefficients value h.homogeneous;
          part =
              (λ i. record { degree = h.coefficients.degree; terms = graph_of-first h.coefficients value i }) ∙ h.value;
        }

    -- the value parts of the rows of the graph's reduced basis
    pub reduced-span : IsMatrix m → (basis : List Vector) → IsGraphBasis m basis
        → IsSpanBasis m (first_parts (length m.target) basis)
    reduced-span matrix basis h =
        IsReducedBasis-same m.ring.weights IsValuePart (InSpan m) span_from_part (part_from_span matrix)
        (first_parts (length m.target) basis)
        (reduced-first_parts m.ring (graph_degrees m) (IsGraphVector m) (λ w k. k.vector) (length m.target) basis h)

    abbrev IsCoefficientPart : ℕ → Vector → Type 0
    IsCoefficientPart end c =
        (w : Vector) × IsGraphVector m w × (part_terms 0 (length m.target) w.terms ≡ []) × (vector_part (length m.target) end w ≡ c)

    syzygy_from_part : (c : Vector) → IsCoefficientPart (length m.target + length m.rows) c → IsSyzygy m c
    syzygy_from_part c h =
        subst (IsSyzygy m) h.3 (record { coefficients = graph_coefficients h.0 h.1; zero = sym h.1.value ∙ h.2 })

    part_from_syzygy : (c : Vector) → IsSyzygy m c → IsCoefficientPart (length m.target + length m.rows) c
    part_from_syzygy c h =
        let value : IsValue c =
        subst (λ ts. IsVector m.ring m.target (record { degree = c.degree; terms = ts })) (sym h.zero)
        (record { canonical = record { descending = tt; residues = tt }; homogeneous = tt }) in
        (graph_of c, IsGraphVector-graph_of c value h.coefficients, graph_of-first c value ∙ h.zero, (λ i. record { degree = c.degree; terms = graph_of-last c value h.coefficients i }))

    -- the coefficient parts of the rows without a value part
    pub reduced-syzygies : (basis : List Vector) → IsGraphBasis m basis
        → IsSyzygyBasis m (last_parts (length m.target) (length m.target + length m.rows) basis)
    reduced-syzygies basis h =
        IsReducedBasis-same m.ring.weights (IsCoefficientPart (length m.target + length m.rows))
        (IsSyzygy m) syzygy_from_part part_from_syzygy _
        (subst (λ end. IsReducedBasis m.ring.weights (IsCoefficientPart end) (last_parts (length m.target) end basis)) length-graph_degrees
        (reduced-last_parts m.ring (graph_degrees m) (IsGraphVector m) (λ w k. k.vector) (length m.target) basis h))
