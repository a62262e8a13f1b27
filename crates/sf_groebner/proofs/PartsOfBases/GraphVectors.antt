-- For each coefficients there is one vector of the graph; and the lifts beside the values of a basis, one by one.
use Rattle.std.proofs.Common.{◌≡◌, ◌+◌, List, [], ◌∷◌, length, map, sym, ◌∙◌, ap, subst}
use Rattle.std.specs.List.{AllByRecursion, filter}
use Rattle.sf_algebra.specs.Matrices.{Matrix, IsMatrix}
use Rattle.sf_algebra.specs.MatrixOperations.{part_terms, row_combination}
use Rattle.sf_algebra.specs.Rings.{IsRing}
use Rattle.sf_algebra.specs.Terms.{Term}
use Rattle.sf_algebra.specs.Vectors.{Place, Vector}
use Rattle.sf_algebra.proofs.GradedMatrices.MatrixRows.{StandsWithin}
use Rattle.sf_algebra.proofs.Vectors.HomogeneousVectors.{IsVector-row_combination}
use Rattle.sf_groebner.specs.BasisParts.{AreLifts, coefficient_part, coefficients_of, value_part, values_of}
use Rattle.sf_groebner.specs.Cuts.{has_first_part}
use Rattle.sf_groebner.specs.Lifts.{IsLift}
use Rattle.sf_groebner.specs.ReducedBases.{IsGraphBasis}
use Rattle.sf_groebner.specs.Spans.{IsCoefficients, IsGraphVector, combined, graph_degrees}
use Rattle.sf_groebner.proofs.PartsOfBases.GraphLifts.{graph_lifts}
use Rattle.sf_groebner.proofs.PartsOfBases.GraphParts.{IsGraphVector-graph_of, IsWithin-IsVector, graph_coefficients, graph_of, graph_of-first, graph_of-last, graph_value, length-graph_degrees}
use Rattle.sf_groebner.proofs.PartsOfBases.PairedVectors.{paired_terms, paired_terms-parts}

-- the vector with given coefficients
pub graph_vector : (m : Matrix) → IsRing m.ring → IsMatrix m → (c : Vector) → IsCoefficients m c
    → (w : Vector) × IsGraphVector m w × (value_part m w ≡ combined m c) × (coefficient_part m w ≡ c)
graph_vector m positive matrix c h =
    let value = IsVector-row_combination m positive.modulus matrix c h in (
      graph_of m c,
      IsGraphVector-graph_of m positive c value h,
      λ i. record { degree = c.degree; terms = graph_of-first m positive c value i },
      λ i. record { degree = c.degree; terms = graph_of-last m positive c value h i },
    )

-- a vector of the graph is what its coefficients give, with them behind it
graph_vector-paired : (m : Matrix) (w : Vector) → IsGraphVector m w → graph_of m (coefficient_part m w) ≡ w
graph_vector-paired m w h =
    let n = length m.target in
    let c : List (Term Place) = part_terms n (n + length m.rows) w.terms in
    let within : StandsWithin (n + length m.rows) w.terms =
    subst (λ k. StandsWithin k w.terms) (length-graph_degrees m) (IsWithin-IsVector m.ring (graph_degrees m) w h.vector) in
    let terms : paired_terms n (row_combination m.ring m.rows c) c ≡ w.terms =
    ap (λ us. paired_terms n us c) (sym h.value)
    ∙ paired_terms-parts m.ring.weights n (length m.rows) w.terms h.vector.canonical.descending within in
    λ i. record { degree = w.degree; terms = terms i }

pub graph_vector-unique : (m : Matrix) (u w : Vector) → IsGraphVector m u → IsGraphVector m w
    → coefficient_part m u ≡ coefficient_part m w → u ≡ w
graph_vector-unique m u w h k same =
    sym (graph_vector-paired m u h) ∙ ap (graph_of m) same ∙ graph_vector-paired m w k

pub graph_vector-coefficients : (m : Matrix) (w : Vector) → IsGraphVector m w
    → IsCoefficients m (coefficient_part m w) × (value_part m w ≡ combined m (coefficient_part m w))
graph_vector-coefficients m w h = (graph_coefficients m w h, sym (graph_value m w h))

AreLifts-each : (m : Matrix) (ws : List Vector)
    → AllByRecursion (λ w. IsLift m (value_part m w) (coefficient_part m w)) ws
    → AreLifts m (map (value_part m) ws) (map (coefficient_part m) ws)
AreLifts-each m [] h = tt
AreLifts-each m (w ∷ ws) h = (h.0, AreLifts-each m ws h.1)

pub graph_lifts-each : (m : Matrix) → IsRing m.ring → (basis : List Vector) → IsGraphBasis m basis
    → AreLifts m (values_of m basis) (coefficients_of m basis)
graph_lifts-each m positive basis h =
    AreLifts-each m (filter (has_first_part (length m.target)) basis) (graph_lifts m positive basis h)
