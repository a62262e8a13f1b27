-- The coefficient part of a row of a graph's reduced basis is the lift of its value part.
use Rattle.std.proofs.Common.{◌≡◌, true, not, ◌+◌, List, [], ◌∷◌, filter, length, sym, ◌∙◌, ap, subst}
use Rattle.std.specs.List.{AllByRecursion}
use Rattle.sf_algebra.specs.Matrices.{Matrix}
use Rattle.sf_algebra.specs.MatrixOperations.{part_terms, vector_part}
use Rattle.sf_algebra.specs.Rings.{IsRing}
use Rattle.sf_algebra.specs.Vectors.{Vector}
use Rattle.sf_algebra.proofs.Basics.Filters.{AllByRecursion-filter_keeps, AllByRecursion-filter}
use Rattle.sf_groebner.specs.Cuts.{has_first_part, last_parts}
use Rattle.sf_groebner.specs.Lifts.{IsLift}
use Rattle.sf_groebner.specs.ReducedBases.{IsReducedBy, IsGraphBasis}
use Rattle.sf_groebner.specs.Spans.{graph_degrees, IsGraphVector}
use Rattle.sf_groebner.proofs.Basics.Items.{IsItem, AllByRecursion-item, AllByRecursion-from_items, AllByRecursion-both}
use Rattle.sf_groebner.proofs.PartsOfBases.FirstParts.{IsLastPart, last_part}
use Rattle.sf_groebner.proofs.PartsOfBases.GraphParts.{length-graph_degrees, graph_coefficients, graph_value, reduced-syzygies}
use Rattle.sf_groebner.proofs.PartsOfBases.ReducedParts.{elements, reduced_by-parts}
use Rattle.sf_groebner.proofs.Uniqueness.Apart.{IsApart-items}

module _ (m : Matrix) (positive : IsRing m.ring) (basis : List Vector) (h : IsGraphBasis m basis) where
  coefficients-reduced : (w : Vector) → IsItem w basis → has_first_part (length m.target) w ≡ true
      → IsReducedBy (last_parts (length m.target) (length m.target + length m.rows) basis)
      (part_terms (length m.target) (length m.target + length m.rows) w.terms)
  coefficients-reduced w item first =
      let n = length m.target in
      let end = length (graph_degrees m) in
      let keep = λ (v : Vector). not (has_first_part n v) in
      let P = IsLastPart m.ring (graph_degrees m) (IsGraphVector m) (λ w k. k.vector) n in
      let cut = last_part m.ring (graph_degrees m) (IsGraphVector m) (λ w k. k.vector) n in
      subst (λ e. IsReducedBy (last_parts n e basis) (part_terms n e w.terms)) (length-graph_degrees m)
      (reduced_by-parts n end keep (IsGraphVector m) P cut basis (elements n end keep (IsGraphVector m) P cut m.ring.weights basis h) w
      (AllByRecursion-from_items (λ v. keep v ≡ true → IsReducedBy (v ∷ []) w.terms) basis
      (λ v other kept. IsApart-items basis w v h.apart item other (λ same. let clash : keep w ≡ true = ap keep same ∙ kept in let no = sym (ap not first) ∙ clash in cc))))

  graph_lift : (w : Vector) → IsItem w basis → has_first_part (length m.target) w ≡ true
      → IsLift m (vector_part 0 (length m.target) w) (vector_part (length m.target) (length m.target + length m.rows) w)
  graph_lift w item first =
      let inside = AllByRecursion-item (IsGraphVector m) basis w h.inside item in
      record {
        syzygies = last_parts (length m.target) (length m.target + length m.rows) basis;
        basis = reduced-syzygies m positive basis h;
        coefficients = graph_coefficients m w inside;
        value = graph_value m w inside;
        reduced = coefficients-reduced w item first;
      }

  pub graph_lifts : AllByRecursion
      (λ w. IsLift m (vector_part 0 (length m.target) w)
      (vector_part (length m.target) (length m.target + length m.rows) w))
      (filter (has_first_part (length m.target)) basis)
  graph_lifts =
      let each = AllByRecursion-from_items (λ w. has_first_part (length m.target) w ≡ true → IsLift m (vector_part 0 (length m.target) w) (vector_part (length m.target) (length m.target + length m.rows) w)) basis graph_lift in
      AllByRecursion-both _ (λ w. has_first_part (length m.target) w ≡ true) _ (λ w f k. f k)
      (filter (has_first_part (length m.target)) basis)
      (AllByRecursion-filter_keeps _ (has_first_part (length m.target)) basis each)
      (AllByRecursion-filter _ (has_first_part (length m.target)) basis (λ w k. k))
