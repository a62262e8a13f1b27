-- A vector of a matrix's target, divided by the reduced basis of the graph: the value of the rest and the negative of its
-- coefficients are the vector's reduction.
use Rattle.std.proofs.Common.{◌≡◌, ◌+◌, ◌||◌, false, not, ℕ, List, [], ◌∷◌, length, refl, sym, ◌∙◌, ap, subst}
use Rattle.std.specs.Bool.{IsFalse}
use Rattle.std.specs.List.{AllByRecursion}
use Rattle.sf_algebra.specs.Matrices.{Matrix, IsMatrix, row_degrees}
use Rattle.sf_algebra.specs.MatrixOperations.{part_terms, row_combination}
use Rattle.sf_algebra.specs.Multiples.{negative}
use Rattle.sf_algebra.specs.Rings.{IsRing, IsOverField}
use Rattle.sf_algebra.specs.Terms.{Term}
use Rattle.sf_algebra.specs.VectorOperations.{row_sum, vector_difference}
use Rattle.sf_algebra.specs.Vectors.{Place, Vector, place_cmp, IsCanonicalRow, IsVector}
use Rattle.sf_algebra.proofs.Basics.Lists.{AllByRecursion-weaken}
use Rattle.sf_algebra.proofs.GradedMatrices.PartTerms.{IsCanonical-part_terms, IsVector-part_terms, part_terms-whole}
use Rattle.sf_algebra.proofs.GradedMatrices.Ranges.{slice_range-first}
use Rattle.sf_algebra.proofs.Monomials.Weights.{field_ring}
use Rattle.sf_algebra.proofs.Multiplying.Keys.{place_keys}
use Rattle.sf_algebra.proofs.Terms.Negatives.{EachPlace-negative, IsCanonical-negative}
use Rattle.sf_algebra.proofs.Vectors.RowSums.{row_sum-comm, row_sum-nil_first}
use Rattle.sf_groebner.specs.BasisParts.{syzygies_of, values_of}
use Rattle.sf_groebner.specs.Cuts.{has_first_part, last_parts, IsFirstPart}
use Rattle.sf_groebner.specs.Divisions.{IsDivided}
use Rattle.sf_groebner.specs.Lifts.{IsLift}
use Rattle.sf_groebner.specs.ReducedBases.{IsGraphBasis, IsReducedBy, is_divided}
use Rattle.sf_groebner.specs.Reductions.{IsReduction}
use Rattle.sf_groebner.specs.Spans.{IsCoefficients, IsGraphVector, coefficient_terms, graph_degrees, value_terms}
use Rattle.sf_groebner.proofs.Basics.Items.{AllByRecursion-from_items}
use Rattle.sf_groebner.proofs.PartsOfBases.FirstParts.{IsLastPart, first_part, last_part}
use Rattle.sf_groebner.proofs.PartsOfBases.GraphParts.{IsWithin-IsVector, graph_coefficients, length-graph_degrees, reduced-span, reduced-syzygies}
use Rattle.sf_groebner.proofs.PartsOfBases.PartLeads.{part_terms-before}
use Rattle.sf_groebner.proofs.PartsOfBases.PartSums.{part_terms-add}
use Rattle.sf_groebner.proofs.PartsOfBases.ReducedParts.{elements, reduced_by-parts}
use Rattle.sf_groebner.proofs.Spanning.GraphGenerators.{graph_submodule}
use Rattle.sf_groebner.proofs.Uniqueness.Apart.{IsReducedBy-item}
use Rattle.sf_groebner.proofs.Uniqueness.Subtractions.{add-negative_front}

-- what is reduced by all is reduced by each alone
reduced_by_one : (vs : List Vector) (ts : List (Term Place)) → IsReducedBy vs ts
    → AllByRecursion (λ w. IsReducedBy (w ∷ []) ts) vs
reduced_by_one vs ts h =
    AllByRecursion-from_items (λ w. IsReducedBy (w ∷ []) ts) vs
    (λ w item. AllByRecursion-weaken _ _ (λ t free. ap (λ b. b || false) free) ts (IsReducedBy-item vs w ts h item))

module _ (m : Matrix) (prime : IsOverField m.ring) (matrix : IsMatrix m) (basis : List Vector) (h : IsGraphBasis m basis)
    (v : Vector) (vector : IsVector m.ring m.target v) (rest quotients : List (Term Place))
    (divided : IsDivided m.ring (graph_degrees m) basis v.degree v.terms rest quotients) where
  positive : IsRing m.ring
  positive = field_ring prime

  abbrev of_degree : List (Term Place) → Vector
  of_degree ts = record { degree = v.degree; terms = ts }

  -- what was taken away is a vector of the graph
  abbrev taken : List (Term Place)
  taken = row_combination m.ring basis quotients

  taken_inside : IsGraphVector m (of_degree taken)
  taken_inside =
      (graph_submodule m positive prime.prime.above_one matrix).combinations basis h.inside v.degree quotients
      divided.homogeneous

  -- the rest's value and the value taken away make the vector, and its coefficients and those taken away make 0
  values : row_sum m.ring (value_terms m rest) (value_terms m taken) ≡ v.terms
  values =
      sym (part_terms-add m.ring 0 (length m.target) positive rest taken)
      ∙ ap (value_terms m) divided.sum
      ∙ part_terms-whole (length m.target) v.terms (IsWithin-IsVector m.ring m.target v vector)

  coefficients : row_sum m.ring (coefficient_terms m rest) (coefficient_terms m taken) ≡ []
  coefficients =
      sym (part_terms-add m.ring (length m.target) (length m.target + length m.rows) positive rest taken)
      ∙ ap (coefficient_terms m) divided.sum
      ∙ part_terms-before (length m.target) (length m.target + length m.rows) v.terms
      (IsWithin-IsVector m.ring m.target v vector)

  -- one summand is the sum without the other
  without : (us vs ws : List (Term Place)) → IsCanonicalRow m.ring us → IsCanonicalRow m.ring vs
      → row_sum m.ring us vs ≡ ws → row_sum m.ring ws (negative m.ring.modulus us) ≡ vs
  without us vs ws first second sum =
      ap (λ ts. row_sum m.ring ts (negative m.ring.modulus us)) (sym sum ∙ row_sum-comm m.ring positive.modulus us vs)
      ∙ add-negative_front (place_keys m.ring.weights) m.ring.modulus positive.modulus vs us second first

  part_canonical : (from to : ℕ) (ts : List (Term Place)) → IsCanonicalRow m.ring ts
      → IsCanonicalRow m.ring (part_terms from to ts)
  part_canonical from to ts k = IsCanonical-part_terms m.ring from to ts k

  value_taken : row_sum m.ring v.terms (negative m.ring.modulus (value_terms m rest)) ≡ value_terms m taken
  value_taken =
      without (value_terms m rest) (value_terms m taken) v.terms
      (part_canonical 0 (length m.target) rest divided.vector.canonical)
      (part_canonical 0 (length m.target) taken taken_inside.vector.canonical) values

  -- the negative of the rest's coefficients is what was taken away
  abbrev lifted : List (Term Place)
  lifted = negative m.ring.modulus (coefficient_terms m rest)

  lifted_canonical : IsCanonicalRow m.ring (coefficient_terms m rest) → IsCanonicalRow m.ring lifted
  lifted_canonical canonical =
      IsCanonical-negative (place_cmp m.ring.weights) m.ring.modulus (coefficient_terms m rest) canonical

  lifted_taken : lifted ≡ coefficient_terms m taken
  lifted_taken =
      let n = length m.target in
      let end = length m.target + length m.rows in
      let canonical = part_canonical n end rest divided.vector.canonical in
      sym (row_sum-nil_first m.ring positive.modulus lifted (lifted_canonical canonical))
      ∙ without (coefficient_terms m rest) (coefficient_terms m taken) [] canonical
      (part_canonical n end taken taken_inside.vector.canonical) coefficients

  lifted_value : row_combination m.ring m.rows lifted ≡ value_terms m taken
  lifted_value = ap (row_combination m.ring m.rows) lifted_taken ∙ sym taken_inside.value

  value_reduced : IsReducedBy (values_of m basis) (value_terms m rest)
  value_reduced =
      let n = length m.target in
      let N = IsGraphVector m in
      let P = IsFirstPart n (IsGraphVector m) in
      let cut = first_part m.ring (graph_degrees m) N (λ w k. k.vector) n in
      reduced_by-parts 0 n (has_first_part n) N P cut basis (elements 0 n (has_first_part n) N P cut m.ring.weights basis h)
      (of_degree rest) (AllByRecursion-weaken _ _ (λ w free kept. free) basis (reduced_by_one basis rest divided.reduced))

  coefficients_reduced : IsReducedBy (syzygies_of m basis) (coefficient_terms m rest)
  coefficients_reduced =
      let n = length m.target in
      let end = length (graph_degrees m) in
      let keep = λ (w : Vector). not (has_first_part n w) in
      let N = IsGraphVector m in
      let P = IsLastPart m.ring (graph_degrees m) N (λ w k. k.vector) n in
      let cut = last_part m.ring (graph_degrees m) N (λ w k. k.vector) n in
      subst (λ e. IsReducedBy (last_parts n e basis) (part_terms n e rest)) (length-graph_degrees m)
      (reduced_by-parts n end keep N P cut basis (elements n end keep N P cut m.ring.weights basis h) (of_degree rest)
      (AllByRecursion-weaken _ _ (λ w free kept. free) basis (reduced_by_one basis rest divided.reduced)))

  value_vector : IsVector m.ring m.target (of_degree (value_terms m rest))
  value_vector =
      subst (λ ds. IsVector m.ring ds (of_degree (value_terms m rest)))
      (slice_range-first m.target (row_degrees m) (length m.target) refl)
      (IsVector-part_terms m.ring (graph_degrees m) 0 (length m.target) (of_degree rest) divided.vector)

  taken_lift : IsLift m (vector_difference m.ring v (of_degree (value_terms m rest))) (of_degree lifted)
  taken_lift = record {
    syzygies = syzygies_of m basis;
    basis = reduced-syzygies m positive basis h;
    coefficients =
        subst (λ ts. IsCoefficients m (of_degree ts)) (sym lifted_taken)
        (graph_coefficients m (of_degree taken) taken_inside);
    value = λ i. of_degree ((lifted_value ∙ sym value_taken) i);
    reduced =
        EachPlace-negative (λ k. IsFalse (is_divided (syzygies_of m basis) k)) m.ring.modulus (coefficient_terms m rest)
        coefficients_reduced;
  }

  pub graph_reduction : IsReduction m v (of_degree (value_terms m rest)) (of_degree lifted)
  graph_reduction = record {
    vector = value_vector;
    reduced = record {
      basis = values_of m basis;
      reduced_basis = reduced-span m positive matrix basis h;
      reduced = value_reduced;
    };
    lift = taken_lift;
    sum = λ i. of_degree ((ap (row_sum m.ring (value_terms m rest)) lifted_value ∙ values) i);
  }
