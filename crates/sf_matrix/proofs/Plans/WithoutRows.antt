-- What is asked of a matrix without rows: its bases are empty, and a vector is reduced as it is.
use Rattle.std.proofs.Common.{◌≡◌, List, [], ◌∷◌, length, refl, sym, ◌∙◌, ap, subst, ℤ, arith}
use Rattle.sf_algebra.specs.Matrices.{Matrix}
use Rattle.sf_algebra.specs.MatrixOperations.{part_terms, row_combination}
use Rattle.sf_algebra.specs.Rings.{Ring, IsRing}
use Rattle.sf_algebra.specs.Terms.{Term}
use Rattle.sf_algebra.specs.VectorOperations.{vector_difference, vector_sum}
use Rattle.sf_algebra.specs.Vectors.{Place, Vector, IsVector}
use Rattle.sf_algebra.proofs.GradedMatrices.MatrixRows.{StandsWithin}
use Rattle.sf_algebra.proofs.GradedMatrices.PartTerms.{part_terms-inside}
use Rattle.sf_algebra.proofs.Multiplying.Keys.{place_keys}
use Rattle.sf_algebra.proofs.Terms.Negatives.{add-negative}
use Rattle.sf_algebra.proofs.Vectors.RowSums.{row_sum-nil}
use Rattle.sf_groebner.specs.MinimalGenerators.{matrix_of}
use Rattle.sf_groebner.specs.ReducedBases.{HasDividedLead, IsReducedBy, IsReducedBasis, IsGraphBasis, IsSpanBasis, IsSyzygyBasis}
use Rattle.sf_groebner.specs.Reductions.{IsReduction}
use Rattle.sf_groebner.specs.Spans.{IsGraphVector, coefficient_terms, combined}
use Rattle.sf_groebner.proofs.PartsOfBases.GraphParts.{IsWithin-IsVector, length-graph_degrees}
use Rattle.sf_groebner.proofs.WorkedExamples.FreeRelations.{row_combination-no_rows, span-no_rows}

-- the zero vector of a degree
abbrev pub zero_vector : ℤ → Vector
zero_vector d = record { degree = d; terms = [] }

-- a module all of whose vectors are 0 has the empty basis
empty_basis : (ring : Ring) (N : Vector → Type 0) → ((v : Vector) → N v → HasDividedLead [] v.terms)
    → IsReducedBasis ring.weights N []
empty_basis ring N zeros = record { inside = tt; monic = tt; complete = zeros; apart = tt; sorted = tt }

no_lead : (ts : List (Term Place)) → ts ≡ [] → HasDividedLead [] ts
no_lead [] none = tt
no_lead (t ∷ ts) none = absurd (omega (arith, ap length none))

module _ (ring : Ring) (positive : IsRing ring) (target : List ℤ) where
  abbrev none : Matrix
  none = matrix_of ring target []

  -- a first term would stand in the target, but the values are 0
  graph_lead : (ts : List (Term Place)) → StandsWithin (length target) ts
      → part_terms 0 (length target) ts ≡ [] → HasDividedLead [] ts
  graph_lead [] within value = tt
  graph_lead (t ∷ ts) within value =
      absurd (omega (arith, ap length (sym (part_terms-inside 0 (length target) t ts (omega arith) within.0) ∙ value)))

  graph_none : IsGraphBasis none []
  graph_none =
      empty_basis ring (IsGraphVector none)
      (λ w h. graph_lead w.terms
      (subst (λ n. StandsWithin n w.terms) (length-graph_degrees none ∙ omega arith) (IsWithin-IsVector ring _ w h.vector))
      (h.value ∙ row_combination-no_rows ring positive (coefficient_terms none w.terms)))

  span_none : IsSpanBasis none []
  span_none = empty_basis ring _ (λ v h. no_lead v.terms (span-no_rows ring positive target v h))

  syzygy_none : IsSyzygyBasis none []
  syzygy_none =
      empty_basis ring _
      (λ c h. by_terms c.terms (IsWithin-IsVector ring [] c h.coefficients))
    where
      by_terms : (ts : List (Term Place)) → StandsWithin 0 ts → HasDividedLead [] ts
      by_terms [] within = tt
      by_terms (t ∷ ts) within = absurd (omega (arith, within.0))

  reduction_none : (v : Vector) → IsVector ring target v → IsReduction none v v (zero_vector v.degree)
  reduction_none v vector =
      let zero : row_combination ring [] [] ≡ [] = row_combination-no_rows ring positive [] in
      let nothing = add-negative (place_keys ring.weights) ring.modulus positive.modulus v.terms vector.canonical in
      let difference : combined none (zero_vector v.degree) ≡ vector_difference ring v v =
      λ i. record { degree = v.degree; terms = (zero ∙ sym nothing) i } in
      let sum : vector_sum ring v (combined none (zero_vector v.degree)) ≡ v =
      (λ i. vector_sum ring v (record { degree = v.degree; terms = zero i }))
      ∙ (λ i. record { degree = v.degree; terms = row_sum-nil ring positive.modulus v.terms vector.canonical i }) in
      record {
        vector = vector;
        reduced = record { basis = []; reduced_basis = span_none; reduced = all_reduced v.terms };
        lift = record {
          syzygies = [];
          basis = syzygy_none;
          coefficients = record { canonical = record { descending = tt; residues = tt }; homogeneous = tt };
          value = difference;
          reduced = tt;
        };
        sum = sum;
      }
    where
      all_reduced : (ts : List (Term Place)) → IsReducedBy [] ts
      all_reduced [] = tt
      all_reduced (t ∷ ts) = (refl, all_reduced ts)

module _ (m : Matrix) (positive : IsRing m.ring) (rowless : m.rows ≡ []) where
  same_matrix : matrix_of m.ring m.target [] ≡ m
  same_matrix = λ i. record { ring = m.ring; target = m.target; rows = sym rowless i }

  pub graph_basis-no_rows : IsGraphBasis m []
  graph_basis-no_rows = subst (λ n. IsGraphBasis n []) same_matrix (graph_none m.ring positive m.target)

  pub reduction-no_rows : (v : Vector) → IsVector m.ring m.target v → IsReduction m v v (zero_vector v.degree)
  reduction-no_rows v vector =
      subst (λ n. IsReduction n v v (zero_vector v.degree)) same_matrix (reduction_none m.ring positive m.target v vector)
