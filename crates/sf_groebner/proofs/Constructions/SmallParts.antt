-- The values and the syzygies of a small matrix, and the first blocks of a small stack, are small reduced bases.
use Rattle.std.proofs.Common.{◌≡◌, Bool, not, ℕ, ◌+◌, ◌≤◌, List, [], ◌∷◌, ◌++◌, filter, length, map, refl, sym, subst, arith}
use Rattle.std.proofs.lemmas.List.{length-append, length-map}
use Rattle.sf_algebra.specs.Bounds.{GREATEST_SIZE}
use Rattle.sf_algebra.specs.Matrices.{Matrix, IsMatrix, row_degrees}
use Rattle.sf_algebra.specs.MatrixOperations.{part_terms, stacked, vector_part}
use Rattle.sf_algebra.specs.Rings.{Weights, IsRing}
use Rattle.sf_algebra.specs.Terms.{Term}
use Rattle.sf_algebra.specs.Vectors.{Place, Vector}
use Rattle.sf_algebra.proofs.Basics.Filters.{cond_cases}
use Rattle.sf_algebra.proofs.GradedMatrices.PartTerms.{part_terms-inside}
use Rattle.sf_groebner.specs.BasisParts.{syzygies_of, values_of}
use Rattle.sf_groebner.specs.Cuts.{IsFirstBlock, IsFirstPart, first_parts, has_first_part, last_parts}
use Rattle.sf_groebner.specs.MinimalGenerators.{matrix_of}
use Rattle.sf_groebner.specs.Presentations.{IsRelation}
use Rattle.sf_groebner.specs.ReducedBases.{IsReducedBasis}
use Rattle.sf_groebner.specs.Small.{HasLeadUpTo, IsSmall, IsSmallReducedBasis, IsWithinLimit}
use Rattle.sf_groebner.specs.Spans.{InSpan, IsGraphVector, IsSyzygy, graph_degrees}
use Rattle.sf_groebner.proofs.Basics.Items.{AllByRecursion-both, AllByRecursion-filter_map}
use Rattle.sf_groebner.proofs.Constructions.OwnSpans.{reduced-own_span}
use Rattle.sf_groebner.proofs.PartsOfBases.FirstParts.{IsLastPart, first_part, last_part, reduced-first_parts}
use Rattle.sf_groebner.proofs.PartsOfBases.GraphParts.{length-graph_degrees, reduced-span, reduced-syzygies}
use Rattle.sf_groebner.proofs.PartsOfBases.PartLeads.{HasLeadBetween}
use Rattle.sf_groebner.proofs.PartsOfBases.ReducedParts.{HasLeadBetween-kept, IsElement, IsPart, elements}
use Rattle.sf_groebner.proofs.PartsOfBases.Relations.{IsRelation-blocks}
use Rattle.sf_groebner.proofs.Spanning.SameModules.{IsReducedBasis-same}
use Rattle.sf_groebner.proofs.Spanning.SpanCombinations.{relation_submodule, span_submodule, span_submodule_of}
use Rattle.sf_groebner.proofs.Spanning.SyzygyCombinations.{syzygy_submodule}

length-filter : (test : Vector → Bool) (vs : List Vector) → length (filter test vs) ≤ length vs
length-filter test [] = omega arith
length-filter test (v ∷ vs) =
    let rest = length-filter test vs in
    cond_cases (test v) (v ∷ filter test vs) (filter test vs) (λ l. length l ≤ length (v ∷ vs)) (λ e. omega arith) (λ e. omega arith)

low_part : (weights : Weights) (limit from to : ℕ) (ts : List (Term Place)) → HasLeadBetween from to ts
    → HasLeadUpTo weights limit ts → HasLeadUpTo weights limit (part_terms from to ts)
low_part weights limit from to [] between low = absurd between
low_part weights limit from to (t ∷ ts) between low =
    subst (HasLeadUpTo weights limit) (sym (part_terms-inside from to t ts between.0 between.1)) low

-- parts that take the leads along are within a limit where the whole is
pub IsWithinLimit-parts : (from to : ℕ) (keep : Vector → Bool) (N P : Vector → Type 0) → IsPart from to keep N P
    → (weights : Weights) (limit : ℕ) (basis : List Vector) → IsReducedBasis weights N basis
    → IsWithinLimit weights limit basis
    → IsWithinLimit weights limit (map (vector_part from to) (filter keep basis))
IsWithinLimit-parts from to keep N P cut weights limit basis h within = record {
  few =
      let fewer = length-filter keep basis in
      let whole = within.few in
      subst (λ n. n ≤ GREATEST_SIZE) (sym (length-map (filter keep basis) (vector_part from to))) (omega arith);
  low =
      AllByRecursion-filter_map (λ w. IsElement from to keep N P cut w × HasLeadUpTo weights limit w.terms)
      (λ (v : Vector). HasLeadUpTo weights limit v.terms) keep (vector_part from to)
      (λ w k e. low_part weights limit from to w.terms (HasLeadBetween-kept from to keep N P cut w e.0 k) e.1)
      basis
      (AllByRecursion-both (IsElement from to keep N P cut) (λ (w : Vector). HasLeadUpTo weights limit w.terms) _ (λ w a b. (a, b)) basis (elements from to keep N P cut weights basis h) within.low);
}

module _ (limit : ℕ) (m : Matrix) (positive : IsRing m.ring) (basis : List Vector) (small : IsSmall limit m basis) where
  pub small-values : IsMatrix m → IsSmallReducedBasis limit (matrix_of m.ring m.target (values_of m basis))
  small-values matrix =
      let n = length m.target in record {
        reduced =
            reduced-own_span m.ring m.target (InSpan m) (span_submodule m positive matrix)
            (values_of m basis) (reduced-span m positive matrix basis small.reduced) positive;
        columns = small.size.columns;
        within =
            IsWithinLimit-parts 0 n (has_first_part n) (IsGraphVector m) (IsFirstPart n (IsGraphVector m))
            (first_part m.ring (graph_degrees m) (IsGraphVector m) (λ w k. k.vector) n) m.ring.weights
            limit basis small.reduced small.within;
      }

  syzygies-within : IsWithinLimit m.ring.weights limit (syzygies_of m basis)
  syzygies-within =
      let n = length m.target in
      subst (λ end. IsWithinLimit m.ring.weights limit (last_parts n end basis)) (length-graph_degrees m)
      (IsWithinLimit-parts n (length (graph_degrees m)) (λ (w : Vector). not (has_first_part n w)) (IsGraphVector m)
      (IsLastPart m.ring (graph_degrees m) (IsGraphVector m) (λ w k. k.vector) n)
      (last_part m.ring (graph_degrees m) (IsGraphVector m) (λ w k. k.vector) n) m.ring.weights
      limit basis small.reduced small.within)

  pub small-syzygies : IsSmallReducedBasis limit (matrix_of m.ring (row_degrees m) (syzygies_of m basis))
  small-syzygies = record {
    reduced =
        reduced-own_span m.ring (row_degrees m) (IsSyzygy m) (syzygy_submodule m positive)
        (syzygies_of m basis) (reduced-syzygies m positive basis small.reduced) positive;
    columns = subst (λ n. n ≤ GREATEST_SIZE) (sym (length-map m.rows (λ (v : Vector). v.degree))) small.size.rows;
    within = syzygies-within;
  }

-- the first blocks, as relations modulo the span of the others
pub small-first_blocks : (limit : ℕ) (a b : Matrix) → IsRing a.ring → a.ring ≡ b.ring → IsMatrix b
    → (basis : List Vector) → IsSmall limit (stacked a b) basis
    → IsSmallReducedBasis limit
    (matrix_of a.ring (row_degrees a) (first_parts (length a.rows) (syzygies_of (stacked a b) basis)))
small-first_blocks limit a b positive rings matrix basis small =
    let m : Matrix = stacked a b in
    let n = length a.rows in
    let syzygies : List Vector = syzygies_of m basis in
    let reduced = reduced-syzygies m positive basis small.reduced in
    let blocks =
    reduced-first_parts m.ring (row_degrees m) (IsSyzygy m) (λ w k. k.coefficients) n syzygies reduced in
    let relations : IsReducedBasis a.ring.weights (IsRelation a (InSpan b)) (first_parts n syzygies) =
    IsReducedBasis-same a.ring.weights (IsFirstBlock a b) (IsRelation a (InSpan b))
    (λ v. (IsRelation-blocks a b positive rings v).1) (λ v. (IsRelation-blocks a b positive rings v).0)
    (first_parts n syzygies) blocks in
    record {
      reduced =
          reduced-own_span a.ring (row_degrees a) (IsRelation a (InSpan b))
          (relation_submodule a positive b.target (InSpan b) (span_submodule_of a.ring positive b.target b (sym rings) refl matrix))
          (first_parts n syzygies) relations positive;
      columns =
          let rows : length (a.rows ++ b.rows) ≤ GREATEST_SIZE = small.size.rows in
          let size : length (a.rows ++ b.rows) ≡ length a.rows + length b.rows = length-append a.rows b.rows in
          subst (λ k. k ≤ GREATEST_SIZE) (sym (length-map a.rows (λ (v : Vector). v.degree))) (omega arith);
      within =
          IsWithinLimit-parts 0 n (has_first_part n) (IsSyzygy m) (IsFirstPart n (IsSyzygy m))
          (first_part m.ring (row_degrees m) (IsSyzygy m) (λ w k. k.coefficients) n) m.ring.weights
          limit syzygies reduced (syzygies-within limit m positive basis small);
    }
