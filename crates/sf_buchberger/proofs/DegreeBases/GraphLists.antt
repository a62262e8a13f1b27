-- Sums and entries over the places of one degree that stand for vectors of a graph: sums of 0, sums with a multiple of such
-- entries added, what is read off from sums, multiples of rows, and the rows that generate the graph.
use Rattle.std.proofs.Common.{◌≡◌, ℕ, ◌<◌, List, [], ◌∷◌, length, map, refl, sym, ◌∙◌, ap, subst, arith, ℤ, Some, slice_get}
use Rattle.std.specs.Prelude.{replicate}
use Rattle.std.proofs.lemmas.List.{length-set}
use Rattle.sf_algebra.specs.Divisibility.{quotient}
use Rattle.sf_algebra.specs.Matrices.{Matrix, IsMatrix}
use Rattle.sf_algebra.specs.MatrixOperations.{row_at}
use Rattle.sf_algebra.specs.Monomials.{one}
use Rattle.sf_algebra.specs.Multiples.{place_product, multiple}
use Rattle.sf_algebra.specs.Rings.{IsOverField, ones}
use Rattle.sf_algebra.specs.Sums.{add}
use Rattle.sf_algebra.specs.Terms.{Term}
use Rattle.sf_algebra.specs.VectorOperations.{row_multiple}
use Rattle.sf_algebra.specs.Vectors.{Place, Vector, place_cmp}
use Rattle.sf_algebra.proofs.Basics.Lists.{AllByRecursion-get, AllByRecursion-weaken}
use Rattle.sf_algebra.proofs.GradedMatrices.Columns.{AllByRecursion-always}
use Rattle.sf_algebra.proofs.Monomials.Places.{place_product-one}
use Rattle.sf_algebra.proofs.Monomials.Weights.{field_ring}
use Rattle.sf_groebner.specs.Criterion.{lead_at}
use Rattle.sf_groebner.specs.GraphRows.{graph_matrix}
use Rattle.sf_groebner.specs.Leads.{PlaceDivides}
use Rattle.sf_groebner.specs.Spans.{IsGraphVector, graph_degrees}
use Rattle.sf_groebner.proofs.PairTheorems.Multiplied.{constant_term}
use Rattle.sf_groebner.proofs.Spanning.GraphMatrices.{graph_matrix-generators}
use Rattle.sf_variables.specs.Columns.{AreFalling, IsColumn}
use Rattle.sf_variables.specs.Variables.{AreInVariables, IsMatrixInVariables, IsVectorInVariables}
use Rattle.sf_counting.specs.CountLaws.{AreGraphRows}
use Rattle.sf_counting.specs.Counts.{AreGraphColumns}
use Rattle.sf_counting.proofs.Counting.CountedBases.{with_units-each}
use Rattle.sf_counting.proofs.Counting.GraphLeads.{InGraph}
use Rattle.sf_dense.specs.Entries.{Entry, added, dense, placed}
use Rattle.sf_dense.specs.MonicEntries.{AreMonicEntries, AreWithin}
use Rattle.sf_dense.specs.Walks.{times_monomial}
use Rattle.sf_dense.proofs.DenseSums.Additions.{dense-added, dense-zero}
use Rattle.sf_dense.proofs.DenseSums.ReadOut.{placed-monic_entries}
use Rattle.sf_buchberger.specs.Eliminations.{IsGraphList}
use Rattle.sf_buchberger.proofs.DegreeBases.GraphSums.{InGraph-constant, InGraph-nil, InGraph-sum, InGraph-times_quotient}

-- an addition keeps the number of sums
pub length-added : (a : ℕ) (es : List Entry) (cs : List ℕ) → length (added a cs es) ≡ length cs
unfolding added
length-added a [] cs = refl
length-added a (e ∷ es) cs = length-added a es _ ∙ length-set cs e.cell _

-- the monomial 1 times terms
times_monomial-one : (ts : List (Term Place)) → map (times_monomial one) ts ≡ ts
times_monomial-one [] = refl
times_monomial-one (t ∷ ts) =
    λ i. record { at = place_product-one t.at i; coefficient = t.coefficient } ∷ times_monomial-one ts i

-- the rows that generate the graph are over the variables of the matrix
AreInVariables-graph_matrix : (n : ℕ) (m : Matrix) → IsMatrixInVariables n m → AreInVariables n (graph_matrix m).rows
AreInVariables-graph_matrix n m over =
    AllByRecursion-weaken (λ (v : Vector). IsVectorInVariables n v × Unit {0}) (IsVectorInVariables n) (λ v h. h.0)
    (graph_matrix m).rows
    (with_units-each n (λ d. Unit {0}) (length m.target) m.rows over
    (AllByRecursion-always (λ v. Unit {0}) (λ v. tt) m.rows))

module _ (n : ℕ) (m : Matrix) (prime : IsOverField m.ring) (matrix : IsMatrix m) (d : ℤ) (ks : List Place)
    (columns : AreGraphColumns n m d ks) where
  -- entries of the multiple of a row that takes its lead to a place
  pub IsGraphList-multiple : (rows : List Vector) → AreGraphRows n m rows → (k : Place)
      → IsColumn m.ring.weights n (graph_degrees m) d k → (i : ℕ) → i < length rows → PlaceDivides (lead_at rows i) k
      → (es : List Entry)
      → placed ks es ≡ map (times_monomial (quotient k.monomial (lead_at rows i).monomial)) (row_at rows i)
      → AreWithin (length ks) es → IsGraphList n m d ks es
  IsGraphList-multiple rows g k column i within divides es same inside = record {
    inside = subst (InGraph n m d) (sym same) (InGraph-times_quotient n m prime matrix d rows g k column i within divides);
    within = inside;
  }

  -- entries of a row that generates the graph
  pub IsGraphList-generator : IsMatrixInVariables n m → (k : ℕ) (v : Vector) → slice_get (graph_matrix m).rows k ≡ Some v
      → v.degree ≡ d → (es : List Entry) → placed ks es ≡ map (times_monomial one) v.terms → AreWithin (length ks) es
      → IsGraphList n m d ks es
  IsGraphList-generator over k v read degree es same inside =
      let generate = graph_matrix-generators m (field_ring prime) prime.prime.above_one matrix in
      let own : InGraph n m v.degree v.terms = (
        AllByRecursion-get (IsGraphVector m) (graph_matrix m).rows k v generate.inside read,
        AllByRecursion-get (IsVectorInVariables n) (graph_matrix m).rows k v (AreInVariables-graph_matrix n m over) read,
      ) in record {
        inside = subst (InGraph n m d) (sym (same ∙ times_monomial-one v.terms)) (subst (λ e. InGraph n m e v.terms) degree own);
        within = inside;
      }

  module _ (weights : m.ring.weights ≡ ones) where
    positive : 0 < m.ring.modulus
    positive = omega (arith, prime.prime.above_one)

    pub InGraph-dense_zero : (k : ℕ) → InGraph n m d (dense m.ring.modulus ks (replicate k 0))
    InGraph-dense_zero k =
        subst (InGraph n m d) (sym (dense-zero m.ring.modulus positive ks k)) (InGraph-nil n m prime matrix d)

    module _ (cs : List ℕ) (size : length cs ≡ length ks) (sum : InGraph n m d (dense m.ring.modulus ks cs)) where
      pub InGraph-dense_added : (a : ℕ) (es : List Entry) → IsGraphList n m d ks es
          → InGraph n m d (dense m.ring.modulus ks (added a cs es))
      InGraph-dense_added a es h =
          subst (InGraph n m d)
          (ap (λ w. add (place_cmp w) m.ring.modulus (multiple (place_cmp w) place_product m.ring.modulus (constant_term a) (placed ks es)) (dense m.ring.modulus ks cs)) weights
          ∙ sym (dense-added m.ring.modulus positive ks a cs es (sym size) h.within))
          (InGraph-sum n m prime matrix d (row_multiple m.ring (constant_term a) (placed ks es)) (dense m.ring.modulus ks cs)
          (InGraph-constant n m prime matrix d a (placed ks es) h.inside)
          sum)

      -- what is read off
      pub IsGraphList-monic : (es : List Entry) → AreMonicEntries m.ring.modulus cs es → AreWithin (length cs) es
          → IsGraphList n m d ks es
      IsGraphList-monic es read inside =
          let falling : AreFalling ones ks = subst (λ w. AreFalling w ks) weights columns.falling in record {
            inside =
                subst (InGraph n m d)
                (ap (λ w. multiple (place_cmp w) place_product m.ring.modulus (constant_term read.inverse) (dense m.ring.modulus ks cs)) weights
                ∙ sym (placed-monic_entries m.ring.modulus prime.prime ks cs es falling (sym size) read))
                (InGraph-constant n m prime matrix d read.inverse (dense m.ring.modulus ks cs) sum);
            within = subst (λ l. AreWithin l es) size inside;
          }
