-- Vectors of one degree of a graph, over n variables: 0, sums, multiples by constants, and the multiple of a row that takes
-- its lead to a place.
use Rattle.std.proofs.Common.{◌≡◌, ℕ, ◌<◌, List, [], ◌∷◌, length, map, refl, sym, ◌∙◌, subst, arith, ℤ}
use Rattle.std.proofs.Math.Nat.{mod-eq_of_lt}
use Rattle.std.proofs.lemmas.Int.{ints}
use Rattle.std.specs.List.{AllByRecursion}
use Rattle.sf_algebra.specs.Divisibility.{quotient}
use Rattle.sf_algebra.specs.Matrices.{Matrix, IsMatrix}
use Rattle.sf_algebra.specs.MatrixOperations.{row_at}
use Rattle.sf_algebra.specs.Monomials.{Monomial, one}
use Rattle.sf_algebra.specs.Multiples.{place_product, term_product}
use Rattle.sf_algebra.specs.Rings.{IsRing, IsOverField}
use Rattle.sf_algebra.specs.Terms.{Term, IsNonzeroResidue}
use Rattle.sf_algebra.specs.VectorOperations.{row_multiple, row_sum}
use Rattle.sf_algebra.specs.Vectors.{Place, Vector}
use Rattle.sf_algebra.proofs.Arithmetic.Residues.{product_mod-comm, product_mod-one}
use Rattle.sf_algebra.proofs.Monomials.Weights.{field_ring}
use Rattle.sf_algebra.proofs.Multiplying.Keys.{place_keys}
use Rattle.sf_algebra.proofs.Multiplying.MultipleLaws.{multiple-one}
use Rattle.sf_algebra.proofs.Multiplying.PrimeMultiples.{multiple-map}
use Rattle.sf_algebra.proofs.Vectors.HomogeneousVectors.{IsVector-nil}
use Rattle.sf_algebra.proofs.Vectors.Rows.{row_combination-cons, row_combination-nil, row_combination-one}
use Rattle.sf_groebner.specs.Criterion.{lead_at}
use Rattle.sf_groebner.specs.Divisions.{step}
use Rattle.sf_groebner.specs.Leads.{PlaceDivides}
use Rattle.sf_groebner.specs.Spans.{graph_degrees}
use Rattle.sf_groebner.proofs.Constructions.MonicVectors.{IsTermOfDegree-step, monic_row}
use Rattle.sf_groebner.proofs.PairTheorems.Multiplied.{constant_term}
use Rattle.sf_variables.specs.Columns.{IsColumn}
use Rattle.sf_variables.proofs.Keeping.Monomials.{IsInVariables-one, IsInVariables-quotient}
use Rattle.sf_counting.specs.CountLaws.{AreGraphRows}
use Rattle.sf_counting.proofs.Counting.GraphLeads.{InGraph, InGraph-combination, graph_monic}
use Rattle.sf_dense.specs.Walks.{times_monomial}

-- a monomial with the coefficient 1, times residues
map-times_monomial : (p : ℕ) (a : Monomial) (ts : List (Term Place)) → AllByRecursion (IsNonzeroResidue p) ts
    → map (term_product place_product p (record { at = a; coefficient = 1 })) ts ≡ map (times_monomial a) ts
map-times_monomial p a [] h = refl
map-times_monomial p a (t ∷ ts) h =
    let kept = product_mod-comm p 1 t.coefficient ∙ product_mod-one p t.coefficient ∙ mod-eq_of_lt h.0.1 in
    λ i. record { at = place_product a t.at; coefficient = kept i } ∷ map-times_monomial p a ts h.1 i

module _ (n : ℕ) (m : Matrix) (prime : IsOverField m.ring) (matrix : IsMatrix m) (d : ℤ) where
  positive : IsRing m.ring
  positive = field_ring prime

  -- the coefficient for the vector at a position
  abbrev coefficient_for : ℕ → ℕ → Term Place
  coefficient_for i x = record { at = record { position = i; monomial = one }; coefficient = x }

  pub InGraph-nil : InGraph n m d []
  InGraph-nil = (
    record {
      vector = IsVector-nil m.ring (graph_degrees m) d;
      value = sym (row_combination-nil m.ring positive.modulus m.rows);
    },
    tt,
  )

  pub InGraph-constant : (x : ℕ) (ts : List (Term Place)) → InGraph n m d ts
      → InGraph n m d (row_multiple m.ring (constant_term x) ts)
  InGraph-constant x ts h =
      let rows : List Vector = record { degree = d; terms = ts } ∷ [] in
      subst (InGraph n m d) (row_combination-one m.ring positive.modulus rows (coefficient_for 0 x))
      (InGraph-combination n m prime matrix rows (h.0, tt) (h.1, tt) d (coefficient_for 0 x ∷ []) ((omega arith, omega (arith, ints)), tt) (IsInVariables-one n, tt))

  pub InGraph-sum : (us vs : List (Term Place)) → InGraph n m d us → InGraph n m d vs
      → InGraph n m d (row_sum m.ring us vs)
  InGraph-sum us vs h k =
      let rows : List Vector =
      record { degree = d; terms = us } ∷ (record { degree = d; terms = vs } ∷ []) in
      let c : List (Term Place) = coefficient_for 0 1 ∷ (coefficient_for 1 1 ∷ []) in
      subst (InGraph n m d)
      (row_combination-cons m.ring positive.modulus rows (coefficient_for 0 1) (coefficient_for 1 1 ∷ [])
      ∙ (λ i. row_sum m.ring (once us h i) ((row_combination-one m.ring positive.modulus rows (coefficient_for 1 1) ∙ once vs k) i)))
      (InGraph-combination n m prime matrix rows (h.0, (k.0, tt)) (h.1, (k.1, tt)) d c
      ((omega arith, omega (arith, ints)), ((omega arith, omega (arith, ints)), tt))
      (IsInVariables-one n, (IsInVariables-one n, tt)))
    where
      once : (ts : List (Term Place)) → InGraph n m d ts → row_multiple m.ring (constant_term 1) ts ≡ ts
      once ts h = multiple-one (place_keys m.ring.weights) m.ring.modulus positive.modulus ts h.0.vector.canonical

  -- the multiple of a row that takes its lead to a place
  pub InGraph-times_quotient : (rows : List Vector) → AreGraphRows n m rows → (k : Place)
      → IsColumn m.ring.weights n (graph_degrees m) d k → (i : ℕ) → i < length rows → PlaceDivides (lead_at rows i) k
      → InGraph n m d (map (times_monomial (quotient k.monomial (lead_at rows i).monomial)) (row_at rows i))
  InGraph-times_quotient rows g k column i within divides =
      let t : Term Place = record { at = k; coefficient = 1 } in
      let a : Monomial = quotient k.monomial (lead_at rows i).monomial in
      let monic = graph_monic n m prime matrix rows g in
      let canonical = (monic_row m.ring (graph_degrees m) rows monic i within).vector.canonical in
      subst (InGraph n m d)
      (row_combination-one m.ring positive.modulus rows (step rows i t)
      ∙ multiple-map (place_keys m.ring.weights) m.ring.modulus (record { at = a; coefficient = 1 }) prime.prime
      (omega arith, prime.prime.above_one) (row_at rows i) canonical
      ∙ map-times_monomial m.ring.modulus a (row_at rows i) canonical.residues)
      (InGraph-combination n m prime matrix rows g.inside g.variables d (step rows i t ∷ [])
      (IsTermOfDegree-step m.ring (graph_degrees m) rows monic i within d t divides (column.generator, column.degree), tt)
      (IsInVariables-quotient n k.monomial (lead_at rows i).monomial column.variables, tt))
