-- Whether a degree is among those of a list, and the degree of a pair by that of its later row.
use Rattle.std.proofs.Common.{◌≡◌, true, ℕ, ◌<◌, List, length, get_or, slice_get, Some, [], ◌∷◌, ap, sym, ◌∙◌, subst, ℤ, pos, ◌+ℤ◌, ◌-ℤ◌}
use Rattle.std.specs.Ordering.{int_eq}
use Rattle.std.specs.Prelude.{Contains}
use Rattle.std.proofs.lemmas.Bool.Decides.{Decides-int_eq}
use Rattle.sf_algebra.specs.Divisibility.{lcm}
use Rattle.sf_algebra.specs.Matrices.{Matrix}
use Rattle.sf_algebra.specs.Monomials.{Monomial, exponent_sum}
use Rattle.sf_algebra.specs.Rings.{ones}
use Rattle.sf_algebra.specs.Vectors.{IsHomogeneous, Place, Vector, place_degree}
use Rattle.sf_algebra.specs.Terms.{Term}
use Rattle.sf_algebra.specs.MatrixOperations.{row_at}
use Rattle.sf_buchberger.proofs.Starts.{row_vector-read}
use Rattle.sf_algebra.proofs.Basics.Lists.{AllByRecursion-get}
use Rattle.sf_groebner.specs.Criterion.{IsPair, lead_at, lead_place}
use Rattle.sf_groebner.specs.ReducedBases.{IsMonic}
use Rattle.sf_groebner.specs.Spans.{IsGraphVector, graph_degrees}
use Rattle.sf_counting.specs.CountLaws.{AreGraphRows, pair_degree}
use Rattle.sf_buchberger.proofs.QueuedPairs.{degree-lcm_with}

-- a number that is equal to one of a list
pub Contains-equal : (xs : List ℤ) (d x : ℤ) → d ≡ x
    → (k : ℕ) × (k < length xs) × ((y : ℤ) → int_eq (get_or xs k y) d ≡ true) → Contains xs x
Contains-equal xs d x same found =
    subst (Contains xs) same (found.0, found.1, (Decides-int_eq (get_or xs found.0 d) d).0 (found.2 d))

-- a row whose coefficient at the lead is 1 has the degree of its lead
pub lead_degree : (m : Matrix) → m.ring.weights ≡ ones → (v : Vector) → IsGraphVector m v → IsMonic v.terms
    → v.degree ≡ place_degree ones (graph_degrees m) (lead_place v.terms)
lead_degree m weights v inside monic =
    of_terms v.terms monic (subst (λ w. IsHomogeneous w (graph_degrees m) v.degree v.terms) weights inside.vector.homogeneous)
  where
    of_terms : (ts : List (Term Place)) → IsMonic ts → IsHomogeneous ones (graph_degrees m) v.degree ts
        → v.degree ≡ place_degree ones (graph_degrees m) (lead_place ts)
    of_terms [] monic h = absurd monic
    of_terms (t ∷ ts) monic h = h.0.1

-- the degree of a pair, by that of its later row
pub pair_degree-later : (n : ℕ) (m : Matrix) → m.ring.weights ≡ ones → (rows : List Vector) → AreGraphRows n m rows
    → (i j : ℕ) → IsPair rows i j → (v : Vector) → slice_get rows j ≡ Some v → (e : ℤ) (a b : Monomial)
    → a ≡ lcm (lead_at rows i).monomial (lead_at rows j).monomial → b ≡ (lead_at rows j).monomial
    → e ≡ (v.degree -ℤ pos (exponent_sum b)) +ℤ pos (exponent_sum a) → e ≡ pair_degree m rows i j
pair_degree-later n m weights rows g i j pair v read e a b multiple own degree =
    let terms : v.terms ≡ row_at rows j = sym (ap (λ (w : Vector). w.terms) (row_vector-read rows j v read)) in
    let inside : IsGraphVector m v = AllByRecursion-get (IsGraphVector m) rows j v g.inside read in
    let monic : IsMonic v.terms = AllByRecursion-get (λ (w : Vector). IsMonic w.terms) rows j v g.monic read in
    let first : v.degree ≡ place_degree ones (graph_degrees m) (lead_at rows j) =
    lead_degree m weights v inside monic ∙ ap (λ ts. place_degree ones (graph_degrees m) (lead_place ts)) terms in
    degree-lcm_with (graph_degrees m) rows (lead_at rows j) i v.degree e a b multiple own first degree
    ∙ (λ k. place_degree (sym weights k) (graph_degrees m) (record {
      position = sym pair.positions k;
      monomial = lcm (lead_at rows i).monomial (lead_at rows j).monomial;
    }))
