-- Pairs of rows with low leads: the room of their least common multiples, and their degrees.
use Rattle.sf_matrix.specs.KeptNumbers.{IsModerate}
use Rattle.std.proofs.Common.{◌≡◌, max, ℕ, ◌+◌, ◌<◌, ◌≤◌, List, [], ◌∷◌, length, sym, ◌∙◌, ap, arith, ℤ, pos, ◌+ℤ◌, ◌-ℤ◌, ◌≤ℤ◌}
use Rattle.std.proofs.lemmas.Int.{ints}
use Rattle.std.proofs.lemmas.Option.{slice_get-get_or}
use Rattle.std.specs.List.{AllByRecursion}
use Rattle.sf_algebra.specs.Bounds.{GREATEST_SUM}
use Rattle.sf_algebra.specs.Divisibility.{lcm}
use Rattle.sf_algebra.specs.MatrixOperations.{row_at}
use Rattle.sf_algebra.specs.Monomials.{Monomial, exponent_sum, monomial_degree}
use Rattle.sf_algebra.specs.Rings.{ones}
use Rattle.sf_algebra.specs.Terms.{Term}
use Rattle.sf_algebra.specs.Vectors.{IsHomogeneous, Place, Vector, generator_degree, place_degree}
use Rattle.sf_algebra.proofs.Basics.Lists.{AllByRecursion-get, AllByRecursion-weaken}
use Rattle.sf_algebra.proofs.Monomials.Weights.{degree_by_ones}
use Rattle.sf_groebner.specs.Criterion.{lcm_place, lead_at, lead_place}
use Rattle.sf_groebner.specs.ReducedBases.{IsMonic}
use Rattle.sf_groebner.specs.Small.{HasLeadUpTo}
use Rattle.sf_groebner.proofs.Constructions.MonicVectors.{AllByRecursion-row_at}
use Rattle.sf_matrix.specs.Bounds.{DegreeFits}

-- the exponents of a least common multiple are at most the sums
pub exponent_sum-lcm : (a b : Monomial) → exponent_sum (lcm a b) ≤ exponent_sum a + exponent_sum b
exponent_sum-lcm a b =
    omega (arith, below a.e1 b.e1, below a.e2 b.e2, below a.e3 b.e3, below a.e4 b.e4, below a.e5 b.e5, below a.e6 b.e6)
  where
    below : (m n : ℕ) → max m n ≤ m + n
    below m n = omega arith

pub low_lead : (rows : List Vector) → AllByRecursion (λ (v : Vector). HasLeadUpTo ones 60 v.terms) rows → (i : ℕ)
    → i < length rows → exponent_sum (lead_at rows i).monomial ≤ 60
low_lead rows h i within =
    first (row_at rows i) (AllByRecursion-row_at (λ d ts. HasLeadUpTo ones 60 ts) rows h i within)
  where
    first : (ts : List (Term Place)) → HasLeadUpTo ones 60 ts → exponent_sum (lead_place ts).monomial ≤ 60
    first [] k = omega arith
    first (t ∷ ts) k = omega (arith, degree_by_ones t.at.monomial, k)

pub low_lcm : (rows : List Vector) → AllByRecursion (λ (v : Vector). HasLeadUpTo ones 60 v.terms) rows → (i j : ℕ)
    → i < length rows → j < length rows → exponent_sum (lcm (lead_at rows i).monomial (lead_at rows j).monomial) ≤ 120
low_lcm rows h i j first second =
    let one = low_lead rows h i first in
    let other = low_lead rows h j second in
    let both = exponent_sum-lcm (lead_at rows i).monomial (lead_at rows j).monomial in
    omega (arith, one, other, both)

-- a row has the degree of its lead
pub degree-lead : (target : List ℤ) (d : ℤ) (ts : List (Term Place)) → IsMonic ts → IsHomogeneous ones target d ts
    → d ≡ generator_degree target (lead_place ts).position +ℤ pos (exponent_sum (lead_place ts).monomial)
degree-lead target d [] monic h = absurd monic
degree-lead target d (t ∷ ts) monic h = h.0.1 ∙ ap (λ n. generator_degree target t.at.position +ℤ pos n) (sym (degree_by_ones t.at.monomial))

-- the degree of a pair, by that of its first row
pub degree-pair : (target : List ℤ) (rows : List Vector) (i j : ℕ) (d e : ℤ) (a b : Monomial)
    → a ≡ (lead_at rows i).monomial → b ≡ lcm (lead_at rows i).monomial (lead_at rows j).monomial
    → IsMonic (row_at rows i) → IsHomogeneous ones target d (row_at rows i)
    → e ≡ (d -ℤ pos (exponent_sum a)) +ℤ pos (exponent_sum b) → e ≡ place_degree ones target (lcm_place (lead_at rows) i j)
degree-pair target rows i j d e a b lead multiple monic h raised =
    raised
    ∙ sums d (generator_degree target (lead_at rows i).position) (exponent_sum a) (exponent_sum (lead_at rows i).monomial) (exponent_sum b)
    (degree-lead target d (row_at rows i) monic h) (ap exponent_sum lead)
    ∙ ap (λ n. generator_degree target (lead_at rows i).position +ℤ pos n)
    (degree_by_ones b ∙ ap (monomial_degree ones) multiple)
  where
    sums : (d g : ℤ) (s t n : ℕ) → d ≡ g +ℤ pos t → s ≡ t → (d -ℤ pos s) +ℤ pos n ≡ g +ℤ pos n
    sums d g s t n h k = omega (arith, ints)

-- where leads are low and the target's degrees moderate, the rows have room
pub low_room : (target : List ℤ) → AllByRecursion IsModerate target → (rows : List Vector)
    → AllByRecursion (λ (v : Vector). IsHomogeneous ones target v.degree v.terms) rows
    → AllByRecursion (λ (v : Vector). IsMonic v.terms) rows
    → AllByRecursion (λ (v : Vector). HasLeadUpTo ones 60 v.terms) rows
    → AllByRecursion (λ (v : Vector). DegreeFits target v.degree) rows
low_room target moderate [] homogeneous monic low = tt
low_room target moderate (v ∷ vs) homogeneous monic low = (
  AllByRecursion-weaken IsModerate (λ (e : ℤ). v.degree ≤ℤ (e +ℤ pos GREATEST_SUM))
      (λ e k. let bound = row v.degree v.terms homogeneous.0 monic.0 low.0 in let least = k.0 in omega (arith, ints, bound, least)) target moderate,
  low_room target moderate vs homogeneous.1 monic.1 low.1,
)
  where
    row : (d : ℤ) (ts : List (Term Place)) → IsHomogeneous ones target d ts → IsMonic ts → HasLeadUpTo ones 60 ts
        → d ≤ℤ pos 30060
    row d [] h k l = absurd k
    row d (t ∷ ts) h k l =
        let most = (AllByRecursion-get IsModerate target t.at.position _ moderate (slice_get-get_or target t.at.position (pos 0) h.0.0)).1 in
        let degree = h.0.1 in
        omega (arith, ints, most, degree, l)
