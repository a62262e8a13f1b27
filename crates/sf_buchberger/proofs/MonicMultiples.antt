-- Rests that are made monic, and the room that least common multiples of low leads have.
use Rattle.std.proofs.Common.{◌≡◌, ◌↔◌, inl, inr, Bool, true, false, IsTrue, ℕ, ◌+◌, ◌<◌, ◌≤◌, max, List, [], ◌∷◌, sym, ◌∙◌, ap, subst, arith, ℤ, pos, ◌+ℤ◌, ◌≤ℤ◌}
use Rattle.std.specs.List.{AllByRecursion}
use Rattle.std.proofs.lemmas.Bool.{cases_lt}
use Rattle.std.proofs.lemmas.Int.{ints}
use Rattle.std.proofs.lemmas.Option.{slice_get-get_or}
use Rattle.sf_algebra.specs.Bounds.{GREATEST_SUM}
use Rattle.sf_algebra.specs.Divisibility.{lcm}
use Rattle.sf_algebra.specs.Monomials.{Monomial, exponent_sum, monomial_degree, one}
use Rattle.sf_algebra.specs.Multiples.{multiple, place_product}
use Rattle.sf_algebra.specs.Residues.{product_mod}
use Rattle.sf_algebra.specs.Rings.{Ring, ones, plain}
use Rattle.sf_algebra.specs.Terms.{Term, IsCanonical, IsNonzeroResidue}
use Rattle.sf_algebra.specs.VectorOperations.{row_multiple}
use Rattle.sf_algebra.specs.Vectors.{Place, Vector, IsHomogeneous, IsVector, generator_degree, place_cmp, place_degree}
use Rattle.sf_algebra.proofs.Basics.Lists.{AllByRecursion-get, AllByRecursion-weaken}
use Rattle.sf_algebra.proofs.Monomials.Weights.{degree_by_ones}
use Rattle.sf_algebra.proofs.Vectors.HomogeneousVectors.{IsVector-multiple}
use Rattle.sf_groebner.specs.Criterion.{lead_place}
use Rattle.sf_groebner.specs.Divisions.{tail_of}
use Rattle.sf_groebner.specs.Small.{HasLeadUpTo}
use Rattle.sf_groebner.proofs.PairTheorems.Multiplied.{constant_term}
use Rattle.sf_matrix.specs.Bounds.{DegreeFits, HasRoom}
use Rattle.sf_buchberger.specs.GrowthSteps.{IsMadeMonic, IsPastBounds, PairsFit}

-- the exponents of a least common multiple are at most the sums
pub exponent_sum-lcm : (a b : Monomial) → exponent_sum (lcm a b) ≤ exponent_sum a + exponent_sum b
exponent_sum-lcm a b =
    omega (arith, below a.e1 b.e1, below a.e2 b.e2, below a.e3 b.e3, below a.e4 b.e4, below a.e5 b.e5, below a.e6 b.e6)
  where
    below : (m n : ℕ) → max m n ≤ m + n
    below m n = omega arith

-- a lead that is not past the bounds is within the limit
pub within_limit : (limit : ℕ) (rows : List Vector) (lead : Place) (b : Bool) → (IsTrue b ↔ IsPastBounds limit rows lead)
    → b ≡ false → exponent_sum lead.monomial ≤ limit
within_limit limit rows lead b past not_past =
    elim (cases_lt limit (exponent_sum lead.monomial)) [
      | inl above ↦ let is_past : b ≡ true = past.1 (inl above) in cc
      | inr not_above ↦ not_above
    ]

-- where leads are low, their least common multiples with a low place have room
pub PairsFit-low : (limit : ℕ) (rows : List Vector) (lead : Place) → limit ≤ 60 → exponent_sum lead.monomial ≤ limit
    → AllByRecursion (λ (v : Vector). HasLeadUpTo ones limit v.terms) rows → PairsFit rows lead
PairsFit-low limit rows lead bound low each = AllByRecursion-weaken _ _ (λ v h. fits v.terms h) rows each
  where
    sums : (n a b : ℕ) → n ≤ a + b → a ≤ limit → b ≤ limit → n ≤ GREATEST_SUM
    sums n a b h k l = omega (arith, bound)

    fits : (ts : List (Term Place)) → HasLeadUpTo ones limit ts
        → exponent_sum (lcm (lead_place ts).monomial lead.monomial) ≤ GREATEST_SUM
    fits [] h =
        sums _ (exponent_sum one) (exponent_sum lead.monomial) (exponent_sum-lcm one lead.monomial) (omega arith) low
    fits (t ∷ ts) h =
        sums _ (exponent_sum t.at.monomial) (exponent_sum lead.monomial) (exponent_sum-lcm t.at.monomial lead.monomial)
        (subst (λ n. n ≤ limit) (sym (degree_by_ones t.at.monomial)) h) low

module _ (p : ℕ) (ring : Ring) (same : ring ≡ plain p) (target : List ℤ) (v : Vector) (h : IsVector ring target v) where
  vector : IsVector (plain p) target v
  vector = subst (λ (r : Ring). IsVector r target v) same h

  pub IsCanonical-plain : IsCanonical (place_cmp ones) p v.terms
  IsCanonical-plain = vector.canonical

  -- products with 1 have room
  pub HasRoom-one : DegreeFits target v.degree → HasRoom one v.terms
  HasRoom-one bound =
      AllByRecursion-weaken _ _
      (λ t e. below t.at.monomial v.degree (generator_degree target t.at.position) e.1 (AllByRecursion-get _ target t.at.position _ bound (slice_get-get_or target t.at.position (pos 0) e.0)))
      v.terms vector.homogeneous
    where
      below : (a : Monomial) (d e : ℤ) → d ≡ e +ℤ pos (monomial_degree ones a) → d ≤ℤ (e +ℤ pos GREATEST_SUM)
          → exponent_sum one + exponent_sum a ≤ GREATEST_SUM
      below a d e degree bound = omega (arith, ints, degree_by_ones a)

  module _ (t : Term Place) (first : v.terms ≡ t ∷ tail_of v.terms) where
    pub lead_residue : IsNonzeroResidue p t
    lead_residue = (subst (AllByRecursion (IsNonzeroResidue p)) first vector.canonical.residues).0

    -- the degree is that of the lead
    pub lead_degree : v.degree ≡ place_degree ones target t.at
    lead_degree = (subst (IsHomogeneous ones target v.degree) first vector.homogeneous).0.1

    -- the multiple by the inverse of the coefficient of the lead
    module _ (y : ℕ) (w : Vector)
        (made : w ≡ record { degree = v.degree +ℤ pos (exponent_sum one); terms = multiple (place_cmp ones) place_product p (record { at = one; coefficient = y }) v.terms }) where
      no_more : (d : ℤ) → d +ℤ pos (exponent_sum one) ≡ d
      no_more d = omega (arith, ints)

      pub IsMadeMonic-multiple : y < p → product_mod p t.coefficient y ≡ 1 → IsMadeMonic ring t v w
      IsMadeMonic-multiple residue product =
          subst (λ (r : Ring). IsMadeMonic r t v w) (sym same)
          (record {
            inverse = y;
            residue = residue;
            product = product;
            vector = made ∙ (λ i. record { degree = no_more v.degree i; terms = row_multiple (plain p) (constant_term y) v.terms });
          })

      pub IsVector-made : 0 < p → IsVector ring target w
      IsVector-made positive =
          subst (λ (r : Ring). IsVector r target w) (sym same)
          (subst (IsVector (plain p) target) (sym made)
          (IsVector-multiple (plain p) target positive v.degree (constant_term y) v.terms vector))

      pub made_degree : w.degree ≡ place_degree ones target t.at
      made_degree = ap (λ (u : Vector). u.degree) made ∙ no_more v.degree ∙ lead_degree
