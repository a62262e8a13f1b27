-- Pairs of rows: where they are settled at the least common multiples of their leads, all pairs of places with one
-- image are.
use Rattle.std.proofs.Common.{◌≡◌, inl, inr, ℕ, ◌<◌, List, sym, ◌∙◌, ap, subst, arith}
use Rattle.std.proofs.lemmas.Bool.{cases_lt}
use Rattle.sf_algebra.specs.Divisibility.{quotient, lcm}
use Rattle.sf_algebra.specs.Monomials.{Monomial, product}
use Rattle.sf_algebra.specs.Multiples.{place_product}
use Rattle.sf_algebra.specs.Rings.{Ring, IsRing}
use Rattle.sf_algebra.specs.Terms.{Term}
use Rattle.sf_algebra.specs.Vectors.{Place}
use Rattle.sf_algebra.proofs.Monomials.Divisors.{product-cancel, exponents_equal, same_monomial}
use Rattle.sf_algebra.proofs.Monomials.Products.{product-comm}
use Rattle.sf_groebner.specs.Criterion.{lead_multiple, lcm_place, pair_place}
use Rattle.sf_groebner.specs.Leads.{PlaceDivides}
use Rattle.sf_groebner.proofs.Basics.PlaceDivisors.{place_product-quotient}
use Rattle.sf_groebner.proofs.PairTheorems.LeadMultiples.{IsAllSettled, IsModule, IsSettled}
use Rattle.sf_groebner.proofs.PairTheorems.Settled.{IsSettled-equal, IsSettled-product, IsSettled-sym, IsSettled-trans}

-- the monomial by which the image of j and k is a multiple of the least common multiple of the leads of their rows
abbrev pub cofactor : (ℕ → Place) → Place → Place → Monomial
cofactor lead j k = quotient (lead_multiple lead j).monomial (lcm (lead j.position).monomial (lead k.position).monomial)

-- the factors of a common multiple, by those of the least one
product-cofactor_first : (a b x y : Monomial) → product x a ≡ product y b
    → product (quotient (product x a) (lcm a b)) (quotient (lcm a b) a) ≡ x
product-cofactor_first a b x y e =
    let p = exponents_equal (product x a) (product y b) e in
    same_monomial _ x (omega (arith, p.0)) (omega (arith, p.1)) (omega (arith, p.2)) (omega (arith, p.3))
    (omega (arith, p.4)) (omega (arith, p.5))

product-cofactor_second : (a b x y : Monomial) → product x a ≡ product y b
    → product (quotient (product x a) (lcm a b)) (quotient (lcm b a) b) ≡ y
product-cofactor_second a b x y e =
    let p = exponents_equal (product x a) (product y b) e in
    same_monomial _ y (omega (arith, p.0)) (omega (arith, p.1)) (omega (arith, p.2)) (omega (arith, p.3))
    (omega (arith, p.4)) (omega (arith, p.5))

product-quotient_lcm : (a b : Monomial) → product (quotient (lcm a b) a) a ≡ lcm a b
product-quotient_lcm a b =
    same_monomial _ (lcm a b) (omega arith) (omega arith) (omega arith) (omega arith) (omega arith) (omega arith)

pub lcm-comm : (a b : Monomial) → lcm a b ≡ lcm b a
lcm-comm a b =
    same_monomial _ (lcm b a) (omega arith) (omega arith) (omega arith) (omega arith) (omega arith) (omega arith)

module _ (lead : ℕ → Place) where
  pub lead_multiple-pair_place : (i j : ℕ) → lead_multiple lead (pair_place lead i j) ≡ lcm_place lead i j
  lead_multiple-pair_place i j = λ k. record { position = (lead i).position; monomial = product-quotient_lcm (lead i).monomial (lead j).monomial k }

  pub lcm_place-comm : (i j : ℕ) → (lead i).position ≡ (lead j).position → lcm_place lead i j ≡ lcm_place lead j i
  lcm_place-comm i j e = λ k. record { position = e k; monomial = lcm-comm (lead i).monomial (lead j).monomial k }

  module _ (j k : Place) (e : lead_multiple lead j ≡ lead_multiple lead k) where
    -- the leads of rows with one image stand at one position
    pub same_lead_position : (lead j.position).position ≡ (lead k.position).position
    same_lead_position = ap (λ l. l.position) e

    pub place_product-pair_place_first : place_product (cofactor lead j k) (pair_place lead j.position k.position) ≡ j
    place_product-pair_place_first =
        λ i. record {
          position =
              j.position;
          monomial = product-cofactor_first (lead j.position).monomial
              (lead k.position).monomial j.monomial k.monomial (ap (λ l. l.monomial) e) i;
        }

    pub place_product-pair_place_second : place_product (cofactor lead j k) (pair_place lead k.position j.position) ≡ k
    place_product-pair_place_second =
        λ i. record {
          position =
              k.position;
          monomial = product-cofactor_second (lead j.position).monomial
              (lead k.position).monomial j.monomial k.monomial (ap (λ l. l.monomial) e) i;
        }

    -- one row has one place for an image
    pub lead_multiple-one_row : j.position ≡ k.position → j ≡ k
    lead_multiple-one_row same =
        let monomials : j.monomial ≡ k.monomial =
        product-cancel (lead k.position).monomial j.monomial k.monomial
        (product-comm (lead k.position).monomial j.monomial
        ∙ ap (λ n. product j.monomial (lead n).monomial) (sym same)
        ∙ ap (λ l. l.monomial) e
        ∙ product-comm k.monomial (lead k.position).monomial) in
        λ i. record { position = same i; monomial = monomials i }

module _ (ring : Ring) (S : List (Term Place) → Type 0) (is_module : IsModule ring.modulus S) (In : Place → Type 0)
    (lead : ℕ → Place) where
  -- a pair of places, by the pair of their rows
  pub settled_pair : (j k : Place) → lead_multiple lead j ≡ lead_multiple lead k
      → IsSettled ring (λ u. In (place_product (cofactor lead j k) u)) lead S (pair_place lead j.position k.position)
      (pair_place lead k.position j.position)
      → IsSettled ring In lead S j k
  settled_pair j k e h =
      subst (λ l. IsSettled ring In lead S l k) (place_product-pair_place_first lead j k e)
      (subst (IsSettled ring In lead S (place_product (cofactor lead j k) (pair_place lead j.position k.position))) (place_product-pair_place_second lead j k e)
      (IsSettled-product ring S is_module In lead (cofactor lead j k) (pair_place lead j.position k.position) (pair_place lead k.position j.position) h))

  -- all pairs of places, by the pairs of an earlier and a later row
  pub settled_pairs : IsRing ring
      → ((j k : Place) → In j → In k → lead_multiple lead j ≡ lead_multiple lead k → j.position < k.position
      → IsSettled ring (λ u. In (place_product (cofactor lead j k) u)) lead S (pair_place lead j.position k.position)
      (pair_place lead k.position j.position))
      → IsAllSettled ring In lead S
  settled_pairs positive pairs j k j_in k_in e =
      elim (cases_lt j.position k.position) [
        | inl earlier ↦ settled_pair j k e (pairs j k j_in k_in e earlier)
        | inr not_earlier ↦ elim (cases_lt k.position j.position) [
          | inl later ↦ IsSettled-sym ring S is_module In lead positive k j (sym e)
              (settled_pair k j (sym e) (pairs k j k_in j_in (sym e) later))
          | inr not_later ↦ IsSettled-equal ring S is_module In lead j k
              (lead_multiple-one_row lead j k e (omega arith))
        ]
      ]

-- the chain criterion: a pair is settled where the lead of a row divides its least common multiple, and its pairs with
-- that row are settled
pub IsSettled-chain : (ring : Ring) (S : List (Term Place) → Type 0) → IsModule ring.modulus S
    → (In : ℕ → Type 0) (lead : ℕ → Place) (i j k : ℕ)
    → (lead i).position ≡ (lead k).position → PlaceDivides (lead j) (lcm_place lead i k)
    → IsSettled ring (λ u. In u.position) lead S (pair_place lead i j) (pair_place lead j i)
    → IsSettled ring (λ u. In u.position) lead S (pair_place lead j k) (pair_place lead k j)
    → IsSettled ring (λ u. In u.position) lead S (pair_place lead i k) (pair_place lead k i)
IsSettled-chain ring S is_module In lead i j k positions divides first second =
    IsSettled-trans ring S is_module (λ u. In u.position) lead start middle end (multiple_middle ∙ sym multiple_end)
    (settled_pair ring S is_module (λ u. In u.position) lead start middle (lead_multiple-pair_place lead i k ∙ sym multiple_middle) first)
    (settled_pair ring S is_module (λ u. In u.position) lead middle end (multiple_middle ∙ sym multiple_end) second)
  where
    start : Place
    start = pair_place lead i k

    end : Place
    end = pair_place lead k i

    middle : Place
    middle = record { position = j; monomial = quotient (lcm_place lead i k).monomial (lead j).monomial }

    multiple_middle : lead_multiple lead middle ≡ lcm_place lead i k
    multiple_middle = place_product-quotient (lead j) (lcm_place lead i k) divides

    multiple_end : lead_multiple lead end ≡ lcm_place lead i k
    multiple_end = lead_multiple-pair_place lead k i ∙ sym (lcm_place-comm lead i k positions)

-- either order of the pair of two rows
pub IsSettled-turn : (ring : Ring) → IsRing ring → (S : List (Term Place) → Type 0) → IsModule ring.modulus S
    → (In : Place → Type 0) (lead : ℕ → Place) (i j : ℕ) → (lead i).position ≡ (lead j).position
    → IsSettled ring In lead S (pair_place lead i j) (pair_place lead j i)
    → IsSettled ring In lead S (pair_place lead j i) (pair_place lead i j)
IsSettled-turn ring positive S is_module In lead i j positions h =
    IsSettled-sym ring S is_module In lead positive (pair_place lead i j) (pair_place lead j i)
    (lead_multiple-pair_place lead i j ∙ lcm_place-comm lead i j positions ∙ sym (lead_multiple-pair_place lead j i)) h
