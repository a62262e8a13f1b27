-- Settled pairs of places: each place with itself, either order, one pair after another, and multiples.
use Rattle.std.proofs.Common.{◌≡◌, ℕ, List, [], ◌++◌, map, subst, sym, ◌∙◌, ap}
use Rattle.std.proofs.lemmas.List.{map-append}
use Rattle.sf_algebra.specs.Monomials.{Monomial}
use Rattle.sf_algebra.specs.Multiples.{place_product, term_product}
use Rattle.sf_algebra.specs.Residues.{sum_mod}
use Rattle.sf_algebra.specs.Rings.{Ring, IsRing}
use Rattle.sf_algebra.specs.Sums.{total}
use Rattle.sf_algebra.specs.Terms.{Term}
use Rattle.sf_algebra.specs.Vectors.{Place, place_cmp}
use Rattle.sf_algebra.proofs.Arithmetic.Residues.{sum_mod-assoc, sum_mod-zero}
use Rattle.sf_algebra.proofs.Basics.Lists.{AllByRecursion-append}
use Rattle.sf_algebra.proofs.Monomials.Places.{place_cmp-place_product, place_product-assoc}
use Rattle.sf_algebra.proofs.Multiplying.Keys.{place_keys}
use Rattle.sf_algebra.proofs.Terms.Negatives.{negative_one_term}
use Rattle.sf_algebra.proofs.Terms.Normal.{EachPlace}
use Rattle.sf_algebra.proofs.Terms.SameTotals.{SameTotals, SameTotals-append, SameTotals-equal, SameTotals-negative, SameTotals-products, SameTotals-refl, SameTotals-sym, SameTotals-trans}
use Rattle.sf_algebra.proofs.Terms.Totals.{total-append, total-nil, total-reduced}
use Rattle.sf_groebner.specs.Criterion.{lead_multiple}
use Rattle.sf_groebner.proofs.PairTheorems.Exchanges.{sum_mod-left_comm}
use Rattle.sf_groebner.proofs.PairTheorems.LeadMultiples.{IsModule, IsSettled, IsUnder, at_place}
use Rattle.sf_groebner.proofs.PairTheorems.Multiplied.{EachPlace-constant, EachPlace-products, SameTotals-at_place}

module _ (ring : Ring) (S : List (Term Place) → Type 0) (is_module : IsModule ring.modulus S) (In : Place → Type 0)
    (lead : ℕ → Place) where
  pub IsSettled-refl : (k : Place) → IsSettled ring In lead S k k
  IsSettled-refl k = record {
    lower = [];
    rest = [];
    under = tt;
    inside = is_module.has_none;
    same = SameTotals-refl ring.modulus (at_place k);
  }

  pub IsSettled-equal : (j k : Place) → j ≡ k → IsSettled ring In lead S j k
  IsSettled-equal j k e = subst (IsSettled ring In lead S j) e (IsSettled-refl j)

  -- one pair after another
  pub IsSettled-trans : (j k l : Place) → lead_multiple lead k ≡ lead_multiple lead l → IsSettled ring In lead S j k
      → IsSettled ring In lead S k l → IsSettled ring In lead S j l
  IsSettled-trans j k l e first second = record {
    lower = second.lower ++ first.lower;
    rest = second.rest ++ first.rest;
    under =
        AllByRecursion-append _ second.lower first.lower second.under
        (subst (λ b. EachPlace (IsUnder ring.weights In lead b) first.lower) e first.under);
    inside = is_module.has_sums second.rest first.rest second.inside first.inside;
    same = SameTotals-trans ring.modulus first.same
        (SameTotals-trans ring.modulus (SameTotals-append ring.modulus second.same (SameTotals-refl ring.modulus (first.lower ++ first.rest))) (exchanged (at_place l) second.lower second.rest first.lower first.rest));
  }
    where
      exchanged : (us ds ss es ts : List (Term Place))
          → SameTotals ring.modulus ((us ++ (ds ++ ss)) ++ (es ++ ts)) (us ++ ((ds ++ es) ++ (ss ++ ts)))
      exchanged us ds ss es ts = record {
        totals = λ g additive.
            total-append ring.modulus g (us ++ (ds ++ ss)) (es ++ ts)
            ∙ (λ i. sum_mod ring.modulus ((total-append ring.modulus g us (ds ++ ss) ∙ ap (sum_mod ring.modulus (total ring.modulus g us)) (total-append ring.modulus g ds ss)) i) (total-append ring.modulus g es ts i))
            ∙ sorted (total ring.modulus g us) (total ring.modulus g ds) (total ring.modulus g ss)
            (total ring.modulus g es) (total ring.modulus g ts)
            ∙ sym
            (total-append ring.modulus g us ((ds ++ es) ++ (ss ++ ts))
            ∙ ap (sum_mod ring.modulus (total ring.modulus g us))
            (total-append ring.modulus g (ds ++ es) (ss ++ ts) ∙ (λ i. sum_mod ring.modulus (total-append ring.modulus g ds es i) (total-append ring.modulus g ss ts i))));
      }
        where
          sorted : (u d s e t : ℕ)
              → sum_mod ring.modulus (sum_mod ring.modulus u (sum_mod ring.modulus d s)) (sum_mod ring.modulus e t)
              ≡ sum_mod ring.modulus u (sum_mod ring.modulus (sum_mod ring.modulus d e) (sum_mod ring.modulus s t))
          sorted u d s e t = simp (sum_mod-assoc, sum_mod-left_comm)

  -- either order
  pub IsSettled-sym : IsRing ring → (j k : Place) → lead_multiple lead j ≡ lead_multiple lead k
      → IsSettled ring In lead S j k → IsSettled ring In lead S k j
  IsSettled-sym positive j k e h = record {
    lower = minus h.lower;
    rest = minus h.rest;
    under =
        EachPlace-constant _ ring.modulus _ h.lower
        (subst (λ b. EachPlace (IsUnder ring.weights In lead b) h.lower) (sym e) h.under);
    inside = is_module.has_products (negative_one_term ring.modulus) h.rest h.inside;
    same =
        SameTotals-sym ring.modulus
        (SameTotals-trans ring.modulus (SameTotals-append ring.modulus h.same (SameTotals-refl ring.modulus (minus h.lower ++ minus h.rest))) (cancelled (at_place k) h.lower h.rest));
  }
    where
      minus : List (Term Place) → List (Term Place)
      minus us = map (term_product place_product ring.modulus (negative_one_term ring.modulus)) us

      cancelled : (us ds ss : List (Term Place))
          → SameTotals ring.modulus ((us ++ (ds ++ ss)) ++ (minus ds ++ minus ss)) us
      cancelled us ds ss = record {
        totals = λ g additive.
            total-append ring.modulus g (us ++ (ds ++ ss)) (minus ds ++ minus ss)
            ∙ (λ i. sum_mod ring.modulus (total-append ring.modulus g us (ds ++ ss) i) (total ring.modulus g (sym (map-append (term_product place_product ring.modulus (negative_one_term ring.modulus)) ds ss) i)))
            ∙ sum_mod-assoc ring.modulus _ _ _
            ∙ ap (sum_mod ring.modulus (total ring.modulus g us))
            (sym (total-append ring.modulus g (ds ++ ss) (minus (ds ++ ss))) ∙ (SameTotals-negative (place_keys ring.weights) ring.modulus positive.modulus (ds ++ ss)).totals g additive ∙ total-nil ring.modulus g)
            ∙ sum_mod-zero ring.modulus _
            ∙ total-reduced ring.modulus g us;
      }

-- a pair times a monomial
pub IsSettled-product : (ring : Ring) (S : List (Term Place) → Type 0) → IsModule ring.modulus S
    → (In : Place → Type 0) (lead : ℕ → Place) (a : Monomial) (j k : Place)
    → IsSettled ring (λ u. In (place_product a u)) lead S j k
    → IsSettled ring In lead S (place_product a j) (place_product a k)
IsSettled-product ring S is_module In lead a j k h =
    let s : Term Monomial = record { at = a; coefficient = 1 } in
    let times : List (Term Place) → List (Term Place) = map (term_product place_product ring.modulus s) in
    record {
      lower = times h.lower;
      rest = times h.rest;
      under = EachPlace-products _ _ ring.modulus s
          (λ u below. (
            below.0,
            (λ i. place_cmp ring.weights (place_product-assoc a u.monomial (lead u.position) i) (place_product-assoc a k.monomial (lead k.position) i))
                ∙ place_cmp-place_product ring.weights a (lead_multiple lead u) (lead_multiple lead k)
                ∙ below.1,
          ))
          h.lower h.under;
      inside = is_module.has_products s h.rest h.inside;
      same = SameTotals-trans ring.modulus (SameTotals-sym ring.modulus (SameTotals-at_place ring.modulus s j))
          (SameTotals-trans ring.modulus (SameTotals-products ring.modulus place_product s h.same)
          (SameTotals-trans ring.modulus
          (SameTotals-equal ring.modulus _ _ (map-append (term_product place_product ring.modulus s) (at_place k) (h.lower ++ h.rest) ∙ ap (λ us. times (at_place k) ++ us) (map-append (term_product place_product ring.modulus s) h.lower h.rest)))
          (SameTotals-append ring.modulus (SameTotals-at_place ring.modulus s k) (SameTotals-refl ring.modulus (times h.lower ++ times h.rest)))));
    }
