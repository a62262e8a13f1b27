-- Divisors of places: what the test of divisibility decides, and how divisors stand in the order.
use Rattle.std.proofs.Common.{◌≡◌, ◌≢◌, ◌⊎◌, inl, inr, ℕ, ◌≤◌, nat_le, List, [], ◌∷◌, IsFalse, refl, sym, ◌∙◌, ap}
use Rattle.std.specs.Bool.{Decides}
use Rattle.std.specs.List.{AllByRecursion, list_any}
use Rattle.std.specs.declared.cmp.Ordering.TheVariants.{Equal, Greater}
use Rattle.std.specs.Ordering.{nat_cmp, ordering_then}
use Rattle.std.proofs.lemmas.Bool.{cases_Bool, le-leb, leb-true, or_parts, or_from, false_from_ne_true}
use Rattle.std.proofs.lemmas.Bool.Decides.{Decides-eqb, Decides-and, Decides-like, not_from_Decides}
use Rattle.std.proofs.lemmas.Cmp.{tied_itself, nat_cmp_total}
use Rattle.sf_algebra.specs.Divisibility.{Divides, quotient}
use Rattle.sf_algebra.specs.Monomials.{Monomial, product, monomial_cmp}
use Rattle.sf_algebra.specs.Multiples.{place_product}
use Rattle.sf_algebra.specs.Rings.{Weights, IsPositive}
use Rattle.sf_algebra.specs.Vectors.{Place, place_cmp}
use Rattle.sf_algebra.proofs.Basics.Lists.{AllByRecursion-weaken}
use Rattle.sf_algebra.proofs.Monomials.Divisors.{Divides-refl, Divides-trans, Divides-antisymm, Divides-multiple, Divides-monomial_cmp, product-quotient}
use Rattle.sf_algebra.proofs.Monomials.Products.{product-comm}
use Rattle.sf_groebner.specs.Leads.{PlaceDivides, divides, place_divides}

Decides-nat_le : (a b : ℕ) → Decides (nat_le a b) (a ≤ b)
Decides-nat_le a b = (leb-true a b, le-leb a b)

pub Decides-divides : (a b : Monomial) → Decides (divides a b) (Divides a b)
Decides-divides a b =
    Decides-like _ (λ h. (h.0, h.1.0, h.1.1.0, h.1.1.1.0, h.1.1.1.1.0, h.1.1.1.1.1))
    (λ h. (h.0, (h.1, (h.2, (h.3, (h.4, h.5))))))
    (Decides-and _ _ (Decides-nat_le a.e1 b.e1)
    (Decides-and _ _ (Decides-nat_le a.e2 b.e2)
    (Decides-and _ _ (Decides-nat_le a.e3 b.e3)
    (Decides-and _ _ (Decides-nat_le a.e4 b.e4)
    (Decides-and _ _ (Decides-nat_le a.e5 b.e5) (Decides-nat_le a.e6 b.e6))))))

-- the test decides it
pub Decides-place_divides : (j k : Place) → Decides (place_divides j k) (PlaceDivides j k)
Decides-place_divides j k = Decides-and _ _ (Decides-eqb j.position k.position) (Decides-divides j.monomial k.monomial)

pub PlaceDivides-or_not : (j k : Place) → PlaceDivides j k ⊎ (PlaceDivides j k → ⊥)
PlaceDivides-or_not j k =
    elim (cases_Bool (place_divides j k)) [
      | inl divided ↦ inl ((Decides-place_divides j k).0 divided)
      | inr not_divided ↦ inr (not_from_Decides _ (Decides-place_divides j k) not_divided)
    ]

pub PlaceDivides-refl : (k : Place) → PlaceDivides k k
PlaceDivides-refl k = (refl, Divides-refl k.monomial)

pub PlaceDivides-trans : (i j k : Place) → PlaceDivides i j → PlaceDivides j k → PlaceDivides i k
PlaceDivides-trans i j k h l = (h.0 ∙ l.0, Divides-trans i.monomial j.monomial k.monomial h.1 l.1)

pub PlaceDivides-antisymm : (j k : Place) → PlaceDivides j k → PlaceDivides k j → j ≡ k
PlaceDivides-antisymm j k h l =
    let same = Divides-antisymm j.monomial k.monomial h.1 l.1 in λ i. record { position = h.0 i; monomial = same i }

-- a place divides its products with monomials
pub PlaceDivides-place_product : (a : Monomial) (k : Place) → PlaceDivides k (place_product a k)
PlaceDivides-place_product a k =
    (refl, Divides-multiple k.monomial (product a k.monomial) a (product-comm k.monomial a))

-- it is divided by nothing else
pub place_product-quotient : (j k : Place) → PlaceDivides j k → place_product (quotient k.monomial j.monomial) j ≡ k
place_product-quotient j k h =
    let same = product-comm (quotient k.monomial j.monomial) j.monomial ∙ product-quotient k.monomial j.monomial h.1 in
    λ i. record { position = h.0 i; monomial = same i }

-- a divisor is not greater
pub PlaceDivides-place_cmp : (weights : Weights) → IsPositive weights → (j k : Place) → PlaceDivides j k
    → place_cmp weights j k ≢ Greater
PlaceDivides-place_cmp weights positive j k h greater =
    let same : nat_cmp k.position j.position ≡ Equal =
    ap (nat_cmp k.position) h.0 ∙ tied_itself nat_cmp_total k.position in
    Divides-monomial_cmp weights positive j.monomial k.monomial h.1
    (sym (ap (λ o. ordering_then o (monomial_cmp weights j.monomial k.monomial)) same) ∙ greater)

-- a test that none of the places divides k
pub not_divided-each : (k : Place) (ks : List Place) → IsFalse (list_any (λ j. place_divides j k) ks)
    → AllByRecursion (λ j. PlaceDivides j k → ⊥) ks
not_divided-each k [] e = tt
not_divided-each k (j ∷ ks) e =
    let p = or_parts (place_divides j k) _ e in
    (not_from_Decides _ (Decides-place_divides j k) p.0, not_divided-each k ks p.1)

pub each-not_divided : (k : Place) (ks : List Place) → AllByRecursion (λ j. PlaceDivides j k → ⊥) ks
    → IsFalse (list_any (λ j. place_divides j k) ks)
each-not_divided k [] h = refl
each-not_divided k (j ∷ ks) h =
    or_from (place_divides j k) _ (false_from_ne_true _ (λ e. h.0 ((Decides-place_divides j k).0 e)))
    (each-not_divided k ks h.1)

-- a divisor of a place that none divides is divided by none
pub not_divided-divisor : (i k : Place) (ks : List Place) → PlaceDivides i k
    → IsFalse (list_any (λ j. place_divides j k) ks) → IsFalse (list_any (λ j. place_divides j i) ks)
not_divided-divisor i k ks h e =
    each-not_divided i ks
    (AllByRecursion-weaken _ _ (λ j none divides. none (PlaceDivides-trans j i k divides h)) ks (not_divided-each k ks e))
