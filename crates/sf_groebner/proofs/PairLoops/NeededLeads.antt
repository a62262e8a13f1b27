-- Leads that each reduced basis of a module has: those that rows complete below their degree don't divide. (This
-- project's own.)
use Rattle.std.proofs.Common.{◌≡◌, ◌⊎◌, inl, inr, Bool, true, false, ℕ, suc, ◌+◌, ◌<◌, ◌≤◌, List, [], ◌∷◌, length, refl, sym, ◌∙◌, ap, subst, arith, ℤ, pos, ◌+ℤ◌, ◌<ℤ◌}
use Rattle.std.proofs.lemmas.Bool.{cases_lt}
use Rattle.std.proofs.lemmas.Int.{ints}
use Rattle.std.specs.List.{AllByRecursion}
use Rattle.sf_algebra.specs.Divisibility.{Divides, quotient}
use Rattle.sf_algebra.specs.Monomials.{Monomial, monomial_degree}
use Rattle.sf_algebra.specs.Rings.{Ring, Weights, IsPositive, IsRing}
use Rattle.sf_algebra.specs.Terms.{Term}
use Rattle.sf_algebra.specs.Vectors.{Place, Vector, generator_degree, place_degree}
use Rattle.sf_algebra.proofs.Monomials.Divisors.{product-quotient, same_monomial}
use Rattle.sf_algebra.proofs.Monomials.Products.{monomial_degree-product}
use Rattle.sf_algebra.proofs.Monomials.Weights.{exponent_sum-at_most}
use Rattle.sf_groebner.specs.Criterion.{lead_place}
use Rattle.sf_groebner.specs.Leads.{PlaceDivides}
use Rattle.sf_groebner.specs.NeededLeads.{AreDistinct, HasElementAt, HasLeadAt, IsCompleteBelow, IsNeeded}
use Rattle.sf_groebner.specs.ReducedBases.{HasDividedLead, is_divided, lead_divides}
use Rattle.sf_groebner.proofs.Basics.Items.{AllByRecursion-both, IsItem, list_any-from_item, list_any-item}
use Rattle.sf_groebner.proofs.Basics.PlaceDivisors.{Decides-place_divides}
use Rattle.sf_groebner.proofs.Constructions.LeadDivisors.{lead_divides-trans, lead_places}
use Rattle.sf_groebner.proofs.Spanning.Modules.{IsModuleLike}
use Rattle.sf_groebner.proofs.Uniqueness.UniqueBases.{Element, divisor}

-- a divisor of the same degree is the monomial itself
Divides-no_less : (weights : Weights) → IsPositive weights → (a b : Monomial) → Divides a b
    → monomial_degree weights b ≤ monomial_degree weights a → a ≡ b
Divides-no_less weights positive a b h le =
    let q : Monomial = quotient b a in
    let sums : monomial_degree weights b ≡ monomial_degree weights a + monomial_degree weights q =
    ap (monomial_degree weights) (sym (product-quotient b a h)) ∙ monomial_degree-product weights a q in
    let bound = exponent_sum-at_most weights positive q in
    let none : monomial_degree weights q ≤ 0 = by_sum (monomial_degree weights b) (monomial_degree weights a) (monomial_degree weights q) sums le in
    same_monomial a b (omega arith) (omega arith) (omega arith) (omega arith) (omega arith) (omega arith)
  where
    by_sum : (x y z : ℕ) → x ≡ y + z → x ≤ y → z ≤ 0
    by_sum x y z e le = omega arith

-- a divisor of a place is that place, or has a lesser degree
pub PlaceDivides-degree : (weights : Weights) → IsPositive weights → (degrees : List ℤ) (j k : Place) → PlaceDivides j k
    → (j ≡ k) ⊎ (place_degree weights degrees j <ℤ place_degree weights degrees k)
PlaceDivides-degree weights positive degrees j k h =
    elim (cases_lt (monomial_degree weights j.monomial) (monomial_degree weights k.monomial)) [
      | inl less ↦
          inr
          (lesser (generator_degree degrees j.position) (generator_degree degrees k.position) _ _
          (ap (generator_degree degrees) h.0) less)
      | inr not_less ↦
          let same = Divides-no_less weights positive j.monomial k.monomial h.1 not_less in
          inl (λ i. record { position = h.0 i; monomial = same i })
    ]
  where
    lesser : (g l : ℤ) (a b : ℕ) → g ≡ l → a < b → (g +ℤ pos a) <ℤ (l +ℤ pos b)
    lesser g l a b e less = omega (arith, ints)

-- what a divided place divides is divided
pub is_divided-trans : (rows : List Vector) (j k : Place) → is_divided rows j ≡ true → PlaceDivides j k
    → is_divided rows k ≡ true
is_divided-trans rows j k h divides =
    let found = list_any-item (λ (w : Vector). lead_divides w.terms j) rows h in
    let w : Vector = found.0 in
    list_any-from_item (λ (x : Vector). lead_divides x.terms k) rows w found.1
    (lead_divides-trans w.terms j k found.2 divides)

-- an element with its lead at a place
pub HasElementAt-item : (k : Place) (vs : List Vector) (v : Vector) → IsItem v vs → HasLeadAt k v.terms → HasElementAt k vs
HasElementAt-item k [] v item h = absurd item
HasElementAt-item k (w ∷ ws) v (inl same) h = inl (subst (λ (x : Vector). HasLeadAt k x.terms) same h)
HasElementAt-item k (w ∷ ws) v (inr item) h = inr (HasElementAt-item k ws v item h)

pub item-HasElementAt : (k : Place) (vs : List Vector) → HasElementAt k vs
    → (v : Vector) × IsItem v vs × HasLeadAt k v.terms
item-HasElementAt k [] h = absurd h
item-HasElementAt k (v ∷ vs) (inl here) = (v, inl refl, here)
item-HasElementAt k (v ∷ vs) (inr there) =
    let found = item-HasElementAt k vs there in (found.0, inr found.1, found.2)

lead_place-HasLeadAt : (k : Place) (ts : List (Term Place)) → HasLeadAt k ts → k ≡ lead_place ts
lead_place-HasLeadAt k [] h = absurd h
lead_place-HasLeadAt k (t ∷ ts) h = sym h

-- its lead is one of the leads
pub IsItem-HasElementAt : (k : Place) (vs : List Vector) → HasElementAt k vs → IsItem k (lead_places vs)
IsItem-HasElementAt k [] h = absurd h
IsItem-HasElementAt k (v ∷ vs) (inl here) = inl (lead_place-HasLeadAt k v.terms here)
IsItem-HasElementAt k (v ∷ vs) (inr there) = inr (IsItem-HasElementAt k vs there)

module _ (ring : Ring) (positive : IsRing ring) (degrees : List ℤ) (N : Vector → Type 0)
    (module_like : IsModuleLike ring degrees N) (rows : List Vector) (d : ℤ) (complete : IsCompleteBelow N rows d) where
  -- an element of the basis whose lead divides that of a vector of degree d has the same lead, since by a proper divisor
  -- its degree were lower, and the rows were complete there
  pub lead_needed : (t : Term Place) (ts : List (Term Place)) → N (record { degree = d; terms = t ∷ ts })
      → is_divided rows t.at ≡ false → IsNeeded ring.weights N t.at
  lead_needed t ts inside free basis h =
      let v : Vector = record { degree = d; terms = t ∷ ts } in
      let found = divisor ring positive degrees N module_like basis h v inside t ts refl in
      let w : Vector = found.0 in
      let e : Element ring degrees N basis w = found.1 in
      let divides : PlaceDivides e.lead.at t.at = (Decides-place_divides e.lead.at t.at).0 found.2 in
      let degree : d ≡ place_degree ring.weights degrees t.at = (module_like.vectors v inside).homogeneous.0.1 in
      elim (PlaceDivides-degree ring.weights positive.weights degrees e.lead.at t.at divides) [
        | inl same ↦ HasElementAt-item t.at basis w e.item (subst (HasLeadAt t.at) (sym e.terms) same)
        | inr less ↦
            let lower : w.degree <ℤ d = subst (λ g. g <ℤ d) (sym e.degree) (subst (λ g. place_degree ring.weights degrees e.lead.at <ℤ g) (sym degree) less) in
            let divided : is_divided rows e.lead.at ≡ true =
            subst (HasDividedLead rows) e.terms (complete w e.inside lower) in
            absurd (clash (is_divided rows t.at) (is_divided-trans rows e.lead.at t.at divided divides) free)
      ]
    where
      clash : (b : Bool) → b ≡ true → b ≡ false → ⊥
      clash b h k = cc

-- a list without one of its items
without : {X : Type 0} (x : X) (ys : List X) → IsItem x ys → List X
without x [] item = absurd item
without x (y ∷ ys) (inl same) = ys
without x (y ∷ ys) (inr item) = y ∷ without x ys item

length-without : {X : Type 0} (x : X) (ys : List X) (item : IsItem x ys) → length ys ≡ suc (length (without x ys item))
unfolding without
length-without x [] item = absurd item
length-without x (y ∷ ys) (inl same) = refl
length-without x (y ∷ ys) (inr item) = ap suc (length-without x ys item)

IsItem-without : {X : Type 0} (x z : X) (ys : List X) (item : IsItem x ys) → (x ≡ z → ⊥) → IsItem z ys
    → IsItem z (without x ys item)
unfolding without
IsItem-without x z [] item apart other = absurd item
IsItem-without x z (y ∷ ys) (inl same) apart (inl here) = absurd (apart (same ∙ sym here))
IsItem-without x z (y ∷ ys) (inl same) apart (inr there) = there
IsItem-without x z (y ∷ ys) (inr item) apart (inl here) = inl here
IsItem-without x z (y ∷ ys) (inr item) apart (inr there) = inr (IsItem-without x z ys item apart there)

-- distinct items of a list are no more than all
pub no_more : {X : Type 0} (xs ys : List X) → AreDistinct xs → AllByRecursion (λ x. IsItem x ys) xs
    → length xs ≤ length ys
no_more [] ys distinct items = omega arith
no_more (x ∷ xs) ys distinct items =
    let fewer = no_more xs (without x ys items.0) distinct.1 (others xs distinct.0 items.1) in
    omega (arith, length-without x ys items.0)
  where
    others : (zs : List _) → AllByRecursion (λ z. x ≡ z → ⊥) zs → AllByRecursion (λ z. IsItem z ys) zs
        → AllByRecursion (λ z. IsItem z (without x ys items.0)) zs
    others zs apart inside = AllByRecursion-both _ _ _ (λ z a b. IsItem-without x z ys items.0 a b) zs apart inside
