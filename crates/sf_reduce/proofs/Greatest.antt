-- The greatest place at which a term of some lists stands, list by list.
use Rattle.std.proofs.Common.{◌≡◌, ◌≢◌, ℕ, List, [], ◌∷◌, ◌++◌, Option, Some, None, refl, sym, ◌∙◌, ap, subst}
use Rattle.std.specs.declared.cmp.Ordering.TheVariants.{Less, Equal, Greater}
use Rattle.std.specs.List.{AllByRecursion}
use Rattle.sf_algebra.specs.Rings.{ones}
use Rattle.sf_algebra.specs.Terms.{Term, IsDescending}
use Rattle.sf_algebra.specs.Vectors.{Place, place_cmp}
use Rattle.sf_algebra.proofs.Basics.Lists.{AllByRecursion-append, AllByRecursion-back, AllByRecursion-front, AllByRecursion-weaken}
use Rattle.sf_algebra.proofs.Monomials.Orders.{ordering_cases, place_cmp-Equal, place_cmp_total}
use Rattle.std.proofs.lemmas.Cmp.{tied_itself}
use Rattle.std.specs.Ordering.{ordering_reverse}
use Rattle.sf_groebner.proofs.Basics.PlaceOrder.{Less-not_Greater, less_not_greater, not_greater_itself, not_greater_less}
use Rattle.sf_groebner.specs.Divisions.{AreBelow}
use Rattle.sf_reduce.specs.Buckets.{AreCanonical, GreatestOf, IsUpTo}

pub AreDescending : (p : ℕ) (bs : List (List (Term Place))) → AreCanonical p bs
    → AllByRecursion (IsDescending (place_cmp ones)) bs
AreDescending p bs h = AllByRecursion-weaken _ _ (λ b k. k.descending) bs h

IsUpTo-AreBelow : (k : Place) (ts : List (Term Place)) → AreBelow ones k ts → IsUpTo k ts
IsUpTo-AreBelow k ts h = AllByRecursion-weaken _ _ (λ t less. Less-not_Greater _ less) ts h

-- by the first of terms that descend
pub IsUpTo-first : (k : Place) (t : Term Place) (ts : List (Term Place)) → IsDescending (place_cmp ones) (t ∷ ts)
    → place_cmp ones t.at k ≢ Greater → IsUpTo k (t ∷ ts)
IsUpTo-first k t ts h most =
    (most, IsUpTo-AreBelow k ts (AllByRecursion-weaken _ (λ (u : Term Place). place_cmp ones u.at k ≡ Less) (λ u less. less_not_greater ones u.at t.at k less most) ts h.0))

-- where the first term stands below k, all do
pub AreBelow-first : (k : Place) (t : Term Place) (ts : List (Term Place)) → IsDescending (place_cmp ones) (t ∷ ts)
    → place_cmp ones t.at k ≢ Greater → place_cmp ones t.at k ≢ Equal → AreBelow ones k (t ∷ ts)
AreBelow-first k t ts h most apart =
    let less : place_cmp ones t.at k ≡ Less = ordering_cases (place_cmp ones t.at k) (λ e. e) (λ e. absurd (apart e)) (λ e. absurd (most e)) in
    (less, AllByRecursion-weaken _ (λ (u : Term Place). place_cmp ones u.at k ≡ Less) (λ u below. (place_cmp_total ones).trans u.at t.at k below less) ts h.0)

-- where it stands at k, those behind it stand below
pub AreBelow-tail : (k : Place) (t : Term Place) (ts : List (Term Place)) → IsDescending (place_cmp ones) (t ∷ ts)
    → place_cmp ones t.at k ≡ Equal → AreBelow ones k ts
AreBelow-tail k t ts h equal =
    subst (λ l. AreBelow ones l ts) (place_cmp-Equal ones t.at k equal) h.0

IsUpTo-more : (j k : Place) (ts : List (Term Place)) → place_cmp ones j k ≡ Less → IsUpTo j ts → IsUpTo k ts
IsUpTo-more j k ts less h =
    AllByRecursion-weaken _ _ (λ u most. Less-not_Greater _ (not_greater_less ones u.at j k most less)) ts h

IsUpTo-none : (k : Place) (bs : List (List (Term Place))) → AllByRecursion (λ b. b ≡ []) bs → AllByRecursion (IsUpTo k) bs
IsUpTo-none k bs h = AllByRecursion-weaken _ _ (λ b none. subst (IsUpTo k) (sym none) tt) bs h

-- the first term of one more list does not stand below itself
first_reached : (bs : List (List (Term Place))) (t : Term Place) (ts : List (Term Place))
    → AllByRecursion (AreBelow ones t.at) (bs ++ (t ∷ ts) ∷ []) → ⊥
first_reached bs t ts h =
    let own : place_cmp ones t.at t.at ≡ Less =
    (AllByRecursion-back (AreBelow ones t.at) bs ((t ∷ ts) ∷ []) h).0.0 in
    let equal : place_cmp ones t.at t.at ≡ Equal = tied_itself (place_cmp_total ones) t.at in
    cc

-- a list without terms changes nothing
pub GreatestOf-nil : (answer : Option (Term Place)) (bs : List (List (Term Place))) → GreatestOf answer bs
    → GreatestOf answer (bs ++ [] ∷ [])
GreatestOf-nil None bs h = AllByRecursion-append (λ b. b ≡ []) bs ([] ∷ []) h (refl, tt)
GreatestOf-nil (Some t) bs h = record {
  above = AllByRecursion-append (IsUpTo t.at) bs ([] ∷ []) h.above (tt, tt);
  reached = λ low. h.reached (AllByRecursion-front (AreBelow ones t.at) bs ([] ∷ []) low);
}

module _ (bs : List (List (Term Place))) (t : Term Place) (ts : List (Term Place))
    (descending : IsDescending (place_cmp ones) (t ∷ ts)) where
  -- the first terms
  pub GreatestOf-first : GreatestOf None bs → GreatestOf (Some t) (bs ++ (t ∷ ts) ∷ [])
  GreatestOf-first h = record {
    above = AllByRecursion-append (IsUpTo t.at) bs ((t ∷ ts) ∷ []) (IsUpTo-none t.at bs h) (IsUpTo-first t.at t ts descending (not_greater_itself ones t.at), tt);
    reached = first_reached bs t ts;
  }

  -- a greater term
  pub GreatestOf-greater : (s : Term Place) → place_cmp ones t.at s.at ≡ Greater → GreatestOf (Some s) bs
      → GreatestOf (Some t) (bs ++ (t ∷ ts) ∷ [])
  GreatestOf-greater s greater h =
      let less : place_cmp ones s.at t.at ≡ Less =
      (place_cmp_total ones).antisymm s.at t.at ∙ ap ordering_reverse greater in
      record {
        above = AllByRecursion-append (IsUpTo t.at) bs ((t ∷ ts) ∷ []) (AllByRecursion-weaken (IsUpTo s.at) (IsUpTo t.at) (λ b. IsUpTo-more s.at t.at b less) bs h.above) (IsUpTo-first t.at t ts descending (not_greater_itself ones t.at), tt);
        reached = first_reached bs t ts;
      }

  -- terms none of which is greater
  pub GreatestOf-kept : (s : Term Place) → place_cmp ones t.at s.at ≢ Greater → GreatestOf (Some s) bs
      → GreatestOf (Some s) (bs ++ (t ∷ ts) ∷ [])
  GreatestOf-kept s most h = record {
    above = AllByRecursion-append (IsUpTo s.at) bs ((t ∷ ts) ∷ []) h.above (IsUpTo-first s.at t ts descending most, tt);
    reached = λ low. h.reached (AllByRecursion-front (AreBelow ones s.at) bs ((t ∷ ts) ∷ []) low);
  }
