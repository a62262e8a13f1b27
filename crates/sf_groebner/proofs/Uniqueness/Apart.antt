-- Lists of vectors that are apart: what divides their terms.
use Rattle.std.proofs.Common.{◌≡◌, ◌≢◌, inl, inr, Bool, true, false, ◌||◌, List, [], ◌∷◌, refl, sym, ◌∙◌, ap, subst}
use Rattle.std.specs.Ordering.{ordering_reverse}
use Rattle.std.specs.declared.cmp.Ordering.TheVariants.{Less, Greater}
use Rattle.std.specs.List.{AllByRecursion}
use Rattle.std.proofs.lemmas.Bool.{cases_Bool}
use Rattle.sf_algebra.specs.Rings.{Weights, IsPositive}
use Rattle.sf_algebra.specs.Terms.{Term, IsDescending}
use Rattle.sf_algebra.specs.Vectors.{Place, Vector, place_cmp}
use Rattle.sf_algebra.proofs.Basics.Lists.{AllByRecursion-weaken}
use Rattle.sf_algebra.proofs.GradedMatrices.Columns.{AllByRecursion-always}
use Rattle.sf_algebra.proofs.Monomials.Orders.{place_cmp_total}
use Rattle.sf_groebner.specs.Leads.{place_divides}
use Rattle.sf_groebner.specs.ReducedBases.{lead_divides, is_divided, IsMonic, IsReducedBy, AreApart, IsApart}
use Rattle.sf_groebner.proofs.Basics.Items.{IsItem, AllByRecursion-item, AllByRecursion-both}
use Rattle.sf_groebner.proofs.Basics.PlaceDivisors.{Decides-place_divides, PlaceDivides-place_cmp}

-- the lead of a monic list
pub IsMonic-lead : (ts : List (Term Place)) → IsMonic ts
    → (t : Term Place) × (us : List (Term Place)) × (ts ≡ t ∷ us) × (t.coefficient ≡ 1)
IsMonic-lead [] h = absurd h
IsMonic-lead (t ∷ us) h = (t, us, refl, h)

or_first_false : (a b : Bool) → (a || b) ≡ false → a ≡ false
or_first_false true b h = cc
or_first_false false b h = refl

-- a divisor is not greater than what it divides
pub place_divides-less : (weights : Weights) → IsPositive weights → (j k : Place) → place_cmp weights k j ≡ Less
    → place_divides j k ≡ false
place_divides-less weights positive j k less =
    elim (cases_Bool (place_divides j k)) [
      | inl divided ↦
          let greater : place_cmp weights j k ≡ Greater =
          (place_cmp_total weights).antisymm j k ∙ ap ordering_reverse less in
          absurd (PlaceDivides-place_cmp weights positive j k ((Decides-place_divides j k).0 divided) greater)
      | inr not_divided ↦ not_divided
    ]

-- a lead divides no term behind it
pub lead_divides-tail : (weights : Weights) → IsPositive weights → (t : Term Place) (us : List (Term Place))
    → IsDescending (place_cmp weights) (t ∷ us) → AllByRecursion (λ u. lead_divides (t ∷ us) u.at ≡ false) us
lead_divides-tail weights positive t us h =
    AllByRecursion-weaken _ _ (λ u less. place_divides-less weights positive t.at u.at less) us h.0

-- reduced by each of the vectors
pub IsReducedBy-each : (vs : List Vector) (ts : List (Term Place)) → AllByRecursion (λ w. IsReducedBy (w ∷ []) ts) vs
    → IsReducedBy vs ts
IsReducedBy-each [] ts h = AllByRecursion-always _ (λ t. refl) ts
IsReducedBy-each (v ∷ vs) ts h =
    AllByRecursion-both _ _ _
    (λ t first others. ap (λ b. b || is_divided vs t.at) (or_first_false _ false first) ∙ others) ts h.0
    (IsReducedBy-each vs ts h.1)

-- what is reduced by all is reduced by one of them
pub IsReducedBy-item : (vs : List Vector) (w : Vector) (ts : List (Term Place)) → IsReducedBy vs ts → IsItem w vs
    → AllByRecursion (λ t. lead_divides w.terms t.at ≡ false) ts
IsReducedBy-item vs w ts h item = AllByRecursion-weaken _ _ (λ t free. item_free vs w t.at free item) ts h
  where
    item_free : (us : List Vector) (v : Vector) (k : Place) → is_divided us k ≡ false → IsItem v us
        → lead_divides v.terms k ≡ false
    item_free [] v k free item = absurd item
    item_free (u ∷ us) v k free (inl same) =
        ap (λ x. lead_divides x.terms k) same ∙ or_first_false _ (is_divided us k) free
    item_free (u ∷ us) v k free (inr item) =
        item_free us v k (or_second_false (lead_divides u.terms k) (is_divided us k) free) item
      where
        or_second_false : (a b : Bool) → (a || b) ≡ false → b ≡ false
        or_second_false true b h = cc
        or_second_false false b h = h

-- only itself divides the lead of one of the vectors
pub IsApart-lead : (vs : List Vector) (v w : Vector) (t : Term Place) (us : List (Term Place)) → v.terms ≡ t ∷ us
    → IsApart vs → IsItem v vs → IsItem w vs
    → lead_divides w.terms t.at ≡ true → w ≡ v
IsApart-lead [] v w t us e apart item other divided = absurd item
IsApart-lead (x ∷ xs) v w t us e apart (inl first) (inl second) divided = second ∙ sym first
IsApart-lead (x ∷ xs) v w t us e apart (inl first) (inr item) divided =
    let free : IsReducedBy (w ∷ []) (t ∷ us) =
    subst (IsReducedBy (w ∷ [])) (sym (ap (λ y. y.terms) first) ∙ e)
    (AllByRecursion-item (AreApart x) xs w apart.0 item).0 in
    let no = or_first_false (lead_divides w.terms t.at) false free.0 in
    cc
IsApart-lead (x ∷ xs) v w t us e apart (inr item) (inl second) divided =
    let free : IsReducedBy (x ∷ []) (t ∷ us) =
    subst (IsReducedBy (x ∷ [])) e (AllByRecursion-item (AreApart x) xs v apart.0 item).1 in
    let no = ap (λ y. lead_divides y.terms t.at) second ∙ or_first_false (lead_divides x.terms t.at) false free.0 in
    cc
IsApart-lead (x ∷ xs) v w t us e apart (inr item) (inr other) divided =
    IsApart-lead xs v w t us e apart.1 item other divided

-- no lead divides a term behind the lead of one of the vectors
pub IsApart-tail : (vs : List Vector) (v : Vector) (t : Term Place) (us : List (Term Place)) → v.terms ≡ t ∷ us
    → IsApart vs → IsItem v vs
    → AllByRecursion (λ u. lead_divides v.terms u.at ≡ false) us → IsReducedBy vs us
IsApart-tail [] v t us e apart item own = absurd item
IsApart-tail (x ∷ xs) v t us e apart (inl same) own =
    let others : IsReducedBy xs (t ∷ us) =
    subst (IsReducedBy xs) (sym (ap (λ y. y.terms) same) ∙ e)
    (IsReducedBy-each xs x.terms (AllByRecursion-weaken _ _ (λ w pair. pair.0) xs apart.0)) in
    AllByRecursion-both _ _ _
    (λ u first free. ap (λ b. b || is_divided xs u.at) (sym (ap (λ y. lead_divides y.terms u.at) same) ∙ first) ∙ free) us own others.1
IsApart-tail (x ∷ xs) v t us e apart (inr item) own =
    let first : IsReducedBy (x ∷ []) (t ∷ us) =
    subst (IsReducedBy (x ∷ [])) e (AllByRecursion-item (AreApart x) xs v apart.0 item).1 in
    AllByRecursion-both _ _ _
    (λ u h free. ap (λ b. b || is_divided xs u.at) (or_first_false (lead_divides x.terms u.at) false h) ∙ free) us first.1
    (IsApart-tail xs v t us e apart.1 item own)

-- of two of the vectors, the lead of one divides no term of the other
pub IsApart-items : (vs : List Vector) (v w : Vector) → IsApart vs → IsItem v vs → IsItem w vs → v ≢ w
    → IsReducedBy (w ∷ []) v.terms
IsApart-items [] v w apart item other differ = absurd item
IsApart-items (x ∷ xs) v w apart (inl first) (inl second) differ = absurd (differ (first ∙ sym second))
IsApart-items (x ∷ xs) v w apart (inl first) (inr other) differ =
    subst (λ y. IsReducedBy (w ∷ []) y.terms) (sym first) (AllByRecursion-item (AreApart x) xs w apart.0 other).0
IsApart-items (x ∷ xs) v w apart (inr item) (inl second) differ =
    subst (λ y. IsReducedBy (y ∷ []) v.terms) (sym second) (AllByRecursion-item (AreApart x) xs v apart.0 item).1
IsApart-items (x ∷ xs) v w apart (inr item) (inr other) differ = IsApart-items xs v w apart.1 item other differ
