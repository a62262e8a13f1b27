-- The leads at one position, and those among them that divide a place.
use Rattle.std.proofs.Common.{inl, inr, ◌≡◌, ◌==◌, ◌&&◌, ◌||◌, Bool, true, false, cond, ℕ, zero, suc, ◌+◌, ◌<◌, List, [], ◌∷◌, ◌++◌, Some, length, slice_index_or, slice_set, take, refl, sym, ◌∙◌, ap, subst, arith, append-nil, zero-add, HoldsAt, Option, None, IsNone, IfSome}
use Rattle.std.specs.List.{list_any, slice_get}
use Rattle.std.proofs.lemmas.Bool.{cases_eq, false_from_ne_true, or_cases}
use Rattle.std.proofs.lemmas.Grind.{get_or-set_at}
use Rattle.std.proofs.lemmas.List.{map-append, get_or_read, get_or-set_other}
use Rattle.std.proofs.lemmas.Bool.Decides.{Decides-eqb}
use Rattle.sf_algebra.specs.Terms.{Term}
use Rattle.sf_algebra.specs.Vectors.{Place, Vector}
use Rattle.sf_algebra.proofs.Basics.Lists.{take-slice_get}
use Rattle.sf_groebner.specs.Criterion.{lead_place}
use Rattle.sf_groebner.specs.ReducedBases.{IsMonic}
use Rattle.sf_groebner.proofs.Constructions.LeadDivisors.{lead_places}
use Rattle.sf_groebner.specs.Leads.{PlaceDivides, divides, place_divides}
use Rattle.sf_groebner.proofs.Basics.PlaceDivisors.{Decides-divides}
use Rattle.sf_reduce.specs.LeadIndex.{HasOneMore, HaveSameLeads, IsIndex, NumberedLead, has_divisor, is_divisor, leads_at}

list_any-cond : {X : Type 0} (p : X → Bool) (b : Bool) (x : X) (xs : List X)
    → list_any p (cond b (x ∷ xs) xs) ≡ ((b && p x) || list_any p xs)
list_any-cond p true x xs = refl
list_any-cond p false x xs = refl

-- a test of the leads at the position of a place is one of all leads
pub list_any-leads_at : (k : Place) (n : ℕ) (ks : List Place)
    → list_any (has_divisor k.monomial) (leads_at k.position n ks) ≡ list_any (λ j. place_divides j k) ks
list_any-leads_at k n [] = refl
list_any-leads_at k n (j ∷ ks) =
    list_any-cond (has_divisor k.monomial) (j.position == k.position) (record { row = n; monomial = j.monomial }) (leads_at k.position (suc n) ks)
    ∙ ap (λ b. place_divides j k || b) (list_any-leads_at k (suc n) ks)

and_parts : (a b : Bool) → (a && b) ≡ true → (a ≡ true) × (b ≡ true)
and_parts true b e = (refl, e)
and_parts false b e = cc

-- the place of a divisor's row, where the first of the places has the number n
pub record StandsAt (k : Place) (n i : ℕ) (ks : List Place) : Type 0 where
  pub before : ℕ
  pub number : n + before ≡ i
  pub within : before < length ks
  pub divides : HoldsAt (λ (j : Place). PlaceDivides j k) ks before

pub is_divisor-leads_at : (k : Place) (n i : ℕ) (ks : List Place)
    → list_any (is_divisor i k.monomial) (leads_at k.position n ks) ≡ true → StandsAt k n i ks
is_divisor-leads_at k n i [] e = cc
is_divisor-leads_at k n i (j ∷ ks) e =
    let lead : NumberedLead = record { row = n; monomial = j.monomial } in
    let split = sym (list_any-cond (is_divisor i k.monomial) (j.position == k.position) lead (leads_at k.position (suc n) ks)) ∙ e in
    elim (or_cases ((j.position == k.position) && is_divisor i k.monomial lead) (list_any (is_divisor i k.monomial) (leads_at k.position (suc n) ks)) split) [
      | inl here ↦
          let parts = and_parts (j.position == k.position) (is_divisor i k.monomial lead) here in
          let others = and_parts (n == i) (divides j.monomial k.monomial) parts.1 in
          let number : n ≡ i = (Decides-eqb n i).0 others.0 in
          record {
            before = 0;
            number = omega arith;
            within = omega arith;
            divides = λ d. ((Decides-eqb j.position k.position).0 parts.0, (Decides-divides j.monomial k.monomial).0 others.1);
          }
      | inr there ↦
          let later = is_divisor-leads_at k (suc n) i ks there in
          record {
            before = suc later.before;
            number = omega (arith, later.number);
            within = omega (arith, later.within);
            divides = later.divides;
          }
    ]

-- an answer from the list at the position of a place is one from all leads
pub divisor_of : (answer : Option ℕ) (k : Place) (ks : List Place) (there : List NumberedLead)
    → there ≡ leads_at k.position 0 ks
    → (IsNone answer → list_any (has_divisor k.monomial) there ≡ false)
    → IfSome answer (λ i. list_any (is_divisor i k.monomial) there ≡ true)
    → (IsNone answer → list_any (λ j. place_divides j k) ks ≡ false) × IfSome answer (λ i. i < length ks)
    × IfSome answer (λ i. HoldsAt (λ (j : Place). PlaceDivides j k) ks i)
divisor_of None k ks there same none some =
    let nothing = sym (list_any-leads_at k 0 ks) ∙ ap (list_any (has_divisor k.monomial)) (sym same) ∙ none refl in
    (λ _. nothing, tt, tt)
divisor_of (Some i) k ks there same none some =
    let found = is_divisor-leads_at k 0 i ks (ap (list_any (is_divisor i k.monomial)) (sym same) ∙ some) in
    let number : found.before ≡ i = omega (arith, found.number) in (
      λ e. absurd (cc),
      omega (arith, found.number, found.within),
      subst (HoldsAt (λ (j : Place). PlaceDivides j k) ks) number found.divides,
    )

pub leads_at-push : (q n : ℕ) (ks : List Place) (k : Place)
    → leads_at q n (ks ++ k ∷ [])
    ≡ leads_at q n ks ++ cond (k.position == q) (record { row = n + length ks; monomial = k.monomial } ∷ []) []
leads_at-push q n [] k = let same : n ≡ n + 0 = omega arith in ap (λ m. cond (k.position == q) (record { row = m; monomial = k.monomial } ∷ []) []) same
leads_at-push q n (j ∷ ks) k =
    let same : suc n + length ks ≡ n + suc (length ks) = omega arith in
    let more = leads_at-push q (suc n) ks k ∙ ap (λ m. leads_at q (suc n) ks ++ cond (k.position == q) (record { row = m; monomial = k.monomial } ∷ []) []) same in
    front (j.position == q) (record { row = n; monomial = j.monomial }) _ _ _ more
  where
    front : (b : Bool) (x : NumberedLead) (us vs ws : List NumberedLead) → us ≡ vs ++ ws
        → cond b (x ∷ us) us ≡ cond b (x ∷ vs) vs ++ ws
    front true x us vs ws e = ap (λ l. x ∷ l) e
    front false x us vs ws e = e

-- the lead of a row, as a program reads it
pub lead_place-first : (ts : List (Term Place)) (t : Term Place) → IsMonic ts → t ≡ slice_index_or ts 0 t
    → lead_place ts ≡ t.at
lead_place-first [] t monic e = absurd monic
lead_place-first (u ∷ ts) t monic e = ap (λ v. v.at) (sym e)

-- the leads of one row more
pub lead_places-take : (rows : List Vector) (i : ℕ) (v : Vector) (k : Place) → slice_get rows i ≡ Some v
    → lead_place v.terms ≡ k → lead_places (take (i + 1) rows) ≡ lead_places (take i rows) ++ k ∷ []
lead_places-take rows i v k read same =
    ap lead_places (take-slice_get rows i v read)
    ∙ map-append (λ (w : Vector). lead_place w.terms) (take i rows) (v ∷ [])
    ∙ ap (λ l. lead_places (take i rows) ++ l ∷ []) same

-- one more lead
pub IsIndex-push : (old new : List (List NumberedLead)) (ks : List Place) (k : Place) → IsIndex old ks
    → HasOneMore k.position (record { row = length ks; monomial = k.monomial }) old new → IsIndex new (ks ++ k ∷ [])
IsIndex-push old new ks k h more = λ q.
    more q
    ∙ (λ i. h q i ++ cond (k.position == q) (record { row = sym (zero-add (length ks)) i; monomial = k.monomial } ∷ []) [])
    ∙ sym (leads_at-push q 0 ks k)

pub IsIndex-same : (old new : List (List NumberedLead)) (ks : List Place) → IsIndex old ks → HaveSameLeads old new
    → IsIndex new ks
IsIndex-same old new ks h same = λ q. same q ∙ h q

-- an empty list at the end
pub HaveSameLeads-push : (old new : List (List NumberedLead)) → HaveSameLeads old new
    → HaveSameLeads old (new ++ [] ∷ [])
HaveSameLeads-push old new h = λ q. appended new q ∙ h q
  where
    appended : (xs : List (List NumberedLead)) (q : ℕ) → slice_index_or (xs ++ [] ∷ []) q [] ≡ slice_index_or xs q []
    appended [] zero = refl
    appended [] (suc q) = refl
    appended (x ∷ xs) zero = refl
    appended (x ∷ xs) (suc q) = appended xs q

-- a list with one more lead at its end
pub HasOneMore-slice_set : (old new : List (List NumberedLead)) (position : ℕ) (there next : List NumberedLead)
    (lead : NumberedLead) → HaveSameLeads old new → position < length new → there ≡ slice_index_or new position there
    → next ≡ there ++ lead ∷ [] → HasOneMore position lead old (slice_set new position next)
HasOneMore-slice_set old new position there next lead h within read pushed = λ q. elim (cases_eq position q) [
  | inl same ↦
      let test : (position == q) ≡ true = (Decides-eqb position q).1 same in
      get_or-set_at new position q next [] (sym same) within
      ∙ pushed
      ∙ (λ i. (get_or_read new position there within read [] ∙ ap (λ r. slice_index_or new r []) same ∙ h q) i ++ cond (sym test i) (lead ∷ []) [])
  | inr other ↦
      let test : (position == q) ≡ false =
      false_from_ne_true (position == q) (λ e. other ((Decides-eqb position q).0 e)) in
      get_or-set_other new position q next [] (λ e. other (sym e))
      ∙ h q
      ∙ sym (append-nil (slice_index_or old q []))
      ∙ (λ i. slice_index_or old q [] ++ cond (sym test i) (lead ∷ []) [])
]
