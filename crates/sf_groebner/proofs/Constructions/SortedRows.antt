-- Lists of vectors that are apart can be sorted: insertion one by one.
use Rattle.std.proofs.Common.{◌≡◌, ◌≢◌, Bool, true, false, inl, inr, suc, List, [], ◌∷◌, length, refl, ◌∙◌, ap, subst}
use Rattle.std.proofs.lemmas.Bool.{or_cases, or_left, or_parts, or_right}
use Rattle.std.proofs.lemmas.Cmp.{int_cmp_total}
use Rattle.std.specs.declared.cmp.Ordering.TheVariants.{Less, Equal}
use Rattle.std.specs.FinMap.{int_cmp-IsAntisymmetric}
use Rattle.std.specs.List.{AllByRecursion}
use Rattle.std.specs.Ordering.{int_cmp, match_ordering, ordering_reverse, ordering_then}
use Rattle.sf_algebra.specs.Rings.{Weights}
use Rattle.sf_algebra.specs.Terms.{Term}
use Rattle.sf_algebra.specs.Vectors.{Place, Vector}
use Rattle.sf_algebra.proofs.Basics.Lists.{AllByRecursion-weaken}
use Rattle.sf_algebra.proofs.Monomials.Comparisons.{ordering_then-Less}
use Rattle.sf_algebra.proofs.Monomials.Orders.{match_ordering_cases, ordering_then-Equal, place_cmp-Equal, place_cmp_total}
use Rattle.sf_groebner.specs.Criterion.{lead_place}
use Rattle.sf_groebner.specs.Leads.{place_divides}
use Rattle.sf_groebner.specs.ReducedBases.{AreApart, IsApart, IsMonic, IsReducedBy, IsSorted, is_divided, lead_cmp, lead_divides, row_cmp}
use Rattle.sf_groebner.proofs.Basics.Items.{AllByRecursion-both}
use Rattle.sf_groebner.proofs.Constructions.LeadDivisors.{lead_divides-own}
use Rattle.sf_groebner.proofs.Uniqueness.Sorted.{row_cmp-antisymm}

lead_cmp-trans : (weights : Weights) (ts us vs : List (Term Place)) → lead_cmp weights ts us ≡ Less
    → lead_cmp weights us vs ≡ Less → lead_cmp weights ts vs ≡ Less
lead_cmp-trans weights [] us vs h k = cc
lead_cmp-trans weights (t ∷ ts) [] vs h k = cc
lead_cmp-trans weights (t ∷ ts) (u ∷ us) [] h k = cc
lead_cmp-trans weights (t ∷ ts) (u ∷ us) (v ∷ vs) h k = (place_cmp_total weights).trans t.at u.at v.at h k

-- rows in order: by degree, then by leads
pub row_cmp-trans : (weights : Weights) (u v w : Vector) → row_cmp weights u v ≡ Less → row_cmp weights v w ≡ Less
    → row_cmp weights u w ≡ Less
row_cmp-trans weights u v w h k =
    elim (ordering_then-Less _ _ h) [
      | inl first ↦ elim (ordering_then-Less _ _ k) [
        | inl second ↦ by_degree (int_cmp_total.trans u.degree v.degree w.degree first second)
        | inr both ↦ by_degree
            (subst (λ d. int_cmp u.degree d ≡ Less) (int_cmp-IsAntisymmetric v.degree w.degree both.0) first)
      ]
      | inr one ↦ elim (ordering_then-Less _ _ k) [
        | inl second ↦ by_degree (int_cmp_total.congr u.degree v.degree w.degree one.0 ∙ second)
        | inr both ↦
            ap (λ o. ordering_then o (lead_cmp weights w.terms u.terms))
            (int_cmp_total.congr u.degree v.degree w.degree one.0 ∙ both.0)
            ∙ lead_cmp-trans weights w.terms v.terms u.terms both.1 one.1
      ]
    ]
  where
    by_degree : int_cmp u.degree w.degree ≡ Less → row_cmp weights u w ≡ Less
    by_degree less = ap (λ o. ordering_then o (lead_cmp weights w.terms u.terms)) less

same_lead : (weights : Weights) (ts us : List (Term Place)) → IsMonic ts → IsMonic us → lead_cmp weights ts us ≡ Equal
    → lead_divides us (lead_place ts) ≡ true
same_lead weights [] us h k e = absurd h
same_lead weights (t ∷ ts) [] h k e = absurd k
same_lead weights (t ∷ ts) (u ∷ us) h k e =
    ap (λ j. place_divides u.at j) (place_cmp-Equal weights t.at u.at e) ∙ lead_divides-own (u ∷ us) k

reduced_lead : (w : Vector) (ts : List (Term Place)) → IsMonic ts → IsReducedBy (w ∷ []) ts
    → lead_divides w.terms (lead_place ts) ≡ false
reduced_lead w [] h free = absurd h
reduced_lead w (t ∷ ts) h free = (or_parts (lead_divides w.terms t.at) false free.0).0

-- rows that are apart do not stand at one place in the order
pub AreApart-row_cmp : (weights : Weights) (v w : Vector) → IsMonic v.terms → IsMonic w.terms → AreApart v w
    → row_cmp weights v w ≢ Equal
AreApart-row_cmp weights v w h k apart e =
    let divided : lead_divides v.terms (lead_place w.terms) ≡ true =
    same_lead weights w.terms v.terms k h (ordering_then-Equal _ _ e).1 in
    let free : lead_divides v.terms (lead_place w.terms) ≡ false = reduced_lead v w.terms k apart.1 in
    clash (lead_divides v.terms (lead_place w.terms)) divided free
  where
    clash : (b : Bool) → b ≡ true → b ≡ false → ⊥
    clash b divided free = cc

-- a row at its place among sorted rows
unfoldable pub insert_row : (weights : Weights) → Vector → List Vector → List Vector
insert_row weights v [] = v ∷ []
insert_row weights v (w ∷ ws) =
    match_ordering (row_cmp weights v w) (v ∷ w ∷ ws) (v ∷ w ∷ ws) (w ∷ insert_row weights v ws)

AllByRecursion-insert_row : (weights : Weights) (P : Vector → Type 0) (v : Vector) (ws : List Vector) → P v
    → AllByRecursion P ws → AllByRecursion P (insert_row weights v ws)
unfolding insert_row
AllByRecursion-insert_row weights P v [] h k = (h, tt)
AllByRecursion-insert_row weights P v (w ∷ ws) h k =
    match_ordering_cases (row_cmp weights v w) _ _ _ (AllByRecursion P) (λ less. (h, k)) (λ equal. (h, k))
    (λ greater. (k.0, AllByRecursion-insert_row weights P v ws h k.1))

is_divided-insert_row : (weights : Weights) (v : Vector) (ws : List Vector) (k : Place) → is_divided (v ∷ ws) k ≡ true
    → is_divided (insert_row weights v ws) k ≡ true
unfolding insert_row
is_divided-insert_row weights v [] k h = h
is_divided-insert_row weights v (w ∷ ws) k h =
    match_ordering_cases (row_cmp weights v w) _ _ _ (λ l. is_divided l k ≡ true) (λ less. h) (λ equal. h)
    (λ greater. elim (or_cases (lead_divides v.terms k) (is_divided (w ∷ ws) k) h) [
      | inl first ↦ or_right (lead_divides w.terms k) _
          (is_divided-insert_row weights v ws k (or_left (lead_divides v.terms k) _ first))
      | inr behind ↦ elim (or_cases (lead_divides w.terms k) (is_divided ws k) behind) [
        | inl second ↦ or_left (lead_divides w.terms k) _ second
        | inr rest ↦ or_right (lead_divides w.terms k) _
            (is_divided-insert_row weights v ws k (or_right (lead_divides v.terms k) _ rest))
      ]
    ])

IsApart-insert_row : (weights : Weights) (v : Vector) (ws : List Vector) → AllByRecursion (AreApart v) ws → IsApart ws
    → IsApart (insert_row weights v ws)
unfolding insert_row
IsApart-insert_row weights v [] h k = (tt, tt)
IsApart-insert_row weights v (w ∷ ws) h k =
    match_ordering_cases (row_cmp weights v w) _ _ _ IsApart (λ less. (h, k)) (λ equal. (h, k))
    (λ greater. (AllByRecursion-insert_row weights (AreApart w) v ws (h.0.1, h.0.0) k.0, IsApart-insert_row weights v ws h.1 k.1))

IsSorted-insert_row : (weights : Weights) (v : Vector) (ws : List Vector)
    → AllByRecursion (λ w. row_cmp weights v w ≢ Equal) ws → IsSorted weights ws
    → IsSorted weights (insert_row weights v ws)
unfolding insert_row
IsSorted-insert_row weights v [] h k = (tt, tt)
IsSorted-insert_row weights v (w ∷ ws) h k =
    match_ordering_cases (row_cmp weights v w) _ _ _ (IsSorted weights)
    (λ less. ((less, AllByRecursion-weaken _ _ (λ x further. row_cmp-trans weights v w x less further) ws k.0), k))
    (λ equal. absurd (h.0 equal))
    (λ greater.
    let less : row_cmp weights w v ≡ Less = row_cmp-antisymm weights w v ∙ ap ordering_reverse greater in
    (AllByRecursion-insert_row weights (λ x. row_cmp weights w x ≡ Less) v ws less k.0, IsSorted-insert_row weights v ws h.1 k.1))

-- rows one by one at their places
unfoldable pub sort_rows : (weights : Weights) → List Vector → List Vector
sort_rows weights [] = []
sort_rows weights (v ∷ vs) = insert_row weights v (sort_rows weights vs)

pub AllByRecursion-sort_rows : (weights : Weights) (P : Vector → Type 0) (vs : List Vector) → AllByRecursion P vs
    → AllByRecursion P (sort_rows weights vs)
unfolding sort_rows
AllByRecursion-sort_rows weights P [] h = tt
AllByRecursion-sort_rows weights P (v ∷ vs) h =
    AllByRecursion-insert_row weights P v (sort_rows weights vs) h.0 (AllByRecursion-sort_rows weights P vs h.1)

length-insert_row : (weights : Weights) (v : Vector) (ws : List Vector)
    → length (insert_row weights v ws) ≡ suc (length ws)
unfolding insert_row
length-insert_row weights v [] = refl
length-insert_row weights v (w ∷ ws) =
    match_ordering_cases (row_cmp weights v w) _ _ _ (λ (l : List Vector). length l ≡ suc (length (w ∷ ws)))
    (λ less. refl) (λ equal. refl) (λ greater. ap suc (length-insert_row weights v ws))

-- as many rows as before
pub length-sort_rows : (weights : Weights) (vs : List Vector) → length (sort_rows weights vs) ≡ length vs
unfolding sort_rows
length-sort_rows weights [] = refl
length-sort_rows weights (v ∷ vs) =
    length-insert_row weights v (sort_rows weights vs) ∙ ap suc (length-sort_rows weights vs)

pub is_divided-sort_rows : (weights : Weights) (vs : List Vector) (k : Place) → is_divided vs k ≡ true
    → is_divided (sort_rows weights vs) k ≡ true
unfolding sort_rows
is_divided-sort_rows weights [] k h = h
is_divided-sort_rows weights (v ∷ vs) k h =
    is_divided-insert_row weights v (sort_rows weights vs) k
    (elim (or_cases (lead_divides v.terms k) (is_divided vs k) h) [
      | inl first ↦ or_left (lead_divides v.terms k) _ first
      | inr rest ↦ or_right (lead_divides v.terms k) _ (is_divided-sort_rows weights vs k rest)
    ])

pub IsApart-sort_rows : (weights : Weights) (vs : List Vector) → IsApart vs → IsApart (sort_rows weights vs)
unfolding sort_rows
IsApart-sort_rows weights [] h = tt
IsApart-sort_rows weights (v ∷ vs) h =
    IsApart-insert_row weights v (sort_rows weights vs) (AllByRecursion-sort_rows weights (AreApart v) vs h.0)
    (IsApart-sort_rows weights vs h.1)

pub IsSorted-sort_rows : (weights : Weights) (vs : List Vector) → AllByRecursion (λ (v : Vector). IsMonic v.terms) vs
    → IsApart vs → IsSorted weights (sort_rows weights vs)
unfolding sort_rows
IsSorted-sort_rows weights [] m h = tt
IsSorted-sort_rows weights (v ∷ vs) m h =
    IsSorted-insert_row weights v (sort_rows weights vs)
    (AllByRecursion-sort_rows weights (λ w. row_cmp weights v w ≢ Equal) vs
    (AllByRecursion-both (λ w. IsMonic w.terms) (AreApart v) (λ w. row_cmp weights v w ≢ Equal) (λ w one apart. AreApart-row_cmp weights v w m.0 one apart) vs m.1 h.0))
    (IsSorted-sort_rows weights vs m.1 h.1)
