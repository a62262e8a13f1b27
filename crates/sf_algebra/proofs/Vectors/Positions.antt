-- The terms of a vector by their positions: a descending list of terms is set by its entries.
use Rattle.std.proofs.Common.{◌≡◌, ◌≢◌, refl, ℕ, ◌+◌, ◌<◌, ◌≤◌, List, [], ◌∷◌, ◌++◌, sym, ap, ◌∙◌, subst, inl, inr, arith}
use Rattle.std.specs.declared.cmp.Ordering.TheVariants.{Less, Equal}
use Rattle.std.specs.List.{AllByRecursion}
use Rattle.std.specs.Ordering.{nat_cmp, ordering_then}
use Rattle.std.proofs.lemmas.Bool.{cases_eq, cases_lt}
use Rattle.std.proofs.lemmas.Bool.Decides.{nat_tests}
use Rattle.std.proofs.lemmas.List.Elements.{filter_map-append}
use Rattle.sf_algebra.specs.MatrixOperations.{at_position}
use Rattle.sf_algebra.specs.Monomials.{Monomial, monomial_cmp}
use Rattle.sf_algebra.specs.Rings.{Ring, Weights}
use Rattle.sf_algebra.specs.Terms.{Term, IsDescending, IsNonzeroResidue, IsCanonical}
use Rattle.sf_algebra.specs.Vectors.{Place, place_cmp, entry, IsCanonicalRow}
use Rattle.sf_algebra.proofs.Basics.Lists.{AllByRecursion-weaken}
use Rattle.sf_algebra.proofs.Vectors.Entries.{without_position, entry-here, entry-elsewhere, entry-past, IsDescending-positions}

-- a term of a polynomial, at a position
abbrev pub with_position : ℕ → Term Monomial → Term Place
with_position i t = record { at = record { position = i; monomial = t.at }; coefficient = t.coefficient }

pub entry-append : (i : ℕ) (ts us : List (Term Place)) → entry i (ts ++ us) ≡ entry i ts ++ entry i us
entry-append i ts us = filter_map-append _ ts us

pub entry-at_position : (i j : ℕ) (es : List (Term Monomial)) → i ≡ j → entry j (at_position i es) ≡ es
entry-at_position i j [] same = refl
entry-at_position i j (e ∷ es) same =
    entry-here j (with_position i e) (at_position i es) same ∙ ap (λ l. e ∷ l) (entry-at_position i j es same)

pub entry-at_position_other : (i j : ℕ) (es : List (Term Monomial)) → i ≢ j → entry j (at_position i es) ≡ []
entry-at_position_other i j [] other = refl
entry-at_position_other i j (e ∷ es) other =
    entry-elsewhere j (with_position i e) (at_position i es) other ∙ entry-at_position_other i j es other

-- what holds of the terms at a position holds of the entry's terms, and the other way round
pub AllByRecursion-entry : (P : Term Place → Type 0) (j : ℕ) (ts : List (Term Place)) → AllByRecursion P ts
    → AllByRecursion (λ e. P (with_position j e)) (entry j ts)
AllByRecursion-entry P j [] h = tt
AllByRecursion-entry P j (t ∷ ts) h =
    elim (cases_eq t.at.position j) [
      | inl here ↦
          let first : P (with_position j (without_position t)) =
          subst (λ i. P (with_position i (without_position t))) here h.0 in
          subst (AllByRecursion (λ e. P (with_position j e))) (sym (entry-here j t ts here))
          (first, AllByRecursion-entry P j ts h.1)
      | inr elsewhere ↦ subst (AllByRecursion (λ e. P (with_position j e))) (sym (entry-elsewhere j t ts elsewhere))
          (AllByRecursion-entry P j ts h.1)
    ]

pub AllByRecursion-at_position : (P : Term Place → Type 0) (i : ℕ) (es : List (Term Monomial))
    → AllByRecursion (λ e. P (with_position i e)) es → AllByRecursion P (at_position i es)
AllByRecursion-at_position P i [] h = tt
AllByRecursion-at_position P i (e ∷ es) h = (h.0, AllByRecursion-at_position P i es h.1)

nat_cmp-same : (i : ℕ) → nat_cmp i i ≡ Equal
nat_cmp-same i = grind (arith, nat_tests)

-- at one position the monomials decide
pub place_cmp-position : (weights : Weights) (i : ℕ) (a b : Monomial)
    → place_cmp weights (record { position = i; monomial = a }) (record { position = i; monomial = b })
    ≡ monomial_cmp weights a b
place_cmp-position weights i a b = ap (λ o. ordering_then o (monomial_cmp weights a b)) (nat_cmp-same i)

nat_cmp-before : (i j : ℕ) → i < j → nat_cmp i j ≡ Less
nat_cmp-before i j h = grind (arith, nat_tests)

-- a place at a later position is less
pub place_cmp-later : (weights : Weights) (a b : Place) → b.position < a.position → place_cmp weights a b ≡ Less
place_cmp-later weights a b h =
    ap (λ o. ordering_then o (monomial_cmp weights a.monomial b.monomial)) (nat_cmp-before b.position a.position h)

pub IsDescending-entry : (weights : Weights) (j : ℕ) (ts : List (Term Place)) → IsDescending (place_cmp weights) ts
    → IsDescending (monomial_cmp weights) (entry j ts)
IsDescending-entry weights j [] h = tt
IsDescending-entry weights j (t ∷ ts) h =
    elim (cases_eq t.at.position j) [
      | inl here ↦
          let first : AllByRecursion (λ (e : Term Monomial). monomial_cmp weights e.at t.at.monomial ≡ Less) (entry j ts) =
          AllByRecursion-weaken _ _
          (λ e less. sym (place_cmp-position weights j e.at t.at.monomial) ∙ ap (λ i. place_cmp weights (record { position = j; monomial = e.at }) (record { position = i; monomial = t.at.monomial })) (sym here) ∙ less)
          (entry j ts)
          (AllByRecursion-entry (λ u. place_cmp weights u.at t.at ≡ Less) j ts h.0) in
          subst (IsDescending (monomial_cmp weights)) (sym (entry-here j t ts here))
          (first, IsDescending-entry weights j ts h.1)
      | inr elsewhere ↦ subst (IsDescending (monomial_cmp weights)) (sym (entry-elsewhere j t ts elsewhere))
          (IsDescending-entry weights j ts h.1)
    ]

pub IsDescending-at_position : (weights : Weights) (i : ℕ) (es : List (Term Monomial))
    → IsDescending (monomial_cmp weights) es → IsDescending (place_cmp weights) (at_position i es)
IsDescending-at_position weights i [] h = tt
IsDescending-at_position weights i (e ∷ es) h = (
  AllByRecursion-at_position (λ u. place_cmp weights u.at (with_position i e).at ≡ Less) i es
      (AllByRecursion-weaken _ _ (λ f less. place_cmp-position weights i f.at e.at ∙ less) es h.0),
  IsDescending-at_position weights i es h.1,
)

-- an entry of a canonical list is canonical
pub IsCanonical-entry : (ring : Ring) (j : ℕ) (ts : List (Term Place)) → IsCanonicalRow ring ts
    → IsCanonical (monomial_cmp ring.weights) ring.modulus (entry j ts)
IsCanonical-entry ring j ts h = record {
  descending = IsDescending-entry ring.weights j ts h.descending;
  residues = AllByRecursion-entry (IsNonzeroResidue ring.modulus) j ts h.residues;
}

-- a list whose first term stands before all terms of another has not the other's entries
not_before : (t : Term Place) (ts us : List (Term Place)) → AllByRecursion (λ u. t.at.position + 1 ≤ u.at.position) us
    → entry t.at.position (t ∷ ts) ≢ entry t.at.position us
not_before t ts us later same =
    let none = sym (entry-here t.at.position t ts refl) ∙ same ∙ entry-past t.at.position us later in cc

later_positions : (weights : Weights) (i : ℕ) (t : Term Place) (ts : List (Term Place))
    → IsDescending (place_cmp weights) (t ∷ ts) → i < t.at.position
    → AllByRecursion (λ u. i + 1 ≤ u.at.position) (t ∷ ts)
later_positions weights i t ts h before =
    (omega arith, AllByRecursion-weaken _ _ (λ u le. omega arith) ts (IsDescending-positions weights t ts h))

-- two lists with equal entries whose first terms stand at one position have equal first terms, and rests with equal
-- entries
same_first : (t u : Term Place) (ts us : List (Term Place)) → t.at.position ≡ u.at.position
    → ((i : ℕ) → entry i (t ∷ ts) ≡ entry i (u ∷ us)) → (t ≡ u) × ((i : ℕ) → entry i ts ≡ entry i us)
same_first t u ts us place same =
    let heads : without_position t ∷ entry t.at.position ts ≡ without_position u ∷ entry t.at.position us =
    sym (entry-here t.at.position t ts refl) ∙ same t.at.position ∙ entry-here t.at.position u us (sym place) in
    let head : without_position t ≡ without_position u = cc in
    let rest : entry t.at.position ts ≡ entry t.at.position us = cc in (
      (λ i. with_position (place i) (head i)),
      (λ j. elim (cases_eq t.at.position j) [
        | inl here ↦ subst (λ i. entry i ts ≡ entry i us) here rest
        | inr elsewhere ↦ sym (entry-elsewhere j t ts elsewhere) ∙ same j
            ∙ entry-elsewhere j u us (λ e. elsewhere (place ∙ e))
      ]),
    )

-- descending lists with equal entries are equal
pub same_from_entries : (weights : Weights) (ts us : List (Term Place)) → IsDescending (place_cmp weights) ts
    → IsDescending (place_cmp weights) us → ((i : ℕ) → entry i ts ≡ entry i us) → ts ≡ us
same_from_entries weights [] [] h k same = refl
same_from_entries weights [] (u ∷ us) h k same = absurd (not_before u us [] tt (sym (same u.at.position)))
same_from_entries weights (t ∷ ts) [] h k same = absurd (not_before t ts [] tt (same t.at.position))
same_from_entries weights (t ∷ ts) (u ∷ us) h k same =
    elim (cases_lt t.at.position u.at.position) [
      | inl before ↦ absurd
          (not_before t ts (u ∷ us) (later_positions weights t.at.position u us k before) (same t.at.position))
      | inr le ↦ elim (cases_lt u.at.position t.at.position) [
        | inl after ↦ absurd
            (not_before u us (t ∷ ts) (later_positions weights u.at.position t ts h after) (sym (same u.at.position)))
        | inr ge ↦
            let place : t.at.position ≡ u.at.position = omega arith in
            let first = same_first t u ts us place same in
            let rest = same_from_entries weights ts us h.1 k.1 first.1 in
            λ i. first.0 i ∷ rest i
      ]
    ]
