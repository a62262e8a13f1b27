-- Dickson's lemma: a list of monomials, none of which an earlier one divides, does not go on for ever. (Cox, Little,
-- O'Shea, "Ideals, Varieties, and Algorithms", chapter 2, section 4.) Here as well-founded recursion on the list, the
-- last one first.
use Rattle.std.proofs.Common.{◌≡◌, Bool, true, false, ◌&&◌, inl, inr, ℕ, zero, suc, ◌+◌, ◌-◌, ◌<◌, ◌≤◌, List, [], ◌∷◌, map, nat_le, IsFalse, refl, sym, ap, subst, arith}
use Rattle.std.specs.List.{list_any}
use Rattle.std.proofs.lemmas.Bool.{cases_lt, cases_Bool, or_cases, or_left, or_right, or_parts, or_from, and_from, and_parts, eq-eqb, le-leb, leb-true, false_from_ne_true}
use mathlib.Core.WellFounded.{Acc}
use Rattle.sf_algebra.specs.Vectors.{Place}
use Rattle.sf_groebner.specs.Leads.{place_divides}
use Rattle.sf_groebner.proofs.Basics.Accessible.{image_acc}

-- one item more, that meets the condition and that no item of the list divides by the test
abbrev pub AddsItem : {A : Type 0} → (A → A → Bool) → (A → Type 0) → List A → List A → Type 0
AddsItem {A} test P ys xs = (a : A) × (ys ≡ a ∷ xs) × IsFalse (list_any (λ x. test x a) xs) × P a

-- the test of pairs of an exponent and what else there is
abbrev pub divides_pair : {A : Type 0} → (A → A → Bool) → ℕ × A → ℕ × A → Bool
divides_pair test x y = nat_le x.0 y.0 && test x.1 y.1

module _ {A : Type 0} (test : A → A → Bool) where
  -- one item more with an exponent that is allowed
  abbrev AddsPair : (ℕ → Type 0) → List (ℕ × A) → List (ℕ × A) → Type 0
  AddsPair allowed ys xs = AddsItem (divides_pair test) (λ (x : ℕ × A). allowed x.0) ys xs

  -- what an item of the first list divides is divided by a pair of the second, where its exponent is no less than m
  abbrev AreCovered : ℕ → List A → List (ℕ × A) → Type 0
  AreCovered m s xs =
      (y : ℕ × A) → m ≤ y.0 → list_any (λ x. test x y.1) s ≡ true → list_any (λ x. divides_pair test x y) xs ≡ true

  covered_longer : (m : ℕ) (s : List A) (x : ℕ × A) (xs : List (ℕ × A)) → AreCovered m s xs → AreCovered m s (x ∷ xs)
  covered_longer m s x xs covered = λ y bound e. or_right (divides_pair test x y) _ (covered y bound e)

  covered_both : (m l : ℕ) (s : List A) (x : ℕ × A) (xs : List (ℕ × A)) → m ≤ l → x.0 ≤ l → AreCovered m s xs
      → AreCovered l (x.1 ∷ s) (x ∷ xs)
  covered_both m l s x xs up high covered = λ y bound e.
      elim (or_cases (test x.1 y.1) _ e) [
        | inl first ↦ or_left (divides_pair test x y) _
            (and_from (nat_le x.0 y.0) _ (le-leb x.0 y.0 (omega arith)) first)
        | inr rest ↦ or_right (divides_pair test x y) _ (covered y (omega arith) rest)
      ]

  module _ (allowed enough : ℕ → Type 0)
      (bounded : (m : ℕ) → enough m → (xs : List (ℕ × A)) → Acc (AddsPair (λ e. e < m)) xs)
      (raise : (m e : ℕ) → enough m → allowed e → (l : ℕ) × enough l × (m ≤ l) × (e ≤ l)) where
    -- as long as the first list divides all that comes
    same_items : (s : List A) (m : ℕ) → enough m
        → ((t : List A) → AddsItem test (λ _. Unit {0}) t s → (l : ℕ) → enough l → (ys : List (ℕ × A))
        → AreCovered l t ys → Acc (AddsPair allowed) ys)
        → (xs : List (ℕ × A)) → Acc (AddsPair (λ e. e < m)) xs → AreCovered m s xs → Acc (AddsPair allowed) xs
    same_items s m fine further xs (Acc.intro zs h) covered =
        Acc.intro zs (λ ys add.
        elim (cases_Bool (list_any (λ x. test x add.0.1) s)) [
          | inl divided ↦
              let low : add.0.0 < m =
              elim (cases_lt add.0.0 m) [ inl less ↦ less | inr high ↦ let e = covered add.0 high divided in let n = add.2 in cc ] in
              same_items s m fine further ys (h ys (add.0, add.1, add.2, low))
              (subst (AreCovered m s) (sym add.1) (covered_longer m s add.0 zs covered))
          | inr not_divided ↦
              let r = raise m add.0.0 fine add.3 in
              further (add.0.1 ∷ s) (add.0.1, refl, not_divided, tt) r.0 r.1 ys
              (subst (AreCovered r.0 (add.0.1 ∷ s)) (sym add.1) (covered_both m r.0 s add.0 zs r.2 r.3 covered))
        ])

    more_items : (s : List A) → Acc (AddsItem test (λ _. Unit {0})) s → (m : ℕ) → enough m → (xs : List (ℕ × A))
        → AreCovered m s xs → Acc (AddsPair allowed) xs
    more_items s (Acc.intro t h) m fine xs covered =
        same_items t m fine (λ u add l more ys c. more_items u (h u add) l more ys c) xs (bounded m fine xs) covered

  -- where exponents are less than m
  bounded_acc : ((s : List A) → Acc (AddsItem test (λ _. Unit {0})) s) → (m : ℕ) (xs : List (ℕ × A))
      → Acc (AddsPair (λ e. e < m)) xs
  bounded_acc acc zero xs = Acc.intro xs (λ ys add. absurd (omega arith))
  bounded_acc acc (suc m) xs =
      more_items (λ e. e < suc m) (λ l. l ≡ m)
      (λ l same ys. subst (λ k. Acc (AddsPair (λ e. e < k)) ys) (sym same) (bounded_acc acc m ys))
      (λ l e same low. (l, same, omega arith, omega arith))
      [] (acc []) m refl xs (λ y bound e. cc)

  -- lists of pairs, where lists of the second parts are well founded
  pub pairs_acc : ((s : List A) → Acc (AddsItem test (λ _. Unit {0})) s) → (xs : List (ℕ × A))
      → Acc (AddsItem (divides_pair test) (λ _. Unit {0})) xs
  pairs_acc acc xs =
      more_items (λ _. Unit {0}) (λ _. Unit {0}) (λ l _ ys. bounded_acc acc l ys)
      (λ l e _ _. (l + e, tt, omega arith, omega arith))
      [] (acc []) 0 tt xs (λ y bound e. cc)

-- lists of items each of which divides each
unit_acc : (xs : List (Unit {0})) → Acc (AddsItem (λ _ _. true) (λ _. Unit {0})) xs
unit_acc xs =
    Acc.intro xs (λ ys add. Acc.intro ys (λ zs more. let e : list_any (λ _. true) (add.0 ∷ xs) ≡ false = subst (λ l. list_any (λ _. true) l ≡ false) add.1 more.2 in cc))

-- the numbers of a place of a position below n: such a place divides another where none of its numbers is greater
abbrev Numbers : Type 0
Numbers = ℕ × (ℕ × (ℕ × (ℕ × (ℕ × (ℕ × (ℕ × (ℕ × Unit {0})))))))

abbrev numbers : ℕ → Place → Numbers
numbers n k =
    (k.position, (n - k.position, (k.monomial.e1, (k.monomial.e2, (k.monomial.e3, (k.monomial.e4, (k.monomial.e5, (k.monomial.e6, tt))))))))

abbrev divides_numbers : Numbers → Numbers → Bool
divides_numbers =
    divides_pair (divides_pair (divides_pair (divides_pair (divides_pair (divides_pair (divides_pair (divides_pair (λ _ _. true))))))))

numbers_acc : (xs : List Numbers) → Acc (AddsItem divides_numbers (λ _. Unit {0})) xs
numbers_acc =
    pairs_acc _ (pairs_acc _ (pairs_acc _ (pairs_acc _ (pairs_acc _ (pairs_acc _ (pairs_acc _ (pairs_acc _ unit_acc)))))))

divides_numbers-place : (n : ℕ) (j k : Place) → k.position < n → divides_numbers (numbers n j) (numbers n k) ≡ true
    → place_divides j k ≡ true
divides_numbers-place n j k low e =
    let p = and_parts (nat_le j.position k.position) _ e in
    let q = and_parts (nat_le (n - j.position) (n - k.position)) _ p.1 in
    let r1 = and_parts (nat_le j.monomial.e1 k.monomial.e1) _ q.1 in
    let r2 = and_parts (nat_le j.monomial.e2 k.monomial.e2) _ r1.1 in
    let r3 = and_parts (nat_le j.monomial.e3 k.monomial.e3) _ r2.1 in
    let r4 = and_parts (nat_le j.monomial.e4 k.monomial.e4) _ r3.1 in
    let r5 = and_parts (nat_le j.monomial.e5 k.monomial.e5) _ r4.1 in
    let r6 = and_parts (nat_le j.monomial.e6 k.monomial.e6) _ r5.1 in
    let above : j.position ≤ k.position = leb-true _ _ p.0 in
    let below : n - j.position ≤ n - k.position = leb-true _ _ q.0 in
    and_from _ _ (eq-eqb j.position k.position (omega arith))
    (and_from _ _ r1.0 (and_from _ _ r2.0 (and_from _ _ r3.0 (and_from _ _ r4.0 (and_from _ _ r5.0 r6.0)))))

none_divides : (n : ℕ) (k : Place) → k.position < n → (ks : List Place) → list_any (λ j. place_divides j k) ks ≡ false
    → list_any (λ x. divides_numbers x (numbers n k)) (map (numbers n) ks) ≡ false
none_divides n k low [] e = refl
none_divides n k low (j ∷ ks) e =
    let p = or_parts (place_divides j k) _ e in
    or_from (divides_numbers (numbers n j) (numbers n k)) _
    (false_from_ne_true _ (λ divided. let d = divides_numbers-place n j k low divided in let f = p.0 in cc)) (none_divides n k low ks p.1)

-- one lead more, of a position below n, which none of the leads divides
abbrev pub AddsLead : ℕ → List Place → List Place → Type 0
AddsLead n js ks = AddsItem place_divides (λ (k : Place). k.position < n) js ks

-- leads of positions below n, none of which an earlier one divides, come to an end
pub leads_acc : (n : ℕ) (ks : List Place) → Acc (AddsLead n) ks
leads_acc n ks =
    image_acc (AddsItem divides_numbers (λ _. Unit {0})) (AddsLead n) (map (numbers n))
    (λ js is add. (numbers n add.0, ap (map (numbers n)) add.1, none_divides n add.0 add.3 is add.2, tt))
    ks (numbers_acc (map (numbers n) ks))
