-- A pair among others stands among them in the order of their pushes.
use Rattle.std.proofs.Common.{◌≡◌, inl, inr, ◌==◌, true, cond, ℕ, zero, suc, ◌<◌, ◌≤◌, List, [], ◌∷◌, ◌++◌, refl, sym, ◌∙◌, ap, subst, arith, append_assoc}
use Rattle.std.proofs.lemmas.Bool.{cases_lt, cases_Bool, eqb-true}
use Rattle.std.proofs.lemmas.Bool.Decides.{nat_tests}
use Rattle.std.specs.List.{AllByRecursion}
use Rattle.sf_pairs.specs.Queue.{QueuedPair}
use Rattle.sf_pairs.specs.Pushes.{NumberedPair, pushed_at, in_order}

-- no pair of this number
abbrev pub HasOther : ℕ → List NumberedPair → Type 0
HasOther n = AllByRecursion (λ (f : NumberedPair). f.number ≡ n → ⊥)

cond_other : {X : Type 0} (m n : ℕ) (x y : X) → (m ≡ n → ⊥) → cond (m == n) x y ≡ y
cond_other m n x y different = elim (cases_Bool (m == n)) [
  | inl same ↦ absurd (different (eqb-true m n same))
  | inr none ↦ ap (λ b. cond b x y) none
]

eqb-equal : (m n : ℕ) → m ≡ n → (m == n) ≡ true
eqb-equal m n same = elim (cases_Bool (m == n)) [
  | inl yes_same ↦ yes_same
  | inr none ↦ grind (arith, nat_tests)
]

cond_same : {X : Type 0} (m n : ℕ) (x y : X) → m ≡ n → cond (m == n) x y ≡ x
cond_same m n x y same = ap (λ b. cond b x y) (eqb-equal m n same)

pushed_at-none : (n : ℕ) (es : List NumberedPair) → HasOther n es → pushed_at n es ≡ []
pushed_at-none n [] h = refl
pushed_at-none n (e ∷ es) h = cond_other e.number n _ _ h.0 ∙ pushed_at-none n es h.1

module _ (e : NumberedPair) where
  pushed_at-other : (n : ℕ) (xs ys : List NumberedPair) → (e.number ≡ n → ⊥)
      → pushed_at n (xs ++ e ∷ ys) ≡ pushed_at n (xs ++ ys)
  pushed_at-other n [] ys different = cond_other e.number n _ _ different
  pushed_at-other n (x ∷ xs) ys different =
      ap (λ l. cond (x.number == n) (x.pair ∷ l) l) (pushed_at-other n xs ys different)

  pushed_at-own : (n : ℕ) (xs ys : List NumberedPair) → e.number ≡ n → HasOther n (xs ++ ys)
      → pushed_at n (xs ++ e ∷ ys) ≡ e.pair ∷ []
  pushed_at-own n [] ys same others =
      cond_same e.number n _ _ same ∙ ap (λ l. e.pair ∷ l) (pushed_at-none n ys others)
  pushed_at-own n (x ∷ xs) ys same others = cond_other x.number n _ _ others.0 ∙ pushed_at-own n xs ys same others.1

  -- earlier pushes are the same
  pub in_order-earlier : (n : ℕ) (xs ys : List NumberedPair) → n ≤ e.number
      → in_order n (xs ++ e ∷ ys) ≡ in_order n (xs ++ ys)
  in_order-earlier zero xs ys early = refl
  in_order-earlier (suc n) xs ys early =
      let other : e.number ≡ n → ⊥ = λ same. omega (arith, same, early) in
      λ i. in_order-earlier n xs ys (omega (arith, early)) i ++ pushed_at-other n xs ys other i

  -- the last push comes last
  pub in_order-last : (n : ℕ) (xs ys : List NumberedPair) → e.number ≡ n → HasOther n (xs ++ ys)
      → in_order (suc n) (xs ++ e ∷ ys) ≡ in_order n (xs ++ ys) ++ e.pair ∷ []
  in_order-last n xs ys same others =
      let early : n ≤ e.number = omega (arith, same) in
      λ i. in_order-earlier n xs ys early i ++ pushed_at-own n xs ys same others i

  -- an earlier one stands between those before it and those after it
  pub in_order-between : (n : ℕ) (xs ys : List NumberedPair) → e.number < n → HasOther e.number (xs ++ ys)
      → (after : List QueuedPair)
      × (in_order n (xs ++ e ∷ ys) ≡ in_order e.number (xs ++ ys) ++ e.pair ∷ after)
      × (in_order n (xs ++ ys) ≡ in_order e.number (xs ++ ys) ++ after)
  in_order-between zero xs ys early others = absurd (omega (arith, early))
  in_order-between (suc n) xs ys early others = elim (cases_lt e.number n) [
    | inl earlier ↦
        let h = in_order-between n xs ys earlier others in
        let other : e.number ≡ n → ⊥ = λ same. omega (arith, same, earlier) in
        let before = in_order e.number (xs ++ ys) in (
          h.0 ++ pushed_at n (xs ++ ys),
          (λ i. h.1 i ++ pushed_at-other n xs ys other i) ∙ append_assoc before (e.pair ∷ h.0) (pushed_at n (xs ++ ys)),
          (λ i. h.2 i ++ pushed_at n (xs ++ ys)) ∙ append_assoc before h.0 (pushed_at n (xs ++ ys)),
        )
    | inr past ↦
        let same : e.number ≡ n = omega (arith, early, past) in
        let others_n = subst (λ k. HasOther k (xs ++ ys)) same others in (
          [],
          in_order-last n xs ys same others_n ∙ ap (λ k. in_order k (xs ++ ys) ++ e.pair ∷ []) (sym same),
          (λ i. in_order (sym same i) (xs ++ ys) ++ pushed_at-none n (xs ++ ys) others_n i),
        )
  ]
