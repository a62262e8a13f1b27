-- An item of a list that passes a test is determined by how many before it pass.
use Rattle.std.proofs.Common.{◌≡◌, ℕ, ◌+◌, Bool, true, cond, List, [], ◌∷◌, ◌++◌, refl, sym, ◌∙◌, ap, arith}
use Rattle.std.specs.List.{All, count_by}
use Rattle.std.proofs.lemmas.List.Elements.{All-head, All-tail}
use Rattle.std.proofs.lemmas.List.Sums.{sum_by-cons}

-- what a test's answer adds to a count
abbrev pub one_if : Bool → ℕ
one_if b = cond b 1 0

module _ {X : Type 0} (p : X → Bool) where
  pub count_by-cons : (x : X) (xs : List X) → count_by p (x ∷ xs) ≡ one_if (p x) + count_by p xs
  count_by-cons x xs = sum_by-cons (λ y. cond (p y) 1 0) x xs

  count_by-yes : (x : X) (xs : List X) → p x ≡ true → count_by p (x ∷ xs) ≡ 1 + count_by p xs
  count_by-yes x xs passes = count_by-cons x xs ∙ ap (λ b. one_if b + count_by p xs) passes

  pub same_choice : (xs ys : List X) (x y : X) (us vs : List X) → xs ++ x ∷ us ≡ ys ++ y ∷ vs → p x ≡ true → p y ≡ true
      → count_by p xs ≡ count_by p ys → (xs ≡ ys) × (x ≡ y) × (us ≡ vs)
  same_choice [] [] x y us vs e h k n = (refl, cc, cc)
  same_choice [] (z ∷ ys) x y us vs e h k n =
      let same : x ≡ z = cc in
      let first : p z ≡ true = ap p (sym same) ∙ h in
      absurd (omega (arith, count_by-yes z ys first, n))
  same_choice (w ∷ xs) [] x y us vs e h k n =
      let same : w ≡ y = cc in
      let first : p w ≡ true = ap p same ∙ k in
      absurd (omega (arith, count_by-yes w xs first, n))
  same_choice (w ∷ xs) (z ∷ ys) x y us vs e h k n =
      let same : w ≡ z = cc in
      let rest : xs ++ x ∷ us ≡ ys ++ y ∷ vs = cc in
      let first : one_if (p w) ≡ one_if (p z) = ap (λ v. one_if (p v)) same in
      let fewer : count_by p xs ≡ count_by p ys = omega (arith, count_by-cons w xs, count_by-cons z ys, first, n) in
      let tail = same_choice xs ys x y us vs rest h k fewer in
      (λ i. same i ∷ tail.0 i, tail.1, tail.2)

-- tests that agree at each item count the same
pub count_by-agree : {X : Type 0} (p q : X → Bool) (xs : List X) → All (λ x. p x ≡ q x) xs
    → count_by p xs ≡ count_by q xs
count_by-agree p q [] each = refl
count_by-agree p q (x ∷ xs) each =
    let first = All-head (λ y. p y ≡ q y) x xs each in
    let rest = count_by-agree p q xs (All-tail (λ y. p y ≡ q y) x xs each) in
    count_by-cons p x xs ∙ (λ i. one_if (first i) + rest i) ∙ sym (count_by-cons q x xs)
