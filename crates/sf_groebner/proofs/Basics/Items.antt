-- The items of a list.
use Rattle.std.proofs.Common.{◌≡◌, ◌⊎◌, inl, inr, Bool, true, false, ◌||◌, List, [], ◌∷◌, filter, map, refl, sym, ◌∙◌, ap, subst}
use Rattle.std.specs.List.{AllByRecursion, list_any}
use Rattle.sf_algebra.proofs.Basics.Filters.{cond_cases}

-- x is an item of the list
abbrev pub IsItem : {X : Type 0} → X → List X → Type 0
IsItem x [] = ⊥
IsItem x (y ∷ ys) = (x ≡ y) ⊎ IsItem x ys

-- what holds of each item holds of this one
pub AllByRecursion-item : {X : Type 0} (P : X → Type 0) (xs : List X) (x : X) → AllByRecursion P xs → IsItem x xs → P x
AllByRecursion-item P [] x h item = absurd item
AllByRecursion-item P (y ∷ ys) x h (inl same) = subst P (sym same) h.0
AllByRecursion-item P (y ∷ ys) x h (inr item) = AllByRecursion-item P ys x h.1 item

pub AllByRecursion-from_items : {X : Type 0} (P : X → Type 0) (xs : List X) → ((x : X) → IsItem x xs → P x)
    → AllByRecursion P xs
AllByRecursion-from_items P [] f = tt
AllByRecursion-from_items P (x ∷ xs) f = (f x (inl refl), AllByRecursion-from_items P xs (λ y item. f y (inr item)))

-- two facts of each item
pub AllByRecursion-both : {X : Type 0} (P Q R : X → Type 0) → ((x : X) → P x → Q x → R x) → (xs : List X)
    → AllByRecursion P xs → AllByRecursion Q xs → AllByRecursion R xs
AllByRecursion-both P Q R f [] h k = tt
AllByRecursion-both P Q R f (x ∷ xs) h k = (f x h.0 k.0, AllByRecursion-both P Q R f xs h.1 k.1)

or_false : (a b : Bool) → a ≡ false → b ≡ false → (a || b) ≡ false
or_false a b h k = ap (λ c. c || b) h ∙ k

or_cases : (a b : Bool) → (a || b) ≡ true → (a ≡ true) ⊎ (b ≡ true)
or_cases true b h = inl refl
or_cases false b h = inr h

-- the item that passes
pub list_any-item : {X : Type 0} (test : X → Bool) (xs : List X) → list_any test xs ≡ true
    → (x : X) × IsItem x xs × (test x ≡ true)
list_any-item test [] h = cc
list_any-item test (x ∷ xs) h =
    elim (or_cases (test x) (list_any test xs) h) [
      | inl here ↦ (x, inl refl, here)
      | inr there ↦ let found = list_any-item test xs there in (found.0, inr found.1, found.2)
    ]

-- where none does
pub list_any-none : {X : Type 0} (test : X → Bool) (xs : List X) → AllByRecursion (λ x. test x ≡ false) xs
    → list_any test xs ≡ false
list_any-none test [] h = refl
list_any-none test (x ∷ xs) h = or_false (test x) (list_any test xs) h.0 (list_any-none test xs h.1)

pub IsItem-map : {X Y : Type 0} (f : X → Y) (xs : List X) (x : X) → IsItem x xs → IsItem (f x) (map f xs)
IsItem-map f [] x item = absurd item
IsItem-map f (y ∷ ys) x (inl same) = inl (ap f same)
IsItem-map f (y ∷ ys) x (inr item) = inr (IsItem-map f ys x item)

pub list_any-from_item : {X : Type 0} (test : X → Bool) (xs : List X) (x : X) → IsItem x xs → test x ≡ true
    → list_any test xs ≡ true
list_any-from_item test [] x item h = absurd item
list_any-from_item test (y ∷ ys) x (inl same) h =
    let here : test y ≡ true = ap test (sym same) ∙ h in ap (λ b. b || list_any test ys) here
list_any-from_item test (y ∷ ys) x (inr item) h =
    or_second (test y) (list_any test ys) (list_any-from_item test ys x item h)
  where
    or_second : (a b : Bool) → b ≡ true → (a || b) ≡ true
    or_second true b e = refl
    or_second false b e = e

-- an item that passes a test
pub IsItem-filter : {X : Type 0} (test : X → Bool) (xs : List X) (x : X) → IsItem x xs → test x ≡ true
    → IsItem x (filter test xs)
IsItem-filter test [] x item h = absurd item
IsItem-filter test (y ∷ ys) x (inl same) h =
    cond_cases (test y) (y ∷ filter test ys) (filter test ys) (IsItem x) (λ e. inl same) (λ e. let clash : true ≡ false = sym h ∙ ap test same ∙ e in cc)
IsItem-filter test (y ∷ ys) x (inr item) h =
    let rest = IsItem-filter test ys x item h in
    cond_cases (test y) (y ∷ filter test ys) (filter test ys) (IsItem x) (λ e. inr rest) (λ e. rest)

-- a fact of each item that passes
pub AllByRecursion-filter_map : {X Y : Type 0} (P : X → Type 0) (Q : Y → Type 0) (test : X → Bool) (f : X → Y)
    → ((x : X) → test x ≡ true → P x → Q (f x))
    → (xs : List X) → AllByRecursion P xs → AllByRecursion Q (map f (filter test xs))
AllByRecursion-filter_map P Q test f g [] h = tt
AllByRecursion-filter_map P Q test f g (x ∷ xs) h =
    let rest = AllByRecursion-filter_map P Q test f g xs h.1 in
    cond_cases (test x) (x ∷ filter test xs) (filter test xs) (λ l. AllByRecursion Q (map f l)) (λ e. (g x e h.0, rest))
    (λ e. rest)
