-- Ranges of lists.
use Rattle.std.proofs.Common.{◌≡◌, ℕ, zero, suc, ◌+◌, ◌-◌, ◌≤◌, List, [], ◌∷◌, ◌++◌, map, length, take, drop, slice_range, sym, ap, ◌∙◌, inl, inr, arith, take-add}
use Rattle.std.specs.List.{AllByRecursion}
use Rattle.std.proofs.lemmas.Bool.{cases_lt}
use Rattle.std.proofs.lemmas.List.{take-map, drop-map, take_all, take_at, drop_at, take-take, drop-drop, drop-take}

pub AllByRecursion-take : {X : Type 0} (P : X → Type 0) (n : ℕ) (xs : List X) → AllByRecursion P xs
    → AllByRecursion P (take n xs)
AllByRecursion-take P zero xs h = tt
AllByRecursion-take P (suc n) [] h = tt
AllByRecursion-take P (suc n) (x ∷ xs) h = (h.0, AllByRecursion-take P n xs h.1)

pub AllByRecursion-drop : {X : Type 0} (P : X → Type 0) (n : ℕ) (xs : List X) → AllByRecursion P xs
    → AllByRecursion P (drop n xs)
AllByRecursion-drop P zero xs h = h
AllByRecursion-drop P (suc n) [] h = tt
AllByRecursion-drop P (suc n) (x ∷ xs) h = AllByRecursion-drop P n xs h.1

pub AllByRecursion-slice_range : {X : Type 0} (P : X → Type 0) (xs : List X) (from to : ℕ) → AllByRecursion P xs
    → AllByRecursion P (slice_range xs from to)
AllByRecursion-slice_range P xs from to h =
    AllByRecursion-take P (to - from) (drop from xs) (AllByRecursion-drop P from xs h)

pub slice_range-map : {X Y : Type 0} (f : X → Y) (xs : List X) (from to : ℕ)
    → slice_range (map f xs) from to ≡ map f (slice_range xs from to)
slice_range-map f xs from to = ap (take (to - from)) (drop-map f from xs) ∙ take-map f (to - from) (drop from xs)

-- the whole list
pub slice_range-whole : {X : Type 0} (xs : List X) (n : ℕ) → length xs ≤ n → slice_range xs 0 n ≡ xs
slice_range-whole xs n h = take_all (n - 0) xs (omega arith)

-- the first of two lists, and the second
pub slice_range-first : {X : Type 0} (xs ys : List X) (n : ℕ) → length xs ≡ n → slice_range (xs ++ ys) 0 n ≡ xs
slice_range-first xs ys n size = take_at xs ys (n - 0) (omega arith)

pub slice_range-second : {X : Type 0} (xs ys : List X) (m n : ℕ) → length xs ≡ m → m + length ys ≤ n
    → slice_range (xs ++ ys) m n ≡ ys
slice_range-second xs ys m n size h = ap (take (n - m)) (drop_at xs ys m size) ∙ take_all (n - m) ys (omega arith)

-- a range of a range
pub slice_range-slice_range : {X : Type 0} (xs : List X) (from to a b : ℕ) → from + b ≤ to
    → slice_range (slice_range xs from to) a b ≡ slice_range xs (from + a) (from + b)
slice_range-slice_range xs from to a b inside =
    elim (cases_lt b a) [
      | inl none ↦
          let first : b - a ≡ 0 = omega arith in
          let second : (from + b) - (from + a) ≡ 0 = omega arith in
          ap (λ n. take n (drop a (slice_range xs from to))) first ∙ sym (ap (λ n. take n (drop (from + a) xs)) second)
      | inr some ↦
          let size : to - from ≡ a + ((to - from) - a) = omega arith in
          let count : b - a ≡ (from + b) - (from + a) = omega arith in
          ap (λ n. take (b - a) (drop a (take n (drop from xs)))) size
          ∙ ap (take (b - a)) (drop-take a ((to - from) - a) (drop from xs))
          ∙ take-take (b - a) ((to - from) - a) (drop a (drop from xs)) (omega arith)
          ∙ ap (take (b - a)) (drop-drop a from xs)
          ∙ ap (λ n. take n (drop (from + a) xs)) count
    ]

-- one range and the next
pub slice_range-append : {X : Type 0} (xs : List X) (a b c : ℕ) → a ≤ b → b ≤ c
    → slice_range xs a b ++ slice_range xs b c ≡ slice_range xs a c
slice_range-append xs a b c first second =
    let start : b ≡ a + (b - a) = omega arith in
    let size : (b - a) + (c - b) ≡ c - a = omega arith in
    ap (λ n. take (b - a) (drop a xs) ++ take (c - b) (drop n xs)) start
    ∙ ap (λ l. take (b - a) (drop a xs) ++ take (c - b) l) (sym (drop-drop (b - a) a xs))
    ∙ sym (take-add (b - a) (c - b) (drop a xs))
    ∙ ap (λ n. take n (drop a xs)) size
