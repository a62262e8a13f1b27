-- Items that a loop writes one by one, with a separator before each but the first.
use Rattle.std.proofs.Common.{◌≡◌, refl, ℕ, ◌+◌, ◌≤◌, true, false, List, [], ◌∷◌, ◌++◌, Some, length, map, drop, ltb, sym, ap, ◌∙◌, append_assoc, arith}
use Rattle.std.specs.List.{join_with_byte, slice_get}
use Rattle.std.proofs.lemmas.List.{at_drop_more, at_drop_all, append-nil}
use Rattle.std.proofs.lemmas.Option.{slice_get_within, get_or_from_slice_get}
use Rattle.std.proofs.lemmas.Bool.Decides.{nat_tests}
use Rattle.sf_text.specs.Joins.{separator_after, joined_after}

-- behind a separator, the items as they stand with none before
pub joined_after-true : (c : ℕ) (x : List ℕ) (xs : List (List ℕ))
    → joined_after true c (x ∷ xs) ≡ c ∷ join_with_byte c (x ∷ xs)
joined_after-true c x [] = append-nil (c ∷ x)
joined_after-true c x (y ∷ ys) = ap (λ zs. c ∷ x ++ zs) (joined_after-true c y ys)

pub joined_after-false : (c : ℕ) (xs : List (List ℕ)) → joined_after false c xs ≡ join_with_byte c xs
joined_after-false c [] = refl
joined_after-false c (x ∷ []) = append-nil x
joined_after-false c (x ∷ y ∷ ys) = ap (λ zs. x ++ zs) (joined_after-true c y ys)

-- what is left to write of the joined texts of a list's items, from item i on
abbrev pub joined_from : {X : Type 0} → (X → List ℕ) → ℕ → List X → ℕ → List ℕ
joined_from f c xs i = joined_after (ltb 0 i) c (map f (drop i xs))

-- an item stands before each place but the first
positive : (i : ℕ) → true ≡ ltb 0 (i + 1)
positive i = grind (arith, nat_tests)

-- behind a, what is written first and what is written later
pub written : (a b d e : List ℕ) → a ++ b ++ d ++ e ≡ a ++ (b ++ d ++ e)
written a b d e = simp append_assoc

-- where nothing is left, the whole text is written
pub written_all : (whole text left : List ℕ) → left ≡ [] → text ++ left ≡ whole → text ≡ whole
written_all whole text left none so_far = sym (append-nil text) ∙ ap (λ t. text ++ t) (sym none) ∙ so_far

module _ {X : Type 0} (f : X → List ℕ) (c : ℕ) (xs : List X) where
  pub joined_from-start : joined_from f c xs 0 ≡ join_with_byte c (map f xs)
  joined_from-start = joined_after-false c (map f xs)

  pub joined_from-end : (i : ℕ) → length xs ≤ i → joined_from f c xs i ≡ []
  joined_from-end i h = at_drop_all (λ ys. joined_after (ltb 0 i) c (map f ys)) xs i h

  -- one item
  pub joined_from-step : (i : ℕ) (x : X) → slice_get xs i ≡ Some x
      → joined_from f c xs i ≡ separator_after (ltb 0 i) c ++ f x ++ joined_from f c xs (i + 1)
  joined_from-step i x e =
      at_drop_more (λ ys. joined_after (ltb 0 i) c (map f ys)) xs i x (slice_get_within xs i x e)
      ∙ ap (λ y. separator_after (ltb 0 i) c ++ f y ++ joined_after true c (map f (drop (i + 1) xs)))
      (get_or_from_slice_get xs i x x e)
      ∙ ap (λ b. separator_after (ltb 0 i) c ++ f x ++ joined_after b c (map f (drop (i + 1) xs))) (positive i)

  -- what is written and what is left make the whole text, before an item is written and behind it
  pub joined_from_more : (whole text next : List ℕ) (i : ℕ) (x : X) → text ++ joined_from f c xs i ≡ whole
      → slice_get xs i ≡ Some x
      → next ≡ text ++ separator_after (ltb 0 i) c ++ f x → next ++ joined_from f c xs (i + 1) ≡ whole
  joined_from_more whole text next i x so_far e now =
      ap (λ t. t ++ joined_from f c xs (i + 1)) now ∙ written text _ (f x) _
      ∙ ap (λ t. text ++ t) (sym (joined_from-step i x e)) ∙ so_far
