-- What holds of each item of a list up to a place.
use Rattle.std.proofs.Common.{◌≡◌, ℕ, ◌+◌, ◌≤◌, List, [], ◌∷◌, length, Some, slice_get, take, sym, subst}
use Rattle.std.specs.List.{AllByRecursion}
use Rattle.std.proofs.lemmas.List.{take_all}
use Rattle.sf_algebra.proofs.Basics.Lists.{AllByRecursion-append, take-slice_get}

module _ {X : Type 0} (P : X → Type 0) (xs : List X) where
  -- and of the item there, and so of each one before the next place
  pub AllByRecursion-next : (k : ℕ) (x : X) → slice_get xs k ≡ Some x → AllByRecursion P (take k xs) → P x
      → AllByRecursion P (take (k + 1) xs)
  AllByRecursion-next k x read h here =
      subst (AllByRecursion P) (sym (take-slice_get xs k x read)) (AllByRecursion-append P (take k xs) (x ∷ []) h (here, tt))

  -- or of all
  pub AllByRecursion-whole : (k : ℕ) → length xs ≤ k → AllByRecursion P (take k xs) → AllByRecursion P xs
  AllByRecursion-whole k h = subst (AllByRecursion P) (take_all k xs h)
