-- Lists: facts of each item, when lists are joined, taken apart or read, and what a loop has read.
use Rattle.std.proofs.Common.{◌≡◌, ℕ, ◌+◌, zero, suc, List, [], ◌∷◌, ◌++◌, Some, subst, ap, take, add-one}
use Rattle.std.specs.List.{AllByRecursion, slice_get}

pub AllByRecursion-append : {X : Type 0} (P : X → Type 0) (xs ys : List X) → AllByRecursion P xs → AllByRecursion P ys
    → AllByRecursion P (xs ++ ys)
AllByRecursion-append P [] ys h k = k
AllByRecursion-append P (x ∷ xs) ys h k = (h.0, AllByRecursion-append P xs ys h.1 k)

pub AllByRecursion-front : {X : Type 0} (P : X → Type 0) (xs ys : List X) → AllByRecursion P (xs ++ ys)
    → AllByRecursion P xs
AllByRecursion-front P [] ys h = tt
AllByRecursion-front P (x ∷ xs) ys h = (h.0, AllByRecursion-front P xs ys h.1)

pub AllByRecursion-back : {X : Type 0} (P : X → Type 0) (xs ys : List X) → AllByRecursion P (xs ++ ys)
    → AllByRecursion P ys
AllByRecursion-back P [] ys h = h
AllByRecursion-back P (x ∷ xs) ys h = AllByRecursion-back P xs ys h.1

-- where the fact implies another
pub AllByRecursion-weaken : {X : Type 0} (P Q : X → Type 0) → ((x : X) → P x → Q x) → (xs : List X)
    → AllByRecursion P xs → AllByRecursion Q xs
AllByRecursion-weaken P Q f [] h = tt
AllByRecursion-weaken P Q f (x ∷ xs) h = (f x h.0, AllByRecursion-weaken P Q f xs h.1)

-- of the item at a place
pub AllByRecursion-get : {X : Type 0} (P : X → Type 0) (xs : List X) (k : ℕ) (x : X) → AllByRecursion P xs
    → slice_get xs k ≡ Some x → P x
AllByRecursion-get P [] k x h e = cc
AllByRecursion-get P (y ∷ ys) zero x h e = let same : y ≡ x = cc in subst P same h.0
AllByRecursion-get P (y ∷ ys) (suc k) x h e = AllByRecursion-get P ys k x h.1 e

take_suc-slice_get : {X : Type 0} (xs : List X) (k : ℕ) (x : X) → slice_get xs k ≡ Some x
    → take (suc k) xs ≡ take k xs ++ x ∷ []
take_suc-slice_get [] k x e = cc
take_suc-slice_get (y ∷ ys) zero x e = let same : y ≡ x = cc in ap (λ z. z ∷ []) same
take_suc-slice_get (y ∷ ys) (suc k) x e = ap (λ zs. y ∷ zs) (take_suc-slice_get ys k x e)

-- the items before the next place, with the one at k
pub take-slice_get : {X : Type 0} (xs : List X) (k : ℕ) (x : X) → slice_get xs k ≡ Some x
    → take (k + 1) xs ≡ take k xs ++ x ∷ []
take-slice_get xs k x e = rw add-one (take_suc-slice_get xs k x e)
