-- Lists that are joined of pieces, piece by piece.
use Rattle.std.proofs.Common.{◌≡◌, ℕ, ◌+◌, List, [], ◌∷◌, ◌++◌, map, take, Some, ap, ◌∙◌, append-nil}
use Rattle.std.specs.List.{AllByRecursion, flat_map, slice_get}
use Rattle.std.proofs.lemmas.Grind.{flat_map-append}
use Rattle.std.proofs.lemmas.List.{map-append}
use Rattle.sf_algebra.proofs.Basics.Lists.{take-slice_get}

-- one more piece
pub flat_map-take : {X Y : Type 0} (f : X → List Y) (xs : List X) (i : ℕ) (x : X) → slice_get xs i ≡ Some x
    → flat_map f (take (i + 1) xs) ≡ flat_map f (take i xs) ++ f x
flat_map-take f xs i x read =
    ap (flat_map f) (take-slice_get xs i x read)
    ∙ flat_map-append f (take i xs) (x ∷ [])
    ∙ ap (λ ys. flat_map f (take i xs) ++ ys) (append-nil (f x))

-- one more image
pub map-take : {X Y : Type 0} (f : X → Y) (xs : List X) (i : ℕ) (x : X) → slice_get xs i ≡ Some x
    → map f (take (i + 1) xs) ≡ map f (take i xs) ++ f x ∷ []
map-take f xs i x read = ap (map f) (take-slice_get xs i x read) ∙ map-append f (take i xs) (x ∷ [])

-- a fact of each image
pub AllByRecursion-unmap : {X Y : Type 0} (P : Y → Type 0) (f : X → Y) (xs : List X) → AllByRecursion P (map f xs)
    → AllByRecursion (λ x. P (f x)) xs
AllByRecursion-unmap P f [] h = tt
AllByRecursion-unmap P f (x ∷ xs) h = (h.0, AllByRecursion-unmap P f xs h.1)
