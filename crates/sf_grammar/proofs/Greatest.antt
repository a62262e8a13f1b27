-- The greatest of some numbers.
use Rattle.std.proofs.Common.{◌≡◌, ℕ, max, List, [], ◌∷◌, ◌++◌, map, refl, ap, arith}
use Rattle.sf_grammar.specs.WordReaches.{greatest_by}

pub greatest_by-append : {X : Type 0} (number : X → ℕ) (xs ys : List X)
    → greatest_by number (xs ++ ys) ≡ max (greatest_by number xs) (greatest_by number ys)
greatest_by-append number [] ys = omega arith
greatest_by-append number (x ∷ xs) ys =
    let others = greatest_by-append number xs ys in
    omega (arith, others)

pub greatest_by-map : {X Y : Type 0} (number : Y → ℕ) (f : X → Y) (xs : List X)
    → greatest_by number (map f xs) ≡ greatest_by (λ x. number (f x)) xs
greatest_by-map number f [] = refl
greatest_by-map number f (x ∷ xs) = ap (max (number (f x))) (greatest_by-map number f xs)

-- the numbers of a first element, of others and of still others
pub greatest_by-three : {X : Type 0} (number : X → ℕ) (x : X) (xs ys : List X)
    → greatest_by number (x ∷ xs ++ ys) ≡ max (max (number x) (greatest_by number xs)) (greatest_by number ys)
greatest_by-three number x xs ys =
    let both = greatest_by-append number xs ys in
    omega (arith, both)
