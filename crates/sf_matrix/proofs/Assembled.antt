-- A matrix that a program puts together.
use Rattle.std.proofs.Common.{◌≡◌, ℕ, ◌≤◌, List, map, length, take, ℤ, sym, ap, ◌∙◌, subst}
use Rattle.std.proofs.lemmas.List.{take_all}
use Rattle.sf_algebra.specs.Matrices.{Matrix, IsMatrix}
use Rattle.sf_algebra.specs.Rings.{Ring}
use Rattle.sf_algebra.specs.Vectors.{Vector}

-- from parts that are those of a matrix
pub IsMatrix-assembled : (m : Matrix) → IsMatrix m → (ring : Ring) (target : List ℤ) (rows : List Vector)
    → ring ≡ m.ring → target ≡ m.target → rows ≡ m.rows
    → IsMatrix (record { ring = ring; target = target; rows = rows })
IsMatrix-assembled m h ring target rows same_ring same_target same_rows =
    subst IsMatrix (λ i. record { ring = sym same_ring i; target = sym same_target i; rows = sym same_rows i }) h

-- a loop that has gone through all items
pub mapped_all : {X Y : Type 0} (f : X → Y) (xs : List X) (i : ℕ) (ys : List Y) → length xs ≤ i → ys ≡ map f (take i xs)
    → ys ≡ map f xs
mapped_all f xs i ys all e = e ∙ ap (map f) (take_all i xs all)
