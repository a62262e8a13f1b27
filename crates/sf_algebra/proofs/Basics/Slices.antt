-- What a program takes of a slice, as a list.
use Rattle.std.proofs.Common.{◌≡◌, ◌-◌, ◌<◌, suc, List, [], ◌∷◌, sym, ap, arith, length, get_or, take, drop}
use Rattle.std.proofs.Math.Seq.{take-length}
use Rattle.std.proofs.lemmas.List.{nil_from_length}

-- the first item and the rest, as the pattern [x, xs @ ..] takes them
pub first_and_rest : {X : Type 0} (xs : List X) (x : X) → 0 < length xs → x ≡ get_or xs 0 x
    → xs ≡ x ∷ take (length xs - 1) (drop 1 xs)
first_and_rest [] x some e = absurd (omega arith)
first_and_rest (y ∷ ys) x some e =
    let size : suc (length ys) - 1 ≡ length ys = omega arith in rw (size, take-length ys) (ap (λ z. z ∷ ys) (sym e))

-- the only item, as the pattern [x] takes it
pub only_item : {X : Type 0} (xs : List X) (x : X) → length xs ≡ 1 → x ≡ get_or xs 0 x → xs ≡ x ∷ []
only_item [] x one e = absurd (omega arith)
only_item (y ∷ ys) x one e = let none : length ys ≡ 0 = omega arith in λ i. sym e i ∷ nil_from_length ys none i
