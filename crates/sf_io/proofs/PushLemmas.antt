-- Pushes in turn: what they wrote together.
use Rattle.std.proofs.Common.{◌≡◌, ℕ, ◌+◌, ◌-◌, ◌≤◌, List, length, take, drop, Option, arith, length-drop}
use Rattle.std.proofs.Math.Seq.{take-add}
use Rattle.std.proofs.lemmas.List.{take_all}
use Rattle.std.proofs.KnownBytes.{Appends-trans}
use Rattle.std.specs.Io.KnownBytes.{Appends}

-- a sink took the first n bytes, and its faults didn't fall
pub record Takes {K : Type 0} (written : K → Option (List ℕ)) (faults : K → ℕ)
    (old new : K) (bytes : List ℕ) (n : ℕ) : Type 0 where
  pub within : n ≤ length bytes
  pub front : Appends (written old) (written new) (take n bytes)
  pub later : faults old ≤ faults new

-- one push more, which was offered all the bytes after the first i and took n
pub Appends-more : (a b c : Option (List ℕ)) (bytes : List ℕ) (i n : ℕ)
    → Appends a b (take i bytes) → Appends b c (take n (take (length bytes - i) (drop i bytes)))
    → Appends a c (take (i + n) bytes)
Appends-more a b c bytes i n first second =
    let rest : take (length bytes - i) (drop i bytes) ≡ drop i bytes =
    take_all _ _ (omega (arith, length-drop i bytes)) in
    rw (take-add i n bytes) (Appends-trans a b c _ _ first (rw rest at second))
