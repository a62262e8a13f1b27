-- Pulls in turn: what they gave together.
use Rattle.std.proofs.Common.{◌≡◌, ℕ, ◌+◌, ◌≤◌, ◌-◌, List, ◌++◌, length, take, drop, Option, refl, sym, ◌∙◌, arith, length-take-le, length-drop, take-append-drop}
use Rattle.std.proofs.Math.Seq.{take-add}
use Rattle.std.proofs.lemmas.List.{take_all, take-append-le, drop-drop}
use Rattle.std.proofs.KnownBytes.{Consumes-nil, Consumes-trans}
use Rattle.std.specs.Io.KnownBytes.{Consumes}
use Rattle.sf_io.specs.Count.{RoseBy}
use Rattle.sf_io.specs.Pull.{Gives}

-- a source filled the first n bytes of the room, and its faults didn't fall
pub record Fills {S : Type 0} (left : S → Option (List ℕ)) (given faults : S → ℕ)
    (old new : S) (room : List ℕ) (n : ℕ) : Type 0 where
  pub within : n ≤ length room
  pub gives : Gives left given old new (take n room)
  pub later : faults old ≤ faults new

module _ {S : Type 0} (left : S → Option (List ℕ)) (given : S → ℕ) where
  -- before the first pull
  pub Gives-nil : (a : S) (room : List ℕ) → Gives left given a a (take 0 room)
  Gives-nil a room =
      let counted : RoseBy 0 (given a) (given a) =
      record { least = omega arith; most = omega arith; exact = λ _. omega arith } in
      record { next = Consumes-nil (left a); counted = counted }

  -- one pull more, which put n bytes after the first i
  pub Gives-more : (a b c : S) (old new : List ℕ) (i n : ℕ)
      → Gives left given a b (take i old) → i ≤ length old → take i new ≡ take i old
      → Consumes (left b) (left c) (take n (drop i new)) → RoseBy n (given b) (given c)
      → i + n ≤ length new → Gives left given a c (take (i + n) new)
  Gives-more a b c old new i n before within kept more counted room =
      let bytes : take (i + n) new ≡ take i old ++ take n (drop i new) =
      rw (take-add i n new, kept) refl in
      let length-before : length (take i old) ≡ i = length-take-le i old within in
      let length-after : length (take (i + n) new) ≡ i + n = length-take-le (i + n) new room in
      record {
        next = rw bytes (Consumes-trans (left a) (left b) (left c) _ _ before.next more);
        counted = record { least = omega arith; most = omega arith; exact = λ short. omega arith };
      }

-- the bytes from a place on: the n that were copied to the front of the room, and those after
pub drop-copied : (bytes room copied : List ℕ) (at n : ℕ)
    → n ≤ length (take (length bytes - at) (drop at bytes))
    → copied ≡ take n (take (length bytes - at) (drop at bytes))
    → drop at bytes ≡ take n (copied ++ drop n room) ++ drop (at + n) bytes
drop-copied bytes room copied at n within copy =
    let rest : take (length bytes - at) (drop at bytes) ≡ drop at bytes =
    take_all _ _ (omega (arith, length-drop at bytes)) in
    let next : copied ≡ take n (drop at bytes) = rw rest at copy in
    let count : n ≤ length (drop at bytes) = rw rest at within in
    let length-copied : length copied ≡ n = rw next (length-take-le n (drop at bytes) count) in
    let front : take n (copied ++ drop n room) ≡ copied =
    take-append-le n copied _ (omega arith) ∙ take_all n copied (omega arith) in
    rw (front, next, ← drop-drop n at bytes) (sym (take-append-drop n (drop at bytes)))
