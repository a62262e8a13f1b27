-- Names are equal where their bytes are: what the lemmas on maps ask of the equality of the keys.
use Rattle.std.proofs.Common.{◌≡◌, ℕ, true, List}
use Rattle.std.specs.Bool.{Decides}
use Rattle.std.specs.Cmp.{IsEquivalence}
use Rattle.std.specs.Cmp.Lexicographic.{nat_list_eq_equiv}
use Rattle.std.specs.Str.{bytes_eq}
use Rattle.std.proofs.lemmas.Slice.Eq.{bytes_eq-Decides}

pub name_eq : (a b : List ℕ) → Decides (bytes_eq a b) (a ≡ b)
name_eq = bytes_eq-Decides

pub name_eq-true : (a b : List ℕ) → bytes_eq a b ≡ true → a ≡ b
name_eq-true a b = (bytes_eq-Decides a b).0

pub name_eq_laws : IsEquivalence bytes_eq
name_eq_laws = nat_list_eq_equiv
