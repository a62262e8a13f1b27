use Rattle.std.specs.Prelude.{ℕ, Bool, List, [], ◌∷◌, ◌==◌, IsTrue}
use Rattle.std.specs.List.{list_any}

-- the ten primes that a ring may be taken modulo
abbrev pub moduli : List ℕ
moduli = 2 ∷ 3 ∷ 5 ∷ 7 ∷ 11 ∷ 13 ∷ 31 ∷ 101 ∷ 251 ∷ 32003 ∷ []

-- whether a number is one of the ten
unfoldable pub is_modulus : ℕ → Bool
is_modulus p = list_any (λ m. m == p) moduli

-- a number is one of the ten
abbrev pub IsModulus : ℕ → Type 0
IsModulus p = IsTrue (is_modulus p)

-- a fact of each of the ten
abbrev pub EachModulus : (ℕ → Type 0) → Type 0
EachModulus P = (p : ℕ) → IsModulus p → P p
