-- Residues modulo p: the whole numbers below p, with sum, product and negative taken modulo p. (Any textbook of algebra.)
use Rattle.std.specs.Prelude.{ℕ, ◌+◌, ◌-◌, ◌*◌, ◌%◌, ◌<◌}

-- a is one of the residues 0 to p - 1
abbrev pub IsResidue : ℕ → ℕ → Type 0
IsResidue p a = a < p

unfoldable pub sum_mod : ℕ → ℕ → ℕ → ℕ
sum_mod p a b = (a + b) % p

unfoldable pub product_mod : ℕ → ℕ → ℕ → ℕ
product_mod p a b = (a * b) % p

unfoldable pub negative_mod : ℕ → ℕ → ℕ
negative_mod p a = (p - a) % p
