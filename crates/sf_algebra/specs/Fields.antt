-- What holds of the residues modulo a prime. (Any textbook of algebra.)
use Rattle.std.specs.Prelude.{◌≡◌, ℕ, ◌<◌, ◌⊎◌}
use Rattle.sf_algebra.specs.Residues.{sum_mod, negative_mod, product_mod}

-- the residues modulo p, with sum, negative and product, are a field; a law without a bound holds of all numbers
pub record IsField (p : ℕ) : Type 0 where
  pub one_below : 1 < p
  pub sum_below : (a b : ℕ) → sum_mod p a b < p
  pub sum_commutes : (a b : ℕ) → sum_mod p a b ≡ sum_mod p b a
  pub sum_associates : (a b c : ℕ) → sum_mod p (sum_mod p a b) c ≡ sum_mod p a (sum_mod p b c)
  pub sum_with_zero : (a : ℕ) → a < p → sum_mod p a 0 ≡ a
  pub negative_below : (a : ℕ) → negative_mod p a < p
  pub sum_with_negative : (a : ℕ) → a < p → sum_mod p a (negative_mod p a) ≡ 0
  pub product_below : (a b : ℕ) → product_mod p a b < p
  pub product_commutes : (a b : ℕ) → product_mod p a b ≡ product_mod p b a
  pub product_associates : (a b c : ℕ) → product_mod p (product_mod p a b) c ≡ product_mod p a (product_mod p b c)
  pub product_with_one : (a : ℕ) → a < p → product_mod p a 1 ≡ a
  pub product_distributes : (a b c : ℕ)
      → product_mod p a (sum_mod p b c) ≡ sum_mod p (product_mod p a b) (product_mod p a c)
  pub inverse : (a : ℕ) → 0 < a → a < p → (b : ℕ) × (b < p) × (product_mod p a b ≡ 1)

-- a residue has at most one inverse
abbrev pub HasUniqueInverses : ℕ → Type 0
HasUniqueInverses p = (a b c : ℕ) → b < p → c < p → product_mod p a b ≡ 1 → product_mod p a c ≡ 1 → b ≡ c

-- a product of residues is zero only where a factor is
abbrev pub HasNoZeroDivisors : ℕ → Type 0
HasNoZeroDivisors p = (a b : ℕ) → a < p → b < p → product_mod p a b ≡ 0 → (a ≡ 0) ⊎ (b ≡ 0)
