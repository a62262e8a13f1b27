-- Sums, negatives and products of residues modulo p.
use Rattle.std.proofs.Common.{◌≡◌, ℕ, ◌+◌, ◌-◌, ◌*◌, ◌%◌, ◌<◌, ◌≤◌, sym, ◌∙◌, ap, arith, add-zero}
use Rattle.std.proofs.Math.Nat.{add_assoc, add_comm, add-mod-mod, mul-add, mod-add-mod, mod-eq-sub-mod, mod-eq_of_lt, mod-lt, mod-mod, mod_self, mul_assoc, mul_comm, mul-one, mul-zero, sub-zero, zero-mod}
use Rattle.std.proofs.lemmas.Nat.{mul-mod_first, mul-mod_second}
use Rattle.sf_algebra.specs.Residues.{sum_mod, negative_mod, product_mod}

pub sum_mod-below : (p a b : ℕ) → 0 < p → sum_mod p a b < p
unfolding sum_mod
sum_mod-below p a b positive = mod-lt (a + b) positive

pub sum_mod-comm : (p a b : ℕ) → sum_mod p a b ≡ sum_mod p b a
unfolding sum_mod
sum_mod-comm p a b = ap (λ n. n % p) (add_comm a b)

pub sum_mod-assoc : (p a b c : ℕ) → sum_mod p (sum_mod p a b) c ≡ sum_mod p a (sum_mod p b c)
unfolding sum_mod
sum_mod-assoc p a b c = simp (mod-add-mod, add-mod-mod, add_assoc)

-- a sum of two sums, by their first terms and their second ones
pub sum_mod-exchange : (p a b c d : ℕ)
    → sum_mod p (sum_mod p a b) (sum_mod p c d) ≡ sum_mod p (sum_mod p a c) (sum_mod p b d)
sum_mod-exchange p a b c d =
    sum_mod-assoc p a b (sum_mod p c d)
    ∙ ap (sum_mod p a) (sym (sum_mod-assoc p b c d) ∙ ap (λ n. sum_mod p n d) (sum_mod-comm p b c) ∙ sum_mod-assoc p c b d)
    ∙ sym (sum_mod-assoc p a c (sum_mod p b d))

-- with 0 a number is reduced
pub sum_mod-zero : (p a : ℕ) → sum_mod p a 0 ≡ a % p
unfolding sum_mod
sum_mod-zero p a = rw add-zero

pub sum_mod-zero_first : (p a : ℕ) → sum_mod p 0 a ≡ a % p
sum_mod-zero_first p a = sum_mod-comm p 0 a ∙ sum_mod-zero p a

-- a sum is reduced, and so may be its terms first
pub sum_mod-reduced : (p a b : ℕ) → sum_mod p a b % p ≡ sum_mod p a b
unfolding sum_mod
sum_mod-reduced p a b = mod-mod (a + b) p

pub sum_mod-first : (p a b : ℕ) → sum_mod p (a % p) b ≡ sum_mod p a b
unfolding sum_mod
sum_mod-first p a b = mod-add-mod a p b

pub sum_mod-second : (p a b : ℕ) → sum_mod p a (b % p) ≡ sum_mod p a b
unfolding sum_mod
sum_mod-second p a b = add-mod-mod a b p

pub sum_mod-negative : (p a : ℕ) → a < p → sum_mod p a (negative_mod p a) ≡ 0
unfolding sum_mod negative_mod
sum_mod-negative p a below = let whole : a + (p - a) ≡ p = omega arith in rw (add-mod-mod, whole) (mod_self p)

-- a term that two sums share can be left out
pub sum_mod-cancel : (p a b c : ℕ) → 0 < p → sum_mod p a b ≡ sum_mod p a c → b % p ≡ c % p
sum_mod-cancel p a b c positive same =
    sym (away b) ∙ ap (sum_mod p (negative_mod p (a % p))) same ∙ away c
  where
    away : (n : ℕ) → sum_mod p (negative_mod p (a % p)) (sum_mod p a n) ≡ n % p
    away n =
        sym (sum_mod-assoc p (negative_mod p (a % p)) a n)
        ∙ ap (λ m. sum_mod p m n)
        (sym (sum_mod-second p _ a) ∙ sum_mod-comm p (negative_mod p (a % p)) (a % p) ∙ sum_mod-negative p (a % p) (mod-lt a positive))
        ∙ sum_mod-zero_first p n

pub sum_mod-small : (p a b : ℕ) → a + b < p → sum_mod p a b ≡ a + b
unfolding sum_mod
sum_mod-small p a b below = mod-eq_of_lt below

pub sum_mod-large : (p a b : ℕ) → a < p → b < p → p ≤ a + b → sum_mod p a b ≡ a + b - p
unfolding sum_mod
sum_mod-large p a b a_below b_below large =
    let less : a + b - p < p = omega arith in mod-eq-sub-mod large ∙ mod-eq_of_lt less

pub negative_mod-below : (p a : ℕ) → 0 < p → negative_mod p a < p
unfolding negative_mod
negative_mod-below p a positive = mod-lt (p - a) positive

pub negative_mod-zero : (p a : ℕ) → a ≡ 0 → negative_mod p a ≡ 0
unfolding negative_mod
negative_mod-zero p a none = rw (none, sub-zero) (mod_self p)

pub negative_mod-positive : (p a : ℕ) → 0 < a → a < p → negative_mod p a ≡ p - a
unfolding negative_mod
negative_mod-positive p a positive below = let less : p - a < p = omega arith in mod-eq_of_lt less

pub product_mod-below : (p a b : ℕ) → 0 < p → product_mod p a b < p
unfolding product_mod
product_mod-below p a b positive = mod-lt (a * b) positive

pub product_mod-comm : (p a b : ℕ) → product_mod p a b ≡ product_mod p b a
unfolding product_mod
product_mod-comm p a b = ap (λ n. n % p) (mul_comm a b)

pub product_mod-assoc : (p a b c : ℕ) → product_mod p (product_mod p a b) c ≡ product_mod p a (product_mod p b c)
unfolding product_mod
product_mod-assoc p a b c = simp (mul-mod_first, mul-mod_second, mul_assoc)

pub product_mod-zero : (p a : ℕ) → product_mod p a 0 ≡ 0
unfolding product_mod
product_mod-zero p a = rw mul-zero (zero-mod p)

-- with 1 a number is reduced
pub product_mod-one : (p a : ℕ) → product_mod p a 1 ≡ a % p
unfolding product_mod
product_mod-one p a = rw mul-one

-- a product is reduced, and so may be its factors first
pub product_mod-reduced : (p a b : ℕ) → product_mod p a b % p ≡ product_mod p a b
unfolding product_mod
product_mod-reduced p a b = mod-mod (a * b) p

pub product_mod-second : (p a b : ℕ) → product_mod p a (b % p) ≡ product_mod p a b
unfolding product_mod
product_mod-second p a b = mul-mod_second a b p

pub product_mod-sum : (p a b c : ℕ)
    → product_mod p a (sum_mod p b c) ≡ sum_mod p (product_mod p a b) (product_mod p a c)
unfolding sum_mod product_mod
product_mod-sum p a b c = simp (mul-mod_second, mod-add-mod, add-mod-mod, mul-add)
