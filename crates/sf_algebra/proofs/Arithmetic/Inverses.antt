-- Inverses of residues modulo a prime.
use Rattle.std.proofs.Common.{◌≡◌, ◌≢◌, ℕ, zero, suc, ◌+◌, ◌-◌, ◌*◌, ◌/◌, ◌%◌, ◌<◌, ◌≤◌, inl, inr, sym, ◌∙◌, ap, refl, arith}
use Rattle.std.proofs.lemmas.Bool.{cases_eq}
use Rattle.std.proofs.lemmas.Nat.{mod-mul-add, mul-mod_second}
use Rattle.std.proofs.Math.Nat.{div-add-mod, div-le_self, mod-eq_of_lt, mod-lt}
use Rattle.sf_algebra.specs.Fields.{HasNoZeroDivisors, HasUniqueInverses, IsField}
use Rattle.sf_algebra.specs.Primes.{IsPrime}
use Rattle.sf_algebra.specs.Residues.{negative_mod, product_mod}
use Rattle.sf_algebra.proofs.Arithmetic.Residues.{negative_mod-below, product_mod-assoc, product_mod-below, product_mod-comm, product_mod-one, product_mod-sum, product_mod-zero, sum_mod-assoc, sum_mod-below, sum_mod-comm, sum_mod-negative, sum_mod-zero}

negative_product : (a s q r p : ℕ) → s + q ≡ p → suc a * q + r ≡ p → suc a * s ≡ a * p + r
negative_product a s q r p sum whole = omega (arith, ap (λ x. suc a * x) sum)

-- a remainder is a product with the negative of the quotient
pub product_mod-negative_quotient : (p a : ℕ) → 0 < a → a < p → product_mod p a (negative_mod p (p / a)) ≡ p % a
unfolding product_mod negative_mod
product_mod-negative_quotient p zero positive below = absurd (omega arith)
product_mod-negative_quotient p (suc a) positive below =
    let sum : p - p / suc a + p / suc a ≡ p = omega (arith, div-le_self p (suc a)) in
    let left : p % suc a < p = omega (arith, mod-lt p positive) in
    rw (mul-mod_second, negative_product a (p - p / suc a) (p / suc a) (p % suc a) p sum (div-add-mod p (suc a)))
    (mod-mul-add a p (p % suc a) left)

-- the factor takes a to the remainder, and both are residues
pub record Reaches (p a factor rest : ℕ) : Type 0 where
  pub positive : 0 < rest
  pub rest_below : rest < p
  pub factor_below : factor < p
  pub product : product_mod p a factor ≡ rest

pub reaches_itself : (p a : ℕ) → 0 < a → a < p → Reaches p a 1 a
reaches_itself p a positive below = record {
  positive = positive;
  rest_below = below;
  factor_below = omega arith;
  product = product_mod-one p a ∙ mod-eq_of_lt below;
}

-- one division leads to a smaller remainder
pub reaches_remainder : (p a factor rest : ℕ) → IsPrime p → rest ≢ 1 → Reaches p a factor rest
    → Reaches p a (product_mod p factor (negative_mod p (p / rest))) (p % rest)
reaches_remainder p a factor rest prime apart r =
    let undivided : p % rest ≢ 0 = prime.undivided rest (omega arith) r.rest_below in
    record {
      positive = omega arith;
      rest_below = omega (arith, mod-lt p r.positive);
      factor_below = product_mod-below p factor (negative_mod p (p / rest)) (omega arith);
      product = sym (product_mod-assoc p a factor (negative_mod p (p / rest)))
          ∙ ap (λ n. product_mod p n (negative_mod p (p / rest))) r.product
          ∙ product_mod-negative_quotient p rest r.positive r.rest_below;
    }

inverse_from : (p : ℕ) → IsPrime p → (bound a factor rest : ℕ) → rest ≤ bound → Reaches p a factor rest
    → (b : ℕ) × (b < p) × (product_mod p a b ≡ 1)
inverse_from p prime zero a factor rest within r = absurd (omega (arith, r.positive))
inverse_from p prime (suc bound) a factor rest within r = elim (cases_eq rest 1) [
  | inl done ↦ (factor, r.factor_below, r.product ∙ done)
  | inr apart ↦ inverse_from p prime bound a (product_mod p factor (negative_mod p (p / rest))) (p % rest)
      (omega (arith, mod-lt p r.positive)) (reaches_remainder p a factor rest prime apart r)
]

-- each residue of a prime that isn't zero has an inverse
pub inverse_exists : (p : ℕ) → IsPrime p → (a : ℕ) → 0 < a → a < p → (b : ℕ) × (b < p) × (product_mod p a b ≡ 1)
inverse_exists p prime a positive below = inverse_from p prime a a 1 a (omega arith) (reaches_itself p a positive below)

pub inverse_nonzero : (p a b : ℕ) → product_mod p a b ≡ 1 → 0 < b
inverse_nonzero p a zero inverse = absurd (omega (arith, product_mod-zero p a, inverse))
inverse_nonzero p a (suc b) inverse = omega arith

-- a product with the inverse and then with the residue itself changes nothing
pub product_mod-inverse : (p a b n : ℕ) → product_mod p a b ≡ 1 → n < p → product_mod p a (product_mod p b n) ≡ n
product_mod-inverse p a b n inverse below =
    sym (product_mod-assoc p a b n)
    ∙ ap (λ m. product_mod p m n) inverse
    ∙ product_mod-comm p 1 n
    ∙ product_mod-one p n
    ∙ mod-eq_of_lt below

-- a residue has at most one inverse
pub inverse_unique : (p : ℕ) → HasUniqueInverses p
inverse_unique p a b c b_below c_below with_b with_c =
    sym (product_mod-one p b ∙ mod-eq_of_lt b_below)
    ∙ ap (product_mod p b) (sym with_c)
    ∙ product_mod-inverse p b a c (product_mod-comm p b a ∙ with_b) c_below

-- a factor that two products share can be left out
pub product_mod-cancel : (p a b c : ℕ) → IsPrime p → 0 < a → a < p → b < p → c < p
    → product_mod p a b ≡ product_mod p a c → b ≡ c
product_mod-cancel p a b c prime positive a_below b_below c_below same =
    let found : (i : ℕ) × (i < p) × (product_mod p a i ≡ 1) = inverse_exists p prime a positive a_below in
    let turned : product_mod p found.0 a ≡ 1 = product_mod-comm p found.0 a ∙ found.2 in
    sym (product_mod-inverse p found.0 a b turned b_below)
    ∙ ap (product_mod p found.0) same
    ∙ product_mod-inverse p found.0 a c turned c_below

-- a product of residues of a prime is zero only where a factor is
pub no_zero_divisors : (p : ℕ) → IsPrime p → HasNoZeroDivisors p
no_zero_divisors p prime zero b a_below b_below product_zero = inl refl
no_zero_divisors p prime (suc a) b a_below b_below product_zero =
    inr (product_mod-cancel p (suc a) b 0 prime (omega arith) a_below b_below (omega arith)
    (product_zero ∙ sym (product_mod-zero p (suc a))))

-- the residues of a prime are a field
pub field_of_residues : (p : ℕ) → IsPrime p → IsField p
field_of_residues p prime =
    let positive : 0 < p = omega (arith, prime.above_one) in
    record {
      one_below = prime.above_one;
      sum_below = λ a b. sum_mod-below p a b positive;
      sum_commutes = sum_mod-comm p;
      sum_associates = sum_mod-assoc p;
      sum_with_zero = λ a below. sum_mod-zero p a ∙ mod-eq_of_lt below;
      negative_below = λ a. negative_mod-below p a positive;
      sum_with_negative = sum_mod-negative p;
      product_below = λ a b. product_mod-below p a b positive;
      product_commutes = product_mod-comm p;
      product_associates = product_mod-assoc p;
      product_with_one = λ a below. product_mod-one p a ∙ mod-eq_of_lt below;
      product_distributes = product_mod-sum p;
      inverse = inverse_exists p prime;
    }
