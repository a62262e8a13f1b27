-- Monomials and their numbers: the number gives the monomial back, and products and quotients by numbers.
use Rattle.std.proofs.Common.{◌≡◌, ℕ, ◌+◌, ◌-◌, ◌*◌, ◌/◌, ◌%◌, ◌^◌, ◌≤◌, sym, ◌∙◌, ap, subst, refl, arith}
use Rattle.std.specs.Ordering.{nat_cmp}
use Rattle.sf_algebra.specs.Bounds.{GREATEST_SUM}
use Rattle.sf_algebra.specs.Divisibility.{Divides, quotient}
use Rattle.sf_algebra.specs.Monomials.{Monomial, product, exponent_sum, monomial_cmp}
use Rattle.sf_algebra.specs.Numbers.{with_digit, monomial_number, HasDigits}
use Rattle.sf_algebra.specs.Rings.{ones}
use Rattle.sf_algebra.proofs.Monomials.Divisors.{same_monomial, product-quotient}
use Rattle.sf_algebra.proofs.Monomials.Numbers.{nat_cmp-monomial_number}
use Rattle.sf_mono.specs.PackedNumbers.{unpacked, IsPacked}

-- what the last digit misses
last_missed : (n x e : ℕ) → e ≤ 65535 → n ≡ with_digit x (65535 - e) → 65535 - n % 65536 ≡ e
last_missed n x e h d = omega arith

before_last : (n x e : ℕ) → n ≡ with_digit x (65535 - e) → n / 65536 ≡ x
before_last n x e d = omega arith

-- with a digit the number that its exponent lacks to a full one
missed : (x e : ℕ) → e ≤ 65535 → with_digit x (65535 - e) + e ≡ x * 65536 + 65535
missed x e h = omega arith

-- six digits, by the powers of 2 at which they stand
six_digits : (s e1 e2 e3 e4 e5 e6 n1 n2 n3 n4 n5 n6 : ℕ) → n6 + e6 ≡ s * 65536 + 65535 → n5 + e5 ≡ n6 * 65536 + 65535
    → n4 + e4 ≡ n5 * 65536 + 65535 → n3 + e3 ≡ n4 * 65536 + 65535 → n2 + e2 ≡ n3 * 65536 + 65535
    → n1 + e1 ≡ n2 * 65536 + 65535
    → n1 + (e1 + e2 * 2 ^ 16 + e3 * 2 ^ 32 + e4 * 2 ^ 48 + e5 * 2 ^ 64 + e6 * 2 ^ 80) ≡ s * 2 ^ 96 + (2 ^ 96 - 1)
six_digits s e1 e2 e3 e4 e5 e6 n1 n2 n3 n4 n5 n6 d6 d5 d4 d3 d2 d1 = omega arith

-- the exponents as digits of one number
abbrev exponent_number : Monomial → ℕ
exponent_number a = a.e1 + a.e2 * 2 ^ 16 + a.e3 * 2 ^ 32 + a.e4 * 2 ^ 48 + a.e5 * 2 ^ 64 + a.e6 * 2 ^ 80

-- a monomial's number by its exponents, with no difference in it
number-exponents : (a : Monomial) → HasDigits a
    → monomial_number a + exponent_number a ≡ exponent_sum a * 2 ^ 96 + (2 ^ 96 - 1)
number-exponents a h =
    six_digits (exponent_sum a) a.e1 a.e2 a.e3 a.e4 a.e5 a.e6 _ _ _ _ _ _
    (missed (exponent_sum a) a.e6 (omega arith))
    (missed _ a.e5 (omega arith))
    (missed _ a.e4 (omega arith))
    (missed _ a.e3 (omega arith))
    (missed _ a.e2 (omega arith))
    (missed _ a.e1 (omega arith))

-- from the digits of a number to what they miss
from_digits : (s e1 e2 e3 e4 e5 e6 n1 n2 n3 n4 n5 n6 : ℕ) → s ≤ 65535 → s ≡ e1 + e2 + e3 + e4 + e5 + e6
    → n1 ≡ with_digit n2 (65535 - e1) → n2 ≡ with_digit n3 (65535 - e2) → n3 ≡ with_digit n4 (65535 - e3)
    → n4 ≡ with_digit n5 (65535 - e4) → n5 ≡ with_digit n6 (65535 - e5) → n6 ≡ with_digit s (65535 - e6)
    → unpacked n1 ≡ record { e1 = e1; e2 = e2; e3 = e3; e4 = e4; e5 = e5; e6 = e6 }
unfolding unpacked
from_digits s e1 e2 e3 e4 e5 e6 n1 n2 n3 n4 n5 n6 h t d1 d2 d3 d4 d5 d6 =
    let q2 = before_last n1 n2 e1 d1 in
    let q3 = ap (λ n. n / 65536) q2 ∙ before_last n2 n3 e2 d2 in
    let q4 = ap (λ n. n / 65536) q3 ∙ before_last n3 n4 e3 d3 in
    let q5 = ap (λ n. n / 65536) q4 ∙ before_last n4 n5 e4 d4 in
    let q6 = ap (λ n. n / 65536) q5 ∙ before_last n5 n6 e5 d5 in
    same_monomial _ _ (last_missed n1 n2 e1 (omega arith) d1)
    (ap (λ n. 65535 - n % 65536) q2 ∙ last_missed n2 n3 e2 (omega arith) d2)
    (ap (λ n. 65535 - n % 65536) q3 ∙ last_missed n3 n4 e3 (omega arith) d3)
    (ap (λ n. 65535 - n % 65536) q4 ∙ last_missed n4 n5 e4 (omega arith) d4)
    (ap (λ n. 65535 - n % 65536) q5 ∙ last_missed n5 n6 e5 (omega arith) d5)
    (ap (λ n. 65535 - n % 65536) q6 ∙ last_missed n6 s e6 (omega arith) d6)

pub unpacked-number : (a : Monomial) → HasDigits a → unpacked (monomial_number a) ≡ a
unpacked-number a h =
    let n6 = with_digit (exponent_sum a) (65535 - a.e6) in
    let n5 = with_digit n6 (65535 - a.e5) in
    let n4 = with_digit n5 (65535 - a.e4) in
    let n3 = with_digit n4 (65535 - a.e3) in
    let n2 = with_digit n3 (65535 - a.e2) in
    from_digits (exponent_sum a) a.e1 a.e2 a.e3 a.e4 a.e5 a.e6 (monomial_number a) n2 n3 n4 n5 n6 h refl refl refl refl
    refl refl refl

-- n is the number of a, whose exponents have a sum of at most 65,535
pub record StandsFor (n : ℕ) (a : Monomial) : Type 0 where
  pub monomial : unpacked n ≡ a
  pub packed : IsPacked n

pub StandsFor-number : (n : ℕ) (a : Monomial) → HasDigits a → n ≡ monomial_number a → StandsFor n a
StandsFor-number n a h e =
    let u = ap unpacked e ∙ unpacked-number a h in
    record { monomial = u; packed = (subst HasDigits (sym u) h, ap monomial_number u ∙ sym e) }

digits_of : {n : ℕ} {a : Monomial} → StandsFor n a → HasDigits a
digits_of s = subst HasDigits s.monomial s.packed.0

number_of : {n : ℕ} {a : Monomial} → StandsFor n a → monomial_number a ≡ n
number_of s = ap monomial_number (sym s.monomial) ∙ s.packed.1

pub nat_cmp-StandsFor : (m n : ℕ) (a b : Monomial) → StandsFor m a → StandsFor n b
    → nat_cmp m n ≡ monomial_cmp ones a b
nat_cmp-StandsFor m n a b s t =
    sym (λ i. nat_cmp (number_of s i) (number_of t i)) ∙ nat_cmp-monomial_number a b (digits_of s) (digits_of t)

-- numbers of monomials add to the number of the product and that of 1
number-product : (a b : Monomial) → HasDigits a → HasDigits b → HasDigits (product a b)
    → monomial_number a + monomial_number b ≡ monomial_number (product a b) + (2 ^ 96 - 1)
number-product a b h k l =
    added (monomial_number a) (monomial_number b) (monomial_number (product a b)) a b (number-exponents a h)
    (number-exponents b k)
    (number-exponents (product a b) l)
  where
    added : (m n o : ℕ) (a b : Monomial) → m + exponent_number a ≡ exponent_sum a * 2 ^ 96 + (2 ^ 96 - 1)
        → n + exponent_number b ≡ exponent_sum b * 2 ^ 96 + (2 ^ 96 - 1)
        → o + exponent_number (product a b) ≡ exponent_sum (product a b) * 2 ^ 96 + (2 ^ 96 - 1)
        → m + n ≡ o + (2 ^ 96 - 1)
    added m n o a b x y z = omega arith

pub StandsFor-product : (m n : ℕ) (a b : Monomial) → StandsFor m a → StandsFor n b
    → exponent_sum a + exponent_sum b ≤ GREATEST_SUM
    → StandsFor (m + n - (2 ^ 96 - 1)) (product a b)
StandsFor-product m n a b s t fits =
    let h : HasDigits (product a b) = omega arith in
    StandsFor-number _ _ h
    (without _ _ _ _ _ (number-product a b (digits_of s) (digits_of t) h) (number_of s) (number_of t))
  where
    without : (m n o x y : ℕ) → x + y ≡ o + (2 ^ 96 - 1) → x ≡ m → y ≡ n → m + n - (2 ^ 96 - 1) ≡ o
    without m n o x y e p q = omega arith

pub StandsFor-quotient : (m n : ℕ) (a b : Monomial) → StandsFor m a → StandsFor n b → Divides b a
    → StandsFor (m + (2 ^ 96 - 1) - n) (quotient a b)
StandsFor-quotient m n a b s t d =
    let back = product-quotient a b d in
    let h : HasDigits (quotient a b) = less a b (digits_of s) in
    let sums = number-product b (quotient a b) (digits_of t) h (subst HasDigits (sym back) (digits_of s)) in
    StandsFor-number _ _ h
    (without _ _ _ _ _ sums (ap monomial_number back ∙ number_of s) (number_of t))
  where
    less : (a b : Monomial) → HasDigits a → HasDigits (quotient a b)
    less a b h = omega arith

    without : (m n o x y : ℕ) → y + o ≡ x + (2 ^ 96 - 1) → x ≡ m → y ≡ n → m + (2 ^ 96 - 1) - n ≡ o
    without m n o x y e p q = omega arith
