-- The numbers of monomials and of places compare as these do.
use Rattle.std.proofs.Common.{◌≡◌, ℕ, ◌+◌, ◌-◌, ◌*◌, ◌^◌, ◌<◌, ◌≤◌, sym, ◌∙◌, ap, arith}
use Rattle.std.proofs.Math.Nat.{mul_comm}
use Rattle.std.proofs.lemmas.Bool.Decides.{nat_tests}
use Rattle.std.proofs.lemmas.Cmp.{tied_itself, nat_cmp_total}
use Rattle.std.proofs.lemmas.Nat.{mul-add-lt}
use Rattle.std.specs.declared.cmp.Ordering.{Ordering}
use Rattle.std.specs.Ordering.{nat_cmp, ordering_then}
use Rattle.sf_algebra.specs.Monomials.{Monomial, exponent_sum, monomial_cmp}
use Rattle.sf_algebra.specs.Numbers.{with_digit, monomial_number, HasDigits, place_number, HasPlaceDigits}
use Rattle.sf_algebra.specs.Rings.{ones}
use Rattle.sf_algebra.specs.Vectors.{Place, place_cmp}
use Rattle.sf_algebra.proofs.Monomials.Comparisons.{nat_cmp-lt, nat_cmp-gt, nat_cmp-Greater, nat_cmp-Less, ordering_then_assoc}
use Rattle.sf_algebra.proofs.Monomials.Orders.{ordering_cases, nat_cmp-Equal, monomial_cmp-Equal, place_cmp-Equal}
use Rattle.sf_algebra.proofs.Monomials.Products.{nat_cmp-add}
use Rattle.sf_algebra.proofs.Monomials.Weights.{degree_by_ones}

-- of two numbers the greater one stays greater where a digit to base w is put after each
digits_lt : (w x y a b : ℕ) → x < y → a < w → x * w + a < y * w + b
digits_lt w x y a b h k = let l = mul-add-lt x w a y h k in let e = mul_comm w y in omega arith

-- numbers that end in a digit compare first by what stands before it, and then by it
pub nat_cmp-digits : (w x y a b : ℕ) → a < w → b < w
    → nat_cmp (x * w + a) (y * w + b) ≡ ordering_then (nat_cmp x y) (nat_cmp a b)
nat_cmp-digits w x y a b h k =
    ordering_cases (nat_cmp x y)
    (λ less. nat_cmp-lt _ _ (digits_lt w x y a b (nat_cmp-Less x y less) h) ∙ sym (ap (λ o. ordering_then o (nat_cmp a b)) less))
    (λ equal.
    ap (λ z. nat_cmp (x * w + a) (z * w + b)) (sym (nat_cmp-Equal x y equal))
    ∙ nat_cmp-add (x * w) a b
    ∙ sym (ap (λ o. ordering_then o (nat_cmp a b)) equal))
    (λ greater. nat_cmp-gt _ _ (digits_lt w y x b a (nat_cmp-Greater x y greater) k) ∙ sym (ap (λ o. ordering_then o (nat_cmp a b)) greater))

-- what two numbers miss up to m compares the other way round
nat_cmp-missing : (m a b : ℕ) → a ≤ m → b ≤ m → nat_cmp (m - a) (m - b) ≡ nat_cmp b a
nat_cmp-missing m a b h k = grind (arith, nat_tests)

-- the same of numbers that end in what an exponent misses
nat_cmp-with_digit : (x y a b : ℕ) → a ≤ 65535 → b ≤ 65535
    → nat_cmp (with_digit x (65535 - a)) (with_digit y (65535 - b)) ≡ ordering_then (nat_cmp x y) (nat_cmp b a)
nat_cmp-with_digit x y a b h k =
    nat_cmp-digits 65536 x y (65535 - a) (65535 - b) (omega arith) (omega arith)
    ∙ ap (ordering_then (nat_cmp x y)) (nat_cmp-missing 65535 a b h k)

-- an exponent's digit more decides last
one_more : (x y a b : ℕ) (o : Ordering) → a ≤ 65535 → b ≤ 65535 → nat_cmp x y ≡ o
    → nat_cmp (with_digit x (65535 - a)) (with_digit y (65535 - b)) ≡ ordering_then o (nat_cmp b a)
one_more x y a b o h k e = nat_cmp-with_digit x y a b h k ∙ ap (λ p. ordering_then p (nat_cmp b a)) e

pub nat_cmp-monomial_number : (a b : Monomial) → HasDigits a → HasDigits b
    → nat_cmp (monomial_number a) (monomial_number b) ≡ monomial_cmp ones a b
nat_cmp-monomial_number a b h k =
    one_more _ _ a.e1 b.e1 _ (omega arith) (omega arith)
    (one_more _ _ a.e2 b.e2 _ (omega arith) (omega arith)
    (one_more _ _ a.e3 b.e3 _ (omega arith) (omega arith)
    (one_more _ _ a.e4 b.e4 _ (omega arith) (omega arith)
    (one_more _ _ a.e5 b.e5 _ (omega arith) (omega arith)
    (one_more (exponent_sum a) (exponent_sum b) a.e6 b.e6 _ (omega arith) (omega arith) (λ i. nat_cmp (degree_by_ones a i) (degree_by_ones b i)))))))
    ∙ simp ordering_then_assoc

pub monomial_number-apart : (a b : Monomial) → HasDigits a → HasDigits b → monomial_number a ≡ monomial_number b → a ≡ b
monomial_number-apart a b h k e =
    monomial_cmp-Equal ones a b
    (sym (nat_cmp-monomial_number a b h k) ∙ ap (nat_cmp (monomial_number a)) (sym e) ∙ tied_itself nat_cmp_total (monomial_number a))

pub monomial_number-fits : (a : Monomial) → HasDigits a → monomial_number a < 2 ^ 112
monomial_number-fits a h = omega arith

-- the number by the powers of 2 at which its digits stand
pub monomial_number-powers : (a : Monomial)
    → monomial_number a ≡ exponent_sum a * 2 ^ 96 + (65535 - a.e6) * 2 ^ 80 + (65535 - a.e5) * 2 ^ 64 + (65535 - a.e4)
    * 2 ^ 48 + (65535 - a.e3) * 2 ^ 32 + (65535 - a.e2) * 2 ^ 16 + (65535 - a.e1)
monomial_number-powers a = omega arith

pub nat_cmp-place_number : (k l : Place) → HasPlaceDigits k → HasPlaceDigits l
    → nat_cmp (place_number k) (place_number l) ≡ place_cmp ones k l
nat_cmp-place_number k l h j =
    nat_cmp-digits (2 ^ 128) (2 ^ 64 - 1 - k.position) (2 ^ 64 - 1 - l.position) (monomial_number k.monomial)
    (monomial_number l.monomial)
    (fits k.monomial h.1) (fits l.monomial j.1)
    ∙ (λ i. ordering_then (nat_cmp-missing (2 ^ 64 - 1) k.position l.position (omega arith) (omega arith) i) (nat_cmp-monomial_number k.monomial l.monomial h.1 j.1 i))
  where
    fits : (a : Monomial) → HasDigits a → monomial_number a < 2 ^ 128
    fits a d = let f = monomial_number-fits a d in omega arith

pub place_number-apart : (k l : Place) → HasPlaceDigits k → HasPlaceDigits l → place_number k ≡ place_number l → k ≡ l
place_number-apart k l h j e =
    place_cmp-Equal ones k l
    (sym (nat_cmp-place_number k l h j) ∙ ap (nat_cmp (place_number k)) (sym e) ∙ tied_itself nat_cmp_total (place_number k))

pub place_number-fits : (k : Place) → HasPlaceDigits k → place_number k < 2 ^ 192
place_number-fits k h = let f = monomial_number-fits k.monomial h.1 in omega arith
