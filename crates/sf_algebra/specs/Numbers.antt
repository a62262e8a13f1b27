-- Numbers in whose order monomials and places stand. Numbers with equally many digits compare by the first digit in
-- which they differ. (Knuth, "The Art of Computer Programming", volume 2, section 4.1, on positional number systems.)
use Rattle.std.specs.Prelude.{ℕ, ◌+◌, ◌-◌, ◌*◌, ◌^◌, ◌<◌, ◌≤◌}
use Rattle.sf_algebra.specs.Bounds.{GREATEST_SUM}
use Rattle.sf_algebra.specs.Monomials.{Monomial, exponent_sum}
use Rattle.sf_algebra.specs.Vectors.{Place}

-- the number that has the digit d after the digits of x, to base 65,536
abbrev pub with_digit : ℕ → ℕ → ℕ
with_digit x d = x * 65536 + d

-- the sum of the exponents, and then for each variable, the last one first, the digit by which its exponent misses 65,535
abbrev pub monomial_number : Monomial → ℕ
monomial_number a =
    with_digit (with_digit (with_digit (with_digit (with_digit (with_digit (exponent_sum a) (65535 - a.e6)) (65535 - a.e5)) (65535 - a.e4)) (65535 - a.e3)) (65535 - a.e2)) (65535 - a.e1)

-- the sum of the exponents is a digit, and so is each exponent
abbrev pub HasDigits : Monomial → Type 0
HasDigits a = exponent_sum a ≤ GREATEST_SUM

-- how far the position is before 2^64 - 1, and then the monomial's number
abbrev pub place_number : Place → ℕ
place_number k = (2 ^ 64 - 1 - k.position) * 2 ^ 128 + monomial_number k.monomial

-- the position is below 2^64, and the monomial has digits
abbrev pub HasPlaceDigits : Place → Type 0
HasPlaceDigits k = (k.position < 2 ^ 64) × HasDigits k.monomial
