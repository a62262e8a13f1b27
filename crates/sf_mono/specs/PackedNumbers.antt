-- The monomial that a number stands for. (Knuth, "The Art of Computer Programming", volume 2, section 4.1, on
-- positional number systems.)
use Rattle.std.specs.Prelude.{◌≡◌, ℕ, ◌-◌, ◌/◌, ◌%◌}
use Rattle.sf_algebra.specs.Monomials.{Monomial}
use Rattle.sf_algebra.specs.Numbers.{monomial_number, HasDigits}

-- the monomial whose exponents are what the last six digits of n, to base 65,536, miss up to 65,535, the last digit the
-- first variable's
unfoldable pub unpacked : ℕ → Monomial
unpacked n = record {
  e1 = 65535 - n % 65536;
  e2 = 65535 - n / 65536 % 65536;
  e3 = 65535 - n / 65536 / 65536 % 65536;
  e4 = 65535 - n / 65536 / 65536 / 65536 % 65536;
  e5 = 65535 - n / 65536 / 65536 / 65536 / 65536 % 65536;
  e6 = 65535 - n / 65536 / 65536 / 65536 / 65536 / 65536 % 65536;
}

-- n is the number of the monomial that it stands for, whose exponents have a sum of at most 65,535
abbrev pub IsPacked : ℕ → Type 0
IsPacked n = HasDigits (unpacked n) × (monomial_number (unpacked n) ≡ n)
