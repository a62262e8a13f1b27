-- Divisibility of monomials, quotients and least common multiples. (Cox, Little, O'Shea, "Ideals, Varieties, and
-- Algorithms", chapter 2, sections 4 and 6.)
use Rattle.std.specs.Prelude.{◌-◌, ◌≤◌, max}
use Rattle.sf_algebra.specs.Monomials.{Monomial}

-- a divides b: no exponent of a is greater than b's
abbrev pub Divides : Monomial → Monomial → Type 0
Divides a b = (a.e1 ≤ b.e1) × (a.e2 ≤ b.e2) × (a.e3 ≤ b.e3) × (a.e4 ≤ b.e4) × (a.e5 ≤ b.e5) × (a.e6 ≤ b.e6)

-- a divided by b, where b divides a: the differences of their exponents
abbrev pub quotient : Monomial → Monomial → Monomial
quotient a b = record { e1 = a.e1 - b.e1; e2 = a.e2 - b.e2; e3 = a.e3 - b.e3; e4 = a.e4 - b.e4; e5 = a.e5 - b.e5; e6 = a.e6 - b.e6 }

-- the least common multiple, whose exponents are the greater ones
abbrev pub lcm : Monomial → Monomial → Monomial
lcm a b = record {
  e1 = max a.e1 b.e1;
  e2 = max a.e2 b.e2;
  e3 = max a.e3 b.e3;
  e4 = max a.e4 b.e4;
  e5 = max a.e5 b.e5;
  e6 = max a.e6 b.e6;
}
