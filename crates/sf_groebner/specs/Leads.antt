-- Divisibility of the places of a free module. (Cox, Little, O'Shea, "Using Algebraic Geometry", chapter 5, section 2.)
use Rattle.std.specs.Prelude.{◌≡◌, ◌&&◌, ◌==◌, Bool, nat_le}
use Rattle.sf_algebra.specs.Divisibility.{Divides}
use Rattle.sf_algebra.specs.Monomials.{Monomial}
use Rattle.sf_algebra.specs.Vectors.{Place}

-- a divides b: they stand at one position, and the monomials divide
abbrev pub PlaceDivides : Place → Place → Type 0
PlaceDivides a b = (a.position ≡ b.position) × Divides a.monomial b.monomial

-- the test of it
abbrev pub divides : Monomial → Monomial → Bool
divides a b =
    nat_le a.e1 b.e1 && (nat_le a.e2 b.e2 && (nat_le a.e3 b.e3 && (nat_le a.e4 b.e4 && (nat_le a.e5 b.e5 && nat_le a.e6 b.e6))))

abbrev pub place_divides : Place → Place → Bool
place_divides a b = (a.position == b.position) && divides a.monomial b.monomial
