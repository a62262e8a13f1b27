-- What decides whether a place divides another. (Cox, Little, O'Shea, "Using Algebraic Geometry", chapter 5, section 2.)
use Rattle.std.specs.Prelude.{◌↔◌, IsTrue}
use Rattle.sf_algebra.specs.Divisibility.{Divides}
use Rattle.sf_algebra.specs.Monomials.{Monomial}
use Rattle.sf_algebra.specs.Vectors.{Place}
use Rattle.sf_groebner.specs.Leads.{PlaceDivides, divides, place_divides}

-- the test of monomials passes exactly where the one divides the other
abbrev pub TestsDivisors : Type 0
TestsDivisors = (a b : Monomial) → IsTrue (divides a b) ↔ Divides a b

-- so does that of places
abbrev pub TestsPlaceDivisors : Type 0
TestsPlaceDivisors = (j k : Place) → IsTrue (place_divides j k) ↔ PlaceDivides j k
