-- What holds of divisors, quotients and least common multiples of monomials. (Cox, Little, O'Shea, "Ideals, Varieties,
-- and Algorithms", chapter 2, sections 4 and 6.)
use Rattle.std.specs.Prelude.{◌≡◌, ◌≢◌, ◌↔◌, ◌+◌, ◌≤◌}
use Rattle.std.specs.declared.cmp.Ordering.TheVariants.{Greater}
use Rattle.sf_algebra.specs.Divisibility.{Divides, quotient, lcm}
use Rattle.sf_algebra.specs.Monomials.{Monomial, product, monomial_degree, monomial_cmp}
use Rattle.sf_algebra.specs.Rings.{Weights, IsPositive}

-- a monomial divides its multiples and nothing else
abbrev pub DividesMultiples : Type 0
DividesMultiples = (a b : Monomial) → Divides a b ↔ ((c : Monomial) × (product a c ≡ b))

-- each monomial divides itself
abbrev pub DividesItself : Type 0
DividesItself = (a : Monomial) → Divides a a

-- a divisor of a divisor is a divisor
abbrev pub DividesTransitively : Type 0
DividesTransitively = (a b c : Monomial) → Divides a b → Divides b c → Divides a c

-- monomials that divide each other are equal
abbrev pub DividesAntisymmetrically : Type 0
DividesAntisymmetrically = (a b : Monomial) → Divides a b → Divides b a → a ≡ b

-- a divisor is not greater in the order
abbrev pub DividesNoLesser : Type 0
DividesNoLesser =
    (weights : Weights) → IsPositive weights → (a b : Monomial) → Divides a b → monomial_cmp weights a b ≢ Greater

-- a divisor times the quotient by it is the monomial that it divides
abbrev pub MultipliesBack : Type 0
MultipliesBack = (a b : Monomial) → Divides b a → product b (quotient a b) ≡ a

-- the quotient is the only monomial of which this holds
abbrev pub IsOnlyQuotient : Type 0
IsOnlyQuotient = (a b c : Monomial) → product b c ≡ a → c ≡ quotient a b

-- equal factors may be left out on both sides
abbrev pub CancelsFactors : Type 0
CancelsFactors = (a b c : Monomial) → product a b ≡ product a c → b ≡ c

-- both monomials divide their least common multiple
abbrev pub IsCommonMultiple : Type 0
IsCommonMultiple = (a b : Monomial) → Divides a (lcm a b) × Divides b (lcm a b)

-- it divides each monomial that both divide
abbrev pub IsLeastMultiple : Type 0
IsLeastMultiple = (a b c : Monomial) → Divides a c → Divides b c → Divides (lcm a b) c

-- its degree is no less than theirs
abbrev pub HasGreaterDegree : Type 0
HasGreaterDegree =
    (weights : Weights) (a b : Monomial) → (monomial_degree weights a ≤ monomial_degree weights (lcm a b)) × (monomial_degree weights b ≤ monomial_degree weights (lcm a b))

-- its degree is no greater than theirs together
abbrev pub HasBoundedDegree : Type 0
HasBoundedDegree =
    (weights : Weights) (a b : Monomial) → monomial_degree weights
    (lcm a b) ≤ monomial_degree weights a + monomial_degree weights b
