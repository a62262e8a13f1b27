-- What holds of the degrees of monomials by weights. (Kreuzer, Robbiano, "Computational Commutative Algebra 2", section
-- 4.1: gradings.)
use Rattle.std.specs.Prelude.{◌≡◌, ℕ, ◌+◌, ◌<◌, ◌≤◌}
use Rattle.sf_algebra.specs.Monomials.{Monomial, VARIABLES, exponent_sum, monomial_degree, product, variable}
use Rattle.sf_algebra.specs.Rings.{Weights, IsPositive, ones, weight}

-- the degree of a variable is its weight
abbrev pub GivesVariablesTheirWeights : Type 0
GivesVariablesTheirWeights =
    (weights : Weights) (i : ℕ) → i < VARIABLES → monomial_degree weights (variable i) ≡ weight weights i

-- the degree of a product is the sum of the factors' degrees
abbrev pub AddsMonomialDegrees : Type 0
AddsMonomialDegrees =
    (weights : Weights) (a b : Monomial) → monomial_degree weights
    (product a b) ≡ monomial_degree weights a + monomial_degree weights b

-- where each variable has the weight 1, the degree is the sum of the exponents
abbrev pub SumsExponents : Type 0
SumsExponents = (a : Monomial) → monomial_degree ones a ≡ exponent_sum a

-- where each weight is at least 1, the degree is at least the sum of the exponents
abbrev pub IsAtLeastTheSum : Type 0
IsAtLeastTheSum = (weights : Weights) → IsPositive weights → (a : Monomial) → exponent_sum a ≤ monomial_degree weights a
