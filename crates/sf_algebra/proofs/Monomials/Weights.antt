-- Degrees by weights beside the plain sum of exponents.
use Rattle.std.proofs.Common.{◌≡◌, ℕ, zero, suc, ◌*◌, ◌<◌, ◌≤◌, arith}
use Rattle.std.proofs.Math.Nat.{mul-le-mul_left}
use Rattle.sf_algebra.specs.Monomials.{Monomial, VARIABLES, exponent_sum, monomial_degree, variable}
use Rattle.sf_algebra.specs.Rings.{Ring, Weights, IsPositive, IsRing, IsOverField, ones, plain, weight}

-- a variable has its weight as its degree
pub monomial_degree-variable : (weights : Weights) (i : ℕ) → i < VARIABLES
    → monomial_degree weights (variable i) ≡ weight weights i
monomial_degree-variable weights zero h = omega arith
monomial_degree-variable weights (suc zero) h = omega arith
monomial_degree-variable weights (suc (suc zero)) h = omega arith
monomial_degree-variable weights (suc (suc (suc zero))) h = omega arith
monomial_degree-variable weights (suc (suc (suc (suc zero)))) h = omega arith
monomial_degree-variable weights (suc (suc (suc (suc (suc zero))))) h = omega arith
monomial_degree-variable weights (suc (suc (suc (suc (suc (suc i)))))) h = absurd (omega arith)

-- where each weight is 1 the degree is the sum of the exponents
pub degree_by_ones : (a : Monomial) → exponent_sum a ≡ monomial_degree ones a
degree_by_ones a = omega arith

pub ones_positive : IsPositive ones
ones_positive = record {
  first = omega arith;
  second = omega arith;
  third = omega arith;
  fourth = omega arith;
  fifth = omega arith;
  sixth = omega arith;
}

pub plain_ring : (p : ℕ) → 0 < p → IsRing (plain p)
plain_ring p positive = record { modulus = positive; weights = ones_positive }

part_at_least : (w e : ℕ) → 0 < w → e ≤ w * e
part_at_least w e positive = let h = mul-le-mul_left e positive in grind arith

-- a degree by positive weights is no less than the sum of the exponents
pub exponent_sum-at_most : (weights : Weights) → IsPositive weights → (a : Monomial)
    → exponent_sum a ≤ monomial_degree weights a
exponent_sum-at_most weights positive a =
    let h1 = part_at_least weights.w1 a.e1 positive.first in
    let h2 = part_at_least weights.w2 a.e2 positive.second in
    let h3 = part_at_least weights.w3 a.e3 positive.third in
    let h4 = part_at_least weights.w4 a.e4 positive.fourth in
    let h5 = part_at_least weights.w5 a.e5 positive.fifth in
    let h6 = part_at_least weights.w6 a.e6 positive.sixth in
    omega arith

pub field_ring : {ring : Ring} → IsOverField ring → IsRing ring
field_ring h = record { modulus = omega (arith, h.prime.above_one); weights = h.weights }
