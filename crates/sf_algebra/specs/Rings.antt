-- Polynomial rings over the residues modulo a number, whose variables have weights. (Kreuzer, Robbiano, "Computational
-- Commutative Algebra 2", section 4.1: gradings.)
use Rattle.std.specs.Prelude.{ℕ, ◌<◌, [], ◌∷◌, slice_index}
use Rattle.sf_algebra.specs.Primes.{IsPrime}

-- the weight of each variable, the ring's first variable first; past the ring's variables it is 1
pub record Weights : Type 0 where
  pub w1 : ℕ
  pub w2 : ℕ
  pub w3 : ℕ
  pub w4 : ℕ
  pub w5 : ℕ
  pub w6 : ℕ

-- each variable has a weight of at least 1
pub record IsPositive (weights : Weights) : Type 0 where
  pub first : 0 < weights.w1
  pub second : 0 < weights.w2
  pub third : 0 < weights.w3
  pub fourth : 0 < weights.w4
  pub fifth : 0 < weights.w5
  pub sixth : 0 < weights.w6

-- the weight of the variable at place i, counted from 0
abbrev pub weight : Weights → ℕ → ℕ
weight weights i = slice_index (weights.w1 ∷ weights.w2 ∷ weights.w3 ∷ weights.w4 ∷ weights.w5 ∷ weights.w6 ∷ []) i

-- each variable has the weight 1
abbrev pub ones : Weights
ones = record { w1 = 1; w2 = 1; w3 = 1; w4 = 1; w5 = 1; w6 = 1 }

-- the number modulo which coefficients are taken, and the weights
pub record Ring : Type 0 where
  pub modulus : ℕ
  pub weights : Weights

-- a ring has a positive modulus and positive weights
pub record IsRing (ring : Ring) : Type 0 where
  pub modulus : 0 < ring.modulus
  pub weights : IsPositive ring.weights

-- its modulus is a prime, so its constants are a field
pub record IsOverField (ring : Ring) : Type 0 where
  pub prime : IsPrime ring.modulus
  pub weights : IsPositive ring.weights

-- the ring modulo p in which each variable has the weight 1
abbrev pub plain : ℕ → Ring
plain p = record { modulus = p; weights = ones }
