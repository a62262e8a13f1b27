-- Monomials in six variables, their degrees by weights, and their degree reverse lexicographic order. (Cox, Little,
-- O'Shea, "Ideals, Varieties, and Algorithms", chapter 2, section 2.) In a ring of fewer variables the exponents past
-- its variables are 0.
use Rattle.std.specs.Prelude.{ℕ, ◌+◌, ◌*◌, List, [], ◌∷◌, slice_index, slice_set, replicate}
use Rattle.std.specs.declared.cmp.Ordering.{Ordering}
use Rattle.std.specs.Ordering.{nat_cmp, on, flip_args, then_cmp}
use Rattle.sf_algebra.specs.Rings.{Weights}

-- the exponent of each variable, the ring's first variable first
pub record Monomial : Type 0 where
  pub e1 : ℕ
  pub e2 : ℕ
  pub e3 : ℕ
  pub e4 : ℕ
  pub e5 : ℕ
  pub e6 : ℕ

-- how many variables a monomial has room for
abbrev pub VARIABLES : ℕ
VARIABLES = 6

-- the exponents as a list
abbrev pub exponents : Monomial → List ℕ
exponents a = a.e1 ∷ a.e2 ∷ a.e3 ∷ a.e4 ∷ a.e5 ∷ a.e6 ∷ []

-- the monomial with these exponents; those that the list lacks are 0
abbrev pub from_exponents : List ℕ → Monomial
from_exponents es = record {
  e1 = slice_index es 0;
  e2 = slice_index es 1;
  e3 = slice_index es 2;
  e4 = slice_index es 3;
  e5 = slice_index es 4;
  e6 = slice_index es 5;
}

abbrev pub one : Monomial
one = from_exponents []

-- the product, whose exponents are the sums of the factors' exponents
abbrev pub product : Monomial → Monomial → Monomial
product a b = record { e1 = a.e1 + b.e1; e2 = a.e2 + b.e2; e3 = a.e3 + b.e3; e4 = a.e4 + b.e4; e5 = a.e5 + b.e5; e6 = a.e6 + b.e6 }

-- the variable at place i, counted from 0
abbrev pub variable : ℕ → Monomial
variable i = from_exponents (slice_set (replicate VARIABLES 0) i 1)

-- the sum of the exponents
abbrev pub exponent_sum : Monomial → ℕ
exponent_sum a = a.e1 + a.e2 + a.e3 + a.e4 + a.e5 + a.e6

-- the degree: the sum of weight times exponent
abbrev pub monomial_degree : Weights → Monomial → ℕ
monomial_degree weights a = weights.w1 * a.e1 + weights.w2 * a.e2 + weights.w3 * a.e3 + weights.w4 * a.e4 + weights.w5 * a.e5 + weights.w6 * a.e6

-- a greater degree is greater; at equal degrees, a is greater where the last exponent in which they differ is smaller
-- in a
abbrev pub monomial_cmp : Weights → Monomial → Monomial → Ordering
monomial_cmp weights =
    then_cmp (on (monomial_degree weights) nat_cmp)
    (then_cmp (flip_args (on (λ (a : Monomial). a.e6) nat_cmp))
    (then_cmp (flip_args (on (λ (a : Monomial). a.e5) nat_cmp))
    (then_cmp (flip_args (on (λ (a : Monomial). a.e4) nat_cmp))
    (then_cmp (flip_args (on (λ (a : Monomial). a.e3) nat_cmp))
    (then_cmp (flip_args (on (λ (a : Monomial). a.e2) nat_cmp))
    (flip_args (on (λ (a : Monomial). a.e1) nat_cmp)))))))
