-- What is made of monomials over n variables is over n variables. (Textbook.)
use Rattle.std.specs.Prelude.{ℕ, ◌<◌, ◌≤◌}
use Rattle.sf_algebra.specs.Divisibility.{Divides, quotient, lcm}
use Rattle.sf_algebra.specs.Monomials.{Monomial, product, variable}
use Rattle.sf_variables.specs.Variables.{IsInVariables}

-- the first n variables are
abbrev pub HasFirstVariables : Type 0
HasFirstVariables = (n i : ℕ) → i < n → IsInVariables n (variable i)

-- so is what is over fewer variables
abbrev pub HasMoreVariables : Type 0
HasMoreVariables = (n m : ℕ) → n ≤ m → (a : Monomial) → IsInVariables n a → IsInVariables m a

-- so is a product
abbrev pub HasProductsInVariables : Type 0
HasProductsInVariables =
    (n : ℕ) (a b : Monomial) → IsInVariables n a → IsInVariables n b → IsInVariables n (product a b)

-- a divisor
abbrev pub HasDivisorsInVariables : Type 0
HasDivisorsInVariables = (n : ℕ) (a b : Monomial) → Divides a b → IsInVariables n b → IsInVariables n a

-- a quotient, whatever is divided by
abbrev pub HasQuotientsInVariables : Type 0
HasQuotientsInVariables = (n : ℕ) (a b : Monomial) → IsInVariables n a → IsInVariables n (quotient a b)

-- and a least common multiple
abbrev pub HasCommonMultiplesInVariables : Type 0
HasCommonMultiplesInVariables =
    (n : ℕ) (a b : Monomial) → IsInVariables n a → IsInVariables n b → IsInVariables n (lcm a b)
