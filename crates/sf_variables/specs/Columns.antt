-- The places of one degree of a free module over n variables: the columns of a matrix by which vectors of this degree
-- are lists of numbers. (Lazard, "Gröbner bases, Gaussian elimination and resolution of systems of algebraic equations",
-- EUROCAL 1983, section 2.)
use Rattle.std.specs.Prelude.{◌≡◌, ℕ, ◌<◌, List, [], ◌∷◌, length, ℤ, Contains}
use Rattle.std.specs.declared.cmp.Ordering.TheVariants.{Less}
use Rattle.std.specs.List.{AllByRecursion}
use Rattle.sf_algebra.specs.Rings.{Weights}
use Rattle.sf_algebra.specs.Vectors.{Place, place_cmp, place_degree}
use Rattle.sf_variables.specs.Variables.{IsInVariables}

-- each place is greater than those after it
abbrev pub AreFalling : Weights → List Place → Type 0
AreFalling weights [] = Unit {0}
AreFalling weights (k ∷ ks) = AllByRecursion (λ l. place_cmp weights l k ≡ Less) ks × AreFalling weights ks

-- a place of degree d, over n variables, at one of the generators
pub record IsColumn (weights : Weights) (n : ℕ) (degrees : List ℤ) (d : ℤ) (k : Place) : Type 0 where
  pub generator : k.position < length degrees
  pub degree : d ≡ place_degree weights degrees k
  pub variables : IsInVariables n k.monomial

-- these are all of them, the greatest first
pub record AreColumns (weights : Weights) (n : ℕ) (degrees : List ℤ) (d : ℤ) (ks : List Place) : Type 0 where
  pub falling : AreFalling weights ks
  pub inside : AllByRecursion (IsColumn weights n degrees d) ks
  pub all : (k : Place) → IsColumn weights n degrees d k → Contains ks k
