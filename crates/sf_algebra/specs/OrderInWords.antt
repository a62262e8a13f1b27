-- The degree reverse lexicographic order in the words of its definition. (Cox, Little, O'Shea, "Ideals, Varieties, and
-- Algorithms", chapter 2, section 2, definition 6.)
use Rattle.std.specs.Prelude.{◌≡◌, ◌⊎◌, ◌↔◌, ℕ, ◌<◌, slice_index}
use Rattle.std.specs.declared.cmp.Ordering.TheVariants.{Greater}
use Rattle.sf_algebra.specs.Monomials.{Monomial, VARIABLES, exponents, monomial_degree, monomial_cmp}
use Rattle.sf_algebra.specs.Rings.{Weights}

-- the last exponent in which a and b differ is smaller in a
abbrev pub IsSmallerInLastDifference : Monomial → Monomial → Type 0
IsSmallerInLastDifference a b =
    (i : ℕ) × (i < VARIABLES) × (slice_index (exponents a) i < slice_index (exponents b) i)
    × ((j : ℕ) → i < j → j < VARIABLES → slice_index (exponents a) j ≡ slice_index (exponents b) j)

-- a is greater than b: its sum of exponents is, or the degrees are equal and the last exponent in which they differ is
-- smaller in a
abbrev pub IsGreater : Weights → Monomial → Monomial → Type 0
IsGreater weights a b =
    (monomial_degree weights b < monomial_degree weights a) ⊎ ((monomial_degree weights a ≡ monomial_degree weights b) × IsSmallerInLastDifference a b)

-- the comparison finds exactly the greater monomials greater
abbrev pub FindsTheGreater : Type 0
FindsTheGreater = (weights : Weights) (a b : Monomial) → (monomial_cmp weights a b ≡ Greater) ↔ IsGreater weights a b
