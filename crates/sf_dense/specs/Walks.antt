-- The multiple of terms by a monomial, and which multiples are lists of entries. (Textbook.)
use Rattle.std.specs.Prelude.{◌≡◌, ℕ, ◌+◌, ◌<◌, ◌≤◌, ◌^◌, List, length}
use Rattle.sf_algebra.specs.Bounds.{GREATEST_SUM}
use Rattle.sf_algebra.specs.Monomials.{Monomial, exponent_sum}
use Rattle.sf_algebra.specs.Multiples.{place_product}
use Rattle.sf_algebra.specs.Terms.{Term}
use Rattle.sf_algebra.specs.Vectors.{Place}
use Rattle.sf_dense.specs.Entries.{column_at}

-- a monomial times a term
abbrev pub times_monomial : Monomial → Term Place → Term Place
times_monomial a t = record { at = place_product a t.at; coefficient = t.coefficient }

-- the product stands in the list, and its exponents, coefficient and number fit
pub record HasEntry (ks : List Place) (a : Monomial) (t : Term Place) : Type 0 where
  pub sum : exponent_sum a + exponent_sum t.at.monomial ≤ GREATEST_SUM
  pub coefficient : t.coefficient < 2 ^ 16
  pub cell : ℕ
  pub number : cell < 2 ^ 32
  pub inside : cell < length ks
  pub place : column_at ks cell ≡ place_product a t.at

-- the product stands in the list at the number from, or behind it, or not at all
abbrev pub IsFrom : List Place → Monomial → ℕ → Term Place → Type 0
IsFrom ks a from t = (i : ℕ) → i < length ks → column_at ks i ≡ place_product a t.at → from ≤ i
