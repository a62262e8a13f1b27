-- What keeps products of terms within the room of a monomial.
use Rattle.std.specs.Prelude.{ℕ, ◌+◌, ◌≤◌, List, IfSome}
use Rattle.std.specs.List.{AllByRecursion}
use Rattle.sf_algebra.specs.Bounds.{GREATEST_SUM}
use Rattle.sf_algebra.specs.Monomials.{Monomial, exponent_sum}
use Rattle.sf_algebra.specs.Terms.{Term}
use Rattle.sf_poly.specs.Polynomials.{degree}

-- each term has at most this sum of exponents
abbrev pub IsBoundedBy : ℕ → List (Term Monomial) → Type 0
IsBoundedBy d ts = AllByRecursion (λ (t : Term Monomial). exponent_sum t.at ≤ d) ts

-- the products of a monomial with each term of a list have room
abbrev pub ProductsHaveRoom : Monomial → List (Term Monomial) → Type 0
ProductsHaveRoom a ts = AllByRecursion (λ (u : Term Monomial). exponent_sum a + exponent_sum u.at ≤ GREATEST_SUM) ts

-- the product of a monomial with the greatest term of a polynomial has room
abbrev pub MultipleFits : Monomial → List (Term Monomial) → Type 0
MultipleFits a ts = IfSome (degree ts) (λ d. exponent_sum a + d ≤ GREATEST_SUM)

-- the product of the greatest terms of two polynomials has room
abbrev pub ProductFits : List (Term Monomial) → List (Term Monomial) → Type 0
ProductFits us vs = IfSome (degree us) (λ d. IfSome (degree vs) (λ e. d + e ≤ GREATEST_SUM))
