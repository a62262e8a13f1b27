-- What is over the first n variables alone: the exponents past them are 0. (Textbook: a polynomial ring in n variables
-- as a part of one in more; that it is stated of exponents is this project's own.)
use Rattle.std.specs.Prelude.{◌≡◌, ℕ, List, drop}
use Rattle.std.specs.List.{AllByRecursion}
use Rattle.sf_algebra.specs.Matrices.{Matrix}
use Rattle.sf_algebra.specs.Monomials.{Monomial, exponents}
use Rattle.sf_algebra.specs.Terms.{Term}
use Rattle.sf_algebra.specs.Vectors.{Place, Vector}

-- the exponents past the first n are 0
abbrev pub IsInVariables : ℕ → Monomial → Type 0
IsInVariables n a = AllByRecursion (λ e. e ≡ 0) (drop n (exponents a))

-- each term of a polynomial stands at such a monomial
abbrev pub IsPolynomialInVariables : ℕ → List (Term Monomial) → Type 0
IsPolynomialInVariables n ts = AllByRecursion (λ (t : Term Monomial). IsInVariables n t.at) ts

-- so does each term of a row
abbrev pub IsRowInVariables : ℕ → List (Term Place) → Type 0
IsRowInVariables n ts = AllByRecursion (λ (t : Term Place). IsInVariables n t.at.monomial) ts

abbrev pub IsVectorInVariables : ℕ → Vector → Type 0
IsVectorInVariables n v = IsRowInVariables n v.terms

-- so does each of some vectors
abbrev pub AreInVariables : ℕ → List Vector → Type 0
AreInVariables n vs = AllByRecursion (IsVectorInVariables n) vs

-- so does each row of a matrix
abbrev pub IsMatrixInVariables : ℕ → Matrix → Type 0
IsMatrixInVariables n m = AreInVariables n m.rows
