-- Polynomials of a ring, and their greatest terms. (Cox, Little, O'Shea, "Ideals, Varieties, and
-- Algorithms", chapter 2, section 2.)
use Rattle.std.specs.Prelude.{ℕ, List, [], ◌∷◌, Option, Some, None}
use Rattle.sf_algebra.specs.Monomials.{Monomial, monomial_cmp, exponent_sum}
use Rattle.sf_algebra.specs.Rings.{Ring}
use Rattle.sf_algebra.specs.Terms.{Term, IsCanonical}

-- the ring and the terms
pub record Polynomial : Type 0 where
  pub ring : Ring
  pub terms : List (Term Monomial)

-- the terms are canonical
abbrev pub IsPolynomial : Polynomial → Type 0
IsPolynomial f = IsCanonical (monomial_cmp f.ring.weights) f.ring.modulus f.terms

-- the term with this coefficient at a monomial
abbrev pub monomial_term : Monomial → ℕ → Term Monomial
monomial_term a c = record { at = a; coefficient = c }

-- the monomial and the coefficient of the greatest term; 0 has none
abbrev pub lead : List (Term Monomial) → Option (Monomial × ℕ)
lead [] = None
lead (t ∷ ts) = Some (t.at, t.coefficient)

-- the sum of the exponents of the greatest term; 0 has none
abbrev pub degree : List (Term Monomial) → Option ℕ
degree [] = None
degree (t ∷ ts) = Some (exponent_sum t.at)
