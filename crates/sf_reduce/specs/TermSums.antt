-- Sums of terms of one degree, from which the greatest term is taken first.
use Rattle.std.specs.Prelude.{ℕ, List, ℤ}
use Rattle.sf_algebra.specs.Terms.{Term}
use Rattle.sf_algebra.specs.Vectors.{Place, Vector}

-- the modulus, the degree, and the canonical list of the terms
pub record TermSum : Type 0 where
  pub modulus : ℕ
  pub degree : ℤ
  pub terms : List (Term Place)

-- the vector that the sum is
abbrev pub sum_vector : TermSum → Vector
sum_vector s = record { degree = s.degree; terms = s.terms }
