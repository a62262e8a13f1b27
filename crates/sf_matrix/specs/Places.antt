-- Where a term stands, and the term, written by its generator, its monomial and its coefficient.
use Rattle.std.specs.Prelude.{ℕ, ◌+ℤ◌}
use Rattle.sf_algebra.specs.MatrixOperations.{kronecker_terms}
use Rattle.sf_algebra.specs.Monomials.{Monomial}
use Rattle.sf_algebra.specs.Rings.{Ring}
use Rattle.sf_algebra.specs.Terms.{Term}
use Rattle.sf_algebra.specs.Vectors.{Place, Vector}

-- the place of a monomial at a generator
abbrev pub place_of : ℕ → Monomial → Place
place_of position a = record { position = position; monomial = a }

-- the term with this coefficient there
abbrev pub term_of : ℕ → Monomial → ℕ → Term Place
term_of position a c = record { at = place_of position a; coefficient = c }

-- the monomial and the coefficient of a term, as a term of a polynomial
abbrev pub factor_of : Term Place → Term Monomial
factor_of t = record { at = t.at.monomial; coefficient = t.coefficient }

-- the tensor product of a vector with a vector over n columns
abbrev pub kronecker_vector : Ring → ℕ → Vector → Vector → Vector
kronecker_vector ring n v w = record { degree = v.degree +ℤ w.degree; terms = kronecker_terms ring n v.terms w.terms }
