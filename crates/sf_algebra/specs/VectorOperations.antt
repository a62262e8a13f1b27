-- Sums, differences and multiples of vectors of a free module, as lists of terms, which are the rows of matrices, and
-- with their degrees. (Any textbook of algebra.)
use Rattle.std.specs.Prelude.{List, pos, ◌+ℤ◌}
use Rattle.sf_algebra.specs.Monomials.{Monomial, monomial_degree}
use Rattle.sf_algebra.specs.Multiples.{place_product, multiple, negative}
use Rattle.sf_algebra.specs.Rings.{Ring}
use Rattle.sf_algebra.specs.Sums.{add}
use Rattle.sf_algebra.specs.Terms.{Term}
use Rattle.sf_algebra.specs.Vectors.{Place, Vector, place_cmp}

abbrev pub row_sum : Ring → List (Term Place) → List (Term Place) → List (Term Place)
row_sum ring us vs = add (place_cmp ring.weights) ring.modulus us vs

abbrev pub row_difference : Ring → List (Term Place) → List (Term Place) → List (Term Place)
row_difference ring us vs = row_sum ring us (negative ring.modulus vs)

-- the multiple by a term of a polynomial
abbrev pub row_multiple : Ring → Term Monomial → List (Term Place) → List (Term Place)
row_multiple ring s us = multiple (place_cmp ring.weights) place_product ring.modulus s us

-- the sum of two vectors of one degree
abbrev pub vector_sum : Ring → Vector → Vector → Vector
vector_sum ring u v = record { degree = u.degree; terms = row_sum ring u.terms v.terms }

-- their difference
abbrev pub vector_difference : Ring → Vector → Vector → Vector
vector_difference ring u v = record { degree = u.degree; terms = row_difference ring u.terms v.terms }

-- the multiple, whose degree is higher by that of the factor's monomial
abbrev pub vector_multiple : Ring → Term Monomial → Vector → Vector
vector_multiple ring s u = record {
  degree = u.degree +ℤ pos (monomial_degree ring.weights s.at);
  terms = row_multiple ring s u.terms;
}
