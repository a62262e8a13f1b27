-- The multiples of a place by all monomials of a degree, in the order of places. (Textbook: in the degree reverse
-- lexicographic order the monomials without the last variable are the greater ones in each degree.)
use Rattle.std.specs.Prelude.{ℕ, zero, suc, List, [], ◌∷◌, ◌++◌}
use Rattle.sf_algebra.specs.Monomials.{variable}
use Rattle.sf_algebra.specs.Multiples.{place_product}
use Rattle.sf_algebra.specs.Vectors.{Place}

-- the multiples of a place by all monomials of a degree over the first variables, the greatest first: those without the
-- last variable, and then those of the last variable's multiple by the monomials of one degree less
unfoldable pub multiples_of : Place → ℕ → ℕ → List Place
multiples_of k zero n = k ∷ []
multiples_of k (suc d) zero = []
multiples_of k (suc d) (suc n) = multiples_of k (suc d) n ++ multiples_of (place_product (variable n) k) d (suc n)
