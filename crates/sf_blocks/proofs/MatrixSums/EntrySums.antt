-- The entries of sums of vectors are the sums of the entries.
use Rattle.std.proofs.Common.{◌≡◌, ℕ, ◌<◌, List, ◌++◌, ap, ◌∙◌}
use Rattle.sf_algebra.specs.Monomials.{monomial_cmp}
use Rattle.sf_algebra.specs.Polynomials.{polynomial_sum}
use Rattle.sf_algebra.specs.Rings.{Ring}
use Rattle.sf_algebra.specs.Sums.{add, normal}
use Rattle.sf_algebra.specs.Terms.{Term}
use Rattle.sf_algebra.specs.VectorOperations.{row_sum}
use Rattle.sf_algebra.specs.Vectors.{Place, entry}
use Rattle.sf_algebra.proofs.Vectors.EntryTotals.{entry-normal}
use Rattle.sf_algebra.proofs.Vectors.Positions.{entry-append}

module _ (ring : Ring) (positive : 0 < ring.modulus) where
  pub entry-row_sum : (j : ℕ) (us vs : List (Term Place))
      → entry j (row_sum ring us vs) ≡ polynomial_sum ring (entry j us) (entry j vs)
  unfolding add
  entry-row_sum j us vs =
      entry-normal ring positive j (us ++ vs)
      ∙ ap (normal (monomial_cmp ring.weights) ring.modulus) (entry-append j us vs)
