-- Sums and negatives of canonical lists are a commutative group; the coefficients of a sum.
use Rattle.std.proofs.Common.{◌≡◌, ℕ, List}
use Rattle.sf_algebra.specs.Residues.{sum_mod}
use Rattle.sf_algebra.specs.Sums.{add, coefficient_at, part_at}
use Rattle.sf_algebra.specs.Terms.{Term}
use Rattle.sf_algebra.proofs.Multiplying.Keys.{Keys}
use Rattle.sf_algebra.proofs.Terms.Coefficients.{part_at-additive}
use Rattle.sf_algebra.proofs.Terms.Totals.{total-add}

pub coefficient_at-add : {K : Type 0} (keys : Keys K) (p : ℕ) (k : K) (us vs : List (Term K))
    → coefficient_at keys.cmp p k (add keys.cmp p us vs)
    ≡ sum_mod p (coefficient_at keys.cmp p k us) (coefficient_at keys.cmp p k vs)
coefficient_at-add keys p k us vs =
    total-add keys.cmp keys.order p (part_at keys.cmp k) (part_at-additive keys.cmp p k) us vs
