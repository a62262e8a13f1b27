use Rattle.std.proofs.Common.{rules, sym}
use Rattle.sf_algebra.specs.Rings.{ones}
use Rattle.sf_algebra.specs.Vectors.{place_cmp}
use Rattle.sf_algebra.proofs.Monomials.Orders.{place_cmp_linear}
use Rattle.sf_algebra.proofs.Terms.Sums.{normal-canonical}
use Rattle.sf_matrix.proofs.sums.sum_of_gathered.Goals as goal

pub returns-then-are_canonical-clause-sum : goal.returns-then-are_canonical-clause-sum
returns-then-are_canonical-clause-sum c =
    sym (normal-canonical (place_cmp ones) (place_cmp_linear ones) c.args.modulus c.facts.ensures.positive _ (search rules))
