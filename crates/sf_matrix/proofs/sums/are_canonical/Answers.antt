use Rattle.std.proofs.Common.{rules}
use Rattle.sf_algebra.specs.Rings.{ones}
use Rattle.sf_algebra.specs.Vectors.{place_cmp}
use Rattle.sf_algebra.proofs.Basics.Slices.{first_and_rest}
use Rattle.sf_algebra.proofs.Monomials.Orders.{place_cmp_linear}
use Rattle.sf_algebra.proofs.Terms.Canonical.{IsTesting-next}
use Rattle.sf_matrix.proofs.sums.are_canonical.Goals as goal

pub loop-rest-preserved : goal.loop-rest-preserved
loop-rest-preserved c =
    let first = first_and_rest c.loop-rest.rest.now c.t-item.result (search rules) c.t-item.is in
    IsTesting-next (place_cmp ones) (place_cmp_linear ones) c.args.modulus _ _ c.loop-rest.invariant _ _ first
    (search rules) (search rules)
