use Rattle.std.proofs.Common.{◌∙◌, arith}
use Rattle.sf_algebra.proofs.Arithmetic.Inverses.{inverse_nonzero, reaches_itself, reaches_remainder}
use Rattle.sf_field.proofs.modulus.Modulus.inv.Goals as goal

pub loop-rest-init : goal.loop-rest-init
loop-rest-init c = reaches_itself _ _ (omega arith) (omega arith)

pub loop-rest-preserved : goal.loop-rest-preserved
loop-rest-preserved c =
    rw (c.mul-factor.ensures.product, c.neg.ensures.negative, ← c.value-p.ensures.same)
    (reaches_remainder _ _ _ _ c.value-p.ensures.prime c.loop-rest-test.true c.loop-rest.invariant)

pub returns-clause-nonzero : goal.returns-clause-nonzero
returns-clause-nonzero c =
    inverse_nonzero c.value-p.result c.args.a c.loop-rest.factor
    (c.loop-rest.invariant.product ∙ c.loop-rest-test.false)
