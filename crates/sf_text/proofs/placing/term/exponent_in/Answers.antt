use Rattle.std.proofs.Common.{◌∙◌, sym, arith}
use Rattle.sf_text.proofs.PlacedTerms.{exponent_in-fits, exponent_in-le}
use Rattle.sf_text.proofs.placing.term.exponent_in.Goals as goal

pub overflow_add-sum : goal.overflow_add-sum
overflow_add-sum c =
    let fits = exponent_in-fits c.args.factors.now c.args.name.now c.loop-other.other-index c.loop-other-item.result c.loop-other.sum c.requires.few c.requires.small
    c.loop-other.invariant c.loop-other-test.true c.loop-other-item.is (sym c.eq.ensures ∙ c.if-eq.true) in
    omega arith

pub returns-clause-bounded : goal.returns-clause-bounded
returns-clause-bounded c =
    let whole = exponent_in-le c.args.factors.now c.args.name.now c.requires.small in
    omega (arith, c.loop-other.invariant)
