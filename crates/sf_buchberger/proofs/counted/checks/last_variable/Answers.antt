use Rattle.std.proofs.Common.{sym, ◌∙◌}
use Rattle.sf_buchberger.proofs.DegreeBases.Exponents.{IsInVariables-earlier}
use Rattle.sf_buchberger.proofs.counted.checks.last_variable.Goals as goal

pub loop-k-preserved : goal.loop-k-preserved
loop-k-preserved c =
    IsInVariables-earlier c.args.monomial c.loop-k.k c.loop-k-test.true
    (sym c.exponent.ensures.exponent ∙ c.if-exponent-ne0.false) c.loop-k.invariant
