use Rattle.std.proofs.Common.{take}
use Rattle.sf_variables.specs.Variables.{IsVectorInVariables}
use Rattle.sf_buchberger.proofs.DegreeBases.Exponents.{AreInVariables-more}
use Rattle.sf_buchberger.proofs.DegreeBases.Taken.{AllByRecursion-next}
use Rattle.sf_buchberger.proofs.counted.checks.variables_of.Goals as goal

pub loop-i-preserved : goal.loop-i-preserved
loop-i-preserved c =
    let rows = c.args.m.now.rows in
    let most = c.variables_with-variables.result in
    record {
      few = c.variables_with-variables.ensures.few;
      variables =
          AllByRecursion-next (IsVectorInVariables most) rows c.loop-i.i c.row.result.now c.row.ensures.row
          (AreInVariables-more _ most c.variables_with-variables.ensures.more (take c.loop-i.i rows) c.loop-i.invariant.variables)
          c.variables_with-variables.ensures.variables;
    }
