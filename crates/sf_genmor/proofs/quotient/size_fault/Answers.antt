use Rattle.std.proofs.Common.{arith}
use Rattle.sf_genmor.proofs.QuotientSteps.{ends_by_columns, ends_by_rows}
use Rattle.sf_genmor.proofs.quotient.size_fault.Goals as goal
use Rattle.sf_genmor.proofs.quotient.size_fault.Goals.{else-rows-le-GREATEST_SIZE-via-then-rows-le-GREATEST_SIZE+else-cols-le-GREATEST_SIZE, else-rows-le-GREATEST_SIZE-via-else-rows-le-GREATEST_SIZE}

pub returns-then-rows-eq0-clause-fault : goal.returns-then-rows-eq0-clause-fault
returns-then-rows-eq0-clause-fault c =
    ends_by_columns c.args.rows c.args.cols c.if-rows-eq0.true
    (λ within. elim c.else-rows-le-GREATEST_SIZE.branch [
      | else-rows-le-GREATEST_SIZE-via-then-rows-le-GREATEST_SIZE+else-cols-le-GREATEST_SIZE w ↦ omega (arith, within.1, w.if-cols-le-GREATEST_SIZE.false)
      | else-rows-le-GREATEST_SIZE-via-else-rows-le-GREATEST_SIZE w ↦ omega (arith, within.0, w.if-rows-le-GREATEST_SIZE.false)
    ])

pub returns-clause-fault : goal.returns-clause-fault
returns-clause-fault c =
    ends_by_rows c.args.rows c.args.cols c.if-rows-eq0.false
    (λ within. elim c.else-rows-le-GREATEST_SIZE.branch [
      | else-rows-le-GREATEST_SIZE-via-then-rows-le-GREATEST_SIZE+else-cols-le-GREATEST_SIZE w ↦ omega (arith, within.1, w.if-cols-le-GREATEST_SIZE.false)
      | else-rows-le-GREATEST_SIZE-via-else-rows-le-GREATEST_SIZE w ↦ omega (arith, within.0, w.if-rows-le-GREATEST_SIZE.false)
    ])
