use Rattle.sf_algebra.specs.Rings.{ones}
use Rattle.sf_buchberger.proofs.DegreeBases.SortedRows.{IsSorted-behind}
use Rattle.sf_buchberger.proofs.counted.finish.is_behind.Goals as goal

pub returns-else-count-eq0 : goal.returns-else-count-eq0
returns-else-count-eq0 c = record {
  behind = IsSorted-behind ones c.args.rows.now.rows c.row.result.now c.args.row.now c.rows-count.result c.rows-count.ensures.len c.if-count-eq0.false c.row.ensures.row c.row_order.result c.row_order.ensures
      c.eq.result c.eq.ensures;
}
