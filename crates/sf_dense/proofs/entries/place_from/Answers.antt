use Rattle.std.proofs.Common.{◌+◌, Some, ap, arith}
use Rattle.sf_dense.proofs.DenseSums.Walks.{column_at-equal, column_at-greater, column_at-less}
use Rattle.sf_dense.proofs.entries.place_from.Goals as goal

pub returns-in-Equal-clause-found : goal.returns-in-Equal-clause-found
returns-in-Equal-clause-found c falling i from within stands =
    ap Some (column_at-equal c.args.columns.now falling (c.loop-low.low + c.min.result) i (omega arith) within
    c.index-columns-probe.result c.args.place c.index-columns-probe.is stands c.in-Equal.ensures)

pub loop-low-preserved-in-Greater : goal.loop-low-preserved-in-Greater
loop-low-preserved-in-Greater c = record {
  begun = omega arith;
  within = omega arith;
  found = λ falling i from within stands. (
    omega (
      arith,
      column_at-greater c.args.columns.now falling (c.loop-low.low + c.min.result) i (omega arith) within
          c.index-columns-probe.result c.args.place c.index-columns-probe.is stands c.in-Greater.ensures,
    ),
    (c.loop-low.invariant.found falling i from within stands).1,
  );
}

pub loop-low-preserved : goal.loop-low-preserved
loop-low-preserved c = record {
  begun = omega arith;
  within = omega arith;
  found = λ falling i from within stands. (
    (c.loop-low.invariant.found falling i from within stands).0,
    column_at-less c.args.columns.now falling (c.loop-low.low + c.min.result) i (omega arith) within
        c.index-columns-probe.result c.args.place c.index-columns-probe.is stands c.in-Less.ensures,
  );
}
