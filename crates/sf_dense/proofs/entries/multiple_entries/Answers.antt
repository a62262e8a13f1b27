use Rattle.std.proofs.Common.{◌+◌, drop, sym, subst, arith}
use Rattle.std.proofs.lemmas.Grind.{common_steps}
use Rattle.std.specs.List.{AllByRecursion}
use Rattle.sf_dense.specs.Entries.{Entry}
use Rattle.sf_dense.specs.Walks.{IsFrom}
use Rattle.sf_dense.proofs.DenseSums.Walks.{ahead-next}
use Rattle.sf_dense.proofs.entries.multiple_entries.Goals as goal

pub loop-term-preserved : goal.loop-term-preserved
loop-term-preserved c = record {
  entries = grind (arith, common_steps);
  within = grind (arith, common_steps);
  ahead = λ falling descending.
      let n = c.loop-term.term-index in
      let P : Entry → Type 0 = λ e. AllByRecursion (IsFrom c.args.columns.now c.args.factor (e.cell + 1)) (drop (n +
      1) c.args.terms.now) in
      let next : P c.in-Some.entry = ahead-next c.args.columns.now c.args.factor c.args.terms.now n
      c.term-item.result c.in-Some.entry.cell falling descending c.loop-term-test.true c.term-item.is
      c.in-Some.ensures.within c.in-Some.ensures.place in
      subst P (sym c.entry.view_is) next;
}
