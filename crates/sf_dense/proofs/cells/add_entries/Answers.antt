use Rattle.std.proofs.Common.{◌≡◌, ◌*◌, ◌≤◌, get_or, sym, ◌∙◌, subst, arith}
use Rattle.sf_dense.specs.Entries.{Entry}
use Rattle.sf_dense.proofs.DenseSums.Steps.{added-next, added-past, added-end, set-raised, product-room}
use Rattle.sf_dense.proofs.cells.add_entries.Goals as goal
use Rattle.sf_dense.proofs.cells.add_entries.Goals.{then-cell-sums, else-cell-sums}

pub loop-entry-preserved : goal.loop-entry-preserved
loop-entry-preserved c =
    let e : Entry = record { cell = c.entry.inside.cell; coefficient = c.entry.inside.coefficient } in
    let P : Entry → Type 0 = λ v. v ≡ get_or c.args.entries.now c.loop-entry.entry-index v in
    let item : P e = subst P (sym c.entry.view_is) c.entry-item.is in
    let room : c.args.factor * e.coefficient ≤ 4294967296 =
    product-room c.args.factor e.coefficient (omega arith) (omega arith) in
    elim c.if-cell-sums.branch [
      | then-cell-sums w ↦ record {
        added = rw w.sums-is (sym (added-next c.args.factor c.loop-entry.sums c.args.entries.now
            c.loop-entry.entry-index e c.loop-entry-test.true item) ∙ c.loop-entry.invariant.added);
        raised = λ k. rw w.sums-is (omega (
          arith,
          set-raised c.loop-entry.sums e.cell (c.args.factor * e.coefficient)
              k,
          c.loop-entry.invariant.raised k,
        ));
      }
      | else-cell-sums w ↦ record {
        added = rw w.sums-is (sym (added-past c.args.factor c.loop-entry.sums c.args.entries.now
            c.loop-entry.entry-index e c.loop-entry-test.true item w.if-cell-sums.false)
            ∙ c.loop-entry.invariant.added);
        raised = λ k. rw w.sums-is (omega (arith, c.loop-entry.invariant.raised k));
      }
    ]

pub returns-clause-added : goal.returns-clause-added
returns-clause-added c =
    sym (added-end c.args.factor c.loop-entry.sums c.args.entries.now c.loop-entry.entry-index c.loop-entry-test.false)
    ∙ c.loop-entry.invariant.added
