use Rattle.std.proofs.Common.{◌++◌, ap, ◌∙◌, refl, arith}
use Rattle.sf_text.proofs.JoinedItems.{written_all}
use Rattle.sf_text.proofs.PrintedRows.{IsFromColumn-first, entries_from-start, entries_from-end, entries_from_more}
use Rattle.sf_text.proofs.printing.row.print_row.Goals as goal

pub loop-column-init : goal.loop-column-init
loop-column-init c = record {
  from = IsFromColumn-first c.args.row.now.terms;
  same = λ i h. refl;
  text = ap (λ t. c.args.text.now.items ++ t) (entries_from-start c.args.names.now c.args.columns c.args.row.now.terms);
}

pub loop-column-preserved : goal.loop-column-preserved
loop-column-preserved c = record {
  from = c.in_ok-next.ensures.past;
  same = λ i h. c.in_ok-next.ensures.later i (omega arith) ∙ c.loop-column.invariant.same i (omega arith);
  text =
      entries_from_more c.args.names.now c.args.columns c.args.row.now.terms c.loop-column.column c.loop-column.next _ _ _ _ c.loop-column-test.true
      c.loop-column.invariant.text
      (c.loop-column.invariant.same c.loop-column.column (omega arith)) c.in_ok-separate.ensures.ok c.in_ok-next.ensures.ok;
}

pub returns : goal.returns
returns c = record {
  ok =
      written_all _ c.loop-column.text.items _
      (entries_from-end c.args.names.now c.args.columns c.args.row.now.terms c.loop-column.column c.loop-column-test.false)
      c.loop-column.invariant.text;
}
