use Rattle.std.proofs.Common.{◌∙◌, arith}
use Rattle.sf_text.proofs.PrintedRows.{entry-drop_past}
use Rattle.sf_text.proofs.PrintedTerms.{polynomial_from_more, polynomial_from-written, polynomial_from-zero}
use Rattle.sf_text.proofs.printing.row.print_entry.Goals as goal

pub loop-a-preserved : goal.loop-a-preserved
loop-a-preserved c = record {
  onward = omega arith;
  from = c.in-Some.ensures.from;
  later = λ i h. c.in-Some.ensures.later i h ∙ c.loop-a.invariant.later i h;
  text =
      polynomial_from_more c.args.names.now c.args.start c.loop-a.next _ _ _ _ _ _ _ c.loop-a.invariant.onward c.loop-a.invariant.text c.in-Some.ensures.term
      c.in_ok-separate.ensures.ok c.in_ok-print_term.ensures.ok;
}

pub returns-then-next-start-clause-ok : goal.returns-then-next-start-clause-ok
returns-then-next-start-clause-ok c =
    let none = entry-drop_past c.args.column c.args.row.now.terms c.loop-a.next c.in_default.ensures.past in
    polynomial_from-written c.args.names.now c.args.start c.loop-a.next _ _ _ c.if-next-start.true none c.loop-a.invariant.text

pub returns-clause-ok : goal.returns-clause-ok
returns-clause-ok c =
    let none = entry-drop_past c.args.column c.args.row.now.terms c.loop-a.next c.in_default.ensures.past in
    polynomial_from-zero c.args.names.now c.args.start c.loop-a.next _ _ _ _ c.if-next-start.false none c.loop-a.invariant.text c.in_ok-push.ensures.items
