use Rattle.sf_text.proofs.PrintedRows.{entry-drop, IsFromColumn-next, IsFromColumn-past, SameEntriesPast-next}
use Rattle.sf_text.proofs.printing.row.term_at.Goals as goal

pub returns-then-position-column-clause-term : goal.returns-then-position-column-clause-term
returns-then-position-column-clause-term c =
    entry-drop c.args.column c.args.row.now.terms c.args.k _ c.term-position.ensures.term c.if-position-column.true

pub returns-then-position-column-clause-from : goal.returns-then-position-column-clause-from
returns-then-position-column-clause-from c =
    IsFromColumn-next c.args.column c.args.row.now.terms c.args.k _ c.term-position.ensures.term c.requires

pub returns-then-position-column-clause-later : goal.returns-then-position-column-clause-later
returns-then-position-column-clause-later c =
    SameEntriesPast-next c.args.column c.args.row.now.terms c.args.k _ c.term-position.ensures.term c.if-position-column.true

pub returns-else-position-column-clause-past : goal.returns-else-position-column-clause-past
returns-else-position-column-clause-past c =
    IsFromColumn-past c.args.column c.args.row.now.terms c.args.k _ c.term-position.ensures.term c.term-position.ensures.descending c.requires c.if-position-column.false
