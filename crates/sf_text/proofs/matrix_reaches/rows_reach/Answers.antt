use Rattle.std.proofs.Common.{rules, ◌≡◌, ◌∙◌, ◌==◌, sym, true, false, not}
use Rattle.sf_algebra.specs.Printing.{semicolon}
use Rattle.sf_grammar.specs.Parts.{accepts}
use Rattle.sf_grammar.specs.Words.{is_filled}
use Rattle.sf_text.specs.MatrixReaches.{is_row, each}
use Rattle.sf_text.specs.declared.matrix_reaches.RowsPart.TheVariants.{Row}
use Rattle.sf_text.proofs.MatrixLanguages.{are_rows-accepted}
use Rattle.sf_text.proofs.matrix_reaches.rows_reach.Goals as goal

pub returns-then-rows-clause-whole : goal.returns-then-rows-clause-whole
returns-then-rows-clause-whole c =
    let accepted : accepts (each is_row) (λ b. b == semicolon) Row c.args.text.now ≡ true =
    sym c.reach_of-rows.ensures.whole ∙ c.if-rows.true in
    c.if-rows.true ∙ (rw accepted at (are_rows-accepted c.args.text.now))

pub returns-else-rows-clause-whole : goal.returns-else-rows-clause-whole
returns-else-rows-clause-whole c =
    let accepted : accepts (each is_row) (λ b. b == semicolon) Row c.args.text.now ≡ false =
    sym c.reach_of-rows.ensures.whole ∙ c.if-rows.false in
    let empty : c.is_empty.result ≡ not (is_filled c.args.text.now) = search rules in
    empty ∙ (rw accepted at (are_rows-accepted c.args.text.now))
