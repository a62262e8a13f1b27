use Rattle.std.proofs.Common.{rules, ◌≡◌, ◌∙◌, ◌==◌}
use Rattle.sf_grammar.specs.Parts.{accepts}
use Rattle.sf_grammar.specs.WordReaches.{is_led}
use Rattle.sf_text.specs.MatrixText.{opening, closing}
use Rattle.sf_text.specs.MatrixReaches.{matrix_machine}
use Rattle.sf_text.specs.declared.matrix_reaches.MatrixPart.TheVariants.{Rows}
use Rattle.sf_text.proofs.MatrixLanguages.{is_matrix-led}
use Rattle.sf_text.proofs.matrix_reaches.whole_reach.Goals as goal

pub returns-in-Some-eq91-default-clause-whole : goal.returns-in-Some-eq91-default-clause-whole
returns-in-Some-eq91-default-clause-whole c =
    let led : c.reach_of-behind.result.whole
    ≡ is_led (λ b. b == opening) (accepts matrix_machine (λ b. b == closing) Rows) c.args.text.now = search rules in
    led ∙ is_matrix-led c.args.text.now
