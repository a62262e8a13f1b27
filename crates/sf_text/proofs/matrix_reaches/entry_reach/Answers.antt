use Rattle.std.proofs.Common.{rules, ◌≡◌, ◌∙◌}
use Rattle.sf_grammar.specs.Parts.{accepts}
use Rattle.sf_grammar.specs.WordReaches.{signed}
use Rattle.sf_text.specs.MatrixText.{is_sign}
use Rattle.sf_text.specs.MatrixReaches.{is_term, each}
use Rattle.sf_text.specs.declared.matrix_reaches.EntryPart.TheVariants.{Term}
use Rattle.sf_text.proofs.MatrixLanguages.{is_entry-signed}
use Rattle.sf_text.proofs.matrix_reaches.entry_reach.Goals as goal

pub returns-in-Some-eq45-default-clause-whole : goal.returns-in-Some-eq45-default-clause-whole
returns-in-Some-eq45-default-clause-whole c =
    let same : c.reach_of-behind.result.whole ≡ signed (accepts (each is_term) is_sign Term) c.args.text.now = search rules in
    same ∙ is_entry-signed c.args.text.now

pub returns-in_default-clause-whole : goal.returns-in_default-clause-whole
returns-in_default-clause-whole c =
    let same : c.reach_of.result.whole ≡ signed (accepts (each is_term) is_sign Term) c.args.text.now = search rules in
    same ∙ is_entry-signed c.args.text.now
