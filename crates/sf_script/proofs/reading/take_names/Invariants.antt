use Rattle.std.proofs.Common.{◌≡◌, ◌++◌, length}
use Rattle.sf_grammar.specs.FormValues.{leading}
use Rattle.sf_grammar.specs.Words.{words}
use Rattle.sf_script.specs.Kinds.{word_value}
use Rattle.sf_script.specs.declared.forms.Kind.TheVariants.{Name}
use Rattle.sf_script.proofs.reading.take_names.Given as goal

abbrev pub invariant-loop-word : goal.invariant-loop-word
invariant-loop-word l = record {
  read : l.names ++ (leading (word_value Name) (words l.rest)).0 ≡ l.fn.names ++ (leading (word_value Name) (words l.line)).0;
  left : (leading (word_value Name) (words l.rest)).1 ≡ (leading (word_value Name) (words l.line)).1;
}

abbrev pub decreases-loop-word : goal.decreases-loop-word
decreases-loop-word l = length l.rest
