use Rattle.std.proofs.Common.{◌≡◌, ◌++◌, length, IsTrue}
use Rattle.std.specs.List.{list_all}
use Rattle.sf_grammar.specs.FormValues.{leading}
use Rattle.sf_grammar.specs.Words.{words}
use Rattle.sf_script.specs.Kinds.{word_value}
use Rattle.sf_script.specs.declared.forms.Kind.TheVariants.{Integer}
use Rattle.sf_text.specs.Placed.{is_written_degree}
use Rattle.sf_script.proofs.reading.take_integers.Given as goal

abbrev pub invariant-loop-word : goal.invariant-loop-word
invariant-loop-word l = record {
  read : l.integers ++ (leading (word_value Integer) (words l.rest)).0 ≡ (leading (word_value Integer) (words l.line)).0;
  left : (leading (word_value Integer) (words l.rest)).1 ≡ (leading (word_value Integer) (words l.line)).1;
  written : IsTrue (list_all is_written_degree l.integers);
}

abbrev pub decreases-loop-word : goal.decreases-loop-word
decreases-loop-word l = length l.rest
