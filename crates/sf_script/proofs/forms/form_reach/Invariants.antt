use Rattle.std.proofs.Common.{◌≡◌, ◌+◌, length}
use Rattle.sf_grammar.specs.Forms.{items_reach, line_machine, form_reach}
use Rattle.sf_grammar.specs.Parts.{reach_of}
use Rattle.sf_grammar.specs.Words.{is_space}
use Rattle.sf_script.specs.Kinds.{kinds}
use Rattle.sf_script.specs.Tables.{items_of}
use Rattle.sf_script.proofs.forms.form_reach.Given as goal

abbrev pub invariant-loop-rest : goal.invariant-loop-rest
invariant-loop-rest l = record {
  reached : l.done + reach_of (line_machine kinds) is_space (λ place w. items_reach kinds place.left w)
      (record { at_front = l.at_front; left = items_of l.items }) l.left
      ≡ form_reach kinds (items_of l.fn.form) l.fn.text;
  within : l.done + length l.left ≡ length l.fn.text;
}

abbrev pub decreases-loop-rest : goal.decreases-loop-rest
decreases-loop-rest l = length l.left
