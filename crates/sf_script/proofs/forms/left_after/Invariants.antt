use Rattle.std.proofs.Common.{◌≡◌, length}
use Rattle.sf_grammar.specs.Forms.{left_after}
use Rattle.sf_script.specs.Kinds.{kinds}
use Rattle.sf_script.specs.Tables.{items_of}
use Rattle.sf_script.proofs.forms.left_after.Given as goal

abbrev pub invariant-loop-item : goal.invariant-loop-item
invariant-loop-item l = left_after kinds (items_of l.left) l.word ≡ left_after kinds (items_of l.items) l.word

abbrev pub decreases-loop-item : goal.decreases-loop-item
decreases-loop-item l = length l.left
