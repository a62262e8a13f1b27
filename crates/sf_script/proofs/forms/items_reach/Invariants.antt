use Rattle.std.proofs.Common.{◌≡◌, ◌≤◌, max, length, drop}
use Rattle.sf_grammar.specs.Forms.{items_reach}
use Rattle.sf_script.specs.Kinds.{kinds}
use Rattle.sf_script.specs.Tables.{items_of}
use Rattle.sf_script.proofs.forms.items_reach.Given as goal

abbrev pub invariant-loop-item : goal.invariant-loop-item
invariant-loop-item l = record {
  reached : max (items_reach kinds (items_of (drop l.item-index l.items)) l.text) l.reach ≡ items_reach kinds (items_of l.items) l.text;
  within : l.reach ≤ length l.text;
}
