use Rattle.std.proofs.Common.{◌≡◌, ◌≤◌, max, map, drop, length, Bor, List}
use Rattle.sf_grammar.specs.Forms.{line_reach}
use Rattle.sf_script.specs.Kinds.{kinds}
use Rattle.sf_script.specs.Tables.{items_of}
use Rattle.sf_script.specs.declared.forms.Item.{Item}
use Rattle.sf_script.proofs.forms.greatest_reach.Given as goal

abbrev pub invariant-loop-form : goal.invariant-loop-form
invariant-loop-form l = record {
  reached : max (line_reach kinds (map (λ (form : Bor (List Item)). items_of form.now) (drop l.form-index l.forms)) l.text) l.reach
      ≡ line_reach kinds (map (λ (form : Bor (List Item)). items_of form.now) l.forms) l.text;
  within : l.reach ≤ length l.text;
}
