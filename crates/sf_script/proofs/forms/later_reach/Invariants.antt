use Rattle.std.proofs.Common.{◌≡◌, ◌≤◌, max, map, drop, length, Bor, List, ℕ}
use Rattle.sf_grammar.specs.Forms.{line_reach}
use Rattle.sf_script.specs.Grammar.{later_items}
use Rattle.sf_script.specs.Kinds.{kinds}
use Rattle.sf_script.proofs.forms.later_reach.Given as goal

abbrev pub invariant-loop-spelling : goal.invariant-loop-spelling
invariant-loop-spelling l = record {
  reached : max (line_reach kinds (map (λ (word : Bor (List ℕ)). later_items word.now) (drop l.spelling-index l.spellings)) l.text) l.reach
      ≡ line_reach kinds (map (λ (word : Bor (List ℕ)). later_items word.now) l.spellings) l.text;
  within : l.reach ≤ length l.text;
}
