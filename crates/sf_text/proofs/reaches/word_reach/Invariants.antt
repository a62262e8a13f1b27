use Rattle.std.proofs.Common.{◌≡◌, ◌+◌, drop, length}
use Rattle.sf_grammar.specs.WordReaches.{word_reach}
use Rattle.sf_text.proofs.reaches.word_reach.Given as goal

abbrev pub invariant-loop-byte : goal.invariant-loop-byte
invariant-loop-byte l = record {
  reached : word_reach l.word l.fn.text ≡ l.reach + word_reach (drop l.byte-index l.word) l.left;
  within : l.reach + length l.left ≡ length l.fn.text;
}
