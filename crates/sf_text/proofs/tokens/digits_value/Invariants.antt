use Rattle.std.proofs.Common.{◌≡◌, ◌^◌, ◌<◌, take}
use Rattle.sf_grammar.specs.Words.{number_value}
use Rattle.sf_text.proofs.tokens.digits_value.Given as goal

abbrev pub invariant-loop-byte : goal.invariant-loop-byte
invariant-loop-byte l = record {
  value : l.value ≡ number_value (take l.byte-index l.word);
  bound : l.value < 10 ^ l.byte-index;
}
