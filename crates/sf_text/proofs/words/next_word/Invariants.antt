use Rattle.std.proofs.Common.{◌≡◌, ◌≤◌, length}
use Rattle.sf_grammar.specs.Words.{words}
use Rattle.sf_text.proofs.words.next_word.Given as goal

abbrev pub invariant-loop-first : goal.invariant-loop-first
invariant-loop-first l = record { same : words l.rest ≡ words l.line; within : length l.rest ≤ length l.line }

abbrev pub decreases-loop-first : goal.decreases-loop-first
decreases-loop-first l = length l.rest
