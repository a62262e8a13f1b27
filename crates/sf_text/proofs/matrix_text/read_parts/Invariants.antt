use Rattle.std.proofs.Common.{◌≡◌, ◌+◌, ◌++◌, length, option_copied}
use Rattle.std.specs.Option.{option_map, option_map_or}
use Rattle.sf_text.specs.MatrixText.{all_of}
use Rattle.sf_grammar.specs.Words.{parts, parts_left}
use Rattle.sf_text.proofs.matrix_text.read_parts.Given as goal

abbrev pub invariant-loop-left : goal.invariant-loop-left
invariant-loop-left g l =
    option_map (λ others. l.items ++ others)
    (all_of g.W.Written.written (parts_left l.separator (option_copied l.left)))
    ≡ all_of g.W.Written.written (parts l.separator l.initial.text)

abbrev pub decreases-loop-left : goal.decreases-loop-left
decreases-loop-left g l = option_map_or (λ text. length text.now + 1) l.left 0
