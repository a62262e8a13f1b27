use Rattle.std.proofs.Common.{◌≡◌, ◌+◌, ◌++◌, length}
use Rattle.std.specs.Option.{option_map, option_map_or}
use Rattle.sf_text.specs.MatrixText.{all_of, term_written, signed_parts, signed_left}
use Rattle.sf_text.proofs.matrix_text.read_terms.Given as goal

abbrev pub invariant-loop-left : goal.invariant-loop-left
invariant-loop-left l =
    option_map (λ others. l.terms ++ others) (all_of term_written (signed_left (option_map (λ r. (r.0, r.1.now)) l.left)))
    ≡ all_of term_written (signed_parts l.fn.minus l.fn.text)

abbrev pub decreases-loop-left : goal.decreases-loop-left
decreases-loop-left l = option_map_or (λ r. length r.1.now + 1) l.left 0
