use Rattle.std.proofs.Common.{◌≡◌}
use Rattle.sf_minimal.specs.Numbers.{free_numbers}
use Rattle.sf_minimal.proofs.minimal.numbers_of.Given as goal

abbrev pub invariant-loop-i : goal.invariant-loop-i
invariant-loop-i l = l.numbers.items ≡ free_numbers l.pivots.rows l.rows l.i
