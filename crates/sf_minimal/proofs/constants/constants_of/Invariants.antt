use Rattle.std.proofs.Common.{◌≡◌, take}
use Rattle.sf_minimal.specs.Constants.{constants}
use Rattle.sf_minimal.proofs.constants.constants_of.Given as goal

abbrev pub invariant-loop-term : goal.invariant-loop-term
invariant-loop-term l = l.terms.items ≡ constants l.rows (take l.term-index l.quotients)
