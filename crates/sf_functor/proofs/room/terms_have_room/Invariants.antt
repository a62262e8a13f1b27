use Rattle.std.proofs.Common.{take}
use Rattle.sf_algebra.specs.Monomials.{one}
use Rattle.sf_matrix.specs.Bounds.{HasRoom}
use Rattle.sf_functor.proofs.room.terms_have_room.Given as goal

abbrev pub invariant-loop-term : goal.invariant-loop-term
invariant-loop-term l = HasRoom one (take l.term-index l.terms)
