use Rattle.std.proofs.Common.{◌≡◌, ◌∷◌, drop}
use Rattle.sf_script.specs.Refusals.{do_meet}
use Rattle.sf_script.proofs.check.complexes.do_meet.Given as goal

abbrev pub invariant-loop-next : goal.invariant-loop-next
invariant-loop-next l = do_meet (l.here ∷ drop l.next-index l.others) ≡ do_meet l.fn.maps
