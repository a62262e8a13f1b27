use Rattle.std.proofs.Common.{◌≡◌, drop}
use Rattle.sf_script.specs.Refusals.{are_known}
use Rattle.sf_script.proofs.check.complexes.are_known.Given as goal

abbrev pub invariant-loop-name : goal.invariant-loop-name
invariant-loop-name l = are_known l.env l.client (drop l.name-index l.names) ≡ are_known l.fn.env l.fn.client l.fn.names
