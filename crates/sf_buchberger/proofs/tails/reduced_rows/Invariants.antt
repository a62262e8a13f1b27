use Rattle.std.proofs.Common.{take}
use Rattle.sf_groebner.proofs.Constructions.Tails.{HaveReducedTails}
use Rattle.sf_buchberger.proofs.tails.reduced_rows.Given as goal

abbrev pub invariant-loop-i : goal.invariant-loop-i
invariant-loop-i l = HaveReducedTails l.rows.ring l.rows.target l.rows.rows (take l.i l.rows.rows) l.reduced.items
