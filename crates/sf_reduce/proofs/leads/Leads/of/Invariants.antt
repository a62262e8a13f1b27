use Rattle.std.proofs.Common.{◌≡◌, take}
use Rattle.sf_groebner.proofs.Constructions.LeadDivisors.{lead_places}
use Rattle.sf_reduce.proofs.leads.Leads.of.Given as goal

abbrev pub invariant-loop-i : goal.invariant-loop-i
invariant-loop-i l = l.leads ≡ lead_places (take l.i l.basis.rows)
