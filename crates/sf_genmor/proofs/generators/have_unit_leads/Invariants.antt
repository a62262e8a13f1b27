use Rattle.std.proofs.Common.{take}
use Rattle.sf_genmor.specs.UnitLeads.{HaveUnitLeads}
use Rattle.sf_genmor.proofs.generators.have_unit_leads.Given as goal

abbrev pub invariant-loop-i : goal.invariant-loop-i
invariant-loop-i l = HaveUnitLeads (take l.i l.m.rows)
