use Rattle.std.proofs.Common.{rules, sym, subst}
use Rattle.sf_algebra.specs.Vectors.{Vector}
use Rattle.sf_algebra.proofs.Basics.Lists.{AllByRecursion-append, AllByRecursion-get, take-slice_get}
use Rattle.sf_genmor.specs.UnitLeads.{HasUnitLead, HaveUnitLeads}
use Rattle.sf_genmor.proofs.generators.have_unit_leads.Goals as goal

pub returns-then-not-has_unit_lead : goal.returns-then-not-has_unit_lead
returns-then-not-has_unit_lead c = (
  λ e. cc,
  λ all. c.if-not-has_unit_lead.ensures.1
      (AllByRecursion-get (λ (v : Vector). HasUnitLead v.terms) c.args.m.now.rows c.loop-i.i c.row.result.now all c.row.ensures.row),
)

pub loop-i-preserved : goal.loop-i-preserved
loop-i-preserved c =
    subst HaveUnitLeads (sym (take-slice_get c.args.m.now.rows c.loop-i.i c.row.result.now c.row.ensures.row))
    (AllByRecursion-append (λ (v : Vector). HasUnitLead v.terms) _ _ c.loop-i.invariant
    (c.if-not-has_unit_lead.ensures.0 (search rules), tt))
