use Rattle.std.proofs.Common.{◌∙◌, ap, map, arith}
use Rattle.std.specs.List.{list_any}
use Rattle.sf_algebra.specs.Vectors.{Place}
use Rattle.sf_groebner.specs.Leads.{place_divides}
use Rattle.sf_buchberger.specs.CountedRows.{HasReducedTailBy}
use Rattle.sf_buchberger.proofs.DegreeBases.Positions.{HoldsBetween-all, HoldsBetween-more, HoldsBetween-none}
use Rattle.sf_buchberger.proofs.counted.state.Counting.have_reduced_tails.Goals as goal

pub loop-i-init : goal.loop-i-init
loop-i-init c = HoldsBetween-none (HasReducedTailBy c.args.self.now.rows.rows) c.args.self.now.rows.rows c.args.from

pub loop-i-preserved : goal.loop-i-preserved
loop-i-preserved c =
    let rows = c.args.self.now.rows.rows in
    let flags = c.requires.flags
    ∙ ap (λ ls. map (λ (k : Place). list_any (λ j. place_divides j k) ls) c.args.columns.now) c.requires.leads in
    HoldsBetween-more (HasReducedTailBy rows) rows c.args.from c.loop-i.i c.row.result.now c.row.ensures.row
    (c.in_ok-has_reduced_tail.ensures.reduced rows c.requires.monic flags c.if-not-branch.false) c.loop-i.invariant

pub returns : goal.returns
returns c = record {
  reduced = λ answer. HoldsBetween-all (HasReducedTailBy c.args.self.now.rows.rows) c.args.self.now.rows.rows c.args.from c.loop-i.i
      (omega (arith, c.loop-i-test.false, c.rows-i-end.ensures.len)) c.loop-i.invariant;
}
