use Rattle.std.proofs.Common.{◌≡◌, ◌∙◌, to_z, of_z, w32, rules, arith}
use Rattle.std.specs.Prelude.{Contains}
use Rattle.sf_algebra.specs.Vectors.{Vector}
use Rattle.sf_buchberger.proofs.DegreeBases.Degrees.{Contains-equal}
use Rattle.sf_buchberger.proofs.DegreeBases.Taken.{AllByRecursion-next, AllByRecursion-whole}
use Rattle.sf_buchberger.proofs.counted.checks.covers_rows.Goals as goal

pub loop-i-preserved : goal.loop-i-preserved
loop-i-preserved c =
    let degree : to_z w32 (of_z w32 c.degree.result) ≡ c.degree.result = search rules in
    AllByRecursion-next (λ (v : Vector). Contains c.args.full.now v.degree) c.args.m.now.rows c.loop-i.i c.row.result.now
    c.row.ensures.row c.loop-i.invariant
    (rw (← c.as_slice.ensures.items)
    (Contains-equal c.as_slice.result.now _ c.row.result.now.degree (degree ∙ c.degree.ensures.degree) c.if-not-contains.ensures.cases))

pub returns : goal.returns
returns c = record {
  covered = λ e.
      AllByRecursion-whole (λ (v : Vector). Contains c.args.full.now v.degree) c.args.m.now.rows c.loop-i.i
      (omega (arith, c.loop-i-test.false, c.rows-i-end.ensures.len)) c.loop-i.invariant;
}
