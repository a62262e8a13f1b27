use Rattle.std.proofs.Common.{◌≡◌, to_z, of_z, w32, ◌<ℤ◌, rules, arith}
use Rattle.std.proofs.lemmas.Int.{ints}
use Rattle.sf_algebra.specs.Vectors.{Vector}
use Rattle.sf_buchberger.proofs.DegreeBases.Taken.{AllByRecursion-next, AllByRecursion-whole}
use Rattle.sf_buchberger.proofs.counted.state.Counting.is_below.Goals as goal

pub loop-i-preserved : goal.loop-i-preserved
loop-i-preserved c =
    let degree : to_z w32 (of_z w32 c.degree.result) ≡ c.degree.result = search rules in
    let own : to_z w32 (of_z w32 c.args.degree) ≡ c.args.degree = search rules in
    let below : c.row.result.now.degree <ℤ to_z w32 (of_z w32 c.args.degree) =
    omega (arith, ints, c.if-degree.false, degree, c.degree.ensures.degree) in
    AllByRecursion-next (λ (v : Vector). v.degree <ℤ to_z w32 (of_z w32 c.args.degree)) c.args.self.now.rows.rows c.loop-i.i c.row.result.now
    c.row.ensures.row c.loop-i.invariant below

pub returns : goal.returns
returns c =
    let own : to_z w32 (of_z w32 c.args.degree) ≡ c.args.degree = search rules in record {
      below = λ e.
          AllByRecursion-whole (λ (v : Vector). v.degree <ℤ c.args.degree) c.args.self.now.rows.rows c.loop-i.i
          (omega (arith, c.loop-i-test.false, c.rows-i-end.ensures.len)) (rw own at c.loop-i.invariant);
    }
