use Rattle.std.proofs.Common.{arith, below_more}
use Rattle.sf_dense.proofs.cells.greatest.Goals as goal
use Rattle.sf_dense.proofs.cells.greatest.Goals.{then-sum-greatest, else-sum-greatest}

pub loop-sum-preserved : goal.loop-sum-preserved
loop-sum-preserved c = elim c.if-sum-greatest.branch [
  | then-sum-greatest w ↦ record {
    bound = below_more _ _ (λ k below. omega (arith, c.loop-sum.invariant.bound k below)) (omega arith);
    least = λ n bound. omega (arith, bound c.loop-sum.sum-index);
  }
  | else-sum-greatest w ↦ record {
    bound = below_more _ _ (λ k below. omega (arith, c.loop-sum.invariant.bound k below)) (omega arith);
    least = λ n bound. omega (arith, c.loop-sum.invariant.least n bound);
  }
]
