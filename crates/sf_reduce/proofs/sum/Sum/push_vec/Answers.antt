use Rattle.std.proofs.Common.{◌≡◌, subst, ◌∙◌}
use Rattle.sf_algebra.specs.Rings.{plain}
use Rattle.sf_algebra.specs.VectorOperations.{row_sum}
use Rattle.sf_algebra.proofs.Vectors.RowSums.{row_sum-comm}
use Rattle.sf_reduce.specs.Buckets.{sum_of_lists}
use Rattle.sf_reduce.specs.TermSums.{TermSum}
use Rattle.sf_reduce.proofs.sum.Sum.push_vec.Goals as goal

pub returns-clause-sum : goal.returns-clause-sum
returns-clause-sum c =
    let p = c.self.inside.modulus in
    let terms = c.args.terms.items in
    subst (λ (s : TermSum). sum_of_lists p c.enter.new.buckets.items ≡ row_sum (plain s.modulus) s.terms terms) c.self.view_is
    (c.in_ok-enter.ensures.sum
    ∙ row_sum-comm (plain p) c.facts.ensures.positive terms (sum_of_lists p c.self.inside.buckets.items))
