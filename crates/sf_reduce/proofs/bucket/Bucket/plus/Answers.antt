use Rattle.std.proofs.Common.{sym, ap, ◌∙◌}
use Rattle.sf_algebra.specs.Rings.{plain}
use Rattle.sf_algebra.specs.VectorOperations.{row_sum}
use Rattle.sf_algebra.proofs.Vectors.RowSums.{row_sum-nil_first}
use Rattle.sf_reduce.proofs.bucket.Bucket.plus.Goals as goal

pub returns-in-None-clause-sum : goal.returns-in-None-clause-sum
returns-in-None-clause-sum c =
    sym
    (ap (λ l. row_sum (plain c.args.modulus) l c.args.terms.items) c.in-None.ensures.first
    ∙ row_sum-nil_first (plain c.args.modulus) c.facts.ensures.positive c.args.terms.items c.requires.right)
