use Rattle.std.proofs.Common.{subst}
use Rattle.sf_algebra.specs.Rings.{ones}
use Rattle.sf_algebra.specs.Terms.{IsCanonical}
use Rattle.sf_algebra.specs.Vectors.{place_cmp}
use Rattle.sf_reduce.specs.TermSums.{TermSum}
use Rattle.sf_reduce.proofs.BucketSums.{IsCanonical-sum_of_lists}
use Rattle.sf_reduce.proofs.sum.Sum.degree.Goals as goal

pub returns-clause-canonical : goal.returns-clause-canonical
returns-clause-canonical c =
    subst (λ (s : TermSum). IsCanonical (place_cmp ones) s.modulus s.terms) c.self.view_is
    (IsCanonical-sum_of_lists c.self.inside.modulus c.facts.ensures.positive c.self.inside.buckets.items)
