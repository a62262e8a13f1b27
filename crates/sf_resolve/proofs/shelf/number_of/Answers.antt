use Rattle.std.proofs.Common.{sym, ◌∙◌, arith}
use Rattle.sf_algebra.proofs.GradedMatrices.Equality.{Decides-same_matrix}
use Rattle.sf_resolve.proofs.ShelfSteps.{number_here}
use Rattle.sf_resolve.proofs.shelf.number_of.Goals as goal

pub returns-then-eq-clause-found : goal.returns-then-eq-clause-found
returns-then-eq-clause-found c =
    number_here c.args.entries.now c.args.relations.now c.loop-k.k c.index-entries-k.result (omega (arith, c.loop-k-test.true))
    c.index-entries-k.is
    (sym c.presented.ensures ∙ sym c.relations.ensures.relations
    ∙ sym ((Decides-same_matrix c.args.relations.now c.relations.result.now).0 (sym c.eq.ensures ∙ c.if-eq.true)))
