use Rattle.std.proofs.Common.{◌≤◌, ap, subst, length, ◌∙◌}
use Rattle.sf_algebra.specs.Matrices.{IsMatrix}
use Rattle.sf_algebra.specs.MatrixOperations.{negated}
use Rattle.sf_algebra.specs.Multiples.{negative}
use Rattle.sf_algebra.specs.Vectors.{Vector}
use Rattle.sf_algebra.proofs.GradedMatrices.NegatedMatrices.{IsMatrix-negated}
use Rattle.sf_matrix.proofs.Assembled.{IsMatrix-assembled, mapped_all}
use Rattle.sf_matrix.proofs.matrix.Matrix.negate.Goals as goal

pub invariant_of-result : goal.invariant_of-result
invariant_of-result c =
    let m = c.args.self.now in
    let whole =
    subst (λ vs. length vs ≤ c.loop-row.row-index)
    (c.deref-row-items.ensures.value ∙ ap (λ n. n.rows) c.self.view_is) c.loop-row-test.false in
    IsMatrix-assembled (negated m) (IsMatrix-negated m (subst IsMatrix c.self.view_is c.self.invariant)) _ _ _
    (ap (λ n. n.ring) c.self.view_is)
    (ap (λ f. f.degrees) c.in_ok-copy.ensures.equal ∙ ap (λ n. n.target) c.self.view_is)
    (mapped_all (λ (v : Vector). record { degree = v.degree; terms = negative m.ring.modulus v.terms }) m.rows c.loop-row.row-index c.loop-row.rows.items whole c.loop-row.invariant)
