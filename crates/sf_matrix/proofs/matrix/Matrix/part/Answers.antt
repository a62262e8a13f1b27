use Rattle.std.proofs.Common.{ap, subst, map, slice_range, ◌∙◌}
use Rattle.sf_algebra.specs.Matrices.{IsMatrix}
use Rattle.sf_algebra.specs.MatrixOperations.{part, vector_part}
use Rattle.sf_algebra.proofs.GradedMatrices.Parts.{IsMatrix-part}
use Rattle.sf_matrix.proofs.Assembled.{IsMatrix-assembled}
use Rattle.sf_matrix.proofs.matrix.Matrix.part.Goals as goal

pub invariant_of-result : goal.invariant_of-result
invariant_of-result c =
    let m = c.args.self.now in
    let r0 = c.args.r0 in
    let r1 = c.args.r1 in
    let c0 = c.args.c0 in
    let c1 = c.args.c1 in
    let rows = c.deref.ensures.value ∙ ap (λ k. k.rows) c.self.view_is in
    let degrees = c.as_slice.ensures.items ∙ ap (λ k. k.target) c.self.view_is in
    IsMatrix-assembled (part r0 r1 c0 c1 m)
    (IsMatrix-part r0 r1 c0 c1 m (subst IsMatrix c.self.view_is c.self.invariant)) _ _ _
    (ap (λ k. k.ring) c.self.view_is)
    (c.in_ok-degrees.ensures.items ∙ ap (λ ds. slice_range ds c0 c1) degrees)
    (c.in_ok-rows.ensures ∙ ap (λ vs. map (vector_part c0 c1) (slice_range vs r0 r1)) rows)
