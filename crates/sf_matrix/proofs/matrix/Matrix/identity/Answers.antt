use Rattle.std.proofs.Common.{◌++◌, sym, ap, ◌∙◌, refl, append-nil}
use Rattle.std.proofs.lemmas.List.{drop_all}
use Rattle.sf_algebra.specs.MatrixOperations.{unit_rows, identity}
use Rattle.sf_algebra.specs.Rings.{plain}
use Rattle.sf_algebra.proofs.GradedMatrices.Identities.{IsMatrix-identity}
use Rattle.sf_matrix.proofs.Assembled.{IsMatrix-assembled}
use Rattle.sf_matrix.proofs.matrix.Matrix.identity.Goals as goal

pub invariant_of-result : goal.invariant_of-result
invariant_of-result c =
    let over = drop_all c.loop-position.position _ c.loop-position-test.false in
    let rows = sym (append-nil c.loop-position.rows.items) ∙ ap (λ ds. c.loop-position.rows.items ++ unit_rows c.loop-position.position ds) (sym over) ∙ c.loop-position.invariant in
    IsMatrix-assembled (identity (plain c.args.modulus) c.args.f.now.degrees) (IsMatrix-identity (plain c.args.modulus) c.facts.ensures.above_one _) _ _ _ refl (ap (λ f. f.degrees) c.in_ok-copy.ensures.equal) (rows ∙ ap (unit_rows 0) c.as_slice-degrees.ensures.items)
