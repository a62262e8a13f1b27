use Rattle.std.proofs.Common.{rules, ◌≡◌, subst, ℤ, List}
use Rattle.sf_algebra.specs.Matrices.{row_degrees}
use Rattle.sf_algebra.specs.Rings.{Ring}
use Rattle.sf_algebra.specs.Vectors.{IsVector}
use Rattle.sf_session.proofs.outcomes.one_row.Goals as goal

pub push_row-requires : goal.push_row-requires
push_row-requires g =
    let ring : g.args.relations.now.ring ≡ g.new-matrix.result.ring = search rules in
    let target : row_degrees g.args.relations.now ≡ g.new-matrix.result.target = search rules in
    subst (λ (r : Ring). IsVector r g.new-matrix.result.target g.args.row) ring
    (subst (λ (ds : List ℤ). IsVector g.args.relations.now.ring ds g.args.row) target g.requires)
