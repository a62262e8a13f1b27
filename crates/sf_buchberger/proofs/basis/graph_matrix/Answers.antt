use Rattle.std.proofs.Common.{◌≡◌, ◌∷◌, ◌++◌, List, sym, ◌∙◌, ap, subst}
use Rattle.std.specs.Vec.Iter.{into_iter_items}
use Rattle.std.specs.List.{AllByRecursion}
use Rattle.sf_algebra.specs.Matrices.{Matrix}
use Rattle.sf_algebra.specs.Vectors.{Vector, IsVector}
use Rattle.sf_algebra.proofs.Basics.Lists.{AllByRecursion-back}
use Rattle.sf_groebner.specs.Spans.{graph_degrees}
use Rattle.sf_buchberger.proofs.basis.graph_matrix.Goals as goal

pub push_row-requires : goal.push_row-requires
push_row-requires c =
    let m = c.args.m.now in
    let P : Vector → Type 0 = IsVector m.ring (graph_degrees m) in
    let row : Vector = c.in-Some.row in
    let left : List Vector = into_iter_items c.next.new.self in
    let first : into_iter_items c.loop-row.row-iterator ≡ row ∷ left = c.in-Some.ensures.steps.0 in
    let all : c.loop-row.yielded ++ (row ∷ left) ≡ c.args.rows.items =
    ap (λ vs. c.loop-row.yielded ++ vs) (sym first) ∙ c.loop-row.invariant.1 ∙ c.into_iter-row-iterator.ensures.into_iter_gives.0 in
    let here = AllByRecursion-back P c.loop-row.yielded (row ∷ left) (subst (AllByRecursion P) (sym all) c.requires.vectors) in
    subst (λ (x : Matrix). IsVector x.ring x.target row) (sym c.loop-row.invariant.0) here.0
