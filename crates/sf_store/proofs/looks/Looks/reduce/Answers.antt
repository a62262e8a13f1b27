use Rattle.std.proofs.Common.{◌≡◌, Some, IsSome, IfSome, sym, ◌∙◌, ap, subst}
use Rattle.std.proofs.lemmas.Result.{IfOk-weaker}
use Rattle.sf_algebra.specs.Vectors.{IsVector}
use Rattle.sf_groebner.specs.Reductions.{IsReduction}
use Rattle.sf_matrix.specs.Tables.{Table, graph_at, matrix_at}
use Rattle.sf_store.proofs.Entries.{matrix_at-look}
use Rattle.sf_store.proofs.looks.Looks.reduce.Goals as goal

pub reduction-requires-clause-vector : goal.reduction-requires-clause-vector
reduction-requires-clause-vector c =
    let there : matrix_at c.args.self.now c.args.k ≡ Some c.index-looked.result.now.matrix =
    ap (λ (t : Table). matrix_at t c.args.k) (sym c.self.view_is)
    ∙ matrix_at-look c.self.inside.limit c.self.inside.items.items c.args.k _ c.index-looked.ensures
    (subst (λ (t : Table). IsSome (graph_at t c.args.k)) (sym c.self.view_is) c.requires.entry) in
    subst (λ o. IfSome o (λ m. IsVector m.ring m.target c.args.v.now)) there c.requires.vector

pub returns : goal.returns
returns c =
    let there : matrix_at c.args.self.now c.args.k ≡ Some c.index-looked.result.now.matrix =
    ap (λ (t : Table). matrix_at t c.args.k) (sym c.self.view_is)
    ∙ matrix_at-look c.self.inside.limit c.self.inside.items.items c.args.k _ c.index-looked.ensures
    (subst (λ (t : Table). IsSome (graph_at t c.args.k)) (sym c.self.view_is) c.requires.entry) in
    record {
      reduction = IfOk-weaker c.reduction.result _ _
          (λ d h. subst (λ o. IfSome o (λ m. IsReduction m c.args.v.now d.0 d.1)) (sym there) h)
          c.reduction.ensures.reduction;
    }
