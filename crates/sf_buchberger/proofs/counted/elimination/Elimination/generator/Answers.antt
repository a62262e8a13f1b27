use Rattle.std.proofs.Common.{◌≡◌, length, map, sym, ◌∙◌, ap, subst, to_z, of_z, w32, Some, slice_get, rules}
use Rattle.sf_algebra.specs.Matrices.{Matrix}
use Rattle.sf_algebra.specs.Vectors.{Vector}
use Rattle.sf_groebner.specs.GraphRows.{graph_matrix}
use Rattle.sf_dense.specs.Entries.{placed}
use Rattle.sf_dense.specs.MonicEntries.{AreWithin}
use Rattle.sf_dense.specs.Walks.{times_monomial}
use Rattle.sf_buchberger.specs.Eliminations.{IsGraphList}
use Rattle.sf_buchberger.proofs.DegreeBases.Found.{IfSome-both}
use Rattle.sf_buchberger.proofs.DegreeBases.GraphLists.{IsGraphList-generator}
use Rattle.sf_buchberger.proofs.counted.elimination.Elimination.generator.Goals as goal

pub returns : goal.returns
returns c =
    let m = c.args.m.now in
    let e = c.args.self.now in
    let ks = e.columns.items in
    let facts = c.facts.ensures in
    let v : Vector = c.row-row.result.now in
    let read : slice_get (graph_matrix m).rows c.args.k ≡ Some v =
    ap (λ (q : Matrix). slice_get q.rows c.args.k) (sym c.requires.generators) ∙ c.row-row.ensures.row in
    let its_degree : to_z w32 (of_z w32 c.degree.result) ≡ c.degree.result = search rules in
    let own_degree : to_z w32 (of_z w32 e.degree) ≡ e.degree = search rules in
    let degree : v.degree ≡ e.degree =
    sym c.degree.ensures.degree ∙ sym its_degree ∙ ap (to_z w32) c.if-degree-self.false ∙ own_degree in
    record {
      entries =
          IfSome-both (λ es. placed c.deref.result.now es.items ≡ map (times_monomial c.one.result) c.terms.result.now)
          (λ es. AreWithin (length c.deref.result.now) es.items) (λ es. IsGraphList e.variables m e.degree ks es.items)
          (λ es same inside. IsGraphList-generator e.variables m facts.field facts.matrix e.degree ks c.requires.elimination.columns c.requires.variables c.args.k v read degree es.items
          ((λ i. placed (sym c.deref.ensures.value i) es.items) ∙ same ∙ (λ i. map (times_monomial (c.one.ensures.one i)) (c.terms.ensures.terms i)))
          (subst (λ ls. AreWithin (length ls) es.items) c.deref.ensures.value inside))
          c.multiple_entries.result c.multiple_entries.ensures.entries c.multiple_entries.ensures.within;
    }
