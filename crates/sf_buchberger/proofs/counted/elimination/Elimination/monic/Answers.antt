use Rattle.std.proofs.Common.{◌≡◌, length, ap, sym, subst}
use Rattle.sf_algebra.specs.Rings.{Ring}
use Rattle.sf_dense.specs.MonicEntries.{AreMonicEntries, AreWithin}
use Rattle.sf_buchberger.specs.Eliminations.{IsGraphList}
use Rattle.sf_buchberger.proofs.DegreeBases.Found.{IfSome-both, IfSome-match}
use Rattle.sf_buchberger.proofs.DegreeBases.GraphLists.{IsGraphList-monic}
use Rattle.sf_buchberger.proofs.counted.elimination.Elimination.monic.Goals as goal

pub returns : goal.returns
returns c =
    let m = c.args.m.now in
    let e = c.args.self.now in
    let h = c.requires.elimination in
    let facts = c.facts.ensures in
    let modulus : m.ring.modulus ≡ c.modulus.result = ap (λ (ring : Ring). ring.modulus) c.modulus.ensures.ring in
    record {
      entries =
          IfSome-both (λ es. AreMonicEntries c.modulus.result e.cells es.items) (λ es. AreWithin (length e.cells) es.items)
          (λ es. IsGraphList e.variables m e.degree e.columns.items es.items)
          (λ es read inside. IsGraphList-monic e.variables m facts.field facts.matrix e.degree e.columns.items h.columns facts.weights e.cells h.size h.sum es.items
          (subst (λ p. AreMonicEntries p e.cells es.items) (sym modulus) read) inside)
          c.monic_entries.result
          (IfSome-match _ _ c.monic_entries.result c.monic_entries.ensures.entries) c.monic_entries.ensures.within;
    }
