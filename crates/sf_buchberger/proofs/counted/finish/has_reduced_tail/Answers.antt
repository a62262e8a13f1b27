use Rattle.std.proofs.Common.{◌≡◌, length, map, take, drop, ◌-◌, Option, IfSome, Vec, Global, subst}
use Rattle.sf_dense.specs.Entries.{Entry, placed}
use Rattle.sf_dense.specs.MonicEntries.{AreWithin}
use Rattle.sf_dense.specs.Walks.{times_monomial}
use Rattle.sf_buchberger.proofs.DegreeBases.ReducedTails.{tail_reduced}
use Rattle.sf_buchberger.proofs.counted.finish.has_reduced_tail.Goals as goal

pub returns : goal.returns
returns c =
    let entries = subst
    (λ (o : Option (Vec Entry Global)). IfSome o (λ es. placed c.args.columns.now es.items ≡ map (times_monomial c.one.result) (take (length c.terms.result.now - 1) (drop 1 c.terms.result.now))))
    c.in-Some.is c.in_ok-entries.ensures.entries in
    let within = subst
    (λ (o : Option (Vec Entry Global)). IfSome o (λ es. AreWithin (length c.args.columns.now) es.items))
    c.in-Some.is c.in_ok-entries.ensures.within in
    record {
      reduced = λ rows monic flags. tail_reduced c.args.columns.now rows monic c.args.flags.now flags c.in-Some.entries.items c.deref.result.now c.deref.ensures.value within
          c.have_raised.result c.have_raised.ensures.raised c.args.row.now.terms c.terms.result.now c.terms.ensures.terms c.one.result c.one.ensures.one entries;
    }
