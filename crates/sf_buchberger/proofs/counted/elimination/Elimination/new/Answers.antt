use Rattle.std.proofs.Common.{◌≡◌, length, sym, ◌∙◌, ap, subst, to_z, of_z, w32, rules}
use Rattle.std.proofs.lemmas.List.{length-replicate}
use Rattle.sf_counting.proofs.Counting.GraphLeads.{InGraph}
use Rattle.sf_counting.specs.Counts.{AreGraphColumns}
use Rattle.sf_dense.specs.Entries.{dense}
use Rattle.sf_buchberger.proofs.DegreeBases.GraphLists.{InGraph-dense_zero}
use Rattle.sf_buchberger.proofs.counted.elimination.Elimination.new.Goals as goal

pub returns-clause-elimination : goal.returns-clause-elimination
returns-clause-elimination c =
    let n = c.args.variables in
    let m = c.args.m.now in
    let ks = c.args.columns.items in
    let degree : to_z w32 (of_z w32 c.args.degree) ≡ c.args.degree = search rules in
    let columns : AreGraphColumns n m (to_z w32 (of_z w32 c.args.degree)) ks =
    subst (λ d. AreGraphColumns n m d ks) (sym degree) c.requires.columns in
    let count : c.len.result ≡ length ks = search rules in
    let zero = c.in_ok-cells.ensures.zero in
    record {
      columns = columns;
      size = ap length zero ∙ length-replicate c.len.result 0 ∙ count;
      sum =
          subst (λ cs. InGraph n m (to_z w32 (of_z w32 c.args.degree)) (dense m.ring.modulus ks cs)) (sym zero)
          (InGraph-dense_zero n m c.facts.ensures.field c.facts.ensures.matrix (to_z w32 (of_z w32 c.args.degree)) ks columns c.facts.ensures.weights c.len.result);
      lists = rw c.new.ensures.items tt;
    }
