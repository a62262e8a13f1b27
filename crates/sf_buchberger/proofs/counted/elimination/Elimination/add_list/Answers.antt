use Rattle.std.proofs.Common.{arith, length, get_or, sym, ◌∙◌, ap, subst}
use Rattle.std.proofs.lemmas.Option.{slice_get_read}
use Rattle.sf_algebra.proofs.Basics.Lists.{AllByRecursion-get}
use Rattle.sf_buchberger.specs.Eliminations.{IsGraphList}
use Rattle.sf_buchberger.proofs.DegreeBases.Kept.{GoesOn-added}
use Rattle.sf_buchberger.proofs.counted.elimination.Elimination.add_list.Goals as goal

pub returns-in-Some : goal.returns-in-Some
returns-in-Some c =
    let m = c.args.m.now in
    let e = c.args.self.now in
    let facts = c.facts.ensures in
    let lists = c.deref.ensures.value in
    let entries = c.in-Some.entries.now in
    let read = c.in-Some.ensures.lookup in
    let list =
    subst (IsGraphList e.variables m e.degree e.columns.items) (sym c.as_slice.ensures.items)
    (AllByRecursion-get (IsGraphList e.variables m e.degree e.columns.items) e.lists.items c.args.list entries c.requires.elimination.lists
    (slice_get_read e.lists.items (length c.deref.result.now) c.args.list entries (ap length lists) (omega arith) (read.1 ∙ ap (λ l. get_or l c.args.list entries) lists))) in
    record {
      goes_on = GoesOn-added m facts.field facts.matrix facts.weights e c.requires.elimination c.args.factor c.as_slice.result.now list c.add.result c.add.new.self c.add.ensures.added;
    }
