use Rattle.std.proofs.Common.{◌≡◌, ◌∙◌, ap, subst, Bool, nat_le, length, filter, map, drop, to_z, of_z, w32, rules, ◌++◌, ◌∷◌, []}
use Rattle.std.specs.List.{AllByRecursion, list_any}
use Rattle.sf_algebra.specs.Vectors.{Place}
use Rattle.sf_groebner.specs.Leads.{place_divides}
use Rattle.sf_counting.specs.Counts.{AreGraphColumns}
use Rattle.sf_buchberger.specs.CountedRows.{HasReducedTailBy}
use Rattle.sf_buchberger.specs.declared.counted.state.Counting.{Counting}
use Rattle.sf_buchberger.proofs.DegreeBases.FinishedDegrees.{IsCounting-degree}
use Rattle.sf_buchberger.proofs.counted.state.Counting.finish.Goals as goal

pub returns-clause-counting : goal.returns-clause-counting
returns-clause-counting c = λ answer.
    let e = c.args.elimination.now in
    let now : Counting = c.push_elements.new.self in
    let from = c.rows-from.ensures.len in
    let columns = subst (λ n. AreGraphColumns n c.args.m.now e.degree e.columns.items) c.requires.elimination.variables c.requires.elimination.elimination.columns in
    let flagged = c.in_ok-flags.ensures.flags
    ∙ ap (map (λ (k : Place). list_any (λ j. place_divides j k) now.leads)) c.deref.ensures.value in
    let raised = c.raised.ensures.count ∙ ap (λ fs. length (filter (λ (b : Bool). b) fs)) c.deref-2.ensures.value in
    let sources = c.sources.ensures.count
    ∙ (λ i. length (filter (λ (k : Place). nat_le (c.cols.ensures.len i) k.position) (c.deref-3.ensures.value i))) in
    let tails = subst (λ n. AllByRecursion (HasReducedTailBy now.rows.rows) (drop n now.rows.rows)) from
    (c.in_ok-have_reduced_tails.ensures.reduced c.if-not-branch-2.false) in
    let same : to_z w32 (of_z w32 e.degree) ≡ e.degree = search rules in
    IsCounting-degree c.args.limit c.args.m.now c.facts.ensures.field c.args.self.now c.requires.counting e.degree c.requires.below now
    (c.in_ok-push_elements.ensures.more c.if-not-branch.false) tails e.columns.items columns c.in_ok-flags.flags.items flagged c.raised.result c.sources.result raised sources
    c.if-raised-sources.false c.push.new.self
    (c.in_ok-push.ensures.ok ∙ ap (λ d. now.full ++ d ∷ []) same)
