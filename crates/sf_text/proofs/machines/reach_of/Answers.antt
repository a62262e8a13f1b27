use Rattle.std.proofs.Common.{◌≡◌, ◌∙◌, None, Some, sym, arith}
use Rattle.sf_text.proofs.PartSteps.{accepts-more, reach_of-more}
use Rattle.sf_text.proofs.machines.reach_of.Goals as goal

pub returns-in_default-next-clause-whole : goal.returns-in_default-next-clause-whole
returns-in_default-next-clause-whole g c =
    let cut = rw c.in-Some.is at c.next_cut.ensures.cut in
    let goes : g.S.State.machine.next c.loop-rest.state c.next_cut.result.0.now ≡ None =
    sym c.part-here.ensures.next ∙ c.in_default-next.is in
    let more = accepts-more g.S.State.machine g.S.State.separates g.S.State.reach c.loop-rest.state c.loop-rest.left.now _ _ cut
    None goes in
    cc

pub loop-rest-preserved : goal.loop-rest-preserved
loop-rest-preserved g c =
    let cut = rw c.in-Some.is at c.next_cut.ensures.cut in
    let size = rw c.in-Some.is at c.next_cut.ensures.length in
    let goes : g.S.State.machine.next c.loop-rest.state c.next_cut.result.0.now ≡ Some c.in-Some-next.after =
    sym c.part-here.ensures.next ∙ c.in-Some-next.is in
    let reached = reach_of-more g.S.State.machine g.S.State.separates g.S.State.reach c.loop-rest.state c.loop-rest.left.now _ _ cut
    (Some c.in-Some-next.after) goes in
    record {
      reached = omega (arith, c.loop-rest.invariant.reached, reached);
      accepted = c.loop-rest.invariant.accepted
          ∙ accepts-more g.S.State.machine g.S.State.separates g.S.State.reach c.loop-rest.state c.loop-rest.left.now _ _ cut
          (Some c.in-Some-next.after) goes;
      within = omega (arith, c.loop-rest.invariant.within, size);
    }
