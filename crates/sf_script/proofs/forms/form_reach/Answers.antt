use Rattle.std.proofs.Common.{◌≡◌, ◌∷◌, ◌∙◌, Some, sym, ap, arith, option_map}
use Rattle.sf_grammar.specs.Forms.{items_behind, items_reach, line_machine}
use Rattle.sf_grammar.specs.Words.{is_space}
use Rattle.std.specs.List.{slice_split}
use Rattle.sf_script.specs.Kinds.{kinds}
use Rattle.sf_script.specs.Tables.{items_of}
use Rattle.sf_script.proofs.Lines.{length-cut}
use Rattle.sf_text.proofs.PartSteps.{reach_of-more}
use Rattle.sf_script.proofs.forms.form_reach.Goals as goal

pub loop-rest-preserved : goal.loop-rest-preserved
loop-rest-preserved c =
    let cut : slice_split is_space c.loop-rest.left.now ≡ c.next_part.result.0.now ∷ slice_split is_space c.in-Some.rest.now =
    rw c.in-Some.is at c.next_part.ensures.cut in
    let goes : (line_machine kinds).next (record { at_front = c.loop-rest.at_front; left = items_of c.loop-rest.items.now }) c.next_part.result.0.now
    ≡ Some (items_behind (items_of c.in-Some-next_items.after.now)) =
    sym c.next_items.ensures ∙ ap (option_map (λ left. items_behind (items_of left.now))) c.in-Some-next_items.is in
    let reached = reach_of-more (line_machine kinds) is_space (λ place w. items_reach kinds place.left w)
    (record { at_front = c.loop-rest.at_front; left = items_of c.loop-rest.items.now }) c.loop-rest.left.now
    c.next_part.result.0.now c.in-Some.rest.now cut (Some (items_behind (items_of c.in-Some-next_items.after.now))) goes in
    let size = length-cut c.loop-rest.left.now c.next_part.result.0.now c.in-Some.rest.now cut in
    record {
      reached = omega (arith, c.loop-rest.invariant.reached, reached);
      within = omega (arith, c.loop-rest.invariant.within, size);
    }
