use Rattle.std.proofs.Common.{rules, ◌≡◌, ◌<◌, length, get_or, ◌∙◌, sym, true, pos}
use Rattle.sf_text.specs.Placed.{row_of_degree, row_at, is_homogeneous}
use Rattle.sf_text.proofs.DegreeRows.{rows_of_degrees-take, first_fault-past}
use Rattle.sf_text.proofs.placing.rows.place_matrix.Goals as goal

pub loop-index-preserved : goal.loop-index-preserved
loop-index-preserved c =
    let i = c.loop-index.index in
    let source = c.args.source.now in
    let less : i < length source = search rules in
    let placed : c.in-Some.vector ≡ row_of_degree c.args.ring.now (get_or source i (pos 0)) (row_at c.args.rows.now i) = search rules in
    let good : is_homogeneous c.args.target (row_of_degree c.args.ring.now (get_or source i (pos 0)) (row_at c.args.rows.now i)) ≡ true = search rules in
    let more = rows_of_degrees-take c.args.ring.now c.args.rows.now source i (pos 0) less in
    let past = first_fault-past c.args.ring.now c.args.rows.now c.args.target source i (pos 0) less good in
    record {
      matrix = search (more, placed, rules);
      fault = sym past ∙ c.loop-index.invariant.fault;
    }
