use Rattle.sf_buchberger.proofs.MoreParts.{IsVector-coefficient_part, IsVector-value_part}
use Rattle.sf_buchberger.proofs.parts.push_parts.Goals as goal

pub push_row-requires : goal.push_row-requires
push_row-requires c =
    rw (c.requires.modules.relations.0, c.requires.modules.relations.1, c.in_ok-coefficients.ensures.part, c.cols-columns.ensures.len, c.rows.ensures.len)
    (IsVector-coefficient_part c.args.m.now c.args.row.now c.requires.vector)

pub push_row-requires-else-is_empty : goal.push_row-requires-else-is_empty
push_row-requires-else-is_empty c =
    rw (c.requires.modules.values.0, c.requires.modules.values.1, c.in_ok-value.ensures.part, c.cols-columns.ensures.len)
    (IsVector-value_part c.args.m.now c.args.row.now c.requires.vector)

pub push_row-requires-else-is_empty-2 : goal.push_row-requires-else-is_empty-2
push_row-requires-else-is_empty-2 c =
    rw (c.requires.modules.combinations.0, c.requires.modules.combinations.1, c.in_ok-coefficients.ensures.part, c.cols-columns.ensures.len, c.rows.ensures.len)
    (IsVector-coefficient_part c.args.m.now c.args.row.now c.requires.vector)
