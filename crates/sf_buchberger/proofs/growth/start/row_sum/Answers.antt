use Rattle.std.proofs.Common.{◌≡◌, ◌∙◌, to_z, of_z, w32, rules}
use Rattle.sf_buchberger.proofs.Starts.{summed_row}
use Rattle.sf_buchberger.proofs.growth.start.row_sum.Goals as goal

pub returns-clause-sum : goal.returns-clause-sum
returns-clause-sum c =
    let degree : to_z w32 (of_z w32 c.degree.result) ≡ c.degree.result = search rules in
    summed_row c.modulus-modulus.result c.facts.ensures.positive c.args.rows.now.ring c.modulus-modulus.ensures.ring c.args.rows.now.target c.args.rows.now.rows c.row-row.ensures.matrix c.args.k c.row-row.result.now c.row-row.ensures.row _
    (degree ∙ c.degree.ensures.degree) c.new-sum.result c.push_all.new.self c.new-sum.ensures.zero c.terms.result.now c.terms.ensures.terms c.in_ok-push_all.ensures.degree c.in_ok-push_all.ensures.sum
