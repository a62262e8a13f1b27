use Rattle.sf_algebra.specs.Bounds.{GREATEST_SUM}
use Rattle.sf_algebra.specs.Divisibility.{lcm}
use Rattle.sf_algebra.specs.Monomials.{exponent_sum}
use Rattle.std.proofs.Common.{◌≤◌, arith}
use Rattle.sf_groebner.specs.Criterion.{lead_place}
use Rattle.sf_groebner.proofs.Constructions.MonicVectors.{AllByRecursion-row_at}
use Rattle.sf_buchberger.proofs.growth.pairing.push_pairs.Goals as goal

pub push_pair-requires-clause-room : goal.push_pair-requires-clause-room
push_pair-requires-clause-room c =
    AllByRecursion-row_at
    (λ d ts. exponent_sum (lcm (lead_place ts).monomial c.args.lead.now.at.monomial) ≤ GREATEST_SUM) c.args.rows.now.rows
    c.requires.room c.loop-i.i (omega (arith, c.loop-i-test.true, c.rows-i-end.ensures.len))
