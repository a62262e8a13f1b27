use Rattle.std.proofs.Common.{◌+◌, ◌<◌, length, arith, rules}
use Rattle.sf_algebra.specs.Rings.{IsOverField}
use Rattle.sf_algebra.specs.Terms.{Term}
use Rattle.sf_algebra.specs.Vectors.{Place, IsVector}
use Rattle.sf_algebra.proofs.Basics.Lists.{AllByRecursion-get, AllByRecursion-weaken}
use Rattle.sf_algebra.proofs.Monomials.Weights.{field_ring}
use Rattle.sf_groebner.specs.GraphRows.{with_units}
use Rattle.sf_groebner.specs.Spans.{IsGraphVector}
use Rattle.sf_groebner.proofs.Spanning.GraphMatrices.{graph_matrix-generators}
use Rattle.sf_buchberger.proofs.FinishedRows.{field_ones}
use Rattle.sf_buchberger.proofs.GraphUnits.{AllByRecursion-with_units, with_units-take}
use Rattle.sf_buchberger.proofs.graph_rows.graph_rows.Goals as goal

pub loop-i-init : goal.loop-i-init
unfolding with_units
loop-i-init c = search rules

pub with_unit-requires : goal.with_unit-requires
with_unit-requires c =
    let m = c.args.m.now in
    let v = c.row.result.now in
    let vector = AllByRecursion-get (IsVector m.ring m.target) m.rows c.loop-i.i v c.row.ensures.matrix c.row.ensures.row in
    record {
      behind =
          AllByRecursion-weaken _ (λ (t : Term Place). t.at.position < c.cols.result + c.loop-i.i) (λ t h. omega (arith, h.0, c.cols.ensures.len)) v.terms
          vector.homogeneous;
    }

pub push_row-requires : goal.push_row-requires
push_row-requires c =
    let m = c.args.m.now in
    let n = length m.target in
    let v = c.row.result.now in
    let prime : IsOverField m.ring = rw c.modulus.ensures.ring (field_ones c.modulus.result c.facts.ensures.prime) in
    let generators = graph_matrix-generators m (field_ring prime) prime.prime.above_one c.rows-i-end.ensures.matrix in
    let vector = (AllByRecursion-with_units (IsGraphVector m) n m.rows c.loop-i.i v generators.inside c.row.ensures.row).vector in
    rw (c.loop-i.invariant, c.in_ok-with_unit.ensures.row, c.cols.ensures.len) vector

pub loop-i-preserved : goal.loop-i-preserved
loop-i-preserved c =
    let m = c.args.m.now in
    let n = length m.target in
    let row = with_units-take n m.rows c.loop-i.i c.row.result.now c.row.ensures.row in
    rw (c.in_ok-push_row.ensures.ok, c.loop-i.invariant, c.in_ok-with_unit.ensures.row, c.cols.ensures.len, row) (search rules)
