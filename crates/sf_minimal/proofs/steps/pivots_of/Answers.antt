use Rattle.std.proofs.Common.{◌≡◌, ◌<◌, sym, ap, subst, ◌∙◌, arith, length}
use Rattle.std.specs.List.{AllByRecursion}
use Rattle.sf_algebra.specs.Matrices.{Matrix}
use Rattle.sf_algebra.specs.Vectors.{Vector}
use Rattle.sf_algebra.proofs.Monomials.Weights.{field_ring}
use Rattle.sf_groebner.specs.Spans.{InSpan}
use Rattle.sf_groebner.proofs.Constructions.LeadDivisors.{lead_places}
use Rattle.sf_minimal.specs.Spaces.{IsSpace}
use Rattle.sf_minimal.specs.Steps.{IsRowStep}
use Rattle.sf_minimal.proofs.Decisions.{decisions}
use Rattle.sf_minimal.proofs.Dividing.{over_plain}
use Rattle.sf_minimal.proofs.States.{IsState, IsState-next, IsState-pair, IsState-row, IsState-start, vector-inside}
use Rattle.sf_minimal.proofs.VectorRows.{vector_at-slice_get}
use Rattle.sf_minimal.proofs.steps.pivots_of.Goals as goal

pub loop-l-init : goal.loop-l-init
loop-l-init c =
    let m = c.args.cands.now in
    let facts = c.matrix_facts.ensures in
    let positive = field_ring (over_plain m.ring facts.weights facts.prime) in (
      positive,
      IsState-start m c.args.base.now positive c.requires.basis.reduced.monic c.requires.basis.reduced c.in_ok-pivots.pivots c.in_ok-pivots.ensures.none,
      c.new-taken.ensures.empty ∙ sym (ap (λ (x : Matrix). lead_places x.rows) c.in_ok-pivots.ensures.none),
      subst (AllByRecursion (IsSpace m)) (sym c.new-spaces.ensures.items) tt,
    )

pub enter_row-requires-clause-inside : goal.enter_row-requires-clause-inside
enter_row-requires-clause-inside c =
    let base = c.args.base.now in
    let facts = c.matrix_facts-2.ensures in
    let within : c.loop-l.l < length base.rows = let a = c.loop-l-test.true in let b = c.rows-l-end.ensures.len in omega (arith, a, b) in
    c.requires.inside c.row.result.now
    (subst (InSpan base) (vector_at-slice_get base.rows c.loop-l.l c.row.result.now c.row.ensures.row)
    (vector-inside base (field_ring (over_plain base.ring facts.weights facts.prime)) facts.matrix c.loop-l.l within))

pub loop-l-preserved : goal.loop-l-preserved
loop-l-preserved c =
    let m = c.args.cands.now in
    let base = c.args.base.now in
    let invariant = c.loop-l.invariant in
    let within : c.loop-l.l < length base.rows = let a = c.loop-l-test.true in let b = c.rows-l-end.ensures.len in omega (arith, a, b) in (
      invariant.0,
      IsState-row m base invariant.0 c.loop-l.pivots c.enter_row.new.pivots c.loop-l.l invariant.1 within
          (subst (λ (v : Vector). IsRowStep m c.loop-l.pivots c.enter_row.new.pivots v)
          (sym (vector_at-slice_get base.rows c.loop-l.l c.row.result.now c.row.ensures.row)) c.in_ok-enter_row.ensures.step),
      c.in_ok-enter_row.ensures.taken,
      c.in_ok-enter_row.ensures.spaces,
    )

pub loop-j-init : goal.loop-j-init
loop-j-init c =
    let invariant = c.loop-l.invariant in
    let same : c.loop-l.l ≡ length c.args.base.now.rows =
    let a = c.loop-l-test.false in let b = c.rows-l-end.ensures.len in let e = c.loop-l.auto.l-end in omega (arith, a, b, e) in
    (invariant.0, subst (λ l. IsState c.args.cands.now c.args.base.now invariant.0 c.loop-l.pivots l 0 0) same invariant.1, invariant.2, invariant.3)

pub loop-i-preserved : goal.loop-i-preserved
loop-i-preserved c =
    let m = c.args.cands.now in
    let base = c.args.base.now in
    let basis = c.requires.basis.reduced in
    let invariant = c.loop-i.invariant in
    let later : c.loop-j.j < length m.rows = let a = c.loop-j-test.true in let b = c.rows-j-end.ensures.len in omega (arith, a, b) in (
      invariant.0,
      IsState-pair m base invariant.0 basis.monic basis c.loop-i.pivots c.enter_pair.new.pivots (length base.rows) c.loop-i.i c.loop-j.j invariant.1 c.loop-i-test.true later c.in_ok-enter_pair.ensures.step,
      c.in_ok-enter_pair.ensures.taken,
      c.in_ok-enter_pair.ensures.spaces,
    )

pub loop-j-preserved : goal.loop-j-preserved
loop-j-preserved c =
    let m = c.args.cands.now in
    let base = c.args.base.now in
    let basis = c.requires.basis.reduced in
    let invariant = c.loop-i.invariant in
    let same : c.loop-i.i ≡ c.loop-j.j = let a = c.loop-i-test.false in let e = c.loop-i.auto.i-end in omega (arith, a, e) in (
      invariant.0,
      IsState-next m base invariant.0 basis.monic basis c.loop-i.pivots (length base.rows) c.loop-j.j
          (subst (λ i. IsState m base invariant.0 c.loop-i.pivots (length base.rows) c.loop-j.j i) same invariant.1),
      invariant.2,
      invariant.3,
    )

pub returns-clause-decide : goal.returns-clause-decide
returns-clause-decide c =
    let m = c.args.cands.now in
    let base = c.args.base.now in
    let facts = c.matrix_facts.ensures in
    let invariant = c.loop-j.invariant in
    let same : c.loop-j.j ≡ length m.rows =
    let a = c.loop-j-test.false in let b = c.rows-j-end.ensures.len in let e = c.loop-j.auto.j-end in omega (arith, a, b, e) in
    decisions m base c.loop-j.pivots (over_plain m.ring facts.weights facts.prime) invariant.0 c.requires.basis
    facts.matrix c.matrix_facts-2.ensures.matrix c.matrix_facts-3.ensures.matrix facts.above_one c.requires.ring c.requires.target
    c.requires.inside
    (subst (λ j. IsState m base invariant.0 c.loop-j.pivots (length base.rows) j 0) same invariant.1)
