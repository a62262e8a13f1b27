use Rattle.std.proofs.Common.{◌≡◌, ◌<◌, [], ◌%◌, length, slice_index, sym, ap, subst, ◌∙◌, arith}
use Rattle.std.specs.Prelude.{IfSome}
use Rattle.sf_algebra.specs.Rings.{Ring}
use Rattle.sf_algebra.specs.Terms.{IsCanonical, Term}
use Rattle.sf_algebra.specs.Vectors.{Place, place_cmp}
use Rattle.sf_dense.specs.Entries.{column_at}
use Rattle.sf_minimal.specs.Spaces.{GoesOn, IsTakenAway, sum_of}
use Rattle.sf_minimal.specs.declared.spaces.Space.{Space}
use Rattle.sf_minimal.proofs.Dividing.{over_plain}
use Rattle.sf_minimal.proofs.Reducing.{IsReducing, IsReducing-end, IsReducing-start}
use Rattle.sf_minimal.proofs.SpaceSteps.{GoesOn-same, GoesOn-trans, IsReducing-taken}
use Rattle.sf_minimal.proofs.spaces.Space.quotients.Goals as goal
use Rattle.sf_minimal.proofs.spaces.Space.quotients.Goals.{then-residue-ne0+in_ok-take_away+in-Some+in_ok-push-in-Some, else-residue-ne0}

pub loop-cell-init : goal.loop-cell-init
loop-cell-init c =
    let m = c.args.m.now in
    let v = c.args.v.now in
    let facts = c.matrix_facts.ensures in
    let loaded : sum_of m c.load.new.self ≡ v.terms = c.in_ok-load.ensures.sum c.if-not-branch.false in (
      GoesOn-same m c.load.new.self c.in_ok-load.ensures.goes_on.space,
      subst (λ ts. IsReducing m v.degree v.terms (sum_of m c.load.new.self) ts) (sym c.new-steps.ensures.items)
          (subst (λ ts. IsReducing m v.degree v.terms ts []) (sym loaded)
          (IsReducing-start m (over_plain m.ring facts.weights facts.prime) facts.matrix c.requires.monic v.degree v.terms
          (subst (λ (r : Ring). IsCanonical (place_cmp r.weights) m.ring.modulus v.terms) (sym facts.weights) c.requires.canonical))),
    )

pub loop-cell-preserved : goal.loop-cell-preserved
loop-cell-preserved c =
    let m = c.args.m.now in
    let v = c.args.v.now in
    let s = c.loop-cell.self in
    let facts = c.matrix_facts.ensures in
    let h = c.loop-cell.invariant in
    elim c.if-residue-ne0.branch [
      | then-residue-ne0+in_ok-take_away+in-Some+in_ok-push-in-Some w ↦
          let t : Term Place = record { at = column_at s.places.items c.loop-cell.cell; coefficient = c.residue-residue.result } in
          let modulus : c.modulus.result ≡ m.ring.modulus = sym (ap (λ (r : Ring). r.modulus) c.modulus.ensures.ring) in
          let within : c.loop-cell.cell < length s.places.items =
          let a = c.loop-cell-test.true in
          let b = c.len-cell-end.ensures in
          let e = ap (λ ks. length ks.items) h.0.places in
          omega (arith, a, b, e) in
          let steps = ap (λ us. us.items) w.steps-is ∙ w.in_ok-push-in-Some.ensures.items in (
            subst (GoesOn m c.load.new.self) (sym w.self-is) (GoesOn-trans m h.0 w.in_ok-take_away.ensures.goes_on),
            subst (λ (x : Space). IsReducing m v.degree v.terms (sum_of m x) c.if-residue-ne0.steps.items) (sym w.self-is)
                (subst (IsReducing m v.degree v.terms (sum_of m w.take_away.new.self)) (sym steps)
                (IsReducing-taken m (over_plain m.ring facts.weights facts.prime) facts.weights facts.matrix c.requires.monic v.degree v.terms s h.0.space
                (c.requires.degree ∙ sym (h.0.degree ∙ c.in_ok-load.ensures.goes_on.degree)) c.loop-cell.cell c.residue-residue.result within
                (c.residue-residue.ensures.residue ∙ ap (λ q. slice_index s.cells c.loop-cell.cell % q) modulus)
                (λ e. w.if-residue-ne0.true e) (subst (λ q. c.residue-residue.result < q) modulus c.residue-residue.ensures.below)
                (sum_of m w.take_away.new.self) c.loop-cell.steps.items _ h.1
                (subst (λ found. IfSome found (IsTakenAway m (sum_of m s) (sum_of m w.take_away.new.self) t)) w.in-Some.is w.in_ok-take_away.ensures.taken))),
          )
      | else-residue-ne0 w ↦ (
        subst (GoesOn m c.load.new.self) (sym w.self-is) h.0,
        subst (λ (x : Space). IsReducing m v.degree v.terms (sum_of m x) c.if-residue-ne0.steps.items) (sym w.self-is)
            (subst (IsReducing m v.degree v.terms (sum_of m s)) (sym (ap (λ us. us.items) w.steps-is)) h.1),
      )
    ]

pub returns-clause-divided : goal.returns-clause-divided
returns-clause-divided c =
    let m = c.args.m.now in
    let v = c.args.v.now in
    let facts = c.matrix_facts.ensures in
    IsReducing-end m (over_plain m.ring facts.weights facts.prime) facts.matrix c.requires.monic v.degree v.terms
    (sum_of m c.loop-cell.self) c.loop-cell.steps.items (c.in_ok-is_zero.ensures.zero c.if-not-branch-2.false) c.loop-cell.invariant.1
