use Rattle.std.proofs.Common.{◌+◌, List, length, rules, sym, subst, arith}
use Rattle.sf_algebra.specs.Matrices.{Matrix}
use Rattle.sf_object.specs.Kept.{IsKept}
use Rattle.sf_object.specs.ResolutionPlans.{resolution_plan}
use Rattle.sf_resolve.proofs.StepMeets.{AreMade, at_slice, found_all, kept_after, made_cut, made_failed, made_first, made_kept, made_next, told_exit}
use Rattle.sf_resolve.proofs.making.make_steps.Goals as goal

pub returns-then-k-len-clause-meets : goal.returns-then-k-len-clause-meets
returns-then-k-len-clause-meets g c =
    found_all c.args.relations.now c.args.k c.args.steps.now.items (search rules) c.requires.kept

pub loop-init : goal.loop-init
loop-init g c =
    subst
    (λ n. AreMade (g.B.Bases.table c.args.bases.now) c.args.relations.now c.args.steps.now.items n c.args.steps.now.items (g.B.Bases.table c.args.bases.now))
    (search rules) (made_first c.args.relations.now c.args.steps.now.items c.requires.kept)

pub returns-in_err-step-clause-kept : goal.returns-in_err-step-clause-kept
returns-in_err-step-clause-kept g c =
    kept_after c.args.relations.now c.args.steps.now.items c.loop.counter c.loop.steps.items c.loop.invariant
    (at_slice c.args.relations.now c.deref.result.now c.loop.steps.items (search rules) c.in_err-step.ensures)

pub returns-in_err-step-clause-meets : goal.returns-in_err-step-clause-meets
returns-in_err-step-clause-meets g c =
    told_exit _ c.args.k c.loop.steps.items c.from_residual.ensures.1
    (made_failed c.args.relations.now c.args.steps.now.items c.loop.counter c.loop.steps.items c.loop.invariant c.args.k
    (omega arith) (at_slice c.args.relations.now c.deref.result.now c.loop.steps.items (search rules) c.in_err-step.ensures))

pub returns-in_err-push_step-clause-kept : goal.returns-in_err-push_step-clause-kept
returns-in_err-push_step-clause-kept g c =
    subst (λ (ds : List Matrix). IsKept (g.B.Bases.table c.step_behind.new.bases) (resolution_plan c.args.relations.now (length ds)) ds)
    (sym c.in_err-push_step.ensures.err)
    (kept_after c.args.relations.now c.args.steps.now.items c.loop.counter c.loop.steps.items c.loop.invariant
    (at_slice c.args.relations.now c.deref.result.now c.loop.steps.items (search rules) c.in_ok-step.ensures))

pub returns-in_err-push_step-clause-meets : goal.returns-in_err-push_step-clause-meets
returns-in_err-push_step-clause-meets g c =
    told_exit _ c.args.k c.push_step.new.steps.items c.from_residual-in_err-push_step.ensures.1
    (made_cut c.args.relations.now c.args.steps.now.items c.loop.counter c.loop.steps.items c.loop.invariant c.args.k
    c.in_ok-step.step (omega arith)
    (at_slice c.args.relations.now c.deref.result.now c.loop.steps.items (search rules) c.in_ok-step.ensures))

pub loop-preserved : goal.loop-preserved
loop-preserved g c =
    subst
    (λ (ds : List Matrix). AreMade (g.B.Bases.table c.args.bases.now) c.args.relations.now c.args.steps.now.items (c.loop.counter + 1) ds (g.B.Bases.table c.step_behind.new.bases))
    (sym c.in_ok-push_step.ensures.ok)
    (made_next c.args.relations.now c.args.steps.now.items c.loop.counter c.loop.steps.items c.loop.invariant c.in_ok-step.step
    (at_slice c.args.relations.now c.deref.result.now c.loop.steps.items (search rules) c.in_ok-step.ensures))

pub returns-clause-kept : goal.returns-clause-kept
returns-clause-kept g c =
    made_kept c.args.relations.now c.args.steps.now.items c.loop.counter c.loop.steps.items c.loop.invariant
