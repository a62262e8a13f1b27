use Rattle.sf_resolve.proofs.StepMeets.{kept_resolution}
use Rattle.sf_resolve.proofs.resolution.Resolution.ensure.Goals as goal

pub invariant_of-self : goal.invariant_of-self
invariant_of-self g c =
    kept_resolution c.relations.result.now c.self.inside.presented _ c.make_steps.new.steps.items c.relations.ensures.relations
    c.make_steps.ensures.kept
