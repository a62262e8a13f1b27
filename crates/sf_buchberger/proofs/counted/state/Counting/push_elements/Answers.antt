use Rattle.sf_buchberger.proofs.DegreeBases.NewRows.{HasNewRows-none, HasNewRows-one}
use Rattle.sf_buchberger.proofs.counted.state.Counting.push_elements.Goals as goal

pub loop-element-init : goal.loop-element-init
loop-element-init c =
    HasNewRows-none c.args.limit c.args.m.now c.args.self.now c.args.elimination.now.degree c.requires.finding

pub loop-element-preserved : goal.loop-element-preserved
loop-element-preserved c =
    HasNewRows-one c.args.limit c.args.m.now c.args.self.now c.args.elimination.now.degree c.loop-element.self c.push_element.new.self c.loop-element.invariant
    c.in_ok-row-in-Some.row c.in_ok-row-in-Some.ensures.degree (c.in_ok-push_element-in-Some.ensures.more c.if-not-branch.false)
