use Rattle.std.proofs.Common.{rules, ◌≡◌, Some}
use Rattle.sf_script.specs.Names.{named}
use Rattle.sf_script.proofs.FoundNames.{HasWrittenDegrees-named}
use Rattle.sf_script.proofs.check.steps.known.Goals as goal

pub returns-in-Some-clause-degrees : goal.returns-in-Some-clause-degrees
returns-in-Some-clause-degrees c =
    let found : named c.args.client.now c.args.env.now c.args.name.now ≡ Some c.in-Some.found.now = search rules in
    HasWrittenDegrees-named c.args.env.now c.args.client.now c.args.name.now c.in-Some.found.now c.requires.degrees found
