use Rattle.std.proofs.Common.{◌≡◌, ◌++◌, ◌+◌, drop}
use Rattle.sf_reply.specs.Texts.{steps_text}
use Rattle.sf_reply.proofs.texts.push_steps.Given as goal

abbrev pub invariant-loop-before : goal.invariant-loop-before
invariant-loop-before l =
    l.out.items ++ steps_text l.names (l.before + 1) (drop l.before l.steps) ≡ l.fn.out.items ++ steps_text l.fn.names 1 l.fn.steps
