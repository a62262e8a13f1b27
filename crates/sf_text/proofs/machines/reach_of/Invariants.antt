use Rattle.std.proofs.Common.{◌≡◌, ◌≤◌, ◌+◌, length}
use Rattle.sf_grammar.specs.Parts.{accepts, reach_of}
use Rattle.sf_text.proofs.machines.reach_of.Given as goal

abbrev pub invariant-loop-rest : goal.invariant-loop-rest
invariant-loop-rest g l = record {
  reached : reach_of g.S.State.machine g.S.State.separates g.S.State.reach l.fn.state l.fn.text
      ≡ l.done + reach_of g.S.State.machine g.S.State.separates g.S.State.reach l.state l.left;
  accepted : accepts g.S.State.machine g.S.State.separates l.fn.state l.fn.text
      ≡ accepts g.S.State.machine g.S.State.separates l.state l.left;
  within : l.done + length l.left ≤ length l.fn.text;
}

abbrev pub decreases-loop-rest : goal.decreases-loop-rest
decreases-loop-rest g l = length l.left
