use Rattle.std.proofs.Common.{length, ◌≤◌}
use Rattle.sf_text.specs.ReadTexts.{LONGEST_TEXT}
use Rattle.sf_session.proofs.SoFar.{SoFar}
use Rattle.sf_session.proofs.execution.answer_all.Given as goal

abbrev pub invariant-loop-line : goal.invariant-loop-line
invariant-loop-line g l = record {
  so_far : SoFar (g.K.Sink.written l.initial.sink) (g.K.Sink.written l.sink) l.script l.rest l.session;
  later : g.K.Sink.faults l.initial.sink ≤ g.K.Sink.faults l.sink;
  short : length l.rest ≤ LONGEST_TEXT;
}

abbrev pub decreases-loop-line : goal.decreases-loop-line
decreases-loop-line g l = length l.rest
