use Rattle.std.proofs.Common.{rules, arith, ◌≡◌, ℕ, List, [], Option, refl}
use Rattle.std.proofs.KnownBytes.{Consumes-nil, Appends-nil}
use Rattle.sf_io.specs.Pull.{Gives}
use Rattle.sf_session.specs.State.{start}
use Rattle.sf_session.proofs.execution.run.Goals as goal

-- a source that stays as it was gave nothing
gives_nothing : {S : Type 0} (left : S → Option (List ℕ)) (given : S → ℕ) (old new : S) → new ≡ old
    → Gives left given old new []
gives_nothing left given old new kept = rw kept (record {
  next = Consumes-nil (left old);
  counted = record { least = omega arith; most = omega arith; exact = λ _. omega arith };
})

pub returns-in-Err-Memory-clause-read_and_written : goal.returns-in-Err-Memory-clause-read_and_written
returns-in-Err-Memory-clause-read_and_written g c =
    let kept : c.read_all.new.source ≡ c.args.source.now = search rules in
    ([], [], gives_nothing g.S.Source.left g.S.Source.given _ _ kept, Appends-nil _, ([], [], start, refl, (refl, refl)), omega arith)

-- The search would find this and the next. But from a wrong status it would look for long.
pub returns-in-Ok-answer_all-clause-read_and_written : goal.returns-in-Ok-answer_all-clause-read_and_written
returns-in-Ok-answer_all-clause-read_and_written g c =
    let read = c.in-Ok.ensures in
    let written = rw c.as_slice.ensures.value at c.in-Ok-answer_all.ensures.ok in
    (c.in-Ok.script.items, written.0, record { next = read.bytes; counted = read.given }, written.1, written.2, read.short)

pub returns-in-Err-Sink-clause-read_and_written : goal.returns-in-Err-Sink-clause-read_and_written
returns-in-Err-Sink-clause-read_and_written g c =
    let read = c.in-Ok.ensures in
    let written = rw c.as_slice.ensures.value at (c.answer_all.ensures.sink (search rules)) in
    (c.in-Ok.script.items, written.0, record { next = read.bytes; counted = read.given }, written.1, written.2, read.short)
