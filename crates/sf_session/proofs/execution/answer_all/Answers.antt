use Rattle.std.proofs.Common.{rules, arith, ◌≡◌, ◌∷◌}
use Rattle.sf_grammar.specs.Words.{script_lines}
use Rattle.sf_session.proofs.SoFar.{SoFar-more, SoFar-cut}
use Rattle.sf_session.proofs.execution.answer_all.Goals as goal

pub loop-line-preserved : goal.loop-line-preserved
loop-line-preserved g c =
    let cut : script_lines c.loop-line.rest.now ≡ c.in-Some.line.now ∷ script_lines c.in-Some.others.now =
    search rules in
    let written = g.K.Sink.written in
    record {
      so_far =
          SoFar-more (written c.args.sink.now) (written c.loop-line.sink)
          (written c.write_all.new.sink) c.args.script.now
          c.loop-line.rest.now c.in-Some.line.now c.in-Some.others.now c.in-Ok.reply.items c.loop-line.session c.line.new.self
          c.loop-line.invariant.so_far cut c.in-Ok.ensures.reply (search rules);
      later = omega (arith, c.loop-line.invariant.later, c.write_all.ensures.later);
      short = let shorter = c.in-Some.ensures.shorter in omega (arith, c.loop-line.invariant.short, shorter);
    }

pub returns-in_default-write_all-clause-sink : goal.returns-in_default-write_all-clause-sink
returns-in_default-write_all-clause-sink g c = λ _.
    let cut : script_lines c.loop-line.rest.now ≡ c.in-Some.line.now ∷ script_lines c.in-Some.others.now =
    search rules in
    let written = g.K.Sink.written in
    let part = rw c.as_slice.ensures.value at c.in_default-write_all.ensures.part in
    SoFar-cut (written c.args.sink.now) (written c.loop-line.sink) (written c.write_all.new.sink) c.args.script.now
    c.loop-line.rest.now c.in-Some.line.now c.in-Some.others.now c.in-Ok.reply.items part.0 c.loop-line.session c.line.new.self
    c.loop-line.invariant.so_far cut c.in-Ok.ensures.reply part.2

pub line-requires : goal.line-requires
line-requires g c =
    let within = c.in-Some.ensures.within in
    omega (arith, c.loop-line.invariant.short, within)
