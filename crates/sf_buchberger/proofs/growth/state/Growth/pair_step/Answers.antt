use Rattle.sf_buchberger.specs.GraphBases.{IsFault}
use Rattle.sf_buchberger.specs.GrowthSteps.{IsGrowthFault, IsPairHandled, pair_vector}
use Rattle.sf_buchberger.specs.Loops.{IsNearer}
use Rattle.sf_buchberger.proofs.PairMoves.{pair_divides, pair_fault, pair_nearer}
use Rattle.sf_buchberger.proofs.Results.{MatchResult-weaker}
use Rattle.sf_buchberger.proofs.growth.state.Growth.pair_step.Goals as goal

pub handle_pair-requires-clause-can : goal.handle_pair-requires-clause-can
handle_pair-requires-clause-can c =
    pair_divides c.args.limit c.requires.limit c.args.m.now c.facts.ensures.field c.facts.ensures.weights c.facts.ensures.matrix c.requires.size c.args.self.now c.requires.loops c.requires.first c.args.at c.take-first.result.0 c.take-first.result.1 c.take-first.new.self c.take-first.ensures

pub returns : goal.returns
returns c =
    let g = c.args.self.now in
    let left = c.take-first.new.self in
    let i = c.take-first.result.0 in
    let j = c.take-first.result.1 in
    record {
      step = MatchResult-weaker c.handle_pair.result
          (λ outcome. IsPairHandled c.args.limit (record g { pairs = left }) i j outcome c.handle_pair.new.self)
          (λ outcome. IsNearer c.args.limit c.args.m.now g c.handle_pair.new.self)
          (λ fault. IsGrowthFault c.args.limit c.args.m.now g.rows (pair_vector g.rows i j) fault)
          (λ fault. IsFault c.args.limit c.args.m.now fault)
          (λ outcome h. pair_nearer c.args.limit c.requires.limit c.args.m.now c.facts.ensures.field c.facts.ensures.weights c.facts.ensures.matrix c.requires.size g c.requires.loops c.requires.first c.args.at i j left c.take-first.ensures outcome c.handle_pair.new.self h)
          (λ fault h. pair_fault c.args.limit c.requires.limit c.args.m.now c.facts.ensures.field c.facts.ensures.weights c.facts.ensures.matrix c.requires.size g c.requires.loops c.requires.first c.args.at i j left c.take-first.ensures fault h)
          c.handle_pair.ensures.step;
    }
