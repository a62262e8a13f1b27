use Rattle.std.proofs.Common.{MatchResult, ◌<◌, length, sym, ◌∙◌, ap, subst}
use Rattle.sf_algebra.specs.Matrices.{Matrix}
use Rattle.sf_groebner.specs.GraphRows.{graph_matrix}
use Rattle.sf_groebner.proofs.Spanning.CombinationSums.{row_vector}
use Rattle.sf_buchberger.specs.GrowthSteps.{CanDivide, IsDividedAs, IsGrowthFault}
use Rattle.sf_buchberger.specs.GraphBases.{IsFault}
use Rattle.sf_buchberger.specs.Loops.{IsNearer}
use Rattle.sf_buchberger.proofs.InputMoves.{input_divides, input_fault, input_nearer, input_within}
use Rattle.sf_buchberger.proofs.Results.{MatchResult-weaker}
use Rattle.sf_buchberger.proofs.growth.state.Growth.generator_step.Goals as goal

pub divide_row-requires-clause-within : goal.divide_row-requires-clause-within
divide_row-requires-clause-within c =
    subst (λ (x : Matrix). c.take-k.result.0 < length x.rows) (sym c.requires.generators)
    (input_within c.args.limit c.requires.limit c.args.m.now c.facts.ensures.field c.facts.ensures.weights c.facts.ensures.matrix c.requires.size c.args.self.now c.requires.loops c.requires.first c.args.at c.take-k.result.0 c.take-k.result.1 c.take-k.new.self c.take-k.ensures)

pub divide_row-requires-clause-ring : goal.divide_row-requires-clause-ring
divide_row-requires-clause-ring c = c.requires.loops.ring ∙ ap (λ (x : Matrix). x.ring) (sym c.requires.generators)

pub divide_row-requires-clause-can : goal.divide_row-requires-clause-can
divide_row-requires-clause-can c =
    subst (λ (x : Matrix). CanDivide c.args.limit (record c.args.self.now { waiting = c.take-k.new.self }) (row_vector x.rows c.take-k.result.0)) (sym c.requires.generators)
    (input_divides c.args.limit c.requires.limit c.args.m.now c.facts.ensures.field c.facts.ensures.weights c.facts.ensures.matrix c.requires.size c.args.self.now c.requires.loops c.requires.first c.args.at c.take-k.result.0 c.take-k.result.1 c.take-k.new.self c.take-k.ensures)

pub returns : goal.returns
returns c =
    let g = c.args.self.now in
    let left = c.take-k.new.self in
    let k = c.take-k.result.0 in
    let stepped = subst
    (λ (x : Matrix). MatchResult c.divide_row.result
    (λ outcome. IsDividedAs c.args.limit (record g { waiting = left }) (row_vector x.rows k) outcome c.divide_row.new.self)
    (λ fault. IsGrowthFault c.args.limit c.args.m.now g.rows (row_vector x.rows k) fault))
    c.requires.generators c.divide_row.ensures.step in
    record {
      step = MatchResult-weaker c.divide_row.result
          (λ outcome. IsDividedAs c.args.limit (record g { waiting = left }) (row_vector (graph_matrix c.args.m.now).rows k) outcome c.divide_row.new.self)
          (λ outcome. IsNearer c.args.limit c.args.m.now g c.divide_row.new.self)
          (λ fault. IsGrowthFault c.args.limit c.args.m.now g.rows (row_vector (graph_matrix c.args.m.now).rows k) fault)
          (λ fault. IsFault c.args.limit c.args.m.now fault)
          (λ outcome h. input_nearer c.args.limit c.requires.limit c.args.m.now c.facts.ensures.field c.facts.ensures.weights c.facts.ensures.matrix c.requires.size g c.requires.loops c.requires.first c.args.at k c.take-k.result.1 left c.take-k.ensures outcome c.divide_row.new.self h)
          (λ fault h. input_fault c.args.limit c.requires.limit c.args.m.now c.facts.ensures.field c.facts.ensures.weights c.facts.ensures.matrix c.requires.size g c.requires.loops c.requires.first c.args.at k c.take-k.result.1 left c.take-k.ensures fault h)
          stepped;
    }
