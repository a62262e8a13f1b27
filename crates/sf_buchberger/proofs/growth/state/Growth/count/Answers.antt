use Rattle.std.proofs.Common.{◌<◌, sym, subst}
use Rattle.sf_buchberger.specs.Turns.{IsTurn}
use Rattle.sf_buchberger.proofs.TakenPairs.{some_least}
use Rattle.sf_buchberger.proofs.growth.state.Growth.count.Goals as goal

pub returns-in-Generator-clause-some : goal.returns-in-Generator-clause-some
returns-in-Generator-clause-some c =
    let g = c.args.self.now in
    subst (λ n. 0 < n) (sym c.count_least.ensures.count)
    (some_least g.waiting g.pairs (subst (IsTurn g.waiting g.pairs) c.in-Generator.is c.requires.turn))

pub returns-in-Pair-clause-some : goal.returns-in-Pair-clause-some
returns-in-Pair-clause-some c =
    let g = c.args.self.now in
    subst (λ n. 0 < n) (sym c.count_least-in-Pair.ensures.count)
    (some_least g.pairs g.waiting (subst (IsTurn g.waiting g.pairs) c.in-Pair.is c.requires.turn))
