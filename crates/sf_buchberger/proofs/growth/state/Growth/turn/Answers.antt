use Rattle.std.proofs.Common.{◌≡◌, to_z, of_z, w64, rules}
use Rattle.sf_buchberger.proofs.TakenPairs.{IsFirst-before, at_least, at_most}
use Rattle.sf_buchberger.proofs.growth.state.Growth.turn.Goals as goal

pub returns-then-generator-pair : goal.returns-then-generator-pair
returns-then-generator-pair c =
    let g = c.args.self.now in
    let first : to_z w64 (of_z w64 c.in-Some-Some.generator) ≡ c.in-Some-Some.generator = search rules in
    let second : to_z w64 (of_z w64 c.in-Some-Some.pair) ≡ c.in-Some-Some.pair = search rules in
    record {
      turn = IsFirst-before g.waiting g.pairs c.in-Some-Some.generator c.in-Some-Some.pair c.in-Some-Some.ensures.least c.in-Some-Some.ensures'.least
          (at_most c.in-Some-Some.generator c.in-Some-Some.pair (rw (first, second) at c.if-generator-pair.true));
    }

pub returns-else-generator-pair : goal.returns-else-generator-pair
returns-else-generator-pair c =
    let g = c.args.self.now in
    let first : to_z w64 (of_z w64 c.in-Some-Some.generator) ≡ c.in-Some-Some.generator = search rules in
    let second : to_z w64 (of_z w64 c.in-Some-Some.pair) ≡ c.in-Some-Some.pair = search rules in
    record {
      turn = IsFirst-before g.pairs g.waiting c.in-Some-Some.pair c.in-Some-Some.generator c.in-Some-Some.ensures'.least c.in-Some-Some.ensures.least
          (at_least c.in-Some-Some.generator c.in-Some-Some.pair (rw (first, second) at c.if-generator-pair.false));
    }
