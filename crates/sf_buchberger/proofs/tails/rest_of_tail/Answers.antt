use Rattle.std.proofs.Common.{ap}
use Rattle.sf_buchberger.proofs.MoreTails.{IsVector-tail_of}
use Rattle.sf_buchberger.proofs.tails.rest_of_tail.Goals as goal

pub rest_of-requires-clause-vector : goal.rest_of-requires-clause-vector
rest_of-requires-clause-vector c =
    let m = c.args.rows.now in
    rw c.in_ok-tail.ensures.tail
    (IsVector-tail_of m.ring m.target c.args.v.now c.requires.vector c.requires.lead)

pub returns : goal.returns
returns c =
    let tail = c.in_ok-tail.ensures.tail in
    record {
      rest = record {
        quotients = c.in_ok-rest._steps.items;
        divided = rw (ap (λ v. v.degree) tail, ap (λ v. v.terms) tail) at c.in_ok-rest.ensures.divided;
      };
    }
