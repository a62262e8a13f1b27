use Rattle.std.proofs.Common.{rules}
use Rattle.sf_matrix.proofs.Plans.LookRules.{field_of, reduced_none}
use Rattle.sf_matrix.proofs.looks.reduced.Goals as goal

pub returns-in_ok-copy-in-None : goal.returns-in_ok-copy-in-None
returns-in_ok-copy-in-None g c =
    let field = field_of c.args.m.now.ring c.modulus.result c.modulus.ensures.ring c.facts.ensures.prime in
    let table = g.B.Bases.table c.args.bases.now in
    let found = c.requires.entry in
    let copied = c.in_ok-copy-in-None.ensures.equal in
    record {
      reduction = reduced_none table c.args.m.now field c.args.entry c.in-None.is found c.args.v.now
          c.requires.vector _ copied _ (search rules);
    }
