use Rattle.std.proofs.Common.{rules}
use Rattle.std.proofs.lemmas.Result.{err_from_is_err_and}
use Rattle.sf_matrix.proofs.Plans.LookRules.{field_of, looked_beyond, looked_fails, looked_none, looked_opened}
use Rattle.sf_matrix.proofs.looks.look.Goals as goal

pub returns-then-rows-eq0 : goal.returns-then-rows-eq0
returns-then-rows-eq0 g c =
    let field = field_of c.args.m.now.ring c.modulus.result c.modulus.ensures.ring c.facts.ensures.prime in
    record { looked = looked_none (g.B.Bases.table c.args.bases.now) c.args.m.now field (search rules) }

pub returns-then-not-has_small_size : goal.returns-then-not-has_small_size
returns-then-not-has_small_size g c =
    let field = field_of c.args.m.now.ring c.modulus.result c.modulus.ensures.ring c.facts.ensures.prime in
    record {
      looked = looked_beyond (g.B.Bases.table c.args.bases.now) c.args.m.now field _ _
          c.rows-then-not-has_small_size.ensures.len c.cols.ensures.len (search rules) (search rules);
    }

pub returns-in_err-k : goal.returns-in_err-k
returns-in_err-k g c =
    let field = field_of c.args.m.now.ring c.modulus.result c.modulus.ensures.ring c.facts.ensures.prime in
    let p = err_from_is_err_and c.from_residual.result c.from_residual.ensures.1 in
    let fails = looked_fails _ c.args.m.now field c.rows.ensures.matrix (search rules) (search rules) _ _ c.in_err-k.ensures in
    record { looked = rw (p.1, p.2) fails }

pub returns : goal.returns
returns g c =
    let field = field_of c.args.m.now.ring c.modulus.result c.modulus.ensures.ring c.facts.ensures.prime in
    record {
      looked = looked_opened _ c.args.m.now field c.rows.ensures.matrix (search rules) (search rules) _ _ c.in_ok-k.ensures;
    }
