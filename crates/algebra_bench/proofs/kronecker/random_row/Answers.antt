use Rattle.std.proofs.Common.{rules}
use Rattle.algebra_bench.proofs.Operands.{IsVector-meant}
use Rattle.algebra_bench.proofs.kronecker.random_row.Goals as goal

pub returns-clause-vector : goal.returns-clause-vector
returns-clause-vector c =
    IsVector-meant c.args.modulus c.args.degrees.now c.loop-position.terms.items c.in_ok-from_terms.field-0 c.loop-position.invariant (search rules) (search rules)
