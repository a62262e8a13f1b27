use Rattle.std.proofs.Common.{rules, subst, sym}
use Rattle.sf_algebra.specs.Rings.{Ring, IsPositive, plain}
use Rattle.sf_algebra.specs.Vectors.{IsVector}
use Rattle.sf_algebra.proofs.Monomials.Weights.{ones_positive}
use Rattle.algebra_bench.proofs.kronecker.random_matrix.Goals as goal

pub returns-clause-operand : goal.returns-clause-operand
returns-clause-operand c = record {
  weights = subst (λ (r : Ring). IsPositive r.weights) (sym c.loop.invariant.ring) ones_positive;
  matrix = search rules;
  target = c.loop.invariant.target;
  rows = c.loop.invariant.rows;
}

pub push_row-requires : goal.push_row-requires
push_row-requires c =
    let vector : IsVector (plain c.args.modulus) c.loop.matrix.target c.in_ok-row.row = search rules in
    subst (λ q. IsVector q c.loop.matrix.target c.in_ok-row.row) (sym c.loop.invariant.ring) vector
