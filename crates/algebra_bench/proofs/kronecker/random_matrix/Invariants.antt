use Rattle.std.specs.Prelude.{◌≡◌}
use Rattle.std.specs.List.{AllByRecursion}
use Rattle.sf_algebra.specs.Matrices.{row_degrees}
use Rattle.sf_algebra.specs.Rings.{plain}
use Rattle.algebra_bench.specs.Operands.{AreFlat, IsLow}
use Rattle.algebra_bench.proofs.kronecker.random_matrix.Given as goal

abbrev pub invariant-loop : goal.invariant-loop
invariant-loop l = record {
  ring : l.matrix.ring ≡ plain l.modulus;
  target : AreFlat l.matrix.target;
  rows : AllByRecursion IsLow (row_degrees l.matrix);
}
