use Rattle.std.specs.Prelude.{pos}
use Rattle.std.specs.List.{AllByRecursion}
use Rattle.sf_algebra.specs.Rings.{ones}
use Rattle.sf_algebra.specs.Vectors.{IsTermOfDegree}
use Rattle.algebra_bench.proofs.kronecker.random_row.Given as goal

abbrev pub invariant-loop-position : goal.invariant-loop-position
invariant-loop-position l = AllByRecursion (IsTermOfDegree ones l.degrees (pos 1)) l.terms.items
