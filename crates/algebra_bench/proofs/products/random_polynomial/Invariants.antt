use Rattle.std.specs.Prelude.{◌≡◌}
use Rattle.sf_algebra.specs.Rings.{plain}
use Rattle.algebra_bench.proofs.products.random_polynomial.Given as goal

abbrev pub invariant-loop-k : goal.invariant-loop-k
invariant-loop-k l = l.sum.ring ≡ plain l.modulus
