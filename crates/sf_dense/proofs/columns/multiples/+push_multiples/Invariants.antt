use Rattle.std.proofs.Common.{◌≡◌, ◌+◌, ◌-◌, ◌≤◌, ◌++◌, length}
use Rattle.sf_algebra.specs.Bounds.{GREATEST_SUM}
use Rattle.sf_algebra.specs.Monomials.{variable, exponent_sum}
use Rattle.sf_dense.specs.PlaceLists.{multiples_of}
use Rattle.sf_dense.proofs.columns.multiples.+push_multiples.Given as goal

abbrev pub decreases-push_multiples : goal.decreases-push_multiples
decreases-push_multiples l = l.variables

abbrev pub invariant-loop-rest : goal.invariant-loop-rest
invariant-loop-rest l = record {
  last : l.last ≡ variable (l.variables - 1);
  variables : 2 ≤ l.variables;
  fits : exponent_sum l.at.monomial + l.rest ≤ GREATEST_SUM;
  few : length l.places.items ≤ l.most;
  added : l.places.items ++ multiples_of l.at l.rest l.variables
      ≡ l.fn.places.items ++ multiples_of l.fn.from l.degree l.variables;
}

abbrev pub decreases-loop-rest : goal.decreases-loop-rest
decreases-loop-rest l = l.rest
