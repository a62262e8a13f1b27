use Rattle.std.proofs.Common.{◌≡◌, map, take}
use Rattle.sf_groebner.specs.MinimalGenerators.{matrix_of}
use Rattle.sf_matrix.specs.KeptNumbers.{vector_at}
use Rattle.sf_genmor.proofs.generators.picked.Given as goal

abbrev pub invariant-loop-number : goal.invariant-loop-number
invariant-loop-number l =
    l.rows ≡ matrix_of l.m.ring l.m.target (map (vector_at l.m.rows) (take l.number-index l.numbers))
