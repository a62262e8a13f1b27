use Rattle.std.proofs.Common.{◌≡◌, length, take}
use Rattle.sf_groebner.specs.GraphRows.{with_units}
use Rattle.sf_groebner.specs.MinimalGenerators.{matrix_of}
use Rattle.sf_groebner.specs.Spans.{graph_degrees}
use Rattle.sf_buchberger.proofs.graph_rows.graph_rows.Given as goal

abbrev pub invariant-loop-i : goal.invariant-loop-i
invariant-loop-i l =
    l.graph ≡ matrix_of l.m.ring (graph_degrees l.m) (with_units (length l.m.target) (take l.i l.m.rows))
