use Rattle.std.proofs.Common.{◌≡◌, ◌+◌, take, drop}
use Rattle.sf_algebra.specs.Rings.{plain}
use Rattle.sf_text.specs.Placed.{rows_of_degrees, first_fault}
use Rattle.sf_text.proofs.placing.rows.place_matrix.Given as goal

abbrev pub invariant-loop-index : goal.invariant-loop-index
invariant-loop-index l = record {
  matrix : l.matrix ≡ record {
    ring = plain l.ring.modulus;
    target = l.fn.target;
    rows = rows_of_degrees l.ring l.rows 0 (take l.index l.source);
  };
  fault :
      first_fault (l.index + 1) l.fn.target (rows_of_degrees l.ring l.rows l.index (drop l.index l.source))
      ≡ first_fault 1 l.fn.target (rows_of_degrees l.ring l.rows 0 l.source);
}
