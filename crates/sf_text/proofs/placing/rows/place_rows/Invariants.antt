use Rattle.std.proofs.Common.{◌≡◌, ◌+◌, map, take, drop}
use Rattle.std.specs.List.{AllByRecursion}
use Rattle.sf_algebra.specs.Vectors.{Vector}
use Rattle.sf_text.specs.Placed.{IsWrittenTerm, row_vector, relations_of, first_fault}
use Rattle.sf_text.proofs.placing.rows.place_rows.Given as goal

abbrev pub invariant-loop-index : goal.invariant-loop-index
invariant-loop-index l = record {
  relations : l.relations ≡ relations_of l.ring l.fn.degrees (take l.index l.rows);
  small : AllByRecursion (λ (v : Vector). AllByRecursion IsWrittenTerm v.terms) l.relations.rows;
  fault :
      first_fault (l.index + 1) l.fn.degrees (map (row_vector l.ring l.fn.degrees) (drop l.index l.rows))
      ≡ first_fault 1 l.fn.degrees (map (row_vector l.ring l.fn.degrees) l.rows);
}
