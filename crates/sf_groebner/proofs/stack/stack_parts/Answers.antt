use Rattle.std.proofs.Common.{length}
use Rattle.sf_algebra.specs.Matrices.{row_degrees}
use Rattle.sf_algebra.specs.MatrixOperations.{stacked}
use Rattle.sf_groebner.specs.Spans.{IsSyzygy}
use Rattle.sf_groebner.proofs.PartsOfBases.FirstParts.{reduced-first_parts}
use Rattle.sf_groebner.proofs.PartsOfBases.Relations.{IsRelation-blocks}
use Rattle.sf_groebner.proofs.stack.stack_parts.Goals as goal

pub returns : goal.returns
returns c = record {
  basis = λ a b positive. reduced-first_parts a.ring (row_degrees (stacked a b)) (IsSyzygy (stacked a b)) (λ w h. h.coefficients) (length a.rows);
  relations = λ a b positive rings v. IsRelation-blocks a b positive rings v;
}
