use Rattle.sf_blocks.proofs.Totals.SquaresModulo.{IsTo-total_relations, squares-total_modulo}
use Rattle.sf_blocks.proofs.Totals.TotalMatrices.{total}
use Rattle.sf_blocks.proofs.Totals.TotalSquares.{squares-total}
use Rattle.sf_blocks.proofs.total.total_differentials.Goals as goal

pub returns : goal.returns
returns c = record {
  matrices = λ ring ss h. let k = total ring ss h in (k.matrix, k.source, k.target);
  squares = λ ring ss ts positive h k below. squares-total ring positive ss ts h k below;
  relations = IsTo-total_relations;
  squares_modulo = λ ring ss ts rs is_ring h k below r. squares-total_modulo ring is_ring ss ts rs h k below r;
}
