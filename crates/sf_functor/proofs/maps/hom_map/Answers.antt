use Rattle.std.proofs.Common.{◌∙◌, ap, sym, subst}
use Rattle.sf_algebra.specs.Matrices.{row_degrees}
use Rattle.sf_algebra.specs.Vectors.{Vector}
use Rattle.sf_algebra.proofs.GradedMatrices.Transposes.{row_degrees-transposed}
use Rattle.sf_matrix.specs.Bounds.{HasNegative, SumsFit}
use Rattle.sf_matrix.proofs.Pieces.{AllByRecursion-unmap}
use Rattle.sf_functor.proofs.maps.hom_map.Goals as goal

pub transpose-requires-clause-rows : goal.transpose-requires-clause-rows
transpose-requires-clause-rows c =
    AllByRecursion-unmap HasNegative (λ (v : Vector). v.degree) c.args.a.now.rows c.requires.source_negatives

pub tensor_map-requires-clause-source : goal.tensor_map-requires-clause-source
tensor_map-requires-clause-source c =
    subst (λ ds. SumsFit ds c.args.n.now.target)
    (sym (ap row_degrees c.in_ok-transpose.ensures.transposed ∙ row_degrees-transposed c.args.a.now)) c.requires.source
