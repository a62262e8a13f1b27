use Rattle.std.proofs.Common.{subst}
use Rattle.sf_algebra.specs.Matrices.{row_degrees}
use Rattle.sf_algebra.specs.MatrixOperations.{stacked}
use Rattle.sf_algebra.specs.Vectors.{IsVector}
use Rattle.sf_groebner.specs.Homology.{IsCycle}
use Rattle.sf_groebner.specs.Spans.{InSpan}
use Rattle.sf_groebner.proofs.Uniqueness.PresentedModules.{IsMatrix-generators, IsMatrix-relations, IsMatrix-resolution}
use Rattle.sf_groebner.proofs.presentation.presentations_are_matrices.Goals as goal

pub returns : goal.returns
returns c = record {
  homology = λ place same_ring degrees g r h. (
    IsMatrix-generators place.here.ring place.here.target (IsCycle place.out place.beyond)
        (InSpan (stacked place.arriving place.here)) g r h
        (λ v k. subst (λ ds. IsVector place.here.ring ds v) degrees (subst (λ q. IsVector q (row_degrees place.out) v) same_ring k.coefficients)),
    IsMatrix-relations place.here.ring place.here.target (IsCycle place.out place.beyond)
        (InSpan (stacked place.arriving place.here)) g r h,
  );
  resolution = IsMatrix-resolution;
}
