-- Maps of complexes act on homology, and squares of maps on kernels, images and cokernels.
use Rattle.std.proofs.Common.{refl, sym, subst}
use Rattle.sf_algebra.specs.Matrices.{Matrix}
use Rattle.sf_algebra.specs.MatrixOperations.{stacked}
use Rattle.sf_algebra.specs.Vectors.{IsVector}
use Rattle.sf_groebner.specs.Homology.{ComplexPlace, IsAny, IsCycle}
use Rattle.sf_groebner.specs.Maps.{IsSquare, AreChainMaps, ActsOnClasses}
use Rattle.sf_groebner.specs.Presentations.{IsModuleMap}
use Rattle.sf_groebner.specs.Spans.{combined, InSpan}
use Rattle.sf_groebner.proofs.MapsOnHomology.Squares.{IsVector-combined, square-cycles, square-spans}

pub homology_acts : (a b : ComplexPlace) (first second third : Matrix) → AreChainMaps a b first second third
    → ActsOnClasses (IsCycle a.out a.beyond) (InSpan (stacked a.arriving a.here)) (IsCycle b.out b.beyond) (InSpan (stacked b.arriving b.here)) second
homology_acts a b first second third maps = record {
  elements = square-cycles a.out a.beyond b.out b.beyond second third maps.after;
  zeros = square-spans a.arriving a.here b.arriving b.here first second maps.before;
}

pub kernel_acts : (source target map other_source other_target other_map left right : Matrix)
    → IsModuleMap source other_source left → IsSquare map target other_map other_target left right
    → ActsOnClasses (IsCycle map target) (InSpan source) (IsCycle other_map other_target) (InSpan other_source) left
kernel_acts source target map other_source other_target other_map left right sends square =
    record { elements = square-cycles map target other_map other_target left right square; zeros = sends.sends }

module _ (target map other_target other_map left right : Matrix)
    (square : IsSquare map target other_map other_target left right) where
  pub image_acts : ActsOnClasses (InSpan (stacked map target)) (InSpan target) (InSpan (stacked other_map other_target))
      (InSpan other_target) right
  image_acts = record {
    elements = square-spans map target other_map other_target left right square;
    zeros = square.right_map.sends;
  }

  pub cokernel_acts : ActsOnClasses (IsAny target.ring target.target) (InSpan (stacked map target))
      (IsAny other_target.ring other_target.target) (InSpan (stacked other_map other_target)) right
  cokernel_acts = record {
    elements = λ v h.
        subst (λ q. IsVector q other_target.target (combined right v)) square.right_map.target_ring
        (IsVector-combined right.ring square.positive right refl square.right_map.matrix target.target other_target.target square.right_map.source_degrees square.right_map.target_degrees v
        (subst (λ q. IsVector q target.target v) (sym square.right_map.source_ring) h));
    zeros = square-spans map target other_map other_target left right square;
  }
