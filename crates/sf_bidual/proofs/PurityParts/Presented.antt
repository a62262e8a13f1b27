-- The rows of the augmentation generate the homology of the bidual bicomplex, and have the relations of the module.
use Rattle.std.proofs.Common.{◌≡◌, ℕ, map, sym, ◌∙◌, ap, subst, pos, neg_ℤ}
use Rattle.sf_algebra.specs.Matrices.{Matrix, row_degrees, IsMatrix}
use Rattle.sf_algebra.specs.Rings.{IsOverField}
use Rattle.sf_algebra.specs.Vectors.{IsVector}
use Rattle.sf_algebra.proofs.Basics.Lists.{AllByRecursion-weaken}
use Rattle.sf_algebra.proofs.GradedMatrices.Transposes.{map-neg-neg, row_degrees-transposed}
use Rattle.sf_algebra.proofs.Monomials.Weights.{field_ring}
use Rattle.sf_groebner.specs.Spans.{InSpan}
use Rattle.sf_groebner.proofs.Spanning.Spans.{span_module}
use Rattle.sf_presented.specs.Presented.{IsPresentedBy}
use Rattle.sf_homotopy.proofs.Exactness.Spans.{span_rows}
use Rattle.sf_bidual.specs.AugmentationLaws.{IsBoundaryAt, IsCycleAt}
use Rattle.sf_bidual.specs.Bidual.{IsBidualOf, bidual, bidual_augmentation, dual_maps}
use Rattle.sf_bidual.specs.CartanEilenberg.{CartanEilenberg, column_steps}
use Rattle.sf_bidual.proofs.Augmented.Homology.{IsMatrix-set}
use Rattle.sf_bidual.proofs.BidualSpots.Homology.{all_cycles, boundaries_of_relations, cycles_of_vectors, h, k, same_augmentation}
use Rattle.sf_bidual.proofs.BidualSpots.Augmentation.{augmentations, set_degrees, set_maps}
use Rattle.sf_bidual.proofs.BidualSpots.Bicomplex.{dual_complex}

module _ (relations : Matrix) (n : ℕ) (steps : ℕ → Matrix) (x : CartanEilenberg) (prime : IsOverField relations.ring)
    (matrix : IsMatrix relations) (d : IsBidualOf relations n steps x) where
  abbrev e : Matrix
  e = bidual_augmentation relations.ring n x

  pub augmentation-matrix : IsMatrix (bidual_augmentation relations.ring n x)
  augmentation-matrix =
      let complex = dual_complex relations n steps x prime matrix d in
      subst IsMatrix (same_augmentation relations n steps x prime matrix d)
      (IsMatrix-set (bidual relations.ring n x) (h relations n steps x prime matrix d) n
      (set_degrees relations.ring (dual_maps steps) x prime complex d.cartan n)
      (augmentations relations.ring (dual_maps steps) x prime complex d.cartan n)
      (set_maps relations.ring (dual_maps steps) x prime complex d.cartan n) (k relations n steps x prime matrix d)
      (pos n))

  pub augmentation-degrees : row_degrees (bidual_augmentation relations.ring n x) ≡ relations.target
  augmentation-degrees =
      row_degrees-transposed (column_steps x 0 0)
      ∙ ap (map neg_ℤ) ((d.cartan.boundaries 0).presentation.generators_target ∙ row_degrees-transposed (steps 0))
      ∙ map-neg-neg (steps 0).target
      ∙ d.first.target

  pub presented : IsPresentedBy (IsCycleAt (bidual relations.ring n x) (pos n))
      (IsBoundaryAt (bidual relations.ring n x) (pos n)) (bidual_augmentation relations.ring n x) relations
  presented = record {
    inside =
        AllByRecursion-weaken (InSpan e) (IsCycleAt (bidual relations.ring n x) (pos n))
        (λ v s. subst (IsCycleAt (bidual relations.ring n x) (pos n)) s.value
        (cycles_of_vectors relations n steps x prime matrix d s.coefficients
        (subst (λ ds. IsVector relations.ring ds s.coefficients) augmentation-degrees s.homogeneous)))
        e.rows (span_rows e prime.prime.above_one augmentation-matrix);
    generate = all_cycles relations n steps x prime matrix d;
    relate = λ c. (
      λ r. (boundaries_of_relations relations n steps x prime matrix d c
          (subst (λ ds. IsVector relations.ring ds c) augmentation-degrees r.coefficients)).0 r.inside,
      λ s.
          let v : IsVector relations.ring relations.target c = (span_module relations (field_ring prime) matrix).vectors c s in
          record {
            coefficients = subst (λ ds. IsVector relations.ring ds c) (sym augmentation-degrees) v;
            inside = (boundaries_of_relations relations n steps x prime matrix d c v).1 s;
          },
    );
  }
