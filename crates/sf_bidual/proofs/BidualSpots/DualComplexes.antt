-- Hom of a canonical resolution into the ring is a complex of free modules.
use Rattle.std.proofs.Common.{◌≡◌, ◌<◌, ℕ, zero, suc, sym, ◌∙◌, subst}
use Rattle.sf_algebra.specs.Matrices.{Matrix, IsMatrix}
use Rattle.sf_algebra.specs.Rings.{Ring, IsOverField}
use Rattle.sf_algebra.proofs.GradedMatrices.TransposedProducts.{IsComposable-transposed}
use Rattle.sf_algebra.proofs.GradedMatrices.Transposes.{IsMatrix-transposed}
use Rattle.sf_algebra.proofs.Monomials.Weights.{field_ring}
use Rattle.sf_groebner.specs.Resolutions.{IsFirstStep, IsNextStep}
use Rattle.sf_groebner.proofs.Uniqueness.PresentedModules.{IsMatrix-first_step, IsMatrix-next_step}
use Rattle.sf_presented.proofs.Steps.{spans-next_step}
use Rattle.sf_homotopy.specs.Exactness.{IsExactPair}
use Rattle.sf_homotopy.proofs.Exactness.ZeroProducts.{zero_products}
use Rattle.sf_bidual.specs.Bidual.{dual_maps}
use Rattle.sf_bidual.specs.CartanEilenberg.{IsCochainComplex}
use Rattle.sf_bidual.proofs.Rows.TransposedColumns.{transposed_zero}

module _ (relations : Matrix) (steps : ℕ → Matrix) (prime : IsOverField relations.ring) (matrix : IsMatrix relations)
    (first : IsFirstStep relations (steps 0)) (next : (i : ℕ) → IsNextStep (steps i) (steps (suc i))) where
  pub step-rings : (i : ℕ) → (steps i).ring ≡ relations.ring
  step-rings zero = first.ring
  step-rings (suc i) = (next i).ring ∙ step-rings i

  pub IsMatrix-steps : (i : ℕ) → IsMatrix (steps i)
  IsMatrix-steps zero = IsMatrix-first_step relations (field_ring prime) matrix (steps 0) first
  IsMatrix-steps (suc i) = IsMatrix-next_step (steps i) (steps (suc i)) (next i)

  pub exact-steps : (i : ℕ) → IsExactPair (steps i) (steps (suc i))
  exact-steps i = record {
    out_matrix = IsMatrix-steps i;
    into_matrix = IsMatrix-steps (suc i);
    meet = record {
      positive = subst (λ (q : Ring). 0 < q.modulus) (sym (step-rings (suc i))) (field_ring prime).modulus;
      rings = (next i).ring;
      degrees = sym (next i).target;
    };
    exact = λ v.
        let same = spans-next_step (steps i) (steps (suc i)) (subst IsOverField (sym (step-rings i)) prime) (next i) v in
        (same.1, same.0);
  }

  pub complex_of_steps : IsCochainComplex relations.ring (dual_maps steps)
  complex_of_steps = record {
    rings = step-rings;
    matrices = λ i. IsMatrix-transposed (steps i) (IsMatrix-steps i);
    meet = λ i. IsComposable-transposed (steps (suc i)) (steps i) (exact-steps i).meet;
    square = λ i. transposed_zero (steps i) (steps (suc i)) (exact-steps i).meet (IsMatrix-steps (suc i))
        (IsMatrix-steps i)
        (zero_products (steps i) (steps (suc i))
        (subst (λ (q : Ring). 1 < q.modulus) (sym (step-rings i)) prime.prime.above_one) (exact-steps i));
  }
