-- Horseshoes are exact: at the first place as stacks over triangles, at the others as triangles. In both the paths below
-- the diagonal cancel, as each side is lifted.
use Rattle.std.proofs.Common.{◌≡◌, ◌↔◌, ◌<◌, ℕ, zero, suc, refl, sym, ◌∙◌, subst, arith}
use Rattle.sf_algebra.specs.Matrices.{Matrix, row_degrees, IsMatrix}
use Rattle.sf_algebra.specs.MatrixOperations.{matrix_product, negated, IsComposable}
use Rattle.sf_algebra.specs.Rings.{Ring, IsRing}
use Rattle.sf_algebra.specs.Vectors.{Vector}
use Rattle.sf_algebra.proofs.GradedMatrices.MatrixProducts.{IsMatrix-matrix_product, row_degrees-matrix_product}
use Rattle.sf_algebra.proofs.GradedMatrices.NegatedMatrices.{row_degrees-negated}
use Rattle.sf_blocks.specs.MatrixSums.{matrix_sum, IsZeroMatrix}
use Rattle.sf_blocks.specs.SideBySide.{AreTriangle}
use Rattle.sf_blocks.proofs.MatrixSums.SumGroups.{matrix_sum-comm, matrix_sum-negated}
use Rattle.sf_blocks.proofs.TwoByTwo.Triangles.{IsZeroMatrix-triangles}
use Rattle.sf_blocks.proofs.TwoByTwo.ZeroParts.{IsZeroMatrix-zero_matrix}
use Rattle.sf_groebner.specs.MinimalGenerators.{IsInSum}
use Rattle.sf_groebner.specs.Spans.{InSpan}
use Rattle.sf_groebner.proofs.PartsOfBases.StackedSpans.{InSpan-stacked, InSpan-stacked_sum}
use Rattle.sf_homotopy.specs.Exactness.{IsExactPair}
use Rattle.sf_homotopy.proofs.Contracting.Sums.{AreParallel-negated}
use Rattle.sf_homotopy.proofs.Exactness.ZeroProducts.{zero_products}
use Rattle.sf_homotopy.proofs.Triangles.ExactTriangles.{exact_triangles}
use Rattle.sf_bidual.specs.Horseshoes.{IsHorseshoe, horseshoe}
use Rattle.sf_bidual.proofs.Horseshoes.Lifts.{IsMatrix-lifts, matrix_product-lifts, row_degrees-lifts}
use Rattle.sf_bidual.proofs.Horseshoes.Starts.{exact_start}

module _ (first last sides : ℕ → Matrix) (h : IsHorseshoe first last sides) where
  abbrev ring : Ring
  ring = (first 0).ring

  first-ring : (j : ℕ) → (first j).ring ≡ ring
  first-ring zero = refl
  first-ring (suc j) = (h.first_exact j).meet.rings ∙ first-ring j

  last-ring : (j : ℕ) → (last (suc j)).ring ≡ ring
  last-ring zero = h.last_ring
  last-ring (suc j) = (h.last_exact j).meet.rings ∙ last-ring j

  above : (j : ℕ) → 1 < (first j).ring.modulus
  above j = subst (λ (q : Ring). 1 < q.modulus) (sym (first-ring j)) h.above_one

  last-above : (j : ℕ) → 1 < (last (suc j)).ring.modulus
  last-above j = subst (λ (q : Ring). 1 < q.modulus) (sym (last-ring j)) h.above_one

  -- the products that the sides are lifts of the negatives of
  abbrev before : ℕ → Matrix
  before j = matrix_product (last (suc j)) (sides j)

  side-ring : (j : ℕ) → (sides j).ring ≡ (first j).ring
  side-ring zero = h.start.ring_of
  side-ring (suc j) = (h.lifts j).ring ∙ first-ring j ∙ sym (first-ring (suc j))

  side-target : (j : ℕ) → (sides j).target ≡ (first j).target
  side-target zero = h.start.target_of
  side-target (suc j) = (h.lifts j).target ∙ (h.first_exact j).meet.degrees

  pub IsMatrix-side : (j : ℕ) → IsMatrix (sides j)
  IsMatrix-side zero = h.start.matrix
  IsMatrix-side (suc j) = IsMatrix-lifts (first j) (negated (before j)) (sides (suc j)) (h.lifts j)

  side-degrees : (j : ℕ) → row_degrees (sides (suc j)) ≡ row_degrees (last (suc j))
  side-degrees j =
      row_degrees-lifts (first j) (negated (before j)) (sides (suc j)) (h.lifts j)
      ∙ row_degrees-negated (before j)
      ∙ row_degrees-matrix_product (last (suc j)) (sides j)

  last-target : (j : ℕ) → (last (suc j)).target ≡ row_degrees (sides j)
  last-target zero = h.last_target
  last-target (suc j) = sym (h.last_exact j).meet.degrees ∙ sym (side-degrees j)

  pub AreTriangle-horseshoe : (j : ℕ) → AreTriangle (first (suc j)) (sides (suc j)) (last (suc j))
  AreTriangle-horseshoe j = record {
    lower = record {
      rings = side-ring (suc j) ∙ first-ring (suc j) ∙ sym (last-ring j);
      degrees = side-degrees j;
    };
    rings = sym (side-ring (suc j));
    targets = sym (side-target (suc j));
  }

  last-sides : (j : ℕ) → IsComposable (last (suc j)) (sides j)
  last-sides j = record {
    positive = let one = last-above j in omega arith;
    rings = last-ring j ∙ sym (first-ring j) ∙ sym (side-ring j);
    degrees = sym (last-target j);
  }

  IsMatrix-last : (j : ℕ) → IsMatrix (last (suc j))
  IsMatrix-last j = (h.last_exact j).out_matrix

  -- each side over the first complex is the negative of what it is lifted for
  side-value : (j : ℕ) → matrix_product (sides (suc j)) (first j) ≡ negated (before j)
  side-value j =
      matrix_product-lifts (first j) (negated (before j)) (sides (suc j)) (h.lifts j)
      (first-ring j ∙ sym (last-ring j)) (sym (side-target j))

  -- so the two paths below the diagonal cancel
  pub below-zero : (j : ℕ) → IsZeroMatrix (matrix_sum (matrix_product (sides (suc j)) (first j)) (before j))
  below-zero j =
      let positive : 0 < (before j).ring.modulus = (last-sides j).positive in
      let matrix : IsMatrix (before j) =
      IsMatrix-matrix_product (last (suc j)) (sides j) (last-sides j) (IsMatrix-last j) (IsMatrix-side j) in
      subst (λ n. IsZeroMatrix (matrix_sum n (before j))) (sym (side-value j))
      (subst IsZeroMatrix (matrix_sum-comm (before j) (negated (before j)) (AreParallel-negated (before j)) positive)
      (subst IsZeroMatrix (sym (matrix_sum-negated (before j) positive matrix))
      (IsZeroMatrix-zero_matrix (before j).ring (row_degrees (before j)) (before j).target)))

  pub horseshoe_exact : (j : ℕ) → IsExactPair (horseshoe first last sides j) (horseshoe first last sides (suc j))
  horseshoe_exact zero =
      exact_start (first 0) (sides 0) (first 1) (sides 1) (last 1) h.above_one (h.first_exact 0) h.start
      (AreTriangle-horseshoe 0) (IsMatrix-side 1) (IsMatrix-last 0) h.last_target h.relations (below-zero 0)
  horseshoe_exact (suc j) =
      exact_triangles (first (suc j)) (sides (suc j)) (last (suc j)) (first (suc (suc j))) (sides (suc (suc j)))
      (last (suc (suc j))) (AreTriangle-horseshoe j) (AreTriangle-horseshoe (suc j)) (IsMatrix-side (suc j))
      (IsMatrix-side (suc (suc j))) (h.first_exact (suc j)) (h.last_exact j)
      ((IsZeroMatrix-triangles (first (suc (suc j))) (sides (suc (suc j))) (last (suc (suc j))) (first (suc j))
      (sides (suc j)) (last (suc j)) (AreTriangle-horseshoe (suc j)) (AreTriangle-horseshoe j)
      (h.first_exact (suc j)).meet (h.last_exact j).meet (h.first_exact (suc j)).into_matrix
      (IsMatrix-side (suc (suc j))) (IsMatrix-last (suc j)) (h.first_exact (suc j)).out_matrix
      (IsMatrix-side (suc j)) (IsMatrix-last j)).1 (
        zero_products (first (suc j)) (first (suc (suc j))) (above (suc j)) (h.first_exact (suc j)),
        (
          below-zero (suc j),
          zero_products (last (suc j)) (last (suc (suc j))) (last-above j) (h.last_exact j),
        ),
      ))

  pub horseshoe_spans : IsRing (first 0).ring → (v : Vector)
      → InSpan (horseshoe first last sides 0) v ↔ IsInSum (first 0).ring (first 0).rows (InSpan (sides 0)) v
  horseshoe_spans positive v = (
    InSpan-stacked (first 0) (sides 0) positive (sym h.start.ring_of) v,
    InSpan-stacked_sum (first 0) (sides 0) positive (sym h.start.ring_of) v,
  )
