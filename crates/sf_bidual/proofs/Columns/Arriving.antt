-- The maps that arrive in a complex of free modules.
use Rattle.std.proofs.Common.{ℕ, zero, suc, [], refl, sym}
use Rattle.sf_algebra.specs.Matrices.{Matrix, row_degrees}
use Rattle.sf_algebra.specs.MatrixOperations.{matrix_product}
use Rattle.sf_algebra.specs.Rings.{Ring, IsOverField}
use Rattle.sf_algebra.proofs.Monomials.Weights.{field_ring}
use Rattle.sf_blocks.specs.BlockLists.{IsTo}
use Rattle.sf_blocks.specs.MatrixSums.{IsZeroMatrix}
use Rattle.sf_blocks.proofs.MatrixSums.SumGroups.{IsMatrix-zero_matrix}
use Rattle.sf_blocks.proofs.TwoByTwo.ZeroParts.{IsZeroMatrix-product_first, IsZeroMatrix-zero_matrix}
use Rattle.sf_homotopy.specs.Exactness.{from_nothing}
use Rattle.sf_bidual.specs.CartanEilenberg.{IsCochainComplex, arriving}

module _ (ring : Ring) (maps : ℕ → Matrix) (prime : IsOverField ring) (complex : IsCochainComplex ring maps) where
  pub IsTo-arriving : (i : ℕ) → IsTo ring (row_degrees (maps i)) (arriving ring maps i)
  IsTo-arriving zero = record {
    ring_of = refl;
    target_of = refl;
    matrix = IsMatrix-zero_matrix ring [] (row_degrees (maps zero));
  }
  IsTo-arriving (suc i) = record {
    ring_of = complex.rings i;
    target_of = sym (complex.meet i).degrees;
    matrix = complex.matrices i;
  }

  pub arriving-zero : (i : ℕ) → IsZeroMatrix (matrix_product (arriving ring maps i) (maps i))
  arriving-zero zero =
      IsZeroMatrix-product_first (from_nothing ring (row_degrees (maps zero))) (maps zero) (field_ring prime).modulus
      (IsZeroMatrix-zero_matrix ring [] (row_degrees (maps zero)))
  arriving-zero (suc i) = complex.square i
