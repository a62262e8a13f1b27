-- The total complex as groups in columns, in each degree of its vectors: its columns, and its maps as differentials.
use Rattle.std.proofs.Common.{◌≡◌, ℕ, ◌<◌, sym, ◌∙◌, subst, refl, ℤ, pos, ◌-ℤ◌}
use Rattle.sf_algebra.specs.Matrices.{IsMatrix}
use Rattle.sf_algebra.specs.MatrixOperations.{matrix_product}
use Rattle.sf_algebra.specs.Vectors.{IsHomogeneous}
use Rattle.sf_algebra.proofs.GradedMatrices.MatrixProducts.{row_degrees-matrix_product}
use Rattle.sf_algebra.proofs.Vectors.Rows.{row_combination-matrix_product}
use Rattle.sf_algebra.proofs.Vectors.VectorGroups.{vectors_of_degree}
use Rattle.sf_groebner.specs.Spans.{InSpan}
use Rattle.sf_chase.specs.Columns.{ColumnOf, Columned, IsColumnComplex, IsDifferential}
use Rattle.sf_bicomplex.specs.Bicomplexes.{Bicomplex, IsBicomplex}
use Rattle.sf_bicomplex.specs.TotalColumns.{column_start, place, total_degrees, total_map, total_module}
use Rattle.sf_bicomplex.proofs.Columns.ColumnMaps.{differential-columns, image_of}
use Rattle.sf_bicomplex.proofs.Columns.ColumnParts.{column_of}
use Rattle.sf_bicomplex.proofs.Columns.ColumnVectors.{column_vectors}
use Rattle.sf_bicomplex.proofs.TotalComplexes.Diagonals.{IsMatrix-total_map, total_map-rows}
use Rattle.sf_bicomplex.proofs.TotalComplexes.Squares.{zero_squares}
use Rattle.sf_bicomplex.proofs.TotalComplexes.TotalMaps.{total-sends}
use Rattle.sf_bicomplex.proofs.TotalComplexes.TotalModules.{IsRange-column, IsTo-lowest, column_start-all, column_start-falls, lowest-submodule}
use Rattle.sf_bicomplex.proofs.TotalComplexes.TotalSpans.{relations-put, relations-taken}
use Rattle.sf_bicomplex.proofs.TotalComplexes.TotalSteps.{total-steps_down}

module _ (b : Bicomplex) (h : IsBicomplex b) where
  module _ (n d : ℤ) where
    pub total_ring : (total_module b n).ring ≡ b.ring
    total_ring = (IsTo-lowest b h n b.columns).ring_of

    pub IsMatrix-total_module : IsMatrix (total_module b n)
    IsMatrix-total_module = (IsTo-lowest b h n b.columns).matrix

    -- the vectors of degree d of the total complex in degree n
    abbrev pub total_group : Columned ⊥
    total_group =
        column_vectors b.ring h.is_ring (total_degrees b n) d (column_start b n) (column_start-falls b n) (total_module b n)
        total_ring refl IsMatrix-total_module (column_start-all b n)

    -- its columns
    abbrev pub total_column : (p : ℕ) → p < b.columns → ColumnOf total_group p
    total_column p inside =
        column_of b.ring h.is_ring (total_degrees b n) d (column_start b n) (column_start-falls b n) (total_module b n)
        total_ring refl IsMatrix-total_module (column_start-all b n) p (place b n p)
        (h.modules p (n -ℤ pos p)).ring_of (h.modules p (n -ℤ pos p)).matrix (IsRange-column b n p inside)
        (λ c e. relations-put b h n d b.columns p inside c.0 c.1 e)
        (λ v e. relations-taken b h n d b.columns p inside v.0 v.1 e)

  module _ (n m : ℤ) (lower : m ≡ n -ℤ pos 1) (d : ℤ) where
    -- the map of the total complex
    abbrev pub total_image : (vectors_of_degree b.ring h.is_ring.modulus (total_degrees b n) d).V
        → (vectors_of_degree b.ring h.is_ring.modulus (total_degrees b m) d).V
    total_image =
        image_of b.ring h.is_ring (total_degrees b n) (total_degrees b m) (total_map b n m).rows
        (IsMatrix-total_map b h n m lower) (total_map-rows b h n m lower) d

    pub total-differential : IsDifferential (total_group n d) (total_group m d) total_image
    total-differential =
        differential-columns b.ring h.is_ring (total_degrees b n) (total_degrees b m) (total_map b n m).rows
        (IsMatrix-total_map b h n m lower) (total_map-rows b h n m lower) d (column_start b n) (column_start b m)
        (total-steps_down b h n m lower b.columns) (column_start-falls b n) (total_module b n) (total_ring n d) refl
        (IsMatrix-total_module n d) (column_start-all b n) (column_start-falls b m) (total_module b m) (total_ring m d)
        refl (IsMatrix-total_module m d) (column_start-all b m)
        (λ v e. total-sends b h n m lower d b.columns v.0 v.1 e)

  pub total-complex : (n m l : ℤ) (lower : m ≡ n -ℤ pos 1) (last : l ≡ m -ℤ pos 1) (d : ℤ)
      → IsColumnComplex (total_group n d) (total_group m d) (total_group l d) (total_image n m lower d)
      (total_image m l last d)
  total-complex n m l lower last d v =
      let product = matrix_product (total_map b n m) (total_map b m l) in
      subst (λ ts. InSpan (total_module b l) (record { degree = d; terms = ts }))
      (row_combination-matrix_product b.ring h.is_ring.modulus (total_map b n m) (total_map b m l) v.0 refl)
      ((lowest-submodule b h l b.columns).combinations product.rows (zero_squares b h n m l lower last) d v.0
      (subst (λ ds. IsHomogeneous b.ring.weights ds d v.0) (sym (row_degrees-matrix_product (total_map b n m) (total_map b m l) ∙ total_map-rows b h n m lower))
      v.1.homogeneous))
