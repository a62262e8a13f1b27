-- The identity of a free module is a complex that contracts, by the identity itself.
use Rattle.std.proofs.Common.{◌≡◌, ◌<◌, List, [], ◌∷◌, refl, sym, ◌∙◌, ap, subst, arith, ℤ}
use Rattle.sf_algebra.specs.Matrices.{Matrix, IsMatrix}
use Rattle.sf_algebra.specs.MatrixOperations.{identity, matrix_product, IsComposable}
use Rattle.sf_algebra.specs.Rings.{Ring}
use Rattle.sf_algebra.proofs.GradedMatrices.Identities.{IsMatrix-identity, row_degrees-identity}
use Rattle.sf_algebra.proofs.GradedMatrices.MatrixProducts.{row_degrees-matrix_product}
use Rattle.sf_algebra.proofs.GradedMatrices.ProductLaws.{matrix_product-identity}
use Rattle.sf_blocks.specs.MatrixSums.{AreParallel, IsZeroMatrix}
use Rattle.sf_blocks.proofs.MatrixSums.SumGroups.{AreParallel-sym, IsMatrix-zero_matrix, row_degrees-zero_matrix}
use Rattle.sf_blocks.proofs.TwoByTwo.ZeroParts.{IsZeroMatrix-product_first, IsZeroMatrix-product_second, IsZeroMatrix-zero_matrix, matrix_sum-zero_first, matrix_sum-zero_second}
use Rattle.sf_homotopy.specs.Exactness.{IsExactOnto, to_nothing, from_nothing}
use Rattle.sf_homotopy.specs.Homotopies.{IsHomotopy}
use Rattle.sf_homotopy.proofs.Contracting.Splitting.{exact_by_homotopy}

module _ (ring : Ring) (above : 1 < ring.modulus) (degrees : List ℤ) where
  abbrev one : Matrix
  one = identity ring degrees

  -- to 0 and from there
  abbrev round : Matrix
  round = matrix_product (to_nothing ring degrees) (from_nothing ring degrees)

  positive : 0 < ring.modulus
  positive = omega arith

  one-matrix : IsMatrix one
  one-matrix = IsMatrix-identity ring above degrees

  twice : matrix_product one one ≡ one
  twice = matrix_product-identity one positive one-matrix

  one-composable : IsComposable one one
  one-composable = record { positive = positive; rings = refl; degrees = row_degrees-identity ring degrees }

  nothing-composable : IsComposable (to_nothing ring degrees) (from_nothing ring degrees)
  nothing-composable = record { positive = positive; rings = refl; degrees = refl }

  parallel : AreParallel round (matrix_product one one)
  parallel = record {
    rings = refl;
    targets = refl;
    degrees = row_degrees-matrix_product (to_nothing ring degrees) (from_nothing ring degrees)
        ∙ row_degrees-zero_matrix ring degrees []
        ∙ sym (row_degrees-matrix_product one one ∙ row_degrees-identity ring degrees);
  }

  round-zero : IsZeroMatrix round
  round-zero =
      IsZeroMatrix-product_first (to_nothing ring degrees) (from_nothing ring degrees) positive
      (IsZeroMatrix-zero_matrix ring degrees [])

  twice-matrix : IsMatrix (matrix_product one one)
  twice-matrix = subst IsMatrix (sym twice) one-matrix

  at_target : IsHomotopy (to_nothing ring degrees) (from_nothing ring degrees) one one
  at_target = record {
    above_one = above;
    out_matrix = IsMatrix-zero_matrix ring degrees [];
    back_matrix = IsMatrix-zero_matrix ring [] degrees;
    forth_matrix = one-matrix;
    into_matrix = one-matrix;
    out_back = nothing-composable;
    forth_into = one-composable;
    parallel = parallel;
    sum = matrix_sum-zero_first round (matrix_product one one) parallel positive twice-matrix round-zero
        ∙ twice
        ∙ ap (identity ring) (sym (row_degrees-zero_matrix ring degrees []));
  }

  at_source : IsHomotopy one one (to_nothing ring degrees) (from_nothing ring degrees)
  at_source = record {
    above_one = above;
    out_matrix = one-matrix;
    back_matrix = one-matrix;
    forth_matrix = IsMatrix-zero_matrix ring degrees [];
    into_matrix = IsMatrix-zero_matrix ring [] degrees;
    out_back = one-composable;
    forth_into = nothing-composable;
    parallel = AreParallel-sym round (matrix_product one one) parallel;
    sum = matrix_sum-zero_second (matrix_product one one) round
        (AreParallel-sym round (matrix_product one one) parallel) positive twice-matrix round-zero
        ∙ twice
        ∙ ap (identity ring) (sym (row_degrees-identity ring degrees));
  }

  pub exact_identities : IsExactOnto ring degrees (one ∷ from_nothing ring degrees ∷ [])
  exact_identities =
      let nothing = to_nothing ring degrees in
      let start = from_nothing ring degrees in (
        exact_by_homotopy nothing start one one at_target
            (IsZeroMatrix-product_second one nothing positive (IsZeroMatrix-zero_matrix ring degrees [])),
        (
          exact_by_homotopy one one nothing start at_source
              (IsZeroMatrix-product_first start one positive (IsZeroMatrix-zero_matrix ring [] degrees)),
          tt,
        ),
      )
