-- The maps of the bicomplex of two complexes: one factor before the other, and after it, is the Kronecker product of
-- both, so with a sign they cancel.
use Rattle.std.proofs.Common.{◌≡◌, refl, ◌<◌, ap, sym, ◌∙◌, subst, arith}
use Rattle.sf_algebra.specs.Matrices.{Matrix, row_degrees, IsMatrix}
use Rattle.sf_algebra.specs.MatrixOperations.{identity, matrix_product, negated, kronecker}
use Rattle.sf_algebra.proofs.GradedMatrices.Identities.{IsMatrix-identity}
use Rattle.sf_algebra.proofs.GradedMatrices.NegatedMatrices.{row_degrees-negated}
use Rattle.sf_algebra.proofs.GradedMatrices.ProductLaws.{matrix_product-negated, matrix_product-negated_first}
use Rattle.sf_algebra.proofs.Tensors.Kronecker.{IsMatrix-kronecker}
use Rattle.sf_algebra.proofs.Tensors.KroneckerFactors.{kronecker-factors, kronecker-factors_exchanged}
use Rattle.sf_blocks.specs.MatrixSums.{AreParallel, matrix_sum, IsZeroMatrix}
use Rattle.sf_blocks.proofs.MatrixSums.SumGroups.{matrix_sum-comm, matrix_sum-negated}
use Rattle.sf_blocks.proofs.TwoByTwo.ZeroParts.{IsZeroMatrix-zero_matrix}

module _ (a b : Matrix) (above : 1 < a.ring.modulus) (rings : a.ring ≡ b.ring) (ma : IsMatrix a) (mb : IsMatrix b) where
  positive : 0 < a.ring.modulus
  positive = omega arith

  abbrev both : Matrix
  both = kronecker a b

  both_matrix : IsMatrix both
  both_matrix = IsMatrix-kronecker a b positive rings ma mb

  both_negated : IsZeroMatrix (matrix_sum both (negated both))
  both_negated =
      subst IsZeroMatrix (sym (matrix_sum-negated both positive both_matrix))
      (IsZeroMatrix-zero_matrix both.ring (row_degrees both) both.target)

  -- the first factor after the second
  abbrev second_map : Matrix
  second_map = kronecker (identity a.ring a.target) b

  abbrev first_map : Matrix
  first_map = kronecker (identity a.ring (row_degrees a)) b

  pub crossings : IsZeroMatrix (matrix_sum (matrix_product first_map (kronecker a (identity a.ring b.target)))
      (matrix_product (kronecker a (identity a.ring (row_degrees b))) (negated second_map)))
  crossings =
      let after : matrix_product (kronecker a (identity a.ring (row_degrees b))) (negated second_map) ≡ negated both =
      matrix_product-negated (kronecker a (identity a.ring (row_degrees b))) second_map positive refl
      (IsMatrix-kronecker (identity a.ring a.target) b positive rings (IsMatrix-identity a.ring above a.target) mb)
      ∙ ap negated (sym (kronecker-factors a b above rings ma mb)) in
      subst IsZeroMatrix
      (sym (λ i. matrix_sum (sym (kronecker-factors_exchanged a b above rings ma mb) i) (after i))) both_negated

  pub other_crossings : IsZeroMatrix (matrix_sum
      (matrix_product (negated first_map) (kronecker a (identity a.ring b.target)))
      (matrix_product (kronecker a (identity a.ring (row_degrees b))) second_map))
  other_crossings =
      let before : matrix_product (negated first_map) (kronecker a (identity a.ring b.target)) ≡ negated both =
      matrix_product-negated_first first_map (kronecker a (identity a.ring b.target)) positive
      (IsMatrix-kronecker (identity a.ring (row_degrees a)) b positive rings (IsMatrix-identity a.ring above (row_degrees a)) mb)
      ∙ ap negated (sym (kronecker-factors_exchanged a b above rings ma mb)) in
      let h : AreParallel both (negated both) = record {
        rings = refl;
        targets = refl;
        degrees = sym (row_degrees-negated both);
      } in
      subst IsZeroMatrix
      (matrix_sum-comm both (negated both) h positive
      ∙ sym (λ i. matrix_sum (before i) (sym (kronecker-factors a b above rings ma mb) i))) both_negated
