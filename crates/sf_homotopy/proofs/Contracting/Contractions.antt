-- An exact complex of free modules that ends in a free module contracts: at each place 1 less the way out and back has
-- syzygies as rows, so it comes by the map that arrives, with the coefficients as rows of the map against it.
use Rattle.std.proofs.Common.{◌≡◌, ◌<◌, List, [], ◌∷◌, refl, sym, ◌∙◌, ap, subst, arith, ℤ}
use Rattle.sf_algebra.specs.Matrices.{Matrix, row_degrees, IsMatrix}
use Rattle.sf_algebra.specs.MatrixOperations.{identity, matrix_product, negated, IsComposable}
use Rattle.sf_algebra.specs.Rings.{Ring}
use Rattle.sf_algebra.proofs.GradedMatrices.Identities.{IsMatrix-identity, row_degrees-identity}
use Rattle.sf_algebra.proofs.GradedMatrices.MatrixProducts.{IsMatrix-matrix_product, row_degrees-matrix_product}
use Rattle.sf_algebra.proofs.GradedMatrices.NegatedMatrices.{IsMatrix-negated}
use Rattle.sf_algebra.proofs.GradedMatrices.ProductLaws.{matrix_product-assoc, matrix_product-identity, matrix_product-identity_first, matrix_product-negated_first}
use Rattle.sf_blocks.specs.MatrixSums.{AreParallel, matrix_sum, zero_matrix, IsZeroMatrix}
use Rattle.sf_blocks.proofs.MatrixSums.SumGroups.{AreParallel-sym, AreParallel-trans, IsMatrix-matrix_sum, IsMatrix-zero_matrix, matrix_sum-negated, row_degrees-matrix_sum, row_degrees-zero_matrix}
use Rattle.sf_blocks.proofs.MatrixSums.SumProducts.{AreParallel-product_second, matrix_product-sum_first, matrix_product-sum_second, matrix_product-zero_first}
use Rattle.sf_blocks.proofs.TwoByTwo.ZeroParts.{IsZeroMatrix-product_first, IsZeroMatrix-zero_matrix, matrix_sum-zero_first}
use Rattle.sf_homotopy.specs.Exactness.{AreExactBehind, IsExactPair, to_nothing, from_nothing}
use Rattle.sf_homotopy.specs.Homotopies.{AreContracted, IsHomotopy}
use Rattle.sf_homotopy.proofs.Exactness.Lifts.{lift, lift-into, lift-matrix, lift-value}
use Rattle.sf_homotopy.proofs.Contracting.Sums.{AreParallel-negated, sum-difference}
use Rattle.sf_homotopy.proofs.Exactness.ZeroProducts.{zero_products}

-- `back` goes against `out`, and out back out = out
pub record IsAgainst (out back : Matrix) : Type 0 where
  pub back_matrix : IsMatrix back
  pub out_back : IsComposable out back
  pub back_target : back.target ≡ row_degrees out
  pub regular : matrix_product (matrix_product out back) out ≡ out

module _ (out back into : Matrix) (above : 1 < out.ring.modulus) (exact : IsExactPair out into)
    (against : IsAgainst out back) where
  abbrev ring : Ring
  ring = out.ring

  positive : 0 < ring.modulus
  positive = omega arith

  abbrev one : Matrix
  one = identity ring (row_degrees out)

  abbrev there : Matrix
  there = matrix_product out back

  one-degrees : row_degrees one ≡ row_degrees out
  one-degrees = row_degrees-identity ring (row_degrees out)

  there-matrix : IsMatrix there
  there-matrix = IsMatrix-matrix_product out back against.out_back exact.out_matrix against.back_matrix

  there-parallel : AreParallel there one
  there-parallel = record {
    rings = refl;
    targets = against.back_target;
    degrees = row_degrees-matrix_product out back ∙ sym one-degrees;
  }

  -- 1 less the way out and back
  abbrev rest : Matrix
  rest = matrix_sum one (negated there)

  rest-parallel : AreParallel one (negated there)
  rest-parallel =
      AreParallel-trans one there (negated there) (AreParallel-sym there one there-parallel) (AreParallel-negated there)

  rest-degrees : row_degrees rest ≡ row_degrees out
  rest-degrees = row_degrees-matrix_sum one (negated there) rest-parallel ∙ one-degrees

  rest-matrix : IsMatrix rest
  rest-matrix =
      IsMatrix-matrix_sum one (negated there) rest-parallel positive (IsMatrix-identity ring above (row_degrees out))
      (IsMatrix-negated there there-matrix)

  rest-zeros : IsZeroMatrix (matrix_product rest out)
  rest-zeros =
      let both : matrix_product rest out ≡ zero_matrix ring (row_degrees out) out.target =
      matrix_product-sum_first one (negated there) out positive rest-parallel
      ∙ (λ i. matrix_sum (matrix_product-identity_first out positive exact.out_matrix i)
      ((matrix_product-negated_first there out positive there-matrix ∙ ap negated against.regular) i))
      ∙ matrix_sum-negated out positive exact.out_matrix in
      subst IsZeroMatrix (sym both) (IsZeroMatrix-zero_matrix ring (row_degrees out) out.target)

  rest-out : IsComposable rest out
  rest-out = record { positive = positive; rings = refl; degrees = refl }

  abbrev forth : Matrix
  forth = lift out into exact rest rest-matrix rest-out rest-zeros

  forth-matrix : IsMatrix forth
  forth-matrix = lift-matrix out into exact rest rest-matrix rest-out rest-zeros

  round : matrix_product forth into ≡ rest
  round = lift-value out into exact rest rest-matrix rest-out rest-zeros

  positive-there : 0 < into.ring.modulus
  positive-there = exact.meet.positive

  forth-into : IsComposable forth into
  forth-into = lift-into out into exact rest rest-matrix rest-out rest-zeros

  forth-degrees : row_degrees forth ≡ row_degrees out
  forth-degrees = sym (row_degrees-matrix_product forth into) ∙ ap row_degrees round ∙ rest-degrees

  homotopy : IsHomotopy out back forth into
  homotopy = record {
    above_one = above;
    out_matrix = exact.out_matrix;
    back_matrix = against.back_matrix;
    forth_matrix = forth-matrix;
    into_matrix = exact.into_matrix;
    out_back = against.out_back;
    forth_into = forth-into;
    parallel = record {
      rings = sym exact.meet.rings;
      targets = against.back_target ∙ exact.meet.degrees;
      degrees = row_degrees-matrix_product out back ∙ sym forth-degrees ∙ sym (row_degrees-matrix_product forth into);
    };
    sum = ap (matrix_sum there) round
        ∙ sum-difference there one positive there-matrix (IsMatrix-identity ring above (row_degrees out))
        there-parallel;
  }

  -- what arrives is lost on the way out and back, so the way forth and in keeps it
  next-regular : matrix_product (matrix_product into forth) into ≡ into
  next-regular =
      let fi = matrix_product forth into in
      let lost : IsZeroMatrix (matrix_product into there) =
      subst IsZeroMatrix (matrix_product-assoc into out back positive-there exact.meet.rings)
      (IsZeroMatrix-product_first (matrix_product into out) back positive-there (zero_products out into above exact)) in
      let into-fi : IsComposable into fi = record {
        positive = positive-there;
        rings = refl;
        degrees = row_degrees-matrix_product forth into ∙ forth-degrees ∙ exact.meet.degrees;
      } in
      let kept_matrix : IsMatrix (matrix_product into fi) =
      IsMatrix-matrix_product into fi into-fi exact.into_matrix
      (IsMatrix-matrix_product forth into forth-into forth-matrix exact.into_matrix) in
      matrix_product-assoc into forth into positive-there refl
      ∙ sym (matrix_sum-zero_first (matrix_product into there) (matrix_product into fi)
      (AreParallel-product_second into there fi homotopy.parallel) positive-there kept_matrix lost)
      ∙ sym (matrix_product-sum_second into there fi positive-there exact.meet.rings homotopy.parallel)
      ∙ ap (matrix_product into) homotopy.sum
      ∙ (λ i. matrix_product into (identity (sym exact.meet.rings i) (exact.meet.degrees i)))
      ∙ matrix_product-identity into positive-there exact.into_matrix

  next : IsAgainst into forth
  next = record {
    back_matrix = forth-matrix;
    out_back = record { positive = positive-there; rings = refl; degrees = forth-degrees ∙ exact.meet.degrees };
    back_target = refl;
    regular = next-regular;
  }

contracted : (out back : Matrix) (maps : List Matrix) → 1 < out.ring.modulus → AreExactBehind out maps
    → IsAgainst out back → AreContracted out back maps
contracted out back [] above exact against = tt
contracted out back (into ∷ more) above exact against =
    let above_there : 1 < into.ring.modulus =
    subst (λ (q : Ring). 1 < q.modulus) (sym exact.0.meet.rings) above in (
      forth out back into above exact.0 against,
      homotopy out back into above exact.0 against,
      contracted into (forth out back into above exact.0 against) more above_there exact.1
          (next out back into above exact.0 against),
    )

-- against the map to the module 0 goes the one from it
IsAgainst-nothing : (ring : Ring) (degrees : List ℤ) → 0 < ring.modulus
    → IsAgainst (to_nothing ring degrees) (from_nothing ring degrees)
IsAgainst-nothing ring degrees positive = record {
  back_matrix = IsMatrix-zero_matrix ring [] degrees;
  out_back = record { positive = positive; rings = refl; degrees = refl };
  back_target = sym (row_degrees-zero_matrix ring degrees []);
  regular = ap (λ m. matrix_product m (to_nothing ring degrees))
      (matrix_product-zero_first ring degrees [] (from_nothing ring degrees) positive)
      ∙ matrix_product-zero_first ring degrees degrees (to_nothing ring degrees) positive;
}

pub contractions : (ring : Ring) (degrees : List ℤ) (maps : List Matrix) → 1 < ring.modulus
    → AreExactBehind (to_nothing ring degrees) maps
    → AreContracted (to_nothing ring degrees) (from_nothing ring degrees) maps
contractions ring degrees maps above exact =
    contracted (to_nothing ring degrees) (from_nothing ring degrees) maps above exact
    (IsAgainst-nothing ring degrees (omega arith))
