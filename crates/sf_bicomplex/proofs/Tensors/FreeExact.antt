-- The tensor product with a free module keeps exact pairs: with one generator more it is a triangle with zeros beside, so
-- triangles are exact block by block.
use Rattle.std.proofs.Common.{◌≡◌, ◌<◌, ◌+◌, ℕ, suc, List, [], ◌∷◌, ◌++◌, map, refl, sym, ap, ◌∙◌, subst, arith, ℤ}
use Rattle.sf_algebra.specs.Matrices.{IsMatrix, Matrix, row_degrees}
use Rattle.sf_algebra.specs.MatrixOperations.{IsComposable, degree_sums, identity, kronecker, matrix_product, moved, stacked, unit_rows, unit_vector}
use Rattle.sf_algebra.specs.Monomials.{one}
use Rattle.sf_algebra.specs.Rings.{IsRing, Ring}
use Rattle.sf_algebra.specs.Vectors.{IsVector, Vector}
use Rattle.sf_algebra.proofs.GradedMatrices.Identities.{IsMatrix-identity, row_degrees-identity}
use Rattle.sf_algebra.proofs.Tensors.Kronecker.{IsMatrix-kronecker, row_degrees-kronecker}
use Rattle.sf_algebra.proofs.Tensors.KroneckerProducts.{kronecker-matrix_product}
use Rattle.sf_algebra.proofs.Tensors.KroneckerSums.{kronecker-stacked}
use Rattle.sf_algebra.proofs.Vectors.HomogeneousVectors.{IsVector-nil}
use Rattle.sf_groebner.specs.MinimalGenerators.{matrix_of}
use Rattle.sf_groebner.specs.Spans.{InSpan, IsSyzygy}
use Rattle.sf_groebner.proofs.WorkedExamples.FreeRelations.{row_combination-no_rows, span-no_rows}
use Rattle.sf_blocks.specs.MatrixSums.{IsZeroMatrix, row_by_row, zero_matrix}
use Rattle.sf_blocks.specs.SideBySide.{AreBeside, AreTriangle, beside, triangle}
use Rattle.sf_blocks.proofs.Kroneckers.FactorSums.{kronecker-beside, kronecker-zero_first, kronecker-zero_second}
use Rattle.sf_blocks.proofs.MatrixSums.SumGroups.{IsMatrix-zero_matrix, row_degrees-zero_matrix}
use Rattle.sf_blocks.proofs.TwoByTwo.ZeroParts.{IsZeroMatrix-zero_matrix}
use Rattle.sf_homotopy.specs.Exactness.{IsExactPair}
use Rattle.sf_homotopy.proofs.Exactness.ZeroProducts.{zero_products}
use Rattle.sf_homotopy.proofs.Triangles.ExactTriangles.{exact_triangles}
use Rattle.sf_bicomplex.proofs.Tensors.Shifts.{exact-shifted, one-shifted}
use Rattle.sf_bicomplex.proofs.TotalComplexes.TotalMaps.{no_generators}

module _ (ring : Ring) (above : 1 < ring.modulus) (positive : IsRing ring) where
  -- with one generator more the identity has two blocks
  below-rows : (i : ℕ) (ds : List ℤ)
      → row_by_row (λ us vs. us ++ moved 1 vs) (map (λ (d : ℤ). record { degree = d; terms = [] }) ds) (unit_rows i ds)
      ≡ unit_rows (suc i) ds
  below-rows i [] = refl
  below-rows i (d ∷ ds) =
      let next : 1 + i ≡ suc i = omega arith in
      λ j. record {
        degree = d;
        terms = record { at = record { position = next j; monomial = one }; coefficient = 1 } ∷ [];
      } ∷ below-rows (suc i) ds j

  abbrev first_row : ℤ → List ℤ → Matrix
  first_row d ds = beside (identity ring (d ∷ [])) (zero_matrix ring (d ∷ []) ds)

  abbrev other_rows : ℤ → List ℤ → Matrix
  other_rows d ds = beside (zero_matrix ring ds (d ∷ [])) (identity ring ds)

  identity-split : (d : ℤ) (ds : List ℤ) → identity ring (d ∷ ds) ≡ stacked (first_row d ds) (other_rows d ds)
  identity-split d ds = λ i. matrix_of ring (d ∷ ds) (unit_vector d 0 ∷ sym (below-rows 0 ds) i)

  module _ (es : List ℤ) (xs : List Vector) (matrix : IsMatrix (matrix_of ring es xs)) where
    abbrev A : Matrix
    A = matrix_of ring es xs

    abbrev product : List ℤ → Matrix
    product ds = kronecker (identity ring ds) A

    product-matrix : (ds : List ℤ) → IsMatrix (product ds)
    product-matrix ds =
        IsMatrix-kronecker (identity ring ds) A positive.modulus refl (IsMatrix-identity ring above ds) matrix

    product-degrees : (ds : List ℤ) → row_degrees (product ds) ≡ degree_sums ds (row_degrees A)
    product-degrees ds =
        row_degrees-kronecker (identity ring ds) A
        ∙ ap (λ gs. degree_sums gs (row_degrees A)) (row_degrees-identity ring ds)

    abbrev below : ℤ → List ℤ → Matrix
    below d ds = zero_matrix ring (degree_sums ds (row_degrees A)) (degree_sums (d ∷ []) es)

    product-triangle : (d : ℤ) (ds : List ℤ) → AreTriangle (product (d ∷ [])) (below d ds) (product ds)
    product-triangle d ds = record {
      lower = record {
        rings = refl;
        degrees = row_degrees-zero_matrix ring (degree_sums ds (row_degrees A)) (degree_sums (d ∷ []) es)
            ∙ sym (product-degrees ds);
      };
      rings = refl;
      targets = refl;
    }

    product-split : (d : ℤ) (ds : List ℤ)
        → product (d ∷ ds) ≡ triangle (product (d ∷ [])) (below d ds) (product ds)
    product-split d ds =
        let unit = identity ring (d ∷ []) in
        let upper : AreBeside unit (zero_matrix ring (d ∷ []) ds) = record { rings = refl; degrees = refl } in
        let lower : AreBeside (zero_matrix ring ds (d ∷ [])) (identity ring ds) = record {
          rings = refl;
          degrees = row_degrees-zero_matrix ring ds (d ∷ []) ∙ sym (row_degrees-identity ring ds);
        } in
        ap (λ m. kronecker m A) (identity-split d ds)
        ∙ kronecker-stacked (first_row d ds) (other_rows d ds) A refl
        ∙ (λ i. stacked
        (kronecker-beside unit (zero_matrix ring (d ∷ []) ds) A positive.modulus upper refl
        (IsMatrix-identity ring above (d ∷ [])) matrix i)
        (kronecker-beside (zero_matrix ring ds (d ∷ [])) (identity ring ds) A positive.modulus lower refl
        (IsMatrix-zero_matrix ring ds (d ∷ [])) matrix i))
        ∙ (λ i. stacked
        (beside (product (d ∷ []))
        ((kronecker-zero_first ring (d ∷ []) ds A positive.modulus
        ∙ ap (λ gs. zero_matrix ring gs (degree_sums ds es)) (sym (product-degrees (d ∷ [])))) i))
        (beside (kronecker-zero_first ring ds (d ∷ []) A positive.modulus i) (product ds)))

  module _ (fs es : List ℤ) (xs ys : List Vector)
      (pair : IsExactPair (matrix_of ring fs xs) (matrix_of ring es ys)) where
    abbrev out : List ℤ → Matrix
    out ds = kronecker (identity ring ds) (matrix_of ring fs xs)

    abbrev into : List ℤ → Matrix
    into ds = kronecker (identity ring ds) (matrix_of ring es ys)

    meet : (ds : List ℤ) → IsComposable (into ds) (out ds)
    meet ds = record {
      positive = positive.modulus;
      rings = refl;
      degrees = product-degrees fs xs pair.out_matrix ds ∙ ap (degree_sums ds) pair.meet.degrees;
    }

    product-zero : (ds : List ℤ) → IsZeroMatrix (matrix_product (into ds) (out ds))
    product-zero ds =
        let unit = identity ring ds in
        let square = matrix_product unit unit in
        let none = matrix_product (matrix_of ring es ys) (matrix_of ring fs xs) in
        subst IsZeroMatrix
        (sym (sym (kronecker-matrix_product unit unit (matrix_of ring es ys) (matrix_of ring fs xs)
        (record { positive = positive.modulus; rings = refl; degrees = row_degrees-identity ring ds }) pair.meet refl
        pair.into_matrix)
        ∙ ap (kronecker square) (zero_products (matrix_of ring fs xs) (matrix_of ring es ys) above pair)
        ∙ kronecker-zero_second ring (row_degrees none) none.target square positive.modulus))
        (IsZeroMatrix-zero_matrix ring (degree_sums (row_degrees square) (row_degrees none))
        (degree_sums square.target none.target))

    exact-one : (d : ℤ) → IsExactPair (out (d ∷ [])) (into (d ∷ []))
    exact-one d = record {
      out_matrix = product-matrix fs xs pair.out_matrix (d ∷ []);
      into_matrix = product-matrix es ys pair.into_matrix (d ∷ []);
      meet = meet (d ∷ []);
      exact = λ v.
          let same = exact-shifted d ring fs es xs ys pair v in
          let outs = one-shifted d ring fs xs positive.modulus pair.out_matrix in
          let intos = one-shifted d ring es ys positive.modulus pair.into_matrix in (
            λ h. subst (λ (m : Matrix). InSpan m v) (sym intos) (same.0 (subst (λ (m : Matrix). IsSyzygy m v) outs h)),
            λ s. subst (λ (m : Matrix). IsSyzygy m v) (sym outs) (same.1 (subst (λ (m : Matrix). InSpan m v) intos s)),
          );
    }

    pub exact-free : (ds : List ℤ) → IsExactPair (out ds) (into ds)
    exact-free [] = record {
      out_matrix = tt;
      into_matrix = tt;
      meet = meet [];
      exact = λ v. (
        λ h. record {
          coefficients = record { degree = v.degree; terms = [] };
          homogeneous = IsVector-nil ring [] v.degree;
          value = λ i. record {
            degree = v.degree;
            terms = (row_combination-no_rows ring positive [] ∙ sym (no_generators ring v h.coefficients)) i;
          };
        },
        λ s. record {
          coefficients =
              subst (λ ts. IsVector ring [] (record { degree = v.degree; terms = ts }))
              (sym (span-no_rows ring positive [] v s)) (IsVector-nil ring [] v.degree);
          zero = row_combination-no_rows ring positive v.terms;
        },
      );
    }
    exact-free (d ∷ ds) =
        let outs = product-split fs xs pair.out_matrix d ds in
        let intos = product-split es ys pair.into_matrix d ds in
        subst (λ (x : Matrix × Matrix). IsExactPair x.0 x.1) (λ i. (sym outs i, sym intos i))
        (exact_triangles (out (d ∷ [])) (below fs xs pair.out_matrix d ds) (out ds) (into (d ∷ []))
        (below es ys pair.into_matrix d ds) (into ds) (product-triangle fs xs pair.out_matrix d ds)
        (product-triangle es ys pair.into_matrix d ds)
        (IsMatrix-zero_matrix ring (degree_sums ds (row_degrees (matrix_of ring fs xs))) (degree_sums (d ∷ []) fs))
        (IsMatrix-zero_matrix ring (degree_sums ds (row_degrees (matrix_of ring es ys))) (degree_sums (d ∷ []) es))
        (exact-one d) (exact-free ds)
        (subst IsZeroMatrix (λ i. matrix_product (intos i) (outs i)) (product-zero (d ∷ ds))))
