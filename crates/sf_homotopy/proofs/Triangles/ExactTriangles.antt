-- Triangles with exact blocks on the diagonal are exact where they give 0, one after the other.
use Rattle.std.proofs.Common.{◌≡◌, ℕ, zero, suc, ◌+◌, ◌<◌, List, [], ◌∷◌, ◌++◌, length, refl, sym, ◌∙◌, subst, arith, ℤ}
use Rattle.std.proofs.lemmas.List.{length-append}
use Rattle.std.specs.List.{AllByRecursion}
use Rattle.sf_algebra.specs.Matrices.{Matrix, row_degrees, IsMatrix}
use Rattle.sf_algebra.specs.MatrixOperations.{matrix_product, part, row_at, IsComposable}
use Rattle.sf_algebra.specs.Rings.{Ring}
use Rattle.sf_algebra.specs.Vectors.{Vector, IsVector}
use Rattle.sf_algebra.proofs.GradedMatrices.Parts.{IsMatrix-part, part-whole, row_degrees-part}
use Rattle.sf_algebra.proofs.GradedMatrices.Ranges.{slice_range-first, slice_range-second}
use Rattle.sf_blocks.specs.MatrixSums.{IsZeroMatrix}
use Rattle.sf_blocks.specs.SideBySide.{AreBeside, AreTriangle, beside, triangle}
use Rattle.sf_blocks.proofs.MatrixSums.SumGroups.{same_zero}
use Rattle.sf_blocks.proofs.SideBySide.BesideLaws.{beside-parts}
use Rattle.sf_blocks.proofs.TwoByTwo.Triangles.{IsMatrix-triangle, row_degrees-triangle}
use Rattle.sf_groebner.specs.MinimalGenerators.{matrix_of}
use Rattle.sf_groebner.specs.Spans.{InSpan, IsSyzygy}
use Rattle.sf_homotopy.specs.Exactness.{IsExactPair}
use Rattle.sf_homotopy.proofs.Exactness.Lifts.{span_products}
use Rattle.sf_homotopy.proofs.Triangles.TriangleLifts.{lift_beside}
use Rattle.sf_homotopy.proofs.Exactness.ZeroProducts.{syzygies_of_span}

module _ (a l b c m d : Matrix) (h : AreTriangle a l b) (k : AreTriangle c m d) (ml : IsMatrix l) (mm : IsMatrix m)
    (first : IsExactPair a c) (last : IsExactPair b d)
    (none : IsZeroMatrix (matrix_product (triangle c m d) (triangle a l b))) where
  abbrev out : Matrix
  out = triangle a l b

  abbrev into : Matrix
  into = triangle c m d

  abbrev degrees : List ℤ
  degrees = row_degrees a ++ row_degrees l

  out-degrees : row_degrees out ≡ degrees
  out-degrees = row_degrees-triangle a l b h

  positive : 0 < a.ring.modulus
  positive = subst (λ (q : Ring). 0 < q.modulus) first.meet.rings first.meet.positive

  meet : IsComposable into out
  meet = record {
    positive = first.meet.positive;
    rings = first.meet.rings;
    degrees = out-degrees
        ∙ (λ i. first.meet.degrees i ++ (h.lower.degrees ∙ last.meet.degrees) i);
  }

  into-matrix : IsMatrix into
  into-matrix = IsMatrix-triangle c m d k first.into_matrix mm last.into_matrix

  module _ (v : Vector) (syzygy : IsSyzygy out v) where
    -- v as a matrix of one row, and its two parts
    abbrev row : Matrix
    row = matrix_of a.ring degrees (v ∷ [])

    abbrev n : ℕ
    n = length (row_degrees a)

    abbrev size : ℕ
    size = length degrees

    abbrev u : Matrix
    u = part 0 1 0 n row

    abbrev w : Matrix
    w = part 0 1 n size row

    row-matrix : IsMatrix row
    row-matrix = (subst (λ ds. IsVector a.ring ds v) out-degrees syzygy.coefficients, tt)

    size-sum : size ≡ n + length (row_degrees l)
    size-sum = length-append (row_degrees a) (row_degrees l)

    cut : beside u w ≡ row
    cut = beside-parts 0 1 0 n size row row-matrix (omega arith) (omega (arith, size-sum)) (omega (arith, size-sum))
        ∙ part-whole row row-matrix

    together : AreBeside u w
    together = record { rings = refl; degrees = row_degrees-part 0 1 0 n row ∙ sym (row_degrees-part 0 1 n size row) }

    u-composable : IsComposable u a
    u-composable = record {
      positive = positive;
      rings = refl;
      degrees = sym (slice_range-first (row_degrees a) (row_degrees l) n refl);
    }

    w-composable : IsComposable w b
    w-composable = record {
      positive = positive;
      rings = h.rings ∙ h.lower.rings;
      degrees = sym (slice_range-second (row_degrees a) (row_degrees l) n size refl (omega (arith, size-sum))
          ∙ h.lower.degrees);
    }

    row-zero : IsZeroMatrix (matrix_product row out)
    row-zero = same_zero (matrix_product row out) go
      where
        go : (i : ℕ) → row_at (matrix_product row out).rows i ≡ []
        go zero = syzygy.zero
        go (suc i) = refl

    gone : IsZeroMatrix (matrix_product (beside u w) out)
    gone = subst (λ x. IsZeroMatrix (matrix_product x out)) (sym cut) row-zero

    span_of_syzygy : InSpan into v
    span_of_syzygy =
        let e = lift_beside a l b c m d h k ml mm first last none u w (IsMatrix-part 0 1 0 n row row-matrix)
        (IsMatrix-part 0 1 n size row row-matrix) together u-composable w-composable gone in
        (subst (λ (x : Matrix). AllByRecursion (InSpan into) x.rows) (e.3 ∙ cut) (span_products e.0 into e.2 e.1)).0

  pub exact_triangles : IsExactPair out into
  exact_triangles = record {
    out_matrix = IsMatrix-triangle a l b h first.out_matrix ml last.out_matrix;
    into_matrix = into-matrix;
    meet = meet;
    exact = λ v. (span_of_syzygy v, syzygies_of_span out into meet into-matrix none v);
  }
