-- A stack of a map and of generators over its span is exact with the triangle of the next maps: of a syzygy, the
-- coefficients of the generators are a relation, and what is left is a syzygy of the map.
use Rattle.std.proofs.Common.{◌≡◌, ◌↔◌, ℕ, zero, suc, ◌+◌, ◌<◌, List, [], ◌∷◌, ◌++◌, length, refl, sym, ◌∙◌, ap, subst, arith, ℤ}
use Rattle.std.proofs.lemmas.List.{length-append}
use Rattle.std.specs.List.{AllByRecursion}
use Rattle.sf_algebra.specs.Matrices.{Matrix, row_degrees, IsMatrix}
use Rattle.sf_algebra.specs.MatrixOperations.{matrix_product, negated, part, row_at, row_combination, stacked, vector_part, IsComposable}
use Rattle.sf_algebra.specs.Rings.{Ring}
use Rattle.sf_algebra.specs.Vectors.{Vector, IsVector}
use Rattle.sf_algebra.proofs.GradedMatrices.MatrixProducts.{IsMatrix-matrix_product}
use Rattle.sf_algebra.proofs.GradedMatrices.NegatedMatrices.{IsMatrix-negated, negated-negated}
use Rattle.sf_algebra.proofs.GradedMatrices.Parts.{IsMatrix-part, part-whole, row_degrees-part}
use Rattle.sf_algebra.proofs.GradedMatrices.ProductLaws.{matrix_product-negated_first, matrix_product-stacked}
use Rattle.sf_algebra.proofs.GradedMatrices.Ranges.{slice_range-first, slice_range-second}
use Rattle.sf_algebra.proofs.GradedMatrices.Stacks.{IsMatrix-stacked, row_degrees-stacked}
use Rattle.sf_blocks.specs.BlockLists.{IsTo}
use Rattle.sf_blocks.specs.MatrixSums.{AreParallel, matrix_sum, zero_matrix, IsZeroMatrix}
use Rattle.sf_blocks.specs.SideBySide.{AreBeside, AreTriangle, beside, triangle}
use Rattle.sf_blocks.proofs.MatrixSums.SumGroups.{AreParallel-matrix_sum, AreParallel-sym, AreParallel-trans, matrix_sum-comm, row_degrees-zero_matrix, same_zero}
use Rattle.sf_blocks.proofs.SideBySide.BesideLaws.{beside-parts}
use Rattle.sf_blocks.proofs.SideBySide.BesideProducts.{AreParallel-products, matrix_product-beside_stacked}
use Rattle.sf_blocks.proofs.TwoByTwo.Triangles.{IsMatrix-triangle}
use Rattle.sf_blocks.proofs.TwoByTwo.ZeroParts.{IsZeroMatrix-product_first, IsZeroMatrix-stacked, IsZeroMatrix-sum, IsZeroMatrix-zero_matrix, matrix_sum-zero_second}
use Rattle.sf_groebner.specs.MinimalGenerators.{matrix_of}
use Rattle.sf_groebner.specs.Presentations.{IsRelation}
use Rattle.sf_groebner.specs.Spans.{InSpan, IsSyzygy}
use Rattle.sf_homotopy.specs.Exactness.{IsExactPair}
use Rattle.sf_homotopy.proofs.Contracting.Sums.{AreParallel-negated, sum-difference}
use Rattle.sf_homotopy.proofs.Exactness.Lifts.{span_products}
use Rattle.sf_homotopy.proofs.Exactness.Spans.{coefficients_of}
use Rattle.sf_homotopy.proofs.Exactness.ZeroProducts.{syzygies_of_span, zero_products}
use Rattle.sf_homotopy.proofs.Triangles.PairLifts.{lift_pair}

-- where two matrices add up to 0, one is the negative of the other
pub negative_of_zero_sum : (a b : Matrix) → 0 < a.ring.modulus → AreParallel a b → IsMatrix a → IsMatrix b
    → IsZeroMatrix (matrix_sum a b) → b ≡ negated a
negative_of_zero_sum a b positive h ma mb none =
    let n = negated a in
    let back : AreParallel n a = AreParallel-sym a n (AreParallel-negated a) in
    let nb : AreParallel n b = AreParallel-trans n a b back h in
    let mn : IsMatrix n = IsMatrix-negated a ma in
    let other : AreParallel b a = AreParallel-sym a b h in
    let sum : IsZeroMatrix (matrix_sum b a) = subst IsZeroMatrix (matrix_sum-comm a b h positive) none in
    let sum-parallel : AreParallel n (matrix_sum b a) =
    AreParallel-trans n b (matrix_sum b a) nb (AreParallel-sym (matrix_sum b a) b (AreParallel-matrix_sum b a other)) in
    sym (sum-difference n b positive mn mb nb)
    ∙ ap (λ x. matrix_sum n (matrix_sum b x)) (negated-negated a ma)
    ∙ matrix_sum-zero_second n (matrix_sum b a) sum-parallel positive mn sum

module _ (a s c m d : Matrix) (above : 1 < a.ring.modulus) (first : IsExactPair a c) (start : IsTo a.ring a.target s)
    (k : AreTriangle c m d) (mm : IsMatrix m) (md : IsMatrix d) (last_target : d.target ≡ row_degrees s)
    (relate : (w : Vector) → IsRelation s (InSpan a) w ↔ InSpan d w)
    (below : IsZeroMatrix (matrix_sum (matrix_product m a) (matrix_product d s))) where
  abbrev out : Matrix
  out = stacked a s

  abbrev into : Matrix
  into = triangle c m d

  abbrev degrees : List ℤ
  degrees = row_degrees a ++ row_degrees s

  out-degrees : row_degrees out ≡ degrees
  out-degrees = row_degrees-stacked a s

  positive : 0 < a.ring.modulus
  positive = omega arith

  last-rings : d.ring ≡ a.ring
  last-rings = sym k.lower.rings ∙ sym k.rings ∙ first.meet.rings

  meet : IsComposable into out
  meet = record {
    positive = first.meet.positive;
    rings = first.meet.rings;
    degrees = out-degrees ∙ (λ i. first.meet.degrees i ++ sym last_target i);
  }

  out-matrix : IsMatrix out
  out-matrix = IsMatrix-stacked a s (sym start.ring_of) (sym start.target_of) first.out_matrix start.matrix

  into-matrix : IsMatrix into
  into-matrix = IsMatrix-triangle c m d k first.into_matrix mm md

  -- the two maps give 0
  m-a : IsComposable m a
  m-a = record {
    positive = subst (λ (q : Ring). 0 < q.modulus) k.rings first.meet.positive;
    rings = sym k.rings ∙ first.meet.rings;
    degrees = first.meet.degrees ∙ k.targets;
  }

  d-s : IsComposable d s
  d-s = record {
    positive = subst (λ (q : Ring). 0 < q.modulus) k.lower.rings m-a.positive;
    rings = last-rings ∙ sym start.ring_of;
    degrees = sym last_target;
  }

  none : IsZeroMatrix (matrix_product into out)
  none =
      let zeros = zero_matrix c.ring (row_degrees c) d.target in
      let upper : AreBeside c zeros = record {
        rings = refl;
        degrees = sym (row_degrees-zero_matrix c.ring (row_degrees c) d.target);
      } in
      let zeros-s : IsComposable zeros s = record {
        positive = first.meet.positive;
        rings = first.meet.rings ∙ sym start.ring_of;
        degrees = sym last_target;
      } in
      let targets : a.target ≡ s.target = sym start.target_of in
      let above_zero : IsZeroMatrix (matrix_product (beside c zeros) out) =
      subst IsZeroMatrix (sym (matrix_product-beside_stacked c zeros a s upper first.meet zeros-s targets first.into_matrix))
      (IsZeroMatrix-sum (matrix_product c a) (matrix_product zeros s)
      (AreParallel-products c zeros a s upper first.meet zeros-s targets)
      (zero_products a c above first)
      (IsZeroMatrix-product_first zeros s first.meet.positive
      (IsZeroMatrix-zero_matrix c.ring (row_degrees c) d.target))) in
      let below_zero : IsZeroMatrix (matrix_product (beside m d) out) =
      subst IsZeroMatrix (sym (matrix_product-beside_stacked m d a s k.lower m-a d-s targets mm)) below in
      subst IsZeroMatrix (sym (matrix_product-stacked (beside c zeros) (beside m d) out k.rings))
      ((IsZeroMatrix-stacked (matrix_product (beside c zeros) out) (matrix_product (beside m d) out)).1
      (above_zero, below_zero))

  module _ (v : Vector) (syzygy : IsSyzygy out v) where
    -- v as a matrix of one row, and its two parts
    abbrev row : Matrix
    row = matrix_of a.ring degrees (v ∷ [])

    abbrev n : ℕ
    n = length (row_degrees a)

    abbrev size : ℕ
    size = length degrees

    abbrev u : Matrix
    u = part 0 1 0 n row

    abbrev w : Matrix
    w = part 0 1 n size row

    row-matrix : IsMatrix row
    row-matrix = (subst (λ ds. IsVector a.ring ds v) out-degrees syzygy.coefficients, tt)

    size-sum : size ≡ n + length (row_degrees s)
    size-sum = length-append (row_degrees a) (row_degrees s)

    cut : beside u w ≡ row
    cut = beside-parts 0 1 0 n size row row-matrix (omega arith) (omega (arith, size-sum)) (omega (arith, size-sum))
        ∙ part-whole row row-matrix

    together : AreBeside u w
    together = record { rings = refl; degrees = row_degrees-part 0 1 0 n row ∙ sym (row_degrees-part 0 1 n size row) }

    u-matrix : IsMatrix u
    u-matrix = IsMatrix-part 0 1 0 n row row-matrix

    w-matrix : IsMatrix w
    w-matrix = IsMatrix-part 0 1 n size row row-matrix

    u-composable : IsComposable u a
    u-composable = record {
      positive = positive;
      rings = refl;
      degrees = sym (slice_range-first (row_degrees a) (row_degrees s) n refl);
    }

    w-composable : IsComposable w s
    w-composable = record {
      positive = positive;
      rings = sym start.ring_of;
      degrees = sym (slice_range-second (row_degrees a) (row_degrees s) n size refl (omega (arith, size-sum)));
    }

    row-zero : IsZeroMatrix (matrix_product row out)
    row-zero = same_zero (matrix_product row out) go
      where
        go : (i : ℕ) → row_at (matrix_product row out).rows i ≡ []
        go zero = syzygy.zero
        go (suc i) = refl

    sums : matrix_product row out ≡ matrix_sum (matrix_product u a) (matrix_product w s)
    sums = ap (λ x. matrix_product x out) (sym cut)
        ∙ matrix_product-beside_stacked u w a s together u-composable w-composable (sym start.target_of) u-matrix

    zeros-sum : IsZeroMatrix (matrix_sum (matrix_product u a) (matrix_product w s))
    zeros-sum = subst IsZeroMatrix sums row-zero

    -- the image of the second part is in the span of a
    opposite : matrix_product w s ≡ matrix_product (negated u) a
    opposite =
        negative_of_zero_sum (matrix_product u a) (matrix_product w s) positive
        (AreParallel-products u w a s together u-composable w-composable (sym start.target_of))
        (IsMatrix-matrix_product u a u-composable u-matrix first.out_matrix)
        (IsMatrix-matrix_product w s w-composable w-matrix start.matrix) zeros-sum
        ∙ sym (matrix_product-negated_first u a positive u-matrix)

    inside : AllByRecursion (InSpan a) (matrix_product w s).rows
    inside =
        subst (λ (x : Matrix). AllByRecursion (InSpan a) x.rows) (sym opposite)
        (span_products (negated u) a
        (record { positive = positive; rings = refl; degrees = u-composable.degrees })
        (IsMatrix-negated u u-matrix))

    abbrev last_part : Vector
    last_part = vector_part n size v

    relation : IsRelation s (InSpan a) last_part
    relation = record {
      coefficients = subst (λ q. IsVector q (row_degrees s) last_part) (sym start.ring_of)
          (subst (λ ds. IsVector a.ring ds last_part) (sym w-composable.degrees) w-matrix.0);
      inside = subst (λ q. InSpan a (record {
        degree = v.degree;
        terms = row_combination q s.rows last_part.terms;
      })) (sym start.ring_of) inside.0;
    }

    in_last : AllByRecursion (InSpan d) w.rows
    in_last = ((relate last_part).0 relation, tt)

    abbrev right : Matrix
    right = matrix_of d.ring (row_degrees d) (coefficients_of d w.rows in_last).0

    right-value : matrix_product right d ≡ w
    right-value = λ i. record {
      ring = last-rings i;
      target = (last_target ∙ w-composable.degrees) i;
      rows = (coefficients_of d w.rows in_last).2 i;
    }

    span_of_syzygy : InSpan into v
    span_of_syzygy =
        let e = lift_pair a s c m d (sym start.target_of) k mm md first below u w right u-matrix together u-composable
        zeros-sum (coefficients_of d w.rows in_last).1
        (record { positive = d-s.positive; rings = refl; degrees = refl }) right-value in
        (subst (λ (x : Matrix). AllByRecursion (InSpan into) x.rows) (e.3 ∙ cut) (span_products e.0 into e.2 e.1)).0

  pub exact_start : IsExactPair out into
  exact_start = record {
    out_matrix = out-matrix;
    into_matrix = into-matrix;
    meet = meet;
    exact = λ v. (span_of_syzygy v, syzygies_of_span out into meet into-matrix none v);
  }
