-- Matrices side by side whose products with two matrices add up to 0 come by a triangle, where the right one comes by the
-- block on its diagonal: what is left of the left one is lifted.
use Rattle.std.proofs.Common.{◌≡◌, ◌<◌, [], ◌++◌, refl, sym, ◌∙◌, ap, subst}
use Rattle.sf_algebra.specs.Matrices.{Matrix, row_degrees, IsMatrix}
use Rattle.sf_algebra.specs.MatrixOperations.{matrix_product, negated, IsComposable}
use Rattle.sf_algebra.proofs.GradedMatrices.MatrixProducts.{IsMatrix-matrix_product, row_degrees-matrix_product}
use Rattle.sf_algebra.proofs.GradedMatrices.NegatedMatrices.{IsMatrix-negated}
use Rattle.sf_algebra.proofs.GradedMatrices.ProductLaws.{matrix_product-assoc}
use Rattle.sf_blocks.specs.MatrixSums.{AreParallel, matrix_sum, zero_matrix, IsZeroMatrix}
use Rattle.sf_blocks.specs.SideBySide.{AreBeside, AreTriangle, beside, triangle}
use Rattle.sf_blocks.proofs.MatrixSums.SumGroups.{AreParallel-matrix_sum, AreParallel-sym, AreParallel-trans, IsMatrix-matrix_sum, IsMatrix-zero_matrix, matrix_sum-assoc, matrix_sum-comm}
use Rattle.sf_blocks.proofs.MatrixSums.SumProducts.{AreParallel-product_first, matrix_product-sum_first, matrix_product-sum_second, matrix_product-zero_first}
use Rattle.sf_blocks.proofs.SideBySide.Beside.{IsMatrix-beside}
use Rattle.sf_blocks.proofs.TwoByTwo.Triangles.{matrix_product-triangles, row_degrees-triangle}
use Rattle.sf_blocks.proofs.TwoByTwo.ZeroParts.{IsZeroMatrix-product_second, matrix_sum-zero_second}
use Rattle.sf_homotopy.specs.Exactness.{IsExactPair}
use Rattle.sf_homotopy.proofs.Exactness.Lifts.{lift, lift-into, lift-matrix, lift-value}
use Rattle.sf_homotopy.proofs.Contracting.Sums.{AreParallel-negated, sum-difference}

-- no rows
abbrev pub no_rows : Matrix → Matrix
no_rows m = zero_matrix m.ring [] m.target

pub AreTriangle-no_rows : (u w : Matrix) → AreBeside u w → AreTriangle (no_rows u) u w
AreTriangle-no_rows u w h = record { lower = h; rings = refl; targets = refl }

module _ (a l c m d : Matrix) (targets : a.target ≡ l.target) (k : AreTriangle c m d) (mm : IsMatrix m)
    (md : IsMatrix d) (first : IsExactPair a c) (below : IsZeroMatrix (matrix_sum (matrix_product m a) (matrix_product d l)))
    (u w right : Matrix) (mu : IsMatrix u) (together : AreBeside u w) (ua : IsComposable u a)
    (zeros : IsZeroMatrix (matrix_sum (matrix_product u a) (matrix_product w l))) (right-matrix : IsMatrix right)
    (right-into : IsComposable right d) (right-value : matrix_product right d ≡ w) where
  positive : 0 < right.ring.modulus
  positive = right-into.positive

  right-composable : IsComposable right m
  right-composable = record {
    positive = positive;
    rings = right-into.rings ∙ sym k.lower.rings;
    degrees = k.lower.degrees ∙ right-into.degrees;
  }

  -- what the lift of the right one gives at the left
  abbrev given : Matrix
  given = matrix_product right m

  given-matrix : IsMatrix given
  given-matrix = IsMatrix-matrix_product right m right-composable right-matrix mm

  right-degrees : row_degrees right ≡ row_degrees u
  right-degrees = sym (row_degrees-matrix_product right d) ∙ ap row_degrees right-value ∙ sym together.degrees

  given-parallel : AreParallel given u
  given-parallel = record {
    rings = ap (λ (n : Matrix). n.ring) right-value ∙ sym together.rings;
    targets = sym k.targets ∙ sym first.meet.degrees ∙ ua.degrees;
    degrees = row_degrees-matrix_product right m ∙ right-degrees;
  }

  abbrev rest : Matrix
  rest = matrix_sum u (negated given)

  rest-parts : AreParallel u (negated given)
  rest-parts =
      AreParallel-trans u given (negated given) (AreParallel-sym given u given-parallel) (AreParallel-negated given)

  rest-parallel : AreParallel rest u
  rest-parallel = AreParallel-matrix_sum u (negated given) rest-parts

  rest-matrix : IsMatrix rest
  rest-matrix =
      IsMatrix-matrix_sum u (negated given) rest-parts ua.positive mu (IsMatrix-negated given given-matrix)

  whole : matrix_sum given rest ≡ u
  whole = sum-difference given u positive given-matrix mu given-parallel

  rest-composable : IsComposable rest a
  rest-composable = record { positive = ua.positive; rings = ua.rings; degrees = ua.degrees }

  given-rest : AreParallel given rest
  given-rest = AreParallel-trans given u rest given-parallel (AreParallel-sym rest u rest-parallel)

  below-parallel : AreParallel (matrix_product m a) (matrix_product d l)
  below-parallel = record {
    rings = k.lower.rings;
    targets = targets;
    degrees = row_degrees-matrix_product m a ∙ k.lower.degrees ∙ sym (row_degrees-matrix_product d l);
  }

  -- given a + w l = 0
  given-zero : IsZeroMatrix (matrix_sum (matrix_product given a) (matrix_product w l))
  given-zero =
      subst IsZeroMatrix
      (matrix_product-sum_second right (matrix_product m a) (matrix_product d l) positive right-composable.rings
      below-parallel
      ∙ (λ i. matrix_sum (sym (matrix_product-assoc right m a positive right-composable.rings) i)
      ((sym (matrix_product-assoc right d l positive right-into.rings) ∙ ap (λ n. matrix_product n l) right-value) i)))
      (IsZeroMatrix-product_second right (matrix_sum (matrix_product m a) (matrix_product d l)) positive below)

  products-parallel : AreParallel (matrix_product given a) (matrix_product w l)
  products-parallel = record {
    rings = given-parallel.rings ∙ together.rings;
    targets = targets;
    degrees = row_degrees-matrix_product given a ∙ given-parallel.degrees ∙ together.degrees
        ∙ sym (row_degrees-matrix_product w l);
  }

  rest-product : AreParallel (matrix_product rest a) (matrix_product given a)
  rest-product = AreParallel-product_first rest given a (AreParallel-sym given rest given-rest)

  -- so what is left is sent to 0
  rest-zero : IsZeroMatrix (matrix_product rest a)
  rest-zero =
      let ra = matrix_product rest a in
      let ga = matrix_product given a in
      let wl = matrix_product w l in
      let sums = AreParallel-sym (matrix_sum ga wl) ga (AreParallel-matrix_sum ga wl products-parallel) in
      let same : ra ≡ matrix_sum (matrix_product u a) wl =
      sym (matrix_sum-zero_second ra (matrix_sum ga wl) (AreParallel-trans ra ga (matrix_sum ga wl) rest-product sums)
      ua.positive (IsMatrix-matrix_product rest a rest-composable rest-matrix first.out_matrix) given-zero)
      ∙ sym (matrix_sum-assoc ra ga wl ua.positive rest-product products-parallel)
      ∙ ap (λ n. matrix_sum n wl) (matrix_sum-comm ra ga rest-product ua.positive)
      ∙ ap (λ n. matrix_sum n wl) (sym (matrix_product-sum_first given rest a positive given-rest))
      ∙ ap (λ n. matrix_sum (matrix_product n a) wl) whole in
      subst IsZeroMatrix (sym same) zeros

  abbrev left : Matrix
  left = lift a c first rest rest-matrix rest-composable rest-zero

  left-matrix : IsMatrix left
  left-matrix = lift-matrix a c first rest rest-matrix rest-composable rest-zero

  left-value : matrix_product left c ≡ rest
  left-value = lift-value a c first rest rest-matrix rest-composable rest-zero

  left-degrees : row_degrees left ≡ row_degrees u
  left-degrees = sym (row_degrees-matrix_product left c) ∙ ap row_degrees left-value ∙ rest-parallel.degrees

  lifts-beside : AreBeside left right
  lifts-beside = record {
    rings = k.rings ∙ k.lower.rings ∙ sym right-into.rings;
    degrees = left-degrees ∙ sym right-degrees;
  }

  -- the two lifts, side by side
  abbrev both : Matrix
  both = beside left right

  both-matrix : IsMatrix both
  both-matrix = IsMatrix-beside left right lifts-beside left-matrix right-matrix

  both-value : matrix_product both (triangle c m d) ≡ beside u w
  both-value =
      let left-c = lift-into a c first rest rest-matrix rest-composable rest-zero in
      let none-c : IsComposable (no_rows left) c =
      record { positive = left-c.positive; rings = left-c.rings; degrees = left-c.degrees } in
      let corner : matrix_product (no_rows left) c ≡ no_rows u =
      matrix_product-zero_first left.ring [] left.target c first.meet.positive
      ∙ (λ i. zero_matrix ((ap (λ (n : Matrix). n.ring) left-value) i) [] ((sym first.meet.degrees ∙ ua.degrees) i)) in
      let sum : matrix_sum (matrix_product left c) given ≡ u =
      ap (λ n. matrix_sum n given) left-value
      ∙ matrix_sum-comm rest given (AreParallel-sym given rest given-rest) ua.positive
      ∙ whole in
      matrix_product-triangles (no_rows left) left right c m d (AreTriangle-no_rows left right lifts-beside) k
      none-c right-into
      (IsMatrix-zero_matrix left.ring [] left.target) left-matrix right-matrix first.into_matrix mm md
      ∙ (λ i. triangle (corner i) (sum i) (right-value i))

  pub lift_pair : (e : Matrix) × IsMatrix e × IsComposable e (triangle c m d)
      × (matrix_product e (triangle c m d) ≡ beside u w)
  lift_pair = (
    both,
    both-matrix,
    record {
      positive = first.meet.positive;
      rings = refl;
      degrees = row_degrees-triangle c m d k
          ∙ (λ i. row_degrees c ++ (k.lower.degrees ∙ right-into.degrees) i);
    },
    both-value,
  )
