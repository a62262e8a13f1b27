-- Where there is a homotopy, the maps are exact.
use Rattle.std.proofs.Common.{◌≡◌, ◌<◌, [], refl, sym, ◌∙◌, ap, subst}
use Rattle.sf_algebra.specs.Matrices.{Matrix, row_degrees}
use Rattle.sf_algebra.specs.MatrixOperations.{row_combination, matrix_product, IsComposable}
use Rattle.sf_algebra.specs.Rings.{Ring}
use Rattle.sf_algebra.specs.VectorOperations.{row_sum}
use Rattle.sf_algebra.specs.Vectors.{Vector, IsVector}
use Rattle.sf_algebra.proofs.Vectors.HomogeneousVectors.{IsVector-row_combination, row_combination-identity}
use Rattle.sf_algebra.proofs.Vectors.RowSums.{row_sum-nil_first}
use Rattle.sf_algebra.proofs.Vectors.Rows.{IsCanonical-row_combination, row_combination-add_rows, row_combination-matrix_product, row_combination-nil}
use Rattle.sf_algebra.proofs.GradedMatrices.MatrixProducts.{row_degrees-matrix_product}
use Rattle.sf_blocks.specs.MatrixSums.{matrix_sum, IsZeroMatrix}
use Rattle.sf_blocks.proofs.MatrixSums.SumGroups.{row_at-matrix_sum}
use Rattle.sf_groebner.specs.Spans.{InSpan, IsSyzygy}
use Rattle.sf_homotopy.specs.Exactness.{IsExactPair}
use Rattle.sf_homotopy.specs.Homotopies.{IsHomotopy}
use Rattle.sf_homotopy.proofs.Exactness.ZeroProducts.{syzygies_of_span}

module _ (out back forth into : Matrix) (h : IsHomotopy out back forth into) where
  positive : 0 < out.ring.modulus
  positive = h.out_back.positive

  rings : forth.ring ≡ into.ring
  rings = h.forth_into.rings

  here : into.target ≡ row_degrees out
  here = sym h.parallel.targets ∙ ap (λ (m : Matrix). m.target) h.sum

  forth_degrees : row_degrees out ≡ row_degrees forth
  forth_degrees =
      sym (row_degrees-matrix_product out back) ∙ h.parallel.degrees ∙ row_degrees-matrix_product forth into

  -- what out sends to 0 comes, by into, from where forth sends it
  value : (v : Vector) → IsSyzygy out v
      → row_combination out.ring into.rows (row_combination out.ring forth.rows v.terms) ≡ v.terms
  value v k =
      let ring = out.ring in
      let there = matrix_product out back in
      let round = matrix_product forth into in
      let c = v.terms in
      let first : row_combination ring there.rows c ≡ [] =
      row_combination-matrix_product ring positive out back c refl
      ∙ ap (row_combination ring back.rows) k.zero
      ∙ row_combination-nil ring positive back.rows in
      sym (row_combination-matrix_product ring positive forth into c (sym h.parallel.rings))
      ∙ sym (row_sum-nil_first ring positive (row_combination ring round.rows c)
      (IsCanonical-row_combination ring positive round.rows c))
      ∙ ap (λ us. row_sum ring us (row_combination ring round.rows c)) (sym first)
      ∙ sym (row_combination-add_rows ring positive (matrix_sum there round).rows there.rows round.rows
      (row_at-matrix_sum there round h.parallel) c)
      ∙ ap (λ (m : Matrix). row_combination ring m.rows c) h.sum
      ∙ row_combination-identity ring positive (row_degrees out) v k.coefficients

  -- where forth sends v
  abbrev lifted : Ring → Vector → Vector
  lifted q v = record { degree = v.degree; terms = row_combination q forth.rows v.terms }

  span_of_syzygies : (v : Vector) → IsSyzygy out v → InSpan into v
  span_of_syzygies v k =
      let all : out.ring ≡ into.ring = h.parallel.rings ∙ rings in
      let there : IsVector forth.ring (row_degrees forth) v =
      subst (λ ds. IsVector forth.ring ds v) forth_degrees
      (subst (λ q. IsVector q (row_degrees out) v) h.parallel.rings k.coefficients) in
      let vector : IsVector forth.ring (row_degrees into) (lifted forth.ring v) =
      subst (λ ds. IsVector forth.ring ds (lifted forth.ring v)) (sym h.forth_into.degrees)
      (IsVector-row_combination forth h.forth_into.positive h.forth_matrix v there) in
      record {
        coefficients = lifted out.ring v;
        homogeneous = subst (λ q. IsVector q (row_degrees into) (lifted out.ring v)) rings
            (subst (λ q. IsVector forth.ring (row_degrees into) (lifted q v)) (sym h.parallel.rings) vector);
        value = λ i. record {
          degree = v.degree;
          terms = (ap (λ q. row_combination q into.rows (lifted out.ring v).terms) (sym all) ∙ value v k) i;
        };
      }

  pub exact_by_homotopy : IsZeroMatrix (matrix_product into out) → IsExactPair out into
  exact_by_homotopy none =
      let meet : IsComposable into out = record {
        positive = subst (λ (q : Ring). 0 < q.modulus) (h.parallel.rings ∙ rings) positive;
        rings = sym (h.parallel.rings ∙ rings);
        degrees = sym here;
      } in
      record {
        out_matrix = h.out_matrix;
        into_matrix = h.into_matrix;
        meet = meet;
        exact = λ v. (span_of_syzygies v, syzygies_of_span out into meet h.into_matrix none v);
      }
