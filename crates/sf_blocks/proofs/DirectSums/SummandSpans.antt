-- The span of a direct sum: pairs of vectors of both spans.
use Rattle.std.proofs.Common.{◌≡◌, refl, ℕ, ◌+◌, ◌<◌, List, ◌++◌, length, ℤ, ap, sym, ◌∙◌, subst, append-nil}
use Rattle.sf_algebra.specs.Matrices.{Matrix, row_degrees, IsMatrix}
use Rattle.sf_algebra.specs.MatrixOperations.{moved, part_terms, row_combination}
use Rattle.sf_algebra.specs.Rings.{Ring, IsRing}
use Rattle.sf_algebra.specs.Sums.{add}
use Rattle.sf_algebra.specs.Terms.{Term}
use Rattle.sf_algebra.specs.VectorOperations.{row_sum}
use Rattle.sf_algebra.specs.Vectors.{Place, Vector, place_cmp, IsVector, IsCanonicalRow}
use Rattle.sf_algebra.proofs.Basics.Lists.{AllByRecursion-weaken}
use Rattle.sf_algebra.proofs.GradedMatrices.MatrixRows.{StandsWithin}
use Rattle.sf_algebra.proofs.Monomials.Orders.{place_cmp_linear}
use Rattle.sf_algebra.proofs.Terms.Sums.{normal-canonical}
use Rattle.sf_algebra.proofs.Vectors.HomogeneousVectors.{IsVector-row_combination}
use Rattle.sf_algebra.proofs.Vectors.RowSums.{row_sum-comm}
use Rattle.sf_groebner.specs.Spans.{InSpan}
use Rattle.sf_groebner.proofs.PartsOfBases.PairedVectors.{IsCanonical-pair, part_terms-pair_first, part_terms-pair_last}
use Rattle.sf_groebner.proofs.PartsOfBases.StackedSpans.{InSpan-stacked, InSpan-stacked_sum}
use Rattle.sf_blocks.specs.DirectSums.{direct_sum}
use Rattle.sf_blocks.specs.MatrixSums.{zero_matrix}
use Rattle.sf_blocks.specs.SideBySide.{AreBeside, AreTriangle, beside}
use Rattle.sf_blocks.proofs.MatrixSums.SumGroups.{IsMatrix-zero_matrix, row_at-zero_matrix, row_degrees-zero_matrix}
use Rattle.sf_blocks.proofs.MatrixSums.SumProducts.{row_combination-zeros}
use Rattle.sf_blocks.proofs.SideBySide.Beside.{row_degrees-beside}
use Rattle.sf_blocks.proofs.SideBySide.BesideProducts.{row_combination-beside}

-- two vectors, one behind the other, are their sum
pub row_sum-pair : (ring : Ring) → 0 < ring.modulus → (n : ℕ) (us vs : List (Term Place)) → StandsWithin n us
    → IsCanonicalRow ring us → IsCanonicalRow ring vs → row_sum ring us (moved n vs) ≡ us ++ moved n vs
unfolding add
row_sum-pair ring positive n us vs within h k =
    normal-canonical (place_cmp ring.weights) (place_cmp_linear ring.weights) ring.modulus positive (us ++ moved n vs)
    (IsCanonical-pair ring n us vs within h k)

pub AreTriangle-direct_sum : (a b : Matrix) → a.ring ≡ b.ring
    → AreTriangle a (zero_matrix a.ring (row_degrees b) a.target) b
AreTriangle-direct_sum a b rings = record {
  lower = record { rings = rings; degrees = row_degrees-zero_matrix a.ring (row_degrees b) a.target };
  rings = refl;
  targets = refl;
}

within_target : (ring : Ring) (degrees : List ℤ) (v : Vector) → IsVector ring degrees v
    → StandsWithin (length degrees) v.terms
within_target ring degrees v h = AllByRecursion-weaken _ _ (λ t e. e.0) v.terms h.homogeneous

module _ (a b : Matrix) (is_ring : IsRing a.ring) (rings : a.ring ≡ b.ring) (ma : IsMatrix a) (mb : IsMatrix b) where
  abbrev upper : Matrix
  upper = beside a (zero_matrix a.ring (row_degrees a) b.target)

  abbrev lower : Matrix
  lower = beside (zero_matrix a.ring (row_degrees b) a.target) b

  upper_beside : AreBeside a (zero_matrix a.ring (row_degrees a) b.target)
  upper_beside = record { rings = refl; degrees = sym (row_degrees-zero_matrix a.ring (row_degrees a) b.target) }

  lower_beside : AreBeside (zero_matrix a.ring (row_degrees b) a.target) b
  lower_beside = (AreTriangle-direct_sum a b rings).lower

  lower_degrees : row_degrees lower ≡ row_degrees b
  lower_degrees = row_degrees-beside (zero_matrix a.ring (row_degrees b) a.target) b lower_beside ∙ lower_beside.degrees

  upper_value : (c : Vector) → IsVector a.ring (row_degrees a) c
      → row_combination a.ring upper.rows c.terms ≡ row_combination a.ring a.rows c.terms
  upper_value c h =
      let z = zero_matrix a.ring (row_degrees a) b.target in
      row_combination-beside a z is_ring.modulus upper_beside ma
      (IsMatrix-zero_matrix a.ring (row_degrees a) b.target) c h
      ∙ ap (λ ts. row_combination a.ring a.rows c.terms ++ moved (length a.target) ts)
      (row_combination-zeros a.ring is_ring.modulus z.rows (row_at-zero_matrix a.ring (row_degrees a) b.target) c.terms)
      ∙ append-nil (row_combination a.ring a.rows c.terms)

  lower_value : (c : Vector) → IsVector a.ring (row_degrees b) c
      → row_combination a.ring lower.rows c.terms ≡ moved (length a.target) (row_combination a.ring b.rows c.terms)
  lower_value c h =
      let z = zero_matrix a.ring (row_degrees b) a.target in
      row_combination-beside z b is_ring.modulus lower_beside (IsMatrix-zero_matrix a.ring (row_degrees b) a.target)
      mb c (subst (λ ds. IsVector a.ring ds c) (sym (row_degrees-zero_matrix a.ring (row_degrees b) a.target)) h)
      ∙ ap (λ ts. ts ++ moved (length a.target) (row_combination a.ring b.rows c.terms))
      (row_combination-zeros a.ring is_ring.modulus z.rows (row_at-zero_matrix a.ring (row_degrees b) a.target) c.terms)

  module _ (d : ℤ) (us vs : List (Term Place)) (hu : IsVector a.ring a.target (record { degree = d; terms = us }))
      (hv : IsVector a.ring b.target (record { degree = d; terms = vs })) where
    pub InSpan-direct_sum : InSpan a (record { degree = d; terms = us }) → InSpan b (record { degree = d; terms = vs })
        → InSpan (direct_sum a b) (record { degree = d; terms = us ++ moved (length a.target) vs })
    InSpan-direct_sum h k =
        let n = length a.target in
        let e : Vector = h.coefficients in
        let f : Vector = k.coefficients in
        let fh : IsVector a.ring (row_degrees b) f = subst (λ q. IsVector q (row_degrees b) f) (sym rings)
        k.homogeneous in
        let second = upper_value e h.homogeneous ∙ ap (λ x. x.terms) h.value in
        let first = lower_value f fh ∙ ap (λ q. moved n (row_combination q b.rows f.terms)) rings
        ∙ ap (λ x. moved n x.terms) k.value in
        let first_degree : f.degree ≡ d = ap (λ x. x.degree) k.value in
        let second_degree : e.degree ≡ d = ap (λ x. x.degree) h.value in
        InSpan-stacked_sum upper lower is_ring refl (record { degree = d; terms = us ++ moved n vs })
        (record {
          first = record { degree = d; terms = moved n vs };
          second = record { degree = d; terms = us };
          in_module = record {
            coefficients = f;
            homogeneous = subst (λ ds. IsVector a.ring ds f) (sym lower_degrees) fh;
            value = λ i. record { degree = first_degree i; terms = first i };
          };
          in_span = record {
            coefficients = e;
            homogeneous = subst (λ ds. IsVector a.ring ds e)
                (sym (row_degrees-beside a (zero_matrix a.ring (row_degrees a) b.target) upper_beside)) h.homogeneous;
            value = λ i. record { degree = second_degree i; terms = second i };
          };
          first_degree = refl;
          second_degree = refl;
          sum = row_sum-comm a.ring is_ring.modulus (moved n vs) us
              ∙ row_sum-pair a.ring is_ring.modulus n us vs (within_target a.ring a.target _ hu) hu.canonical
              hv.canonical;
        })

    pub InSpan-summands : InSpan (direct_sum a b) (record { degree = d; terms = us ++ moved (length a.target) vs })
        → InSpan a (record { degree = d; terms = us }) × InSpan b (record { degree = d; terms = vs })
    InSpan-summands h =
        let n = length a.target in
        let k = length b.target in
        let s = InSpan-stacked upper lower is_ring refl (record { degree = d; terms = us ++ moved n vs }) h in
        let e : Vector = s.in_span.coefficients in
        let f : Vector = s.in_module.coefficients in
        let eh : IsVector a.ring (row_degrees a) e = subst (λ ds. IsVector a.ring ds e)
        (row_degrees-beside a (zero_matrix a.ring (row_degrees a) b.target) upper_beside) s.in_span.homogeneous in
        let fh : IsVector a.ring (row_degrees b) f = subst (λ ds. IsVector a.ring ds f) lower_degrees
        s.in_module.homogeneous in
        let xs = row_combination a.ring a.rows e.terms in
        let ys = row_combination a.ring b.rows f.terms in
        let hx = IsVector-row_combination a is_ring.modulus ma e eh in
        let bb : Matrix = record { ring = a.ring; target = b.target; rows = b.rows } in
        let hy = IsVector-row_combination bb is_ring.modulus
        (subst (λ q. IsMatrix (record { ring = q; target = b.target; rows = b.rows })) (sym rings) mb) f fh in
        let wx = within_target a.ring a.target _ hx in
        let wy = within_target a.ring b.target _ hy in
        let same : xs ++ moved n ys ≡ us ++ moved n vs =
        sym (row_sum-pair a.ring is_ring.modulus n xs ys wx hx.canonical hy.canonical)
        ∙ row_sum-comm a.ring is_ring.modulus xs (moved n ys)
        ∙ (λ i. row_sum a.ring ((sym (lower_value f fh) ∙ ap (λ x. x.terms) s.in_module.value) i)
        ((sym (upper_value e eh) ∙ ap (λ x. x.terms) s.in_span.value) i))
        ∙ s.sum in
        let left : xs ≡ us = sym (part_terms-pair_first n xs ys wx) ∙ ap (part_terms 0 n) same
        ∙ part_terms-pair_first n us vs (within_target a.ring a.target _ hu) in
        let right : ys ≡ vs = sym (part_terms-pair_last n k xs ys wx wy) ∙ ap (part_terms n (n + k)) same
        ∙ part_terms-pair_last n k us vs (within_target a.ring a.target _ hu) (within_target a.ring b.target _ hv) in
        let second_degree : e.degree ≡ d = ap (λ x. x.degree) s.in_span.value ∙ s.second_degree in
        let first_degree : f.degree ≡ d = ap (λ x. x.degree) s.in_module.value ∙ s.first_degree in (
          record { coefficients = e; homogeneous = eh; value = λ i. record { degree = second_degree i; terms = left i } },
          record {
            coefficients = f;
            homogeneous = subst (λ q. IsVector q (row_degrees b) f) rings fh;
            value = λ i. record {
              degree = first_degree i;
              terms =
                  (ap (λ q. row_combination q b.rows f.terms) (sym rings) ∙ right) i;
            };
          },
        )
