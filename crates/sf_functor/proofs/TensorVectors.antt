-- The relations of a tensor product span the tensor products of a relation and any vector, and are such products.
use Rattle.std.proofs.Common.{◌≡◌, ◌<◌, [], length, ◌+ℤ◌, refl, sym, ap, ◌∙◌, subst}
use Rattle.std.proofs.lemmas.List.{length-map}
use Rattle.std.specs.List.{AllByRecursion}
use Rattle.sf_algebra.specs.Matrices.{Matrix, row_degrees}
use Rattle.sf_algebra.specs.MatrixOperations.{degree_sums, identity, kronecker, row_combination, stacked, unit_rows}
use Rattle.sf_algebra.specs.Rings.{IsOverField, IsRing, Ring}
use Rattle.sf_algebra.specs.Vectors.{IsCanonicalRow, IsVector, Vector}
use Rattle.sf_algebra.proofs.Basics.Lists.{AllByRecursion-append, AllByRecursion-weaken}
use Rattle.sf_algebra.proofs.GradedMatrices.Identities.{IsMatrix-identity}
use Rattle.sf_algebra.proofs.GradedMatrices.MatrixRows.{StandsWithin}
use Rattle.sf_algebra.proofs.GradedMatrices.Stacks.{AllByRecursion-map}
use Rattle.sf_algebra.proofs.Monomials.Weights.{field_ring}
use Rattle.sf_algebra.proofs.Tensors.Kronecker.{AllByRecursion-flat_map, row_degrees-kronecker}
use Rattle.sf_algebra.proofs.Tensors.KroneckerProducts.{kronecker_terms-row_combinations}
use Rattle.sf_algebra.proofs.Tensors.KroneckerVectors.{IsVector-kronecker_terms}
use Rattle.sf_algebra.proofs.Vectors.RowSums.{row_sum-nil_first}
use Rattle.sf_algebra.proofs.Vectors.Rows.{IsCanonical-row_combination, row_combination-nil}
use Rattle.sf_groebner.specs.Spans.{InSpan}
use Rattle.sf_groebner.proofs.PartsOfBases.StackedSpans.{InSpan-stacked_sum}
use Rattle.sf_matrix.specs.Places.{kronecker_vector}
use Rattle.sf_presented.proofs.FreeBases.{InSpan-identity}
use Rattle.sf_presented.proofs.RowMaps.{rows-InSpan}
use Rattle.sf_genmor.proofs.SamePresentations.{InSpan-behind}
use Rattle.sf_functor.specs.Functors.{tensor_matrix, tensor_relations}
use Rattle.sf_functor.specs.TensorLaws.{AreModulesBeside, HasTensorRelations, IsTensorRelation, SpansTensorRelations, of_first, of_second}
use Rattle.sf_functor.specs.TensorPlans.{relations_between}

-- what is in the span of the rows in front is in that of the stack
in_front : (a b : Matrix) → IsRing a.ring → a.ring ≡ b.ring → (v : Vector) → InSpan a v → InSpan (stacked a b) v
in_front a b positive rings v h =
    let zero : Vector = record { degree = v.degree; terms = [] } in
    let canonical : IsCanonicalRow a.ring v.terms =
    subst (λ (x : Vector). IsCanonicalRow a.ring x.terms) h.value
    (IsCanonical-row_combination a.ring positive.modulus a.rows h.coefficients.terms) in
    InSpan-stacked_sum a b positive rings v
    (record {
      first = zero;
      second = v;
      in_module = record {
        coefficients = zero;
        homogeneous = record { canonical = record { descending = tt; residues = tt }; homogeneous = tt };
        value = λ i. record {
          degree = v.degree;
          terms = row_combination-nil b.ring (subst (λ (q : Ring). 0 < q.modulus) rings positive.modulus) b.rows i;
        };
      };
      in_span = h;
      first_degree = refl;
      second_degree = refl;
      sum = row_sum-nil_first a.ring positive.modulus v.terms canonical;
    })

-- products of vectors of two spans are in the span of the Kronecker product
span_of_products : (a b : Matrix) → 0 < a.ring.modulus → a.ring ≡ b.ring → (v w : Vector) → InSpan a v → InSpan b w
    → InSpan (kronecker a b) (kronecker_vector a.ring (length b.target) v w)
span_of_products a b positive rings v w h k =
    let c = h.coefficients in
    let d = k.coefficients in
    let d_vector : IsVector a.ring (row_degrees b) d =
    subst (λ (q : Ring). IsVector q (row_degrees b) d) (sym rings) k.homogeneous in
    let size : length (row_degrees b) ≡ length b.rows = length-map b.rows (λ (x : Vector). x.degree) in
    let within : StandsWithin (length b.rows) d.terms =
    subst (λ m. StandsWithin m d.terms) size (AllByRecursion-weaken _ _ (λ t e. e.0) d.terms d_vector.homogeneous) in
    let second : record { degree = d.degree; terms = row_combination a.ring b.rows d.terms } ≡ w =
    ap (λ q. record { degree = d.degree; terms = row_combination q b.rows d.terms }) rings ∙ k.value in
    record {
      coefficients = kronecker_vector a.ring (length b.rows) c d;
      homogeneous =
          subst (λ ds. IsVector a.ring ds (kronecker_vector a.ring (length b.rows) c d)) (sym (row_degrees-kronecker a b))
          (subst (λ m. IsVector a.ring (degree_sums (row_degrees a) (row_degrees b)) (kronecker_vector a.ring m c d)) size
          (IsVector-kronecker_terms a.ring positive (row_degrees a) (row_degrees b) c d h.homogeneous d_vector));
      value =
          (λ i. record {
            degree = c.degree +ℤ d.degree;
            terms = sym (kronecker_terms-row_combinations a.ring positive (length b.target) a.rows b.rows c.terms d.terms within) i;
          })
          ∙ (λ i. kronecker_vector a.ring (length b.target) (h.value i) (second i));
    }

module _ (m n : Matrix) (h : AreModulesBeside m n) where
  is_ring : IsRing m.ring
  is_ring = field_ring h.field

  other_field : IsOverField n.ring
  other_field = subst IsOverField h.ring h.field

  spans_first : (v w : Vector) → InSpan m v → IsVector n.ring n.target w
      → InSpan (relations_between m n) (kronecker_vector m.ring (length n.target) v w)
  spans_first v w k l =
      let units = identity m.ring n.target in
      in_front (tensor_matrix m n) (tensor_relations m.target n) is_ring h.ring _
      (span_of_products m units is_ring.modulus refl v w k
      (InSpan-identity m.ring is_ring h.field.prime.above_one n.target w
      (subst (λ (q : Ring). IsVector q n.target w) (sym h.ring) l)))

  spans_second : (v w : Vector) → IsVector m.ring m.target v → InSpan n w
      → InSpan (relations_between m n) (kronecker_vector m.ring (length n.target) v w)
  spans_second v w k l =
      let units = identity n.ring m.target in
      let positive = field_ring other_field in
      InSpan-behind (tensor_matrix m n) (tensor_relations m.target n) is_ring h.ring _
      (subst (λ (q : Ring). InSpan (tensor_relations m.target n) (kronecker_vector q (length n.target) v w)) (sym h.ring)
      (span_of_products units n positive.modulus refl v w
      (InSpan-identity n.ring positive other_field.prime.above_one m.target v
      (subst (λ (q : Ring). IsVector q m.target v) h.ring k)) l))

  spans_each : (u : Vector) → IsTensorRelation m n u → InSpan (relations_between m n) u
  spans_each u (of_first v w k l) = spans_first v w k l
  spans_each u (of_second v w k l) = spans_second v w k l

  rows_first : AllByRecursion (IsTensorRelation m n) (tensor_matrix m n).rows
  rows_first =
      let units = unit_rows 0 n.target in
      let vectors : AllByRecursion (IsVector n.ring n.target) units =
      IsMatrix-identity n.ring other_field.prime.above_one n.target in
      AllByRecursion-flat_map (IsTensorRelation m n) _ m.rows
      (AllByRecursion-weaken (InSpan m) _ (λ v k. AllByRecursion-map (IsTensorRelation m n) (kronecker_vector m.ring (length n.target) v) units
      (AllByRecursion-weaken (IsVector n.ring n.target) _ (λ w l. of_first v w k l) units vectors))
      m.rows (rows-InSpan m is_ring h.field.prime.above_one h.first))

  rows_second : AllByRecursion (IsTensorRelation m n) (tensor_relations m.target n).rows
  rows_second =
      let units = unit_rows 0 m.target in
      let vectors : AllByRecursion (IsVector m.ring m.target) units =
      IsMatrix-identity m.ring h.field.prime.above_one m.target in
      AllByRecursion-flat_map (IsTensorRelation m n) _ units
      (AllByRecursion-weaken (IsVector m.ring m.target) _ (λ v k. AllByRecursion-map (IsTensorRelation m n) (kronecker_vector n.ring (length n.target) v) n.rows
      (AllByRecursion-weaken (InSpan n) _
      (λ w l. subst (λ (q : Ring). IsTensorRelation m n (kronecker_vector q (length n.target) v w)) h.ring (of_second v w k l))
      n.rows (rows-InSpan n (field_ring other_field) other_field.prime.above_one h.second)))
      units vectors)

pub spans_tensor_relations : SpansTensorRelations
spans_tensor_relations m n h u k = spans_each m n h u k

pub has_tensor_relations : HasTensorRelations
has_tensor_relations m n h =
    AllByRecursion-append (IsTensorRelation m n) (tensor_matrix m n).rows (tensor_relations m.target n).rows
    (rows_first m n h) (rows_second m n h)
