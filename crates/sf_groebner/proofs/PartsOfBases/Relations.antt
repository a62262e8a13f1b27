-- The relations of generators modulo a span are the first blocks of the syzygies of a stack.
use Rattle.std.proofs.Common.{◌≡◌, ◌+◌, List, [], ◌++◌, length, sym, ◌∙◌, ap, subst}
use Rattle.std.proofs.lemmas.List.{length-map}
use Rattle.sf_algebra.specs.Matrices.{Matrix, row_degrees}
use Rattle.sf_algebra.specs.MatrixOperations.{part_terms, row_combination, stacked}
use Rattle.sf_algebra.specs.Multiples.{negative}
use Rattle.sf_algebra.specs.Rings.{IsRing}
use Rattle.sf_algebra.specs.Terms.{Term}
use Rattle.sf_algebra.specs.VectorOperations.{row_sum}
use Rattle.sf_algebra.specs.Vectors.{Place, Vector, place_cmp, IsVector, IsCanonicalRow}
use Rattle.sf_algebra.proofs.Multiplying.Keys.{place_keys}
use Rattle.sf_algebra.proofs.Terms.Negatives.{IsCanonical-negative, add-negative, negative-negative}
use Rattle.sf_algebra.proofs.Vectors.HomogeneousVectors.{IsVector-negative}
use Rattle.sf_algebra.proofs.Vectors.Rows.{IsCanonical-row_combination, row_combination-negative}
use Rattle.sf_algebra.proofs.Vectors.StackedRows.{row_combination-stacked}
use Rattle.sf_groebner.specs.Cuts.{IsFirstBlock}
use Rattle.sf_groebner.specs.Presentations.{IsRelation}
use Rattle.sf_groebner.specs.Spans.{InSpan, IsSyzygy}
use Rattle.sf_groebner.proofs.PartsOfBases.GraphParts.{IsWithin-coefficients}
use Rattle.sf_groebner.proofs.PartsOfBases.PairedVectors.{paired_terms, part_terms-pair_first, IsVector-pair}
use Rattle.sf_groebner.proofs.PartsOfBases.StackedSpans.{stack_coefficients, first_coefficients, last_coefficients, row_combination-blocks}
use Rattle.sf_groebner.proofs.Uniqueness.Differences.{add-negative_same}

module _ (a b : Matrix) (positive : IsRing a.ring) (rings : a.ring ≡ b.ring) where
  relation_from_block : (v : Vector) → IsFirstBlock a b v → IsRelation a (InSpan b) v
  relation_from_block v h = subst (IsRelation a (InSpan b)) h.part (record {
    coefficients = first_coefficients a b h.whole h.inside.coefficients;
    inside = record {
      coefficients = record { degree = h.whole.degree; terms = negative a.ring.modulus (others h.whole) };
      homogeneous =
          subst (λ ring. IsVector ring (row_degrees b) (record { degree = h.whole.degree; terms = negative a.ring.modulus (others h.whole) })) rings
          (IsVector-negative a.ring (row_degrees b) h.whole.degree (others h.whole) (last_coefficients a b h.whole h.inside.coefficients));
      value =
          (λ i. record { degree = h.whole.degree; terms = (ap (λ ring. row_combination ring b.rows (negative a.ring.modulus (others h.whole))) (sym rings) ∙ same h.whole h.inside) i });
    };
  })
    where
      others : Vector → List (Term Place)
      others c = part_terms (length a.rows) (length a.rows + length b.rows) c.terms

      same : (c : Vector) → IsSyzygy (stacked a b) c
          → row_combination a.ring b.rows (negative a.ring.modulus (others c))
          ≡ row_combination a.ring a.rows (part_terms 0 (length a.rows) c.terms)
      same c k =
          let last = last_coefficients a b c k.coefficients in
          let first = row_combination a.ring a.rows (part_terms 0 (length a.rows) c.terms) in
          let second = row_combination a.ring b.rows (others c) in
          let canonical : IsCanonicalRow a.ring second =
          IsCanonical-row_combination a.ring positive.modulus b.rows (others c) in
          row_combination-negative a.ring positive.modulus b.rows (others c) last.canonical
          ∙ sym (add-negative_same (place_keys a.ring.weights) a.ring.modulus positive.modulus first (negative a.ring.modulus second)
          (IsCanonical-row_combination a.ring positive.modulus a.rows (part_terms 0 (length a.rows) c.terms))
          (IsCanonical-negative (place_cmp a.ring.weights) a.ring.modulus second canonical)
          (ap (row_sum a.ring first) (negative-negative (place_cmp a.ring.weights) a.ring.modulus second canonical.residues) ∙ row_combination-blocks a b positive c k.coefficients ∙ k.zero))

  block_from_relation : (v : Vector) → IsRelation a (InSpan b) v → IsFirstBlock a b v
  block_from_relation v h =
      let d = h.inside.coefficients in
      let ring = a.ring in
      let within = IsWithin-coefficients a v h.coefficients in
      let degree : d.degree ≡ v.degree = ap (λ x. x.degree) h.inside.value in
      let coefficients : IsVector ring (row_degrees b) (record { degree = v.degree; terms = negative ring.modulus d.terms }) =
      IsVector-negative ring (row_degrees b) v.degree d.terms
      (subst (λ e. IsVector ring (row_degrees b) (record { degree = e; terms = d.terms })) degree (subst (λ q. IsVector q (row_degrees b) d) (sym rings) h.inside.homogeneous)) in
      let pair : IsVector ring (row_degrees a ++ row_degrees b) (record { degree = v.degree; terms = paired_terms (length a.rows) v.terms (negative ring.modulus d.terms) }) =
      subst (λ n. IsVector ring (row_degrees a ++ row_degrees b) (record { degree = v.degree; terms = paired_terms n v.terms (negative ring.modulus d.terms) })) (length-map a.rows (λ (x : Vector). x.degree))
      (IsVector-pair (row_degrees a) (row_degrees b) v.degree ring v.terms (negative ring.modulus d.terms) h.coefficients coefficients) in
      let canonical : IsCanonicalRow ring d.terms =
      subst (λ q. IsCanonicalRow q d.terms) (sym rings) h.inside.homogeneous.canonical in
      let value : row_combination ring b.rows d.terms ≡ row_combination ring a.rows v.terms =
      ap (λ q. row_combination q b.rows d.terms) rings ∙ ap (λ x. x.terms) h.inside.value in
      let zero : row_combination ring (a.rows ++ b.rows) (paired_terms (length a.rows) v.terms (negative ring.modulus d.terms)) ≡ [] =
      row_combination-stacked ring positive.modulus a.rows b.rows v.terms (negative ring.modulus d.terms) within
      ∙ ap (row_sum ring (row_combination ring a.rows v.terms))
      (row_combination-negative ring positive.modulus b.rows d.terms canonical ∙ ap (negative ring.modulus) value)
      ∙ add-negative (place_keys ring.weights) ring.modulus positive.modulus (row_combination ring a.rows v.terms)
      (IsCanonical-row_combination ring positive.modulus a.rows v.terms) in record {
        whole = record { degree = v.degree; terms = paired_terms (length a.rows) v.terms (negative ring.modulus d.terms) };
        inside = record { coefficients = stack_coefficients a b _ pair; zero = zero };
        part =
            (λ i. record { degree = v.degree; terms = part_terms-pair_first (length a.rows) v.terms (negative ring.modulus d.terms) within i });
      }

  pub IsRelation-blocks : (v : Vector)
      → (IsRelation a (InSpan b) v → IsFirstBlock a b v) × (IsFirstBlock a b v → IsRelation a (InSpan b) v)
  IsRelation-blocks v = (block_from_relation v, relation_from_block v)
