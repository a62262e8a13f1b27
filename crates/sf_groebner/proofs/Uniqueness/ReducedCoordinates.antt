-- The relations of a presentation span all relations, so the coordinates that a lift gives are reduced by them.
use Rattle.std.proofs.Common.{◌≡◌, List, [], length, refl, sym, ◌∙◌, ap, subst, ℤ}
use Rattle.sf_algebra.specs.Matrices.{Matrix, row_degrees, IsMatrix}
use Rattle.sf_algebra.specs.MatrixOperations.{stacked, vector_part}
use Rattle.sf_algebra.specs.Multiples.{place_product, combination, negative}
use Rattle.sf_algebra.specs.Rings.{Ring, IsRing, IsOverField}
use Rattle.sf_algebra.specs.VectorOperations.{row_sum, vector_difference}
use Rattle.sf_algebra.specs.Vectors.{Vector, place_cmp, IsVector, IsCanonicalRow}
use Rattle.sf_algebra.proofs.GradedMatrices.MatrixRows.{row_at-each}
use Rattle.sf_algebra.proofs.GradedMatrices.ProductParts.{combination-no_rows}
use Rattle.sf_algebra.proofs.Monomials.Weights.{field_ring}
use Rattle.sf_algebra.proofs.Multiplying.Keys.{place_keys}
use Rattle.sf_algebra.proofs.Terms.Negatives.{add-negative}
use Rattle.sf_algebra.proofs.Vectors.RowSums.{row_sum-nil_first}
use Rattle.sf_algebra.proofs.Vectors.Rows.{IsCanonical-row_combination}
use Rattle.sf_groebner.specs.Cuts.{first_parts, IsFirstBlock}
use Rattle.sf_groebner.specs.Lifts.{IsLift}
use Rattle.sf_groebner.specs.MinimalGenerators.{IsInSum, matrix_of, AreMinimal}
use Rattle.sf_groebner.specs.Presentations.{IsZero, IsRelation, IsReducedByRelations, AreRelationsModulo}
use Rattle.sf_groebner.specs.ReducedBases.{IsReducedBy, IsReducedBasis}
use Rattle.sf_groebner.specs.Spans.{InSpan, IsSyzygy}
use Rattle.sf_groebner.proofs.PartsOfBases.FirstParts.{reduced-first_parts}
use Rattle.sf_groebner.proofs.PartsOfBases.Relations.{IsRelation-blocks}
use Rattle.sf_groebner.proofs.Spanning.SameModules.{IsReducedBasis-same}
use Rattle.sf_groebner.proofs.Spanning.SpanCombinations.{span_submodule, relation_submodule, zero-inside}
use Rattle.sf_groebner.proofs.Spanning.Spans.{span_module}
use Rattle.sf_groebner.proofs.Spanning.Submodules.{IsSubmodule}
use Rattle.sf_groebner.proofs.Uniqueness.GeneratingBases.{AreMinimal-generate, AreMinimal-inside}
use Rattle.sf_groebner.proofs.Uniqueness.Lifts.{reduced-first_block}
use Rattle.sf_groebner.proofs.Uniqueness.Remainders.{same_reduced}
use Rattle.sf_groebner.proofs.Uniqueness.UniqueBases.{unique_reduced}

pub zero_submodule : (ring : Ring) → IsRing ring → (target : List ℤ) → IsSubmodule ring target IsZero
zero_submodule ring positive target = record {
  module_like = record {
    vectors = λ v h. subst (λ ts. IsVector ring target (record { degree = v.degree; terms = ts })) (sym h) (record { canonical = record { descending = tt; residues = tt }; homogeneous = tt });
    differences = λ u v h k e. (λ i. row_sum ring (h i) (negative ring.modulus (k i))) ∙ add-negative (place_keys ring.weights) ring.modulus positive.modulus [] (record { descending = tt; residues = tt });
  };
  combinations = λ rows inside d c h.
      (λ i. combination (place_cmp ring.weights) place_product ring.modulus (λ k. k.monomial) (λ k. row_at-each (λ ts. ts ≡ []) refl rows inside k.position i) c)
      ∙ combination-no_rows (place_keys ring.weights) ring.modulus positive.modulus (λ k. k.monomial) c;
}

module _ (m : Matrix) (positive : IsRing m.ring) where
  -- a sum with 0 is in the span
  pub InSpan-sum : (v : Vector) → IsInSum m.ring m.rows IsZero v → InSpan m v
  InSpan-sum v h =
      let canonical : IsCanonicalRow m.ring h.second.terms =
      subst (λ (x : Vector). IsCanonicalRow m.ring x.terms) (h.in_span).value
      (IsCanonical-row_combination m.ring positive.modulus m.rows ((h.in_span).coefficients).terms) in
      let terms : h.second.terms ≡ v.terms =
      sym (row_sum-nil_first m.ring positive.modulus h.second.terms canonical)
      ∙ ap (λ ts. row_sum m.ring ts h.second.terms) (sym h.in_module)
      ∙ h.sum in
      subst (InSpan m) (λ i. record { degree = h.second_degree i; terms = terms i }) h.in_span

  pub IsInSum-span : (v : Vector) → InSpan m v → IsInSum m.ring m.rows IsZero v
  IsInSum-span v h = record {
    first = record { degree = v.degree; terms = [] };
    second = v;
    in_module = refl;
    in_span = h;
    first_degree = refl;
    second_degree = refl;
    sum = row_sum-nil_first m.ring positive.modulus v.terms
        (subst (λ (x : Vector). IsCanonicalRow m.ring x.terms) h.value (IsCanonical-row_combination m.ring positive.modulus m.rows (h.coefficients).terms));
  }

-- minimal generators modulo 0 span the module
module _ (ring : Ring) (prime : IsOverField ring) (target : List ℤ) (N : Vector → Type 0)
    (submodule : IsSubmodule ring target N) (generators : List Vector)
    (minimal : AreMinimal ring N IsZero generators) where
  pub InSpan-minimal : (v : Vector) → N v → InSpan (matrix_of ring target generators) v
  InSpan-minimal v h =
      let positive : IsRing ring = field_ring prime in
      InSpan-sum (matrix_of ring target generators) positive v
      (AreMinimal-generate ring prime target N IsZero submodule (zero_submodule ring positive target) generators minimal v h)

  pub InSpan-minimal_inside : (v : Vector) → InSpan (matrix_of ring target generators) v → N v
  InSpan-minimal_inside v h =
      let positive : IsRing ring = field_ring prime in
      AreMinimal-inside ring prime target N IsZero submodule (zero_submodule ring positive target) generators minimal
      (λ w none. subst (λ ts. N (record { degree = w.degree; terms = ts })) (sym none) (zero-inside ring positive target N submodule w.degree))
      v (IsInSum-span (matrix_of ring target generators) positive v h)

-- a matrix of relations of generators modulo the span of base, minimal modulo 0
module _ (generators base relations : Matrix) (prime : IsOverField generators.ring)
    (given : AreRelationsModulo generators base relations) where
  relations_positive : IsRing generators.ring
  relations_positive = field_ring prime

  all_relations : IsSubmodule generators.ring (row_degrees generators) (IsRelation generators (InSpan base))
  all_relations =
      let base_positive : IsRing base.ring = subst (λ q. IsRing q) given.base_ring relations_positive in
      relation_submodule generators relations_positive base.target (InSpan base)
      (subst (λ q. IsSubmodule q base.target (InSpan base)) (sym given.base_ring) (span_submodule base base_positive given.base_matrix))

  as_rows : matrix_of generators.ring (row_degrees generators) relations.rows ≡ relations
  as_rows = λ i. record { ring = sym given.ring i; target = sym given.target i; rows = relations.rows }

  pub InSpan-relations : (c : Vector) → IsRelation generators (InSpan base) c → InSpan relations c
  InSpan-relations c h =
      subst (λ m. InSpan m c) as_rows
      (InSpan-minimal generators.ring prime (row_degrees generators) (IsRelation generators (InSpan base)) all_relations relations.rows given.minimal c h)

  pub IsRelation-span : (c : Vector) → InSpan relations c → IsRelation generators (InSpan base) c
  IsRelation-span c h =
      InSpan-minimal_inside generators.ring prime (row_degrees generators)
      (IsRelation generators (InSpan base)) all_relations relations.rows given.minimal c
      (subst (λ m. InSpan m c) (sym as_rows) h)

  -- the first block of a lift is reduced by the relations
  pub reduced_coordinates : (v c : Vector) → IsLift (stacked generators base) v c
      → IsReducedByRelations relations (vector_part 0 (length generators.rows) c)
  reduced_coordinates v c h =
      let m = stacked generators base in
      let n = length generators.rows in
      let blocks =
      reduced-first_parts m.ring (row_degrees m) (IsSyzygy m) (λ w l. l.coefficients) n h.syzygies h.basis in
      record {
        basis = first_parts n h.syzygies;
        reduced_basis = IsReducedBasis-same relations.ring.weights (IsFirstBlock generators base) (InSpan relations)
            (λ w k. InSpan-relations w ((IsRelation-blocks generators base relations_positive given.base_ring w).1 k))
            (λ w k. (IsRelation-blocks generators base relations_positive given.base_ring w).0 (IsRelation-span w k))
            (first_parts n h.syzygies)
            (subst (λ (q : Ring). IsReducedBasis q.weights (IsFirstBlock generators base) (first_parts n h.syzygies)) (sym given.ring) blocks);
        reduced = reduced-first_block m n h.syzygies c h.basis h.reduced;
      }

-- vectors that are reduced by relations and equal modulo their span are equal
pub unique_reduced_vector : (m : Matrix) → IsRing m.ring → IsMatrix m → (v w : Vector) → IsVector m.ring m.target v
    → IsVector m.ring m.target w → v.degree ≡ w.degree
    → InSpan m (vector_difference m.ring v w) → IsReducedByRelations m v → IsReducedByRelations m w → v ≡ w
unique_reduced_vector m positive matrix v w hv hw degree inside h k =
    let bases : k.basis ≡ h.basis =
    unique_reduced m.ring positive m.target (InSpan m)
    (span_module m positive matrix) k.basis h.basis k.reduced_basis h.reduced_basis in
    let terms : v.terms ≡ w.terms =
    same_reduced m.ring positive h.basis v w hv.canonical hw.canonical
    (h.reduced_basis.complete (vector_difference m.ring v w) inside) h.reduced
    (subst (λ basis. IsReducedBy basis w.terms) bases k.reduced) in
    λ i. record { degree = degree i; terms = terms i }
