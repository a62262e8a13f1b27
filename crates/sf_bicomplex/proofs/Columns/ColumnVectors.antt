-- The vectors of one degree over a free module whose generators stand in columns, the lowest column last, are a group in
-- columns: below column k is what stands from position low k on.
use Rattle.std.proofs.Common.{◌≡◌, ℕ, zero, suc, ◌<◌, ◌≤◌, List, [], ◌∷◌, length, sym, subst, refl, inl, inr, arith, ℤ}
use Rattle.std.proofs.lemmas.Bool.{cases_eq}
use Rattle.std.specs.List.{AllByRecursion}
use Rattle.sf_algebra.specs.Groups.{Group, IsSub, IsWithin, SumOf}
use Rattle.sf_algebra.specs.Matrices.{Matrix, IsMatrix}
use Rattle.sf_algebra.specs.Multiples.{negative}
use Rattle.sf_algebra.specs.Rings.{Ring, IsRing}
use Rattle.sf_algebra.specs.Terms.{Term}
use Rattle.sf_algebra.specs.Vectors.{Place, Vector, place_cmp}
use Rattle.sf_algebra.proofs.Basics.Lists.{AllByRecursion-front, AllByRecursion-weaken}
use Rattle.sf_algebra.proofs.Terms.Negatives.{EachPlace-negative, IsCanonical-negative}
use Rattle.sf_algebra.proofs.Terms.Normal.{EachPlace, EachPlace-add}
use Rattle.sf_algebra.proofs.Vectors.RowSums.{row_sum-nil_first}
use Rattle.sf_algebra.proofs.Vectors.VectorGroups.{vectors_of_degree}
use Rattle.sf_algebra.proofs.Vectors.VectorProps.{vector_unique}
use Rattle.sf_groebner.specs.Spans.{InSpan}
use Rattle.sf_groebner.proofs.Basics.Items.{AllByRecursion-both}
use Rattle.sf_groebner.proofs.Spanning.SpanCombinations.{span_submodule_of, submodule_closed, zero-inside}
use Rattle.sf_groebner.proofs.Spanning.SpanGroups.{of_degree}
use Rattle.sf_groebner.proofs.Spanning.Submodules.{IsSubmodule}
use Rattle.sf_chase.specs.Columns.{Columned}
use Rattle.sf_bicomplex.proofs.Columns.Splits.{StandsWithin-vector, split_at}

-- in one degree a module is a subgroup
pub submodule-sub : (ring : Ring) (positive : IsRing ring) (degrees : List ℤ) (N : Vector → Type 0)
    → IsSubmodule ring degrees N → (d : ℤ)
    → IsSub (vectors_of_degree ring positive.modulus degrees d) (of_degree N ring positive degrees d)
submodule-sub ring positive degrees N n d = record {
  has_zero = zero-inside ring positive degrees N n d;
  has_plus = λ u v h k. (submodule_closed ring positive degrees N n).sums d u.0 v.0 h k;
  has_minus = λ u h. subst (λ ts. N (record { degree = d; terms = ts }))
      (row_sum-nil_first ring positive.modulus (negative ring.modulus u.0)
      (IsCanonical-negative (place_cmp ring.weights) ring.modulus u.0 u.1.canonical))
      (n.module_like.differences (record { degree = d; terms = [] }) (record { degree = d; terms = u.0 })
      (zero-inside ring positive degrees N n d) h refl);
  has_act = λ r. absurd r;
}

module _ (ring : Ring) (positive : IsRing ring) (degrees : List ℤ) (d : ℤ) where
  abbrev pub group : Group ⊥
  group = vectors_of_degree ring positive.modulus degrees d

  -- the vectors all of whose places have a property
  pub EachPlace-sub : (P : Place → Type 0) → IsSub group (λ v. EachPlace P v.0)
  EachPlace-sub P = record {
    has_zero = tt;
    has_plus = λ u v h k. EachPlace-add P (place_cmp ring.weights) ring.modulus u.0 v.0 h k;
    has_minus = λ u h. EachPlace-negative P ring.modulus u.0 h;
    has_act = λ r. absurd r;
  }

  -- where no place has it, the vector is 0
  pub no_place : (P : Place → Type 0) → ((k : Place) → P k → ⊥) → (v : group.V) → EachPlace P v.0 → v ≡ group.zero
  no_place P none v h = vector_unique ring degrees d v group.zero (empty v.0 h)
    where
      empty : (ts : List (Term Place)) → EachPlace P ts → ts ≡ []
      empty [] k = refl
      empty (t ∷ ts) k = absurd (none t.at k.0)

  module _ (low : ℕ → ℕ) where
    -- the vectors that stand in column j, and those below it
    abbrev pub in_column : ℕ → (vectors_of_degree ring positive.modulus degrees d).V → Type 0
    in_column j v = EachPlace (λ k. (low (suc j) ≤ k.position) × (k.position < low j)) v.0

    abbrev pub below_column : ℕ → (vectors_of_degree ring positive.modulus degrees d).V → Type 0
    below_column j v = EachPlace (λ k. low j ≤ k.position) v.0

    pub below-lowest : length degrees ≤ low 0 → (v : group.V) → below_column 0 v → v ≡ group.zero
    below-lowest all v h =
        no_place (λ k. (low 0 ≤ k.position) × (k.position < length degrees))
        (λ k e. let past : low 0 ≤ k.position = e.0 in let within : k.position < length degrees = e.1 in
        absurd (omega arith)) v
        (AllByRecursion-both _ _ _ (λ t e f. (e, f)) v.0 h (StandsWithin-vector ring degrees _ v.1))

    pub below-highest : (j : ℕ) (v : group.V) → below_column (suc j) v
        → SumOf group (in_column j) (below_column j) v
    below-highest j v h =
        let split = split_at ring positive degrees d (low j) v.0 v.1 in
        let each = subst (AllByRecursion (λ t. low (suc j) ≤ t.at.position)) (sym split.together) h in (
          (split.before, split.before_vector),
          (split.after, split.after_vector),
          AllByRecursion-both _ _ _ (λ t e f. (e, f)) split.before
              (AllByRecursion-front _ split.before split.after each) split.stand_before,
          split.stand_after,
          vector_unique ring degrees d _ v split.sum,
        )

    pub column-apart : (j : ℕ) (v : group.V) → in_column j v → below_column j v → v ≡ group.zero
    column-apart j v h k =
        no_place (λ l. (l.position < low j) × (low j ≤ l.position))
        (λ l e. let before : l.position < low j = e.0 in let past : low j ≤ l.position = e.1 in absurd (omega arith))
        v (AllByRecursion-both _ _ _ (λ t e f. (e.1, f)) v.0 h k)

    module _ (falls : (k : ℕ) → low (suc k) ≤ low k) where
      pub low-falls : (i j : ℕ) → i ≤ j → low j ≤ low i
      low-falls zero zero h = omega arith
      low-falls (suc i) zero h = absurd (omega arith)
      low-falls i (suc j) h = elim (cases_eq i (suc j)) [
        | inl same ↦ subst (λ k. low (suc j) ≤ low k) (sym same) (omega arith)
        | inr other ↦
            let before : i ≤ j = omega arith in
            let higher = low-falls i j before in
            let step = falls j in
            omega arith
      ]

      pub below-rises : (i j : ℕ) → i ≤ j → IsWithin (below_column i) (below_column j)
      below-rises i j h v k =
          let lower = low-falls i j h in
          AllByRecursion-weaken (λ (t : Term Place). low i ≤ t.at.position) (λ t. low j ≤ t.at.position)
          (λ t e. omega arith) v.0 k

      module _ (relations : Matrix) (rings : relations.ring ≡ ring) (targets : relations.target ≡ degrees)
          (matrix : IsMatrix relations) (all : length degrees ≤ low 0) where
        abbrev pub column_vectors : Columned ⊥
        column_vectors = record {
          group = vectors_of_degree ring positive.modulus degrees d;
          relations = of_degree (InSpan relations) ring positive degrees d;
          relations_sub =
              submodule-sub ring positive degrees (InSpan relations)
              (span_submodule_of ring positive degrees relations rings targets matrix) d;
          column = in_column;
          below = below_column;
          column_sub = λ j. EachPlace-sub (λ k. (low (suc j) ≤ k.position) × (k.position < low j));
          below_sub = λ j. EachPlace-sub (λ k. low j ≤ k.position);
          rises = below-rises;
          nothing_lower = below-lowest all;
          highest = below-highest;
          column_below = λ j v h. AllByRecursion-weaken _ _ (λ t e. e.0) v.0 h;
          apart = column-apart;
        }
