-- The homology of the total complex of the bidual bicomplex.
use Rattle.std.proofs.Common.{◌≡◌, ◌↔◌, ℕ, zero, suc, List, [], map, refl, sym, ◌∙◌, ap, subst, arith, ℤ, pos, negsuc, neg_ℤ, ◌-ℤ◌, ◌+ℤ◌}
use Rattle.std.proofs.lemmas.Int.{ints}
use Rattle.sf_algebra.specs.Matrices.{Matrix, row_degrees, IsMatrix}
use Rattle.sf_algebra.specs.MatrixOperations.{row_combination}
use Rattle.sf_algebra.specs.Rings.{Ring, IsOverField}
use Rattle.sf_algebra.specs.Vectors.{Vector, IsVector}
use Rattle.sf_algebra.proofs.GradedMatrices.Transposes.{map-neg-neg, row_degrees-transposed, transposed-transposed}
use Rattle.sf_algebra.proofs.Monomials.Weights.{field_ring}
use Rattle.sf_algebra.proofs.Vectors.Rows.{row_combination-nil}
use Rattle.sf_groebner.specs.MinimalGenerators.{IsInSum, matrix_of}
use Rattle.sf_groebner.specs.Spans.{InSpan, combined, combined_rows}
use Rattle.sf_presented.proofs.Steps.{spans-first_step}
use Rattle.sf_blocks.proofs.MatrixSums.SumGroups.{row_at-zero_matrix}
use Rattle.sf_blocks.proofs.MatrixSums.SumProducts.{row_combination-zeros}
use Rattle.sf_homotopy.specs.Exactness.{IsExactPair, to_nothing}
use Rattle.sf_bicomplex.specs.Bicomplexes.{Bicomplex, IsBicomplex}
use Rattle.sf_bicomplex.specs.TotalColumns.{total_degrees}
use Rattle.sf_bidual.specs.AugmentationLaws.{IsBoundaryAt, IsCycleAt}
use Rattle.sf_bidual.specs.Bidual.{IsBidualOf, bidual, bidual_augmentation, dual_maps}
use Rattle.sf_bidual.specs.CartanEilenberg.{CartanEilenberg}
use Rattle.sf_bidual.proofs.Augmented.Augmentations.{IsAugmentedBy}
use Rattle.sf_bidual.proofs.Augmented.Homology.{cycle-boundary, cycle-set, set-boundary, set-cycle, set-image, set_matrix}
use Rattle.sf_bidual.proofs.BidualSpots.Augmentation.{augmentations, augmented, from_pair, map_from, no_terms, set_degrees, set_maps}
use Rattle.sf_bidual.proofs.BidualSpots.Bicomplex.{bidual_bicomplex, dual_complex}
use Rattle.sf_bidual.proofs.BidualSpots.DualComplexes.{IsMatrix-steps, exact-steps}

module _ (relations : Matrix) (n : ℕ) (steps : ℕ → Matrix) (x : CartanEilenberg) (prime : IsOverField relations.ring)
    (matrix : IsMatrix relations) (d : IsBidualOf relations n steps x) where
  abbrev ring : Ring
  ring = relations.ring

  abbrev b : Bicomplex
  b = bidual relations.ring n x

  pub h : IsBicomplex (bidual relations.ring n x)
  h = bidual_bicomplex relations n steps x prime matrix d

  abbrev pub degrees : ℤ → List ℤ
  degrees =
      set_degrees relations.ring (dual_maps steps) x prime (dual_complex relations n steps x prime matrix d) d.cartan n

  abbrev pub augmentation : ℤ → Matrix
  augmentation =
      augmentations relations.ring (dual_maps steps) x prime (dual_complex relations n steps x prime matrix d) d.cartan n

  abbrev pub dual : ℤ → Matrix
  dual = set_maps relations.ring (dual_maps steps) x prime (dual_complex relations n steps x prime matrix d) d.cartan n

  pub k : IsAugmentedBy (bidual relations.ring n x) n degrees augmentation dual
  k = augmented relations.ring (dual_maps steps) x prime (dual_complex relations n steps x prime matrix d) d.cartan n

  lowest_row : pos n -ℤ pos n ≡ pos 0
  lowest_row = omega (arith, ints)

  next_row : pos n +ℤ pos 1 -ℤ pos n ≡ pos 1
  next_row = omega (arith, ints)

  up : (t : ℤ) → t ≡ t +ℤ pos 1 -ℤ pos 1
  up t = omega (arith, ints)

  -- the free module of the generators
  generators : degrees (pos 0) ≡ relations.target
  generators =
      ap (map neg_ℤ) (row_degrees-transposed (steps 0))
      ∙ map-neg-neg (steps 0).target ∙ d.first.target

  pub over : (m : Vector) → IsVector relations.ring relations.target m → IsVector relations.ring (degrees (pos n -ℤ pos n)) m
  over m v = subst (λ ds. IsVector relations.ring ds m) (sym (ap degrees lowest_row ∙ generators)) v

  pub same_augmentation : set_matrix b h n degrees augmentation dual k (pos n) ≡ bidual_augmentation relations.ring n x
  same_augmentation = λ i. matrix_of relations.ring (total_degrees b (pos n)) (augmentation (lowest_row i)).rows

  -- the first map of the dual complex is the first step again
  first_map : dual (pos 1) ≡ steps 0
  first_map = transposed-transposed (steps 0) (IsMatrix-steps relations steps prime matrix d.first d.next 0)

  spans_first : (m : Vector) → InSpan (steps 0) m ↔ InSpan relations m
  spans_first = spans-first_step relations (steps 0) prime matrix d.first

  vanishing : (m : Vector) → row_combination relations.ring (dual (pos n -ℤ pos n)).rows m.terms ≡ []
  vanishing m =
      ap (λ q. row_combination relations.ring (dual q).rows m.terms) lowest_row
      ∙ row_combination-zeros relations.ring (field_ring prime).modulus
      (to_nothing relations.ring (map neg_ℤ (row_degrees (dual_maps steps zero)))).rows
      (row_at-zero_matrix relations.ring (map neg_ℤ (row_degrees (dual_maps steps zero))) []) m.terms

  pub cycles_of_vectors : (m : Vector) → IsVector relations.ring relations.target m
      → IsCycleAt (bidual relations.ring n x) (pos n) (combined (bidual_augmentation relations.ring n x) m)
  cycles_of_vectors m v =
      subst (λ e. IsCycleAt b (pos n) (combined e m)) same_augmentation
      (set-cycle b h n degrees augmentation dual k (pos n +ℤ pos 1) (pos n) (up (pos n)) (pos n -ℤ pos 1) refl m
      (over m v) (vanishing m))

  pub boundaries_of_relations : (m : Vector) → IsVector relations.ring relations.target m
      → IsBoundaryAt (bidual relations.ring n x) (pos n) (combined (bidual_augmentation relations.ring n x) m)
      ↔ InSpan relations m
  boundaries_of_relations m v = (
    λ e.
        let above = pos n +ℤ pos 1 in
        let found =
        set-boundary b h n degrees augmentation dual k above (pos n) (up (pos n)) m (over m v)
        (subst (λ a. IsBoundaryAt b (pos n) (combined a m)) (sym same_augmentation) e) in
        let from = map_from relations.ring (dual_maps steps) x prime (dual_complex relations n steps x prime matrix d)
        d.cartan n (pos 1) in
        let spanned : InSpan (dual (pos 1)) m = record {
          coefficients = found.0;
          homogeneous = subst (λ q. IsVector q (row_degrees (dual (pos 1))) found.0) (sym from.ring_of)
              (subst (λ ds. IsVector relations.ring ds found.0) (ap degrees next_row ∙ sym from.source_of) found.1);
          value = ap (λ q. combined_rows q (dual (pos 1)).rows found.0) from.ring_of
              ∙ ap (λ r. combined_rows relations.ring (dual r).rows found.0) (sym next_row)
              ∙ found.2;
        } in
        (spans_first m).0 (subst (λ a. InSpan a m) first_map spanned),
    λ e.
        let above = pos n +ℤ pos 1 in
        let from = map_from relations.ring (dual_maps steps) x prime (dual_complex relations n steps x prime matrix d)
        d.cartan n (pos 1) in
        let s : InSpan (dual (pos 1)) m = subst (λ a. InSpan a m) (sym first_map) ((spans_first m).1 e) in
        let c : Vector = s.coefficients in
        let source : IsVector relations.ring (degrees (above -ℤ pos n)) c =
        subst (λ ds. IsVector relations.ring ds c) (from.source_of ∙ sym (ap degrees next_row))
        (subst (λ q. IsVector q (row_degrees (dual (pos 1))) c) from.ring_of s.homogeneous) in
        let value : combined_rows relations.ring (dual (above -ℤ pos n)).rows c ≡ m =
        ap (λ r. combined_rows relations.ring (dual r).rows c) next_row
        ∙ ap (λ q. combined_rows q (dual (pos 1)).rows c) (sym from.ring_of)
        ∙ s.value in
        subst (λ a. IsBoundaryAt b (pos n) (combined a m)) same_augmentation
        (subst (λ w. IsBoundaryAt b (pos n) (combined (set_matrix b h n degrees augmentation dual k (pos n)) w)) value
        (set-image b h n degrees augmentation dual k above (pos n) (up (pos n)) c source)),
  )

  pub all_cycles : (v : Vector) → IsCycleAt (bidual relations.ring n x) (pos n) v
      → IsInSum relations.ring (bidual_augmentation relations.ring n x).rows
      (IsBoundaryAt (bidual relations.ring n x) (pos n)) v
  all_cycles v e =
      subst (λ (a : Matrix). IsInSum relations.ring a.rows (IsBoundaryAt b (pos n)) v) same_augmentation
      (cycle-set b h n degrees augmentation dual k (pos n +ℤ pos 1) (pos n) (up (pos n)) (pos n -ℤ pos 1) refl v e)

  -- the dual complex is exact in rows other than 0
  exact_at : (q r : ℤ) → r ≡ q +ℤ pos 1 → (q ≡ pos 0 → ⊥) → (m : Vector) → IsVector relations.ring (degrees q) m
      → row_combination relations.ring (dual q).rows m.terms ≡ []
      → (c : Vector) × IsVector relations.ring (degrees r) c × (combined_rows relations.ring (dual r).rows c ≡ m)
  exact_at (pos (suc i)) r e other m v none =
      let higher : r ≡ pos (suc (suc i)) = omega (arith, ints) in
      let complex = dual_complex relations n steps x prime matrix d in
      let here = map_from relations.ring (dual_maps steps) x prime complex d.cartan n (pos (suc i)) in
      let next = map_from relations.ring (dual_maps steps) x prime complex d.cartan n (pos (suc (suc i))) in
      let pair : IsExactPair (dual (pos (suc i))) (dual (pos (suc (suc i)))) =
      subst (λ (p : Matrix × Matrix). IsExactPair p.0 p.1)
      (λ a. (
        sym (transposed-transposed (steps i) (IsMatrix-steps relations steps prime matrix d.first d.next i)) a,
        sym (transposed-transposed (steps (suc i)) (IsMatrix-steps relations steps prime matrix d.first d.next (suc i))) a,
      ))
      (exact-steps relations steps prime matrix d.first d.next i) in
      let found =
      from_pair relations.ring (dual (pos (suc i))) (dual (pos (suc (suc i)))) here.ring_of next.ring_of pair m
      (subst (λ ds. IsVector relations.ring ds m) (sym here.source_of) v) none in
      subst (λ s. (c : Vector) × IsVector relations.ring (degrees s) c
      × (combined_rows relations.ring (dual s).rows c ≡ m)) (sym higher)
      (found.0, subst (λ ds. IsVector relations.ring ds found.0) next.source_of found.1, found.2)
  exact_at (pos zero) r e other m v none = absurd (other refl)
  exact_at (negsuc i) r e other m v none = (
    record { degree = m.degree; terms = [] },
    record { canonical = record { descending = tt; residues = tt }; homogeneous = tt },
    λ a. record {
      degree = m.degree;
      terms = (row_combination-nil relations.ring (field_ring prime).modulus (dual r).rows
          ∙ sym (no_terms relations.ring m v)) a;
    },
  )

  pub no_other_homology : (t : ℤ) → (t ≡ pos n → ⊥) → (v : Vector) → IsCycleAt (bidual relations.ring n x) t v
      → IsBoundaryAt (bidual relations.ring n x) t v
  no_other_homology t other v e =
      let row : t +ℤ pos 1 -ℤ pos n ≡ t -ℤ pos n +ℤ pos 1 = omega (arith, ints) in
      cycle-boundary b h n degrees augmentation dual k (t +ℤ pos 1) t (up t) (t -ℤ pos 1) refl
      (exact_at (t -ℤ pos n) (t +ℤ pos 1 -ℤ pos n) row
      (λ same. other (let equal : t ≡ pos n = omega (arith, ints) in equal))) v e
