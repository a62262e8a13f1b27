-- The bidual bicomplex has exact rows below its highest column, and the complex whose dual the columns resolve is set there.
use Rattle.std.proofs.Common.{◌≡◌, ◌<◌, ◌-◌, ℕ, zero, suc, List, [], ◌∷◌, map, refl, sym, ◌∙◌, ap, subst, arith, ℤ, pos, negsuc, neg_ℤ, ◌-ℤ◌}
use Rattle.std.proofs.lemmas.Int.{ints}
use Rattle.sf_algebra.specs.Matrices.{Matrix, row_degrees}
use Rattle.sf_algebra.specs.MatrixOperations.{matrix_product, row_combination, transposed, IsComposable}
use Rattle.sf_algebra.specs.Rings.{Ring, IsOverField}
use Rattle.sf_algebra.specs.Terms.{Term}
use Rattle.sf_algebra.specs.Vectors.{Place, Vector, IsHomogeneous, IsVector}
use Rattle.sf_algebra.proofs.GradedMatrices.TransposedProducts.{transposed-matrix_product}
use Rattle.sf_algebra.proofs.GradedMatrices.Transposes.{IsMatrix-transposed, row_degrees-transposed}
use Rattle.sf_algebra.proofs.Monomials.Weights.{field_ring}
use Rattle.sf_algebra.proofs.Vectors.Rows.{row_combination-matrix_product, row_combination-nil}
use Rattle.sf_groebner.specs.Spans.{IsSyzygy, combined_rows}
use Rattle.sf_blocks.specs.BlockLists.{IsFrom}
use Rattle.sf_blocks.proofs.MatrixSums.SumGroups.{IsMatrix-zero_matrix, row_at-zero_matrix, row_degrees-zero_matrix}
use Rattle.sf_blocks.proofs.MatrixSums.SumProducts.{row_combination-zeros}
use Rattle.sf_homotopy.specs.Exactness.{IsExactPair, from_nothing, to_nothing}
use Rattle.sf_bidual.specs.Bidual.{bidual, bidual_across, bidual_degrees, bidual_down, dual_across, dual_degrees, dual_down}
use Rattle.sf_bidual.specs.CartanEilenberg.{CartanEilenberg, IsCartanEilenberg, IsCochainComplex, column_steps, horizontal_step}
use Rattle.sf_bidual.proofs.Augmented.Augmentations.{IsAugmentedBy}
use Rattle.sf_bidual.proofs.BidualSpots.Places.{across-source, step-matrix}
use Rattle.sf_bidual.proofs.Columns.Laws.{column-rings, column_degrees-steps, resolves_terms}
use Rattle.sf_bidual.proofs.HorizontalMaps.Squares.{IsMatrix-horizontal, commute_augmentations}
use Rattle.sf_bidual.proofs.Rows.TransposedColumns.{transposed_exact_at, transposed_one_to_one}

-- over no generators there is nothing but 0
pub no_terms : (ring : Ring) (v : Vector) → IsVector ring [] v → v.terms ≡ []
no_terms ring v h = go v.terms h.homogeneous
  where
    go : (ts : List (Term Place)) → IsHomogeneous ring.weights [] v.degree ts → ts ≡ []
    go [] e = refl
    go (t ∷ ts) e = let past : t.at.position < 0 = e.0.0 in absurd (omega arith)

-- what an exact pair sends to 0 comes by the other map
pub from_pair : (ring : Ring) (out into : Matrix) → out.ring ≡ ring → into.ring ≡ ring → IsExactPair out into
    → (z : Vector) → IsVector ring (row_degrees out) z → row_combination ring out.rows z.terms ≡ []
    → (y : Vector) × IsVector ring (row_degrees into) y × (combined_rows ring into.rows y ≡ z)
from_pair ring out into outs intos pair z x none =
    let s = (pair.exact z).0 (record {
      coefficients = subst (λ q. IsVector q (row_degrees out) z) (sym outs) x;
      zero = ap (λ q. row_combination q out.rows z.terms) outs ∙ none;
    }) in (
      s.coefficients,
      subst (λ q. IsVector q (row_degrees into) s.coefficients) intos s.homogeneous,
      ap (λ q. combined_rows q into.rows s.coefficients) (sym intos) ∙ s.value,
    )

module _ (ring : Ring) (maps : ℕ → Matrix) (x : CartanEilenberg) (prime : IsOverField ring)
    (complex : IsCochainComplex ring maps) (h : IsCartanEilenberg ring maps x) (n : ℕ) where
  positive : 0 < ring.modulus
  positive = (field_ring prime).modulus

  -- the dual complex of the given one
  abbrev pub set_degrees : ℤ → List ℤ
  set_degrees (pos i) = map neg_ℤ (row_degrees (maps i))
  set_degrees (negsuc i) = []

  abbrev pub augmentations : ℤ → Matrix
  augmentations (pos i) = transposed (column_steps x i 0)
  augmentations (negsuc i) = from_nothing ring []

  abbrev pub set_maps : ℤ → Matrix
  set_maps (pos (suc i)) = transposed (maps i)
  set_maps (pos zero) = to_nothing ring (map neg_ℤ (row_degrees (maps zero)))
  set_maps (negsuc i) = from_nothing ring []

  -- the rows of the transposed columns
  column-start : (i : ℕ) → (column_steps x i 0).target ≡ row_degrees (maps i)
  column-start i = (h.boundaries i).presentation.generators_target

  pair_at : (i j : ℕ) → IsExactPair (transposed (column_steps x i (suc j))) (transposed (column_steps x i j))
  pair_at i =
      let resolves = resolves_terms ring maps x prime complex h i in
      transposed_exact_at ring prime.prime.above_one (row_degrees (maps i)) (column_steps x i)
      (column-rings ring maps x prime complex h i 0) (column-start i) resolves.onto resolves.exact

  rings_at : (i j : ℕ) → (transposed (column_steps x i j)).ring ≡ ring
  rings_at = column-rings ring maps x prime complex h

  nothing_from : (z : Vector) → z.terms ≡ [] → (degrees : List ℤ) (rows : List Vector)
      → (y : Vector) × IsVector ring degrees y × (combined_rows ring rows y ≡ z)
  nothing_from z none degrees rows = (
    record { degree = z.degree; terms = [] },
    record { canonical = record { descending = tt; residues = tt }; homogeneous = tt },
    λ i. record { degree = z.degree; terms = (row_combination-nil ring positive rows ∙ sym none) i },
  )

  exact_row : (i j a : ℕ) → a ≡ suc (suc j) → (c : ℕ) → c ≡ suc j → (ds es : List ℤ) → (z : Vector)
      → IsVector ring (dual_degrees x i a) z
      → row_combination ring (dual_across ring x i ds a).rows z.terms ≡ []
      → (y : Vector) × IsVector ring (dual_degrees x i c) y
      × (combined_rows ring (dual_across ring x i es c).rows y ≡ z)
  exact_row i j a e c g ds es z v none =
      let source = across-source ring maps x prime complex h i (suc j) in
      let found =
      from_pair ring (transposed (column_steps x i (suc (suc j)))) (transposed (column_steps x i (suc j)))
      (rings_at i (suc (suc j))) (rings_at i (suc j)) (pair_at i (suc j)) z
      (subst (λ fs. IsVector ring fs z) (sym source) (subst (λ k. IsVector ring (dual_degrees x i k) z) e v))
      (subst (λ k. row_combination ring (dual_across ring x i ds k).rows z.terms ≡ []) e none) in
      subst (λ k. (y : Vector) × IsVector ring (dual_degrees x i k) y
      × (combined_rows ring (dual_across ring x i es k).rows y ≡ z)) (sym g) (
        found.0,
        subst (λ fs. IsVector ring fs found.0) (across-source ring maps x prime complex h i j) found.1,
        found.2,
      )

  bidual_exact : (p : ℕ) (q : ℤ) → p < n → (z : Vector) → IsVector ring (bidual_degrees n x p q) z
      → row_combination ring (bidual_across ring n x p q).rows z.terms ≡ []
      → (y : Vector) × IsVector ring (bidual_degrees n x (suc p) q) y
      × (combined_rows ring (bidual_across ring n x (suc p) q).rows y ≡ z)
  bidual_exact p (pos i) before z v none =
      exact_row i (n - suc p) (suc n - p) (omega arith) (suc n - suc p) (omega arith) _ _ z v none
  bidual_exact p (negsuc i) before z v none = nothing_from z (no_terms ring z v) [] []

  last_place : suc n - n ≡ 1
  last_place = omega arith

  augmentation_from : (q : ℤ) → IsFrom ring (set_degrees q) (augmentations q)
  augmentation_from (pos i) = record {
    ring_of = rings_at i 0;
    source_of = row_degrees-transposed (column_steps x i 0) ∙ ap (map neg_ℤ) (column-start i);
    matrix = IsMatrix-transposed (column_steps x i 0) (step-matrix ring maps x prime complex h i 0);
  }
  augmentation_from (negsuc i) = record { ring_of = refl; source_of = refl; matrix = tt }

  augmentation_target : (q : ℤ) → (augmentations q).target ≡ bidual_degrees n x n q
  augmentation_target (pos i) =
      ap (map neg_ℤ) (column_degrees-steps ring maps x prime complex h i 0)
      ∙ sym (ap (dual_degrees x i) last_place)
  augmentation_target (negsuc i) = refl

  pub map_from : (q : ℤ) → IsFrom ring (set_degrees q) (set_maps q)
  map_from (pos (suc i)) = record {
    ring_of = complex.rings i;
    source_of = row_degrees-transposed (maps i) ∙ ap (map neg_ℤ) (sym (complex.meet i).degrees);
    matrix = IsMatrix-transposed (maps i) (complex.matrices i);
  }
  map_from (pos zero) = record {
    ring_of = refl;
    source_of = row_degrees-zero_matrix ring (map neg_ℤ (row_degrees (maps zero))) [];
    matrix = IsMatrix-zero_matrix ring (map neg_ℤ (row_degrees (maps zero))) [];
  }
  map_from (negsuc i) = record { ring_of = refl; source_of = refl; matrix = tt }

  map_target : (q r : ℤ) → r ≡ q -ℤ pos 1 → (set_maps q).target ≡ set_degrees r
  map_target (pos (suc i)) r e = ap set_degrees (let lower : pos i ≡ r = omega (arith, ints) in lower)
  map_target (pos zero) r e = ap set_degrees (let lower : negsuc zero ≡ r = omega (arith, ints) in lower)
  map_target (negsuc i) r e = ap set_degrees (let lower : negsuc (suc i) ≡ r = omega (arith, ints) in lower)

  one_to_one : (q : ℤ) (v : Vector) → IsVector ring (set_degrees q) v
      → row_combination ring (augmentations q).rows v.terms ≡ [] → v.terms ≡ []
  one_to_one (pos i) v y none =
      let resolves = resolves_terms ring maps x prime complex h i in
      transposed_one_to_one ring prime.prime.above_one (row_degrees (maps i)) (column_steps x i) (rings_at i 0)
      (column-start i) resolves.onto resolves.exact v (record {
        coefficients = subst (λ q. IsVector q (row_degrees (transposed (column_steps x i 0))) v) (sym (rings_at i 0))
            (subst (λ ds. IsVector ring ds v) (sym (augmentation_from (pos i)).source_of) y);
        zero = ap (λ q. row_combination q (transposed (column_steps x i 0)).rows v.terms) (rings_at i 0) ∙ none;
      })
  one_to_one (negsuc i) v y none = no_terms ring v y

  onto : (q : ℤ) (z : Vector) → IsVector ring (bidual_degrees n x n q) z
      → row_combination ring (bidual_across ring n x n q).rows z.terms ≡ []
      → (m : Vector) × IsVector ring (set_degrees q) m × (combined_rows ring (augmentations q).rows m ≡ z)
  onto (pos i) z v none =
      let found =
      from_pair ring (transposed (column_steps x i 1)) (transposed (column_steps x i 0)) (rings_at i 1) (rings_at i 0)
      (pair_at i 0) z
      (subst (λ fs. IsVector ring fs z) (sym (across-source ring maps x prime complex h i 0))
      (subst (λ k. IsVector ring (dual_degrees x i k) z) last_place v))
      (subst (λ k. row_combination ring (dual_across ring x i (dual_degrees x i (suc n - (n - 1))) k).rows z.terms ≡ [])
      last_place none) in (
        found.0,
        subst (λ fs. IsVector ring fs found.0) (augmentation_from (pos i)).source_of found.1,
        found.2,
      )
  onto (negsuc i) z v none = nothing_from z (no_terms ring z v) [] []

  cycles : (q : ℤ) (m : Vector) → IsVector ring (set_degrees q) m
      → row_combination ring (bidual_across ring n x n q).rows (row_combination ring (augmentations q).rows m.terms)
      ≡ []
  cycles (pos i) m y =
      let a = transposed (column_steps x i 0) in
      let v : Vector = record { degree = m.degree; terms = row_combination ring a.rows m.terms } in
      let s : IsSyzygy (transposed (column_steps x i 1)) v = ((pair_at i 0).exact v).1 (record {
        coefficients = m;
        homogeneous = subst (λ q. IsVector q (row_degrees a) m) (sym (rings_at i 0))
            (subst (λ ds. IsVector ring ds m) (sym (augmentation_from (pos i)).source_of) y);
        value = λ k. record { degree = m.degree; terms = row_combination (rings_at i 0 k) a.rows m.terms };
      }) in
      ap (λ k. row_combination ring (dual_across ring x i (dual_degrees x i (suc n - (n - 1))) k).rows v.terms) last_place
      ∙ ap (λ q. row_combination q (transposed (column_steps x i 1)).rows v.terms) (sym (rings_at i 1))
      ∙ s.zero
  cycles (negsuc i) m y = row_combination-zeros ring positive [] (λ k. refl) (row_combination ring [] m.terms)

  -- the transposed square of horizontal maps and augmentations
  square : (i : ℕ)
      → matrix_product (transposed (column_steps x (suc i) 0)) (transposed (horizontal_step ring x i 0))
      ≡ matrix_product (transposed (maps i)) (transposed (column_steps x i 0))
  square i =
      let first : IsComposable (horizontal_step ring x i 0) (column_steps x (suc i) 0) = record {
        positive = positive;
        rings = sym (rings_at (suc i) 0);
        degrees = column_degrees-steps ring maps x prime complex h (suc i) 0;
      } in
      let last : IsComposable (column_steps x i 0) (maps i) = record {
        positive = subst (λ (q : Ring). 0 < q.modulus) (sym (rings_at i 0)) positive;
        rings = rings_at i 0 ∙ sym (complex.rings i);
        degrees = sym (column-start i);
      } in
      sym (transposed-matrix_product (horizontal_step ring x i 0) (column_steps x (suc i) 0) first
      (IsMatrix-horizontal ring maps x prime complex h i 0) (step-matrix ring maps x prime complex h (suc i) 0))
      ∙ ap transposed (sym (commute_augmentations ring maps x prime complex h i))
      ∙ transposed-matrix_product (column_steps x i 0) (maps i) last (step-matrix ring maps x prime complex h i 0)
      (complex.matrices i)

  passes : (q r : ℤ) → r ≡ q -ℤ pos 1 → (m : Vector) → IsVector ring (set_degrees q) m
      → row_combination ring (bidual_down ring n x n q).rows (row_combination ring (augmentations q).rows m.terms)
      ≡ row_combination ring (augmentations r).rows (row_combination ring (set_maps q).rows m.terms)
  passes (pos (suc i)) r e m y =
      let lower : r ≡ pos i = omega (arith, ints) in
      let a = transposed (column_steps x (suc i) 0) in
      let down = transposed (horizontal_step ring x i 0) in
      let next = transposed (column_steps x i 0) in
      ap (λ k. row_combination ring (dual_down ring x i k).rows (row_combination ring a.rows m.terms)) last_place
      ∙ sym (row_combination-matrix_product ring positive a down m.terms (rings_at (suc i) 0))
      ∙ (λ k. row_combination ring (square i k).rows m.terms)
      ∙ row_combination-matrix_product ring positive (transposed (maps i)) next m.terms (complex.rings i)
      ∙ (λ k. row_combination ring (augmentations (sym lower k)).rows
      (row_combination ring (transposed (maps i)).rows m.terms))
  passes (pos zero) r e m y =
      let lower : r ≡ negsuc zero = omega (arith, ints) in
      let nothing = dual_degrees x zero (suc n - n) in
      row_combination-zeros ring positive (to_nothing ring nothing).rows (row_at-zero_matrix ring nothing [])
      (row_combination ring (augmentations (pos zero)).rows m.terms)
      ∙ sym (row_combination-zeros ring positive [] (λ k. refl)
      (row_combination ring (set_maps (pos zero)).rows m.terms))
      ∙ (λ k. row_combination ring (augmentations (sym lower k)).rows
      (row_combination ring (set_maps (pos zero)).rows m.terms))
  passes (negsuc i) r e m y =
      let lower : r ≡ negsuc (suc i) = omega (arith, ints) in
      λ k. row_combination ring (augmentations (sym lower k)).rows (row_combination ring [] m.terms)

  pub augmented : IsAugmentedBy (bidual ring n x) n set_degrees augmentations set_maps
  augmented = record {
    columns = refl;
    free = λ p q. refl;
    exact = bidual_exact;
    augmentation_from = augmentation_from;
    augmentation_target = augmentation_target;
    map_from = map_from;
    map_target = map_target;
    one_to_one = one_to_one;
    onto = onto;
    cycles = cycles;
    passes = passes;
  }
