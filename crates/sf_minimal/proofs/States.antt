-- What the pivots say of the rows and pairs that were entered.
use Rattle.std.proofs.Common.{◌≡◌, Bool, ◌||◌, replicate, inl, inr, ◌⊎◌, ⊎_elim, ℕ, zero, suc, ◌+◌, ◌<◌, ◌≤◌, List, [], ◌∷◌, ◌++◌, append-nil, length, refl, sym, ◌∙◌, ap, subst, arith, ℤ, pos}
use Rattle.std.proofs.lemmas.Bool.{cases_lt, or_parts}
use Rattle.std.proofs.lemmas.List.{length-append, length-map, length-replicate, map-append}
use Rattle.std.proofs.lemmas.List.Folds.{list_any-append}
use Rattle.std.specs.List.{AllByRecursion, list_any}
use Rattle.sf_algebra.specs.Matrices.{Matrix, IsMatrix, degrees_of}
use Rattle.sf_algebra.specs.MatrixOperations.{row_combination}
use Rattle.sf_algebra.specs.Rings.{IsRing, Ring}
use Rattle.sf_algebra.specs.Sums.{normal}
use Rattle.sf_algebra.specs.Terms.{Term}
use Rattle.sf_algebra.specs.Vectors.{IsHomogeneous, IsVector, Place, Vector, place_cmp}
use Rattle.sf_algebra.proofs.Basics.Lists.{AllByRecursion-append, AllByRecursion-weaken}
use Rattle.sf_algebra.proofs.Terms.Negatives.{negative_one_term}
use Rattle.sf_algebra.proofs.Vectors.RowSums.{row_sum-nil_first}
use Rattle.sf_algebra.proofs.Vectors.Rows.{IsCanonical-row_combination}
use Rattle.sf_algebra.proofs.Vectors.StackedRows.{row_combination-stacked_first}
use Rattle.sf_groebner.specs.Criterion.{HaveLeadsAtOnePosition, IsForRows, IsPair, lead_at, lead_place, s_coefficients, s_vector}
use Rattle.sf_groebner.specs.Divisions.{IsDivided}
use Rattle.sf_groebner.specs.Leads.{place_divides}
use Rattle.sf_groebner.specs.ReducedBases.{IsMonic, IsSpanBasis}
use Rattle.sf_groebner.specs.Spans.{InSpan}
use Rattle.sf_groebner.proofs.Constructions.LeadDivisors.{lead_places}
use Rattle.sf_groebner.proofs.PairTheorems.Kernels.{row_combination-difference}
use Rattle.sf_groebner.proofs.PairTheorems.Multiplied.{EachPlace-products}
use Rattle.sf_groebner.proofs.PairTheorems.Schreyer.{IsSpanned, IsSpanned-module, IsSpanned-row}
use Rattle.sf_groebner.proofs.PairTheorems.SyzygySpans.{InSpan-IsSpanned}
use Rattle.sf_matrix.specs.KeptNumbers.{vector_at}
use Rattle.sf_minimal.specs.Constants.{StandWithin, constants}
use Rattle.sf_minimal.specs.Numbers.{pivot_place}
use Rattle.sf_minimal.specs.Pivots.{ArePivots, IsEntered, constant_row}
use Rattle.sf_minimal.specs.Steps.{IsFilled, IsPairStep, IsPassedOver, IsRowStep, IsStep, NeedsNoStep, constant_terms, pair_degree}
use Rattle.sf_minimal.proofs.Complete.{IsDone}
use Rattle.sf_minimal.proofs.ConstantParts.{IsConstantPart, IsRelation, constant_part-module, constants-part}
use Rattle.sf_minimal.proofs.ConstantTerms.{not_constant-product}
use Rattle.sf_minimal.proofs.Differences.{minus}
use Rattle.sf_minimal.proofs.Modules.{from_normal, has_combination, to_normal}
use Rattle.sf_minimal.proofs.ProperPairs.{proper_pairs}
use Rattle.sf_minimal.proofs.VectorRows.{AllByRecursion-vector_at, row_at-vector_at}

-- the pivots span the constant terms
abbrev pub HasAllSpanned : Matrix → List Vector → List (Term Place) → Type 0
HasAllSpanned m pivots c = IsSpanned m.ring pivots (constants (length m.rows) c)

-- terms of degree d are done: so it is with their quotients, or each row of degree d has a pivot
abbrev pub IsFinished : Matrix → List Vector → ℤ → List (Term Place) → Type 0
IsFinished m pivots d terms = IsDone m (HasAllSpanned m pivots) d terms ⊎ IsFilled m pivots d

abbrev pub IsFinishedRow : Matrix → List Vector → Vector → Type 0
IsFinishedRow m pivots v = IsFinished m pivots v.degree v.terms

-- a pair is done, or passed over
abbrev pub IsFinishedPair : Matrix → List Vector → ℕ → ℕ → Type 0
IsFinishedPair m pivots i j = IsFinished m pivots (pair_degree m i j) (s_vector m.ring m.rows i j) ⊎ IsPassedOver m.rows i j

-- the pair of rows l and k comes before that of i and j
abbrev pub IsEarlier : ℕ → ℕ → ℕ → ℕ → Type 0
IsEarlier l k i j = (k < j) ⊎ ((k ≡ j) × (l < i))

-- the first b rows of the other matrix, and all pairs before that of i and j, are done
pub record IsState (m base : Matrix) (positive : IsRing m.ring) (pivots : Matrix) (b j i : ℕ) : Type 0 where
  pub are_pivots : ArePivots pivots
  pub ring : pivots.ring ≡ m.ring
  pub columns : length pivots.target ≡ length m.rows
  pub sound : AllByRecursion (λ (v : Vector). IsConstantPart m positive base.rows v.terms) pivots.rows
  pub rows : (l : ℕ) → l < b → IsFinishedRow m pivots.rows (vector_at base.rows l)
  pub pairs : (l k : ℕ) → IsPair m.rows l k → IsEarlier l k i j → IsFinishedPair m pivots.rows l k

-- what some rows span, more of them span
pub IsSpanned-more : (ring : Ring) → IsRing ring → (rows more : List Vector) (c : List (Term Place)) → IsSpanned ring rows c
    → IsSpanned ring (rows ++ more) c
IsSpanned-more ring positive rows more c h = record {
  coefficients = h.coefficients;
  for_rows = AllByRecursion-weaken (IsForRows rows) (IsForRows (rows ++ more)) (λ t k. longer t.at.position k) h.coefficients h.for_rows;
  value = row_combination-stacked_first ring positive.modulus rows more h.coefficients h.for_rows ∙ h.value;
}
  where
    longer : (i : ℕ) → i < length rows → i < length (rows ++ more)
    longer i k = let size = length-append rows more in omega (arith, size)

-- no pair is before the first one
none_earlier : (l k : ℕ) → IsEarlier l k 0 0 → ⊥
none_earlier l k (inl e) = omega arith
none_earlier l k (inr e) = omega (arith, e.1)

-- the pairs before the next one: those before this one, and it
last_pair : (l k i j : ℕ) → IsEarlier l k (i + 1) j → IsEarlier l k i j ⊎ ((l ≡ i) × (k ≡ j))
last_pair l k i j (inl e) = inl (inl e)
last_pair l k i j (inr e) =
    ⊎_elim (λ (before : l < i). inl (inr (e.0, before)))
    (λ (not_before : i ≤ l). let same : l ≡ i = omega (arith, e.1, not_before) in inr (same, e.0)) (cases_lt l i)

last_row : (l b : ℕ) → l < b + 1 → (l < b) ⊎ (b ≡ l)
last_row l b below =
    ⊎_elim (λ (before : l < b). inl before) (λ (not_before : b ≤ l). inr (omega (arith, below, not_before))) (cases_lt l b)

-- what holds of the pair i and j
at_pair : (P : ℕ → ℕ → Type 0) (l k i j : ℕ) → (l ≡ i) × (k ≡ j) → P i j → P l k
at_pair P l k i j same h = subst (λ x. P x k) (sym same.0) (subst (P i) (sym same.1) h)

module _ (m base : Matrix) (positive : IsRing m.ring) where
  pub step-within : (d : ℤ) (steps : List (Term Place)) → IsHomogeneous m.ring.weights (degrees_of m.rows) d steps
      → StandWithin (length m.rows) steps
  step-within d steps h = AllByRecursion-weaken _ _ (λ t k. within t.at.position k.0) steps h
    where
      within : (i : ℕ) → i < length (degrees_of m.rows) → i < length m.rows
      within i k = simp length-map at k

  part-normal : (c : List (Term Place)) → IsConstantPart m positive base.rows c
      → IsConstantPart m positive base.rows (normal (place_cmp m.ring.weights) m.ring.modulus c)
  part-normal = to_normal m.ring positive (IsConstantPart m positive base.rows) (constant_part-module m positive base.rows)

  pub step-value : (d : ℤ) (terms steps : List (Term Place)) → IsDivided m.ring m.target m.rows d terms [] steps
      → row_combination m.ring m.rows steps ≡ terms
  step-value d terms steps h =
      sym (row_sum-nil_first m.ring positive.modulus _ (IsCanonical-row_combination m.ring positive.modulus m.rows steps)) ∙ h.sum

  module _ (old new : Matrix) (old_ring : old.ring ≡ m.ring) (c : List (Term Place)) (entered : IsEntered old new c) where
    spanned-new : (d : List (Term Place)) → IsSpanned m.ring old.rows d → IsSpanned m.ring new.rows d
    spanned-new d h =
        subst (λ (rows : List Vector). IsSpanned m.ring rows d) (sym entered.rows)
        (IsSpanned-more m.ring positive old.rows entered.more d h)

    -- a row that has a pivot keeps it
    filled-new : (d : ℤ) → IsFilled m old.rows d → IsFilled m new.rows d
    filled-new d h free = h (free.0, free.1, free.2, (or_parts _ _ (sym appended ∙ free.3)).0)
      where
        stands : Place → Bool
        stands k = place_divides k (pivot_place (length m.rows) free.0)

        appended : list_any stands (lead_places new.rows) ≡ (list_any stands (lead_places old.rows) || list_any stands (lead_places entered.more))
        appended =
            ap (λ rows. list_any stands (lead_places rows)) entered.rows
            ∙ ap (list_any stands) (map-append (λ (v : Vector). lead_place v.terms) old.rows entered.more)
            ∙ list_any-append stands (lead_places old.rows) (lead_places entered.more)

    finished-new : (d : ℤ) (terms : List (Term Place)) → IsFinished m old.rows d terms → IsFinished m new.rows d terms
    finished-new d terms h =
        ⊎_elim
        (λ (done : IsDone m (HasAllSpanned m old.rows) d terms).
        inl (record { steps = done.steps; divided = done.divided; inside = spanned-new _ done.inside }))
        (λ (filled : IsFilled m old.rows d). inr (filled-new d filled)) h

    sound-new : AllByRecursion (λ (v : Vector). IsConstantPart m positive base.rows v.terms) old.rows
        → IsConstantPart m positive base.rows c
        → AllByRecursion (λ (v : Vector). IsConstantPart m positive base.rows v.terms) new.rows
    sound-new h part =
        subst (AllByRecursion (λ (v : Vector). IsConstantPart m positive base.rows v.terms)) (sym entered.rows)
        (AllByRecursion-append (λ (v : Vector). IsConstantPart m positive base.rows v.terms) old.rows entered.more h
        (AllByRecursion-weaken _ _ (λ v k. made v.terms (subst (λ (r : Ring). IsSpanned r (old.rows ++ constant_row c ∷ []) v.terms) old_ring k)) entered.more entered.made))
      where
        made : (ts : List (Term Place)) → IsSpanned m.ring (old.rows ++ constant_row c ∷ []) ts → IsConstantPart m positive base.rows ts
        made ts k =
            from_normal m.ring positive (IsConstantPart m positive base.rows) (constant_part-module m positive base.rows) ts
            (subst (IsConstantPart m positive base.rows) k.value
            (has_combination m.ring positive (IsConstantPart m positive base.rows) (constant_part-module m positive base.rows) (old.rows ++ constant_row c ∷ [])
            (AllByRecursion-append (λ (v : Vector). IsConstantPart m positive base.rows v.terms) old.rows (constant_row c ∷ []) h (part, tt)) k.coefficients))

  step-done : (old new : Matrix) → old.ring ≡ m.ring → (d : ℤ) (terms : List (Term Place)) (h : IsStep m old new d terms)
      → IsDone m (HasAllSpanned m new.rows) d terms
  step-done old new rings d terms h = record {
    steps = h.steps;
    divided = h.divided;
    inside = from_normal m.ring positive (IsSpanned m.ring new.rows) (IsSpanned-module m.ring positive new.rows) _
        (subst (λ (r : Ring). IsSpanned r new.rows (constant_terms m h.steps)) rings h.entered.spanned);
  }

  -- one row more
  pub IsState-row : (old new : Matrix) (b : ℕ) → IsState m base positive old b 0 0 → b < length base.rows
      → IsRowStep m old new (vector_at base.rows b) → IsState m base positive new (b + 1) 0 0
  IsState-row old new b state within (inl h) = record {
    are_pivots = h.entered.pivots;
    ring = h.entered.ring ∙ state.ring;
    columns = ap length h.entered.target ∙ state.columns;
    sound = sound-new old new state.ring _ h.entered state.sound part;
    rows = λ l below. ⊎_elim
        (λ (before : l < b). finished-new old new state.ring _ h.entered _ _ (state.rows l before))
        (λ (same : b ≡ l).
        subst (λ k. IsFinishedRow m new.rows (vector_at base.rows k)) same (inl (step-done old new state.ring _ _ h)))
        (last_row l b below);
    pairs = λ l k pair earlier. absurd (none_earlier l k earlier);
  }
    where
      relation : IsRelation m positive base.rows (h.steps ++ [])
      relation =
          subst (IsSpanned m.ring base.rows)
          (row_at-vector_at base.rows b ∙ sym (step-value _ _ h.steps h.divided) ∙ ap (row_combination m.ring m.rows) (sym (append-nil h.steps)))
          (IsSpanned-row m.ring positive base.rows b within)

      part : IsConstantPart m positive base.rows (constant_terms m h.steps)
      part =
          part-normal (constants (length m.rows) h.steps)
          (constants-part m positive base.rows h.steps [] (step-within _ h.steps h.divided.homogeneous) tt tt relation)
  IsState-row old new b state within (inr h) =
      subst (λ (x : Matrix). IsState m base positive x (b + 1) 0 0) (sym h.1)
      (record {
        are_pivots = state.are_pivots;
        ring = state.ring;
        columns = state.columns;
        sound = state.sound;
        rows = λ l below. ⊎_elim (λ (before : l < b). state.rows l before)
            (λ (same : b ≡ l). subst (λ k. IsFinishedRow m old.rows (vector_at base.rows k)) same (inr h.0))
            (last_row l b below);
        pairs = λ l k pair earlier. absurd (none_earlier l k earlier);
      })

  module _ (monic : AllByRecursion (λ (v : Vector). IsMonic v.terms) m.rows) (reduced : IsSpanBasis m m.rows) where
    -- the constants of an S-vector's quotients
    pair_part : (i j : ℕ) → IsPair m.rows i j → (d : ℤ) (steps : List (Term Place))
        → IsDivided m.ring m.target m.rows d (s_vector m.ring m.rows i j) [] steps
        → IsConstantPart m positive base.rows (constant_terms m steps)
    pair_part i j pair d steps divided =
        let terms = s_coefficients m.ring.modulus (lead_at m.rows) i j in
        let first : i < length m.rows = omega (arith, pair.earlier, pair.later) in
        let proper = proper_pairs m.rows monic reduced.apart i j pair in
        let zero = row_combination-difference m.ring positive m.rows steps terms (step-value d _ steps divided) in
        part-normal (constants (length m.rows) steps)
        (constants-part m positive base.rows steps (minus m.ring positive terms)
        (step-within d steps divided.homogeneous)
        (EachPlace-products (λ k. k.position < length m.rows) (λ k. k.position < length m.rows) m.ring.modulus (negative_one_term m.ring.modulus) (λ k e. e) terms (first, (pair.later, tt)))
        (not_constant-product m.ring.modulus (negative_one_term m.ring.modulus) terms (proper.0, (proper.1.0, tt)))
        (subst (IsSpanned m.ring base.rows) (sym zero) (IsSpanned-module m.ring positive base.rows).has_none))

    -- one pair more
    pub IsState-pair : (old new : Matrix) (b i j : ℕ) → IsState m base positive old b j i → i < j → j < length m.rows
        → IsPairStep m i j old new → IsState m base positive new b j (i + 1)
    IsState-pair old new b i j state earlier later (inl h) =
        let pair : IsPair m.rows i j = record { earlier = earlier; later = later; positions = h.0 } in
        let step = h.1 in
        record {
          are_pivots = step.entered.pivots;
          ring = step.entered.ring ∙ state.ring;
          columns = ap length step.entered.target ∙ state.columns;
          sound = sound-new old new state.ring _ step.entered state.sound (pair_part i j pair _ step.steps step.divided);
          rows = λ l below. finished-new old new state.ring _ step.entered _ _ (state.rows l below);
          pairs = λ l k other e. ⊎_elim
              (λ (before : IsEarlier l k i j).
              ⊎_elim
              (λ (finished : IsFinished m old.rows (pair_degree m l k) (s_vector m.ring m.rows l k)).
              inl (finished-new old new state.ring _ step.entered _ _ finished))
              (λ (passed : IsPassedOver m.rows l k). inr passed) (state.pairs l k other before))
              (λ (same : (l ≡ i) × (k ≡ j)).
              at_pair (IsFinishedPair m new.rows) l k i j same (inl (inl (step-done old new state.ring _ _ step))))
              (last_pair l k i j e);
        }
    IsState-pair old new b i j state earlier later (inr h) =
        subst (λ (x : Matrix). IsState m base positive x b j (i + 1)) (sym h.1)
        (record {
          are_pivots = state.are_pivots;
          ring = state.ring;
          columns = state.columns;
          sound = state.sound;
          rows = state.rows;
          pairs = λ l k other e. ⊎_elim (λ (before : IsEarlier l k i j). state.pairs l k other before)
              (λ (same : (l ≡ i) × (k ≡ j)).
              at_pair (λ x y. HaveLeadsAtOnePosition m.rows x y → IsFinishedPair m old.rows x y) l k i j same
              (λ positions. not_needed positions h.0) other.positions)
              (last_pair l k i j e);
        })
      where
        not_needed : HaveLeadsAtOnePosition m.rows i j → NeedsNoStep m i j old.rows → IsFinishedPair m old.rows i j
        not_needed positions (inl none) = absurd (none positions)
        not_needed positions (inr (inl passed)) = inr passed
        not_needed positions (inr (inr filled)) = inl (inr filled)

    -- all pairs with row j
    pub IsState-next : (pivots : Matrix) (b j : ℕ) → IsState m base positive pivots b j j → IsState m base positive pivots b (j + 1) 0
    IsState-next pivots b j state = record {
      are_pivots = state.are_pivots;
      ring = state.ring;
      columns = state.columns;
      sound = state.sound;
      rows = state.rows;
      pairs = λ l k pair e. state.pairs l k pair (before l k pair.earlier e);
    }
      where
        before : (l k : ℕ) → l < k → IsEarlier l k 0 (j + 1) → IsEarlier l k j j
        before l k less (inl e) =
            ⊎_elim (λ (near : k < j). inl near)
            (λ (not_near : j ≤ k). let same : k ≡ j = omega (arith, e, not_near) in inr (same, omega (arith, less, same))) (cases_lt k j)
        before l k less (inr e) = absurd (omega (arith, e.1))

    -- at the beginning there are no pivots
    pub IsState-start : (pivots : Matrix)
        → pivots ≡ record { ring = m.ring; target = replicate (length m.rows) (pos 0); rows = [] }
        → IsState m base positive pivots 0 0 0
    IsState-start pivots e =
        subst (λ (x : Matrix). IsState m base positive x 0 0 0) (sym e)
        (record {
          are_pivots = record {
            target = zeros (length m.rows);
            degrees = tt;
            monic = tt;
            apart = λ i j pair. let later = pair.later in absurd (omega (arith, later));
          };
          ring = refl;
          columns = length-replicate (length m.rows) (pos 0);
          sound = tt;
          rows = λ l below. absurd (omega (arith, below));
          pairs = λ l k pair earlier. absurd (none_earlier l k earlier);
        })
      where
        zeros : (n : ℕ) → AllByRecursion (λ (d : ℤ). d ≡ pos 0) (replicate n (pos 0))
        zeros zero = tt
        zeros (suc n) = (refl, zeros n)

-- a row is in the span
pub vector-inside : (base : Matrix) → IsRing base.ring → IsMatrix base → (i : ℕ) → i < length base.rows
    → InSpan base (vector_at base.rows i)
vector-inside base positive matrix i within =
    InSpan-IsSpanned base positive matrix (vector_at base.rows i) (AllByRecursion-vector_at (IsVector base.ring base.target) base.rows matrix i within)
    (subst (IsSpanned base.ring base.rows) (row_at-vector_at base.rows i)
    (IsSpanned-row base.ring positive base.rows i within))
