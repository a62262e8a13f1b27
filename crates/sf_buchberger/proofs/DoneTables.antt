-- Tables of the pairs that are done tell pairs that reduce to zero.
use Rattle.std.proofs.Common.{◌≡◌, ◌≢◌, ◌⊎◌, inl, inr, Bool, true, false, ℕ, ◌+◌, ◌<◌, ◌≤◌, List, [], ◌∷◌, ◌++◌, length, max, min, replicate, get_or, slice_set, refl, sym, ◌∙◌, ap, subst, arith}
use Rattle.std.proofs.Math.Seq.{get_or-append_seam}
use Rattle.std.proofs.lemmas.Bool.{cases_eq, cases_lt}
use Rattle.std.proofs.lemmas.List.{get_or-replicate, get_or-set_other, get_or-set_same, get_or_append_left, get_or_past, length-append, length-replicate, length-set}
use Rattle.sf_algebra.specs.Rings.{Ring, IsRing}
use Rattle.sf_algebra.specs.Vectors.{Place, Vector}
use Rattle.sf_groebner.specs.Criterion.{HaveLeadsAtOnePosition, IsPair, ReducesToZero}
use Rattle.sf_groebner.proofs.PairLoops.GrowingRows.{ReducesToZero-append, lead_at-append}
use Rattle.sf_groebner.proofs.PairTheorems.Buchberger.{ReducesToZero-chain, ReducesToZero-sym}
use Rattle.sf_buchberger.specs.DonePairs.{AreDone, IsChained, is_done, with_done, with_new_row}

-- an item that is set, or one as before
get_or-set : {X : Type 0} (xs : List X) (i j : ℕ) (y d : X)
    → (get_or (slice_set xs i y) j d ≡ get_or xs j d) ⊎ ((j ≡ i) × (get_or (slice_set xs i y) j d ≡ y))
get_or-set xs i j y d =
    elim (cases_eq j i) [
      | inr other ↦ inl (get_or-set_other xs i j y d other)
      | inl same ↦ elim (cases_lt i (length xs)) [
        | inl within ↦ inr (same, ap (λ k. get_or (slice_set xs i y) k d) same ∙ get_or-set_same xs i y d within)
        | inr past ↦ inl (get_or_past (slice_set xs i y) j d (omega (arith, past, same, length-set xs i y)) ∙ sym (get_or_past xs j d (omega (arith, past, same))))
      ]
    ]

-- no flag of a new row is raised
get_or-lowered : (n i : ℕ) → get_or (replicate n false) i false ≡ false
get_or-lowered n i =
    elim (cases_lt i n) [
      | inl within ↦ get_or-replicate n i false false within
      | inr past ↦ get_or_past (replicate n false) i false (omega (arith, past, length-replicate n false))
    ]

is_done-ordered : (flags : List (List Bool)) (i j : ℕ) → i < j → is_done flags i j ≡ get_or (get_or flags j []) i false
is_done-ordered flags i j h =
    let greater : max i j ≡ j = omega arith in
    let less : min i j ≡ i = omega arith in
    λ k. get_or (get_or flags (greater k) []) (less k) false

is_done-turned : (flags : List (List Bool)) (i j : ℕ) → is_done flags i j ≡ is_done flags j i
is_done-turned flags i j =
    let greater : max i j ≡ max j i = omega arith in
    let less : min i j ≡ min j i = omega arith in
    λ k. get_or (get_or flags (greater k) []) (less k) false

-- no rows, and no pairs
pub AreDone-start : (ring : Ring) → AreDone ring [] []
AreDone-start ring = record { size = refl; reduce = λ i j pair done. absurd (none j pair.later) }
  where
    none : (j : ℕ) → j < 0 → ⊥
    none j h = omega arith

module _ (ring : Ring) (positive : IsRing ring) (rows : List Vector) (flags : List (List Bool))
    (h : AreDone ring rows flags) where
  -- a further row, no pair of which is done
  pub AreDone-row : (v : Vector) → AreDone ring (rows ++ v ∷ []) (with_new_row flags)
  AreDone-row v = record {
    size = length-append flags (replicate (length flags) false ∷ []) ∙ ap (λ n. n + 1) h.size ∙ sym (length-append rows (v ∷ []));
    reduce = reduces;
  }
    where
      lowered : List Bool
      lowered = replicate (length flags) false

      clash : (b : Bool) → b ≡ true → b ≡ false → ⊥
      clash b e f = cc

      reduces : (i j : ℕ) → IsPair (rows ++ v ∷ []) i j → is_done (with_new_row flags) i j ≡ true
          → ReducesToZero ring (rows ++ v ∷ []) i j
      reduces i j pair done =
          let ordered = sym (is_done-ordered (with_new_row flags) i j pair.earlier) ∙ done in
          elim (cases_lt j (length rows)) [
            | inl old ↦
                let i_in : i < length rows = omega (arith, pair.earlier, old) in
                let within : j < length flags = omega (arith, old, h.size) in
                let before = sym (ap (λ fs. get_or fs i false) (get_or_append_left flags (lowered ∷ []) [] j within)) ∙ ordered in
                let positions : HaveLeadsAtOnePosition rows i j =
                sym (ap (λ (k : Place). k.position) (lead_at-append rows (v ∷ []) i i_in))
                ∙ pair.positions
                ∙ ap (λ (k : Place). k.position) (lead_at-append rows (v ∷ []) j old) in
                ReducesToZero-append rows (v ∷ []) ring positive i j i_in old
                (h.reduce i j (record { earlier = pair.earlier; later = old; positions = positions })
                (is_done-ordered flags i j pair.earlier ∙ before))
            | inr new ↦
                let last : j ≡ length flags = omega (arith, pair.later, length-append rows (v ∷ []), h.size, new) in
                absurd
                (clash (get_or (get_or (with_new_row flags) j []) i false) ordered
                (ap (λ n. get_or (get_or (with_new_row flags) n []) i false) last
                ∙ ap (λ fs. get_or fs i false) (get_or-append_seam flags lowered [] [])
                ∙ get_or-lowered (length flags) i))
          ]

  -- a further pair that reduces to zero
  pub AreDone-pair : (i j : ℕ) → ReducesToZero ring rows i j → AreDone ring rows (with_done flags i j)
  AreDone-pair i j r = record {
    size = length-set flags j (slice_set (get_or flags j []) i true) ∙ h.size;
    reduce = reduces;
  }
    where
      raised : List Bool
      raised = slice_set (get_or flags j []) i true

      reduces : (k l : ℕ) → IsPair rows k l → is_done (with_done flags i j) k l ≡ true → ReducesToZero ring rows k l
      reduces k l pair done =
          let ordered = sym (is_done-ordered (with_done flags i j) k l pair.earlier) ∙ done in
          let before = is_done-ordered flags k l pair.earlier in
          elim (get_or-set flags j l raised []) [
            | inl same ↦ h.reduce k l pair (before ∙ sym (ap (λ fs. get_or fs k false) same) ∙ ordered)
            | inr here ↦ elim (get_or-set (get_or flags j []) i k true false) [
              | inl same ↦
                  h.reduce k l pair
                  (before
                  ∙ ap (λ n. get_or (get_or flags n []) k false) here.0
                  ∙ sym same
                  ∙ sym (ap (λ fs. get_or fs k false) here.1)
                  ∙ ordered)
              | inr both ↦ subst (λ n. ReducesToZero ring rows k n) (sym here.0) (subst (λ n. ReducesToZero ring rows n j) (sym both.0) r)
            ]
          ]

  -- a done pair of different rows, in either order
  reduces_either : (i j : ℕ) → i < length rows → j < length rows → i ≢ j → HaveLeadsAtOnePosition rows i j
      → is_done flags i j ≡ true → ReducesToZero ring rows i j
  reduces_either i j i_in j_in different positions done =
      elim (cases_lt i j) [
        | inl earlier ↦ h.reduce i j (record { earlier = earlier; later = j_in; positions = positions }) done
        | inr not_earlier ↦
            ReducesToZero-sym ring positive rows j i (sym positions)
            (h.reduce j i (record { earlier = strict j i not_earlier (λ e. different (sym e)); later = i_in; positions = sym positions })
            (is_done-turned flags j i ∙ done))
      ]
    where
      strict : (m n : ℕ) → m ≤ n → m ≢ n → m < n
      strict m n le ne = omega arith

  -- the chain criterion
  pub IsChained-reduces : (i j : ℕ) → IsPair rows i j → IsChained rows flags i j → ReducesToZero ring rows i j
  IsChained-reduces i j pair chained =
      let k = chained.0 in
      let k_in = chained.1 in
      let divides = chained.2.0 in
      let first = chained.2.1 in
      let second = chained.2.2 in
      let i_in : i < length rows = omega (arith, pair.earlier, pair.later) in
      elim (cases_eq i k) [
        | inl same ↦ h.reduce i j pair (ap (λ n. is_done flags n j) same ∙ second)
        | inr i_not ↦ elim (cases_eq k j) [
          | inl same ↦ h.reduce i j pair (ap (λ n. is_done flags i n) (sym same) ∙ first)
          | inr j_not ↦
              ReducesToZero-chain ring positive rows i k j pair.positions divides
              (reduces_either i k i_in k_in i_not (sym divides.0) first)
              (reduces_either k j k_in pair.later j_not (divides.0 ∙ pair.positions) second)
        ]
      ]
