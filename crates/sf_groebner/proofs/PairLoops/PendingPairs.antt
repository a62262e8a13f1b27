-- What a loop over pairs keeps: each pair of rows waits in a list, or reduces to zero.
use Rattle.std.proofs.Common.{◌≡◌, ◌≢◌, ◌⊎◌, ⊎_elim, inl, inr, ℕ, zero, suc, ◌+◌, ◌<◌, ◌≤◌, List, [], ◌∷◌, ◌++◌, length, sym, ◌∙◌, ap, subst, arith, length-append}
use Rattle.std.proofs.lemmas.Bool.{cases_lt}
use Rattle.sf_algebra.specs.Rings.{Ring, IsRing}
use Rattle.sf_algebra.specs.Vectors.{Vector}
use Rattle.sf_groebner.specs.Criterion.{HaveLeadsAtOnePosition, ReducesToZero, lcm_place, lead_at, HasReducingPairs, IsPair}
use Rattle.sf_groebner.specs.Leads.{PlaceDivides}
use Rattle.sf_groebner.proofs.Basics.Items.{IsItem}
use Rattle.sf_groebner.proofs.PairLoops.GrowingRows.{ReducesToZero-append, lead_at-append}
use Rattle.sf_groebner.proofs.PairTheorems.Buchberger.{ReducesToZero-chain, ReducesToZero-sym}

-- an item of two lists one after the other
pub IsItem-append : {X : Type 0} (x : X) (xs ys : List X) → IsItem x (xs ++ ys) → IsItem x xs ⊎ IsItem x ys
IsItem-append x [] ys item = inr item
IsItem-append x (z ∷ zs) ys (inl same) = inl (inl same)
IsItem-append x (z ∷ zs) ys (inr item) =
    ⊎_elim (λ (first : IsItem x zs). inl (inr first)) (λ (second : IsItem x ys). inr second)
    (IsItem-append x zs ys item)

pub IsItem-append_first : {X : Type 0} (x : X) (xs ys : List X) → IsItem x xs → IsItem x (xs ++ ys)
IsItem-append_first x [] ys item = absurd item
IsItem-append_first x (z ∷ zs) ys (inl same) = inl same
IsItem-append_first x (z ∷ zs) ys (inr item) = inr (IsItem-append_first x zs ys item)

pub IsItem-append_second : {X : Type 0} (x : X) (xs ys : List X) → IsItem x ys → IsItem x (xs ++ ys)
IsItem-append_second x [] ys item = item
IsItem-append_second x (z ∷ zs) ys item = inr (IsItem-append_second x zs ys item)

-- the pair (i, j) is in the list
abbrev pub IsWaiting : ℕ → ℕ → List (ℕ × ℕ) → Type 0
IsWaiting i j pending = IsItem {X = ℕ × ℕ} (i, j) pending

-- each pair of rows waits, or reduces to zero
abbrev pub IsPending : Ring → List Vector → List (ℕ × ℕ) → Type 0
IsPending ring rows pending = (i j : ℕ) → IsPair rows i j → IsWaiting i j pending ⊎ ReducesToZero ring rows i j

-- the pairs of the rows before k with row n
abbrev pub pairs_before : ℕ → ℕ → List (ℕ × ℕ)
pairs_before zero n = []
pairs_before (suc k) n = pairs_before k n ++ (k, n) ∷ []

pub IsItem-pairs_before : (k n i : ℕ) → i < k → IsWaiting i n (pairs_before k n)
IsItem-pairs_before zero n i h = absurd (omega arith)
IsItem-pairs_before (suc k) n i h =
    elim (cases_lt i k) [
      | inl before ↦ IsItem-append_first (i, n) (pairs_before k n) ((k, n) ∷ []) (IsItem-pairs_before k n i before)
      | inr last ↦ let same : i ≡ k =
          omega arith in IsItem-append_second (i, n) (pairs_before k n) ((k, n) ∷ []) (inl (λ m. (same m, n)))
    ]

module _ (ring : Ring) (positive : IsRing ring) (rows : List Vector) where
  -- where no pair waits, all reduce to zero
  pub IsPending-end : IsPending ring rows [] → HasReducingPairs ring rows
  IsPending-end h i j pair = ⊎_elim (λ (item : ⊥). absurd item) (λ (r : ReducesToZero ring rows i j). r) (h i j pair)

  -- pairs that reduce to zero need not wait
  pub IsPending-fewer : (pending left : List (ℕ × ℕ))
      → ((i j : ℕ) → IsPair rows i j → IsWaiting i j pending → IsWaiting i j left ⊎ ReducesToZero ring rows i j)
      → IsPending ring rows pending → IsPending ring rows left
  IsPending-fewer pending left f h i j pair =
      ⊎_elim (f i j pair) (λ (r : ReducesToZero ring rows i j). inr r) (h i j pair)

  -- the last pair of the list reduces to zero
  pub IsPending-pop : (left : List (ℕ × ℕ)) (i j : ℕ) → IsPending ring rows (left ++ (i, j) ∷ [])
      → ReducesToZero ring rows i j → IsPending ring rows left
  IsPending-pop left i j h r =
      IsPending-fewer (left ++ (i, j) ∷ []) left
      (λ k l pair item.
      ⊎_elim (λ (first : IsWaiting k l left). inl first)
      (λ (second : IsWaiting k l ((i, j) ∷ [])). inr (of_pair k l second))
      (IsItem-append (k, l) left ((i, j) ∷ []) item))
      h
    where
      of_pair : (k l : ℕ) → IsWaiting k l ((i, j) ∷ []) → ReducesToZero ring rows k l
      of_pair k l (inl same) = subst (λ x. ReducesToZero ring rows x.0 x.1) (sym same) r
      of_pair k l (inr none) = absurd none

  -- a new row, with which all pairs wait
  pub IsPending-new_row : (pending : List (ℕ × ℕ)) (v : Vector) → IsPending ring rows pending
      → IsPending ring (rows ++ v ∷ []) (pending ++ pairs_before (length rows) (length rows))
  IsPending-new_row pending v h i j pair =
      elim (cases_lt j (length rows)) [
        | inl old ↦
            let i_in : i < length rows = omega (arith, pair.earlier) in
            let positions : HaveLeadsAtOnePosition rows i j = sym (ap (λ k. k.position) (lead_at-append rows (v ∷ []) i i_in)) ∙ pair.positions ∙ ap (λ k. k.position) (lead_at-append rows (v ∷ []) j old) in
            ⊎_elim
            (λ (item : IsWaiting i j pending). inl (IsItem-append_first (i, j) pending _ item))
            (λ (r : ReducesToZero ring rows i j). inr (ReducesToZero-append rows (v ∷ []) ring positive i j i_in old r))
            (h i j (record { earlier = pair.earlier; later = old; positions = positions }))
        | inr new ↦
            let size : length (rows ++ v ∷ []) ≡ length rows + 1 = length-append rows (v ∷ []) in
            let last : j ≡ length rows = omega (arith, pair.later, size) in
            inl
            (IsItem-append_second (i, j) pending (pairs_before (length rows) (length rows))
            (subst (λ n. IsWaiting i n (pairs_before (length rows) (length rows))) (sym last) (IsItem-pairs_before (length rows) (length rows) i (omega (arith, pair.earlier)))))
      ]

  -- two rows that do not wait, in neither order
  pub reduces_unless_pending : (pending : List (ℕ × ℕ)) → IsPending ring rows pending → (i j : ℕ) → i < length rows
      → j < length rows → i ≢ j → HaveLeadsAtOnePosition rows i j
      → (IsWaiting i j pending → ⊥) → (IsWaiting j i pending → ⊥) → ReducesToZero ring rows i j
  reduces_unless_pending pending h i j i_in j_in different positions not_first not_second =
      elim (cases_lt i j) [
        | inl earlier ↦ ⊎_elim (λ (item : IsWaiting i j pending). absurd (not_first item))
            (λ (r : ReducesToZero ring rows i j). r)
            (h i j (record { earlier = earlier; later = j_in; positions = positions }))
        | inr not_earlier ↦
            ReducesToZero-sym ring positive rows j i (sym positions)
            (⊎_elim (λ (item : IsWaiting j i pending). absurd (not_second item)) (λ (r : ReducesToZero ring rows j i). r)
            (h j i (record { earlier = strict j i not_earlier (λ e. different (sym e)); later = i_in; positions = sym positions })))
      ]
    where
      strict : (m n : ℕ) → m ≤ n → m ≢ n → m < n
      strict m n le ne = omega arith

  -- the chain criterion: the last pair may be dropped where the lead of a row divides its least common multiple, and
  -- its pairs with that row do not wait
  pub IsPending-chain : (left : List (ℕ × ℕ)) (i j k : ℕ) → IsPending ring rows (left ++ (i, k) ∷ []) → IsPair rows i k
      → j < length rows → PlaceDivides (lead_at rows j) (lcm_place (lead_at rows) i k)
      → i ≢ j → j ≢ k → (IsWaiting i j left → ⊥) → (IsWaiting j i left → ⊥) → (IsWaiting j k left → ⊥)
      → (IsWaiting k j left → ⊥) → IsPending ring rows left
  IsPending-chain left i j k h pair j_in divides i_not j_not ij ji jk kj =
      IsPending-pop left i k h
      (ReducesToZero-chain ring positive rows i j k pair.positions divides
      (reduces_unless_pending (left ++ (i, k) ∷ []) h i j i_in j_in i_not (sym divides.0)
      (λ item. not_item i j (λ e f. j_not f) ij item) (λ item. not_item j i (λ e f. i_not (sym e)) ji item))
      (reduces_unless_pending (left ++ (i, k) ∷ []) h j k j_in pair.later j_not (divides.0 ∙ pair.positions)
      (λ item. not_item j k (λ e f. i_not (sym e)) jk item) (λ item. not_item k j (λ e f. j_not f) kj item)))
    where
      i_in : i < length rows
      i_in = omega (arith, pair.earlier, pair.later)

      not_item : (m n : ℕ) → (m ≡ i → n ≡ k → ⊥) → (IsWaiting m n left → ⊥) → IsWaiting m n (left ++ (i, k) ∷ []) → ⊥
      not_item m n different none item =
          ⊎_elim none (λ (last : IsWaiting m n ((i, k) ∷ [])). of_last last)
          (IsItem-append (m, n) left ((i, k) ∷ []) item)
        where
          of_last : IsWaiting m n ((i, k) ∷ []) → ⊥
          of_last (inl same) = different (ap (λ x. x.0) same) (ap (λ x. x.1) same)
          of_last (inr nothing) = nothing
