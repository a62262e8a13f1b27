-- The pairs of a new row with the earlier ones, as they wait in a queue.
use Rattle.std.proofs.Common.{◌≡◌, ⊎_elim, inl, inr, ◌==◌, cond, ℕ, zero, suc, ◌<◌, ◌≤◌, List, [], ◌∷◌, ◌++◌, length, sym, ◌∙◌, ap, subst, arith, ℤ, pos, ◌+ℤ◌, ◌-ℤ◌}
use Rattle.std.specs.List.{AllByRecursion}
use Rattle.std.proofs.lemmas.Bool.{cases_lt}
use Rattle.std.proofs.lemmas.Bool.Decides.{Decides-eqb}
use Rattle.std.proofs.lemmas.Int.{ints}
use Rattle.std.proofs.lemmas.List.{length-append, map-append}
use Rattle.sf_algebra.specs.Divisibility.{lcm}
use Rattle.sf_algebra.specs.Monomials.{Monomial, exponent_sum, monomial_degree}
use Rattle.sf_algebra.specs.Rings.{Weights, ones}
use Rattle.sf_algebra.specs.Vectors.{Place, Vector, generator_degree, place_degree}
use Rattle.sf_algebra.proofs.Basics.Filters.{cond_cases}
use Rattle.sf_algebra.proofs.Basics.Lists.{AllByRecursion-append}
use Rattle.sf_algebra.proofs.Monomials.Weights.{degree_by_ones}
use Rattle.sf_algebra.proofs.Vectors.Rows.{row_at-append_second}
use Rattle.sf_groebner.specs.Criterion.{IsPair, lcm_place, lead_at, lead_place}
use Rattle.sf_groebner.proofs.PairLoops.GrowingRows.{lcm_place-append, lead_at-append, length-more}
use Rattle.sf_groebner.proofs.PairLoops.PendingPairs.{IsItem-append, IsItem-append_first, IsItem-append_second, IsWaiting, pairs_before}
use Rattle.sf_pairs.specs.Queue.{QueuedPair, pair_of}
use Rattle.sf_buchberger.specs.QueuedPairs.{IsQueuedPair, lcm_with, pair_numbers, pair_with, pairs_with}

-- where the leads stand at one position, there is a pair
pub pair_with-one : (weights : Weights) (target : List ℤ) (rows : List Vector) (lead : Place) (n i : ℕ)
    → (lead_at rows i).position ≡ lead.position
    → pair_with weights target rows lead n i ≡ pair_of (place_degree weights target (lcm_with rows lead i)) i n ∷ []
pair_with-one weights target rows lead n i same =
    ap (λ b. cond b (pair_of (place_degree weights target (lcm_with rows lead i)) i n ∷ []) [])
    ((Decides-eqb (lead_at rows i).position lead.position).1 same)

-- its degree, by that of the row
pub degree-lcm_with : (target : List ℤ) (rows : List Vector) (lead : Place) (i : ℕ) (d e : ℤ) (a b : Monomial)
    → a ≡ lcm (lead_at rows i).monomial lead.monomial → b ≡ lead.monomial → d ≡ place_degree ones target lead
    → e ≡ (d -ℤ pos (exponent_sum b)) +ℤ pos (exponent_sum a) → e ≡ place_degree ones target (lcm_with rows lead i)
degree-lcm_with target rows lead i d e a b same own degree raised =
    raised
    ∙ sums d (generator_degree target lead.position) (exponent_sum b) (monomial_degree ones lead.monomial) (exponent_sum a)
    degree (degree_by_ones b ∙ ap (monomial_degree ones) own)
    ∙ ap (λ n. generator_degree target lead.position +ℤ pos n)
    (degree_by_ones a ∙ ap (monomial_degree ones) same)
  where
    sums : (d g : ℤ) (s t n : ℕ) → d ≡ g +ℤ pos t → s ≡ t → (d -ℤ pos s) +ℤ pos n ≡ g +ℤ pos n
    sums d g s t n h k = omega (arith, ints)

-- there is at most one
length-pair_with : (weights : Weights) (target : List ℤ) (rows : List Vector) (lead : Place) (n i : ℕ)
    → length (pair_with weights target rows lead n i) ≤ 1
length-pair_with weights target rows lead n i =
    cond_cases ((lead_at rows i).position == lead.position)
    (pair_of (place_degree weights target (lcm_with rows lead i)) i n ∷ []) [] (λ l. length l ≤ 1) (λ e. omega arith)
    (λ e. omega arith)

pub length-pairs_with : (weights : Weights) (target : List ℤ) (rows : List Vector) (lead : Place) (n k : ℕ)
    → length (pairs_with weights target rows lead n k) ≤ k
length-pairs_with weights target rows lead n zero = omega arith
length-pairs_with weights target rows lead n (suc k) =
    let before = length-pairs_with weights target rows lead n k in
    let last = length-pair_with weights target rows lead n k in
    let sizes = length-append (pairs_with weights target rows lead n k) (pair_with weights target rows lead n k) in
    omega (arith, before, last, sizes)

-- the pairs of the rows before k with row n
pub IsWaiting-pairs_before : (k n i j : ℕ) → IsWaiting i j (pairs_before k n) → (i < k) × (j ≡ n)
IsWaiting-pairs_before zero n i j item = absurd item
IsWaiting-pairs_before (suc k) n i j item =
    ⊎_elim
    (λ (first : IsWaiting i j (pairs_before k n)). let h = IsWaiting-pairs_before k n i j first in (omega (arith, h.0), h.1))
    (λ (last : IsWaiting i j ((k, n) ∷ [])). of_last last)
    (IsItem-append {X = ℕ × ℕ} (i, j) (pairs_before k n) ((k, n) ∷ []) item)
  where
    of_last : IsWaiting i j ((k, n) ∷ []) → (i < suc k) × (j ≡ n)
    of_last (inl same) =
        let first : i ≡ k = ap (λ (x : ℕ × ℕ). x.0) same in (omega (arith, first), ap (λ (x : ℕ × ℕ). x.1) same)
    of_last (inr none) = absurd none

-- with further rows a pair waits as before
pub IsQueuedPair-append : (weights : Weights) (target : List ℤ) (rows more : List Vector) (e : QueuedPair)
    → IsQueuedPair weights target rows e → IsQueuedPair weights target (rows ++ more) e
IsQueuedPair-append weights target rows more e h =
    let second : e.second < length rows = h.pair.later in
    let first : e.first < length rows = omega (arith, h.pair.earlier, second) in
    record {
      pair = record {
        earlier = h.pair.earlier;
        later = length-more rows more e.second second;
        positions = ap (λ (k : Place). k.position) (lead_at-append rows more e.first first)
            ∙ h.pair.positions
            ∙ sym (ap (λ (k : Place). k.position) (lead_at-append rows more e.second second));
      };
      degree = h.degree ∙ ap (place_degree weights target) (sym (lcm_place-append rows more e.first e.second first second));
    }

module _ (weights : Weights) (target : List ℤ) (rows : List Vector) (v : Vector) where
  abbrev pub more : List Vector
  more = rows ++ v ∷ []

  abbrev lead : Place
  lead = lead_place v.terms

  new_lead : lead_at more (length rows) ≡ lead
  new_lead = ap (λ n. lead_at more n) (omega arith) ∙ ap lead_place (row_at-append_second rows (v ∷ []) 0)

  same_lcm : (i : ℕ) → i < length rows → (lead_at rows i).position ≡ lead.position
      → lcm_place (lead_at more) i (length rows) ≡ lcm_with rows lead i
  same_lcm i h same =
      let old = lead_at-append rows (v ∷ []) i h in
      λ k. record { position = (ap (λ (j : Place). j.position) old ∙ same) k; monomial = lcm (old k).monomial (new_lead k).monomial }

  queued_new : (i : ℕ) → i < length rows → (lead_at rows i).position ≡ lead.position
      → IsQueuedPair weights target more (pair_of (place_degree weights target (lcm_with rows lead i)) i (length rows))
  queued_new i h same = record {
    pair = record {
      earlier = h;
      later = rw length-append (omega arith);
      positions = ap (λ (k : Place). k.position) (lead_at-append rows (v ∷ []) i h) ∙ same ∙ sym (ap (λ (k : Place). k.position) new_lead);
    };
    degree = ap (place_degree weights target) (sym (same_lcm i h same));
  }

  queued_with : (i : ℕ) → i < length rows
      → AllByRecursion (IsQueuedPair weights target more) (pair_with weights target rows lead (length rows) i)
  queued_with i h =
      cond_cases ((lead_at rows i).position == lead.position)
      (pair_of (place_degree weights target (lcm_with rows lead i)) i (length rows) ∷ []) []
      (AllByRecursion (IsQueuedPair weights target more))
      (λ e. (queued_new i h ((Decides-eqb (lead_at rows i).position lead.position).0 e), tt)) (λ e. tt)

  -- the new pairs wait
  pub queued_pairs_with : (k : ℕ) → k ≤ length rows
      → AllByRecursion (IsQueuedPair weights target more) (pairs_with weights target rows lead (length rows) k)
  queued_pairs_with zero h = tt
  queued_pairs_with (suc k) h =
      AllByRecursion-append (IsQueuedPair weights target more) (pairs_with weights target rows lead (length rows) k)
      (pair_with weights target rows lead (length rows) k)
      (queued_pairs_with k (omega arith)) (queued_with k (omega arith))

  -- they are all the new pairs whose leads stand at one position
  waits_with : (i k : ℕ) → i < k → (lead_at rows i).position ≡ lead.position
      → IsWaiting i (length rows) (pair_numbers (pairs_with weights target rows lead (length rows) k))
  waits_with i zero h same = absurd (omega arith)
  waits_with i (suc k) h same =
      let before = pairs_with weights target rows lead (length rows) k in
      let last = pair_with weights target rows lead (length rows) k in
      subst (IsWaiting i (length rows)) (sym (map-append (λ (e : QueuedPair). (e.first, e.second)) before last))
      (elim (cases_lt i k) [
        | inl earlier ↦
            IsItem-append_first {X = ℕ × ℕ} (i, length rows) (pair_numbers before) (pair_numbers last)
            (waits_with i k earlier same)
        | inr not_earlier ↦
            let here : i ≡ k = omega arith in
            let one =
            pair_with-one weights target rows lead (length rows) k (subst (λ j. (lead_at rows j).position ≡ lead.position) here same) in
            IsItem-append_second {X = ℕ × ℕ} (i, length rows) (pair_numbers before) (pair_numbers last)
            (subst (λ l. IsWaiting i (length rows) (pair_numbers l)) (sym one) (inl (λ m. (here m, length rows))))
      ])

  pub waits_new : (i j : ℕ) → IsPair more i j → IsWaiting i j (pairs_before (length rows) (length rows))
      → IsWaiting i j (pair_numbers (pairs_with weights target rows lead (length rows) (length rows)))
  waits_new i j pair item =
      let h = IsWaiting-pairs_before (length rows) (length rows) i j item in
      let positions : (lead_at rows i).position ≡ lead.position =
      sym (ap (λ (k : Place). k.position) (lead_at-append rows (v ∷ []) i h.0))
      ∙ pair.positions
      ∙ ap (λ n. (lead_at more n).position) h.1
      ∙ ap (λ (k : Place). k.position) new_lead in
      subst (λ n. IsWaiting i n (pair_numbers (pairs_with weights target rows lead (length rows) (length rows)))) (sym h.1)
      (waits_with i (length rows) h.0 positions)
