-- The numbers without pivots are those of the kept rows.
use Rattle.std.proofs.Common.{◌≡◌, Bool, true, false, cond, inl, inr, ⊎_elim, ℕ, zero, suc, ◌+◌, ◌<◌, ◌≤◌, List, [], ◌∷◌, ◌++◌, length, map, take, append-nil, append_assoc, refl, sym, ◌∙◌, ap, subst, arith, pos}
use Rattle.std.proofs.Math.Seq.{take-length}
use Rattle.std.proofs.lemmas.List.{map-append, take_more}
use Rattle.std.specs.List.{AllByRecursion}
use Rattle.sf_algebra.specs.Matrices.{Matrix}
use Rattle.sf_algebra.specs.Rings.{Ring}
use Rattle.sf_algebra.specs.Vectors.{Vector}
use Rattle.sf_algebra.proofs.Basics.Lists.{AllByRecursion-append, AllByRecursion-weaken}
use Rattle.sf_groebner.specs.MinimalGenerators.{AreKept, IsInSum}
use Rattle.sf_matrix.specs.KeptNumbers.{AreKeptNumbers, IsAscending, vector_at}
use Rattle.sf_minimal.specs.Numbers.{DecideRows, free_numbers, has_pivot}

module _ (ring : Ring) (B : Vector → Type 0) where
  -- one more vector, which is left out
  AreKept-left_out : (earlier vs kept : List Vector) (v : Vector) → AreKept ring B earlier vs kept
      → IsInSum ring (earlier ++ vs) B v → AreKept ring B earlier (vs ++ v ∷ []) kept
  AreKept-left_out earlier [] kept v h inside =
      inl (subst (λ l. IsInSum ring l B v) (append-nil earlier) inside, h)
  AreKept-left_out earlier (w ∷ vs) kept v h inside =
      let later : IsInSum ring ((earlier ++ w ∷ []) ++ vs) B v =
      subst (λ l. IsInSum ring l B v) (sym (append_assoc earlier (w ∷ []) vs)) inside in
      ⊎_elim
      (λ (k : IsInSum ring earlier B w × AreKept ring B (earlier ++ w ∷ []) vs kept).
      inl (k.0, AreKept-left_out (earlier ++ w ∷ []) vs kept v k.1 later))
      (λ (k : (IsInSum ring earlier B w → ⊥) × ((others : List Vector) × (kept ≡ w ∷ others) × AreKept ring B (earlier ++ w ∷ []) vs others)).
      inr (k.0, (k.1.0, k.1.1, AreKept-left_out (earlier ++ w ∷ []) vs k.1.0 v k.1.2 later)))
      h

  -- and one that is kept
  AreKept-taken_in : (earlier vs kept : List Vector) (v : Vector) → AreKept ring B earlier vs kept
      → (IsInSum ring (earlier ++ vs) B v → ⊥) → AreKept ring B earlier (vs ++ v ∷ []) (kept ++ v ∷ [])
  AreKept-taken_in earlier [] kept v h outside =
      inr (
        λ k. outside (subst (λ l. IsInSum ring l B v) (sym (append-nil earlier)) k),
        ([], ap (λ l. l ++ v ∷ []) h, refl),
      )
  AreKept-taken_in earlier (w ∷ vs) kept v h outside =
      let later : IsInSum ring ((earlier ++ w ∷ []) ++ vs) B v → ⊥ =
      λ k. outside (subst (λ l. IsInSum ring l B v) (append_assoc earlier (w ∷ []) vs) k) in
      ⊎_elim
      (λ (k : IsInSum ring earlier B w × AreKept ring B (earlier ++ w ∷ []) vs kept).
      inl (k.0, AreKept-taken_in (earlier ++ w ∷ []) vs kept v k.1 later))
      (λ (k : (IsInSum ring earlier B w → ⊥) × ((others : List Vector) × (kept ≡ w ∷ others) × AreKept ring B (earlier ++ w ∷ []) vs others)).
      inr (k.0, (k.1.0 ++ v ∷ [], ap (λ l. l ++ v ∷ []) k.1.1, AreKept-taken_in (earlier ++ w ∷ []) vs k.1.0 v k.1.2 later)))
      h

-- a further number at the end
IsAscending-push : (ks : List ℕ) (k : ℕ) → IsAscending ks → AllByRecursion (λ j. j < k) ks → IsAscending (ks ++ k ∷ [])
IsAscending-push [] k h below = (tt, tt)
IsAscending-push (j ∷ ks) k h below =
    (AllByRecursion-append (λ l. j < l) ks (k ∷ []) h.0 (below.0, tt), IsAscending-push ks k h.1 below.1)

module _ (m : Matrix) (B : Vector → Type 0) (pivots : List Vector) (decide : DecideRows m B pivots) where
  abbrev n : ℕ
  n = length m.rows

  -- so far
  record AreKeptBelow (i : ℕ) (numbers : List ℕ) : Type 0 where
    ascending : IsAscending numbers
    within : AllByRecursion (λ k. k < i) numbers
    kept : AreKept m.ring B [] (take i m.rows) (map (vector_at m.rows) numbers)

  -- one number more
  kept-more : (i : ℕ) (numbers : List ℕ) → i < n → AreKeptBelow i numbers
      → AreKeptBelow (suc i) (numbers ++ cond (has_pivot pivots n i) [] (i ∷ []))
  kept-more i numbers h before = by_pivot (has_pivot pivots n i) refl
    where
      longer : AllByRecursion (λ k. k < suc i) numbers
      longer = AllByRecursion-weaken (λ k. k < i) (λ k. k < suc i) (λ k below. omega (arith, below)) numbers before.within

      rows : take (suc i) m.rows ≡ take i m.rows ++ vector_at m.rows i ∷ []
      rows =
          ap (λ k. take k m.rows) (let e : suc i ≡ i + 1 = omega arith in e)
          ∙ take_more m.rows i (record { degree = pos 0; terms = [] }) h

      by_pivot : (b : Bool) → has_pivot pivots n i ≡ b → AreKeptBelow (suc i) (numbers ++ cond b [] (i ∷ []))
      by_pivot true e =
          subst (AreKeptBelow (suc i)) (sym (append-nil numbers))
          (record {
            ascending = before.ascending;
            within = longer;
            kept = subst (λ l. AreKept m.ring B [] l (map (vector_at m.rows) numbers)) (sym rows)
                (AreKept-left_out m.ring B [] (take i m.rows) (map (vector_at m.rows) numbers) (vector_at m.rows i) before.kept ((decide i h).0 e));
          })
      by_pivot false e = record {
        ascending = IsAscending-push numbers i before.ascending before.within;
        within = AllByRecursion-append (λ k. k < suc i) numbers (i ∷ []) longer (omega arith, tt);
        kept = subst (λ l. AreKept m.ring B [] l (map (vector_at m.rows) (numbers ++ i ∷ []))) (sym rows)
            (subst (AreKept m.ring B [] (take i m.rows ++ vector_at m.rows i ∷ [])) (sym (map-append (vector_at m.rows) numbers (i ∷ [])))
            (AreKept-taken_in m.ring B [] (take i m.rows) (map (vector_at m.rows) numbers) (vector_at m.rows i) before.kept
            (λ k. let pivot : has_pivot pivots n i ≡ true = (decide i h).1 k in let clash = sym pivot ∙ e in cc)));
      }

  free_numbers-kept : (i : ℕ) → i ≤ n → AreKeptBelow i (free_numbers pivots n i)
  free_numbers-kept zero h = record { ascending = tt; within = tt; kept = refl }
  free_numbers-kept (suc i) h =
      kept-more i (free_numbers pivots n i) h (free_numbers-kept i (omega (arith, h)))

  pub free_numbers-AreKeptNumbers : AreKeptNumbers B m (free_numbers pivots n n)
  free_numbers-AreKeptNumbers =
      let all = free_numbers-kept n (omega arith) in
      record {
        ascending = all.ascending;
        within = all.within;
        kept = subst (λ l. AreKept m.ring B [] l (map (vector_at m.rows) (free_numbers pivots n n))) (take-length m.rows) all.kept;
      }
