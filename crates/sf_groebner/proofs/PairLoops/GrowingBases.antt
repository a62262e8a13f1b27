-- What Buchberger's algorithm keeps: monic rows of a module, whose leads are leads of its reduced basis, and pairs and
-- generators that wait. Of what waits that of least degree comes next, and below its degree the rows are complete. (Cox,
-- Little, O'Shea, "Ideals, Varieties, and Algorithms", chapter 2, section 10.)
use Rattle.std.proofs.Common.{◌≡◌, ◌⊎◌, ⊎_elim, inl, inr, true, false, ℕ, ◌<◌, List, [], ◌∷◌, ◌++◌, length, sym, ◌∙◌, ap, subst, arith, ℤ, pos, ◌+ℤ◌, ◌≤ℤ◌, ◌<ℤ◌}
use Rattle.std.proofs.lemmas.Int.{ints}
use Rattle.std.proofs.lemmas.List.{length-map, map-append}
use Rattle.std.specs.List.{AllByRecursion}
use Rattle.sf_algebra.specs.Matrices.{Matrix, IsMatrix, degrees_of}
use Rattle.sf_algebra.specs.MatrixOperations.{row_combination}
use Rattle.sf_algebra.specs.Monomials.{monomial_degree}
use Rattle.sf_algebra.specs.Rings.{Ring, Weights, IsRing}
use Rattle.sf_algebra.specs.Terms.{Term}
use Rattle.sf_algebra.specs.Vectors.{Place, Vector, generator_degree, place_degree, IsTermOfDegree}
use Rattle.sf_algebra.proofs.Basics.Lists.{AllByRecursion-append, AllByRecursion-weaken}
use Rattle.sf_groebner.specs.Criterion.{HasDegreeUpTo, IsMonicRow, IsPair, ReducesToZero, lcm_place, lead_at, lead_place}
use Rattle.sf_groebner.specs.MinimalGenerators.{matrix_of}
use Rattle.sf_groebner.specs.NeededLeads.{AreDistinct, IsCompleteBelow, IsNeeded}
use Rattle.sf_groebner.specs.ReducedBases.{HasDividedLead, IsMonic, is_divided, lead_divides}
use Rattle.sf_groebner.specs.Spans.{InSpan}
use Rattle.sf_groebner.proofs.Basics.Items.{AllByRecursion-item, IsItem}
use Rattle.sf_groebner.proofs.Constructions.Completions.{IsMonicIn}
use Rattle.sf_groebner.proofs.Constructions.LeadDivisors.{is_divided-none, lead_divides-own, lead_places}
use Rattle.sf_groebner.proofs.PairLoops.PendingDegrees.{IsPending-up_to}
use Rattle.sf_groebner.proofs.PairLoops.PendingPairs.{IsItem-append, IsItem-append_first, IsItem-append_second, IsPending, IsPending-fewer, IsPending-new_row, IsWaiting, pairs_before}
use Rattle.sf_groebner.proofs.Spanning.CombinationSums.{IsCombination-more, IsCombination-through, row_vector}
use Rattle.sf_groebner.proofs.Spanning.Generators.{AreGenerators, IsCombination}
use Rattle.sf_groebner.proofs.Spanning.SpanCombinations.{InSpan-IsCombination}
use Rattle.sf_groebner.proofs.Spanning.Submodules.{IsSubmodule}

-- the rows of a module N with generators, the pairs of rows that wait, and the generators that do, by their numbers
pub record IsGrowing (ring : Ring) (N : Vector → Type 0) (generators rows : List Vector) (pending : List (ℕ × ℕ))
    (waiting : List ℕ) : Type 0 where
  pub monic : AllByRecursion (IsMonicIn N) rows
  -- each pair waits or reduces to zero
  pub pairs : IsPending ring rows pending
  -- each generator waits or is a combination of the rows
  pub reached : (k : ℕ) → k < length generators
      → IsItem k waiting ⊎ IsCombination ring rows (row_vector generators k)
  -- the leads are different leads of each reduced basis of N
  pub needed : AllByRecursion (IsNeeded ring.weights N) (lead_places rows)
  pub distinct : AreDistinct (lead_places rows)

-- no pair and no generator that waits has a degree below d
pub record IsLowest (weights : Weights) (target : List ℤ) (generators rows : List Vector) (pending : List (ℕ × ℕ))
    (waiting : List ℕ) (d : ℤ) : Type 0 where
  pub pairs : AllByRecursion (λ (x : ℕ × ℕ). d ≤ℤ place_degree weights target (lcm_place (lead_at rows) x.0 x.1)) pending
  pub inputs : AllByRecursion (λ (k : ℕ). d ≤ℤ generator_degree (degrees_of generators) k) waiting

-- an item of a list is a given one, or one of those before and behind it
pub IsItem-others : {X : Type 0} (x : X) (before after : List X) (y : X) → IsItem y (before ++ x ∷ after)
    → (y ≡ x) ⊎ IsItem y (before ++ after)
IsItem-others {X} x before after y item =
    ⊎_elim (λ (first : IsItem y before). inr (IsItem-append_first y before after first))
    (λ (here : IsItem y (x ∷ after)). of_tail here)
    (IsItem-append y before (x ∷ after) item)
  where
    of_tail : IsItem y (x ∷ after) → (y ≡ x) ⊎ IsItem y (before ++ after)
    of_tail (inl same) = inl same
    of_tail (inr later) = inr (IsItem-append_second y before after later)

pub AreDistinct-append : (ks : List Place) (k : Place) → AreDistinct ks → AllByRecursion (λ j. j ≡ k → ⊥) ks
    → AreDistinct (ks ++ k ∷ [])
AreDistinct-append [] k h new = (tt, tt)
AreDistinct-append (j ∷ js) k h new =
    (AllByRecursion-append _ js (k ∷ []) h.0 (new.0, tt), AreDistinct-append js k h.1 new.1)

-- the leads of monic rows are different from a place that none divides
pub distinct_from : (N : Vector → Type 0) (rows : List Vector) → AllByRecursion (IsMonicIn N) rows → (k : Place)
    → is_divided rows k ≡ false → AllByRecursion (λ j. j ≡ k → ⊥) (lead_places rows)
distinct_from N rows monic k free = others rows monic (is_divided-none rows k free)
  where
    clash : (w : Vector) → IsMonic w.terms → lead_divides w.terms k ≡ false → lead_place w.terms ≡ k → ⊥
    clash w one none same =
        let own = lead_divides-own w.terms one in
        let no = ap (lead_divides w.terms) same ∙ none in
        let e : true ≡ false = sym own ∙ no in cc

    others : (ws : List Vector) → AllByRecursion (IsMonicIn N) ws
        → AllByRecursion (λ (w : Vector). lead_divides w.terms k ≡ false) ws
        → AllByRecursion (λ j. j ≡ k → ⊥) (lead_places ws)
    others [] h none = tt
    others (w ∷ ws) h none = (clash w h.0.1 none.0, others ws h.1 none.1)

module _ (ring : Ring) (positive : IsRing ring) (target : List ℤ) (N : Vector → Type 0)
    (submodule : IsSubmodule ring target N) (generators : List Vector) (generate : AreGenerators ring N generators)
    (rows : List Vector) (pending : List (ℕ × ℕ)) (waiting : List ℕ)
    (g : IsGrowing ring N generators rows pending waiting) where
  rows-matrix : IsMatrix (matrix_of ring target rows)
  rows-matrix = AllByRecursion-weaken _ _ (λ v h. submodule.module_like.vectors v h.0) rows g.monic

  rows-monic : AllByRecursion (IsMonicRow ring) rows
  rows-monic =
      AllByRecursion-weaken _ _ (λ v h. record { canonical = (submodule.module_like.vectors v h.0).canonical; monic = h.1 }) rows g.monic

  -- a vector of lower degree is a combination of generators that don't wait, so of the rows, and the pairs up to its
  -- degree reduce to zero
  pub complete_below : (d : ℤ) → IsLowest ring.weights target generators rows pending waiting d → IsCompleteBelow N rows d
  complete_below d low v h less =
      let k = generate.spans v h in
      let m : Matrix = matrix_of ring target rows in
      let whole : Vector = record { degree = v.degree; terms = row_combination ring generators k.coefficients } in
      let c = IsCombination-through ring positive rows generators v.degree k.coefficients k.homogeneous
      (AllByRecursion-weaken (IsTermOfDegree ring.weights (degrees_of generators) v.degree) (λ (t : Term Place). IsCombination ring rows (row_vector generators t.at.position)) reached_at k.coefficients k.homogeneous) in
      let w : InSpan m whole = InSpan-IsCombination m positive whole c in
      let degree : w.coefficients.degree ≡ v.degree = ap (λ (x : Vector). x.degree) w.value in
      let terms : row_combination ring rows w.coefficients.terms ≡ v.terms =
      ap (λ (x : Vector). x.terms) w.value ∙ k.value in
      subst (HasDividedLead rows) terms
      (IsPending-up_to m rows-matrix rows-monic positive v.degree pending g.pairs
      (AllByRecursion-weaken _ (λ (x : ℕ × ℕ). HasDegreeUpTo m v.degree x.0 x.1 → ⊥) (λ x high up_to. above d _ v.degree high up_to less) pending low.pairs)
      w.coefficients w.homogeneous (same_bound w.coefficients.degree v.degree degree))
    where
      above : (a b e : ℤ) → a ≤ℤ b → b ≤ℤ e → e <ℤ a → ⊥
      above a b e h k l = omega (arith, ints)

      same_bound : (a b : ℤ) → a ≡ b → a ≤ℤ b
      same_bound a b e = omega (arith, ints)

      too_low : (a b e : ℤ) (n : ℕ) → a ≤ℤ b → e ≡ b +ℤ pos n → e <ℤ a → ⊥
      too_low a b e n h k l = omega (arith, ints)

      reached_at : (t : Term Place) → IsTermOfDegree ring.weights (degrees_of generators) v.degree t
          → IsCombination ring rows (row_vector generators t.at.position)
      reached_at t term =
          ⊎_elim
          (λ (waits : IsItem t.at.position waiting). absurd (too_low d (generator_degree (degrees_of generators) t.at.position) v.degree (monomial_degree ring.weights t.at.monomial) (AllByRecursion-item (λ (k : ℕ). d ≤ℤ generator_degree (degrees_of generators) k) waiting t.at.position low.inputs waits) term.1 less))
          (λ (c : IsCombination ring rows (row_vector generators t.at.position)). c)
          (g.reached t.at.position (simp length-map at term.0))

  -- where nothing waits, they are complete
  pub complete_end : pending ≡ [] → waiting ≡ [] → (v : Vector) → N v → HasDividedLead rows v.terms
  complete_end none_pending none_waiting v h =
      complete_below (v.degree +ℤ pos 1)
      (record { pairs = subst (AllByRecursion _) (sym none_pending) tt; inputs = subst (AllByRecursion _) (sym none_waiting) tt })
      v h (next v.degree)
    where
      next : (d : ℤ) → d <ℤ (d +ℤ pos 1)
      next d = omega (arith, ints)

module _ (ring : Ring) (positive : IsRing ring) (N : Vector → Type 0) (generators rows : List Vector) where
  -- other pairs may wait, where each pair of rows that no longer does reduces to zero
  pub replace_pending : (pending left : List (ℕ × ℕ)) (waiting : List ℕ)
      → IsGrowing ring N generators rows pending waiting
      → ((i j : ℕ) → IsPair rows i j → IsWaiting i j pending → IsWaiting i j left ⊎ ReducesToZero ring rows i j)
      → IsGrowing ring N generators rows left waiting
  replace_pending pending left waiting g f = record {
    monic = g.monic;
    pairs = IsPending-fewer ring positive rows pending left f g.pairs;
    reached = g.reached;
    needed = g.needed;
    distinct = g.distinct;
  }

  -- a pair that reduces to zero no longer waits
  pub drop_pair : (before after : List (ℕ × ℕ)) (i j : ℕ) (waiting : List ℕ)
      → IsGrowing ring N generators rows (before ++ (i, j) ∷ after) waiting
      → (IsPair rows i j → ReducesToZero ring rows i j)
      → IsGrowing ring N generators rows (before ++ after) waiting
  drop_pair before after i j waiting g r =
      replace_pending (before ++ (i, j) ∷ after) (before ++ after) waiting g
      (λ k l pair item.
      ⊎_elim
      (λ (same : (k, l) ≡ (i, j)). inr (subst (λ (x : ℕ × ℕ). ReducesToZero ring rows x.0 x.1) (sym same) (r (subst (λ (x : ℕ × ℕ). IsPair rows x.0 x.1) same pair))))
      (λ (other : IsWaiting k l (before ++ after)). inl other)
      (IsItem-others {X = ℕ × ℕ} (i, j) before after (k, l) item))

  -- nor does a generator that is a combination of the rows
  pub drop_generator : (pending : List (ℕ × ℕ)) (before after : List ℕ) (k : ℕ)
      → IsGrowing ring N generators rows pending (before ++ k ∷ after)
      → IsCombination ring rows (row_vector generators k)
      → IsGrowing ring N generators rows pending (before ++ after)
  drop_generator pending before after k g c = record {
    monic = g.monic;
    pairs = g.pairs;
    reached = λ l within.
        ⊎_elim
        (λ (item : IsItem l (before ++ k ∷ after)).
        ⊎_elim
        (λ (same : l ≡ k). inr (subst (λ n. IsCombination ring rows (row_vector generators n)) (sym same) c))
        (λ (other : IsItem l (before ++ after)). inl other)
        (IsItem-others k before after l item))
        (λ (there : IsCombination ring rows (row_vector generators l)). inr there)
        (g.reached l within);
    needed = g.needed;
    distinct = g.distinct;
  }

  -- a new row with a needed lead that no other divides; all pairs with it wait
  pub grow : (pending : List (ℕ × ℕ)) (waiting : List ℕ) → IsGrowing ring N generators rows pending waiting
      → (v : Vector) → IsMonicIn N v → IsNeeded ring.weights N (lead_place v.terms)
      → is_divided rows (lead_place v.terms) ≡ false
      → IsGrowing ring N generators (rows ++ v ∷ []) (pending ++ pairs_before (length rows) (length rows)) waiting
  grow pending waiting g v monic needed free =
      let places : lead_places (rows ++ v ∷ []) ≡ lead_places rows ++ lead_place v.terms ∷ [] =
      map-append (λ (w : Vector). lead_place w.terms) rows (v ∷ []) in
      record {
        monic = AllByRecursion-append (IsMonicIn N) rows (v ∷ []) g.monic (monic, tt);
        pairs = IsPending-new_row ring positive rows pending v g.pairs;
        reached = λ k within.
            ⊎_elim (λ (waits : IsItem k waiting). inl waits)
            (λ (c : IsCombination ring rows (row_vector generators k)). inr (IsCombination-more ring positive rows (v ∷ []) (row_vector generators k) c))
            (g.reached k within);
        needed = subst (AllByRecursion (IsNeeded ring.weights N)) (sym places)
            (AllByRecursion-append (IsNeeded ring.weights N) (lead_places rows) (lead_place v.terms ∷ []) g.needed (needed, tt));
        distinct = subst AreDistinct (sym places)
            (AreDistinct-append (lead_places rows) (lead_place v.terms) g.distinct (distinct_from N rows g.monic (lead_place v.terms) free));
      }

-- at first there are no rows, and all generators wait
pub IsGrowing-start : (ring : Ring) (N : Vector → Type 0) (generators : List Vector) (waiting : List ℕ)
    → ((k : ℕ) → k < length generators → IsItem k waiting)
    → IsGrowing ring N generators [] [] waiting
IsGrowing-start ring N generators waiting all = record {
  monic = tt;
  pairs = λ i j pair. absurd (none i j pair.later);
  reached = λ k within. inl (all k within);
  needed = tt;
  distinct = tt;
}
  where
    none : (i j : ℕ) → j < 0 → ⊥
    none i j h = omega arith
