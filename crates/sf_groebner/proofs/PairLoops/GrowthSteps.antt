-- The steps of Buchberger's algorithm: a pair, or a generator, of least degree is divided by the rows; where there is no
-- rest it no longer waits, and else the rest made monic is a new row.
use Rattle.std.proofs.Common.{◌≡◌, ◌≢◌, ⊎_elim, false, ℕ, ◌<◌, List, [], ◌∷◌, ◌++◌, length, refl, sym, ◌∙◌, ap, subst, arith, ℤ, append_assoc}
use Rattle.std.specs.declared.cmp.Ordering.TheVariants.{Less}
use Rattle.std.specs.List.{AllByRecursion}
use Rattle.sf_algebra.specs.Matrices.{degrees_of}
use Rattle.sf_algebra.specs.MatrixOperations.{row_at, row_combination}
use Rattle.sf_algebra.specs.Rings.{Ring, IsRing}
use Rattle.sf_algebra.specs.Terms.{Term}
use Rattle.sf_algebra.specs.VectorOperations.{row_multiple}
use Rattle.sf_algebra.specs.Vectors.{Place, Vector, place_cmp, generator_degree, place_degree}
use Rattle.sf_algebra.proofs.Basics.Lists.{AllByRecursion-weaken}
use Rattle.sf_algebra.proofs.Vectors.RowSums.{row_sum-nil_first}
use Rattle.sf_algebra.proofs.Vectors.Rows.{IsCanonical-row_combination}
use Rattle.sf_groebner.specs.Criterion.{IsMonicRow, IsPair, lcm_place, lead_at, lead_place, s_coefficients, s_vector}
use Rattle.sf_groebner.specs.Divisions.{IsDivided}
use Rattle.sf_groebner.specs.Leads.{PlaceDivides}
use Rattle.sf_groebner.specs.NeededLeads.{IsNeeded}
use Rattle.sf_groebner.specs.ReducedBases.{is_divided}
use Rattle.sf_groebner.proofs.Constructions.Completions.{IsMonicIn}
use Rattle.sf_groebner.proofs.Constructions.MonicVectors.{AllByRecursion-row_at, IsMonicVector}
use Rattle.sf_groebner.proofs.PairLoops.GrowingBases.{IsGrowing, IsItem-others, IsLowest, complete_below, drop_generator, drop_pair, grow}
use Rattle.sf_groebner.proofs.PairLoops.GrowingRows.{ReducesToZero-new_row}
use Rattle.sf_groebner.proofs.PairLoops.HomogeneousPairs.{ReducesToZero-division, s_coefficients-homogeneous}
use Rattle.sf_groebner.proofs.PairLoops.MonicRests.{IsMonicRest}
use Rattle.sf_groebner.proofs.PairLoops.NeededLeads.{lead_needed}
use Rattle.sf_groebner.proofs.PairLoops.PendingPairs.{IsWaiting, pairs_before, reduces_unless_pending}
use Rattle.sf_groebner.proofs.PairTheorems.Buchberger.{ReducesToZero-chain}
use Rattle.sf_groebner.proofs.PairTheorems.Multiplied.{constant_term}
use Rattle.sf_groebner.proofs.PairTheorems.SVectors.{s_vector-below}
use Rattle.sf_groebner.proofs.Spanning.CombinationSums.{IsCombination-last, IsCombination-more, IsCombination-sum, row_vector}
use Rattle.sf_groebner.proofs.Spanning.Generators.{AreGenerators, IsCombination}
use Rattle.sf_groebner.proofs.Spanning.Submodules.{IsSubmodule, rest_inside}

module _ (ring : Ring) (positive : IsRing ring) (target : List ℤ) (N : Vector → Type 0)
    (submodule : IsSubmodule ring target N) (generators : List Vector) (generate : AreGenerators ring N generators)
    (rows : List Vector) where
  rows-inside : AllByRecursion (IsMonicIn N) rows → AllByRecursion N rows
  rows-inside monic = AllByRecursion-weaken _ _ (λ v h. h.0) rows monic

  rows-vectors : AllByRecursion (IsMonicIn N) rows → AllByRecursion (IsMonicVector ring target) rows
  rows-vectors monic =
      AllByRecursion-weaken _ _ (λ v h. record { vector = submodule.module_like.vectors v h.0; monic = h.1 }) rows monic

  -- a rest of least degree made monic is a new row
  pub grow_by_rest : (pending : List (ℕ × ℕ)) (waiting : List ℕ) → IsGrowing ring N generators rows pending waiting
      → (d : ℤ) → IsLowest ring.weights target generators rows pending waiting d
      → (t : Term Place) (ts : List (Term Place)) → N (record { degree = d; terms = t ∷ ts }) → is_divided rows t.at ≡ false
      → (v : Vector) → IsMonicRest ring N d t ts v
      → IsGrowing ring N generators (rows ++ v ∷ []) (pending ++ pairs_before (length rows) (length rows)) waiting
  grow_by_rest pending waiting g d low t ts inside free v e =
      grow ring positive N generators rows pending waiting g v (e.inside, e.monic)
      (subst (IsNeeded ring.weights N) (sym e.lead) (lead_needed ring positive target N submodule.module_like rows d (complete_below ring positive target N submodule generators generate rows pending waiting g d low) t ts inside free))
      (ap (is_divided rows) e.lead ∙ free)

  module _ (before after : List (ℕ × ℕ)) (i j : ℕ) (waiting : List ℕ)
      (g : IsGrowing ring N generators rows (before ++ (i, j) ∷ after) waiting) where
    -- the S-vector has no rest
    pub pair_spent : (d : ℤ) (q : List (Term Place)) → IsDivided ring target rows d (s_vector ring rows i j) [] q
        → IsGrowing ring N generators rows (before ++ after) waiting
    pair_spent d q e =
        drop_pair ring positive N generators rows before after i j waiting g
        (λ pair.
        ReducesToZero-division ring positive target rows (rows-vectors g.monic) i j (first_in pair) pair.later pair.positions d q e)
      where
        first_in : IsPair rows i j → i < length rows
        first_in pair = omega (arith, pair.earlier, pair.later)

    -- the lead of a row divides the least common multiple, and the pairs with that row don't wait
    pub pair_chained : (k : ℕ) → k < length rows → PlaceDivides (lead_at rows k) (lcm_place (lead_at rows) i j)
        → i ≢ k → k ≢ j
        → (IsWaiting i k (before ++ after) → ⊥) → (IsWaiting k i (before ++ after) → ⊥)
        → (IsWaiting k j (before ++ after) → ⊥) → (IsWaiting j k (before ++ after) → ⊥)
        → IsGrowing ring N generators rows (before ++ after) waiting
    pair_chained k k_in divides i_not j_not ik ki kj jk =
        drop_pair ring positive N generators rows before after i j waiting g
        (λ pair.
        ReducesToZero-chain ring positive rows i k j pair.positions divides
        (reduces_unless_pending ring positive rows (before ++ (i, j) ∷ after) g.pairs i k (first_in pair) k_in i_not (sym divides.0)
        (λ item. not_item i k (λ e f. j_not f) ik item) (λ item. not_item k i (λ e f. i_not (sym e)) ki item))
        (reduces_unless_pending ring positive rows (before ++ (i, j) ∷ after) g.pairs k j k_in pair.later j_not (divides.0 ∙ pair.positions)
        (λ item. not_item k j (λ e f. i_not (sym e)) kj item) (λ item. not_item j k (λ e f. j_not f) jk item)))
      where
        first_in : IsPair rows i j → i < length rows
        first_in pair = omega (arith, pair.earlier, pair.later)

        not_item : (m n : ℕ) → (m ≡ i → n ≡ j → ⊥) → (IsWaiting m n (before ++ after) → ⊥)
            → IsWaiting m n (before ++ (i, j) ∷ after) → ⊥
        not_item m n different none item =
            ⊎_elim (λ (same : (m, n) ≡ (i, j)). different (ap (λ (x : ℕ × ℕ). x.0) same) (ap (λ (x : ℕ × ℕ). x.1) same)) none
            (IsItem-others {X = ℕ × ℕ} (i, j) before after (m, n) item)

    -- the S-vector has one
    pub pair_grown : (pair : IsPair rows i j)
        → IsLowest ring.weights target generators rows (before ++ (i, j) ∷ after) waiting
        (place_degree ring.weights target (lcm_place (lead_at rows) i j))
        → (t : Term Place) (ts q : List (Term Place))
        → IsDivided ring target rows (place_degree ring.weights target (lcm_place (lead_at rows) i j)) (s_vector ring rows i j) (t ∷ ts) q
        → (v : Vector) → IsMonicRest ring N (place_degree ring.weights target (lcm_place (lead_at rows) i j)) t ts v
        → IsGrowing ring N generators (rows ++ v ∷ []) ((before ++ after) ++ pairs_before (length rows) (length rows)) waiting
    pair_grown pair low t ts q e v r =
        let i_in : i < length rows = omega (arith, pair.earlier, pair.later) in
        let d : ℤ = place_degree ring.weights target (lcm_place (lead_at rows) i j) in
        let vectors = rows-vectors g.monic in
        let monic_rows : AllByRecursion (IsMonicRow ring) rows =
        AllByRecursion-weaken _ _ (λ w h. record { canonical = h.vector.canonical; monic = h.monic }) rows vectors in
        let inside : N (record { degree = d; terms = s_vector ring rows i j }) =
        submodule.combinations rows (rows-inside g.monic) d (s_coefficients ring.modulus (lead_at rows) i j)
        (s_coefficients-homogeneous ring positive target rows vectors i j i_in pair.later pair.positions) in
        let rest = rest_inside ring positive target N submodule rows (rows-inside g.monic) d (s_vector ring rows i j) (t ∷ ts) q inside e in
        let bound =
        e.below (lcm_place (lead_at rows) i j)
        (s_vector-below ring positive rows monic_rows i j i_in pair.later pair.positions) in
        let less : place_cmp ring.weights (lead_place v.terms) (lcm_place (lead_at rows) i j) ≡ Less =
        ap (λ k. place_cmp ring.weights k (lcm_place (lead_at rows) i j)) r.lead ∙ bound.0.0 in
        let new = pairs_before (length rows) (length rows) in
        let larger = grow_by_rest (before ++ (i, j) ∷ after) waiting g d low t ts rest e.reduced.0 v r in
        subst (λ l. IsGrowing ring N generators (rows ++ v ∷ []) l waiting) (sym (append_assoc before after new))
        (drop_pair ring positive N generators (rows ++ v ∷ []) before (after ++ new) i j waiting
        (subst (λ l. IsGrowing ring N generators (rows ++ v ∷ []) l waiting) (append_assoc before ((i, j) ∷ after) new) larger)
        (λ same.
        ReducesToZero-new_row ring positive rows i j (t ∷ ts)
        (record { steps = q; below = bound.1; sum = e.sum }) i_in pair.later v t.coefficient r.back less))

  generator-inside : (k : ℕ) → k < length generators → N (row_vector generators k)
  generator-inside = AllByRecursion-row_at (λ d ts. N (record { degree = d; terms = ts })) generators generate.inside

  module _ (pending : List (ℕ × ℕ)) (before after : List ℕ) (k : ℕ)
      (g : IsGrowing ring N generators rows pending (before ++ k ∷ after)) where
    -- a generator has no rest
    pub generator_spent : (q : List (Term Place))
        → IsDivided ring target rows (generator_degree (degrees_of generators) k) (row_at generators k) [] q
        → IsGrowing ring N generators rows pending (before ++ after)
    generator_spent q e =
        drop_generator ring positive N generators rows pending before after k g
        (record {
          coefficients = q;
          homogeneous = e.homogeneous;
          value =
              sym (row_sum-nil_first ring positive.modulus (row_combination ring rows q) (IsCanonical-row_combination ring positive.modulus rows q))
              ∙ e.sum;
        })

    -- it has one
    pub generator_grown : k < length generators
        → IsLowest ring.weights target generators rows pending (before ++ k ∷ after) (generator_degree (degrees_of generators) k)
        → (t : Term Place) (ts q : List (Term Place))
        → IsDivided ring target rows (generator_degree (degrees_of generators) k) (row_at generators k) (t ∷ ts) q
        → (v : Vector) → IsMonicRest ring N (generator_degree (degrees_of generators) k) t ts v
        → IsGrowing ring N generators (rows ++ v ∷ []) (pending ++ pairs_before (length rows) (length rows)) (before ++ after)
    generator_grown within low t ts q e v r =
        let inside = generator-inside k within in
        let d : ℤ = generator_degree (degrees_of generators) k in
        let more : List Vector = rows ++ v ∷ [] in
        let rest =
        rest_inside ring positive target N submodule rows (rows-inside g.monic) d (row_at generators k) (t ∷ ts) q inside e in
        let first : IsCombination ring more (record { degree = d; terms = t ∷ ts }) =
        subst (λ us. IsCombination ring more (record { degree = d; terms = us })) (sym r.back)
        (subst (λ n. IsCombination ring more (record { degree = n; terms = row_multiple ring (constant_term t.coefficient) v.terms })) r.degree (IsCombination-last ring positive rows v t.coefficient)) in
        let second : IsCombination ring more (record { degree = d; terms = row_combination ring rows q }) =
        IsCombination-more ring positive rows (v ∷ []) (record { degree = d; terms = row_combination ring rows q })
        (record { coefficients = q; homogeneous = e.homogeneous; value = refl }) in
        drop_generator ring positive N generators more (pending ++ pairs_before (length rows) (length rows)) before after k
        (grow_by_rest pending (before ++ k ∷ after) g d low t ts rest e.reduced.0 v r)
        (subst (λ us. IsCombination ring more (record { degree = d; terms = us })) e.sum
        (IsCombination-sum ring positive more d (t ∷ ts) (row_combination ring rows q) first second))
