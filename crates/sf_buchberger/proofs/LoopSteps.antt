-- The steps of Buchberger's algorithm over a graph keep what it keeps, and leave less to do; past the bounds the
-- matrix is large.
use Rattle.std.proofs.Common.{◌≡◌, ⊎_elim, inl, false, ℕ, ◌+◌, ◌-◌, ◌*◌, ◌<◌, ◌≤◌, List, [], ◌∷◌, ◌++◌, length, sym, ◌∙◌, ap, subst, arith, ℤ, ◌≤ℤ◌}
use Rattle.std.specs.List.{AllByRecursion}
use Rattle.std.proofs.lemmas.List.{length-append, map-append}
use Rattle.sf_algebra.specs.Bounds.{GREATEST_SIZE, HasSmallSize}
use Rattle.sf_algebra.specs.Matrices.{Matrix, IsMatrix, degrees_of}
use Rattle.sf_algebra.specs.Monomials.{exponent_sum, monomial_degree}
use Rattle.sf_algebra.specs.Rings.{IsOverField, ones}
use Rattle.sf_algebra.specs.Terms.{Term}
use Rattle.sf_algebra.specs.Vectors.{Place, Vector, generator_degree, place_degree}
use Rattle.sf_algebra.proofs.Basics.Lists.{AllByRecursion-append, AllByRecursion-weaken}
use Rattle.sf_algebra.proofs.Monomials.Weights.{degree_by_ones, field_ring}
use Rattle.sf_groebner.specs.Criterion.{lcm_place, lead_at, lead_place}
use Rattle.sf_groebner.specs.Divisions.{IsDivided}
use Rattle.sf_groebner.specs.GraphRows.{graph_matrix}
use Rattle.sf_groebner.specs.ReducedBases.{is_divided}
use Rattle.sf_groebner.specs.Small.{HasLeadUpTo, IsLarge}
use Rattle.sf_groebner.specs.Spans.{IsGraphVector, graph_degrees}
use Rattle.sf_groebner.proofs.Constructions.LargeGrowth.{grown_above, grown_beyond}
use Rattle.sf_groebner.proofs.PairLoops.GrowingBases.{IsGrowing, IsLowest, replace_pending}
use Rattle.sf_groebner.proofs.PairLoops.MonicRests.{IsMonicRest, monic_rest}
use Rattle.sf_groebner.proofs.PairLoops.PendingPairs.{IsItem-append, IsItem-append_first, IsItem-append_second, IsWaiting, pairs_before}
use Rattle.sf_groebner.proofs.Spanning.Submodules.{rest_inside}
use Rattle.sf_pairs.specs.Queue.{QueuedPair}
use Rattle.sf_buchberger.specs.GrowthSteps.{HasRest, IsMadeMonic, IsPastBounds, with_row}
use Rattle.sf_buchberger.specs.Loops.{IsLooping, left_to_do}
use Rattle.sf_buchberger.specs.QueuedPairs.{IsQueuedInput, IsQueuedPair, input_numbers, pair_numbers, pairs_with}
use Rattle.sf_buchberger.specs.declared.growth.state.Growth.{Growth}
use Rattle.sf_buchberger.proofs.DoneTables.{AreDone-row}
use Rattle.sf_buchberger.proofs.LoopBounds.{generate, rows_inside, submodule}
use Rattle.sf_buchberger.proofs.QueuedPairs.{IsQueuedPair-append, length-pairs_with, queued_pairs_with, waits_new}
use Rattle.sf_buchberger.proofs.TakenPairs.{IsBelowEach}

-- a queue of pairs in which no degree is below d
pub lowest_pairs : (w : _) (target : List ℤ) (rows : List Vector) (d : ℤ) (queue : List QueuedPair)
    → AllByRecursion (IsQueuedPair w target rows) queue → IsBelowEach d queue
    → AllByRecursion (λ (x : ℕ × ℕ). d ≤ℤ place_degree w target (lcm_place (lead_at rows) x.0 x.1)) (pair_numbers queue)
lowest_pairs w target rows d [] h low = tt
lowest_pairs w target rows d (e ∷ es) h low =
    (subst (λ n. d ≤ℤ n) h.0.degree low.0, lowest_pairs w target rows d es h.1 low.1)

-- a queue of generators in which no degree is below d
pub lowest_inputs : (generators : List Vector) (d : ℤ) (queue : List QueuedPair)
    → AllByRecursion (IsQueuedInput generators) queue → IsBelowEach d queue
    → AllByRecursion (λ (k : ℕ). d ≤ℤ generator_degree (degrees_of generators) k) (input_numbers queue)
lowest_inputs generators d [] h low = tt
lowest_inputs generators d (e ∷ es) h low =
    (subst (λ n. d ≤ℤ n) h.0.degree low.0, lowest_inputs generators d es h.1 low.1)

-- a low lead, by the place where it stands
low_by_place : (w : _) (limit : ℕ) (ts : List (Term Place)) (k : Place) → lead_place ts ≡ k
    → monomial_degree w k.monomial ≤ limit → HasLeadUpTo w limit ts
low_by_place w limit [] k same h = tt
low_by_place w limit (t ∷ ts) k same h = subst (λ (j : Place). monomial_degree w j.monomial ≤ limit) (sym same) h

-- a new row leaves less to do, since it brings fewer pairs than there may be rows
pub fewer_left : (rows pairs waiting before new : ℕ) → rows < GREATEST_SIZE → new ≤ rows
    → pairs + waiting ≤ before
    → (GREATEST_SIZE - (rows + 1)) * (GREATEST_SIZE + 1) + ((pairs + new) + waiting)
    < (GREATEST_SIZE - rows) * (GREATEST_SIZE + 1) + before
fewer_left rows pairs waiting before new few most less = omega arith

module _ (limit : ℕ) (bound : limit ≤ 60) (m : Matrix) (prime : IsOverField m.ring) (weights : m.ring.weights ≡ ones)
    (matrix : IsMatrix m) (size : HasSmallSize m) (g : Growth) (loops : IsLooping limit m g) where
  -- divisions over the ring and the free module of the graph
  pub same_division : (start : Vector) (rest : List (Term Place)) → HasRest g.rows start rest
      → (q : List (Term Place)) × IsDivided m.ring (graph_degrees m) g.rows.rows start.degree start.terms rest q
  same_division start rest h = (
    h.quotients,
    subst (λ r. IsDivided r (graph_degrees m) g.rows.rows start.degree start.terms rest h.quotients) loops.ring
        (subst (λ ds. IsDivided g.rows.ring ds g.rows.rows start.degree start.terms rest h.quotients) loops.target h.divided),
  )

  module _ (start : Vector) (inside : IsGraphVector m start) (t : Term Place) (ts : List (Term Place))
      (rest : HasRest g.rows start (t ∷ ts)) where
    -- the rest is in the graph, and no lead divides its lead
    pub left_inside : IsGraphVector m (record { degree = start.degree; terms = t ∷ ts })
    left_inside =
        let division = same_division start (t ∷ ts) rest in
        rest_inside m.ring (field_ring prime) (graph_degrees m) (IsGraphVector m)
        (submodule limit bound m prime weights matrix size) g.rows.rows
        (rows_inside limit bound m prime weights matrix size g loops) start.degree start.terms (t ∷ ts) division.0 inside
        division.1

    left_free : is_divided g.rows.rows t.at ≡ false
    left_free = (same_division start (t ∷ ts) rest).1.reduced.0

    -- a row that is made of it
    pub left_monic : (v : Vector)
        → IsMadeMonic g.rows.ring t (record { degree = start.degree; terms = t ∷ ts }) v
        → IsMonicRest m.ring (IsGraphVector m) start.degree t ts v
    left_monic v made =
        let made_there : IsMadeMonic m.ring t (record { degree = start.degree; terms = t ∷ ts }) v =
        subst (λ r. IsMadeMonic r t (record { degree = start.degree; terms = t ∷ ts }) v) loops.ring made in
        subst (IsMonicRest m.ring (IsGraphVector m) start.degree t ts) (sym made_there.vector)
        (monic_rest m.ring prime (graph_degrees m) (IsGraphVector m) (submodule limit bound m prime weights matrix size)
        start.degree t ts left_inside made_there.inverse made_there.residue made_there.product)

    -- past the bounds, where all that waits has at least its degree
    pub left_large : IsBelowEach start.degree g.pairs → IsBelowEach start.degree g.waiting
        → IsPastBounds limit g.rows.rows t.at → IsLarge limit m
    left_large low_pairs low_inputs past =
        let lowest : IsLowest m.ring.weights (graph_degrees m) (graph_matrix m).rows g.rows.rows (pair_numbers g.pairs) (input_numbers g.waiting) start.degree = record {
          pairs = lowest_pairs m.ring.weights (graph_degrees m) g.rows.rows start.degree g.pairs loops.queued low_pairs;
          inputs = lowest_inputs (graph_matrix m).rows start.degree g.waiting loops.inputs low_inputs;
        } in
        ⊎_elim
        (λ (above : limit < exponent_sum t.at.monomial).
        grown_above limit m (field_ring prime) (submodule limit bound m prime weights matrix size) (graph_matrix m).rows
        (generate limit bound m prime weights matrix size) g.rows.rows (pair_numbers g.pairs) (input_numbers g.waiting) loops.growing start.degree lowest t ts left_inside left_free
        (subst (λ n. limit < n) (degree_by_ones t.at.monomial ∙ ap (λ w. monomial_degree w t.at.monomial) (sym weights)) above))
        (λ (many : GREATEST_SIZE ≤ length g.rows.rows).
        grown_beyond limit m (field_ring prime) (submodule limit bound m prime weights matrix size) (graph_matrix m).rows
        (generate limit bound m prime weights matrix size) g.rows.rows (pair_numbers g.pairs) (input_numbers g.waiting) loops.growing start.degree lowest t ts left_inside left_free many)
        past

    -- with the row, where all grows and less waits
    module _ (v : Vector) (monic : IsMonicRest m.ring (IsGraphVector m) start.degree t ts v)
        (few : length g.rows.rows < GREATEST_SIZE) (low : exponent_sum t.at.monomial ≤ limit)
        (pairs waiting : List QueuedPair)
        (queued : AllByRecursion (IsQueuedPair m.ring.weights (graph_degrees m) g.rows.rows) pairs)
        (inputs : AllByRecursion (IsQueuedInput (graph_matrix m).rows) waiting)
        (grown : IsGrowing m.ring (IsGraphVector m) (graph_matrix m).rows (g.rows.rows ++ v ∷ []) (pair_numbers pairs ++ pairs_before (length g.rows.rows) (length g.rows.rows)) (input_numbers waiting)) where
      abbrev rows : List Vector
      rows = g.rows.rows

      abbrev new_pairs : List QueuedPair
      new_pairs = pairs_with m.ring.weights (graph_degrees m) rows (lead_place v.terms) (length rows) (length rows)

      growing : IsGrowing m.ring (IsGraphVector m) (graph_matrix m).rows (rows ++ v ∷ []) (pair_numbers (pairs ++ new_pairs)) (input_numbers waiting)
      growing =
          replace_pending m.ring (field_ring prime) (IsGraphVector m) (graph_matrix m).rows (rows ++ v ∷ [])
          (pair_numbers pairs ++ pairs_before (length rows) (length rows)) (pair_numbers (pairs ++ new_pairs)) (input_numbers waiting) grown
          (λ i j pair item.
          inl
          (subst (IsWaiting i j) (sym (map-append (λ (e : QueuedPair). (e.first, e.second)) pairs new_pairs))
          (⊎_elim
          (λ (old : IsWaiting i j (pair_numbers pairs)). IsItem-append_first {X = ℕ × ℕ} (i, j) (pair_numbers pairs) (pair_numbers new_pairs) old)
          (λ (new : IsWaiting i j (pairs_before (length rows) (length rows))).
          IsItem-append_second {X = ℕ × ℕ} (i, j) (pair_numbers pairs) (pair_numbers new_pairs)
          (waits_new m.ring.weights (graph_degrees m) rows v i j pair new))
          (IsItem-append {X = ℕ × ℕ} (i, j) (pair_numbers pairs) (pairs_before (length rows) (length rows)) item))))

      same_pairs : new_pairs ≡ pairs_with ones g.rows.target rows t.at (length rows) (length rows)
      same_pairs = λ k. pairs_with (weights k) (sym loops.target k) rows (monic.lead k) (length rows) (length rows)

      abbrev pub extended : Growth
      extended = with_row (record g { pairs = pairs; waiting = waiting }) v t.at

      pub extended_loops : IsLooping limit m extended
      extended_loops = record {
        ring = loops.ring;
        target = loops.target;
        growing =
            subst (λ l. IsGrowing m.ring (IsGraphVector m) (graph_matrix m).rows (rows ++ v ∷ []) (pair_numbers (pairs ++ l)) (input_numbers waiting)) same_pairs growing;
        queued =
            AllByRecursion-append (IsQueuedPair m.ring.weights (graph_degrees m) (rows ++ v ∷ [])) pairs
            (pairs_with ones g.rows.target rows t.at (length rows) (length rows))
            (AllByRecursion-weaken _ _ (λ e h. IsQueuedPair-append m.ring.weights (graph_degrees m) rows (v ∷ []) e h) pairs queued)
            (subst (AllByRecursion (IsQueuedPair m.ring.weights (graph_degrees m) (rows ++ v ∷ []))) same_pairs
            (queued_pairs_with m.ring.weights (graph_degrees m) rows v (length rows) (omega arith)));
        inputs = inputs;
        few = one_more (length (rows ++ v ∷ [])) (length rows) (length-append rows (v ∷ [])) few;
        low =
            AllByRecursion-append (λ (w : Vector). HasLeadUpTo m.ring.weights limit w.terms) rows (v ∷ []) loops.low (
              low_by_place m.ring.weights limit v.terms t.at monic.lead
                  (subst (λ n. n ≤ limit) (degree_by_ones t.at.monomial ∙ ap (λ w. monomial_degree w t.at.monomial) (sym weights)) low),
              tt,
            );
        places =
            (λ k. loops.places k ++ sym monic.lead k ∷ [])
            ∙ sym (map-append (λ (w : Vector). lead_place w.terms) rows (v ∷ []));
        reduced = AreDone-row m.ring (field_ring prime) rows g.done loops.reduced v;
      }
        where
          one_more : (n r : ℕ) → n ≡ r + 1 → r < GREATEST_SIZE → n ≤ GREATEST_SIZE
          one_more n r h k = omega arith

      pub extended_nearer : length pairs + length waiting ≤ length g.pairs + length g.waiting
          → left_to_do extended < left_to_do g
      extended_nearer less =
          let new = pairs_with ones g.rows.target rows t.at (length rows) (length rows) in
          let most = length-pairs_with ones g.rows.target rows t.at (length rows) (length rows) in
          rw (length-append rows (v ∷ []), length-append pairs new)
          (fewer_left (length rows) (length pairs) (length waiting) (length g.pairs + length g.waiting) (length new) few most less)
