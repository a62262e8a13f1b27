-- What becomes of a pair that is taken: it reduces to zero, or its rest is a new row; past the bounds the matrix is
-- large.
use Rattle.std.proofs.Common.{◌≡◌, ℕ, ◌<◌, ◌≤◌, List, [], ◌∷◌, ◌++◌, length, sym, ◌∙◌, ap, subst, arith, ◌≤ℤ◌}
use Rattle.std.specs.declared.cmp.Ordering.TheVariants.{Less}
use Rattle.std.specs.List.{AllByRecursion}
use Rattle.std.proofs.lemmas.List.{map-append}
use Rattle.sf_algebra.specs.Bounds.{HasSmallSize}
use Rattle.sf_algebra.specs.Matrices.{Matrix, IsMatrix}
use Rattle.sf_algebra.specs.Rings.{IsOverField, ones}
use Rattle.sf_algebra.specs.Vectors.{Vector, place_cmp, place_degree}
use Rattle.sf_algebra.proofs.Basics.Lists.{AllByRecursion-weaken}
use Rattle.sf_algebra.proofs.Monomials.Weights.{field_ring}
use Rattle.sf_groebner.specs.Criterion.{IsMonicRow, IsPair, ReducesToZero, lcm_place, lead_at, lead_place}
use Rattle.sf_groebner.specs.GraphRows.{graph_matrix}
use Rattle.sf_groebner.specs.Spans.{IsGraphVector, graph_degrees}
use Rattle.sf_groebner.proofs.PairLoops.GrowingBases.{IsGrowing, IsLowest, drop_pair}
use Rattle.sf_groebner.proofs.PairLoops.GrowingRows.{ReducesToZero-new_row}
use Rattle.sf_groebner.proofs.PairLoops.GrowthSteps.{pair_grown}
use Rattle.sf_groebner.proofs.PairLoops.HomogeneousPairs.{ReducesToZero-division}
use Rattle.sf_groebner.proofs.PairLoops.PendingPairs.{pairs_before}
use Rattle.sf_groebner.proofs.PairTheorems.SVectors.{s_vector-below}
use Rattle.sf_pairs.specs.Queue.{IsTaken, QueuedPair, pair_of}
use Rattle.sf_matrix.specs.declared.basis.BaseFault.TheVariants.{Large, Memory}
use Rattle.sf_matrix.specs.declared.basis.BaseFault.{BaseFault}
use Rattle.sf_buchberger.specs.DonePairs.{with_new_row}
use Rattle.sf_buchberger.specs.GraphBases.{IsFault}
use Rattle.sf_buchberger.specs.GrowthSteps.{CanDividePair, HasRest, IsGrownBy, IsGrowthFault, IsHandledAs, IsPairHandled, IsPastBoundsBy, pair_vector, with_pair}
use Rattle.sf_buchberger.specs.Loops.{IsLooping, IsNearer}
use Rattle.sf_buchberger.specs.QueuedPairs.{IsFirst, IsQueuedPair, input_numbers, pair_numbers}
use Rattle.sf_buchberger.specs.declared.growth.state.Growth.{Growth}
use Rattle.sf_buchberger.specs.declared.growth.state.Outcome.TheVariants.{Dropped, Grown, Zero}
use Rattle.sf_buchberger.specs.declared.growth.state.Outcome.{Outcome}
use Rattle.sf_buchberger.proofs.DoneTables.{AreDone-pair, IsChained-reduces}
use Rattle.sf_buchberger.proofs.LoopBounds.{can_divide_pair, first_in, generate, graph_pair, pair_inside, rows_vectors, same_vector, submodule}
use Rattle.sf_buchberger.proofs.LoopSteps.{extended_loops, extended_nearer, left_large, left_monic, lowest_inputs, lowest_pairs, same_division}
use Rattle.sf_buchberger.proofs.TakenPairs.{queued_left, queued_taken, length-taken, taken_below, taken_below_other}

module _ (limit : ℕ) (bound : limit ≤ 60) (m : Matrix) (prime : IsOverField m.ring) (weights : m.ring.weights ≡ ones)
    (matrix : IsMatrix m) (size : HasSmallSize m) (g : Growth) (loops : IsLooping limit m g) where
  -- a pair that was taken
  module _ (first : IsFirst g.pairs g.waiting) (at i j : ℕ) (left : List QueuedPair) (taken : IsTaken at g.pairs i j left) where
    abbrev rows : List Vector
    rows = g.rows.rows

    abbrev Queued : QueuedPair → Type 0
    Queued e = IsQueuedPair m.ring.weights (graph_degrees m) rows e

    taken_pair : Queued (pair_of taken.degree i j)
    taken_pair =
        queued_taken Queued taken.before taken.after (pair_of taken.degree i j) (subst (AllByRecursion Queued) taken.whole loops.queued)

    pair : IsPair rows i j
    pair = taken_pair.pair

    i_in : i < length rows
    i_in = first_in limit bound m prime weights matrix size g loops i j pair

    abbrev start : Vector
    start = graph_pair limit bound m prime weights matrix size g loops i j pair

    start_inside : IsGraphVector m start
    start_inside = pair_inside limit bound m prime weights matrix size g loops i j pair

    same_start : pair_vector g.rows i j ≡ start
    same_start = same_vector limit bound m prime weights matrix size g loops i j pair

    left_pairs : AllByRecursion Queued left
    left_pairs =
        subst (AllByRecursion Queued) (sym taken.rest)
        (queued_left Queued taken.before taken.after (pair_of taken.degree i j) (subst (AllByRecursion Queued) taken.whole loops.queued))

    before_pairs : pair_numbers g.pairs ≡ pair_numbers taken.before ++ (i, j) ∷ pair_numbers taken.after
    before_pairs =
        ap pair_numbers taken.whole
        ∙ map-append (λ (e : QueuedPair). (e.first, e.second)) taken.before (pair_of taken.degree i j ∷ taken.after)

    after_pairs : pair_numbers taken.before ++ pair_numbers taken.after ≡ pair_numbers left
    after_pairs =
        sym (map-append (λ (e : QueuedPair). (e.first, e.second)) taken.before taken.after) ∙ ap pair_numbers (sym taken.rest)

    growing_pair : IsGrowing m.ring (IsGraphVector m) (graph_matrix m).rows rows (pair_numbers taken.before ++ (i, j) ∷ pair_numbers taken.after) (input_numbers g.waiting)
    growing_pair =
        subst (λ l. IsGrowing m.ring (IsGraphVector m) (graph_matrix m).rows rows l (input_numbers g.waiting)) before_pairs loops.growing

    low_left : AllByRecursion (λ (e : QueuedPair). start.degree ≤ℤ e.degree) g.pairs
    low_left =
        subst (λ d. AllByRecursion (λ (e : QueuedPair). d ≤ℤ e.degree) g.pairs) taken_pair.degree (taken_below g.pairs g.waiting first at i j left taken)

    low_waiting : AllByRecursion (λ (e : QueuedPair). start.degree ≤ℤ e.degree) g.waiting
    low_waiting =
        subst (λ d. AllByRecursion (λ (e : QueuedPair). d ≤ℤ e.degree) g.waiting) taken_pair.degree (taken_below_other g.pairs g.waiting first at i j left taken)

    -- where it reduces to zero it no longer waits
    pair_done : ReducesToZero m.ring rows i j → IsNearer limit m g (with_pair (record g { pairs = left }) i j)
    pair_done r = record {
      loops = record {
        ring = loops.ring;
        target = loops.target;
        growing = subst (λ l. IsGrowing m.ring (IsGraphVector m) (graph_matrix m).rows rows l (input_numbers g.waiting)) after_pairs
            (drop_pair m.ring (field_ring prime) (IsGraphVector m) (graph_matrix m).rows rows (pair_numbers taken.before) (pair_numbers taken.after) i j (input_numbers g.waiting) growing_pair (λ p. r));
        queued = left_pairs;
        inputs = loops.inputs;
        few = loops.few;
        low = loops.low;
        places = loops.places;
        reduced = AreDone-pair m.ring (field_ring prime) rows g.done loops.reduced i j r;
      };
      nearer = omega (arith, length-taken g.pairs g.waiting first at i j left taken);
    }

    pair_zero : HasRest g.rows (pair_vector g.rows i j) [] → ReducesToZero m.ring rows i j
    pair_zero rest =
        let division = same_division limit bound m prime weights matrix size g loops start [] (subst (λ v. HasRest g.rows v []) same_start rest) in
        ReducesToZero-division m.ring (field_ring prime) (graph_degrees m) rows (rows_vectors limit bound m prime weights matrix size g loops) i j i_in pair.later pair.positions start.degree division.0 division.1

    -- where there is a rest it is a new row
    pair_extended : (divided : Growth) → IsGrownBy limit (record g { pairs = left }) start divided
        → IsNearer limit m g (with_pair divided i j)
    pair_extended divided grown =
        let t = grown.lead in
        let ts = grown.tail in
        let division = same_division limit bound m prime weights matrix size g loops start (t ∷ ts) grown.rest in
        let v = grown.extended.row in
        let monic = left_monic limit bound m prime weights matrix size g loops start start_inside t ts grown.rest v grown.extended.monic in
        let lowest : IsLowest m.ring.weights (graph_degrees m) (graph_matrix m).rows rows (pair_numbers taken.before ++ (i, j) ∷ pair_numbers taken.after) (input_numbers g.waiting) start.degree = record {
          pairs = subst (AllByRecursion (λ (x : ℕ × ℕ). start.degree ≤ℤ place_degree m.ring.weights (graph_degrees m) (lcm_place (lead_at rows) x.0 x.1))) before_pairs
              (lowest_pairs m.ring.weights (graph_degrees m) rows start.degree g.pairs loops.queued low_left);
          inputs = lowest_inputs (graph_matrix m).rows start.degree g.waiting loops.inputs low_waiting;
        } in
        let larger = subst (λ l. IsGrowing m.ring (IsGraphVector m) (graph_matrix m).rows (rows ++ v ∷ []) (l ++ pairs_before (length rows) (length rows)) (input_numbers g.waiting)) after_pairs
        (pair_grown m.ring (field_ring prime) (graph_degrees m) (IsGraphVector m) (submodule limit bound m prime weights matrix size) (graph_matrix m).rows (generate limit bound m prime weights matrix size) rows (pair_numbers taken.before) (pair_numbers taken.after) i j (input_numbers g.waiting) growing_pair pair lowest t ts division.0 division.1 v monic) in
        let monic_rows : AllByRecursion (IsMonicRow m.ring) rows =
        AllByRecursion-weaken _ _ (λ w h. record { canonical = h.vector.canonical; monic = h.monic }) rows (rows_vectors limit bound m prime weights matrix size g loops) in
        let below = division.1.below (lcm_place (lead_at rows) i j) (s_vector-below m.ring (field_ring prime) rows monic_rows i j i_in pair.later pair.positions) in
        let less : place_cmp m.ring.weights (lead_place v.terms) (lcm_place (lead_at rows) i j) ≡ Less =
        ap (λ k. place_cmp m.ring.weights k (lcm_place (lead_at rows) i j)) monic.lead ∙ below.0.0 in
        let r = ReducesToZero-new_row m.ring (field_ring prime) rows i j (t ∷ ts) (record { steps = division.0; below = below.1; sum = division.1.sum }) i_in pair.later v t.coefficient monic.back less in
        let loops_then = extended_loops limit bound m prime weights matrix size g loops start start_inside t ts grown.rest v monic grown.extended.few grown.extended.low left g.waiting left_pairs loops.inputs larger in
        let nearer_then = extended_nearer limit bound m prime weights matrix size g loops start start_inside t ts grown.rest v monic grown.extended.few grown.extended.low left g.waiting left_pairs loops.inputs larger
        (omega (arith, length-taken g.pairs g.waiting first at i j left taken)) in
        subst (λ (h : Growth). IsNearer limit m g (with_pair h i j)) (sym grown.extended.added)
        (record {
          loops = record {
            ring = loops_then.ring;
            target = loops_then.target;
            growing = loops_then.growing;
            queued = loops_then.queued;
            inputs = loops_then.inputs;
            few = loops_then.few;
            low = loops_then.low;
            places = loops_then.places;
            reduced = AreDone-pair m.ring (field_ring prime) (rows ++ v ∷ []) (with_new_row g.done) loops_then.reduced i j r;
          };
          nearer = nearer_then;
        })

    pair_handled : (outcome : Outcome) (divided : Growth) → IsHandledAs limit (record g { pairs = left }) i j outcome divided
        → IsNearer limit m g (with_pair divided i j)
    pair_handled Dropped divided h =
        subst (λ (d : Growth). IsNearer limit m g (with_pair d i j)) (sym h.1)
        (pair_done (IsChained-reduces m.ring (field_ring prime) rows g.done loops.reduced i j pair h.0))
    pair_handled Zero divided h =
        subst (λ (d : Growth). IsNearer limit m g (with_pair d i j)) (sym h.1) (pair_done (pair_zero h.0))
    pair_handled Grown divided h =
        pair_extended divided (subst (λ (v : Vector). IsGrownBy limit (record g { pairs = left }) v divided) same_start h)

    pub pair_nearer : (outcome : Outcome) (after : Growth) → IsPairHandled limit (record g { pairs = left }) i j outcome after
        → IsNearer limit m g after
    pair_nearer outcome after h = subst (IsNearer limit m g) (sym h.done) (pair_handled outcome h.divided h.handled)

    pub pair_fault : (fault : BaseFault) → IsGrowthFault limit m g.rows (pair_vector g.rows i j) fault → IsFault limit m fault
    pair_fault Memory h = tt
    pair_fault (Large r c) h =
        let past = subst (λ (v : Vector). IsPastBoundsBy limit g.rows v) same_start h.2 in (
          h.0,
          h.1,
          left_large limit bound m prime weights matrix size g loops start start_inside past.lead past.tail past.rest low_left low_waiting past.past,
        )

    -- its S-vector can be divided
    pub pair_divides : CanDividePair limit (record g { pairs = left }) i j
    pair_divides =
        let can = can_divide_pair limit bound m prime weights matrix size g loops i j pair in
        record {
          pair = can.pair;
          first = can.first;
          lcm_room = can.lcm_room;
          lcm_degree = can.lcm_degree;
          divide = record {
            vector = can.divide.vector;
            monic = can.divide.monic;
            places = can.divide.places;
            room = can.divide.room;
            low = can.divide.low;
          };
        }
