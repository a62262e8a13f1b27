-- What becomes of a generator that is taken: it no longer waits, or its rest is a new row; past the bounds the matrix
-- is large.
use Rattle.std.proofs.Common.{◌≡◌, ℕ, ◌<◌, ◌≤◌, List, [], ◌∷◌, ◌++◌, length, sym, ◌∙◌, ap, subst, arith, ◌≤ℤ◌}
use Rattle.std.specs.List.{AllByRecursion}
use Rattle.std.proofs.lemmas.List.{map-append}
use Rattle.sf_algebra.specs.Bounds.{HasSmallSize}
use Rattle.sf_algebra.specs.Matrices.{Matrix, IsMatrix, degrees_of}
use Rattle.sf_algebra.specs.Rings.{IsOverField, ones}
use Rattle.sf_algebra.specs.Vectors.{Vector, generator_degree}
use Rattle.sf_algebra.proofs.Monomials.Weights.{field_ring}
use Rattle.sf_groebner.specs.GraphRows.{graph_matrix}
use Rattle.sf_groebner.specs.Spans.{IsGraphVector, graph_degrees}
use Rattle.sf_groebner.proofs.PairLoops.GrowingBases.{IsGrowing, IsLowest}
use Rattle.sf_groebner.proofs.PairLoops.GrowthSteps.{generator_grown, generator_spent}
use Rattle.sf_groebner.proofs.PairLoops.PendingPairs.{pairs_before}
use Rattle.sf_groebner.proofs.Spanning.CombinationSums.{row_vector}
use Rattle.sf_pairs.specs.Queue.{IsTaken, QueuedPair, pair_of}
use Rattle.sf_matrix.specs.declared.basis.BaseFault.TheVariants.{Large, Memory}
use Rattle.sf_matrix.specs.declared.basis.BaseFault.{BaseFault}
use Rattle.sf_buchberger.specs.GraphBases.{IsFault}
use Rattle.sf_buchberger.specs.GrowthSteps.{CanDivide, HasRest, IsDividedAs, IsGrownBy, IsGrowthFault}
use Rattle.sf_buchberger.specs.Loops.{IsLooping, IsNearer}
use Rattle.sf_buchberger.specs.QueuedPairs.{IsFirst, IsQueuedInput, input_numbers, pair_numbers}
use Rattle.sf_buchberger.specs.declared.growth.state.Growth.{Growth}
use Rattle.sf_buchberger.specs.declared.growth.state.Outcome.TheVariants.{Dropped, Grown, Zero}
use Rattle.sf_buchberger.specs.declared.growth.state.Outcome.{Outcome}
use Rattle.sf_buchberger.proofs.LoopBounds.{can_divide_generator, generate, generator_inside, submodule}
use Rattle.sf_buchberger.proofs.LoopSteps.{extended_loops, extended_nearer, left_large, left_monic, lowest_inputs, lowest_pairs, same_division}
use Rattle.sf_buchberger.proofs.TakenPairs.{queued_left, queued_taken, length-taken, taken_below, taken_below_other}

module _ (limit : ℕ) (bound : limit ≤ 60) (m : Matrix) (prime : IsOverField m.ring) (weights : m.ring.weights ≡ ones)
    (matrix : IsMatrix m) (size : HasSmallSize m) (g : Growth) (loops : IsLooping limit m g) where
  -- a generator that was taken
  module _ (first : IsFirst g.waiting g.pairs) (at k l : ℕ) (left : List QueuedPair)
      (taken : IsTaken at g.waiting k l left) where
    taken_input : IsQueuedInput (graph_matrix m).rows (pair_of taken.degree k l)
    taken_input =
        queued_taken (IsQueuedInput (graph_matrix m).rows) taken.before taken.after (pair_of taken.degree k l)
        (subst (AllByRecursion (IsQueuedInput (graph_matrix m).rows)) taken.whole loops.inputs)

    pub input_within : k < length (graph_matrix m).rows
    input_within = taken_input.within

    abbrev input : Vector
    input = row_vector (graph_matrix m).rows k

    input_inside : IsGraphVector m input
    input_inside = generator_inside limit bound m prime weights matrix size k input_within

    left_inputs : AllByRecursion (IsQueuedInput (graph_matrix m).rows) left
    left_inputs =
        subst (AllByRecursion (IsQueuedInput (graph_matrix m).rows)) (sym taken.rest)
        (queued_left (IsQueuedInput (graph_matrix m).rows) taken.before taken.after (pair_of taken.degree k l)
        (subst (AllByRecursion (IsQueuedInput (graph_matrix m).rows)) taken.whole loops.inputs))

    before_inputs : input_numbers g.waiting ≡ input_numbers taken.before ++ k ∷ input_numbers taken.after
    before_inputs =
        ap input_numbers taken.whole
        ∙ map-append (λ (e : QueuedPair). e.first) taken.before (pair_of taken.degree k l ∷ taken.after)

    after_inputs : input_numbers taken.before ++ input_numbers taken.after ≡ input_numbers left
    after_inputs =
        sym (map-append (λ (e : QueuedPair). e.first) taken.before taken.after) ∙ ap input_numbers (sym taken.rest)

    growing : IsGrowing m.ring (IsGraphVector m) (graph_matrix m).rows g.rows.rows (pair_numbers g.pairs) (input_numbers taken.before ++ k ∷ input_numbers taken.after)
    growing =
        subst (IsGrowing m.ring (IsGraphVector m) (graph_matrix m).rows g.rows.rows (pair_numbers g.pairs)) before_inputs loops.growing

    low_pairs : AllByRecursion (λ (e : QueuedPair). input.degree ≤ℤ e.degree) g.pairs
    low_pairs =
        subst (λ d. AllByRecursion (λ (e : QueuedPair). d ≤ℤ e.degree) g.pairs) taken_input.degree (taken_below_other g.waiting g.pairs first at k l left taken)

    low_inputs : AllByRecursion (λ (e : QueuedPair). input.degree ≤ℤ e.degree) g.waiting
    low_inputs =
        subst (λ d. AllByRecursion (λ (e : QueuedPair). d ≤ℤ e.degree) g.waiting) taken_input.degree (taken_below g.waiting g.pairs first at k l left taken)

    -- where there is no rest it no longer waits
    input_spent : HasRest g.rows input [] → IsNearer limit m g (record g { waiting = left })
    input_spent rest =
        let division = same_division limit bound m prime weights matrix size g loops input [] rest in
        record {
          loops = record {
            ring = loops.ring;
            target = loops.target;
            growing = subst (IsGrowing m.ring (IsGraphVector m) (graph_matrix m).rows g.rows.rows (pair_numbers g.pairs)) after_inputs
                (generator_spent m.ring (field_ring prime) (graph_degrees m) (IsGraphVector m) (submodule limit bound m prime weights matrix size) (graph_matrix m).rows (generate limit bound m prime weights matrix size) g.rows.rows (pair_numbers g.pairs) (input_numbers taken.before) (input_numbers taken.after) k growing division.0 division.1);
            queued = loops.queued;
            inputs = left_inputs;
            few = loops.few;
            low = loops.low;
            places = loops.places;
            reduced = loops.reduced;
          };
          nearer = omega (arith, length-taken g.waiting g.pairs first at k l left taken);
        }

    -- where there is one it is a new row
    input_grown : (after : Growth) → IsGrownBy limit (record g { waiting = left }) input after → IsNearer limit m g after
    input_grown after grown =
        let t = grown.lead in
        let ts = grown.tail in
        let division = same_division limit bound m prime weights matrix size g loops input (t ∷ ts) grown.rest in
        let v = grown.extended.row in
        let monic = left_monic limit bound m prime weights matrix size g loops input input_inside t ts grown.rest v grown.extended.monic in
        let lowest : IsLowest m.ring.weights (graph_degrees m) (graph_matrix m).rows g.rows.rows (pair_numbers g.pairs) (input_numbers taken.before ++ k ∷ input_numbers taken.after) input.degree = record {
          pairs = lowest_pairs m.ring.weights (graph_degrees m) g.rows.rows input.degree g.pairs loops.queued low_pairs;
          inputs = subst (AllByRecursion (λ (n : ℕ). input.degree ≤ℤ generator_degree (degrees_of (graph_matrix m).rows) n)) before_inputs
              (lowest_inputs (graph_matrix m).rows input.degree g.waiting loops.inputs low_inputs);
        } in
        let larger = subst (IsGrowing m.ring (IsGraphVector m) (graph_matrix m).rows (g.rows.rows ++ v ∷ []) (pair_numbers g.pairs ++ pairs_before (length g.rows.rows) (length g.rows.rows))) after_inputs
        (generator_grown m.ring (field_ring prime) (graph_degrees m) (IsGraphVector m) (submodule limit bound m prime weights matrix size) (graph_matrix m).rows (generate limit bound m prime weights matrix size) g.rows.rows (pair_numbers g.pairs) (input_numbers taken.before) (input_numbers taken.after) k growing input_within lowest t ts division.0 division.1 v monic) in
        subst (IsNearer limit m g) (sym grown.extended.added)
        (record {
          loops = extended_loops limit bound m prime weights matrix size g loops input input_inside t ts grown.rest v monic grown.extended.few grown.extended.low g.pairs left loops.queued left_inputs larger;
          nearer = extended_nearer limit bound m prime weights matrix size g loops input input_inside t ts grown.rest v monic grown.extended.few grown.extended.low g.pairs left loops.queued left_inputs larger
              (omega (arith, length-taken g.waiting g.pairs first at k l left taken));
        })

    pub input_nearer : (outcome : Outcome) (after : Growth) → IsDividedAs limit (record g { waiting = left }) input outcome after
        → IsNearer limit m g after
    input_nearer Dropped after h = absurd h
    input_nearer Zero after h = subst (IsNearer limit m g) (sym h.1) (input_spent h.0)
    input_nearer Grown after h = input_grown after h

    pub input_fault : (fault : BaseFault) → IsGrowthFault limit m g.rows input fault → IsFault limit m fault
    input_fault Memory h = tt
    input_fault (Large r c) h = (
      h.0,
      h.1,
      left_large limit bound m prime weights matrix size g loops input input_inside h.2.lead h.2.tail h.2.rest low_pairs low_inputs h.2.past,
    )

    -- it can be divided
    pub input_divides : CanDivide limit (record g { waiting = left }) input
    input_divides =
        let can = can_divide_generator limit bound m prime weights matrix size g loops k input_within in
        record { vector = can.vector; monic = can.monic; places = can.places; room = can.room; low = can.low }
