-- The bounds of what Buchberger's algorithm meets over the graph of a small matrix: the degrees of generators, and of
-- pairs whose leads are low, have room.
use Rattle.std.proofs.Common.{◌≡◌, ℕ, ◌<◌, ◌≤◌, List, [], ◌∷◌, length, sym, subst, arith, ℤ, pos, neg_ℤ, ◌+ℤ◌, ◌≤ℤ◌}
use Rattle.std.specs.List.{AllByRecursion}
use Rattle.std.proofs.lemmas.Int.{ints}
use Rattle.std.proofs.lemmas.List.{length-map}
use Rattle.std.proofs.lemmas.Option.{slice_get-get_or}
use Rattle.sf_algebra.specs.Bounds.{GREATEST_SUM, HasSmallSize, IsSmallDegree}
use Rattle.sf_algebra.specs.Matrices.{Matrix, IsMatrix, degrees_of, row_degrees}
use Rattle.sf_algebra.specs.Monomials.{exponent_sum, monomial_degree}
use Rattle.sf_algebra.specs.Rings.{IsOverField, ones}
use Rattle.sf_algebra.specs.Terms.{Term}
use Rattle.sf_algebra.specs.Vectors.{Place, Vector, IsHomogeneous, IsVector, generator_degree, place_degree}
use Rattle.sf_algebra.proofs.Basics.Lists.{AllByRecursion-append, AllByRecursion-get, AllByRecursion-weaken}
use Rattle.sf_algebra.proofs.Monomials.Weights.{degree_by_ones, field_ring}
use Rattle.sf_groebner.specs.Criterion.{IsPair, lcm_place, lead_at, lead_place, s_vector, s_coefficients}
use Rattle.sf_groebner.specs.GraphRows.{graph_matrix}
use Rattle.sf_groebner.specs.ReducedBases.{IsMonic}
use Rattle.sf_groebner.specs.Small.{HasLeadUpTo}
use Rattle.sf_groebner.specs.Spans.{IsGraphVector, graph_degrees}
use Rattle.sf_groebner.proofs.Constructions.MonicVectors.{AllByRecursion-row_at, IsMonicVector}
use Rattle.sf_groebner.proofs.PairLoops.HomogeneousPairs.{s_coefficients-homogeneous}
use Rattle.sf_groebner.proofs.PairTheorems.MonicRows.{IsMonic-shape}
use Rattle.sf_groebner.proofs.Spanning.CombinationSums.{row_vector}
use Rattle.sf_groebner.proofs.Spanning.Generators.{AreGenerators}
use Rattle.sf_groebner.proofs.Spanning.GraphGenerators.{graph_submodule}
use Rattle.sf_groebner.proofs.Spanning.GraphMatrices.{degrees-with_units, graph_matrix-generators}
use Rattle.sf_groebner.proofs.Spanning.Submodules.{IsSubmodule}
use Rattle.sf_matrix.specs.Bounds.{DegreeFits, IsDegree}
use Rattle.sf_buchberger.specs.GrowthSteps.{CanDivide, CanDividePair, pair_vector}
use Rattle.sf_buchberger.specs.Loops.{IsLooping}
use Rattle.sf_buchberger.specs.declared.growth.state.Growth.{Growth}
use Rattle.sf_buchberger.proofs.MonicMultiples.{exponent_sum-lcm}

-- the degrees that are met: those of a small matrix, and as much above as least common multiples of low leads are
abbrev pub IsMetDegree : ℤ → Type 0
IsMetDegree d = (neg_ℤ (pos 8000) ≤ℤ d) × (d ≤ℤ pos 8120)

pub IsDegree-met : (d : ℤ) → IsMetDegree d → IsDegree d
IsDegree-met d h = (omega (arith, ints, h.0), omega (arith, ints, h.1))

-- an exponent sum of a lead that is low
low_lead : (limit : ℕ) (ts : List (Term Place)) → HasLeadUpTo ones limit ts → exponent_sum (lead_place ts).monomial ≤ limit
low_lead limit [] h = omega arith
low_lead limit (t ∷ ts) h = subst (λ n. n ≤ limit) (sym (degree_by_ones t.at.monomial)) h

module _ (limit : ℕ) (bound : limit ≤ 60) (m : Matrix) (prime : IsOverField m.ring) (weights : m.ring.weights ≡ ones)
    (matrix : IsMatrix m) (size : HasSmallSize m) where
  -- the graph's module, and its generators
  pub submodule : IsSubmodule m.ring (graph_degrees m) (IsGraphVector m)
  submodule = graph_submodule m (field_ring prime) prime.prime.above_one matrix

  pub generate : AreGenerators m.ring (IsGraphVector m) (graph_matrix m).rows
  generate = graph_matrix-generators m (field_ring prime) prime.prime.above_one matrix

  -- the degrees of the graph's free module are small
  small_degrees : AllByRecursion IsSmallDegree (graph_degrees m)
  small_degrees = AllByRecursion-append IsSmallDegree m.target (row_degrees m) size.column_degrees size.row_degrees

  small_degree : (i : ℕ) → i < length (graph_degrees m) → IsSmallDegree (generator_degree (graph_degrees m) i)
  small_degree i h =
      AllByRecursion-get IsSmallDegree (graph_degrees m) i _ small_degrees (slice_get-get_or (graph_degrees m) i (pos 0) h)

  -- a degree that is met has room
  DegreeFits-met : (d : ℤ) → IsMetDegree d → DegreeFits (graph_degrees m) d
  DegreeFits-met d h = AllByRecursion-weaken _ _ (λ e small. fits e small) (graph_degrees m) small_degrees
    where
      fits : (e : ℤ) → IsSmallDegree e → d ≤ℤ (e +ℤ pos GREATEST_SUM)
      fits e small = omega (arith, ints, h.1, small.0)

  -- a generator
  pub generator_inside : (k : ℕ) → k < length (graph_matrix m).rows → IsGraphVector m (row_vector (graph_matrix m).rows k)
  generator_inside =
      AllByRecursion-row_at (λ d ts. IsGraphVector m (record { degree = d; terms = ts })) (graph_matrix m).rows generate.inside

  generator_met : (k : ℕ) → k < length (graph_matrix m).rows
      → IsMetDegree (generator_degree (degrees_of (graph_matrix m).rows) k)
  generator_met k h =
      met (AllByRecursion-get IsSmallDegree (degrees_of (graph_matrix m).rows) k _ degrees
      (slice_get-get_or (degrees_of (graph_matrix m).rows) k (pos 0) (simp length-map h)))
    where
      degrees : AllByRecursion IsSmallDegree (degrees_of (graph_matrix m).rows)
      degrees = subst (AllByRecursion IsSmallDegree) (sym (degrees-with_units (length m.target) m.rows)) size.row_degrees

      met : {d : ℤ} → IsSmallDegree d → IsMetDegree d
      met h = (omega (arith, ints, h.0), omega (arith, ints, h.1))

  module _ (g : Growth) (loops : IsLooping limit m g) where
    pub rows_vectors : AllByRecursion (IsMonicVector m.ring (graph_degrees m)) g.rows.rows
    rows_vectors =
        AllByRecursion-weaken _ _
        (λ v h. record { vector = submodule.module_like.vectors v h.0; monic = h.1 }) g.rows.rows loops.growing.monic

    pub rows_monic : AllByRecursion (λ (v : Vector). IsMonic v.terms) g.rows.rows
    rows_monic = AllByRecursion-weaken _ _ (λ v h. h.1) g.rows.rows loops.growing.monic

    pub rows_inside : AllByRecursion (IsGraphVector m) g.rows.rows
    rows_inside = AllByRecursion-weaken _ _ (λ v h. h.0) g.rows.rows loops.growing.monic

    rows_low : AllByRecursion (λ (v : Vector). HasLeadUpTo ones limit v.terms) g.rows.rows
    rows_low = subst (λ w. AllByRecursion (λ (v : Vector). HasLeadUpTo w limit v.terms) g.rows.rows) weights loops.low

    -- a vector of the graph of a degree that is met can be divided
    can_divide : (start : Vector) → IsGraphVector m start → IsMetDegree start.degree → CanDivide limit g start
    can_divide start inside met = record {
      vector =
          subst (λ r. IsVector r g.rows.target start) (sym loops.ring)
          (subst (λ ds. IsVector m.ring ds start) (sym loops.target) inside.vector);
      monic = rows_monic;
      places = loops.places;
      room = subst (λ ds. DegreeFits ds start.degree) (sym loops.target) (DegreeFits-met start.degree met);
      low = rows_low;
    }

    pub can_divide_generator : (k : ℕ) → k < length (graph_matrix m).rows
        → CanDivide limit g (row_vector (graph_matrix m).rows k)
    can_divide_generator k h = can_divide (row_vector (graph_matrix m).rows k) (generator_inside k h) (generator_met k h)

    module _ (i j : ℕ) (pair : IsPair g.rows.rows i j) where
      pub first_in : i < length g.rows.rows
      first_in = omega (arith, pair.earlier, pair.later)

      lead_low : (k : ℕ) → k < length g.rows.rows → exponent_sum (lead_at g.rows.rows k).monomial ≤ limit
      lead_low =
          AllByRecursion-row_at (λ d ts. exponent_sum (lead_place ts).monomial ≤ limit) g.rows.rows
          (AllByRecursion-weaken _ _ (λ v h. low_lead limit v.terms h) g.rows.rows rows_low)

      lcm_low : exponent_sum (lcm_place (lead_at g.rows.rows) i j).monomial ≤ 120
      lcm_low =
          omega (arith, exponent_sum-lcm (lead_at g.rows.rows i).monomial (lead_at g.rows.rows j).monomial, lead_low i first_in, lead_low j pair.later, bound)

      lead_inside : (lead_at g.rows.rows i).position < length (graph_degrees m)
      lead_inside =
          let row = AllByRecursion-row_at (λ d ts. IsMonicVector m.ring (graph_degrees m) (record { degree = d; terms = ts })) g.rows.rows rows_vectors i first_in in
          (subst (IsHomogeneous m.ring.weights (graph_degrees m) _) (IsMonic-shape _ row.monic) row.vector.homogeneous).0.0

      abbrev pub graph_pair : Vector
      graph_pair = record {
        degree = place_degree m.ring.weights (graph_degrees m) (lcm_place (lead_at g.rows.rows) i j);
        terms = s_vector m.ring g.rows.rows i j;
      }

      pair_met : IsMetDegree graph_pair.degree
      pair_met =
          subst (λ w. IsMetDegree (place_degree w (graph_degrees m) (lcm_place (lead_at g.rows.rows) i j))) (sym weights)
          (sums (generator_degree (graph_degrees m) (lead_at g.rows.rows i).position) (monomial_degree ones (lcm_place (lead_at g.rows.rows) i j).monomial)
          (small_degree (lead_at g.rows.rows i).position lead_inside)
          (subst (λ n. n ≤ 120) (degree_by_ones (lcm_place (lead_at g.rows.rows) i j).monomial) lcm_low))
        where
          sums : (e : ℤ) (n : ℕ) → IsSmallDegree e → n ≤ 120 → IsMetDegree (e +ℤ pos n)
          sums e n h k = (omega (arith, ints, h.0), omega (arith, ints, h.1, k))

      pub pair_inside : IsGraphVector m graph_pair
      pair_inside =
          submodule.combinations g.rows.rows rows_inside graph_pair.degree (s_coefficients m.ring.modulus (lead_at g.rows.rows) i j)
          (s_coefficients-homogeneous m.ring (field_ring prime) (graph_degrees m) g.rows.rows rows_vectors i j first_in pair.later pair.positions)

      -- the same degree, and the same vector, as the program has it
      same_degree : (pair_vector g.rows i j).degree ≡ graph_pair.degree
      same_degree = λ k. place_degree (sym weights k) (loops.target k) (lcm_place (lead_at g.rows.rows) i j)

      pub same_vector : pair_vector g.rows i j ≡ graph_pair
      same_vector = λ k. record { degree = same_degree k; terms = s_vector (loops.ring k) g.rows.rows i j }

      pub can_divide_pair : CanDividePair limit g i j
      can_divide_pair = record {
        pair = pair;
        first = first_in;
        lcm_room = omega (arith, lcm_low);
        lcm_degree = subst IsDegree (sym same_degree) (IsDegree-met graph_pair.degree pair_met);
        divide = subst (CanDivide limit g) (sym same_vector) (can_divide graph_pair pair_inside pair_met);
      }
