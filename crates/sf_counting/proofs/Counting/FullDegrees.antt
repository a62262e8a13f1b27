-- In a degree in which rows are full each vector of the graph over n variables is divided by the rows without a rest: so
-- it is a combination of them, and a pair of this degree reduces to zero.
use Rattle.std.proofs.Common.{ℕ, ◌<◌, List, [], ◌∷◌, ◌++◌, length, refl, sym, ◌∙◌, subst, arith, ℤ}
use Rattle.sf_algebra.specs.Divisibility.{lcm}
use Rattle.sf_algebra.specs.Matrices.{Matrix, IsMatrix}
use Rattle.sf_algebra.specs.MatrixOperations.{row_at, row_combination}
use Rattle.sf_algebra.specs.Multiples.{negative}
use Rattle.sf_algebra.specs.Rings.{IsRing, IsOverField}
use Rattle.sf_algebra.specs.Terms.{Term}
use Rattle.sf_algebra.specs.Vectors.{Place, Vector}
use Rattle.sf_algebra.proofs.GradedMatrices.MatrixRows.{row_at-each}
use Rattle.sf_algebra.proofs.Monomials.Weights.{field_ring}
use Rattle.sf_algebra.proofs.Multiplying.Keys.{place_keys}
use Rattle.sf_algebra.proofs.Vectors.RowSums.{row_sum-nil_first}
use Rattle.sf_algebra.proofs.Vectors.Rows.{IsCanonical-row_combination}
use Rattle.sf_groebner.specs.Criterion.{IsPair, ReducesToZero, lead_at, lead_place, pair_place, s_coefficients, s_vector}
use Rattle.sf_groebner.specs.Divisions.{AreBelow, IsDivided, left_over, step, step_tail}
use Rattle.sf_groebner.specs.Leads.{PlaceDivides}
use Rattle.sf_groebner.specs.ReducedBases.{is_divided}
use Rattle.sf_groebner.specs.Spans.{IsGraphVector, graph_degrees}
use Rattle.sf_groebner.proofs.Basics.Accessible.{IsBelow}
use Rattle.sf_groebner.proofs.Constructions.Divisions.{divided_hit, divided_none, left_over-below}
use Rattle.sf_groebner.proofs.Constructions.MonicVectors.{is_divided-position}
use Rattle.sf_groebner.proofs.PairLoops.HomogeneousPairs.{ReducesToZero-division, s_coefficients-homogeneous}
use Rattle.sf_groebner.proofs.PairTheorems.Standard.{place_induction}
use Rattle.sf_groebner.proofs.Spanning.Generators.{IsCombination}
use Rattle.sf_groebner.proofs.Uniqueness.Differences.{add-negative_first}
use Rattle.sf_variables.specs.Variables.{IsInVariables, IsRowInVariables}
use Rattle.sf_variables.proofs.Keeping.Monomials.{IsInVariables-lcm, IsInVariables-one, IsInVariables-quotient}
use Rattle.sf_variables.proofs.Keeping.Rows.{IsRowInVariables-negative, IsRowInVariables-sum}
use Rattle.sf_counting.specs.CountLaws.{AreGraphRows, pair_degree}
use Rattle.sf_counting.specs.Counts.{IsFull}
use Rattle.sf_counting.proofs.Counting.Filters.{is_divided-more, length-filter_le}
use Rattle.sf_counting.proofs.Counting.GraphLeads.{InGraph, InGraph-combination, complete_where_full, graph_is_submodule, graph_monic, multiple_in_graph}

-- rows that are full stay so with more rows
pub IsFull-more : (n : ℕ) (m : Matrix) (rows more : List Vector) (d : ℤ) → IsFull n m rows d
    → IsFull n m (rows ++ more) d
IsFull-more n m rows more d full =
    let grows = length-filter_le (is_divided rows) (is_divided (rows ++ more)) (is_divided-more rows more) full.columns in
    record { columns = full.columns; places = full.places; enough = omega (arith, full.enough, grows) }

lead_place-variables : (n : ℕ) (ts : List (Term Place)) → IsRowInVariables n ts
    → IsInVariables n (lead_place ts).monomial
lead_place-variables n [] h = IsInVariables-one n
lead_place-variables n (t ∷ ts) h = h.0

module _ (n : ℕ) (m : Matrix) (prime : IsOverField m.ring) (matrix : IsMatrix m) (rows : List Vector)
    (g : AreGraphRows n m rows) where
  -- a division by the rows without a rest
  pub record IsWhollyDivided (d : ℤ) (ts : List (Term Place)) : Type 0 where
    pub quotients : List (Term Place)
    pub divided : IsDivided m.ring (graph_degrees m) rows d ts [] quotients

  module _ (d : ℤ) (full : IsFull n m rows d) where
    -- what is left of a vector of the graph after one step is one
    left_in_graph : (t : Term Place) (ts : List (Term Place)) → InGraph n m d (t ∷ ts) → (i : ℕ) → i < length rows
        → PlaceDivides (lead_at rows i) t.at → InGraph n m d (left_over m.ring rows i t ts)
    left_in_graph t ts h i within divides =
        let positive : IsRing m.ring = field_ring prime in
        let us : List (Term Place) = step_tail m.ring rows i t in
        let k : InGraph n m d (t ∷ us) =
        multiple_in_graph n m prime matrix rows g d t h.0.vector.canonical.residues.0 h.0.vector.homogeneous.0 h.1.0 i within divides in (
          subst (λ vs. IsGraphVector m (record { degree = d; terms = vs }))
              (add-negative_first (place_keys m.ring.weights) m.ring.modulus positive.modulus t ts us h.0.vector.canonical k.0.vector.canonical)
              ((graph_is_submodule n m prime matrix).module_like.differences (record { degree = d; terms = t ∷ ts }) (record { degree = d; terms = t ∷ us }) h.0 k.0 refl),
          IsRowInVariables-sum n m.ring ts (negative m.ring.modulus us) h.1.1
              (IsRowInVariables-negative n m.ring.modulus us k.1.1),
        )

    divide_first : (t : Term Place) (ts : List (Term Place)) → InGraph n m d (t ∷ ts)
        → ((us : List (Term Place)) → InGraph n m d us → AreBelow m.ring.weights t.at us → IsWhollyDivided d us)
        → IsWhollyDivided d (t ∷ ts)
    divide_first t ts h further =
        let monic = graph_monic n m prime matrix rows g in
        let found =
        is_divided-position rows t.at (complete_where_full n m prime matrix rows g d full (t ∷ ts) h) in
        let i : ℕ = found.0 in
        let e =
        further (left_over m.ring rows i t ts) (left_in_graph t ts h i found.1 found.2)
        (left_over-below m.ring prime (graph_degrees m) rows monic d t ts h.0.vector i found.1 found.2) in
        record {
          quotients = step rows i t ∷ e.quotients;
          divided = divided_hit m.ring prime (graph_degrees m) rows monic d t ts h.0.vector i found.1 found.2 [] e.quotients e.divided;
        }

    nothing_divided : IsWhollyDivided d []
    nothing_divided = record {
      quotients = [];
      divided = divided_none m.ring prime (graph_degrees m) rows (graph_monic n m prime matrix rows g) d;
    }

    abbrev DividesBelow : Place → Type 0
    DividesBelow k =
        (us : List (Term Place)) → InGraph n m d us → AreBelow m.ring.weights k us → IsWhollyDivided d us

    divide_step : (k : Place)
        → ((j : Place) → IsBelow m.ring.weights (length (graph_degrees m)) j k → DividesBelow j)
        → DividesBelow k
    divide_step k before [] h below = nothing_divided
    divide_step k before (t ∷ ts) h below =
        divide_first t ts h (before t.at (below.0, h.0.vector.homogeneous.0.0))

    pub divided_where_full : (ts : List (Term Place)) → InGraph n m d ts → IsWhollyDivided d ts
    divided_where_full [] h = nothing_divided
    divided_where_full (t ∷ ts) h =
        divide_first t ts h
        (place_induction m.ring.weights prime.weights (length (graph_degrees m)) DividesBelow divide_step t.at)

    -- so it is a combination of the rows
    pub combination_where_full : (ts : List (Term Place)) → InGraph n m d ts
        → IsCombination m.ring rows (record { degree = d; terms = ts })
    combination_where_full ts h =
        let positive : IsRing m.ring = field_ring prime in
        let e = divided_where_full ts h in
        record {
          coefficients = e.quotients;
          homogeneous = e.divided.homogeneous;
          value =
              sym (row_sum-nil_first m.ring positive.modulus (row_combination m.ring rows e.quotients) (IsCanonical-row_combination m.ring positive.modulus rows e.quotients))
              ∙ e.divided.sum;
        }

  -- a pair in whose degree the rows are full reduces to zero
  pub ReducesToZero-full : (i j : ℕ) → IsPair rows i j → IsFull n m rows (pair_degree m rows i j)
      → ReducesToZero m.ring rows i j
  ReducesToZero-full i j pair full =
      let positive : IsRing m.ring = field_ring prime in
      let monic = graph_monic n m prime matrix rows g in
      let i_in : i < length rows = before i j _ pair.earlier pair.later in
      let d : ℤ = pair_degree m rows i j in
      let s : InGraph n m d (s_vector m.ring rows i j) =
      InGraph-combination n m prime matrix rows g.inside g.variables d (s_coefficients m.ring.modulus (lead_at rows) i j)
      (s_coefficients-homogeneous m.ring positive (graph_degrees m) rows monic i j i_in pair.later pair.positions)
      (over_first i j, (over_first j i, tt)) in
      let e = divided_where_full d full (s_vector m.ring rows i j) s in
      ReducesToZero-division m.ring positive (graph_degrees m) rows monic i j i_in pair.later pair.positions d e.quotients e.divided
    where
      before : (i j k : ℕ) → i < j → j < k → i < k
      before i j k h l = omega arith

      over : (i : ℕ) → IsInVariables n (lead_at rows i).monomial
      over i = lead_place-variables n (row_at rows i) (row_at-each (IsRowInVariables n) tt rows g.variables i)

      over_first : (i j : ℕ) → IsInVariables n (pair_place (lead_at rows) i j).monomial
      over_first i j =
          IsInVariables-quotient n (lcm (lead_at rows i).monomial (lead_at rows j).monomial) (lead_at rows i).monomial
          (IsInVariables-lcm n (lead_at rows i).monomial (lead_at rows j).monomial (over i) (over j))
