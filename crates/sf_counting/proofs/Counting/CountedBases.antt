-- Rows that are full in the degrees of inputs and pairs are complete in them, by Buchberger's criterion: so they are the
-- reduced basis where all degrees count, and where those below one do, a new lead of that degree is needed.
use Rattle.std.proofs.Common.{◌≡◌, false, ℕ, suc, List, [], ◌∷◌, length, ◌∙◌, ap, subst, arith, ℤ, pos, ◌+ℤ◌, ◌≤ℤ◌, ◌<ℤ◌}
use Rattle.std.proofs.lemmas.Int.{ints}
use Rattle.std.proofs.lemmas.List.{length-map}
use Rattle.std.specs.List.{AllByRecursion}
use Rattle.sf_algebra.specs.Matrices.{Matrix, IsMatrix, degrees_of}
use Rattle.sf_algebra.specs.MatrixOperations.{row_combination}
use Rattle.sf_algebra.specs.Monomials.{monomial_degree}
use Rattle.sf_algebra.specs.Rings.{IsRing, IsOverField}
use Rattle.sf_algebra.specs.Terms.{Term}
use Rattle.sf_algebra.specs.Vectors.{Place, Vector, IsTermOfDegree, generator_degree}
use Rattle.sf_algebra.proofs.Basics.Lists.{AllByRecursion-append, AllByRecursion-weaken}
use Rattle.sf_algebra.proofs.Monomials.Weights.{field_ring}
use Rattle.sf_groebner.specs.Criterion.{IsMonicRow, IsPair}
use Rattle.sf_groebner.specs.GraphRows.{graph_matrix, with_units}
use Rattle.sf_groebner.specs.MinimalGenerators.{matrix_of}
use Rattle.sf_groebner.specs.NeededLeads.{IsNeededForGraph}
use Rattle.sf_groebner.specs.ReducedBases.{HasDividedLead, IsApart, IsGraphBasis, IsMonic, IsSorted, is_divided}
use Rattle.sf_groebner.specs.Spans.{InSpan, IsGraphVector, graph_degrees}
use Rattle.sf_groebner.proofs.Basics.Items.{AllByRecursion-both}
use Rattle.sf_groebner.proofs.Constructions.MonicVectors.{AllByRecursion-row_at}
use Rattle.sf_groebner.proofs.PairLoops.NeededLeads.{lead_needed}
use Rattle.sf_groebner.proofs.PairTheorems.BoundedCriterion.{buchberger_up_to}
use Rattle.sf_groebner.proofs.Spanning.CombinationSums.{IsCombination-through, row_vector}
use Rattle.sf_groebner.proofs.Spanning.Generators.{IsCombination}
use Rattle.sf_groebner.proofs.Spanning.GraphMatrices.{graph_matrix-generators}
use Rattle.sf_groebner.proofs.Spanning.SpanCombinations.{InSpan-IsCombination}
use Rattle.sf_groebner.proofs.Spanning.Spans.{graph_module}
use Rattle.sf_variables.specs.Variables.{AreInVariables, IsMatrixInVariables, IsVectorInVariables}
use Rattle.sf_variables.proofs.Keeping.Monomials.{IsInVariables-one}
use Rattle.sf_counting.specs.CountLaws.{AreFull, AreGraphRows}
use Rattle.sf_counting.specs.Counts.{IsFull}
use Rattle.sf_counting.proofs.Counting.FullDegrees.{ReducesToZero-full, combination_where_full}

-- vectors with unit vectors behind them keep their degrees and their variables
pub with_units-each : (n : ℕ) (P : ℤ → Type 0) (i : ℕ) (vs : List Vector) → AreInVariables n vs
    → AllByRecursion (λ (v : Vector). P v.degree) vs
    → AllByRecursion (λ (v : Vector). IsVectorInVariables n v × P v.degree) (with_units i vs)
unfolding with_units
with_units-each n P i [] h k = tt
with_units-each n P i (v ∷ vs) h k =
    ((AllByRecursion-append _ v.terms _ h.0 (IsInVariables-one n, tt), k.0), with_units-each n P (suc i) vs h.1 k.1)

module _ (n : ℕ) (m : Matrix) (prime : IsOverField m.ring) (matrix : IsMatrix m) (over : IsMatrixInVariables n m)
    (rows : List Vector) (g : AreGraphRows n m rows) where
  module _ (IsOfInterest : ℤ → Type 0) (full : AreFull n m rows IsOfInterest) where
    -- a generator of the graph whose degree is of interest is a combination of the rows
    abbrev IsReached : ℤ → List (Term Place) → Type 0
    IsReached d ts = IsOfInterest d → IsCombination m.ring rows (record { degree = d; terms = ts })

    generators_reached : AllByRecursion (λ (v : Vector). IsReached v.degree v.terms) (graph_matrix m).rows
    generators_reached =
        let generate = graph_matrix-generators m (field_ring prime) prime.prime.above_one matrix in
        AllByRecursion-both (IsGraphVector m)
        (λ (v : Vector). IsVectorInVariables n v × (IsOfInterest v.degree → IsFull n m rows v.degree))
        (λ (v : Vector). IsReached v.degree v.terms)
        (λ v inside h interest. combination_where_full n m prime matrix rows g v.degree (h.1 interest) v.terms (inside, h.0))
        (graph_matrix m).rows generate.inside
        (with_units-each n (λ d. IsOfInterest d → IsFull n m rows d) (length m.target) m.rows over full.inputs)

    -- where all degrees up to that of a vector of the graph are of interest, a row's lead divides its lead
    pub complete_up_to : (v : Vector) → IsGraphVector m v → ((e : ℤ) → e ≤ℤ v.degree → IsOfInterest e)
        → HasDividedLead rows v.terms
    complete_up_to v h interest =
        let positive : IsRing m.ring = field_ring prime in
        let generators : List Vector = (graph_matrix m).rows in
        let k = (graph_matrix-generators m positive prime.prime.above_one matrix).spans v h in
        let q : Matrix = matrix_of m.ring (graph_degrees m) rows in
        let whole : Vector = record { degree = v.degree; terms = row_combination m.ring generators k.coefficients } in
        let c =
        IsCombination-through m.ring positive rows generators v.degree k.coefficients k.homogeneous
        (AllByRecursion-weaken _ (λ (t : Term Place). IsCombination m.ring rows (row_vector generators t.at.position)) reached_at k.coefficients k.homogeneous) in
        let w : InSpan q whole = InSpan-IsCombination q positive whole c in
        let degree : w.coefficients.degree ≡ v.degree = ap (λ (x : Vector). x.degree) w.value in
        let terms : row_combination m.ring rows w.coefficients.terms ≡ v.terms =
        ap (λ (x : Vector). x.terms) w.value ∙ k.value in
        let monic : AllByRecursion (IsMonicRow m.ring) rows =
        AllByRecursion-both (IsGraphVector m) (λ (x : Vector). IsMonic x.terms) (IsMonicRow m.ring)
        (λ x inside one. record { canonical = inside.vector.canonical; monic = one }) rows g.inside g.monic in
        subst (HasDividedLead rows) terms
        (buchberger_up_to q (AllByRecursion-weaken (IsGraphVector m) _ (λ x inside. inside.vector) rows g.inside)
        monic positive v.degree
        (λ i j earlier later positions bound.
        let pair : IsPair rows i j = record { earlier = earlier; later = later; positions = positions } in
        ReducesToZero-full n m prime matrix rows g i j pair (full.pairs i j pair (interest _ bound)))
        w.coefficients w.homogeneous (same_bound w.coefficients.degree v.degree degree))
      where
        same_bound : (a b : ℤ) → a ≡ b → a ≤ℤ b
        same_bound a b e = omega (arith, ints)

        lower : (a b : ℤ) (x : ℕ) → b ≡ a +ℤ pos x → a ≤ℤ b
        lower a b x e = omega (arith, ints)

        reached_at : (t : Term Place) → IsTermOfDegree m.ring.weights (degrees_of (graph_matrix m).rows) v.degree t
            → IsCombination m.ring rows (row_vector (graph_matrix m).rows t.at.position)
        reached_at t term =
            AllByRecursion-row_at IsReached (graph_matrix m).rows generators_reached t.at.position
            (simp length-map at term.0)
            (interest (generator_degree (degrees_of (graph_matrix m).rows) t.at.position)
            (lower _ v.degree (monomial_degree m.ring.weights t.at.monomial) term.1))

  -- where all degrees are of interest
  pub counted_basis : IsApart rows → IsSorted m.ring.weights rows → AreFull n m rows (λ _. Unit {0})
      → IsGraphBasis m rows
  counted_basis apart sorted full = record {
    inside = g.inside;
    monic = g.monic;
    complete = λ v h. complete_up_to (λ _. Unit {0}) full v h (λ e below. tt);
    apart = apart;
    sorted = sorted;
  }

  -- where those below d are
  pub needed_past_full : (d : ℤ) → AreFull n m rows (λ e. e <ℤ d) → (t : Term Place) (ts : List (Term Place))
      → IsGraphVector m (record { degree = d; terms = t ∷ ts })
      → is_divided rows t.at ≡ false → IsNeededForGraph m t.at
  needed_past_full d full =
      let positive : IsRing m.ring = field_ring prime in
      lead_needed m.ring positive (graph_degrees m) (IsGraphVector m) (graph_module m positive) rows d
      (λ v h less. complete_up_to (λ e. e <ℤ d) full v h (λ e most. below e v.degree d most less))
    where
      below : (a b e : ℤ) → a ≤ℤ b → b <ℤ e → a <ℤ e
      below a b e h k = omega (arith, ints)
