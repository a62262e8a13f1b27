-- The example of two variables: the reduced basis of its graph, and the steps of its resolution.
use Rattle.std.proofs.Common.{◌≡◌, ℕ, zero, suc, ◌<◌, List, [], ◌∷◌, ◌++◌, length, inr, refl, arith, pos}
use Rattle.std.proofs.lemmas.Int.{ints}
use Rattle.std.specs.List.{AllByRecursion}
use Rattle.sf_algebra.specs.Matrices.{IsMatrix}
use Rattle.sf_algebra.specs.Multiples.{combination, combination_terms}
use Rattle.sf_algebra.specs.Residues.{sum_mod, product_mod, negative_mod}
use Rattle.sf_algebra.specs.Rings.{plain, ones}
use Rattle.sf_algebra.specs.Sums.{normal, insert}
use Rattle.sf_algebra.specs.Vectors.{Vector, IsVector}
use Rattle.sf_groebner.specs.Criterion.{HaveLeadsAtOnePosition, ReducesToZero}
use Rattle.sf_groebner.specs.Examples.{term, vector}
use Rattle.sf_groebner.specs.MinimalGenerators.{AreKept, AreMinimal, IsInSum}
use Rattle.sf_groebner.specs.Presentations.{IsZero}
use Rattle.sf_groebner.specs.ReducedBases.{IsReducedBasis}
use Rattle.sf_groebner.specs.ResolutionExamples.{x_row, y_row, two_variables, koszul_row, koszul, HasKoszulResolution, RefusesOneVariable}
use Rattle.sf_groebner.specs.Spans.{graph_degrees, InSpan, IsGraphVector, IsSyzygy}
use Rattle.sf_groebner.proofs.PairTheorems.MonicSums.{not_in_sum, no_syzygies}
use Rattle.sf_groebner.proofs.PartsOfBases.GraphParts.{reduced-span, reduced-syzygies}
use Rattle.sf_groebner.proofs.Spanning.Spans.{span_module}
use Rattle.sf_groebner.proofs.Uniqueness.MinimalGenerators.{unique_minimal}
use Rattle.sf_groebner.proofs.Uniqueness.UniqueBases.{unique_reduced}
use Rattle.sf_groebner.proofs.WorkedExamples.GraphBases.{IsGraphCandidate, reduced_graph}

pub variables-matrix : IsMatrix two_variables
variables-matrix = search (arith, ints)

-- x and y with their coefficients, and the syzygy
abbrev graph_rows : List Vector
graph_rows = vector 1 (term 1 0 (1 ∷ []) ∷ term 1 1 [] ∷ []) ∷ vector 1 (term 1 0 (0 ∷ 1 ∷ []) ∷ term 1 2 [] ∷ []) ∷ []

abbrev others : List Vector
others = vector 2 (term 1 1 (0 ∷ 1 ∷ []) ∷ term 100 2 (1 ∷ []) ∷ []) ∷ []

abbrev rows : List Vector
rows = graph_rows ++ others

vectors : AllByRecursion (IsVector (plain 101) (graph_degrees two_variables)) rows
vectors = search (arith, ints)

inside : AllByRecursion (IsGraphVector two_variables) rows
unfolding combination combination_terms normal insert sum_mod product_mod
inside = let h = vectors in (record { vector = h.0; value = refl }, (record { vector = h.1.0; value = refl }, (record { vector = h.1.1.0; value = refl }, tt)))

-- y times x less x times y: the syzygy
first_second : ReducesToZero (plain 101) rows 0 1
unfolding combination combination_terms normal insert sum_mod product_mod negative_mod
first_second = record { steps = term 1 2 [] ∷ []; below = ((omega arith, refl), tt); value = refl }

pairs : (i j : ℕ) → i < j → j < length rows → HaveLeadsAtOnePosition rows i j → ReducesToZero (plain 101) rows i j
pairs zero (suc zero) h k e = first_second
pairs zero (suc (suc zero)) h k e = absurd (omega (arith, e))
pairs (suc zero) (suc (suc zero)) h k e = absurd (omega (arith, e))
pairs i j h k e = absurd (omega arith)

candidate : IsGraphCandidate two_variables graph_rows others
candidate = record {
  values = refl;
  units = refl;
  inside = inside;
  monic = search arith;
  pairs = pairs;
  apart = search arith;
  sorted = search arith;
}

reduced : IsReducedBasis ones (IsGraphVector two_variables) rows
reduced = reduced_graph two_variables (omega arith) graph_rows others candidate

pub variables-span : IsReducedBasis ones (InSpan two_variables) (x_row ∷ y_row ∷ [])
variables-span = reduced-span two_variables (omega arith) variables-matrix rows reduced

pub variables-syzygies : IsReducedBasis ones (IsSyzygy two_variables) (koszul_row ∷ [])
variables-syzygies = reduced-syzygies two_variables (omega arith) rows reduced

-- no row is a sum of the earlier ones
x_needed : IsInSum (plain 101) [] IsZero x_row → ⊥
x_needed =
    not_in_sum (plain 101) (omega arith) (pos 0 ∷ []) [] tt (λ i j h k e. absurd (omega (arith, k))) x_row (λ e. cc)

y_needed : IsInSum (plain 101) (x_row ∷ []) IsZero y_row → ⊥
y_needed =
    not_in_sum (plain 101) (omega arith) (pos 0 ∷ []) (x_row ∷ []) (search arith)
    (λ i j h k e. absurd (omega (arith, h, k))) y_row (λ e. cc)

pub koszul-needed : IsInSum (plain 101) [] IsZero koszul_row → ⊥
koszul-needed =
    not_in_sum (plain 101) (omega arith) (pos 1 ∷ pos 1 ∷ []) [] tt (λ i j h k e. absurd (omega (arith, k))) koszul_row
    (λ e. cc)

pub variables-kept : AreKept (plain 101) IsZero [] (x_row ∷ y_row ∷ []) (x_row ∷ y_row ∷ [])
variables-kept = inr (x_needed, (y_row ∷ [], refl, inr (y_needed, ([], refl, refl))))

variables-minimal : AreMinimal (plain 101) (InSpan two_variables) IsZero (x_row ∷ y_row ∷ [])
variables-minimal = record { basis = x_row ∷ y_row ∷ []; reduced = variables-span; kept = variables-kept }

koszul_minimal : AreMinimal (plain 101) (IsSyzygy two_variables) IsZero (koszul_row ∷ [])
koszul_minimal = record {
  basis = koszul_row ∷ [];
  reduced = variables-syzygies;
  kept = inr (koszul-needed, ([], refl, refl));
}

pub koszul-end : IsReducedBasis ones (IsSyzygy koszul) []
koszul-end = no_syzygies (plain 101) (omega arith) (pos 1 ∷ pos 1 ∷ []) koszul_row (search arith)

end_minimal : AreMinimal (plain 101) (IsSyzygy koszul) IsZero []
end_minimal = record { basis = []; reduced = koszul-end; kept = refl }

pub koszul-resolution : HasKoszulResolution
koszul-resolution = (
  record { ring = refl; target = refl; minimal = variables-minimal },
  (record { ring = refl; target = refl; minimal = koszul_minimal }, (record { ring = refl; target = refl; minimal = end_minimal }, tt)),
)

pub refuses_one_variable : RefusesOneVariable
refuses_one_variable h =
    let same : x_row ∷ [] ≡ x_row ∷ y_row ∷ [] =
    unique_minimal (plain 101) (pos 0 ∷ []) (InSpan two_variables) IsZero
    (unique_reduced (plain 101) (omega arith) (pos 0 ∷ []) (InSpan two_variables) (span_module two_variables (omega arith) variables-matrix)) (x_row ∷ []) (x_row ∷ y_row ∷ []) h variables-minimal in
    cc
