-- The example of two quadrics: the four rows of its graph's reduced basis, by Buchberger's criterion.
use Rattle.std.proofs.Common.{ℕ, zero, suc, ◌<◌, [], ◌∷◌, length, refl, arith}
use Rattle.std.proofs.lemmas.Int.{ints}
use Rattle.std.specs.List.{AllByRecursion}
use Rattle.sf_algebra.specs.Matrices.{IsMatrix}
use Rattle.sf_algebra.specs.Multiples.{combination, combination_terms}
use Rattle.sf_algebra.specs.Residues.{sum_mod, product_mod, negative_mod}
use Rattle.sf_algebra.specs.Rings.{plain, ones}
use Rattle.sf_algebra.specs.Sums.{normal, insert}
use Rattle.sf_algebra.specs.Vectors.{IsVector}
use Rattle.sf_groebner.specs.Criterion.{HaveLeadsAtOnePosition, IsMonicRow, ReducesToZero}
use Rattle.sf_groebner.specs.Examples.{term, quadrics, quadrics_rows, quadrics_others, quadrics_graph_basis}
use Rattle.sf_groebner.specs.ReducedBases.{IsApart, IsReducedBasis, IsSorted}
use Rattle.sf_groebner.specs.Spans.{graph_degrees, IsGraphVector}
use Rattle.sf_groebner.proofs.WorkedExamples.GraphBases.{IsGraphCandidate, reduced_graph}

pub quadrics-matrix : IsMatrix quadrics
quadrics-matrix = search (arith, ints)

vectors : AllByRecursion (IsVector (plain 101) (graph_degrees quadrics)) quadrics_graph_basis
vectors = search (arith, ints)

inside : AllByRecursion (IsGraphVector quadrics) quadrics_graph_basis
unfolding combination combination_terms normal insert sum_mod product_mod
inside =
    let h = vectors in (
      record { vector = h.0; value = refl },
      (record { vector = h.1.0; value = refl }, (record { vector = h.1.1.0; value = refl }, (record { vector = h.1.1.1.0; value = refl }, tt))),
    )

monic : AllByRecursion (IsMonicRow (plain 101)) quadrics_graph_basis
monic = search arith

-- y times the first row less x times the second: -y times the second and the third
first_second : ReducesToZero (plain 101) quadrics_graph_basis 0 1
unfolding combination combination_terms normal insert sum_mod product_mod negative_mod
first_second = record {
  steps = term 100 1 (0 ∷ 1 ∷ []) ∷ term 1 2 [] ∷ [];
  below = ((omega arith, refl), ((omega arith, refl), tt));
  value = refl;
}

-- y^3 times the first row less x^2 times the third: -x + y times the fourth
first_third : ReducesToZero (plain 101) quadrics_graph_basis 0 2
unfolding combination combination_terms normal insert sum_mod product_mod negative_mod
first_third = record {
  steps = term 100 3 (1 ∷ []) ∷ term 1 3 (0 ∷ 1 ∷ []) ∷ [];
  below = ((omega arith, refl), ((omega arith, refl), tt));
  value = refl;
}

-- y^2 times the second row less x times the third: y times the third, less the fourth
second_third : ReducesToZero (plain 101) quadrics_graph_basis 1 2
unfolding combination combination_terms normal insert sum_mod product_mod negative_mod
second_third = record {
  steps = term 1 2 (0 ∷ 1 ∷ []) ∷ term 100 3 [] ∷ [];
  below = ((omega arith, refl), ((omega arith, refl), tt));
  value = refl;
}

-- the fourth row's lead stands at another position
pairs : (i j : ℕ) → i < j → j < length quadrics_graph_basis → HaveLeadsAtOnePosition quadrics_graph_basis i j
    → ReducesToZero (plain 101) quadrics_graph_basis i j
pairs zero (suc zero) h k e = first_second
pairs zero (suc (suc zero)) h k e = first_third
pairs (suc zero) (suc (suc zero)) h k e = second_third
pairs zero (suc (suc (suc zero))) h k e = absurd (omega (arith, e))
pairs (suc zero) (suc (suc (suc zero))) h k e = absurd (omega (arith, e))
pairs (suc (suc zero)) (suc (suc (suc zero))) h k e = absurd (omega (arith, e))
pairs i j h k e = absurd (omega arith)

apart : IsApart quadrics_graph_basis
apart = search arith

sorted : IsSorted ones quadrics_graph_basis
sorted = assumption refl

quadrics-graph : IsGraphCandidate quadrics quadrics_rows quadrics_others
quadrics-graph = record {
  values = refl;
  units = refl;
  inside = inside;
  monic = monic;
  pairs = pairs;
  apart = apart;
  sorted = sorted;
}

pub quadrics-reduced_graph : IsReducedBasis ones (IsGraphVector quadrics) quadrics_graph_basis
quadrics-reduced_graph = reduced_graph quadrics (omega arith) quadrics_rows quadrics_others quadrics-graph
