-- The reduced bases of the graphs of the first two steps, by Buchberger's criterion.
use Rattle.std.proofs.Common.{ℕ, zero, suc, ◌<◌, List, [], ◌∷◌, ◌++◌, length, refl, arith}
use Rattle.std.proofs.lemmas.Int.{ints}
use Rattle.std.specs.List.{AllByRecursion}
use Rattle.sf_algebra.specs.Matrices.{IsMatrix}
use Rattle.sf_algebra.specs.Multiples.{combination, combination_terms}
use Rattle.sf_algebra.specs.Residues.{sum_mod, product_mod, negative_mod}
use Rattle.sf_algebra.specs.Rings.{plain, ones}
use Rattle.sf_algebra.specs.Sums.{normal, insert}
use Rattle.sf_algebra.specs.Vectors.{Vector, IsVector}
use Rattle.sf_groebner.specs.Criterion.{HaveLeadsAtOnePosition, ReducesToZero}
use Rattle.sf_groebner.specs.Examples.{term, vector}
use Rattle.sf_groebner.specs.ReducedBases.{IsReducedBasis}
use Rattle.sf_groebner.specs.ResolutionExamples.{x_row, y_row}
use Rattle.sf_groebner.specs.Spans.{graph_degrees, InSpan, IsGraphVector, IsSyzygy}
use Rattle.sf_groebner.proofs.PartsOfBases.GraphParts.{reduced-span, reduced-syzygies}
use Rattle.sf_groebner.proofs.WorkedExamples.GraphBases.{IsGraphCandidate, reduced_graph}
use Rattle.sf_hilbert.specs.ThreeVariables.{z_row, three_variables, xy_row, xz_row, yz_row, pairs_of_variables, xyz_row}

variables-matrix : IsMatrix three_variables
variables-matrix = search (arith, ints)

-- x, y and z with their coefficients, and the three syzygies
abbrev first_rows : List Vector
first_rows =
    vector 1 (term 1 0 (1 ∷ []) ∷ term 1 1 [] ∷ [])
    ∷ vector 1 (term 1 0 (0 ∷ 1 ∷ []) ∷ term 1 2 [] ∷ [])
    ∷ vector 1 (term 1 0 (0 ∷ 0 ∷ 1 ∷ []) ∷ term 1 3 [] ∷ [])
    ∷ []

abbrev first_others : List Vector
first_others =
    vector 2 (term 1 1 (0 ∷ 1 ∷ []) ∷ term 100 2 (1 ∷ []) ∷ [])
    ∷ vector 2 (term 1 1 (0 ∷ 0 ∷ 1 ∷ []) ∷ term 100 3 (1 ∷ []) ∷ [])
    ∷ vector 2 (term 1 2 (0 ∷ 0 ∷ 1 ∷ []) ∷ term 100 3 (0 ∷ 1 ∷ []) ∷ [])
    ∷ []

abbrev first_all : List Vector
first_all = first_rows ++ first_others

first_vectors : AllByRecursion (IsVector (plain 101) (graph_degrees three_variables)) first_all
first_vectors = search (arith, ints)

first_inside : AllByRecursion (IsGraphVector three_variables) first_all
unfolding combination combination_terms normal insert sum_mod product_mod
first_inside =
    let h = first_vectors in (
      record { vector = h.0; value = refl },
      (
        record { vector = h.1.0; value = refl },
        (
          record { vector = h.1.1.0; value = refl },
          (
            record { vector = h.1.1.1.0; value = refl },
            (record { vector = h.1.1.1.1.0; value = refl }, (record { vector = h.1.1.1.1.1.0; value = refl }, tt)),
          ),
        ),
      ),
    )

-- each pair of variables gives its syzygy
x_y : ReducesToZero (plain 101) first_all 0 1
unfolding combination combination_terms normal insert sum_mod product_mod negative_mod
x_y = record { steps = term 1 3 [] ∷ []; below = ((omega arith, refl), tt); value = refl }

x_z : ReducesToZero (plain 101) first_all 0 2
unfolding combination combination_terms normal insert sum_mod product_mod negative_mod
x_z = record { steps = term 1 4 [] ∷ []; below = ((omega arith, refl), tt); value = refl }

y_z : ReducesToZero (plain 101) first_all 1 2
unfolding combination combination_terms normal insert sum_mod product_mod negative_mod
y_z = record { steps = term 1 5 [] ∷ []; below = ((omega arith, refl), tt); value = refl }

-- and the first two syzygies -x times the third
xy_xz : ReducesToZero (plain 101) first_all 3 4
unfolding combination combination_terms normal insert sum_mod product_mod negative_mod
xy_xz = record { steps = term 100 5 (1 ∷ []) ∷ []; below = ((omega arith, refl), tt); value = refl }

first_pairs : (i j : ℕ) → i < j → j < length first_all → HaveLeadsAtOnePosition first_all i j
    → ReducesToZero (plain 101) first_all i j
first_pairs zero (suc zero) h k e = x_y
first_pairs zero (suc (suc zero)) h k e = x_z
first_pairs (suc zero) (suc (suc zero)) h k e = y_z
first_pairs (suc (suc (suc zero))) (suc (suc (suc (suc zero)))) h k e = xy_xz
first_pairs zero (suc (suc (suc zero))) h k e = absurd (omega (arith, e))
first_pairs zero (suc (suc (suc (suc zero)))) h k e = absurd (omega (arith, e))
first_pairs zero (suc (suc (suc (suc (suc zero))))) h k e = absurd (omega (arith, e))
first_pairs (suc zero) (suc (suc (suc zero))) h k e = absurd (omega (arith, e))
first_pairs (suc zero) (suc (suc (suc (suc zero)))) h k e = absurd (omega (arith, e))
first_pairs (suc zero) (suc (suc (suc (suc (suc zero))))) h k e = absurd (omega (arith, e))
first_pairs (suc (suc zero)) (suc (suc (suc zero))) h k e = absurd (omega (arith, e))
first_pairs (suc (suc zero)) (suc (suc (suc (suc zero)))) h k e = absurd (omega (arith, e))
first_pairs (suc (suc zero)) (suc (suc (suc (suc (suc zero))))) h k e = absurd (omega (arith, e))
first_pairs (suc (suc (suc zero))) (suc (suc (suc (suc (suc zero))))) h k e = absurd (omega (arith, e))
first_pairs (suc (suc (suc (suc zero)))) (suc (suc (suc (suc (suc zero))))) h k e = absurd (omega (arith, e))
first_pairs i j h k e = absurd (omega arith)

first_candidate : IsGraphCandidate three_variables first_rows first_others
first_candidate = record {
  values = refl;
  units = refl;
  inside = first_inside;
  monic = search arith;
  pairs = first_pairs;
  apart = search arith;
  sorted = search arith;
}

first_reduced : IsReducedBasis ones (IsGraphVector three_variables) first_all
first_reduced = reduced_graph three_variables (omega arith) first_rows first_others first_candidate

pub variables-span : IsReducedBasis ones (InSpan three_variables) (x_row ∷ y_row ∷ z_row ∷ [])
variables-span = reduced-span three_variables (omega arith) variables-matrix first_all first_reduced

pub variables-syzygies : IsReducedBasis ones (IsSyzygy three_variables) (xy_row ∷ xz_row ∷ yz_row ∷ [])
variables-syzygies = reduced-syzygies three_variables (omega arith) first_all first_reduced

-- the three syzygies with their coefficients, and their own syzygy
abbrev second_rows : List Vector
second_rows =
    vector 2 (term 1 0 (0 ∷ 1 ∷ []) ∷ term 100 1 (1 ∷ []) ∷ term 1 3 [] ∷ [])
    ∷ vector 2 (term 1 0 (0 ∷ 0 ∷ 1 ∷ []) ∷ term 100 2 (1 ∷ []) ∷ term 1 4 [] ∷ [])
    ∷ vector 2 (term 1 1 (0 ∷ 0 ∷ 1 ∷ []) ∷ term 100 2 (0 ∷ 1 ∷ []) ∷ term 1 5 [] ∷ [])
    ∷ []

abbrev second_others : List Vector
second_others = vector 3 (term 1 3 (0 ∷ 0 ∷ 1 ∷ []) ∷ term 100 4 (0 ∷ 1 ∷ []) ∷ term 1 5 (1 ∷ []) ∷ []) ∷ []

abbrev second_all : List Vector
second_all = second_rows ++ second_others

second_vectors : AllByRecursion (IsVector (plain 101) (graph_degrees pairs_of_variables)) second_all
second_vectors = search (arith, ints)

second_inside : AllByRecursion (IsGraphVector pairs_of_variables) second_all
unfolding combination combination_terms normal insert sum_mod product_mod
second_inside =
    let h = second_vectors in (
      record { vector = h.0; value = refl },
      (
        record { vector = h.1.0; value = refl },
        (record { vector = h.1.1.0; value = refl }, (record { vector = h.1.1.1.0; value = refl }, tt)),
      ),
    )

-- z times the first less y times the second: -x times the third, and the syzygy
first_second : ReducesToZero (plain 101) second_all 0 1
unfolding combination combination_terms normal insert sum_mod product_mod negative_mod
first_second = record {
  steps = term 100 2 (1 ∷ []) ∷ term 1 3 [] ∷ [];
  below = ((omega arith, refl), ((omega arith, refl), tt));
  value = refl;
}

second_pairs : (i j : ℕ) → i < j → j < length second_all → HaveLeadsAtOnePosition second_all i j
    → ReducesToZero (plain 101) second_all i j
second_pairs zero (suc zero) h k e = first_second
second_pairs zero (suc (suc zero)) h k e = absurd (omega (arith, e))
second_pairs zero (suc (suc (suc zero))) h k e = absurd (omega (arith, e))
second_pairs (suc zero) (suc (suc zero)) h k e = absurd (omega (arith, e))
second_pairs (suc zero) (suc (suc (suc zero))) h k e = absurd (omega (arith, e))
second_pairs (suc (suc zero)) (suc (suc (suc zero))) h k e = absurd (omega (arith, e))
second_pairs i j h k e = absurd (omega arith)

second_candidate : IsGraphCandidate pairs_of_variables second_rows second_others
second_candidate = record {
  values = refl;
  units = refl;
  inside = second_inside;
  monic = search arith;
  pairs = second_pairs;
  apart = search arith;
  sorted = search arith;
}

pub pairs-syzygies : IsReducedBasis ones (IsSyzygy pairs_of_variables) (xyz_row ∷ [])
pairs-syzygies =
    reduced-syzygies pairs_of_variables (omega arith) second_all
    (reduced_graph pairs_of_variables (omega arith) second_rows second_others second_candidate)
