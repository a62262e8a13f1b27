-- The example of two quadrics: what the reduced basis of its graph gives.
use Rattle.std.proofs.Common.{◌≡◌, [], ◌∷◌, refl, subst, arith}
use Rattle.std.proofs.lemmas.Int.{ints}
use Rattle.sf_algebra.specs.Bounds.{HasSmallSize}
use Rattle.sf_algebra.specs.Matrices.{row_degrees}
use Rattle.sf_algebra.specs.Multiples.{combination, combination_terms}
use Rattle.sf_algebra.specs.Residues.{sum_mod, product_mod}
use Rattle.sf_algebra.specs.Rings.{plain, ones}
use Rattle.sf_algebra.specs.Sums.{normal, insert}
use Rattle.sf_groebner.specs.Examples.{quadrics, other_coefficients, quadrics_syzygy, quadrics_graph_basis, HasQuadricsBasis, HasQuadricsSyzygy, HasThirdRowLift, HasSmallQuadrics, HasLargeQuadrics, RefusesOtherCoefficients, RefusesUnitAsSyzygy}
use Rattle.sf_groebner.specs.ReducedBases.{IsReducedBy}
use Rattle.sf_groebner.specs.Small.{IsWithinLimit}
use Rattle.sf_groebner.specs.Spans.{IsSyzygy, IsGraphVector, IsCoefficients, graph_degrees}
use Rattle.sf_groebner.proofs.PartsOfBases.GraphLifts.{graph_lifts}
use Rattle.sf_groebner.proofs.PartsOfBases.GraphParts.{reduced-span, reduced-syzygies}
use Rattle.sf_groebner.proofs.Spanning.Spans.{graph_module, syzygy_module}
use Rattle.sf_groebner.proofs.Uniqueness.UniqueBases.{unique_reduced}
use Rattle.sf_groebner.proofs.WorkedExamples.QuadricsGraph.{quadrics-matrix, quadrics-reduced_graph}

pub quadrics-span : HasQuadricsBasis
quadrics-span = reduced-span quadrics (omega arith) quadrics-matrix quadrics_graph_basis quadrics-reduced_graph

pub quadrics-syzygies : HasQuadricsSyzygy
quadrics-syzygies = reduced-syzygies quadrics (omega arith) quadrics_graph_basis quadrics-reduced_graph

pub third_row-lift : HasThirdRowLift
third_row-lift = (graph_lifts quadrics (omega arith) quadrics_graph_basis quadrics-reduced_graph).1.1.0

quadrics-size : HasSmallSize quadrics
quadrics-size = search (arith, ints)

quadrics-within : IsWithinLimit ones 3 quadrics_graph_basis
quadrics-within = search arith

pub quadrics-small : HasSmallQuadrics
quadrics-small = record { size = quadrics-size; reduced = quadrics-reduced_graph; within = quadrics-within }

-- the lead y^3 is past the limit
not_within : IsWithinLimit ones 2 quadrics_graph_basis → ⊥
not_within h = absurd (omega (arith, h.low.1.1.0))

pub quadrics-large : HasLargeQuadrics
quadrics-large basis h =
    let same : basis ≡ quadrics_graph_basis =
    unique_reduced (plain 101) (omega arith) (graph_degrees quadrics) (IsGraphVector quadrics)
    (graph_module quadrics (omega arith)) basis quadrics_graph_basis h.reduced quadrics-reduced_graph in
    not_within (subst (IsWithinLimit ones 2) same h.within)

other-coefficients : IsCoefficients quadrics other_coefficients
other-coefficients = search (arith, ints)

-- their lead is divided by the syzygy's
not_reduced : IsReducedBy (quadrics_syzygy ∷ []) other_coefficients.terms → ⊥
not_reduced h = let e = h.0 in cc

pub refuses_other_coefficients : RefusesOtherCoefficients
unfolding combination combination_terms normal insert sum_mod product_mod
refuses_other_coefficients = (
  other-coefficients,
  refl,
  λ h.
      let same : h.syzygies ≡ quadrics_syzygy ∷ [] =
      unique_reduced (plain 101) (omega arith) (row_degrees quadrics) (IsSyzygy quadrics)
      (syzygy_module quadrics (omega arith)) h.syzygies (quadrics_syzygy ∷ []) h.basis quadrics-syzygies in
      not_reduced (subst (λ vs. IsReducedBy vs other_coefficients.terms) same h.reduced),
)

pub refuses_unit_as_syzygy : RefusesUnitAsSyzygy
unfolding combination combination_terms normal insert sum_mod product_mod
refuses_unit_as_syzygy h = let e = h.zero in cc
