-- The example of two quadrics: the steps of its resolution.
use Rattle.std.proofs.Common.{◌≡◌, [], ◌∷◌, inl, inr, refl, arith, pos}
use Rattle.sf_algebra.specs.Rings.{plain}
use Rattle.sf_algebra.specs.Sums.{add, normal, insert}
use Rattle.sf_groebner.specs.Examples.{vector, first_quadric, second_quadric, third_row, quadrics, quadrics_basis, quadrics_syzygy}
use Rattle.sf_groebner.specs.MinimalGenerators.{AreMinimal, IsInSum}
use Rattle.sf_groebner.specs.Presentations.{IsZero}
use Rattle.sf_groebner.specs.ResolutionExamples.{quadrics_syzygies, HasQuadricsResolution, RefusesThirdRow}
use Rattle.sf_groebner.specs.Spans.{InSpan, IsSyzygy}
use Rattle.sf_groebner.proofs.PairTheorems.MonicSums.{not_in_sum, no_syzygies}
use Rattle.sf_groebner.proofs.Spanning.Spans.{span_module}
use Rattle.sf_groebner.proofs.Uniqueness.MinimalGenerators.{unique_minimal}
use Rattle.sf_groebner.proofs.Uniqueness.UniqueBases.{unique_reduced}
use Rattle.sf_groebner.proofs.WorkedExamples.QuadricsGraph.{quadrics-matrix}
use Rattle.sf_groebner.proofs.WorkedExamples.QuadricsParts.{quadrics-span, quadrics-syzygies}

first_needed : IsInSum (plain 101) [] IsZero first_quadric → ⊥
first_needed =
    not_in_sum (plain 101) (omega arith) (pos 0 ∷ []) [] tt (λ i j h k e. absurd (omega (arith, k))) first_quadric (λ e. cc)

second_needed : IsInSum (plain 101) (first_quadric ∷ []) IsZero second_quadric → ⊥
second_needed =
    not_in_sum (plain 101) (omega arith) (pos 0 ∷ []) (first_quadric ∷ []) (search arith)
    (λ i j h k e. absurd (omega (arith, h, k))) second_quadric (λ e. cc)

-- y^3 is in the span of the rows before it
third_left_out : IsInSum quadrics.ring quadrics.rows IsZero third_row
unfolding add normal insert
third_left_out = record {
  first = vector 3 [];
  second = third_row;
  in_module = refl;
  in_span = quadrics-span.inside.1.1.0;
  first_degree = refl;
  second_degree = refl;
  sum = refl;
}

syzygy_needed : IsInSum (plain 101) [] IsZero quadrics_syzygy → ⊥
syzygy_needed =
    not_in_sum (plain 101) (omega arith) (pos 2 ∷ pos 2 ∷ []) [] tt
    (λ i j h k e. absurd (omega (arith, k))) quadrics_syzygy (λ e. cc)

quadrics_minimal : AreMinimal (plain 101) (InSpan quadrics) IsZero (first_quadric ∷ second_quadric ∷ [])
quadrics_minimal = record {
  basis = quadrics_basis;
  reduced = quadrics-span;
  kept = inr (first_needed, (second_quadric ∷ [], refl, inr (second_needed, ([], refl, inl (third_left_out, refl)))));
}

syzygies_minimal : AreMinimal (plain 101) (IsSyzygy quadrics) IsZero (quadrics_syzygy ∷ [])
syzygies_minimal = record {
  basis = quadrics_syzygy ∷ [];
  reduced = quadrics-syzygies;
  kept = inr (syzygy_needed, ([], refl, refl));
}

end_minimal : AreMinimal (plain 101) (IsSyzygy quadrics_syzygies) IsZero []
end_minimal = record {
  basis = [];
  reduced = no_syzygies (plain 101) (omega arith) (pos 2 ∷ pos 2 ∷ []) quadrics_syzygy (search arith);
  kept = refl;
}

pub quadrics-resolution : HasQuadricsResolution
quadrics-resolution = (
  record { ring = refl; target = refl; minimal = quadrics_minimal },
  (record { ring = refl; target = refl; minimal = syzygies_minimal }, (record { ring = refl; target = refl; minimal = end_minimal }, tt)),
)

pub refuses_third_row : RefusesThirdRow
refuses_third_row h =
    let same : first_quadric ∷ second_quadric ∷ third_row ∷ [] ≡ first_quadric ∷ second_quadric ∷ [] =
    unique_minimal (plain 101) (pos 0 ∷ []) (InSpan quadrics) IsZero
    (unique_reduced (plain 101) (omega arith) (pos 0 ∷ []) (InSpan quadrics) (span_module quadrics (omega arith) quadrics-matrix)) (first_quadric ∷ second_quadric ∷ third_row ∷ []) (first_quadric ∷ second_quadric ∷ []) h quadrics_minimal in
    cc
