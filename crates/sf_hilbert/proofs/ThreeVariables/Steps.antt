-- The steps of the resolution: what is needed at each, and that there is no further one.
use Rattle.std.proofs.Common.{◌≡◌, ℕ, zero, suc, ◌<◌, List, [], ◌∷◌, length, inr, refl, ap, subst, arith, ℤ, pos, ◌≤ℤ◌}
use Rattle.std.proofs.lemmas.Int.{ints}
use Rattle.std.specs.List.{AllByRecursion}
use Rattle.sf_algebra.specs.Matrices.{IsMatrix}
use Rattle.sf_algebra.specs.Rings.{plain, ones}
use Rattle.sf_algebra.specs.Vectors.{Vector, place_degree}
use Rattle.sf_groebner.specs.Criterion.{HaveLeadsAtOnePosition, IsMonicRow, ReducesToZero, lcm_place, lead_at}
use Rattle.sf_groebner.specs.MinimalGenerators.{AreMinimal, IsInSum, matrix_of}
use Rattle.sf_groebner.specs.Presentations.{IsZero}
use Rattle.sf_groebner.specs.ReducedBases.{HasDividedLead}
use Rattle.sf_groebner.specs.ResolutionExamples.{x_row, y_row}
use Rattle.sf_groebner.specs.Spans.{InSpan, IsSyzygy}
use Rattle.sf_groebner.proofs.PairTheorems.BoundedCriterion.{buchberger_up_to}
use Rattle.sf_groebner.proofs.PairTheorems.MonicSums.{not_in_sum, no_syzygies}
use Rattle.sf_groebner.proofs.Uniqueness.ReducedCoordinates.{InSpan-sum}
use Rattle.sf_hilbert.specs.ThreeVariables.{z_row, three_variables, xy_row, xz_row, yz_row, pairs_of_variables, xyz_row, all_variables, HasThreeSteps}
use Rattle.sf_hilbert.proofs.ThreeVariables.Graphs.{variables-span, variables-syzygies, pairs-syzygies}

-- no variable is a combination of those before it
x_needed : IsInSum (plain 101) [] IsZero x_row → ⊥
x_needed =
    not_in_sum (plain 101) (omega arith) (pos 0 ∷ []) [] tt (λ i j h k e. absurd (omega (arith, k))) x_row (λ e. cc)

y_needed : IsInSum (plain 101) (x_row ∷ []) IsZero y_row → ⊥
y_needed =
    not_in_sum (plain 101) (omega arith) (pos 0 ∷ []) (x_row ∷ []) (search arith)
    (λ i j h k e. absurd (omega (arith, h, k))) y_row (λ e. cc)

-- rows none of whose pairs counts up to the degree of v: v is no combination where no lead of theirs divides its lead
not_in_low_sum : (rows : List Vector) (target : List ℤ) → IsMatrix (matrix_of (plain 101) target rows)
    → AllByRecursion (IsMonicRow (plain 101)) rows → (v : Vector)
    → ((i j : ℕ) → i < j → j < length rows → HaveLeadsAtOnePosition rows i j
    → place_degree ones target (lcm_place (lead_at rows) i j) ≤ℤ v.degree → ReducesToZero (plain 101) rows i j)
    → (HasDividedLead rows v.terms → ⊥) → IsInSum (plain 101) rows IsZero v → ⊥
not_in_low_sum rows target matrix monic v pairs none h =
    let spanned = InSpan-sum (matrix_of (plain 101) target rows) (omega arith) v h in
    let degree : spanned.coefficients.degree ≡ v.degree = ap (λ (w : Vector). w.degree) spanned.value in
    none (subst (λ (w : Vector). HasDividedLead rows w.terms) spanned.value
    (buchberger_up_to (matrix_of (plain 101) target rows) matrix monic (omega arith) v.degree pairs spanned.coefficients
    spanned.homogeneous (omega (arith, ints, degree))))

z_needed : IsInSum (plain 101) (x_row ∷ y_row ∷ []) IsZero z_row → ⊥
z_needed =
    not_in_low_sum (x_row ∷ y_row ∷ []) (pos 0 ∷ []) (search (arith, ints)) (search arith) z_row pairs (λ e. cc)
  where
    pairs : (i j : ℕ) → i < j → j < 2 → HaveLeadsAtOnePosition (x_row ∷ y_row ∷ []) i j
        → place_degree ones (pos 0 ∷ []) (lcm_place (lead_at (x_row ∷ y_row ∷ [])) i j) ≤ℤ pos 1
        → ReducesToZero (plain 101) (x_row ∷ y_row ∷ []) i j
    pairs zero (suc zero) h k e l = absurd (omega (arith, ints, l))
    pairs i j h k e l = absurd (omega arith)

-- no syzygy is one of those before it
xy_needed : IsInSum (plain 101) [] IsZero xy_row → ⊥
xy_needed =
    not_in_sum (plain 101) (omega arith) (pos 1 ∷ pos 1 ∷ pos 1 ∷ []) [] tt (λ i j h k e. absurd (omega (arith, k)))
    xy_row (λ e. cc)

xz_needed : IsInSum (plain 101) (xy_row ∷ []) IsZero xz_row → ⊥
xz_needed =
    not_in_sum (plain 101) (omega arith) (pos 1 ∷ pos 1 ∷ pos 1 ∷ []) (xy_row ∷ []) (search arith)
    (λ i j h k e. absurd (omega (arith, h, k))) xz_row (λ e. cc)

yz_needed : IsInSum (plain 101) (xy_row ∷ xz_row ∷ []) IsZero yz_row → ⊥
yz_needed =
    not_in_low_sum (xy_row ∷ xz_row ∷ []) (pos 1 ∷ pos 1 ∷ pos 1 ∷ []) (search (arith, ints)) (search arith) yz_row
    pairs (λ e. cc)
  where
    pairs : (i j : ℕ) → i < j → j < 2 → HaveLeadsAtOnePosition (xy_row ∷ xz_row ∷ []) i j
        → place_degree ones (pos 1 ∷ pos 1 ∷ pos 1 ∷ []) (lcm_place (lead_at (xy_row ∷ xz_row ∷ [])) i j) ≤ℤ pos 2
        → ReducesToZero (plain 101) (xy_row ∷ xz_row ∷ []) i j
    pairs zero (suc zero) h k e l = absurd (omega (arith, ints, l))
    pairs i j h k e l = absurd (omega arith)

xyz_needed : IsInSum (plain 101) [] IsZero xyz_row → ⊥
xyz_needed =
    not_in_sum (plain 101) (omega arith) (pos 2 ∷ pos 2 ∷ pos 2 ∷ []) [] tt (λ i j h k e. absurd (omega (arith, k)))
    xyz_row (λ e. cc)

variables-minimal : AreMinimal (plain 101) (InSpan three_variables) IsZero (x_row ∷ y_row ∷ z_row ∷ [])
variables-minimal = record {
  basis = x_row ∷ y_row ∷ z_row ∷ [];
  reduced = variables-span;
  kept = inr (x_needed, (y_row ∷ z_row ∷ [], refl, inr (y_needed, (z_row ∷ [], refl, inr (z_needed, ([], refl, refl))))));
}

pairs-minimal : AreMinimal (plain 101) (IsSyzygy three_variables) IsZero (xy_row ∷ xz_row ∷ yz_row ∷ [])
pairs-minimal = record {
  basis = xy_row ∷ xz_row ∷ yz_row ∷ [];
  reduced = variables-syzygies;
  kept =
      inr (xy_needed, (xz_row ∷ yz_row ∷ [], refl, inr (xz_needed, (yz_row ∷ [], refl, inr (yz_needed, ([], refl, refl))))));
}

all-minimal : AreMinimal (plain 101) (IsSyzygy pairs_of_variables) IsZero (xyz_row ∷ [])
all-minimal = record { basis = xyz_row ∷ []; reduced = pairs-syzygies; kept = inr (xyz_needed, ([], refl, refl)) }

end-minimal : AreMinimal (plain 101) (IsSyzygy all_variables) IsZero []
end-minimal = record {
  basis = [];
  reduced = no_syzygies (plain 101) (omega arith) (pos 2 ∷ pos 2 ∷ pos 2 ∷ []) xyz_row (search arith);
  kept = refl;
}

pub three_steps : HasThreeSteps
three_steps = (
  record { ring = refl; target = refl; minimal = variables-minimal },
  (
    record { ring = refl; target = refl; minimal = pairs-minimal },
    (
      record { ring = refl; target = refl; minimal = all-minimal },
      (record { ring = refl; target = refl; minimal = end-minimal }, tt),
    ),
  ),
)
