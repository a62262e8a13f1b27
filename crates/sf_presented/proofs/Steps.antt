-- The rows of the steps of a resolution span the relations and the syzygies: minimal generators modulo 0 generate.
use Rattle.std.proofs.Common.{◌≡◌, ◌↔◌, List, [], ◌∷◌, sym, subst, ℤ}
use Rattle.sf_algebra.specs.Matrices.{Matrix, row_degrees, IsMatrix}
use Rattle.sf_algebra.specs.Rings.{Ring, IsOverField}
use Rattle.sf_algebra.specs.Vectors.{Vector}
use Rattle.sf_algebra.proofs.Monomials.Weights.{field_ring}
use Rattle.sf_groebner.specs.MinimalGenerators.{matrix_of, AreMinimal}
use Rattle.sf_groebner.specs.Presentations.{IsZero}
use Rattle.sf_groebner.specs.Resolutions.{IsFirstStep, IsNextStep, AreNextSteps, IsResolution}
use Rattle.sf_groebner.specs.Spans.{InSpan, IsSyzygy}
use Rattle.sf_groebner.proofs.Spanning.SpanCombinations.{span_submodule}
use Rattle.sf_groebner.proofs.Spanning.Submodules.{IsSubmodule}
use Rattle.sf_groebner.proofs.Spanning.SyzygyCombinations.{syzygy_submodule}
use Rattle.sf_groebner.proofs.Uniqueness.ReducedCoordinates.{InSpan-minimal, InSpan-minimal_inside}
use Rattle.sf_presented.specs.Presented.{AreExactFrom, AreExactOver}

-- a matrix whose rows are minimal generators of a module modulo 0 spans it
module _ (ring : Ring) (prime : IsOverField ring) (target : List ℤ) (N : Vector → Type 0)
    (submodule : IsSubmodule ring target N) (m : Matrix) (same_ring : m.ring ≡ ring) (same : m.target ≡ target)
    (minimal : AreMinimal ring N IsZero m.rows) where
  as_rows : matrix_of ring target m.rows ≡ m
  as_rows = λ i. record { ring = sym same_ring i; target = sym same i; rows = m.rows }

  pub spans-minimal : (v : Vector) → InSpan m v ↔ N v
  spans-minimal v = (
    λ h. InSpan-minimal_inside ring prime target N submodule m.rows minimal v (subst (λ x. InSpan x v) (sym as_rows) h),
    λ h. subst (λ x. InSpan x v) as_rows (InSpan-minimal ring prime target N submodule m.rows minimal v h),
  )

pub spans-first_step : (relations step : Matrix) → IsOverField relations.ring → IsMatrix relations
    → IsFirstStep relations step → (v : Vector) → InSpan step v ↔ InSpan relations v
spans-first_step relations step prime matrix h =
    spans-minimal relations.ring prime relations.target (InSpan relations)
    (span_submodule relations (field_ring prime) matrix) step h.ring h.target h.minimal

pub spans-next_step : (before step : Matrix) → IsOverField before.ring → IsNextStep before step → (c : Vector)
    → InSpan step c ↔ IsSyzygy before c
spans-next_step before step prime h =
    spans-minimal before.ring prime (row_degrees before) (IsSyzygy before) (syzygy_submodule before (field_ring prime))
    step h.ring h.target h.minimal

exact-next_steps : (before : Matrix) → IsOverField before.ring → (steps : List Matrix) → AreNextSteps before steps
    → AreExactFrom before steps
exact-next_steps before prime [] h = tt
exact-next_steps before prime (step ∷ steps) h =
    (spans-next_step before step prime h.0, exact-next_steps step (subst IsOverField (sym h.0.ring) prime) steps h.1)

pub exact-resolution : (relations : Matrix) → IsOverField relations.ring → IsMatrix relations → (steps : List Matrix)
    → IsResolution relations steps → AreExactOver relations steps
exact-resolution relations prime matrix [] h = tt
exact-resolution relations prime matrix (step ∷ steps) h = (
  spans-first_step relations step prime matrix h.0,
  exact-next_steps step
      (subst IsOverField (sym h.0.ring) prime) steps h.1,
)
