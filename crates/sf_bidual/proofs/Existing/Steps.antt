-- The steps of a canonical resolution, one after another.
use Rattle.std.proofs.Common.{ℕ, zero, suc, refl}
use Rattle.sf_algebra.specs.Matrices.{Matrix, row_degrees, IsMatrix}
use Rattle.sf_algebra.specs.Rings.{IsOverField}
use Rattle.sf_algebra.proofs.Monomials.Weights.{field_ring}
use Rattle.sf_groebner.specs.MinimalGenerators.{matrix_of}
use Rattle.sf_groebner.specs.Resolutions.{IsFirstStep, IsNextStep}
use Rattle.sf_groebner.specs.Spans.{InSpan, IsSyzygy}
use Rattle.sf_groebner.proofs.Constructions.MatrixBases.{span_basis, syzygy_basis}
use Rattle.sf_groebner.proofs.Constructions.MinimalExistence.{minimal_modulo_zero}
use Rattle.sf_groebner.proofs.Spanning.Spans.{span_module}

-- a matrix over a field
pub record IsGood (m : Matrix) : Type 0 where
  pub prime : IsOverField m.ring
  pub matrix : IsMatrix m

pub next_step : (before : Matrix) → IsGood before → (step : Matrix) × IsNextStep before step × IsGood step
next_step before good =
    let b = syzygy_basis before good.prime good.matrix in
    let g =
    minimal_modulo_zero before.ring (row_degrees before) good.prime (IsSyzygy before) (λ c k. k.coefficients) b.0 b.1 in (
      matrix_of before.ring (row_degrees before) g.generators,
      record { ring = refl; target = refl; minimal = g.minimal },
      record { prime = good.prime; matrix = g.vectors },
    )

pub first_step : (relations : Matrix) → IsGood relations
    → (step : Matrix) × IsFirstStep relations step × IsGood step
first_step relations good =
    let b = span_basis relations good.prime good.matrix in
    let g =
    minimal_modulo_zero relations.ring relations.target good.prime (InSpan relations)
    (span_module relations (field_ring good.prime) good.matrix).vectors b.0 b.1 in (
      matrix_of relations.ring relations.target g.generators,
      record { ring = refl; target = refl; minimal = g.minimal },
      record { prime = good.prime; matrix = g.vectors },
    )

module _ (relations : Matrix) (good : IsGood relations) where
  abbrev pub chain : ℕ → (step : Matrix) × IsGood step
  chain zero = let s = first_step relations good in (s.0, s.2)
  chain (suc j) = let s = next_step (chain j).0 (chain j).1 in (s.0, s.2)

  -- all steps of the resolution of the module with these relations
  abbrev pub all_steps : ℕ → Matrix
  all_steps j = (chain j).0

  pub all_steps-first : IsFirstStep relations (all_steps zero)
  all_steps-first = (first_step relations good).1

  pub all_steps-next : (j : ℕ) → IsNextStep (all_steps j) (all_steps (suc j))
  all_steps-next j = (next_step (chain j).0 (chain j).1).1
