-- Presented modules have resolutions of each length.
use Rattle.std.proofs.Common.{◌≡◌, ℕ, zero, suc, List, [], ◌∷◌, length, refl, ap}
use Rattle.sf_algebra.specs.Matrices.{Matrix, IsMatrix, row_degrees}
use Rattle.sf_algebra.specs.Rings.{IsRing, IsOverField}
use Rattle.sf_algebra.proofs.Monomials.Weights.{field_ring}
use Rattle.sf_groebner.specs.MinimalGenerators.{matrix_of}
use Rattle.sf_groebner.specs.Resolutions.{AreNextSteps, IsResolution}
use Rattle.sf_groebner.specs.Spans.{InSpan, IsSyzygy}
use Rattle.sf_groebner.proofs.Constructions.MatrixBases.{span_basis, syzygy_basis}
use Rattle.sf_groebner.proofs.Constructions.MinimalExistence.{minimal_modulo_zero}
use Rattle.sf_groebner.proofs.Spanning.Spans.{span_module}

next_steps_exist : (n : ℕ) (before : Matrix) → IsOverField before.ring → IsMatrix before
    → (steps : List Matrix) × (length steps ≡ n) × AreNextSteps before steps
next_steps_exist zero before prime matrix = ([], refl, tt)
next_steps_exist (suc n) before prime matrix =
    let b = syzygy_basis before prime matrix in
    let g =
    minimal_modulo_zero before.ring (row_degrees before) prime (IsSyzygy before) (λ c k. k.coefficients) b.0 b.1 in
    let step = matrix_of before.ring (row_degrees before) g.generators in
    let rest = next_steps_exist n step prime g.vectors in
    (step ∷ rest.0, ap suc rest.1, (record { ring = refl; target = refl; minimal = g.minimal }, rest.2))

pub resolution_exists : (relations : Matrix) → IsOverField relations.ring → IsMatrix relations → (n : ℕ)
    → (steps : List Matrix) × (length steps ≡ n) × IsResolution relations steps
resolution_exists relations prime matrix zero = ([], refl, tt)
resolution_exists relations prime matrix (suc n) =
    let positive : IsRing relations.ring = field_ring prime in
    let b = span_basis relations prime matrix in
    let g =
    minimal_modulo_zero relations.ring relations.target prime (InSpan relations)
    (span_module relations positive matrix).vectors b.0 b.1 in
    let step = matrix_of relations.ring relations.target g.generators in
    let rest = next_steps_exist n step prime g.vectors in
    (step ∷ rest.0, ap suc rest.1, (record { ring = refl; target = refl; minimal = g.minimal }, rest.2))
