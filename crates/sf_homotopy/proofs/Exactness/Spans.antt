-- The rows of a matrix and its span.
use Rattle.std.proofs.Common.{◌≡◌, ℕ, zero, suc, ◌<◌, List, [], ◌∷◌, map, refl, subst, arith}
use Rattle.std.specs.List.{AllByRecursion}
use Rattle.sf_algebra.specs.Matrices.{Matrix, row_degrees, IsMatrix}
use Rattle.sf_algebra.specs.MatrixOperations.{row_at, identity}
use Rattle.sf_algebra.specs.Terms.{Term}
use Rattle.sf_algebra.specs.Vectors.{Place, Vector, IsVector}
use Rattle.sf_algebra.proofs.Basics.Lists.{AllByRecursion-weaken}
use Rattle.sf_algebra.proofs.GradedMatrices.Identities.{IsMatrix-identity}
use Rattle.sf_algebra.proofs.GradedMatrices.ProductLaws.{matrix_product-identity_first}
use Rattle.sf_algebra.proofs.GradedMatrices.Stacks.{AllByRecursion-map}
use Rattle.sf_groebner.specs.Spans.{combined, InSpan}

-- what holds of the terms at each number holds of those of each row
pub each_row : (P : List (Term Place) → Type 0) (vs : List Vector) → ((i : ℕ) → P (row_at vs i))
    → AllByRecursion (λ (v : Vector). P v.terms) vs
each_row P [] h = tt
each_row P (v ∷ vs) h = (h zero, each_row P vs (λ i. h (suc i)))

-- the rows of a matrix are in its span
pub span_rows : (m : Matrix) → 1 < m.ring.modulus → IsMatrix m → AllByRecursion (InSpan m) m.rows
span_rows m above is_matrix =
    subst (λ (k : Matrix). AllByRecursion (InSpan m) k.rows) (matrix_product-identity_first m (omega arith) is_matrix)
    (AllByRecursion-map (InSpan m) (combined m) (identity m.ring (row_degrees m)).rows
    (AllByRecursion-weaken (IsVector m.ring (row_degrees m)) (λ c. InSpan m (combined m c))
    (λ c h. record { coefficients = c; homogeneous = h; value = refl }) (identity m.ring (row_degrees m)).rows
    (IsMatrix-identity m.ring above (row_degrees m))))

-- the coefficients of each of some vectors of a span
pub coefficients_of : (m : Matrix) (vs : List Vector) → AllByRecursion (InSpan m) vs
    → (cs : List Vector) × AllByRecursion (IsVector m.ring (row_degrees m)) cs × (map (combined m) cs ≡ vs)
coefficients_of m [] h = ([], tt, refl)
coefficients_of m (v ∷ vs) h =
    let rest = coefficients_of m vs h.1 in (
      h.0.coefficients ∷ rest.0,
      (h.0.homogeneous, rest.1),
      λ i. h.0.value i ∷ rest.2 i,
    )
