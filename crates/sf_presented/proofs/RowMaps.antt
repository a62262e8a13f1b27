-- A map sends the span of relations into a module exactly where it sends each row: the rows are in their span, and what
-- is a combination of rows goes to the combination of what they go to.
use Rattle.std.proofs.Common.{◌≡◌, ◌<◌, refl, sym, ◌∙◌, ap, subst}
use Rattle.std.specs.List.{AllByRecursion}
use Rattle.sf_algebra.specs.Matrices.{Matrix, row_degrees, IsMatrix}
use Rattle.sf_algebra.specs.MatrixOperations.{row_combination, unit_rows}
use Rattle.sf_algebra.specs.Rings.{Ring, IsRing}
use Rattle.sf_algebra.specs.Vectors.{Vector, IsHomogeneous}
use Rattle.sf_algebra.proofs.Basics.Lists.{AllByRecursion-weaken}
use Rattle.sf_algebra.proofs.GradedMatrices.Identities.{IsMatrix-identity}
use Rattle.sf_algebra.proofs.GradedMatrices.MatrixRows.{with_terms}
use Rattle.sf_algebra.proofs.GradedMatrices.ProductLaws.{matrix_product-identity_first}
use Rattle.sf_algebra.proofs.GradedMatrices.Stacks.{AllByRecursion-map, degrees-with_terms}
use Rattle.sf_algebra.proofs.Vectors.Rows.{row_combination-matrix_product}
use Rattle.sf_groebner.specs.MinimalGenerators.{matrix_of}
use Rattle.sf_groebner.specs.Spans.{combined, InSpan}
use Rattle.sf_groebner.proofs.Spanning.SpanCombinations.{span_submodule_of}
use Rattle.sf_groebner.proofs.Spanning.Submodules.{IsSubmodule}

-- each row of a matrix is in its span, with a unit vector as coefficients
pub rows-InSpan : (m : Matrix) → IsRing m.ring → 1 < m.ring.modulus → IsMatrix m → AllByRecursion (InSpan m) m.rows
rows-InSpan m positive above matrix =
    subst (λ (x : Matrix). AllByRecursion (InSpan m) x.rows) (matrix_product-identity_first m positive.modulus matrix)
    (AllByRecursion-map (InSpan m) (combined m) (unit_rows 0 (row_degrees m))
    (AllByRecursion-weaken _ _ (λ c h. record { coefficients = c; homogeneous = h; value = refl })
    (unit_rows 0 (row_degrees m)) (IsMatrix-identity m.ring above (row_degrees m))))

-- a combination of rows whose images are in a module has its image there
pub combination-image : (map : Matrix) → IsRing map.ring → (rows : Matrix) → map.ring ≡ rows.ring
    → (B : Vector → Type 0) → {degrees : _} → IsSubmodule map.ring degrees B
    → AllByRecursion (λ v. B (combined map v)) rows.rows → (v : Vector) → InSpan rows v → B (combined map v)
combination-image map positive rows rings B b images v h =
    let ring : Ring = map.ring in
    let c : Vector = h.coefficients in
    let inside : AllByRecursion B (with_terms (row_combination ring map.rows) rows.rows) =
    AllByRecursion-map B (combined map) rows.rows images in
    let homogeneous : IsHomogeneous ring.weights (row_degrees rows) c.degree c.terms =
    subst (λ (q : Ring). IsHomogeneous q.weights (row_degrees rows) c.degree c.terms)
    (sym rings) h.homogeneous.homogeneous in
    let same : row_combination ring (with_terms (row_combination ring map.rows) rows.rows) c.terms ≡
    (combined map v).terms =
    row_combination-matrix_product ring positive.modulus (matrix_of ring rows.target rows.rows) map c.terms refl
    ∙ ap (λ q. row_combination ring map.rows (row_combination q rows.rows c.terms)) rings
    ∙ ap (λ (w : Vector). row_combination ring map.rows w.terms) h.value in
    subst B (λ i. record { degree = (h.value i).degree; terms = same i })
    (b.combinations (with_terms (row_combination ring map.rows) rows.rows) inside c.degree c.terms
    (subst (λ ds. IsHomogeneous ring.weights ds c.degree c.terms)
    (sym (degrees-with_terms (row_combination ring map.rows) rows.rows)) homogeneous))

module _ (source target map : Matrix) (positive : IsRing map.ring) (first : map.ring ≡ source.ring)
    (second : map.ring ≡ target.ring) where
  pub sends-rows : 1 < map.ring.modulus → IsMatrix source
      → ((v : Vector) → InSpan source v → InSpan target (combined map v))
      → AllByRecursion (λ v. InSpan target (combined map v)) source.rows
  sends-rows above matrix sends =
      AllByRecursion-weaken (InSpan source) _ sends source.rows
      (rows-InSpan source (subst (λ q. IsRing q) first positive) (subst (λ (q : Ring). 1 < q.modulus) first above) matrix)

  pub sends-span : IsMatrix target → AllByRecursion (λ v. InSpan target (combined map v)) source.rows
      → (v : Vector) → InSpan source v → InSpan target (combined map v)
  sends-span matrix images =
      combination-image map positive source first (InSpan target)
      (span_submodule_of map.ring positive target.target target (sym second) refl matrix) images
