-- A matrix and its negative have the same span, and so has a matrix with any sign.
use Rattle.std.proofs.Common.{◌≡◌, ◌↔◌, ◌<◌, ℕ, zero, suc, refl, sym, ap, ◌∙◌, subst, arith}
use Rattle.std.specs.List.{AllByRecursion}
use Rattle.sf_algebra.specs.Matrices.{IsMatrix, Matrix, degrees_of}
use Rattle.sf_algebra.specs.MatrixOperations.{negated}
use Rattle.sf_algebra.specs.Rings.{IsRing, Ring}
use Rattle.sf_algebra.specs.Vectors.{IsHomogeneous, Vector}
use Rattle.sf_algebra.proofs.GradedMatrices.NegatedMatrices.{IsMatrix-negated, negated-negated}
use Rattle.sf_groebner.specs.Spans.{InSpan, combined_rows}
use Rattle.sf_groebner.proofs.Spanning.SpanCombinations.{span_submodule}
use Rattle.sf_homotopy.proofs.Exactness.Spans.{span_rows}
use Rattle.sf_bicomplex.specs.TensorBicomplexes.{signed}
use Rattle.sf_bicomplex.proofs.Tensors.Multiples.{IsMatrix-signed, IsMultiple, multiple-from_zero, multiple-signed, ring-signed, zero-from_multiple}

-- the span of rows in a span
rows-span : (r m : Matrix) → m.ring ≡ r.ring → IsRing r.ring → IsMatrix r → AllByRecursion (InSpan r) m.rows → (v : Vector)
    → InSpan m v → InSpan r v
rows-span r m rings positive matrix inside v k =
    let c : Vector = k.coefficients in
    subst (InSpan r) (ap (λ q. combined_rows q m.rows c) (sym rings) ∙ k.value)
    ((span_submodule r positive matrix).combinations m.rows inside c.degree c.terms
    (subst (λ (q : Ring). IsHomogeneous q.weights (degrees_of m.rows) c.degree c.terms) rings k.homogeneous.homogeneous))

module _ (m : Matrix) (above : 1 < m.ring.modulus) (positive : IsRing m.ring) (matrix : IsMatrix m) where
  own : IsMultiple m m
  own = multiple-from_zero m m refl refl (span_rows m above matrix)

  negated-inside : AllByRecursion (InSpan m) (negated m).rows
  negated-inside = zero-from_multiple m (negated m) (multiple-signed 1 m m (omega arith) own)

  span-from_negated : (v : Vector) → InSpan (negated m) v → InSpan m v
  span-from_negated = rows-span m (negated m) refl positive matrix negated-inside

span-to_negated : (m : Matrix) → 1 < m.ring.modulus → IsRing m.ring → IsMatrix m → (v : Vector) → InSpan m v
    → InSpan (negated m) v
span-to_negated m above positive matrix =
    let other = IsMatrix-negated m matrix in
    rows-span (negated m) m refl positive other
    (subst (λ (x : Matrix). AllByRecursion (InSpan (negated m)) x.rows) (negated-negated m matrix)
    (negated-inside (negated m) above positive other))

module _ (m : Matrix) (above : 1 < m.ring.modulus) (positive : IsRing m.ring) (matrix : IsMatrix m) where
  pub span-signed : (p : ℕ) (v : Vector) → InSpan (signed p m) v ↔ InSpan m v
  span-signed zero v = (λ k. k, λ k. k)
  span-signed (suc p) v =
      let big = subst (λ (q : Ring). 1 < q.modulus) (sym (ring-signed p m)) above in
      let good = subst (λ (q : Ring). IsRing q) (sym (ring-signed p m)) positive in
      let s = IsMatrix-signed p m matrix in (
        λ k. (span-signed p v).0 (span-from_negated (signed p m) big good s v k),
        λ k. span-to_negated (signed p m) big good s v ((span-signed p v).1 k),
      )
