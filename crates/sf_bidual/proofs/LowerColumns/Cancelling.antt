-- Matrices without syzygies may be cancelled behind others.
use Rattle.std.proofs.Common.{◌≡◌, List, [], ◌∷◌, map, refl, sym, ◌∙◌, ap, subst, ℤ}
use Rattle.std.specs.List.{AllByRecursion}
use Rattle.sf_algebra.specs.Matrices.{IsMatrix, Matrix, row_degrees}
use Rattle.sf_algebra.specs.MatrixOperations.{matrix_product, row_combination}
use Rattle.sf_algebra.specs.Rings.{IsRing, Ring}
use Rattle.sf_algebra.specs.VectorOperations.{row_difference, vector_difference}
use Rattle.sf_algebra.specs.Vectors.{IsVector, Vector}
use Rattle.sf_algebra.proofs.Multiplying.Keys.{place_keys}
use Rattle.sf_algebra.proofs.Operators.Groups.{difference-equal}
use Rattle.sf_algebra.proofs.Terms.Negatives.{add-negative}
use Rattle.sf_algebra.proofs.Vectors.Rows.{IsCanonical-row_combination}
use Rattle.sf_algebra.proofs.Vectors.VectorGroups.{vectors_of_degree}
use Rattle.sf_algebra.proofs.Vectors.VectorProps.{vector_unique}
use Rattle.sf_groebner.specs.Spans.{IsCoefficients, IsSyzygy, combined}
use Rattle.sf_groebner.proofs.Spanning.Spans.{IsVector-difference, combined-difference}

-- what has no terms without something is that
pub equal_vectors : (ring : Ring) → IsRing ring → (degrees : List ℤ) (u v : Vector) → IsVector ring degrees u
    → IsVector ring degrees v → u.degree ≡ v.degree → row_difference ring u.terms v.terms ≡ [] → u ≡ v
equal_vectors ring positive degrees u v hu hv same none =
    let d = u.degree in
    let G = vectors_of_degree ring positive.modulus degrees d in
    let first : G.V = (u.terms, hu) in
    let last : G.V =
    (v.terms, subst (λ e. IsVector ring degrees (record { degree = e; terms = v.terms })) (sym same) hv) in
    let equal = difference-equal G first last (vector_unique ring degrees d _ _ none) in
    λ i. record { degree = same i; terms = (equal i).0 }

module _ (g : Matrix) (positive : IsRing g.ring) (free : (v : Vector) → IsSyzygy g v → v.terms ≡ []) where
  -- equal combinations have equal coefficients
  pub equal_coefficients : (u v : Vector) → IsCoefficients g u → IsCoefficients g v → combined g u ≡ combined g v → u ≡ v
  equal_coefficients u v hu hv same =
      let degrees : u.degree ≡ v.degree = ap (λ (w : Vector). w.degree) same in
      let value = combined-difference g positive u v hv.canonical in
      equal_vectors g.ring positive (row_degrees g) u v hu hv degrees
      (free (vector_difference g.ring u v)
      (record {
        coefficients = IsVector-difference g.ring positive (row_degrees g) u v hu hv degrees;
        zero = ap (λ (w : Vector). w.terms) value
            ∙ ap (λ (w : Vector). row_difference g.ring w.terms (combined g v).terms) same
            ∙ add-negative (place_keys g.ring.weights) g.ring.modulus positive.modulus (combined g v).terms
            (IsCanonical-row_combination g.ring positive.modulus g.rows v.terms);
      }))

  cancel_rows : (us vs : List Vector) → AllByRecursion (IsVector g.ring (row_degrees g)) us
      → AllByRecursion (IsVector g.ring (row_degrees g)) vs → map (combined g) us ≡ map (combined g) vs → us ≡ vs
  cancel_rows [] [] hu hv same = refl
  cancel_rows [] (v ∷ vs) hu hv same = cc
  cancel_rows (u ∷ us) [] hu hv same = cc
  cancel_rows (u ∷ us) (v ∷ vs) hu hv same =
      let first : combined g u ≡ combined g v = cc in
      let others : map (combined g) us ≡ map (combined g) vs = cc in
      let head = equal_coefficients u v hu.0 hv.0 first in
      let rest = cancel_rows us vs hu.1 hv.1 others in
      λ i. head i ∷ rest i

  pub cancel : (a b : Matrix) → IsMatrix a → IsMatrix b → a.ring ≡ g.ring → b.ring ≡ g.ring → a.target ≡ row_degrees g
      → b.target ≡ row_degrees g → matrix_product a g ≡ matrix_product b g → a ≡ b
  cancel a b ha hb a_ring b_ring a_target b_target same =
      let over = λ (m : Matrix) (r : m.ring ≡ g.ring) (t : m.target ≡ row_degrees g) (h : IsMatrix m).
      subst (λ (y : Ring × List ℤ). AllByRecursion (IsVector y.0 y.1) m.rows) (λ i. (r i, t i)) h in
      let times : Matrix → Ring → List Vector =
      λ m q. map (λ (v : Vector). record { degree = v.degree; terms = row_combination q g.rows v.terms }) m.rows in
      let rows = cancel_rows a.rows b.rows (over a a_ring a_target ha) (over b b_ring b_target hb)
      (sym (ap (times a) a_ring) ∙ ap (λ (m : Matrix). m.rows) same ∙ ap (times b) b_ring) in
      λ i. record { ring = (a_ring ∙ sym b_ring) i; target = (a_target ∙ sym b_target) i; rows = rows i }
