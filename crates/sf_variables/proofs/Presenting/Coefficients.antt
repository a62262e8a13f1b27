-- The part of coefficients that is over n variables gives the same vector, where rows and vector are over n variables.
use Rattle.std.proofs.Common.{◌≡◌, ℕ, List, [], ◌∷◌, filter, refl, ◌∙◌, ap, subst, arith, ℤ, pos, ◌+ℤ◌, neg_ℤ}
use Rattle.std.proofs.lemmas.Int.{ints}
use Rattle.sf_algebra.specs.Matrices.{Matrix, row_degrees}
use Rattle.sf_algebra.specs.Monomials.{one, monomial_degree}
use Rattle.sf_algebra.specs.Rings.{IsRing, Weights}
use Rattle.sf_algebra.specs.Terms.{Term}
use Rattle.sf_algebra.specs.Vectors.{Place, Vector, IsVector}
use Rattle.sf_algebra.proofs.GradedMatrices.Columns.{AllByRecursion-always}
use Rattle.sf_algebra.proofs.GradedMatrices.Stacks.{AllByRecursion-map}
use Rattle.sf_algebra.proofs.Monomials.MonomialEquality.{Decides-same_exponents}
use Rattle.sf_groebner.specs.Spans.{combined, InSpan, IsCoefficients}
use Rattle.sf_variables.specs.Variables.{IsMatrixInVariables, IsRowInVariables, IsVectorInVariables}
use Rattle.sf_variables.proofs.OuterParts.Combinations.{row_combination-outer_terms}
use Rattle.sf_variables.proofs.OuterParts.Modules.{outer_terms-here}
use Rattle.sf_variables.proofs.OuterParts.Splitting.{outer, inner, inner-inner, inner-IsInVariables, IsInVariables-outer, outer-inner_same, outer-IsInVariables}
use Rattle.sf_variables.proofs.OuterParts.Vectors.{inner_term, is_at_outer, outer_terms, IsVector-outer_part}

module _ (n : ℕ) where
  -- inner parts are over n variables
  IsRowInVariables-outer_terms : (ts : List (Term Place)) → IsRowInVariables n (outer_terms n one ts)
  IsRowInVariables-outer_terms ts =
      AllByRecursion-map _ (inner_term n) (filter (is_at_outer n one) ts)
      (AllByRecursion-always _ (λ (t : Term Place). IsInVariables-outer n (inner n t.at.monomial)
      (outer-inner_same n (inner n t.at.monomial) (inner-inner n t.at.monomial)))
      (filter (is_at_outer n one) ts))

  -- over n variables a row is its part without an outer one
  outer_terms-one : (ts : List (Term Place)) → IsRowInVariables n ts → outer_terms n one ts ≡ ts
  outer_terms-one [] h = refl
  outer_terms-one (t ∷ ts) h =
      let here = (Decides-same_exponents (outer n t.at.monomial) one).1 (outer-IsInVariables n t.at.monomial h.0) in
      let same = inner-IsInVariables n t.at.monomial h.0 in
      outer_terms-here n one t ts here
      ∙ (λ i. record { at = record { position = t.at.position; monomial = same i }; coefficient = t.coefficient } ∷ outer_terms-one ts h.1 i)

  degree-one : (weights : Weights) (d : ℤ) → d +ℤ neg_ℤ (pos (monomial_degree weights one)) ≡ d
  degree-one weights d = omega (arith, ints)

  pub coefficients_in_variables : (m : Matrix) → IsRing m.ring → IsMatrixInVariables n m → (v : Vector)
      → IsVectorInVariables n v → InSpan m v
      → (c : Vector) × IsCoefficients m c × IsVectorInVariables n c × (combined m c ≡ v)
  coefficients_in_variables m positive keeps v inside h =
      let c = h.coefficients in
      let d : Vector = record { degree = c.degree; terms = outer_terms n one c.terms } in (
        d,
        subst (λ e. IsVector m.ring (row_degrees m) (record { degree = e; terms = d.terms }))
            (degree-one m.ring.weights c.degree) (IsVector-outer_part n one m.ring (row_degrees m) c h.homogeneous),
        IsRowInVariables-outer_terms c.terms,
        (λ i. record {
          degree = (h.value i).degree;
          terms = (row_combination-outer_terms n one m.ring positive.modulus m.rows keeps c.terms
              ∙ ap (λ (w : Vector). outer_terms n one w.terms) h.value
              ∙ outer_terms-one v.terms inside) i;
        }),
      )
