-- What is reduced by a reduced basis is over n variables where what it came from is: its other outer parts are in the
-- module.
use Rattle.std.proofs.Common.{◌≡◌, ◌≢◌, inl, inr, ℕ, List, [], ◌∷◌, length, refl, sym, ◌∙◌, ap, subst}
use Rattle.std.proofs.lemmas.Bool.{cases_Bool}
use Rattle.sf_algebra.specs.Matrices.{Matrix, IsMatrix, row_degrees}
use Rattle.sf_algebra.specs.MatrixOperations.{row_combination, stacked, vector_part}
use Rattle.sf_algebra.specs.Monomials.{Monomial, one}
use Rattle.sf_algebra.specs.Multiples.{negative, negative_term}
use Rattle.sf_algebra.specs.Rings.{IsRing}
use Rattle.sf_algebra.specs.Terms.{Term}
use Rattle.sf_algebra.specs.VectorOperations.{row_sum, vector_difference}
use Rattle.sf_algebra.specs.Vectors.{Place, Vector, place_cmp, IsCanonicalRow}
use Rattle.sf_algebra.proofs.Monomials.MonomialEquality.{Decides-same_exponents}
use Rattle.sf_algebra.proofs.Terms.Negatives.{IsCanonical-negative, negative-negative}
use Rattle.sf_algebra.proofs.Vectors.HomogeneousVectors.{IsVector-negative}
use Rattle.sf_algebra.proofs.Vectors.RowSums.{row_sum-comm, row_sum-nil_first}
use Rattle.sf_algebra.proofs.Vectors.Rows.{IsCanonical-row_combination, row_combination-negative}
use Rattle.sf_groebner.specs.Divisions.{IsDivision}
use Rattle.sf_groebner.specs.Lifts.{IsLift}
use Rattle.sf_groebner.specs.Presentations.{IsReducedByRelations}
use Rattle.sf_groebner.specs.ReducedBases.{IsSpanBasis}
use Rattle.sf_groebner.specs.Spans.{InSpan, IsSyzygy}
use Rattle.sf_groebner.proofs.Spanning.SpanCombinations.{span_submodule}
use Rattle.sf_groebner.proofs.Uniqueness.Subtractions.{add-negative_front}
use Rattle.sf_algebra.proofs.Multiplying.Keys.{place_keys}
use Rattle.sf_variables.specs.Variables.{IsMatrixInVariables, IsRowInVariables, IsVectorInVariables}
use Rattle.sf_variables.proofs.Keeping.Matrices.{IsMatrixInVariables-stacked}
use Rattle.sf_variables.proofs.Keeping.Rows.{IsRowInVariables-part}
use Rattle.sf_variables.proofs.OuterParts.Bases.{reduced_in_variables}
use Rattle.sf_variables.proofs.OuterParts.Combinations.{outer_terms-sum, row_combination-outer_terms}
use Rattle.sf_variables.proofs.OuterParts.Modules.{outer_terms-elsewhere, outer_terms-here, span_parts}
use Rattle.sf_variables.proofs.OuterParts.Splitting.{outer, outer-IsInVariables}
use Rattle.sf_variables.proofs.OuterParts.Vectors.{is_at_outer, inner_term, outer_part, outer_terms, IsCanonical-outer_terms, IsVector-outer_part}

-- over n variables there are no other outer parts
outer_terms-none : (n : ℕ) (b : Monomial) → b ≢ one → (ts : List (Term Place)) → IsRowInVariables n ts
    → outer_terms n b ts ≡ []
outer_terms-none n b other [] h = refl
outer_terms-none n b other (t ∷ ts) h =
    elim (cases_Bool (is_at_outer n b t)) [
      | inl here ↦ absurd
          (other (sym ((Decides-same_exponents (outer n t.at.monomial) b).0 here)
          ∙ outer-IsInVariables n t.at.monomial h.0))
      | inr elsewhere ↦ outer_terms-elsewhere n b t ts elsewhere ∙ outer_terms-none n b other ts h.1
    ]

outer_terms-negative : (n : ℕ) (b : Monomial) (p : ℕ) (ts : List (Term Place))
    → outer_terms n b (negative p ts) ≡ negative p (outer_terms n b ts)
outer_terms-negative n b p [] = refl
outer_terms-negative n b p (t ∷ ts) =
    let others = outer_terms-negative n b p ts in
    elim (cases_Bool (is_at_outer n b t)) [
      | inl here ↦
          outer_terms-here n b (negative_term p t) (negative p ts) here
          ∙ ap (λ us. negative_term p (inner_term n t) ∷ us) others
          ∙ ap (negative p) (sym (outer_terms-here n b t ts here))
      | inr elsewhere ↦
          outer_terms-elsewhere n b (negative_term p t) (negative p ts) elsewhere
          ∙ others
          ∙ ap (negative p) (sym (outer_terms-elsewhere n b t ts elsewhere))
    ]

module _ (n : ℕ) (m : Matrix) (positive : IsRing m.ring) (keeps : IsMatrixInVariables n m) where
  pub lift_in_variables : (v c : Vector) → IsVectorInVariables n v → IsLift m v c → IsVectorInVariables n c
  lift_in_variables v c inside h =
      reduced_in_variables n m.ring.weights (IsSyzygy m) h.syzygies h.basis c h.reduced
      (λ b other. record {
        coefficients = IsVector-outer_part n b m.ring (row_degrees m) c h.coefficients;
        zero =
            row_combination-outer_terms n b m.ring positive.modulus m.rows keeps c.terms
            ∙ ap (λ (w : Vector). outer_terms n b w.terms) h.value
            ∙ outer_terms-none n b other v.terms inside;
      })

  -- negatives of vectors of a span
  span-negative : (v : Vector) → InSpan m v
      → InSpan m (record { degree = v.degree; terms = negative m.ring.modulus v.terms })
  span-negative v h =
      let c = h.coefficients in
      record {
        coefficients = record { degree = c.degree; terms = negative m.ring.modulus c.terms };
        homogeneous = IsVector-negative m.ring (row_degrees m) c.degree c.terms h.homogeneous;
        value =
            (λ i. record { degree = c.degree; terms = row_combination-negative m.ring positive.modulus m.rows c.terms h.homogeneous.canonical i })
            ∙ ap (λ (w : Vector). record { degree = w.degree; terms = negative m.ring.modulus w.terms }) h.value;
      }

  -- a vector that is reduced by relations and differs by one of their span from one over n variables
  pub reduced_vector_in_variables : (v w : Vector) → IsVectorInVariables n v → v.degree ≡ w.degree
      → IsCanonicalRow m.ring w.terms → InSpan m (vector_difference m.ring v w) → IsReducedByRelations m w
      → IsVectorInVariables n w
  reduced_vector_in_variables v w inside degree canonical differ h =
      reduced_in_variables n m.ring.weights (InSpan m) h.basis h.reduced_basis w h.reduced (λ b other. part b other)
    where
      part : (b : Monomial) → b ≢ one → InSpan m (outer_part m.ring.weights n b w)
      part b other =
          let p = m.ring.modulus in
          let us = outer_terms n b w.terms in
          let parts : IsCanonicalRow m.ring us = IsCanonical-outer_terms n b m.ring w.terms canonical in
          let terms : outer_terms n b (row_sum m.ring v.terms (negative p w.terms)) ≡ negative p us =
          outer_terms-sum n b m.ring positive.modulus v.terms (negative p w.terms)
          ∙ (λ i. row_sum m.ring (outer_terms-none n b other v.terms inside i) (outer_terms-negative n b p w.terms i))
          ∙ row_sum-nil_first m.ring positive.modulus (negative p us)
          (IsCanonical-negative (place_cmp m.ring.weights) p us parts) in
          let back : negative p (outer_terms n b (row_sum m.ring v.terms (negative p w.terms))) ≡ us =
          ap (negative p) terms ∙ negative-negative (place_cmp m.ring.weights) p us parts.residues in
          subst (InSpan m) (λ i. record {
            degree =
                (outer_part m.ring.weights n b (record { degree = degree i; terms = [] })).degree;
            terms = back i;
          })
          (span-negative (outer_part m.ring.weights n b (vector_difference m.ring v w))
          (span_parts n m positive.modulus keeps b (vector_difference m.ring v w) differ))

-- the coordinates of a vector, the first block of its lift
pub coordinates_in_variables : (n : ℕ) (generators base : Matrix) → IsRing generators.ring
    → IsMatrixInVariables n generators → IsMatrixInVariables n base → (v c : Vector) → IsVectorInVariables n v
    → IsLift (stacked generators base) v c → IsVectorInVariables n (vector_part 0 (length generators.rows) c)
coordinates_in_variables n generators base positive h k v c inside lift =
    IsRowInVariables-part n 0 (length generators.rows) c.terms
    (lift_in_variables n (stacked generators base) positive
    (IsMatrixInVariables-stacked n generators base h k) v c inside lift)

-- the rest of a division by the basis of a span, which differs by the combination with the quotients
pub rest_in_variables : (n : ℕ) (m : Matrix) → IsRing m.ring → IsMatrix m → IsMatrixInVariables n m
    → (basis : List Vector) → IsSpanBasis m basis → (v rest quotients : Vector) → IsVectorInVariables n v
    → IsDivision m.ring m.target basis v rest quotients → IsVectorInVariables n rest
rest_in_variables n m positive matrix keeps basis h v rest quotients inside e =
    let taken = row_combination m.ring basis quotients.terms in
    let terms : taken ≡ row_sum m.ring v.terms (negative m.ring.modulus rest.terms) =
    sym (add-negative_front (place_keys m.ring.weights) m.ring.modulus positive.modulus taken rest.terms
    (IsCanonical-row_combination m.ring positive.modulus basis quotients.terms) e.divided.vector.canonical)
    ∙ ap (λ ts. row_sum m.ring ts (negative m.ring.modulus rest.terms))
    (row_sum-comm m.ring positive.modulus taken rest.terms ∙ e.divided.sum) in
    reduced_vector_in_variables n m positive keeps v rest inside (sym e.rest_degree) e.divided.vector.canonical
    (subst (InSpan m) (λ i. record { degree = e.quotients_degree i; terms = terms i })
    ((span_submodule m positive matrix).combinations basis h.inside quotients.degree quotients.terms e.coefficients.homogeneous))
    (record { basis = basis; reduced_basis = h; reduced = e.divided.reduced })
