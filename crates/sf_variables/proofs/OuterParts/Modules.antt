-- Spans, syzygies, relations and graphs of matrices over n variables have the outer parts of their vectors, and so have
-- all vectors of a free module, and the first parts of a module that has them.
use Rattle.std.proofs.Common.{◌≡◌, inl, inr, ℕ, ◌+◌, ◌<◌, true, false, cond, List, [], ◌∷◌, map, filter, length, refl, sym, ◌∙◌, ap, subst, ℤ}
use Rattle.std.proofs.lemmas.Bool.{cases_Bool}
use Rattle.sf_algebra.specs.Matrices.{Matrix, row_degrees}
use Rattle.sf_algebra.specs.MatrixOperations.{part_terms, row_combination}
use Rattle.sf_algebra.specs.Monomials.{Monomial}
use Rattle.sf_algebra.specs.Rings.{Ring, Weights}
use Rattle.sf_algebra.specs.Terms.{Term}
use Rattle.sf_algebra.specs.Vectors.{Place, Vector}
use Rattle.sf_algebra.proofs.GradedMatrices.PartTerms.{cases_between, moved_back, part_terms-inside, part_terms-outside}
use Rattle.sf_groebner.specs.Cuts.{IsFirstPart}
use Rattle.sf_groebner.specs.Homology.{IsAny}
use Rattle.sf_groebner.specs.Presentations.{IsRelation}
use Rattle.sf_groebner.specs.Spans.{combined, InSpan, IsSyzygy, IsGraphVector, graph_degrees, coefficient_terms}
use Rattle.sf_variables.specs.Variables.{IsMatrixInVariables}
use Rattle.sf_variables.proofs.OuterParts.Bases.{HasOuterParts}
use Rattle.sf_variables.proofs.OuterParts.Combinations.{row_combination-outer_terms}
use Rattle.sf_variables.proofs.OuterParts.Vectors.{inner_term, is_at_outer, outer_part, outer_terms, IsVector-outer_part}

module _ (n : ℕ) (b : Monomial) where
  pub outer_terms-here : (t : Term Place) (ts : List (Term Place)) → is_at_outer n b t ≡ true
      → outer_terms n b (t ∷ ts) ≡ inner_term n t ∷ outer_terms n b ts
  outer_terms-here t ts e =
      ap (λ c. map (inner_term n) (cond c (t ∷ filter (is_at_outer n b) ts) (filter (is_at_outer n b) ts))) e

  pub outer_terms-elsewhere : (t : Term Place) (ts : List (Term Place)) → is_at_outer n b t ≡ false
      → outer_terms n b (t ∷ ts) ≡ outer_terms n b ts
  outer_terms-elsewhere t ts e =
      ap (λ c. map (inner_term n) (cond c (t ∷ filter (is_at_outer n b) ts) (filter (is_at_outer n b) ts))) e

  -- the outer part of the terms in a range of positions
  pub part_terms-outer_terms : (from to : ℕ) (ts : List (Term Place))
      → part_terms from to (outer_terms n b ts) ≡ outer_terms n b (part_terms from to ts)
  part_terms-outer_terms from to [] = refl
  part_terms-outer_terms from to (t ∷ ts) =
      let others = part_terms-outer_terms from to ts in
      elim (cases_Bool (is_at_outer n b t)) [
        | inl here ↦ ap (part_terms from to) (outer_terms-here t ts here) ∙ elim (cases_between from to t.at.position) [
          | inl inside ↦
              part_terms-inside from to (inner_term n t) (outer_terms n b ts) inside.0 inside.1
              ∙ ap (λ us. inner_term n (moved_back from t) ∷ us) others
              ∙ sym (outer_terms-here (moved_back from t) (part_terms from to ts) here)
              ∙ ap (outer_terms n b) (sym (part_terms-inside from to t ts inside.0 inside.1))
          | inr outside ↦
              part_terms-outside from to (inner_term n t) (outer_terms n b ts) outside
              ∙ others
              ∙ ap (outer_terms n b) (sym (part_terms-outside from to t ts outside))
        ]
        | inr elsewhere ↦ ap (part_terms from to) (outer_terms-elsewhere t ts elsewhere) ∙ others ∙ elim
            (cases_between from to t.at.position) [
              | inl inside ↦
                  sym (outer_terms-elsewhere (moved_back from t) (part_terms from to ts) elsewhere)
                  ∙ ap (outer_terms n b) (sym (part_terms-inside from to t ts inside.0 inside.1))
              | inr outside ↦ ap (outer_terms n b) (sym (part_terms-outside from to t ts outside))
            ]
      ]

module _ (n : ℕ) (m : Matrix) (positive : 0 < m.ring.modulus) (keeps : IsMatrixInVariables n m) where
  pub combined-outer_part : (b : Monomial) (c : Vector)
      → combined m (outer_part m.ring.weights n b c) ≡ outer_part m.ring.weights n b (combined m c)
  combined-outer_part b c =
      let terms = row_combination-outer_terms n b m.ring positive m.rows keeps c.terms in
      λ i. record { degree = (outer_part m.ring.weights n b c).degree; terms = terms i }

  pub span_parts : HasOuterParts m.ring.weights n (InSpan m)
  span_parts b v h = record {
    coefficients = outer_part m.ring.weights n b h.coefficients;
    homogeneous = IsVector-outer_part n b m.ring (row_degrees m) h.coefficients h.homogeneous;
    value = combined-outer_part b h.coefficients ∙ ap (outer_part m.ring.weights n b) h.value;
  }

  pub relation_parts : (B : Vector → Type 0) → HasOuterParts m.ring.weights n B
      → HasOuterParts m.ring.weights n (IsRelation m B)
  relation_parts B parts b c h = record {
    coefficients = IsVector-outer_part n b m.ring (row_degrees m) c h.coefficients;
    inside = subst B (sym (combined-outer_part b c)) (parts b (combined m c) h.inside);
  }

  pub syzygy_parts : HasOuterParts m.ring.weights n (IsSyzygy m)
  syzygy_parts b c h = record {
    coefficients = IsVector-outer_part n b m.ring (row_degrees m) c h.coefficients;
    zero = row_combination-outer_terms n b m.ring positive m.rows keeps c.terms ∙ ap (outer_terms n b) h.zero;
  }

  pub graph_vector_parts : HasOuterParts m.ring.weights n (IsGraphVector m)
  graph_vector_parts b w h = record {
    vector = IsVector-outer_part n b m.ring (graph_degrees m) w h.vector;
    value =
        part_terms-outer_terms n b 0 (length m.target) w.terms
        ∙ ap (outer_terms n b) h.value
        ∙ sym (row_combination-outer_terms n b m.ring positive m.rows keeps (coefficient_terms m w.terms))
        ∙ ap (row_combination m.ring m.rows)
        (sym (part_terms-outer_terms n b (length m.target) (length m.target + length m.rows) w.terms));
  }

pub any_parts : (n : ℕ) (ring : Ring) (degrees : List ℤ) → HasOuterParts ring.weights n (IsAny ring degrees)
any_parts n ring degrees b v h = IsVector-outer_part n b ring degrees v h

pub first_part_parts : (weights : Weights) (n k : ℕ) (N : Vector → Type 0) → HasOuterParts weights n N
    → HasOuterParts weights n (IsFirstPart k N)
first_part_parts weights n k N parts b v h = record {
  whole = outer_part weights n b h.whole;
  inside = parts b h.whole h.inside;
  part =
      (λ i. record { degree = (outer_part weights n b h.whole).degree; terms = part_terms-outer_terms n b 0 k h.whole.terms i })
      ∙ ap (outer_part weights n b) h.part;
}
