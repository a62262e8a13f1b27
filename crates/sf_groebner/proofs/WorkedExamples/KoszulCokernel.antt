-- The example of two variables: the cokernel, with one generator and the variables as its relations.
use Rattle.std.proofs.Common.{◌≡◌, ◌||◌, ◌<◌, false, List, [], ◌∷◌, inr, refl, sym, ◌∙◌, ap, subst, arith, pos}
use Rattle.std.proofs.lemmas.Int.{ints}
use Rattle.sf_algebra.specs.MatrixOperations.{identity, unit_vector}
use Rattle.sf_algebra.specs.Rings.{plain, ones}
use Rattle.sf_algebra.specs.Sums.{add}
use Rattle.sf_algebra.specs.Terms.{Term}
use Rattle.sf_algebra.specs.Vectors.{Place, Vector, IsVector, place_cmp}
use Rattle.sf_algebra.proofs.GradedMatrices.MatrixRows.{StandsWithin}
use Rattle.sf_algebra.proofs.Monomials.Orders.{place_cmp_linear}
use Rattle.sf_algebra.proofs.Terms.Sums.{add-nil}
use Rattle.sf_algebra.proofs.Vectors.HomogeneousVectors.{row_combination-identity}
use Rattle.sf_algebra.proofs.Vectors.UnitRows.{unit_term}
use Rattle.sf_groebner.specs.Homology.{IsAny}
use Rattle.sf_groebner.specs.HomologyExamples.{HasKoszulCokernel, RefusesNoCokernel}
use Rattle.sf_groebner.specs.MinimalGenerators.{AreMinimal, IsInSum}
use Rattle.sf_groebner.specs.Presentations.{IsRelation, IsZero}
use Rattle.sf_groebner.specs.ReducedBases.{HasDividedLead, IsReducedBasis}
use Rattle.sf_groebner.specs.ResolutionExamples.{x_row, y_row, two_variables}
use Rattle.sf_groebner.specs.Spans.{InSpan, combined}
use Rattle.sf_groebner.proofs.Basics.PlaceDivisors.{Decides-place_divides}
use Rattle.sf_groebner.proofs.PartsOfBases.GraphParts.{IsWithin-IsVector}
use Rattle.sf_groebner.proofs.Spanning.SameModules.{IsReducedBasis-same}
use Rattle.sf_groebner.proofs.Spanning.Spans.{span_module, IsVector-difference}
use Rattle.sf_groebner.proofs.Uniqueness.MinimalGenerators.{unique_minimal}
use Rattle.sf_groebner.proofs.Uniqueness.UniqueBases.{unique_reduced}
use Rattle.sf_groebner.proofs.WorkedExamples.FreeRelations.{span-no_rows}
use Rattle.sf_groebner.proofs.WorkedExamples.KoszulSteps.{variables-matrix, variables-span, variables-kept}

abbrev unit_row : Vector
unit_row = unit_vector (pos 0) 0

-- it divides each lead at the one position
unit_divides : (ts : List (Term Place)) → StandsWithin 1 ts → HasDividedLead (unit_row ∷ []) ts
unit_divides [] h = tt
unit_divides (t ∷ ts) h =
    let first : t.at.position < 1 = h.0 in
    ap (λ d. d || false)
    ((Decides-place_divides (unit_term 0).at t.at).1 (omega (arith, first), (omega arith, omega arith, omega arith, omega arith, omega arith, omega arith)))

all_vectors : IsReducedBasis ones (IsAny (plain 101) (pos 0 ∷ [])) (unit_row ∷ [])
all_vectors = record {
  inside = search (arith, ints);
  monic = (refl, tt);
  complete = λ v h. unit_divides v.terms (IsWithin-IsVector (plain 101) (pos 0 ∷ []) v h);
  apart = (tt, tt);
  sorted = (tt, tt);
}

-- the unit vector isn't in the span of x and y
no_unit : (ts : List (Term Place)) → HasDividedLead (x_row ∷ y_row ∷ []) ts → ts ≡ unit_row.terms → ⊥
no_unit ts h e = let divided : HasDividedLead (x_row ∷ y_row ∷ []) unit_row.terms = subst (HasDividedLead (x_row ∷ y_row ∷ [])) e h in cc

unit_needed : IsInSum (plain 101) [] (InSpan two_variables) unit_row → ⊥
unit_needed h =
    no_unit h.first.terms (variables-span.complete h.first h.in_module)
    (sym (add-nil (place_cmp ones) (place_cmp_linear ones) 101 (omega arith) h.first.terms ((span_module two_variables (omega arith) variables-matrix).vectors h.first h.in_module).canonical)
    ∙ ap (add (place_cmp ones) 101 h.first.terms)
    (sym (span-no_rows (plain 101) (omega arith) (pos 0 ∷ []) h.second h.in_span))
    ∙ h.sum)

generators : AreMinimal (plain 101) (IsAny (plain 101) (pos 0 ∷ [])) (InSpan two_variables) (unit_row ∷ [])
generators = record { basis = unit_row ∷ []; reduced = all_vectors; kept = inr (unit_needed, ([], refl, refl)) }

-- a relation of the unit vector is a vector of the span
unit_combined : (c : Vector) → IsVector (plain 101) (pos 0 ∷ []) c → combined (identity (plain 101) (pos 0 ∷ [])) c ≡ c
unit_combined c h = λ i. record { degree = c.degree; terms = row_combination-identity (plain 101) (omega arith) (pos 0 ∷ []) c h i }

relation_from_span : (v : Vector) → InSpan two_variables v
    → IsRelation (identity (plain 101) (pos 0 ∷ [])) (InSpan two_variables) v
relation_from_span v h =
    let vector = (span_module two_variables (omega arith) variables-matrix).vectors v h in
    record { coefficients = vector; inside = subst (InSpan two_variables) (sym (unit_combined v vector)) h }

span_from_relation : (v : Vector) → IsRelation (identity (plain 101) (pos 0 ∷ [])) (InSpan two_variables) v
    → InSpan two_variables v
span_from_relation v h = subst (InSpan two_variables) (unit_combined v h.coefficients) h.inside

relations : AreMinimal (plain 101) (IsRelation (identity (plain 101) (pos 0 ∷ [])) (InSpan two_variables)) IsZero
    (x_row ∷ y_row ∷ [])
relations = record {
  basis = x_row ∷ y_row ∷ [];
  reduced =
      IsReducedBasis-same ones (InSpan two_variables)
      (IsRelation (identity (plain 101) (pos 0 ∷ [])) (InSpan two_variables)) relation_from_span span_from_relation
      (x_row ∷ y_row ∷ []) variables-span;
  kept = variables-kept;
}

pub koszul-cokernel : HasKoszulCokernel
koszul-cokernel = record {
  generators_ring = refl;
  generators_target = refl;
  generators_minimal = generators;
  relations_ring = refl;
  relations_target = refl;
  relations_minimal = relations;
}

pub refuses_no_cokernel : RefusesNoCokernel
refuses_no_cokernel others h =
    let same : [] ≡ unit_row ∷ [] =
    unique_minimal (plain 101) (pos 0 ∷ []) (IsAny (plain 101) (pos 0 ∷ [])) (InSpan two_variables)
    (unique_reduced (plain 101) (omega arith) (pos 0 ∷ []) (IsAny (plain 101) (pos 0 ∷ []))
    (record { vectors = λ v k. k; differences = λ u v k l e. IsVector-difference (plain 101) (omega arith) (pos 0 ∷ []) u v k l e })) [] (unit_row ∷ []) h.generators_minimal generators in
    cc
