-- Lists that aren't the reduced basis of two quadrics: what refuses them, and what else they meet.
use Rattle.std.proofs.Common.{List, [], ◌∷◌, Bool, true, false, ◌||◌, IsTrue, refl, ap, arith}
use Rattle.std.proofs.lemmas.Int.{ints}
use Rattle.sf_algebra.specs.Multiples.{combination, combination_terms}
use Rattle.sf_algebra.specs.Residues.{sum_mod, product_mod}
use Rattle.sf_algebra.specs.Sums.{normal, insert}
use Rattle.sf_algebra.specs.Terms.{Term}
use Rattle.sf_algebra.specs.Vectors.{Place, Vector}
use Rattle.sf_groebner.specs.Examples.{term, vector, first_quadric, second_quadric, third_row, quadrics, quadrics_basis}
use Rattle.sf_groebner.specs.Leads.{place_divides}
use Rattle.sf_groebner.specs.ReducedBases.{HasDividedLead, is_divided, lead_divides}
use Rattle.sf_groebner.specs.RefusedBases.{HasCompleteLeads, later_lead_in_tail, earlier_lead_in_tail, outside_rows, doubled_row, with_zero, smaller_lead_first, greater_degree_first, RefusesLaterLeadInTail, RefusesEarlierLeadInTail, RefusesOutsideRows, RefusesDoubledRow, RefusesZero, RefusesWithoutThirdRow, RefusesSmallerLeadFirst, RefusesGreaterDegreeFirst}
use Rattle.sf_groebner.specs.Spans.{InSpan, IsCoefficients, combined}
use Rattle.sf_groebner.proofs.Basics.PlaceDivisors.{Decides-place_divides, PlaceDivides-trans}
use Rattle.sf_groebner.proofs.WorkedExamples.QuadricsParts.{quadrics-span}

-- rows that are given by coefficients
in_span : (c : Vector) → IsCoefficients quadrics c → InSpan quadrics (combined quadrics c)
in_span c h = record { coefficients = c; homogeneous = h; value = refl }

first : InSpan quadrics first_quadric
unfolding combination combination_terms normal insert sum_mod product_mod
first = record { coefficients = vector 2 (term 1 0 [] ∷ []); homogeneous = search (arith, ints); value = refl }

second : InSpan quadrics second_quadric
unfolding combination combination_terms normal insert sum_mod product_mod
second = record { coefficients = vector 2 (term 1 1 [] ∷ []); homogeneous = search (arith, ints); value = refl }

third : InSpan quadrics third_row
third = quadrics-span.inside.1.1.0

-- leads among those of other rows
HasDividedLead-from : (vs ws : List Vector) → ((k : Place) → IsTrue (is_divided vs k) → IsTrue (is_divided ws k))
    → (ts : List (Term Place)) → HasDividedLead vs ts → HasDividedLead ws ts
HasDividedLead-from vs ws f [] h = tt
HasDividedLead-from vs ws f (t ∷ ts) h = f t.at h

complete_from : (ws : List Vector) → ((k : Place) → IsTrue (is_divided quadrics_basis k) → IsTrue (is_divided ws k))
    → HasCompleteLeads ws
complete_from ws f v h = HasDividedLead-from quadrics_basis ws f v.terms (quadrics-span.complete v h)

pub refuses_later_lead_in_tail : RefusesLaterLeadInTail
unfolding combination combination_terms normal insert sum_mod product_mod
refuses_later_lead_in_tail = (
  λ h. let e = h.apart.0.0.0.1.0 in cc,
  (record { coefficients = vector 2 (term 1 0 [] ∷ term 1 1 [] ∷ []); homogeneous = search (arith, ints); value = refl }, (second, (third, tt))),
  (refl, (refl, (refl, tt))),
  complete_from later_lead_in_tail (λ k h. h),
  ((refl, (refl, tt)), ((refl, tt), (tt, tt))),
)

pub refuses_earlier_lead_in_tail : RefusesEarlierLeadInTail
unfolding combination combination_terms normal insert sum_mod product_mod
refuses_earlier_lead_in_tail = (
  λ h. let e = h.apart.0.1.0.1.1.0 in cc,
  (first, (second, (record { coefficients = vector 3 (term 1 0 (0 ∷ 1 ∷ []) ∷ term 1 0 (0 ∷ 0 ∷ 1 ∷ []) ∷ term 100 1 (1 ∷ []) ∷ term 1 1 (0 ∷ 1 ∷ []) ∷ []); homogeneous = search (arith, ints); value = refl }, tt))),
  (refl, (refl, (refl, tt))),
  complete_from earlier_lead_in_tail (λ k h. h),
  ((refl, (refl, tt)), ((refl, tt), (tt, tt))),
)

-- the square of y would be in the span, and none of the leads there divides it
not_inside : InSpan quadrics (vector 2 (term 1 0 (0 ∷ 2 ∷ []) ∷ [])) → ⊥
not_inside h = let e = quadrics-span.complete (vector 2 (term 1 0 (0 ∷ 2 ∷ []) ∷ [])) h in cc

or_last : (a b c d : Bool) → (IsTrue c → IsTrue d) → IsTrue (a || (b || (c || false)))
    → IsTrue (a || (b || (d || false)))
or_last true b c d f h = refl
or_last false true c d f h = refl
or_last false false true d f h = ap (λ e. e || false) (f refl)
or_last false false false d f h = cc

-- y^2 divides what y^3 divides
square_divides : (k : Place) → IsTrue (place_divides (term 1 0 (0 ∷ 3 ∷ [])).at k)
    → IsTrue (place_divides (term 1 0 (0 ∷ 2 ∷ [])).at k)
square_divides k h =
    let square = (term 1 0 (0 ∷ 2 ∷ [])).at in
    let cube = (term 1 0 (0 ∷ 3 ∷ [])).at in
    (Decides-place_divides square k).1
    (PlaceDivides-trans square cube k ((Decides-place_divides square cube).0 refl) ((Decides-place_divides cube k).0 h))

pub refuses_outside_rows : RefusesOutsideRows
refuses_outside_rows = (
  λ h. not_inside h.inside.1.1.0,
  (refl, (refl, (refl, tt))),
  complete_from outside_rows
      (λ k h. or_last (lead_divides first_quadric.terms k) (lead_divides second_quadric.terms k) _ _ (square_divides k) h),
  search arith,
  ((refl, (refl, tt)), ((refl, tt), (tt, tt))),
)

pub refuses_doubled_row : RefusesDoubledRow
unfolding combination combination_terms normal insert sum_mod product_mod
refuses_doubled_row = (
  λ h. absurd (omega (arith, h.monic.1.0)),
  (first, (record { coefficients = vector 2 (term 2 1 [] ∷ []); homogeneous = search (arith, ints); value = refl }, (third, tt))),
  complete_from doubled_row (λ k h. h),
  search arith,
  ((refl, (refl, tt)), ((refl, tt), (tt, tt))),
)

pub refuses_zero : RefusesZero
unfolding combination combination_terms normal insert sum_mod product_mod
refuses_zero = (
  λ h. h.monic.1.1.1.0,
  (first, (second, (third, (record { coefficients = vector 4 []; homogeneous = search (arith, ints); value = refl }, tt)))),
  complete_from with_zero (λ k h. h),
  search arith,
  ((refl, (refl, (refl, tt))), ((refl, (refl, tt)), ((refl, tt), (tt, tt)))),
)

-- y^3 is in the span
pub refuses_without_third_row : RefusesWithoutThirdRow
refuses_without_third_row = (
  λ h. let e = h.complete third_row third in cc,
  (first, (second, tt)),
  (refl, (refl, tt)),
  search arith,
  ((refl, tt), (tt, tt)),
)

first_two_exchanged : (a b c : Bool) → IsTrue (a || (b || (c || false))) → IsTrue (b || (a || (c || false)))
first_two_exchanged true true c h = refl
first_two_exchanged true false c h = refl
first_two_exchanged false true c h = refl
first_two_exchanged false false c h = h

last_first : (a b c : Bool) → IsTrue (a || (b || (c || false))) → IsTrue (c || (a || (b || false)))
last_first a b true h = refl
last_first true b false h = refl
last_first false b false h = h

pub refuses_smaller_lead_first : RefusesSmallerLeadFirst
refuses_smaller_lead_first = (
  λ h. let e = h.sorted.0.0 in cc,
  (second, (first, (third, tt))),
  (refl, (refl, (refl, tt))),
  complete_from smaller_lead_first
      (λ k h. first_two_exchanged (lead_divides first_quadric.terms k) (lead_divides second_quadric.terms k) (lead_divides third_row.terms k) h),
  search arith,
)

pub refuses_greater_degree_first : RefusesGreaterDegreeFirst
refuses_greater_degree_first = (
  λ h. let e = h.sorted.0.0 in cc,
  (third, (first, (second, tt))),
  (refl, (refl, (refl, tt))),
  complete_from greater_degree_first
      (λ k h. last_first (lead_divides first_quadric.terms k) (lead_divides second_quadric.terms k) (lead_divides third_row.terms k) h),
  search arith,
)
