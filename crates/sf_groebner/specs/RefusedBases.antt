-- Lists that aren't the reduced basis of the ideal of x^2 and x y + y^2, each for one reason. (The lists are this
-- project's own.)
use Rattle.std.specs.Prelude.{List, [], ◌∷◌}
use Rattle.std.specs.List.{AllByRecursion}
use Rattle.sf_algebra.specs.Rings.{ones}
use Rattle.sf_algebra.specs.Vectors.{Vector}
use Rattle.sf_groebner.specs.Examples.{term, vector, first_quadric, second_quadric, third_row, quadrics}
use Rattle.sf_groebner.specs.ReducedBases.{HasDividedLead, IsApart, IsMonic, IsSorted, IsSpanBasis}
use Rattle.sf_groebner.specs.Spans.{InSpan}

abbrev pub IsRefused : List Vector → Type 0
IsRefused vs = IsSpanBasis quadrics vs → ⊥

-- what else is asked of the list
abbrev pub IsInsideQuadrics : List Vector → Type 0
IsInsideQuadrics vs = AllByRecursion (InSpan quadrics) vs

abbrev pub AreMonic : List Vector → Type 0
AreMonic vs = AllByRecursion (λ (v : Vector). IsMonic v.terms) vs

abbrev pub HasCompleteLeads : List Vector → Type 0
HasCompleteLeads vs = (v : Vector) → InSpan quadrics v → HasDividedLead vs v.terms

-- x^2 + x y + y^2 has the lead x y of a later row
abbrev pub later_lead_in_tail : List Vector
later_lead_in_tail =
    vector 2 (term 1 0 (2 ∷ []) ∷ term 1 0 (1 ∷ 1 ∷ []) ∷ term 1 0 (0 ∷ 2 ∷ []) ∷ []) ∷ second_quadric ∷ third_row ∷ []

abbrev pub RefusesLaterLeadInTail : Type 0
RefusesLaterLeadInTail =
    IsRefused later_lead_in_tail × IsInsideQuadrics later_lead_in_tail × AreMonic later_lead_in_tail × HasCompleteLeads later_lead_in_tail × IsSorted ones later_lead_in_tail

-- y^3 + x^2 z has a multiple of the lead x^2 of an earlier row
abbrev pub earlier_lead_in_tail : List Vector
earlier_lead_in_tail = first_quadric ∷ second_quadric ∷ vector 3 (term 1 0 (0 ∷ 3 ∷ []) ∷ term 1 0 (2 ∷ 0 ∷ 1 ∷ []) ∷ []) ∷ []

abbrev pub RefusesEarlierLeadInTail : Type 0
RefusesEarlierLeadInTail =
    IsRefused earlier_lead_in_tail × IsInsideQuadrics earlier_lead_in_tail × AreMonic earlier_lead_in_tail × HasCompleteLeads earlier_lead_in_tail × IsSorted ones earlier_lead_in_tail

-- x y and y^2 aren't in the span
abbrev pub outside_rows : List Vector
outside_rows = first_quadric ∷ vector 2 (term 1 0 (1 ∷ 1 ∷ []) ∷ []) ∷ vector 2 (term 1 0 (0 ∷ 2 ∷ []) ∷ []) ∷ []

abbrev pub RefusesOutsideRows : Type 0
RefusesOutsideRows =
    IsRefused outside_rows × AreMonic outside_rows × HasCompleteLeads outside_rows × IsApart outside_rows × IsSorted ones outside_rows

-- a coefficient 2 leads the second row
abbrev pub doubled_row : List Vector
doubled_row = first_quadric ∷ vector 2 (term 2 0 (1 ∷ 1 ∷ []) ∷ term 2 0 (0 ∷ 2 ∷ []) ∷ []) ∷ third_row ∷ []

abbrev pub RefusesDoubledRow : Type 0
RefusesDoubledRow =
    IsRefused doubled_row × IsInsideQuadrics doubled_row × HasCompleteLeads doubled_row × IsApart doubled_row × IsSorted ones doubled_row

-- a row is 0
abbrev pub with_zero : List Vector
with_zero = first_quadric ∷ second_quadric ∷ third_row ∷ vector 4 [] ∷ []

abbrev pub RefusesZero : Type 0
RefusesZero =
    IsRefused with_zero × IsInsideQuadrics with_zero × HasCompleteLeads with_zero × IsApart with_zero × IsSorted ones with_zero

-- y^3 is wanting
abbrev pub without_third_row : List Vector
without_third_row = first_quadric ∷ second_quadric ∷ []

abbrev pub RefusesWithoutThirdRow : Type 0
RefusesWithoutThirdRow =
    IsRefused without_third_row × IsInsideQuadrics without_third_row × AreMonic without_third_row × IsApart without_third_row × IsSorted ones without_third_row

-- in one degree the smaller lead comes first
abbrev pub smaller_lead_first : List Vector
smaller_lead_first = second_quadric ∷ first_quadric ∷ third_row ∷ []

abbrev pub RefusesSmallerLeadFirst : Type 0
RefusesSmallerLeadFirst =
    IsRefused smaller_lead_first × IsInsideQuadrics smaller_lead_first × AreMonic smaller_lead_first × HasCompleteLeads smaller_lead_first × IsApart smaller_lead_first

-- the greater degree comes first
abbrev pub greater_degree_first : List Vector
greater_degree_first = third_row ∷ first_quadric ∷ second_quadric ∷ []

abbrev pub RefusesGreaterDegreeFirst : Type 0
RefusesGreaterDegreeFirst =
    IsRefused greater_degree_first × IsInsideQuadrics greater_degree_first × AreMonic greater_degree_first × HasCompleteLeads greater_degree_first × IsApart greater_degree_first
