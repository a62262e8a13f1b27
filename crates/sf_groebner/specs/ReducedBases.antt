-- Reduced bases of a module of vectors. (Cox, Little, O'Shea, "Using Algebraic Geometry", chapter 5, section 2.) A
-- module is given by the predicate that its vectors meet. The order of the rows is this project's own.
use Rattle.std.specs.Prelude.{◌≡◌, Bool, false, List, [], ◌∷◌, IsTrue, IsFalse}
use Rattle.std.specs.declared.cmp.Ordering.{Ordering}
use Rattle.std.specs.declared.cmp.Ordering.TheVariants.{Less, Equal}
use Rattle.std.specs.List.{AllByRecursion, list_any}
use Rattle.std.specs.Ordering.{int_cmp, ordering_then}
use Rattle.sf_algebra.specs.Matrices.{Matrix}
use Rattle.sf_algebra.specs.Rings.{Weights}
use Rattle.sf_algebra.specs.Terms.{Term}
use Rattle.sf_algebra.specs.Vectors.{Place, Vector, place_cmp}
use Rattle.sf_groebner.specs.Leads.{place_divides}
use Rattle.sf_groebner.specs.Spans.{InSpan, IsSyzygy, IsGraphVector}

-- whether the first term of a list, its lead, divides what stands at k; 0 has no lead
abbrev pub lead_divides : List (Term Place) → Place → Bool
lead_divides [] k = false
lead_divides (t ∷ ts) k = place_divides t.at k

-- whether the lead of one of the vectors divides what stands at k
abbrev pub is_divided : List Vector → Place → Bool
is_divided vs k = list_any (λ (v : Vector). lead_divides v.terms k) vs

-- a list has a lead, and its coefficient is 1
abbrev pub IsMonic : List (Term Place) → Type 0
IsMonic [] = ⊥
IsMonic (t ∷ ts) = t.coefficient ≡ 1

-- the lead of a list, where there is one, is divided by the lead of one of the vectors
abbrev pub HasDividedLead : List Vector → List (Term Place) → Type 0
HasDividedLead vs [] = Unit {0}
HasDividedLead vs (t ∷ ts) = IsTrue (is_divided vs t.at)

-- no term is divided by the lead of one of the vectors
abbrev pub IsReducedBy : List Vector → List (Term Place) → Type 0
IsReducedBy vs ts = AllByRecursion (λ (t : Term Place). IsFalse (is_divided vs t.at)) ts

-- no term of one of two vectors is divided by the lead of the other
abbrev pub AreApart : Vector → Vector → Type 0
AreApart v w = IsReducedBy (w ∷ []) v.terms × IsReducedBy (v ∷ []) w.terms

-- no term of one vector of a list is divided by the lead of another
abbrev pub IsApart : List Vector → Type 0
IsApart [] = Unit {0}
IsApart (v ∷ vs) = AllByRecursion (AreApart v) vs × IsApart vs

-- how the leads of two lists compare, where both have one
abbrev pub lead_cmp : Weights → List (Term Place) → List (Term Place) → Ordering
lead_cmp weights [] us = Equal
lead_cmp weights (t ∷ ts) [] = Equal
lead_cmp weights (t ∷ ts) (u ∷ us) = place_cmp weights t.at u.at

-- the order of rows: a smaller degree first; in one degree a greater lead first
abbrev pub row_cmp : Weights → Vector → Vector → Ordering
row_cmp weights v w = ordering_then (int_cmp v.degree w.degree) (lead_cmp weights w.terms v.terms)

-- each row comes before those after it
abbrev pub IsSorted : Weights → List Vector → Type 0
IsSorted weights [] = Unit {0}
IsSorted weights (v ∷ vs) = AllByRecursion (λ (w : Vector). row_cmp weights v w ≡ Less) vs × IsSorted weights vs

-- the reduced basis of a module N, in the order by these weights
pub record IsReducedBasis (weights : Weights) (N : Vector → Type 0) (basis : List Vector) : Type 0 where
  -- its vectors are in N
  pub inside : AllByRecursion N basis
  -- none is 0, and each lead has the coefficient 1
  pub monic : AllByRecursion (λ (v : Vector). IsMonic v.terms) basis
  -- each lead of N is divided by the lead of one of them
  pub complete : (v : Vector) → N v → HasDividedLead basis v.terms
  -- none of their terms is divided by the lead of another
  pub apart : IsApart basis
  pub sorted : IsSorted weights basis

-- the reduced bases of the span, the syzygies and the graph of a matrix
abbrev pub IsSpanBasis : Matrix → List Vector → Type 0
IsSpanBasis m basis = IsReducedBasis m.ring.weights (InSpan m) basis

abbrev pub IsSyzygyBasis : Matrix → List Vector → Type 0
IsSyzygyBasis m basis = IsReducedBasis m.ring.weights (IsSyzygy m) basis

abbrev pub IsGraphBasis : Matrix → List Vector → Type 0
IsGraphBasis m basis = IsReducedBasis m.ring.weights (IsGraphVector m) basis
