-- Counting decides whether rows of a graph are its reduced basis. (This project's own; Buchberger's criterion with the
-- dimension of the graph in each degree: Cox, Little, O'Shea, "Using Algebraic Geometry", chapter 6, section 4, counts so.)
use Rattle.std.specs.Prelude.{ℕ, ◌≤◌, List, ◌∷◌, ◌++◌, ℤ, ◌<ℤ◌, IsFalse}
use Rattle.std.specs.List.{AllByRecursion}
use Rattle.sf_algebra.specs.Matrices.{Matrix, IsMatrix}
use Rattle.sf_algebra.specs.Rings.{IsOverField}
use Rattle.sf_algebra.specs.Terms.{Term}
use Rattle.sf_algebra.specs.Vectors.{Place, Vector, place_degree}
use Rattle.sf_groebner.specs.Criterion.{IsPair, lcm_place, lead_at}
use Rattle.sf_groebner.specs.NeededLeads.{IsNeededForGraph}
use Rattle.sf_groebner.specs.ReducedBases.{HasDividedLead, IsApart, IsGraphBasis, IsMonic, IsSorted, is_divided}
use Rattle.sf_groebner.specs.Spans.{IsGraphVector, graph_degrees}
use Rattle.sf_variables.specs.Variables.{AreInVariables, IsMatrixInVariables, IsVectorInVariables}
use Rattle.sf_counting.specs.Counts.{AreGraphColumns, IsFull, count_divided, count_sources}

-- monic rows of the graph of m, over n variables
pub record AreGraphRows (n : ℕ) (m : Matrix) (rows : List Vector) : Type 0 where
  pub inside : AllByRecursion (IsGraphVector m) rows
  pub variables : AreInVariables n rows
  pub monic : AllByRecursion (λ (v : Vector). IsMonic v.terms) rows

-- the degree of the least common multiple of the leads of rows i and j
abbrev pub pair_degree : Matrix → List Vector → ℕ → ℕ → ℤ
pair_degree m rows i j = place_degree m.ring.weights (graph_degrees m) (lcm_place (lead_at rows) i j)

-- rows are full in each degree of an input and of a pair that is of interest
pub record AreFull (n : ℕ) (m : Matrix) (rows : List Vector) (IsOfInterest : ℤ → Type 0) : Type 0 where
  pub inputs : AllByRecursion (λ (v : Vector). IsOfInterest v.degree → IsFull n m rows v.degree) m.rows
  pub pairs : (i j : ℕ) → IsPair rows i j → IsOfInterest (pair_degree m rows i j)
      → IsFull n m rows (pair_degree m rows i j)

-- rows that are apart, sorted and full in each such degree are the reduced basis of the graph
abbrev pub HasCountedBases : Type 0
HasCountedBases =
    (n : ℕ) (m : Matrix) → IsOverField m.ring → IsMatrix m → IsMatrixInVariables n m → (rows : List Vector)
    → AreGraphRows n m rows → IsApart rows → IsSorted m.ring.weights rows → AreFull n m rows (λ _. Unit {0}) → IsGraphBasis m rows

-- no rows divide more places than stand for coefficients
abbrev pub HasNoMoreLeads : Type 0
HasNoMoreLeads =
    (n : ℕ) (m : Matrix) → IsOverField m.ring → IsMatrix m → IsMatrixInVariables n m → (rows : List Vector)
    → AreGraphRows n m rows → (d : ℤ) (ks : List Place) → AreGraphColumns n m d ks → count_divided rows ks ≤ count_sources m ks

-- rows that are full in a degree divide each lead of the graph in this degree, over n variables
abbrev pub IsCompleteWhereFull : Type 0
IsCompleteWhereFull =
    (n : ℕ) (m : Matrix) → IsOverField m.ring → IsMatrix m → IsMatrixInVariables n m → (rows : List Vector)
    → AreGraphRows n m rows → (v : Vector) → IsFull n m rows v.degree → IsGraphVector m v → IsVectorInVariables n v → HasDividedLead rows v.terms

-- where rows are full in each such degree below d, a lead of degree d that none of theirs divides is needed
abbrev pub NeedsLeadsPastFullDegrees : Type 0
NeedsLeadsPastFullDegrees =
    (n : ℕ) (m : Matrix) → IsOverField m.ring → IsMatrix m → IsMatrixInVariables n m → (rows : List Vector)
    → AreGraphRows n m rows → (d : ℤ) → AreFull n m rows (λ e. e <ℤ d) → (t : Term Place) (ts : List (Term Place))
    → IsGraphVector m (record { degree = d; terms = t ∷ ts })
    → IsFalse (is_divided rows t.at) → IsNeededForGraph m t.at

-- rows that are full stay so with more rows
abbrev pub StaysFull : Type 0
StaysFull =
    (n : ℕ) (m : Matrix) (rows more : List Vector) (d : ℤ) → IsFull n m rows d → IsFull n m (rows ++ more) d
