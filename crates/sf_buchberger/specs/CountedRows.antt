-- Elements of the graph that are found by linear algebra in each degree, and certified by counting. (This project's own.)
use Rattle.std.specs.Prelude.{◌≡◌, ℕ, ◌<◌, ◌≤◌, List, [], ◌∷◌, ◌++◌, length, ℤ, IsFalse}
use Rattle.std.specs.List.{AllByRecursion, list_any}
use Rattle.sf_algebra.specs.Bounds.{GREATEST_SIZE}
use Rattle.sf_algebra.specs.Matrices.{Matrix}
use Rattle.sf_algebra.specs.Monomials.{exponent_sum}
use Rattle.sf_algebra.specs.Rings.{ones}
use Rattle.sf_algebra.specs.Terms.{Term}
use Rattle.sf_algebra.specs.Vectors.{Place, Vector}
use Rattle.sf_groebner.specs.Criterion.{lead_place}
use Rattle.sf_groebner.specs.Divisions.{tail_of}
use Rattle.sf_groebner.specs.Leads.{place_divides}
use Rattle.sf_groebner.specs.ReducedBases.{IsApart, IsReducedBy, IsSorted, is_divided}
use Rattle.sf_groebner.specs.Small.{HasLeadUpTo, IsSmall}
use Rattle.sf_groebner.specs.Spans.{graph_degrees}
use Rattle.sf_groebner.proofs.Constructions.LeadDivisors.{lead_places}
use Rattle.sf_counting.specs.CountLaws.{AreGraphRows}
use Rattle.sf_counting.specs.Counts.{IsFull}
use Rattle.sf_buchberger.specs.declared.counted.state.Counting.{Counting}

-- sorted elements of the graph of m, few and with low leads
pub record IsFinding (limit : ℕ) (m : Matrix) (c : Counting) : Type 0 where
  pub ring : c.rows.ring ≡ m.ring
  pub target : c.rows.target ≡ graph_degrees m
  pub rows : AreGraphRows c.variables m c.rows.rows
  pub sorted : IsSorted m.ring.weights c.rows.rows
  pub few : length c.rows.rows ≤ GREATEST_SIZE
  pub low : AllByRecursion (λ (v : Vector). HasLeadUpTo m.ring.weights limit v.terms) c.rows.rows
  pub places : c.leads ≡ lead_places c.rows.rows

-- they are apart, and full in some degrees
pub record IsCounting (limit : ℕ) (m : Matrix) (c : Counting) : Type 0 where
  pub finding : IsFinding limit m c
  pub apart : IsApart c.rows.rows
  pub full : AllByRecursion (IsFull c.variables m c.rows.rows) c.full

-- the elements are the same
pub record HasSameRows (before after : Counting) : Type 0 where
  pub variables : after.variables ≡ before.variables
  pub rows : after.rows ≡ before.rows
  pub leads : after.leads ≡ before.leads
  pub full : after.full ≡ before.full

-- v, whose first term is t, is monic with a low lead that none of the leads divides, and comes behind the few elements
pub record IsTakenUp (limit : ℕ) (c : Counting) (v : Vector) (t : Term Place) : Type 0 where
  pub monic : t.coefficient ≡ 1
  pub low : exponent_sum t.at.monomial ≤ limit
  pub few : length c.rows.rows < GREATEST_SIZE
  pub new : IsFalse (list_any (λ j. place_divides j t.at) c.leads)
  pub sorted : IsSorted ones c.rows.rows → IsSorted ones (c.rows.rows ++ v ∷ [])

-- there is one element more, whose lead no other one divides
pub record HasNewRow (limit : ℕ) (m : Matrix) (before : Counting) (v : Vector) (after : Counting) : Type 0 where
  pub finding : IsFinding limit m after
  pub rows : after.rows.rows ≡ before.rows.rows ++ v ∷ []
  pub new : IsFalse (is_divided before.rows.rows (lead_place v.terms))
  pub variables : after.variables ≡ before.variables
  pub full : after.full ≡ before.full

-- the lead of each vector is divided by none of some rows and none of those before it
abbrev pub AreNew : List Vector → List Vector → Type 0
AreNew rows [] = Unit {0}
AreNew rows (v ∷ vs) = IsFalse (is_divided rows (lead_place v.terms)) × AreNew (rows ++ v ∷ []) vs

-- there are more elements, of degree d, each of which has a new lead
pub record HasNewRows (limit : ℕ) (m : Matrix) (before : Counting) (d : ℤ) (after : Counting) : Type 0 where
  pub finding : IsFinding limit m after
  pub more : List Vector
  pub rows : after.rows.rows ≡ before.rows.rows ++ more
  pub degrees : AllByRecursion (λ (v : Vector). v.degree ≡ d) more
  pub new : AreNew before.rows.rows more
  pub variables : after.variables ≡ before.variables
  pub full : after.full ≡ before.full

-- no term behind the first is divided by the lead of one of the rows
abbrev pub HasReducedTailBy : List Vector → Vector → Type 0
HasReducedTailBy rows v = IsReducedBy rows (tail_of v.terms)

-- these are the elements of the reduced basis of the graph of m, which is small
pub record IsCountedBasis (limit : ℕ) (m rows : Matrix) : Type 0 where
  pub ring : rows.ring ≡ m.ring
  pub target : rows.target ≡ graph_degrees m
  pub small : IsSmall limit m rows.rows
