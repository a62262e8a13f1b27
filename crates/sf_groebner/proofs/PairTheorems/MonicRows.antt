-- Lists of monic rows: their leads, and what begins at an image has a lead that one of theirs divides.
use Rattle.std.proofs.Common.{◌≡◌, ℕ, zero, suc, ◌<◌, List, [], ◌∷◌, length, Bool, true, false, ◌||◌, max, IsTrue, refl, sym, ap, subst, arith}
use Rattle.std.specs.declared.cmp.Ordering.TheVariants.{Less}
use Rattle.std.specs.List.{AllByRecursion}
use Rattle.sf_algebra.specs.MatrixOperations.{row_at}
use Rattle.sf_algebra.specs.Monomials.{Monomial}
use Rattle.sf_algebra.specs.Multiples.{place_product}
use Rattle.sf_algebra.specs.Rings.{Ring}
use Rattle.sf_algebra.specs.Terms.{Term}
use Rattle.sf_algebra.specs.Vectors.{Place, Vector, place_cmp, IsCanonicalRow}
use Rattle.sf_groebner.specs.Criterion.{IsMonicRow, lead_multiple, lead_at, lead_place}
use Rattle.sf_groebner.specs.Divisions.{tail_of}
use Rattle.sf_groebner.specs.ReducedBases.{HasDividedLead, IsMonic, is_divided, lead_divides}
use Rattle.sf_groebner.proofs.Basics.PlaceDivisors.{Decides-place_divides, PlaceDivides-place_product}
use Rattle.sf_groebner.proofs.PairTheorems.LeadMultiples.{HasLeads}
use Rattle.sf_groebner.proofs.PairTheorems.TopCoefficients.{Begins}

-- more than the position of the lead of each row
abbrev pub lead_bound : List Vector → ℕ
lead_bound [] = 0
lead_bound (v ∷ vs) = max (suc (lead_place v.terms).position) (lead_bound vs)

pub lead_bound-row : (rows : List Vector) (i : ℕ) → i < length rows → (lead_at rows i).position < lead_bound rows
lead_bound-row [] i h = absurd (omega arith)
lead_bound-row (v ∷ vs) zero h = omega arith
lead_bound-row (v ∷ vs) (suc i) h = let rest = lead_bound-row vs i (omega arith) in omega arith

-- a monic row among others
pub IsMonicRow-row_at : (ring : Ring) (rows : List Vector) → AllByRecursion (IsMonicRow ring) rows → (i : ℕ)
    → i < length rows → IsCanonicalRow ring (row_at rows i) × IsMonic (row_at rows i)
IsMonicRow-row_at ring [] h i within = absurd (omega arith)
IsMonicRow-row_at ring (v ∷ vs) h zero within = (h.0.canonical, h.0.monic)
IsMonicRow-row_at ring (v ∷ vs) h (suc i) within = IsMonicRow-row_at ring vs h.1 i (omega arith)

-- a monic list is its lead with the coefficient 1, and its tail
pub IsMonic-shape : (ts : List (Term Place)) → IsMonic ts
    → ts ≡ record { at = lead_place ts; coefficient = 1 } ∷ tail_of ts
IsMonic-shape [] h = absurd h
IsMonic-shape (t ∷ ts) h = λ i. record { at = t.at; coefficient = h i } ∷ ts

pub tail_of-low : (ring : Ring) (ts : List (Term Place)) → IsCanonicalRow ring ts
    → AllByRecursion (λ (t : Term Place). place_cmp ring.weights t.at (lead_place ts) ≡ Less) (tail_of ts)
tail_of-low ring [] h = tt
tail_of-low ring (t ∷ ts) h = h.descending.0

-- at places for monic rows
abbrev pub monic_leads : (ring : Ring) (rows : List Vector) → AllByRecursion (IsMonicRow ring) rows
    → (In : Place → Type 0) → ((k : Place) → In k → k.position < length rows)
    → HasLeads ring.weights (lead_bound rows) In rows (lead_at rows)
monic_leads ring rows monic In inside = record {
  tail = λ i. tail_of (row_at rows i);
  shape = λ k h. IsMonic-shape (row_at rows k.position) (IsMonicRow-row_at ring rows monic k.position (inside k h)).1;
  low = λ k h. tail_of-low ring (row_at rows k.position) (IsMonicRow-row_at ring rows monic k.position (inside k h)).0;
  column = λ k h. lead_bound-row rows k.position (inside k h);
}

-- what the lead of a row divides, one of the rows' leads divides
pub is_divided-row : (rows : List Vector) (i : ℕ) (b : Place) → i < length rows
    → IsTrue (lead_divides (row_at rows i) b) → IsTrue (is_divided rows b)
is_divided-row [] i b within h = absurd (omega arith)
is_divided-row (v ∷ vs) zero b within h = ap (λ d. d || is_divided vs b) h
is_divided-row (v ∷ vs) (suc i) b within h = later (lead_divides v.terms b) (is_divided-row vs i b (omega arith) h)
  where
    later : (d : Bool) → IsTrue (is_divided vs b) → IsTrue (d || is_divided vs b)
    later true e = refl
    later false e = e

lead_divides-product : (ts : List (Term Place)) (a : Monomial) → IsMonic ts
    → IsTrue (lead_divides ts (place_product a (lead_place ts)))
lead_divides-product [] a h = absurd h
lead_divides-product (t ∷ ts) a h =
    (Decides-place_divides t.at (place_product a t.at)).1 (PlaceDivides-place_product a t.at)

-- what begins at an image has a lead that a row's divides
pub HasDividedLead-Begins : (ring : Ring) (rows : List Vector) → AllByRecursion (IsMonicRow ring) rows → (k : Place)
    → k.position < length rows → (v : List (Term Place)) → Begins (lead_multiple (lead_at rows) k) v
    → HasDividedLead rows v
HasDividedLead-Begins ring rows monic k within v begins =
    subst (HasDividedLead rows) (sym begins.shape)
    (is_divided-row rows k.position (lead_multiple (lead_at rows) k) within
    (lead_divides-product (row_at rows k.position) k.monomial (IsMonicRow-row_at ring rows monic k.position within).1))
