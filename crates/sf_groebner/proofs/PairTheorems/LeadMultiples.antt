-- Rows that begin with the coefficient 1, the images of places of coefficients, and pairs of places that are settled. A
-- combination is held as a list of terms in any order, whose positions count the rows. (Cox, Little, O'Shea, "Using
-- Algebraic Geometry", chapter 5, sections 2 and 3.)
use Rattle.std.proofs.Common.{◌≡◌, ◌≢◌, ℕ, ◌<◌, List, [], ◌∷◌, ◌++◌, if◌then◌else◌, map}
use Rattle.std.specs.declared.cmp.Ordering.TheVariants.{Less, Greater}
use Rattle.std.specs.Ordering.{is_eq}
use Rattle.sf_algebra.specs.MatrixOperations.{row_at}
use Rattle.sf_algebra.specs.Monomials.{Monomial}
use Rattle.sf_algebra.specs.Multiples.{place_product, term_product}
use Rattle.sf_algebra.specs.Rings.{Ring, Weights}
use Rattle.sf_algebra.specs.Terms.{Term}
use Rattle.sf_algebra.specs.Vectors.{Place, Vector, place_cmp}
use Rattle.sf_algebra.proofs.Terms.Normal.{EachPlace, IsAboveEach}
use Rattle.sf_algebra.proofs.Terms.SameTotals.{SameTotals}
use Rattle.sf_groebner.specs.Criterion.{lead_multiple}

-- at each place in In the row begins with the coefficient 1 at its lead, which is in the first n columns
pub record HasLeads (weights : Weights) (n : ℕ) (In : Place → Type 0) (rows : List Vector)
    (lead : ℕ → Place) : Type 0 where
  pub tail : ℕ → List (Term Place)
  pub shape : (k : Place) → In k
      → row_at rows k.position ≡ record { at = lead k.position; coefficient = 1 } ∷ tail k.position
  pub low : (k : Place) → In k → IsAboveEach (place_cmp weights) (lead k.position) (tail k.position)
  pub column : (k : Place) → In k → (lead k.position).position < n

-- a place in In whose image is less than b
abbrev pub IsUnder : Weights → (Place → Type 0) → (ℕ → Place) → Place → Place → Type 0
IsUnder weights In lead b k = In k × (place_cmp weights (lead_multiple lead k) b ≡ Less)

-- a place in In whose image is not greater than b
abbrev pub IsAtMost : Weights → (Place → Type 0) → (ℕ → Place) → Place → Place → Type 0
IsAtMost weights In lead b k = In k × (place_cmp weights (lead_multiple lead k) b ≢ Greater)

-- the coefficient 1 at a place, and no other
abbrev pub at_place : Place → List (Term Place)
at_place k = record { at = k; coefficient = 1 } ∷ []

-- a coefficient whose image is b, and 0 for the others
abbrev pub top_part : Weights → (ℕ → Place) → Place → Term Place → ℕ
top_part weights lead b t = if is_eq (place_cmp weights (lead_multiple lead t.at) b) then t.coefficient else 0

-- a set of combinations that is closed under sums and multiples
pub record IsModule (p : ℕ) (S : List (Term Place) → Type 0) : Type 0 where
  pub has_none : S []
  pub has_sums : (us vs : List (Term Place)) → S us → S vs → S (us ++ vs)
  pub has_products : (s : Term Monomial) (us : List (Term Place)) → S us → S (map (term_product place_product p s) us)
  pub has_same : (us vs : List (Term Place)) → SameTotals p us vs → S us → S vs

-- two places with one image are settled: one is the other, and what is less, and a member of S
pub record IsSettled (ring : Ring) (In : Place → Type 0) (lead : ℕ → Place) (S : List (Term Place) → Type 0)
    (j k : Place) : Type 0 where
  pub lower : List (Term Place)
  pub rest : List (Term Place)
  pub under : EachPlace (IsUnder ring.weights In lead (lead_multiple lead k)) lower
  pub inside : S rest
  pub same : SameTotals ring.modulus (at_place j) (at_place k ++ (lower ++ rest))

-- all pairs of places with one image are settled
abbrev pub IsAllSettled : Ring → (Place → Type 0) → (ℕ → Place) → (List (Term Place) → Type 0) → Type 0
IsAllSettled ring In lead S =
    (j k : Place) → In j → In k → lead_multiple lead j ≡ lead_multiple lead k → IsSettled ring In lead S j k
