-- Divisions of vectors of a span by its reduced basis, of which the constant quotients are entered. (This project's own.)
use Rattle.std.specs.Prelude.{◌≡◌, ◌⊎◌, Bool, false, ℕ, ◌<◌, List, [], length, ℤ}
use Rattle.std.specs.List.{AllByRecursion, list_any}
use Rattle.sf_algebra.specs.Matrices.{Matrix, row_degrees}
use Rattle.sf_algebra.specs.Monomials.{exponent_sum}
use Rattle.sf_algebra.specs.Rings.{ones}
use Rattle.sf_algebra.specs.Sums.{normal}
use Rattle.sf_algebra.specs.Terms.{Term}
use Rattle.sf_algebra.specs.Vectors.{Place, Vector, generator_degree, place_cmp, place_degree}
use Rattle.sf_groebner.specs.Criterion.{HaveLeadsAtOnePosition, lcm_place, lead_at, s_vector}
use Rattle.sf_groebner.specs.Divisions.{IsDivided}
use Rattle.sf_groebner.specs.Leads.{PlaceDivides, place_divides}
use Rattle.sf_groebner.specs.ReducedBases.{IsSpanBasis}
use Rattle.sf_groebner.specs.Small.{HasLeadUpTo}
use Rattle.sf_matrix.specs.Bounds.{DegreeFits}
use Rattle.sf_groebner.proofs.Constructions.LeadDivisors.{lead_places}
use Rattle.sf_minimal.specs.Constants.{constants}
use Rattle.sf_minimal.specs.Numbers.{pivot_place}
use Rattle.sf_minimal.specs.Pivots.{IsEntered}

-- the reduced basis of its own span, with low leads and degrees that have room
pub record IsLowBasis (m : Matrix) : Type 0 where
  pub reduced : IsSpanBasis m m.rows
  pub low : AllByRecursion (λ (v : Vector). HasLeadUpTo ones 60 v.terms) m.rows
  pub room : AllByRecursion (λ (v : Vector). DegreeFits m.target v.degree) m.rows

-- d is the degree of a row
abbrev pub HasRowOfDegree : Matrix → ℤ → Type 0
HasRowOfDegree m d = (i : ℕ) × (i < length m.rows) × (d ≡ generator_degree (row_degrees m) i)

-- whether a pivot among those with these leads stands for row i of n rows
abbrev pub is_taken : List Place → ℕ → ℕ → Bool
is_taken leads n i = list_any (λ k. place_divides k (pivot_place n i)) leads

-- none of the pivots with these leads stands for some row of degree d
abbrev pub HasFreeRow : Matrix → List Place → ℤ → Type 0
HasFreeRow m leads d = (i : ℕ) × (i < length m.rows) × (d ≡ generator_degree (row_degrees m) i)
    × (is_taken leads (length m.rows) i ≡ false)

-- each row of degree d has a pivot
abbrev pub IsFilled : Matrix → List Vector → ℤ → Type 0
IsFilled m pivots d = HasFreeRow m (lead_places pivots) d → ⊥

-- the constant terms of coefficients for the rows, turned round and in order
abbrev pub constant_terms : Matrix → List (Term Place) → List (Term Place)
constant_terms m c = normal (place_cmp m.ring.weights) m.ring.modulus (constants (length m.rows) c)

-- terms of degree d are divided by the rows without a rest, and the constant terms of the quotients are entered
pub record IsStep (m old new : Matrix) (d : ℤ) (terms : List (Term Place)) : Type 0 where
  pub steps : List (Term Place)
  pub divided : IsDivided m.ring m.target m.rows d terms [] steps
  pub entered : IsEntered old new (constant_terms m steps)

-- so it is with a row of degree d, or nothing is entered, as each row of m of its degree has a pivot
abbrev pub IsRowStep : Matrix → Matrix → Matrix → Vector → Type 0
IsRowStep m old new v = IsStep m old new v.degree v.terms ⊎ (IsFilled m old.rows v.degree × (new ≡ old))

-- the pair of rows i and j may be passed over for row r: this is before row j, its lead divides the least common multiple
-- of theirs, and it is before row i, or the least common multiple of its lead and that of row j has a smaller degree
abbrev pub IsPassedOverFor : List Vector → ℕ → ℕ → ℕ → Type 0
IsPassedOverFor rows i j r =
    PlaceDivides (lead_at rows r) (lcm_place (lead_at rows) i j)
    × ((r < i) ⊎ (exponent_sum (lcm_place (lead_at rows) r j).monomial < exponent_sum (lcm_place (lead_at rows) i j).monomial))

abbrev pub IsPassedOver : List Vector → ℕ → ℕ → Type 0
IsPassedOver rows i j = (r : ℕ) × (r < j) × IsPassedOverFor rows i j r

-- the degree of the S-vector of rows i and j
abbrev pub pair_degree : Matrix → ℕ → ℕ → ℤ
pair_degree m i j = place_degree m.ring.weights m.target (lcm_place (lead_at m.rows) i j)

-- the S-vector of rows i and j is entered
abbrev pub IsEnteredPair : Matrix → ℕ → ℕ → Matrix → Matrix → Type 0
IsEnteredPair m i j old new =
    HaveLeadsAtOnePosition m.rows i j × IsStep m old new (pair_degree m i j) (s_vector m.ring m.rows i j)

-- it need not be: there is none, it is passed over, or each row of its degree has a pivot
abbrev pub NeedsNoStep : Matrix → ℕ → ℕ → List Vector → Type 0
NeedsNoStep m i j pivots =
    (HaveLeadsAtOnePosition m.rows i j → ⊥) ⊎ (IsPassedOver m.rows i j ⊎ IsFilled m pivots (pair_degree m i j))

-- so it is with a pair of rows, or nothing is entered
abbrev pub IsPairStep : Matrix → ℕ → ℕ → Matrix → Matrix → Type 0
IsPairStep m i j old new = IsEnteredPair m i j old new ⊎ (NeedsNoStep m i j old.rows × (new ≡ old))
