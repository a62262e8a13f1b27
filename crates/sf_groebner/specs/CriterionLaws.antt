-- What the pairs of rows decide: Buchberger's criterion, whole and up to a degree, the chain criterion, and Schreyer's
-- theorem on syzygies. (Cox, Little, O'Shea, "Using Algebraic Geometry", chapter 5, sections 2 and 3.)
use Rattle.std.specs.Prelude.{◌≡◌, ◌↔◌, ℕ, ◌<◌, List, [], length, ℤ, ◌≤ℤ◌}
use Rattle.std.specs.declared.cmp.Ordering.TheVariants.{Less}
use Rattle.std.specs.List.{AllByRecursion}
use Rattle.sf_algebra.specs.Matrices.{Matrix, IsMatrix, row_degrees}
use Rattle.sf_algebra.specs.MatrixOperations.{row_at, row_combination}
use Rattle.sf_algebra.specs.Rings.{Ring, IsRing}
use Rattle.sf_algebra.specs.Terms.{Term}
use Rattle.sf_algebra.specs.Vectors.{Place, Vector, place_cmp}
use Rattle.sf_groebner.specs.Criterion.{HaveLeadsAtOnePosition, IsForRows, IsMonicRow, IsPairSyzygy, ReducesToZero, lcm_place, lead_at, s_vector, IsPair, IsGroebnerBasis, HasReducingPairs, HasDegreeUpTo}
use Rattle.sf_groebner.specs.Divisions.{IsDivided}
use Rattle.sf_groebner.specs.Leads.{PlaceDivides}
use Rattle.sf_groebner.specs.ReducedBases.{HasDividedLead}
use Rattle.sf_groebner.specs.Spans.{InSpan, IsCoefficients, IsSyzygy}

-- Buchberger's criterion: rows are complete exactly where their pairs reduce to zero
abbrev pub IsBuchbergersCriterion : Type 0
IsBuchbergersCriterion =
    (ring : Ring) → IsRing ring → (rows : List Vector) → AllByRecursion
    (IsMonicRow ring) rows → IsGroebnerBasis ring rows ↔ HasReducingPairs ring rows

-- up to a degree, homogeneous rows are complete where their pairs up to that degree reduce to zero
abbrev pub IsCriterionUpToDegree : Type 0
IsCriterionUpToDegree =
    (m : Matrix) → IsRing m.ring → IsMatrix m → AllByRecursion (IsMonicRow m.ring) m.rows
    → (d : ℤ) → ((i j : ℕ) → IsPair m.rows i j → HasDegreeUpTo m d i j → ReducesToZero m.ring m.rows i j)
    → (c : Vector) → IsCoefficients m c → c.degree ≤ℤ d → HasDividedLead m.rows (row_combination m.ring m.rows c.terms)

-- the places of an S-vector are less than the least common multiple
abbrev pub CancelsLeads : Type 0
CancelsLeads =
    (ring : Ring) → IsRing ring → (rows : List Vector) → AllByRecursion (IsMonicRow ring) rows
    → (i j : ℕ) → IsPair rows i j
    → AllByRecursion (λ (t : Term Place). place_cmp ring.weights t.at (lcm_place (lead_at rows) i j) ≡ Less)
    (s_vector ring rows i j)

-- a pair may be taken in either order
abbrev pub TakesEitherOrder : Type 0
TakesEitherOrder =
    (ring : Ring) → IsRing ring → (rows : List Vector)
    (i j : ℕ) → HaveLeadsAtOnePosition rows i j → ReducesToZero ring rows i j → ReducesToZero ring rows j i

-- a pair of homogeneous rows reduces to zero where its S-vector has a division by the rows without a rest
abbrev pub ReducesByDivisions : Type 0
ReducesByDivisions =
    (m : Matrix) → IsRing m.ring → IsMatrix m → AllByRecursion (IsMonicRow m.ring) m.rows
    → (i j : ℕ) → IsPair m.rows i j
    → (d : ℤ) (quotients : List (Term Place)) → IsDivided m.ring m.target m.rows d (s_vector m.ring m.rows i j) [] quotients
    → ReducesToZero m.ring m.rows i j

-- and by a Gröbner basis the divisions of all combinations of homogeneous rows, so of all S-vectors, leave no rest
abbrev pub LeavesNoRests : Type 0
LeavesNoRests =
    (m : Matrix) → IsRing m.ring → IsGroebnerBasis m.ring m.rows
    → (c : List (Term Place)) → AllByRecursion (IsForRows m.rows) c
    → (d : ℤ) (rest quotients : List (Term Place)) → IsDivided m.ring m.target m.rows d (row_combination m.ring m.rows c) rest quotients
    → rest ≡ []

-- the chain criterion: a pair reduces to zero where the lead of a row divides its least common multiple, and its pairs
-- with that row do
abbrev pub DropsChains : Type 0
DropsChains =
    (ring : Ring) → IsRing ring → (rows : List Vector) (i j k : ℕ) → HaveLeadsAtOnePosition rows i k → PlaceDivides (lead_at rows j) (lcm_place (lead_at rows) i k)
    → ReducesToZero ring rows i j → ReducesToZero ring rows j k → ReducesToZero ring rows i k

-- a pair of homogeneous rows reduces to zero exactly where it has a syzygy
abbrev pub HasPairSyzygies : Type 0
HasPairSyzygies =
    (m : Matrix) → IsRing m.ring → IsMatrix m → AllByRecursion (IsMonicRow m.ring) m.rows
    → (i j : ℕ) → IsPair m.rows i j
    → ReducesToZero m.ring m.rows i j ↔ ((z : Vector) × IsSyzygy m z × IsPairSyzygy m.ring m.rows i j z.terms)

-- Schreyer's theorem: syzygies of monic rows, one for each pair, span all syzygies
abbrev pub SpansSyzygies : Type 0
SpansSyzygies =
    (m : Matrix) → IsRing m.ring → AllByRecursion (IsMonicRow m.ring) m.rows
    → (zs : List Vector) → AllByRecursion (IsSyzygy m) zs
    → ((i j : ℕ) → IsPair m.rows i j → (k : ℕ) × (k < length zs) × IsPairSyzygy m.ring m.rows i j (row_at zs k))
    → (c : Vector) → IsSyzygy m c → InSpan (record { ring = m.ring; target = row_degrees m; rows = zs }) c
