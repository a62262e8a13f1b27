-- S-vectors of pairs of rows, and what it means that a pair reduces to zero. A row's lead is its first term; rows are
-- those whose lead has the coefficient 1. (Cox, Little, O'Shea, "Using Algebraic Geometry", chapter 5, sections 2 and
-- 3.)
use Rattle.std.specs.Prelude.{◌≡◌, ℕ, ◌<◌, List, [], ◌∷◌, length, ℤ, ◌≤ℤ◌}
use Rattle.std.specs.declared.cmp.Ordering.TheVariants.{Less}
use Rattle.std.specs.List.{AllByRecursion}
use Rattle.sf_algebra.specs.Divisibility.{quotient, lcm}
use Rattle.sf_algebra.specs.Matrices.{Matrix}
use Rattle.sf_algebra.specs.MatrixOperations.{row_at, row_combination}
use Rattle.sf_algebra.specs.Monomials.{one}
use Rattle.sf_algebra.specs.Multiples.{place_product}
use Rattle.sf_algebra.specs.Residues.{negative_mod}
use Rattle.sf_algebra.specs.Rings.{Ring, Weights}
use Rattle.sf_algebra.specs.Sums.{normal}
use Rattle.sf_algebra.specs.Terms.{Term}
use Rattle.sf_algebra.specs.VectorOperations.{row_sum}
use Rattle.sf_algebra.specs.Vectors.{Place, Vector, place_cmp, IsCanonicalRow, place_degree}
use Rattle.sf_groebner.specs.ReducedBases.{IsMonic, HasDividedLead}

-- where the first term of a list stands; at the first position with the monomial 1 where there is none
abbrev pub lead_place : List (Term Place) → Place
lead_place [] = record { position = 0; monomial = one }
lead_place (t ∷ ts) = t.at

-- where the lead of the row at a position stands
abbrev pub lead_at : List Vector → ℕ → Place
lead_at rows i = lead_place (row_at rows i)

-- the multiple of a lead for which a coefficient's place stands: its monomial times the lead of the row at its position
abbrev pub lead_multiple : (ℕ → Place) → Place → Place
lead_multiple lead k = place_product k.monomial (lead k.position)

-- the least common multiple of the leads of two rows that stand at one position
abbrev pub lcm_place : (ℕ → Place) → ℕ → ℕ → Place
lcm_place lead i j = record { position = (lead i).position; monomial = lcm (lead i).monomial (lead j).monomial }

-- the coefficient's place at row i whose multiple of a lead is the least common multiple of the leads of rows i and j
abbrev pub pair_place : (ℕ → Place) → ℕ → ℕ → Place
pair_place lead i j = record {
  position = i;
  monomial = quotient (lcm (lead i).monomial (lead j).monomial) (lead i).monomial;
}

-- the coefficients of the S-vector of rows i and j: what takes both leads to their least common multiple, and there to 0
abbrev pub s_coefficients : ℕ → (ℕ → Place) → ℕ → ℕ → List (Term Place)
s_coefficients p lead i j = record { at = pair_place lead i j; coefficient = 1 } ∷ (record { at = pair_place lead j i; coefficient = negative_mod p 1 } ∷ [])

-- the S-vector of rows i and j
abbrev pub s_vector : Ring → List Vector → ℕ → ℕ → List (Term Place)
s_vector ring rows i j = row_combination ring rows (s_coefficients ring.modulus (lead_at rows) i j)

-- a term stands for one of the rows
abbrev pub IsForRows : List Vector → Term Place → Type 0
IsForRows rows t = t.at.position < length rows

-- a coefficient for one of the rows, whose multiple of a lead is less than b
abbrev pub HasMultipleBelow : Weights → List Vector → Place → Term Place → Type 0
HasMultipleBelow weights rows b t = IsForRows rows t × (place_cmp weights (lead_multiple (lead_at rows) t.at) b ≡ Less)

-- the pair of rows i and j reduces to zero: its S-vector is a combination whose multiples of leads are less than the least
-- common multiple
pub record ReducesToZero (ring : Ring) (rows : List Vector) (i j : ℕ) : Type 0 where
  pub steps : List (Term Place)
  pub below : AllByRecursion (HasMultipleBelow ring.weights rows (lcm_place (lead_at rows) i j)) steps
  pub value : row_combination ring rows steps ≡ s_vector ring rows i j

-- z is a syzygy of the pair of rows i and j: the coefficients of its S-vector without those of such a combination
pub record IsPairSyzygy (ring : Ring) (rows : List Vector) (i j : ℕ) (z : List (Term Place)) : Type 0 where
  pub steps : List (Term Place)
  pub below : AllByRecursion (HasMultipleBelow ring.weights rows (lcm_place (lead_at rows) i j)) steps
  pub sum : row_sum ring z steps
      ≡ normal (place_cmp ring.weights) ring.modulus (s_coefficients ring.modulus (lead_at rows) i j)
  pub zero : row_combination ring rows z ≡ []

-- a row without zero coefficients whose lead has the coefficient 1
pub record IsMonicRow (ring : Ring) (v : Vector) : Type 0 where
  pub canonical : IsCanonicalRow ring v.terms
  pub monic : IsMonic v.terms

-- the leads of two rows stand at one position
abbrev pub HaveLeadsAtOnePosition : List Vector → ℕ → ℕ → Type 0
HaveLeadsAtOnePosition rows i j = (lead_at rows i).position ≡ (lead_at rows j).position

-- an earlier and a later row, whose leads stand at one position
pub record IsPair (rows : List Vector) (i j : ℕ) : Type 0 where
  pub earlier : i < j
  pub later : j < length rows
  pub positions : HaveLeadsAtOnePosition rows i j

-- each lead of a combination of the rows is divided by the lead of a row: the rows are a Gröbner basis of what they span
abbrev pub IsGroebnerBasis : Ring → List Vector → Type 0
IsGroebnerBasis ring rows =
    (c : List (Term Place)) → AllByRecursion (IsForRows rows) c → HasDividedLead rows (row_combination ring rows c)

-- all pairs of rows reduce to zero
abbrev pub HasReducingPairs : Ring → List Vector → Type 0
HasReducingPairs ring rows = (i j : ℕ) → IsPair rows i j → ReducesToZero ring rows i j

-- the least common multiple of the leads of a pair has at most degree d
abbrev pub HasDegreeUpTo : Matrix → ℤ → ℕ → ℕ → Type 0
HasDegreeUpTo m d i j = place_degree m.ring.weights m.target (lcm_place (lead_at m.rows) i j) ≤ℤ d
