-- One step of Buchberger's algorithm: a vector is divided by the rows, and a rest made monic is a new row. (Cox,
-- Little, O'Shea, "Using Algebraic Geometry", chapter 5, section 2; the bounds are this project's own.)
use Rattle.std.specs.Prelude.{◌≡◌, ◌⊎◌, ℕ, ◌<◌, ◌≤◌, List, [], ◌∷◌, ◌++◌, length}
use Rattle.std.specs.List.{AllByRecursion}
use Rattle.sf_algebra.specs.Bounds.{GREATEST_SIZE, GREATEST_SUM}
use Rattle.sf_algebra.specs.Divisibility.{lcm}
use Rattle.sf_algebra.specs.Matrices.{Matrix}
use Rattle.sf_algebra.specs.Monomials.{exponent_sum}
use Rattle.sf_algebra.specs.Residues.{product_mod}
use Rattle.sf_algebra.specs.Rings.{Ring, ones}
use Rattle.sf_algebra.specs.Terms.{Term}
use Rattle.sf_algebra.specs.VectorOperations.{row_multiple}
use Rattle.sf_algebra.specs.Vectors.{Place, Vector, IsVector, place_degree}
use Rattle.sf_groebner.specs.Criterion.{IsPair, lcm_place, lead_at, lead_place, s_vector}
use Rattle.sf_groebner.specs.Divisions.{IsDivided}
use Rattle.sf_groebner.specs.ReducedBases.{IsMonic}
use Rattle.sf_groebner.specs.Small.{HasLeadUpTo}
use Rattle.sf_groebner.proofs.Constructions.LeadDivisors.{lead_places}
use Rattle.sf_groebner.proofs.PairTheorems.Multiplied.{constant_term}
use Rattle.sf_matrix.specs.Bounds.{DegreeFits, IsDegree}
use Rattle.sf_matrix.specs.declared.basis.BaseFault.TheVariants.{Memory, Large}
use Rattle.sf_matrix.specs.declared.basis.BaseFault.{BaseFault}
use Rattle.sf_buchberger.specs.DonePairs.{IsChained, with_done, with_new_row}
use Rattle.sf_buchberger.specs.QueuedPairs.{pairs_with}
use Rattle.sf_buchberger.specs.declared.growth.state.Growth.{Growth}
use Rattle.sf_buchberger.specs.declared.growth.state.Outcome.TheVariants.{Dropped, Grown, Zero}
use Rattle.sf_buchberger.specs.declared.growth.state.Outcome.{Outcome}

-- the least common multiples of the leads of rows and a place have room
abbrev pub PairsFit : List Vector → Place → Type 0
PairsFit rows lead =
    AllByRecursion (λ (v : Vector). exponent_sum (lcm (lead_place v.terms).monomial lead.monomial) ≤ GREATEST_SUM) rows

-- v is the multiple of a vector by the inverse of the coefficient of t
pub record IsMadeMonic (ring : Ring) (t : Term Place) (rest v : Vector) : Type 0 where
  pub inverse : ℕ
  pub residue : inverse < ring.modulus
  pub product : product_mod ring.modulus t.coefficient inverse ≡ 1
  pub vector : v ≡ record { degree = rest.degree; terms = row_multiple ring (constant_term inverse) rest.terms }

-- with a last row whose lead stands at a place, and its pairs with all others
abbrev pub with_row : Growth → Vector → Place → Growth
with_row g v lead = record {
  rows = record g.rows { rows = g.rows.rows ++ v ∷ [] };
  leads = g.leads ++ lead ∷ [];
  pairs = g.pairs ++ pairs_with ones g.rows.target g.rows.rows lead (length g.rows.rows) (length g.rows.rows);
  waiting = g.waiting;
  done = with_new_row g.done;
}

-- a rest with this lead is made monic and added, within the bounds
pub record IsExtended (limit : ℕ) (before : Growth) (rest : Vector) (lead : Term Place) (after : Growth) : Type 0 where
  pub row : Vector
  pub monic : IsMadeMonic before.rows.ring lead rest row
  pub few : length before.rows.rows < GREATEST_SIZE
  pub low : exponent_sum lead.at.monomial ≤ limit
  pub added : after ≡ with_row before row lead.at

-- a lead is above the limit, or there are as many rows as there may be
abbrev pub IsPastBounds : ℕ → List Vector → Place → Type 0
IsPastBounds limit rows lead = (limit < exponent_sum lead.monomial) ⊎ (GREATEST_SIZE ≤ length rows)

-- so a rest isn't added, and the fault tells the size of m
abbrev pub IsBoundFault : ℕ → Matrix → List Vector → Place → BaseFault → Type 0
IsBoundFault limit m rows lead Memory = Unit {0}
IsBoundFault limit m rows lead (Large r c) =
    (r ≡ length m.rows) × (c ≡ length m.target) × IsPastBounds limit rows lead

-- a division by the rows leaves these terms
pub record HasRest (rows : Matrix) (start : Vector) (rest : List (Term Place)) : Type 0 where
  pub quotients : List (Term Place)
  pub divided : IsDivided rows.ring rows.target rows.rows start.degree start.terms rest quotients

-- it leaves a rest with a lead, which is added
pub record IsGrownBy (limit : ℕ) (before : Growth) (start : Vector) (after : Growth) : Type 0 where
  pub lead : Term Place
  pub tail : List (Term Place)
  pub rest : HasRest before.rows start (lead ∷ tail)
  pub extended : IsExtended limit before (record { degree = start.degree; terms = lead ∷ tail }) lead after

-- it leaves a rest that is past the bounds
pub record IsPastBoundsBy (limit : ℕ) (rows : Matrix) (start : Vector) : Type 0 where
  pub lead : Term Place
  pub tail : List (Term Place)
  pub rest : HasRest rows start (lead ∷ tail)
  pub past : IsPastBounds limit rows.rows lead.at

-- so it isn't added, and the fault tells the size of m
abbrev pub IsGrowthFault : ℕ → Matrix → Matrix → Vector → BaseFault → Type 0
IsGrowthFault limit m rows start Memory = Unit {0}
IsGrowthFault limit m rows start (Large r c) =
    (r ≡ length m.rows) × (c ≡ length m.target) × IsPastBoundsBy limit rows start

-- rows by which a vector can be divided: they are monic and have low leads, and the vector is over their free module
-- and has room
pub record CanDivide (limit : ℕ) (g : Growth) (start : Vector) : Type 0 where
  pub vector : IsVector g.rows.ring g.rows.target start
  pub monic : AllByRecursion (λ (v : Vector). IsMonic v.terms) g.rows.rows
  pub places : g.leads ≡ lead_places g.rows.rows
  pub room : DegreeFits g.rows.target start.degree
  pub low : AllByRecursion (λ (v : Vector). HasLeadUpTo ones limit v.terms) g.rows.rows

-- the S-vector of a pair, with its degree
abbrev pub pair_vector : Matrix → ℕ → ℕ → Vector
pair_vector m i j = record {
  degree = place_degree ones m.target (lcm_place (lead_at m.rows) i j);
  terms = s_vector m.ring m.rows i j;
}

-- a pair whose S-vector can be divided
pub record CanDividePair (limit : ℕ) (g : Growth) (i j : ℕ) : Type 0 where
  pub pair : IsPair g.rows.rows i j
  pub first : i < length g.rows.rows
  pub lcm_room : exponent_sum (lcm_place (lead_at g.rows.rows) i j).monomial ≤ GREATEST_SUM
  pub lcm_degree : IsDegree (pair_vector g.rows i j).degree
  pub divide : CanDivide limit g (pair_vector g.rows i j)

-- where the pair of rows i and j is done
abbrev pub with_pair : Growth → ℕ → ℕ → Growth
with_pair g i j = record g { done = with_done g.done i j }

-- what becomes of a vector that is divided: there is no rest and all stays, or the rest is added
abbrev pub IsDividedAs : ℕ → Growth → Vector → Outcome → Growth → Type 0
IsDividedAs limit before start Dropped after = ⊥
IsDividedAs limit before start Zero after = HasRest before.rows start [] × (after ≡ before)
IsDividedAs limit before start Grown after = IsGrownBy limit before start after

-- what becomes of a pair: it is chained and all stays, or its S-vector is divided
abbrev pub IsHandledAs : ℕ → Growth → ℕ → ℕ → Outcome → Growth → Type 0
IsHandledAs limit before i j Dropped after = IsChained before.rows.rows before.done i j × (after ≡ before)
IsHandledAs limit before i j Zero after = HasRest before.rows (pair_vector before.rows i j) [] × (after ≡ before)
IsHandledAs limit before i j Grown after = IsGrownBy limit before (pair_vector before.rows i j) after

-- and then it is done
pub record IsPairHandled (limit : ℕ) (before : Growth) (i j : ℕ) (outcome : Outcome) (after : Growth) : Type 0 where
  pub divided : Growth
  pub handled : IsHandledAs limit before i j outcome divided
  pub done : after ≡ with_pair divided i j
