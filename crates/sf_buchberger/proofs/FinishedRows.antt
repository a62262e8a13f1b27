-- The rows of a Gröbner basis of a small matrix's graph: they have room, and reduced and sorted they are its reduced basis.
use Rattle.std.proofs.Common.{◌≡◌, ℕ, zero, suc, ◌≤◌, List, [], ◌∷◌, sym, subst, arith, ℤ, pos, ◌+ℤ◌, ◌≤ℤ◌}
use Rattle.std.proofs.lemmas.Int.{ints}
use Rattle.std.specs.List.{AllByRecursion}
use Rattle.sf_algebra.specs.Bounds.{HasSmallSize, IsSmallDegree}
use Rattle.sf_algebra.specs.Matrices.{Matrix, IsMatrix, row_degrees}
use Rattle.sf_algebra.specs.Monomials.{monomial_degree}
use Rattle.sf_algebra.specs.Primes.{IsPrime}
use Rattle.sf_algebra.specs.Rings.{Ring, IsOverField, plain}
use Rattle.sf_algebra.specs.Terms.{Term}
use Rattle.sf_algebra.specs.Vectors.{Place, Vector, IsVector, generator_degree}
use Rattle.sf_algebra.proofs.Basics.Lists.{AllByRecursion-append, AllByRecursion-weaken}
use Rattle.sf_algebra.proofs.Monomials.Weights.{field_ring, ones_positive}
use Rattle.sf_groebner.specs.Small.{HasLeadUpTo, IsSmall}
use Rattle.sf_groebner.specs.ReducedBases.{IsMonic}
use Rattle.sf_groebner.specs.Spans.{IsGraphVector, graph_degrees}
use Rattle.sf_groebner.proofs.Basics.Items.{AllByRecursion-both}
use Rattle.sf_groebner.proofs.Constructions.Completions.{IsMonicIn}
use Rattle.sf_groebner.proofs.Constructions.FinishedBases.{small_end}
use Rattle.sf_groebner.proofs.Constructions.SortedRows.{sort_rows}
use Rattle.sf_groebner.proofs.Constructions.Tails.{HaveReducedTails}
use Rattle.sf_groebner.proofs.Spanning.GraphMatrices.{graph_matrix-generators}
use Rattle.sf_groebner.specs.GraphRows.{graph_matrix}
use Rattle.sf_matrix.specs.Bounds.{DegreeFits}
use Rattle.sf_buchberger.specs.Growth.{IsGrown}

-- polynomials modulo a prime, in variables of the weight 1, are over a field
pub field_ones : (p : ℕ) → IsPrime p → IsOverField (plain p)
field_ones p prime = record { prime = prime; weights = ones_positive }

-- the degree of a generator that there is or isn't
small_generator : (ds : List ℤ) → AllByRecursion IsSmallDegree ds → (i : ℕ) → IsSmallDegree (generator_degree ds i)
small_generator [] h i = (omega (arith, ints), omega (arith, ints))
small_generator (d ∷ ds) h zero = h.0
small_generator (d ∷ ds) h (suc i) = small_generator ds h.1 i

-- a degree at most 60 above a small one
fits_above : (d e : ℤ) (k limit : ℕ) → IsSmallDegree e → d ≡ e +ℤ pos k → k ≤ limit → limit ≤ 60 → (ds : List ℤ)
    → AllByRecursion IsSmallDegree ds → DegreeFits ds d
fits_above d e k limit small same low bounded ds h =
    AllByRecursion-weaken IsSmallDegree (λ (f : ℤ). d ≤ℤ (f +ℤ pos 65535))
    (λ f fits. let upper = small.1 in let lower = fits.0 in omega (arith, ints)) ds h

-- a vector whose lead is low has room
low_fits : (ring : Ring) (degrees : List ℤ) (limit : ℕ) → limit ≤ 60 → AllByRecursion IsSmallDegree degrees
    → (d : ℤ) (ts : List (Term Place)) → IsVector ring degrees (record { degree = d; terms = ts }) → IsMonic ts
    → HasLeadUpTo ring.weights limit ts → DegreeFits degrees d
low_fits ring degrees limit bounded small d [] vector monic low = absurd monic
low_fits ring degrees limit bounded small d (t ∷ ts) vector monic low =
    fits_above d (generator_degree degrees t.at.position) (monomial_degree ring.weights t.at.monomial) limit (small_generator degrees small t.at.position) vector.homogeneous.0.1 low bounded degrees
    small

module _ (limit : ℕ) (m rows : Matrix) (size : HasSmallSize m) (grown : IsGrown limit m rows) where
  small_degrees : AllByRecursion IsSmallDegree (graph_degrees m)
  small_degrees = AllByRecursion-append IsSmallDegree m.target (row_degrees m) size.column_degrees size.row_degrees

  pub grown-monic : AllByRecursion (λ (v : Vector). IsMonic v.terms) rows.rows
  grown-monic = AllByRecursion-weaken _ _ (λ v h. h.1) rows.rows grown.growing.monic

  pub grown-room : limit ≤ 60 → AllByRecursion (λ (v : Vector). DegreeFits rows.target v.degree) rows.rows
  grown-room bounded =
      subst (λ ds. AllByRecursion (λ (v : Vector). DegreeFits ds v.degree) rows.rows) (sym grown.target)
      (AllByRecursion-both (IsMonicIn (IsGraphVector m)) (λ (v : Vector). HasLeadUpTo m.ring.weights limit v.terms) (λ (v : Vector). DegreeFits (graph_degrees m) v.degree) (λ v h low. low_fits m.ring (graph_degrees m) limit bounded small_degrees v.degree v.terms h.0.vector h.1 low) rows.rows grown.growing.monic grown.low)

  module _ (prime : IsOverField m.ring) (matrix : IsMatrix m) (ws : List Vector)
      (tails : HaveReducedTails rows.ring rows.target rows.rows rows.rows ws) where
    pub small_rows : IsSmall limit m (sort_rows m.ring.weights ws)
    small_rows =
        small_end limit m prime matrix size (graph_matrix m).rows
        (graph_matrix-generators m (field_ring prime) prime.prime.above_one matrix) rows.rows grown.growing grown.few grown.low ws
        (subst (λ (r : Ring × List ℤ). HaveReducedTails r.0 r.1 rows.rows rows.rows ws) (λ i. (grown.ring i, grown.target i)) tails)

-- the vectors of a small matrix's basis
pub small-vectors : (limit : ℕ) (m : Matrix) (basis : List Vector) → IsSmall limit m basis
    → AllByRecursion (IsVector m.ring (graph_degrees m)) basis
small-vectors limit m basis small = AllByRecursion-weaken _ _ (λ v h. h.vector) basis small.reduced.inside
