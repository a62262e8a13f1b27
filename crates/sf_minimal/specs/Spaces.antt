-- The places of one degree with a sum over them, from which multiples of rows are taken away. (Lazard, "Gröbner bases,
-- Gaussian elimination and resolution of systems of algebraic equations", EUROCAL 1983.)
use Rattle.std.specs.Prelude.{◌≡◌, ℕ, ◌<◌, List, length, ℤ}
use Rattle.std.specs.List.{AllByRecursion}
use Rattle.sf_algebra.specs.Matrices.{Matrix}
use Rattle.sf_algebra.specs.MatrixOperations.{row_at}
use Rattle.sf_algebra.specs.Monomials.{Monomial}
use Rattle.sf_algebra.specs.Residues.{negative_mod}
use Rattle.sf_algebra.specs.Rings.{ones}
use Rattle.sf_algebra.specs.Terms.{Term}
use Rattle.sf_algebra.specs.VectorOperations.{row_multiple, row_sum}
use Rattle.sf_algebra.specs.Vectors.{Place, place_degree}
use Rattle.sf_dense.specs.Entries.{dense}
use Rattle.sf_groebner.specs.Criterion.{lead_at}
use Rattle.sf_groebner.specs.Divisions.{step, step_factor}
use Rattle.sf_groebner.specs.Leads.{PlaceDivides}
use Rattle.sf_variables.specs.Columns.{AreFalling}
use Rattle.sf_minimal.specs.declared.spaces.Space.{Space}

-- a place of degree d at one of the generators
abbrev pub IsPlaceOfDegree : List ℤ → ℤ → Place → Type 0
IsPlaceOfDegree target d k = (k.position < length target) × (d ≡ place_degree ones target k)

-- falling places of one degree, and a sum for each
pub record IsSpace (m : Matrix) (s : Space) : Type 0 where
  pub falling : AreFalling ones s.places.items
  pub inside : AllByRecursion (IsPlaceOfDegree m.target s.degree) s.places.items
  pub size : length s.cells ≡ length s.places.items

-- the places stay
pub record GoesOn (m : Matrix) (before after : Space) : Type 0 where
  pub space : IsSpace m after
  pub degree : after.degree ≡ before.degree
  pub places : after.places ≡ before.places

-- the vector that the sum stands for
abbrev pub sum_of : Matrix → Space → List (Term Place)
sum_of m s = dense m.ring.modulus s.places.items s.cells

-- the multiple of row i by a monomial and the negative of a residue is added
abbrev pub IsAdded : Matrix → ℕ → Monomial → ℕ → List (Term Place) → List (Term Place) → Type 0
IsAdded m i a c before after =
    after ≡ row_sum m.ring (row_multiple m.ring (record { at = a; coefficient = negative_mod m.ring.modulus c }) (row_at m.rows i)) before

-- so it is with the multiple of a row that begins with t, and s is its coefficient
pub record IsTakenAway (m : Matrix) (before after : List (Term Place)) (t s : Term Place) : Type 0 where
  pub row : ℕ
  pub within : row < length m.rows
  pub divides : PlaceDivides (lead_at m.rows row) t.at
  pub step : s ≡ step m.rows row t
  pub added : IsAdded m row (step_factor m.rows row t).at t.coefficient before after
