-- Kronecker products with an identity have room, since monomials have.
use Rattle.std.proofs.Common.{◌≡◌, ◌+◌, ◌≤◌, ℕ, suc, List, [], ◌∷◌, ℤ, sym, ap, ◌∙◌, subst, arith}
use Rattle.std.specs.List.{AllByRecursion}
use Rattle.sf_algebra.specs.Bounds.{GREATEST_SUM}
use Rattle.sf_algebra.specs.Matrices.{Matrix, row_degrees}
use Rattle.sf_algebra.specs.MatrixOperations.{identity, unit_rows}
use Rattle.sf_algebra.specs.Monomials.{Monomial, exponent_sum, one}
use Rattle.sf_algebra.specs.Rings.{Ring}
use Rattle.sf_algebra.specs.Terms.{Term}
use Rattle.sf_algebra.specs.Vectors.{Place, Vector}
use Rattle.sf_algebra.proofs.Basics.Lists.{AllByRecursion-weaken}
use Rattle.sf_algebra.proofs.GradedMatrices.Identities.{row_degrees-identity}
use Rattle.sf_matrix.specs.Bounds.{HasRoom, KroneckerFits, SumsFit, TermsFit}

-- the monomials of vectors have room
abbrev pub HaveRoom : List Vector → Type 0
HaveRoom vs = AllByRecursion (λ (v : Vector). HasRoom one v.terms) vs

pub room-units_first : (i : ℕ) (ds : List ℤ) (vs : List Vector) → HaveRoom vs → KroneckerFits (unit_rows i ds) vs
room-units_first i [] vs h = tt
room-units_first i (d ∷ ds) vs h = (AllByRecursion-weaken _ _ (λ v k. (k, tt)) vs h, room-units_first (suc i) ds vs h)

exchanged : (a : Monomial) → exponent_sum one + exponent_sum a ≤ GREATEST_SUM → exponent_sum a + exponent_sum one ≤ GREATEST_SUM
exchanged a h = omega arith

row_room : (ts : List (Term Place)) → HasRoom one ts → (i : ℕ) (es : List ℤ)
    → AllByRecursion (λ (w : Vector). TermsFit ts w.terms) (unit_rows i es)
row_room ts h i [] = tt
row_room ts h i (e ∷ es) =
    (AllByRecursion-weaken _ _ (λ t k. (exchanged t.at.monomial k, tt)) ts h, row_room ts h (suc i) es)

pub room-units : (vs : List Vector) → HaveRoom vs → (i : ℕ) (es : List ℤ) → KroneckerFits vs (unit_rows i es)
room-units vs h i es = AllByRecursion-weaken _ _ (λ v k. row_room v.terms k i es) vs h

-- so has one with units that code has made
module _ (units : Matrix) (ring : Ring) (ds : List ℤ) (same : units ≡ identity ring ds) where
  pub sums_first : (es : List ℤ) → SumsFit ds es → SumsFit (row_degrees units) es
  sums_first es h = subst (λ xs. SumsFit xs es) (sym (ap row_degrees same ∙ row_degrees-identity ring ds)) h

  pub sums_second : (es : List ℤ) → SumsFit es ds → SumsFit es (row_degrees units)
  sums_second es h = subst (λ xs. SumsFit es xs) (sym (ap row_degrees same ∙ row_degrees-identity ring ds)) h

  pub fits_first : (vs : List Vector) → HaveRoom vs → KroneckerFits units.rows vs
  fits_first vs h = subst (λ (m : Matrix). KroneckerFits m.rows vs) (sym same) (room-units_first 0 ds vs h)

  pub fits_second : (vs : List Vector) → HaveRoom vs → KroneckerFits vs units.rows
  fits_second vs h = subst (λ (m : Matrix). KroneckerFits vs m.rows) (sym same) (room-units vs h 0 ds)
