-- Rows of constants in echelon form, and what it means to enter a further row. (Any textbook of linear algebra.)
use Rattle.std.specs.Prelude.{◌≡◌, ℕ, List, [], ◌∷◌, ◌++◌, ℤ, pos}
use Rattle.std.specs.List.{AllByRecursion}
use Rattle.sf_algebra.specs.Matrices.{Matrix}
use Rattle.sf_algebra.specs.Monomials.{one}
use Rattle.sf_algebra.specs.Rings.{Ring}
use Rattle.sf_algebra.specs.Terms.{Term}
use Rattle.sf_algebra.specs.VectorOperations.{row_multiple}
use Rattle.sf_algebra.specs.Vectors.{Place, Vector}
use Rattle.sf_groebner.specs.Criterion.{IsPair, lead_place}
use Rattle.sf_groebner.specs.ReducedBases.{IsMonic}
use Rattle.sf_groebner.proofs.PairTheorems.Schreyer.{IsSpanned}

-- monic rows of constants, whose leads stand at different positions
pub record ArePivots (m : Matrix) : Type 0 where
  pub target : AllByRecursion (λ (d : ℤ). d ≡ pos 0) m.target
  pub degrees : AllByRecursion (λ (v : Vector). v.degree ≡ pos 0) m.rows
  pub monic : AllByRecursion (λ (v : Vector). IsMonic v.terms) m.rows
  pub apart : (i j : ℕ) → IsPair m.rows i j → ⊥

-- the row whose terms are those of a list
abbrev pub constant_row : List (Term Place) → Vector
constant_row c = record { degree = pos 0; terms = c }

-- v is monic, a constant times a list of terms, which is a constant times v
pub record IsMonicMultiple (ring : Ring) (terms : List (Term Place)) (v : Vector) : Type 0 where
  pub factor : ℕ
  pub inverse : ℕ
  pub value : row_multiple ring (record { at = one; coefficient = factor }) terms ≡ v.terms
  pub back : row_multiple ring (record { at = one; coefficient = inverse }) v.terms ≡ terms
  pub degree : v.degree ≡ pos 0
  pub place : lead_place v.terms ≡ lead_place terms
  pub monic : IsMonic v.terms

-- the new rows span what the old ones and the row c span
pub record IsEntered (old new : Matrix) (c : List (Term Place)) : Type 0 where
  pub pivots : ArePivots new
  pub ring : new.ring ≡ old.ring
  pub target : new.target ≡ old.target
  pub more : List Vector
  pub rows : new.rows ≡ old.rows ++ more
  pub spanned : IsSpanned old.ring new.rows c
  pub made : AllByRecursion (λ (v : Vector). IsSpanned old.ring (old.rows ++ constant_row c ∷ []) v.terms) more
