-- Rows of which nothing is kept, before others of which nothing is kept, are none where the two are exact: a unit vector
-- would be sent to what isn't kept, but is kept itself, while nothing of the values of the next rows is.
use Rattle.std.proofs.Common.{◌≡◌, ℕ, zero, suc, Bool, true, false, cond, List, [], ◌∷◌, ◌++◌, length, refl, sym, ◌∙◌, ap, arith}
use Rattle.std.specs.List.{AllByRecursion}
use Rattle.sf_algebra.specs.Matrices.{Matrix, degrees_of}
use Rattle.sf_algebra.specs.MatrixOperations.{row_at, row_combination, unit_vector}
use Rattle.sf_algebra.specs.Monomials.{Monomial, one}
use Rattle.sf_algebra.specs.Multiples.{combination, place_product}
use Rattle.sf_algebra.specs.Rings.{Ring, IsOverField}
use Rattle.sf_algebra.specs.Terms.{Term}
use Rattle.sf_algebra.specs.Vectors.{Place, Vector, place_cmp}
use Rattle.sf_algebra.proofs.GradedMatrices.ProductParts.{combination-no_rows}
use Rattle.sf_algebra.proofs.Monomials.Weights.{field_ring}
use Rattle.sf_algebra.proofs.Multiplying.Keys.{place_keys}
use Rattle.sf_algebra.proofs.Vectors.HomogeneousVectors.{IsVector-unit_vector}
use Rattle.sf_hilbert.specs.Exactness.{AreAllExact, IsExactModulo, kept}
use Rattle.sf_hilbert.proofs.Kept.Terms.{IsMultiplicative, kept_rows, kept-row_combination}

-- nothing of any row is kept
abbrev pub KeepsNothing : (Monomial → Bool) → List Vector → Type 0
KeepsNothing test rows = AllByRecursion (λ (v : Vector). kept test v.terms ≡ []) rows

pub kept-nothing : (test : Monomial → Bool) (ts : List (Term Place))
    → AllByRecursion (λ (t : Term Place). test t.at.monomial ≡ false) ts → kept test ts ≡ []
kept-nothing test [] h = refl
kept-nothing test (t ∷ ts) h =
    ap (λ b. cond b (t ∷ kept test ts) (kept test ts)) h.0 ∙ kept-nothing test ts h.1

module _ (ring : Ring) (field : IsOverField ring) (test : Monomial → Bool) (multiplicative : IsMultiplicative test)
    (keeps_one : test one ≡ true) where
  no_row : (rows : List Vector) → KeepsNothing test rows → (i : ℕ) → row_at (kept_rows test rows) i ≡ []
  no_row [] h i = refl
  no_row (v ∷ vs) h zero = h.0
  no_row (v ∷ vs) h (suc i) = no_row vs h.1 i

  kept-row_combination_nothing : (rows : List Vector) → KeepsNothing test rows → (c : List (Term Place))
      → kept test (row_combination ring rows c) ≡ []
  kept-row_combination_nothing rows h c =
      kept-row_combination test ring (field_ring field).modulus multiplicative rows c
      ∙ (λ i. combination (place_cmp ring.weights) place_product ring.modulus (λ k. k.monomial) (λ (k : Place). no_row rows h k.position i) (kept test c))
      ∙ combination-no_rows (place_keys ring.weights) ring.modulus (field_ring field).modulus (λ k. k.monomial)
      (kept test c)

  vanishing : (rows next : List Vector) → IsExactModulo ring test rows next → KeepsNothing test rows
      → KeepsNothing test next → rows ≡ []
  vanishing [] next exact h k = refl
  vanishing (v ∷ vs) next exact h k =
      let unit : Vector = unit_vector v.degree 0 in
      let y = exact v.degree unit.terms
      (IsVector-unit_vector ring (degrees_of (v ∷ vs)) field.prime.above_one 0 (omega arith))
      (kept-row_combination_nothing (v ∷ vs) h unit.terms) in
      let none : [] ≡ unit.terms = sym (kept-row_combination_nothing next k y.0) ∙ y.2
      ∙ ap (λ b. cond b unit.terms []) keeps_one in
      absurd (omega (arith, ap length none))

  -- all steps but one that stands behind them
  pub vanishing_steps : (steps : List Matrix) (extra : Matrix) → AreAllExact ring test (steps ++ extra ∷ [])
      → AllByRecursion (λ (step : Matrix). KeepsNothing test step.rows) (steps ++ extra ∷ [])
      → AllByRecursion (λ (step : Matrix). step.rows ≡ []) steps
  vanishing_steps [] extra exact h = tt
  vanishing_steps (step ∷ []) extra exact h = (vanishing step.rows extra.rows exact.0 h.0 h.1.0, tt)
  vanishing_steps (step ∷ next ∷ more) extra exact h =
      (vanishing step.rows next.rows exact.0 h.0 h.1.0, vanishing_steps (next ∷ more) extra exact.1 h.1)
