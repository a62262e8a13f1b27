-- Homogeneous rows whose leads have the coefficient 1, and their multiples that begin with a given term.
use Rattle.std.proofs.Common.{◌≡◌, true, inl, inr, ℕ, zero, suc, ◌<◌, List, [], ◌∷◌, length, map, sym, ◌∙◌, ap, subst, arith, ◌+◌, ℤ, pos, ◌+ℤ◌}
use Rattle.std.proofs.Math.Nat.{mod-eq_of_lt}
use Rattle.std.proofs.lemmas.Bool.{or_cases}
use Rattle.std.proofs.lemmas.Int.{ints}
use Rattle.std.proofs.lemmas.List.{length-map}
use Rattle.std.specs.List.{AllByRecursion}
use Rattle.sf_algebra.specs.Divisibility.{quotient}
use Rattle.sf_algebra.specs.Matrices.{degrees_of}
use Rattle.sf_algebra.specs.MatrixOperations.{row_at, row_combination}
use Rattle.sf_algebra.specs.Monomials.{Monomial, monomial_degree}
use Rattle.sf_algebra.specs.Multiples.{place_product, term_product}
use Rattle.sf_algebra.specs.Rings.{Ring, IsOverField}
use Rattle.sf_algebra.specs.Terms.{Term, IsNonzeroResidue}
use Rattle.sf_algebra.specs.Vectors.{Place, Vector, generator_degree, place_degree, IsTermOfDegree, IsHomogeneous, IsVector}
use Rattle.sf_algebra.proofs.Arithmetic.Residues.{product_mod-one}
use Rattle.sf_algebra.proofs.Basics.Lists.{AllByRecursion-weaken}
use Rattle.sf_algebra.proofs.Monomials.Divisors.{product-quotient}
use Rattle.sf_algebra.proofs.Monomials.Products.{monomial_degree-product}
use Rattle.sf_algebra.proofs.Monomials.Weights.{field_ring}
use Rattle.sf_algebra.proofs.Multiplying.Keys.{place_keys}
use Rattle.sf_algebra.proofs.Multiplying.PrimeMultiples.{multiple-map}
use Rattle.sf_algebra.proofs.Vectors.Degrees.{HasHomogeneousRows}
use Rattle.sf_algebra.proofs.Vectors.Rows.{row_combination-one}
use Rattle.sf_groebner.specs.Criterion.{IsMonicRow, lead_place, lead_at, lead_multiple}
use Rattle.sf_groebner.specs.Divisions.{step, step_factor, step_tail, tail_of}
use Rattle.sf_groebner.specs.Leads.{PlaceDivides}
use Rattle.sf_groebner.specs.ReducedBases.{lead_divides, is_divided, IsMonic}
use Rattle.sf_groebner.proofs.Basics.Items.{AllByRecursion-both}
use Rattle.sf_groebner.proofs.Basics.PlaceDivisors.{Decides-place_divides, place_product-quotient}
use Rattle.sf_groebner.proofs.PairTheorems.MonicRows.{IsMonic-shape}

-- a homogeneous vector whose lead has the coefficient 1
pub record IsMonicVector (ring : Ring) (target : List ℤ) (v : Vector) : Type 0 where
  pub vector : IsVector ring target v
  pub monic : IsMonic v.terms

-- monic rows that are homogeneous
pub IsMonicVector-rows : (ring : Ring) (target : List ℤ) (rows : List Vector) → AllByRecursion (IsVector ring target) rows
    → AllByRecursion (IsMonicRow ring) rows → AllByRecursion (IsMonicVector ring target) rows
IsMonicVector-rows ring target =
    AllByRecursion-both (IsVector ring target) (IsMonicRow ring) (IsMonicVector ring target)
    (λ v h k. record { vector = h; monic = k.monic })

-- what holds of each row holds of that at a position
pub AllByRecursion-row_at : (P : ℤ → List (Term Place) → Type 0) (rows : List Vector)
    → AllByRecursion (λ v. P v.degree v.terms) rows
    → (i : ℕ) → i < length rows → P (generator_degree (degrees_of rows) i) (row_at rows i)
AllByRecursion-row_at P [] h i within = absurd (omega arith)
AllByRecursion-row_at P (v ∷ vs) h zero within = h.0
AllByRecursion-row_at P (v ∷ vs) h (suc i) within = AllByRecursion-row_at P vs h.1 i (omega arith)

-- a lead that divides a place
pub lead_divides-place : (ts : List (Term Place)) (k : Place) → lead_divides ts k ≡ true
    → PlaceDivides (lead_place ts) k
lead_divides-place [] k h = cc
lead_divides-place (t ∷ ts) k h = (Decides-place_divides t.at k).0 h

-- the position of a row whose lead divides a place
pub is_divided-position : (rows : List Vector) (k : Place) → is_divided rows k ≡ true
    → (i : ℕ) × (i < length rows) × PlaceDivides (lead_at rows i) k
is_divided-position [] k h = cc
is_divided-position (v ∷ vs) k h =
    elim (or_cases (lead_divides v.terms k) (is_divided vs k) h) [
      | inl here ↦ (0, omega arith, lead_divides-place v.terms k here)
      | inr there ↦ let found = is_divided-position vs k there in (suc found.0, omega (arith, found.1), found.2)
    ]

pub lead_multiple-step : (rows : List Vector) (i : ℕ) (t : Term Place) → PlaceDivides (lead_at rows i) t.at
    → lead_multiple (lead_at rows) (step rows i t).at ≡ t.at
lead_multiple-step rows i t h = place_product-quotient (lead_at rows i) t.at h

module _ (ring : Ring) (target : List ℤ) (rows : List Vector)
    (monic : AllByRecursion (IsMonicVector ring target) rows) where
  pub monic_row : (i : ℕ) → i < length rows
      → IsMonicVector ring target (record { degree = generator_degree (degrees_of rows) i; terms = row_at rows i })
  monic_row = AllByRecursion-row_at (λ d ts. IsMonicVector ring target (record { degree = d; terms = ts })) rows monic

  pub monic_homogeneous : HasHomogeneousRows ring.weights target rows
  monic_homogeneous = AllByRecursion-weaken _ _ (λ v h. h.vector.homogeneous) rows monic

  -- the multiple of row i begins with t
  pub multiple_at : IsOverField ring → (i : ℕ) → i < length rows → (t : Term Place) → IsNonzeroResidue ring.modulus t
      → PlaceDivides (lead_at rows i) t.at
      → row_combination ring rows (step rows i t ∷ []) ≡ t ∷ step_tail ring rows i t
  multiple_at prime i within t nonzero divides =
      let row = monic_row i within in
      let shape = IsMonic-shape (row_at rows i) row.monic in
      let s : Term Monomial = step_factor rows i t in
      let first : term_product place_product ring.modulus s (record { at = lead_at rows i; coefficient = 1 }) ≡ t =
      λ j. record {
        at = place_product-quotient (lead_at rows i) t.at divides j;
        coefficient = (product_mod-one ring.modulus t.coefficient ∙ mod-eq_of_lt nonzero.1) j;
      } in
      row_combination-one ring (field_ring prime).modulus rows (step rows i t)
      ∙ multiple-map (place_keys ring.weights) ring.modulus s prime.prime nonzero (row_at rows i) row.vector.canonical
      ∙ ap (map (term_product place_product ring.modulus s)) shape
      ∙ ap (λ u. u ∷ map (term_product place_product ring.modulus s) (tail_of (row_at rows i))) first

  -- it has the degree of t
  pub IsTermOfDegree-step : (i : ℕ) → i < length rows → (d : ℤ) (t : Term Place) → PlaceDivides (lead_at rows i) t.at
      → IsTermOfDegree ring.weights target d t → IsTermOfDegree ring.weights (degrees_of rows) d (step rows i t)
  IsTermOfDegree-step i within d t divides h =
      let row = monic_row i within in
      let shape = IsMonic-shape (row_at rows i) row.monic in
      let lead : Term Place = record { at = lead_at rows i; coefficient = 1 } in
      let own : generator_degree (degrees_of rows) i ≡ place_degree ring.weights target lead.at =
      (subst (IsHomogeneous ring.weights target (generator_degree (degrees_of rows) i)) shape row.vector.homogeneous).0.1 in
      let sums : monomial_degree ring.weights t.at.monomial ≡ monomial_degree ring.weights (lead_at rows i).monomial + monomial_degree ring.weights (quotient t.at.monomial (lead_at rows i).monomial) =
      ap (monomial_degree ring.weights) (sym (product-quotient t.at.monomial (lead_at rows i).monomial divides.1))
      ∙ monomial_degree-product ring.weights (lead_at rows i).monomial
      (quotient t.at.monomial (lead_at rows i).monomial) in
      let position : generator_degree target t.at.position ≡ generator_degree target (lead_at rows i).position = ap (generator_degree target) (sym divides.0) in (
        rw length-map within,
        degrees d (generator_degree (degrees_of rows) i) (generator_degree target t.at.position)
            (generator_degree target (lead_at rows i).position) _ _ _ h.1 own position sums,
      )
    where
      degrees : (d r g l : ℤ) (s a b : ℕ) → d ≡ g +ℤ pos s → r ≡ l +ℤ pos a → g ≡ l → s ≡ a + b → d ≡ r +ℤ pos b
      degrees d r g l s a b h1 h2 h3 h4 = omega (arith, ints)
