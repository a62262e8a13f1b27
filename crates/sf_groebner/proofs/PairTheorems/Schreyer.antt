-- Schreyer's theorem: the pair syzygies of monic rows span all their syzygies. (Cox, Little, O'Shea, "Using Algebraic
-- Geometry", chapter 5, section 3.)
use Rattle.std.proofs.Common.{◌≡◌, ⊎_elim, ℕ, zero, suc, ◌<◌, List, [], ◌∷◌, ◌++◌, length, map, refl, sym, ◌∙◌, ap}
use Rattle.std.specs.List.{AllByRecursion, flat_map}
use Rattle.sf_algebra.specs.MatrixOperations.{row_at, row_combination}
use Rattle.sf_algebra.specs.Monomials.{Monomial, one}
use Rattle.sf_algebra.specs.Multiples.{place_product, term_product, multiple, combination_terms, combination}
use Rattle.sf_algebra.specs.Rings.{Ring, IsRing}
use Rattle.sf_algebra.specs.Sums.{normal, add}
use Rattle.sf_algebra.specs.Terms.{Term}
use Rattle.sf_algebra.specs.VectorOperations.{row_sum, row_multiple}
use Rattle.sf_algebra.specs.Vectors.{Place, Vector, place_cmp}
use Rattle.sf_algebra.proofs.Basics.Lists.{AllByRecursion-append}
use Rattle.sf_algebra.proofs.Monomials.Orders.{place_cmp_linear}
use Rattle.sf_algebra.proofs.Multiplying.Associativity.{combination_combination}
use Rattle.sf_algebra.proofs.Multiplying.Keys.{place_keys}
use Rattle.sf_algebra.proofs.Terms.Normal.{EachPlace}
use Rattle.sf_algebra.proofs.Terms.SameTotals.{SameTotals, SameTotals-from_normal, SameTotals-normal, SameTotals-products, SameTotals-products_one, SameTotals-sym, normal-SameTotals}
use Rattle.sf_algebra.proofs.Terms.Sums.{normal-append, normal-nil}
use Rattle.sf_algebra.proofs.Vectors.Rows.{position_rows, row_combination-append, row_combination-nil, row_combination-one}
use Rattle.sf_algebra.proofs.Vectors.UnitRows.{unit_term}
use Rattle.sf_groebner.specs.Criterion.{HaveLeadsAtOnePosition, IsForRows, IsMonicRow, IsPairSyzygy, lead_multiple, lead_at, pair_place, s_coefficients}
use Rattle.sf_groebner.proofs.PairTheorems.Buchberger.{IsInside}
use Rattle.sf_groebner.proofs.PairTheorems.Kernels.{row_combination-SameTotals, row_combination-products, settled-syzygy}
use Rattle.sf_groebner.proofs.PairTheorems.LeadMultiples.{IsModule, IsSettled}
use Rattle.sf_groebner.proofs.PairTheorems.MonicRows.{lead_bound, monic_leads}
use Rattle.sf_groebner.proofs.PairTheorems.Multiplied.{EachPlace-products}
use Rattle.sf_groebner.proofs.PairTheorems.Pairs.{cofactor, same_lead_position, settled_pairs}
use Rattle.sf_groebner.proofs.PairTheorems.Standard.{standard}
use Rattle.sf_groebner.proofs.PairTheorems.TopCoefficients.{Begins}

-- c is a combination of the rows zs
pub record IsSpanned (ring : Ring) (zs : List Vector) (c : List (Term Place)) : Type 0 where
  pub coefficients : List (Term Place)
  pub for_rows : AllByRecursion (IsForRows zs) coefficients
  pub value : row_combination ring zs coefficients ≡ normal (place_cmp ring.weights) ring.modulus c

-- the coefficients of a pair, by the sum of its syzygy and its steps
pub SameTotals-from_sum : (ring : Ring) (z steps terms : List (Term Place))
    → row_sum ring z steps ≡ normal (place_cmp ring.weights) ring.modulus terms
    → SameTotals ring.modulus (z ++ steps) terms
unfolding add
SameTotals-from_sum ring z steps terms e =
    SameTotals-from_normal (place_cmp ring.weights) (place_cmp_linear ring.weights) ring.modulus (z ++ steps) terms e

module _ (ring : Ring) (positive : IsRing ring) where
  multiple-normal : (s : Term Monomial) (c : List (Term Place))
      → row_multiple ring s (normal (place_cmp ring.weights) ring.modulus c)
      ≡ normal (place_cmp ring.weights) ring.modulus (map (term_product place_product ring.modulus s) c)
  unfolding multiple
  multiple-normal s c =
      normal-SameTotals (place_cmp ring.weights) (place_cmp_linear ring.weights) ring.modulus positive.modulus
      (SameTotals-products ring.modulus place_product s (SameTotals-normal (place_cmp ring.weights) (place_cmp_linear ring.weights) ring.modulus c))

  pub IsSpanned-module : (zs : List Vector) → IsModule ring.modulus (IsSpanned ring zs)
  IsSpanned-module zs = record {
    has_none = record { coefficients = []; for_rows = tt; value = row_combination-nil ring positive.modulus zs ∙ sym (normal-nil (place_cmp ring.weights) ring.modulus) };
    has_sums = λ us vs h k. record {
      coefficients = h.coefficients ++ k.coefficients;
      for_rows = AllByRecursion-append _ h.coefficients k.coefficients h.for_rows k.for_rows;
      value = row_combination-append ring positive.modulus zs h.coefficients k.coefficients
          ∙ (λ i. row_sum ring (h.value i) (k.value i))
          ∙ sym (normal-append (place_cmp ring.weights) (place_cmp_linear ring.weights) ring.modulus positive.modulus us vs);
    };
    has_products = λ s us h. record {
      coefficients = map (term_product place_product ring.modulus s) h.coefficients;
      for_rows =
          EachPlace-products (IsInside zs) (IsInside zs) ring.modulus s (λ k inside. inside) h.coefficients h.for_rows;
      value =
          row_combination-products ring positive zs s h.coefficients ∙ ap (row_multiple ring s) h.value
          ∙ multiple-normal s us;
    };
    has_same = λ us vs same h. record {
      coefficients = h.coefficients;
      for_rows = h.for_rows;
      value =
          h.value ∙ normal-SameTotals (place_cmp ring.weights)
          (place_cmp_linear ring.weights) ring.modulus positive.modulus same;
    };
  }

  multiple-one_normal : (us : List (Term Place))
      → row_multiple ring (record { at = one; coefficient = 1 }) us ≡ normal (place_cmp ring.weights) ring.modulus us
  unfolding multiple
  multiple-one_normal us =
      normal-SameTotals (place_cmp ring.weights) (place_cmp_linear ring.weights) ring.modulus positive.modulus
      (SameTotals-products_one (place_keys ring.weights) ring.modulus us)

  -- a row is one of their combinations
  pub IsSpanned-row : (zs : List Vector) (i : ℕ) → i < length zs → IsSpanned ring zs (row_at zs i)
  IsSpanned-row zs i inside = record {
    coefficients = unit_term i ∷ [];
    for_rows = (inside, tt);
    value = row_combination-one ring positive.modulus zs (unit_term i) ∙ multiple-one_normal (row_at zs i);
  }

  -- a combination of empty rows
  combination-empty : (c : List (Term Place))
      → combination (place_cmp ring.weights) place_product ring.modulus (λ (k : Place). k.monomial)
      (λ (k : Place). []) c ≡ []
  unfolding combination combination_terms
  combination-empty c =
      ap (normal (place_cmp ring.weights) ring.modulus) (none c) ∙ normal-nil (place_cmp ring.weights) ring.modulus
    where
      none : (c : List (Term Place))
          → flat_map (λ (t : Term Place). map
          (term_product place_product ring.modulus (record { at = t.at.monomial; coefficient = t.coefficient })) []) c
          ≡ []
      none [] = refl
      none (t ∷ c) = none c

  module _ (rows zs : List Vector)
      (syzygies : AllByRecursion (λ (z : Vector). row_combination ring rows z.terms ≡ []) zs) where
    row_at-syzygy : (i : ℕ) → row_combination ring rows (row_at zs i) ≡ []
    row_at-syzygy i = each zs syzygies i
      where
        each : (vs : List Vector) → AllByRecursion (λ (z : Vector). row_combination ring rows z.terms ≡ []) vs → (i : ℕ)
            → row_combination ring rows (row_at vs i) ≡ []
        each [] h i = row_combination-nil ring positive.modulus rows
        each (v ∷ vs) h zero = h.0
        each (v ∷ vs) h (suc i) = each vs h.1 i

    -- a combination of syzygies is a syzygy
    pub IsSpanned-syzygy : (c : List (Term Place)) → IsSpanned ring zs c → row_combination ring rows c ≡ []
    IsSpanned-syzygy c h =
        row_combination-SameTotals ring positive rows
        (SameTotals-sym ring.modulus (SameTotals-normal (place_cmp ring.weights) (place_cmp_linear ring.weights) ring.modulus c))
        ∙ ap (row_combination ring rows) (sym h.value)
        ∙ combination_combination (place_keys ring.weights) (place_keys ring.weights) ring.modulus positive.modulus
        (λ k. k.monomial) (λ k. row_at rows k.position) (position_rows ring.weights (row_at rows)) (λ k. k.monomial)
        (λ k. row_at zs k.position) h.coefficients
        ∙ (λ i. combination (place_cmp ring.weights) place_product ring.modulus (λ (k : Place). k.monomial) (λ (k : Place). row_at-syzygy k.position i) h.coefficients)
        ∙ combination-empty h.coefficients

    module _ (monic : AllByRecursion (IsMonicRow ring) rows) where
      -- the theorem for coefficients at the places in In
      pub schreyer_at : (In : Place → Type 0) → ((k : Place) → In k → k.position < length rows)
          → ((j k : Place) → In j → In k → lead_multiple (lead_at rows) j ≡ lead_multiple (lead_at rows) k
          → j.position < k.position
          → IsSettled ring (λ u. In (place_product (cofactor (lead_at rows) j k) u)) (lead_at rows) (IsSpanned ring zs)
          (pair_place (lead_at rows) j.position k.position) (pair_place (lead_at rows) k.position j.position))
          → (c : List (Term Place)) → EachPlace In c → row_combination ring rows c ≡ [] → IsSpanned ring zs c
      schreyer_at In inside pairs c h none =
          ⊎_elim
          (λ (member : IsSpanned ring zs c). member)
          (λ (found : (k : Place) × In k × Begins (lead_multiple (lead_at rows) k) (row_combination ring rows c)). absurd (nothing_begins (lead_multiple (lead_at rows) found.0) (row_combination ring rows c) none found.2))
          (standard ring (lead_bound rows) positive In rows (lead_at rows) (monic_leads ring rows monic In inside) (IsSpanned ring zs) (IsSpanned-module zs)
          (settled_pairs ring (IsSpanned ring zs) (IsSpanned-module zs) In (lead_at rows) positive pairs) IsSpanned-syzygy c h)
        where
          nothing_begins : (b : Place) (v : List (Term Place)) → v ≡ [] → Begins b v → ⊥
          nothing_begins b v none begins = let shape = sym begins.shape ∙ none in cc

      -- the theorem
      pub schreyer : ((i j : ℕ) → i < j → j < length rows → HaveLeadsAtOnePosition rows i j
          → (k : ℕ) × (k < length zs) × IsPairSyzygy ring rows i j (row_at zs k))
          → (c : List (Term Place)) → AllByRecursion (IsForRows rows) c → row_combination ring rows c ≡ []
          → IsSpanned ring zs c
      schreyer pairs =
          schreyer_at (IsInside rows) (λ k h. h)
          (λ j k j_in k_in e earlier.
          let positions = same_lead_position (lead_at rows) j k e in
          let found = pairs j.position k.position earlier k_in positions in
          settled-syzygy ring positive rows (IsInside rows) (lead_at rows) j.position k.position positions
          (IsSpanned ring zs) found.2.steps (row_at zs found.0) found.2.below
          (IsSpanned-row zs found.0 found.1)
          (SameTotals-from_sum ring (row_at zs found.0) found.2.steps (s_coefficients ring.modulus (lead_at rows) j.position k.position) found.2.sum))
