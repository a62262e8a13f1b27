-- A list of rows that grows: pairs that reduce to zero still do, and a division of an S-vector whose rest is 0, or a
-- new row's multiple, makes its pair reduce to zero.
use Rattle.std.proofs.Common.{◌≡◌, ℕ, ◌<◌, List, [], ◌∷◌, ◌++◌, length, sym, ◌∙◌, ap, subst, arith, length-append}
use Rattle.std.specs.declared.cmp.Ordering.TheVariants.{Less}
use Rattle.std.specs.List.{AllByRecursion}
use Rattle.sf_algebra.specs.Divisibility.{quotient, lcm}
use Rattle.sf_algebra.specs.MatrixOperations.{row_at, row_combination}
use Rattle.sf_algebra.specs.Monomials.{one}
use Rattle.sf_algebra.specs.Multiples.{place_product}
use Rattle.sf_algebra.specs.Residues.{negative_mod}
use Rattle.sf_algebra.specs.Rings.{Ring, Weights, IsRing}
use Rattle.sf_algebra.specs.Terms.{Term}
use Rattle.sf_algebra.specs.VectorOperations.{row_sum, row_multiple}
use Rattle.sf_algebra.specs.Vectors.{Place, Vector, place_cmp}
use Rattle.sf_algebra.proofs.Basics.Lists.{AllByRecursion-append, AllByRecursion-weaken}
use Rattle.sf_algebra.proofs.Monomials.Places.{place_product-one}
use Rattle.sf_algebra.proofs.Multiplying.CombinationLaws.{combination-rows}
use Rattle.sf_algebra.proofs.Multiplying.Keys.{place_keys}
use Rattle.sf_algebra.proofs.Vectors.RowSums.{row_sum-comm, row_sum-nil_first}
use Rattle.sf_algebra.proofs.Vectors.Rows.{IsCanonical-row_combination, row_at-append_first, row_at-append_second, row_combination-append, row_combination-one}
use Rattle.sf_groebner.specs.Criterion.{HasMultipleBelow, IsForRows, ReducesToZero, lcm_place, lead_at, lead_place, s_coefficients, s_vector}
use Rattle.sf_groebner.proofs.PairTheorems.Multiplied.{constant_term}

module _ (rows more : List Vector) where
  pub length-more : (i : ℕ) → i < length rows → i < length (rows ++ more)
  length-more i h = rw length-append (omega arith)

  pub lead_at-append : (i : ℕ) → i < length rows → lead_at (rows ++ more) i ≡ lead_at rows i
  lead_at-append i h = ap lead_place (row_at-append_first rows more i h)

  pub lcm_place-append : (i j : ℕ) → i < length rows → j < length rows
      → lcm_place (lead_at (rows ++ more)) i j ≡ lcm_place (lead_at rows) i j
  lcm_place-append i j h k =
      let e = lead_at-append i h in
      let f = lead_at-append j k in
      λ n. record { position = (e n).position; monomial = lcm (e n).monomial (f n).monomial }

  s_coefficients-append : (p i j : ℕ) → i < length rows → j < length rows
      → s_coefficients p (lead_at (rows ++ more)) i j ≡ s_coefficients p (lead_at rows) i j
  s_coefficients-append p i j h k =
      let e = lead_at-append i h in
      let f = lead_at-append j k in
      λ n.
      record {
        at = record { position = i; monomial = quotient (lcm (e n).monomial (f n).monomial) (e n).monomial };
        coefficient = 1;
      }
      ∷ (record { at = record { position = j; monomial = quotient (lcm (f n).monomial (e n).monomial) (f n).monomial }; coefficient = negative_mod p 1 } ∷ [])

  pub HasMultipleBelow-append : (weights : Weights) (b : Place) (c : List (Term Place))
      → AllByRecursion (HasMultipleBelow weights rows b) c
      → AllByRecursion (HasMultipleBelow weights (rows ++ more) b) c
  HasMultipleBelow-append weights b c h =
      AllByRecursion-weaken _ _
      (λ t below. (length-more t.at.position below.0, ap (λ l. place_cmp weights (place_product t.at.monomial l) b) (lead_at-append t.at.position below.0) ∙ below.1)) c h

  module _ (ring : Ring) (positive : IsRing ring) where
    -- coefficients for the rows give what they gave
    pub row_combination-more_rows : (c : List (Term Place)) → AllByRecursion (IsForRows rows) c
        → row_combination ring (rows ++ more) c ≡ row_combination ring rows c
    row_combination-more_rows c h =
        combination-rows (place_keys ring.weights) ring.modulus positive.modulus (λ k. k.monomial)
        (λ k. row_at (rows ++ more) k.position) (λ k. row_at rows k.position) c
        (AllByRecursion-weaken _ _ (λ t within. row_at-append_first rows more t.at.position within) c h)

    pub s_vector-append : (i j : ℕ) → i < length rows → j < length rows
        → s_vector ring (rows ++ more) i j ≡ s_vector ring rows i j
    s_vector-append i j h k =
        ap (row_combination ring (rows ++ more)) (s_coefficients-append ring.modulus i j h k)
        ∙ row_combination-more_rows (s_coefficients ring.modulus (lead_at rows) i j) (h, (k, tt))

    -- a pair that reduces to zero still does
    pub ReducesToZero-append : (i j : ℕ) → i < length rows → j < length rows → ReducesToZero ring rows i j
        → ReducesToZero ring (rows ++ more) i j
    ReducesToZero-append i j h k r = record {
      steps = r.steps;
      below = HasMultipleBelow-append ring.weights (lcm_place (lead_at (rows ++ more)) i j) r.steps
          (subst (λ b. AllByRecursion (HasMultipleBelow ring.weights rows b) r.steps) (sym (lcm_place-append i j h k)) r.below);
      value =
          row_combination-more_rows r.steps (AllByRecursion-weaken _ _ (λ t below. below.0) r.steps r.below) ∙ r.value
          ∙ sym (s_vector-append i j h k);
    }

-- the S-vector of a pair is a rest and a combination of rows whose images are less than the least common multiple
pub record IsDividedPair (ring : Ring) (rows : List Vector) (i j : ℕ) (rest : List (Term Place)) : Type 0 where
  pub steps : List (Term Place)
  pub below : AllByRecursion (HasMultipleBelow ring.weights rows (lcm_place (lead_at rows) i j)) steps
  pub sum : row_sum ring rest (row_combination ring rows steps) ≡ s_vector ring rows i j

module _ (ring : Ring) (positive : IsRing ring) (rows : List Vector) (i j : ℕ) where
  -- no rest
  pub ReducesToZero-divided : (rest : List (Term Place)) → IsDividedPair ring rows i j rest → rest ≡ []
      → ReducesToZero ring rows i j
  ReducesToZero-divided rest h none = record {
    steps = h.steps;
    below = h.below;
    value =
        sym (row_sum-nil_first ring positive.modulus (row_combination ring rows h.steps) (IsCanonical-row_combination ring positive.modulus rows h.steps))
        ∙ ap (λ us. row_sum ring us (row_combination ring rows h.steps)) (sym none)
        ∙ h.sum;
  }

  -- a rest that is a multiple of a new row
  pub ReducesToZero-new_row : (rest : List (Term Place)) → IsDividedPair ring rows i j rest → i < length rows
      → j < length rows → (v : Vector) (x : ℕ) → rest ≡ row_multiple ring (constant_term x) v.terms
      → place_cmp ring.weights (lead_place v.terms) (lcm_place (lead_at rows) i j) ≡ Less
      → ReducesToZero ring (rows ++ v ∷ []) i j
  ReducesToZero-new_row rest h i_in j_in v x is_multiple less = record {
    steps = h.steps ++ new ∷ [];
    below = AllByRecursion-append _ h.steps (new ∷ [])
        (HasMultipleBelow-append rows (v ∷ []) ring.weights (lcm_place (lead_at (rows ++ v ∷ [])) i j) h.steps (subst (λ b. AllByRecursion (HasMultipleBelow ring.weights rows b) h.steps) (sym same_lcm) h.below))
        ((new_in, new_below), tt);
    value = row_combination-append ring positive.modulus (rows ++ v ∷ []) h.steps (new ∷ [])
        ∙ (λ n.
        row_sum ring (row_combination-more_rows rows (v ∷ []) ring positive h.steps (AllByRecursion-weaken _ _ (λ t below. below.0) h.steps h.below) n)
        ((row_combination-one ring positive.modulus (rows ++ v ∷ []) new ∙ ap (row_multiple ring (constant_term x)) new_row ∙ sym is_multiple) n))
        ∙ row_sum-comm ring positive.modulus (row_combination ring rows h.steps) rest
        ∙ h.sum
        ∙ sym (s_vector-append rows (v ∷ []) ring positive i j i_in j_in);
  }
    where
      new : Term Place
      new = record { at = record { position = length rows; monomial = one }; coefficient = x }

      same_lcm : lcm_place (lead_at (rows ++ v ∷ [])) i j ≡ lcm_place (lead_at rows) i j
      same_lcm = lcm_place-append rows (v ∷ []) i j i_in j_in

      new_in : length rows < length (rows ++ v ∷ [])
      new_in = rw length-append (omega arith)

      new_row : row_at (rows ++ v ∷ []) (length rows) ≡ v.terms
      new_row = ap (row_at (rows ++ v ∷ [])) (omega arith) ∙ row_at-append_second rows (v ∷ []) 0

      new_below : place_cmp ring.weights (place_product one (lead_at (rows ++ v ∷ []) (length rows)))
          (lcm_place (lead_at (rows ++ v ∷ [])) i j) ≡ Less
      new_below =
          (λ n. place_cmp ring.weights ((place_product-one (lead_at (rows ++ v ∷ []) (length rows)) ∙ ap lead_place new_row) n) (same_lcm n)) ∙ less
