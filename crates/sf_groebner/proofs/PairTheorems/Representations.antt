-- Where each combination of monic rows has a lead that the lead of a row divides, each is a combination whose images
-- are less than what its places are less than; so the pairs of the rows reduce to zero.
use Rattle.std.proofs.Common.{◌≡◌, ◌≢◌, ◌⊎◌, inl, inr, ℕ, suc, ◌<◌, List, [], ◌∷◌, ◌++◌, length, if◌then◌else◌, Bool, true, false, ◌||◌, IsTrue, refl, sym, ◌∙◌, ap, subst, arith, append_assoc, append-nil}
use Rattle.std.proofs.lemmas.Cmp.{tied_itself}
use Rattle.std.specs.declared.cmp.Ordering.TheVariants.{Less, Equal, Greater}
use Rattle.std.specs.List.{AllByRecursion}
use Rattle.std.specs.Ordering.{is_eq}
use Rattle.sf_algebra.specs.Divisibility.{quotient}
use Rattle.sf_algebra.specs.MatrixOperations.{row_combination}
use Rattle.sf_algebra.specs.Multiples.{place_product, term_product}
use Rattle.sf_algebra.specs.Residues.{sum_mod, product_mod, negative_mod}
use Rattle.sf_algebra.specs.Rings.{Ring, IsRing}
use Rattle.sf_algebra.specs.Sums.{coefficient_at}
use Rattle.sf_algebra.specs.Terms.{Term}
use Rattle.sf_algebra.specs.VectorOperations.{row_sum}
use Rattle.sf_algebra.specs.Vectors.{Place, Vector, place_cmp, IsCanonicalRow}
use Rattle.sf_algebra.proofs.Arithmetic.Residues.{product_mod-reduced, sum_mod-zero}
use Rattle.sf_algebra.proofs.Basics.Lists.{AllByRecursion-append, AllByRecursion-weaken}
use Rattle.sf_algebra.proofs.Monomials.Orders.{place_cmp_linear, place_cmp_total}
use Rattle.sf_algebra.proofs.Monomials.Places.{place_product-one}
use Rattle.sf_algebra.proofs.Multiplying.Keys.{place_keys}
use Rattle.sf_algebra.proofs.Terms.Coefficients.{coefficient_at-head}
use Rattle.sf_algebra.proofs.Terms.GroupLaws.{coefficient_at-add}
use Rattle.sf_algebra.proofs.Terms.Negatives.{negative_one_term}
use Rattle.sf_algebra.proofs.Terms.Normal.{EachPlace, EachPlace-add, IsAboveEach}
use Rattle.sf_algebra.proofs.Terms.SameTotals.{SameTotals, SameTotals-append, SameTotals-equal, SameTotals-negative, SameTotals-refl, SameTotals-swap, SameTotals-trans, sum_mod-negative_one}
use Rattle.sf_algebra.proofs.Terms.Totals.{total-cons, total-nil}
use Rattle.sf_algebra.proofs.Vectors.Rows.{IsCanonical-row_combination, row_combination-append, row_combination-nil}
use Rattle.sf_groebner.specs.Criterion.{HasMultipleBelow, HaveLeadsAtOnePosition, IsForRows, IsMonicRow, ReducesToZero, lead_multiple, lcm_place, lead_at, lead_place, s_coefficients}
use Rattle.sf_groebner.specs.Leads.{PlaceDivides}
use Rattle.sf_groebner.specs.ReducedBases.{HasDividedLead, is_divided, lead_divides}
use Rattle.sf_groebner.proofs.Basics.Accessible.{IsBelow}
use Rattle.sf_groebner.proofs.Basics.PlaceDivisors.{Decides-place_divides, place_product-quotient}
use Rattle.sf_groebner.proofs.Basics.PlaceOrder.{Equal-not_Greater, Less-not_Greater}
use Rattle.sf_groebner.proofs.PairTheorems.Buchberger.{IsInside}
use Rattle.sf_groebner.proofs.PairTheorems.Kernels.{row_combination-SameTotals}
use Rattle.sf_groebner.proofs.PairTheorems.LeadMultiples.{IsAtMost, top_part}
use Rattle.sf_groebner.proofs.PairTheorems.MonicRows.{lead_bound, lead_bound-row, monic_leads}
use Rattle.sf_groebner.proofs.PairTheorems.SVectors.{below_at, s_vector-below}
use Rattle.sf_groebner.proofs.PairTheorems.Standard.{place_induction}
use Rattle.sf_groebner.proofs.PairTheorems.TopCoefficients.{coefficient_at-top, row_combination-at_most}

-- a row whose lead divides b
pub row-is_divided : (rows : List Vector) (b : Place) → IsTrue (is_divided rows b)
    → (i : ℕ) × (i < length rows) × PlaceDivides (lead_at rows i) b
row-is_divided [] b h = cc
row-is_divided (v ∷ vs) b h =
    elim (or_cases (lead_divides v.terms b) (is_divided vs b) h) [
      | inl here ↦ (0, omega arith, of_row v.terms here)
      | inr there ↦ let found = row-is_divided vs b there in (suc found.0, omega arith, found.2)
    ]
  where
    or_cases : (c d : Bool) → (c || d) ≡ true → (c ≡ true) ⊎ (d ≡ true)
    or_cases true d e = inl refl
    or_cases false d e = inr e

    of_row : (ts : List (Term Place)) → IsTrue (lead_divides ts b) → PlaceDivides (lead_place ts) b
    of_row [] e = cc
    of_row (t ∷ ts) e = (Decides-place_divides t.at b).0 e

-- c is a combination whose images are less than b
pub record IsRepresented (ring : Ring) (rows : List Vector) (b : Place) (c : List (Term Place)) : Type 0 where
  pub steps : List (Term Place)
  pub below : AllByRecursion (HasMultipleBelow ring.weights rows b) steps
  pub value : row_combination ring rows steps ≡ row_combination ring rows c

module _ (ring : Ring) (positive : IsRing ring) (rows : List Vector)
    (monic : AllByRecursion (IsMonicRow ring) rows) where
  -- the coefficients that cancel the lead t of a combination, where the lead of row i divides it
  module _ (t : Term Place) (i : ℕ) (within : i < length rows) (divides : PlaceDivides (lead_at rows i) t.at) where
    abbrev step : Term Place
    step = record {
      at = record { position = i; monomial = quotient t.at.monomial (lead_at rows i).monomial };
      coefficient = t.coefficient;
    }

    abbrev opposite : Term Place
    opposite = term_product place_product ring.modulus (negative_one_term ring.modulus) step

    multiple_step : lead_multiple (lead_at rows) step.at ≡ t.at
    multiple_step = place_product-quotient (lead_at rows i) t.at divides

    multiple_opposite : place_cmp ring.weights (lead_multiple (lead_at rows) opposite.at) t.at ≡ Equal
    multiple_opposite =
        ap (λ k. place_cmp ring.weights (lead_multiple (lead_at rows) k) t.at) (place_product-one step.at)
        ∙ ap (λ k. place_cmp ring.weights k t.at) multiple_step ∙ tied_itself (place_cmp_total ring.weights) t.at

    opposite_most : EachPlace (IsAtMost ring.weights (IsInside rows) (lead_at rows) t.at) (opposite ∷ [])
    opposite_most = ((within, Equal-not_Greater _ multiple_opposite), tt)

    coefficient_at-opposite : coefficient_at (place_cmp ring.weights) ring.modulus t.at
        (row_combination ring rows (opposite ∷ []))
        ≡ product_mod ring.modulus (negative_mod ring.modulus 1) t.coefficient
    coefficient_at-opposite =
        let top = top_part ring.weights (lead_at rows) t.at in
        coefficient_at-top ring (lead_bound rows) (IsInside rows) rows (lead_at rows)
        (monic_leads ring rows monic (IsInside rows) (λ k h. h)) t.at (opposite ∷ []) opposite_most
        ∙ total-cons ring.modulus top opposite []
        ∙ (λ k. sum_mod ring.modulus (if is_eq (multiple_opposite k) then product_mod ring.modulus (negative_mod ring.modulus 1) t.coefficient else 0) (total-nil ring.modulus top k))
        ∙ sum_mod-zero ring.modulus (product_mod ring.modulus (negative_mod ring.modulus 1) t.coefficient)
        ∙ product_mod-reduced ring.modulus (negative_mod ring.modulus 1) t.coefficient

    -- the lead is gone
    cancelled : (c ts : List (Term Place)) → row_combination ring rows c ≡ t ∷ ts
        → IsAboveEach (place_cmp ring.weights) t.at (row_combination ring rows (c ++ opposite ∷ []))
    cancelled c ts e =
        let canonical : IsCanonicalRow ring (t ∷ ts) =
        subst (IsCanonicalRow ring) e (IsCanonical-row_combination ring positive.modulus rows c) in
        let value = row_combination-append ring positive.modulus rows c (opposite ∷ []) in
        below_at ring t.at (row_combination ring rows (c ++ opposite ∷ []))
        (IsCanonical-row_combination ring positive.modulus rows (c ++ opposite ∷ []))
        (subst (EachPlace (λ k. place_cmp ring.weights k t.at ≢ Greater)) (sym value)
        (EachPlace-add (λ k. place_cmp ring.weights k t.at ≢ Greater) (place_cmp ring.weights) ring.modulus (row_combination ring rows c) (row_combination ring rows (opposite ∷ []))
        (subst (EachPlace (λ k. place_cmp ring.weights k t.at ≢ Greater)) (sym e) (Equal-not_Greater _ (tied_itself (place_cmp_total ring.weights) t.at), AllByRecursion-weaken _ _ (λ u less. Less-not_Greater _ less) ts canonical.descending.0))
        (row_combination-at_most ring (lead_bound rows) (IsInside rows) rows (lead_at rows) (monic_leads ring rows monic (IsInside rows) (λ k h. h)) t.at (opposite ∷ []) opposite_most)))
        (ap (coefficient_at (place_cmp ring.weights) ring.modulus t.at) value
        ∙ coefficient_at-add (place_keys ring.weights) ring.modulus t.at (row_combination ring rows c)
        (row_combination ring rows (opposite ∷ []))
        ∙ (λ k. sum_mod ring.modulus ((ap (coefficient_at (place_cmp ring.weights) ring.modulus t.at) e ∙ coefficient_at-head (place_cmp ring.weights) (place_cmp_linear ring.weights) ring.modulus t ts canonical) k) (coefficient_at-opposite k))
        ∙ sum_mod-negative_one ring.modulus t.coefficient positive.modulus)

    -- with the step it is back
    SameTotals-step : (c : List (Term Place)) → SameTotals ring.modulus ((c ++ opposite ∷ []) ++ step ∷ []) c
    SameTotals-step c =
        SameTotals-trans ring.modulus (SameTotals-equal ring.modulus _ _ (append_assoc c (opposite ∷ []) (step ∷ [])))
        (SameTotals-trans ring.modulus
        (SameTotals-append ring.modulus (SameTotals-refl ring.modulus c) (SameTotals-trans ring.modulus (SameTotals-swap ring.modulus (opposite ∷ []) (step ∷ [])) (SameTotals-negative (place_keys ring.weights) ring.modulus positive.modulus (step ∷ []))))
        (SameTotals-equal ring.modulus _ _ (append-nil c)))

    one_step : (b : Place) (c ts : List (Term Place)) → row_combination ring rows c ≡ t ∷ ts
        → place_cmp ring.weights t.at b ≡ Less → IsRepresented ring rows t.at (c ++ opposite ∷ [])
        → IsRepresented ring rows b c
    one_step b c ts e less h = record {
      steps = h.steps ++ step ∷ [];
      below = AllByRecursion-append _ h.steps (step ∷ [])
          (AllByRecursion-weaken _ _ (λ u below. (below.0, (place_cmp_total ring.weights).trans (lead_multiple (lead_at rows) u.at) t.at b below.1 less)) h.steps h.below)
          ((within, ap (λ k. place_cmp ring.weights k b) multiple_step ∙ less), tt);
      value = row_combination-append ring positive.modulus rows h.steps (step ∷ [])
          ∙ ap (λ us. row_sum ring us (row_combination ring rows (step ∷ []))) h.value
          ∙ sym (row_combination-append ring positive.modulus rows (c ++ opposite ∷ []) (step ∷ []))
          ∙ row_combination-SameTotals ring positive rows (SameTotals-step c);
    }

  module _ (complete : (c : List (Term Place)) → AllByRecursion (IsForRows rows) c
      → HasDividedLead rows (row_combination ring rows c)) where
    abbrev RepresentsBelow : Place → Type 0
    RepresentsBelow b =
        (c : List (Term Place)) → AllByRecursion (IsForRows rows) c → IsAboveEach (place_cmp ring.weights) b
        (row_combination ring rows c) → IsRepresented ring rows b c

    represent_step : (b : Place) → ((j : Place) → IsBelow ring.weights (lead_bound rows) j b → RepresentsBelow j)
        → RepresentsBelow b
    represent_step b before c for_rows below = by_value (row_combination ring rows c) refl below (complete c for_rows)
      where
        by_value : (v : List (Term Place)) → row_combination ring rows c ≡ v → IsAboveEach (place_cmp ring.weights) b v
            → HasDividedLead rows v → IsRepresented ring rows b c
        by_value [] e less divided = record {
          steps = [];
          below = tt;
          value = row_combination-nil ring positive.modulus rows ∙ sym e;
        }
        by_value (t ∷ ts) e less divided =
            let found = row-is_divided rows t.at divided in
            one_step t found.0 found.1 found.2 b c ts e less.0
            (before t.at (less.0, subst (λ n. n < lead_bound rows) found.2.0 (lead_bound-row rows found.0 found.1)) (c ++ opposite t found.0 found.1 found.2 ∷ [])
            (AllByRecursion-append _ c _ for_rows (found.1, tt))
            (cancelled t found.0 found.1 found.2 c ts e))

    pub represented : (b : Place) (c : List (Term Place)) → AllByRecursion (IsForRows rows) c
        → IsAboveEach (place_cmp ring.weights) b (row_combination ring rows c) → IsRepresented ring rows b c
    represented b = place_induction ring.weights positive.weights (lead_bound rows) RepresentsBelow represent_step b

    -- the pairs reduce to zero
    pub ReducesToZero-complete : (i j : ℕ) → i < length rows → j < length rows → HaveLeadsAtOnePosition rows i j
        → ReducesToZero ring rows i j
    ReducesToZero-complete i j i_in j_in positions =
        let h = represented (lcm_place (lead_at rows) i j) (s_coefficients ring.modulus (lead_at rows) i j) (i_in, (j_in, tt)) (s_vector-below ring positive rows monic i j i_in j_in positions) in
        record { steps = h.steps; below = h.below; value = h.value }
