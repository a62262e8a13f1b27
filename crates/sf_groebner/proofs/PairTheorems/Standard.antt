-- The theorem behind Buchberger's criterion and Schreyer's theorem: where pairs of places with one image are settled by a
-- module S of combinations that are 0, each combination is in S, or begins at the image of some place. (Cox, Little,
-- O'Shea, "Using Algebraic Geometry", chapter 5, sections 2 and 3.)
use Rattle.std.proofs.Common.{◌≡◌, ◌⊎◌, inl, inr, ⊎_elim, ℕ, zero, suc, List, [], ◌∷◌, ◌++◌, refl, sym, ◌∙◌, ap, subst}
use Rattle.std.specs.declared.cmp.Ordering.TheVariants.{Less}
use Rattle.std.specs.Ordering.{ordering_reverse}
use mathlib.Core.WellFounded.{Acc}
use Rattle.sf_algebra.specs.MatrixOperations.{row_at, row_combination}
use Rattle.sf_algebra.specs.Rings.{Ring, Weights, IsPositive, IsRing}
use Rattle.sf_algebra.specs.Sums.{total, coefficient_at}
use Rattle.sf_algebra.specs.Terms.{Term}
use Rattle.sf_algebra.specs.VectorOperations.{row_sum}
use Rattle.sf_algebra.specs.Vectors.{Place, Vector, place_cmp}
use Rattle.sf_algebra.proofs.Basics.Lists.{AllByRecursion-weaken}
use Rattle.sf_algebra.proofs.Monomials.Orders.{ordering_cases, place_cmp_total}
use Rattle.sf_algebra.proofs.Multiplying.Keys.{place_keys}
use Rattle.sf_algebra.proofs.Terms.Normal.{EachPlace}
use Rattle.sf_algebra.proofs.Terms.SameTotals.{SameTotals, SameTotals-append, SameTotals-refl, SameTotals-sym, SameTotals-trans, SameTotals-zero, combination-SameTotals}
use Rattle.sf_algebra.proofs.Vectors.RowSums.{row_sum-nil}
use Rattle.sf_algebra.proofs.Vectors.Rows.{IsCanonical-row_combination, row_combination-append}
use Rattle.sf_groebner.specs.Criterion.{lead_multiple}
use Rattle.sf_groebner.proofs.Basics.Accessible.{IsBelow, place_acc}
use Rattle.sf_groebner.proofs.Basics.PlaceOrder.{Less-not_Greater, not_greater_itself, not_greater_less}
use Rattle.sf_groebner.proofs.PairTheorems.Gather.{IsGathered, gather}
use Rattle.sf_groebner.proofs.PairTheorems.LeadMultiples.{HasLeads, IsAllSettled, IsAtMost, IsModule, top_part}
use Rattle.sf_groebner.proofs.PairTheorems.TopCoefficients.{Begins, begins_at, coefficient_at-top, row_combination-at_most}

-- induction over the places with positions below n
pub place_induction : (weights : Weights) → IsPositive weights → (n : ℕ) (P : Place → Type 0)
    → ((k : Place) → ((j : Place) → IsBelow weights n j k → P j) → P k) → (k : Place) → P k
place_induction weights positive n P step k = down k (place_acc weights positive n k)
  where
    down : (k : Place) → Acc (IsBelow weights n) k → P k
    down k (Acc.intro l h) = step l (λ j below. down j (h j below))

-- a place of the list whose image no other's exceeds, unless the list is empty
pub greatest : (weights : Weights) (P In : Place → Type 0) (lead : ℕ → Place) (c : List (Term Place))
    → EachPlace (λ k. In k × P k) c
    → (c ≡ []) ⊎ ((r : Place) × In r × P r × EachPlace (IsAtMost weights In lead (lead_multiple lead r)) c)
greatest weights P In lead [] h = inl refl
greatest weights P In lead (t ∷ ts) h =
    ⊎_elim
    (λ (none : ts ≡ []). inr (t.at, h.0.0, h.0.1, ((h.0.0, not_greater_itself weights (lead_multiple lead t.at)), subst (EachPlace (IsAtMost weights In lead (lead_multiple lead t.at))) (sym none) tt)))
    (λ (found : (r : Place) × In r × P r × EachPlace (IsAtMost weights In lead (lead_multiple lead r)) ts).
    ordering_cases (place_cmp weights (lead_multiple lead t.at) (lead_multiple lead found.0))
    (λ less. inr (found.0, found.1, found.2, ((h.0.0, Less-not_Greater _ less), found.3)))
    (λ equal. inr (found.0, found.1, found.2, ((h.0.0, λ greater. cc), found.3)))
    (λ greater.
    let less : place_cmp weights (lead_multiple lead found.0) (lead_multiple lead t.at) ≡ Less =
    (place_cmp_total weights).antisymm (lead_multiple lead found.0) (lead_multiple lead t.at)
    ∙ ap ordering_reverse greater in
    inr (
      t.at,
      h.0.0,
      h.0.1,
      (
        (h.0.0, not_greater_itself weights (lead_multiple lead t.at)),
        AllByRecursion-weaken _ _
            (λ u k. (k.0, Less-not_Greater _ (not_greater_less weights (lead_multiple lead u.at) (lead_multiple lead found.0) (lead_multiple lead t.at) k.1 less))) ts found.3,
      ),
    )))
    (greatest weights P In lead ts h.1)

module _ (ring : Ring) (n : ℕ) (positive : IsRing ring) (In : Place → Type 0) (rows : List Vector) (lead : ℕ → Place)
    (leads : HasLeads ring.weights n In rows lead) (S : List (Term Place) → Type 0)
    (is_module : IsModule ring.modulus S) where
  -- a combination is in S, or begins at the image of a place
  abbrev pub IsStandard : List (Term Place) → Type 0
  IsStandard c = S c ⊎ ((k : Place) × In k × Begins (lead_multiple lead k) (row_combination ring rows c))

  module _ (settled : IsAllSettled ring In lead S)
      (is_zero : (s : List (Term Place)) → S s → row_combination ring rows s ≡ []) where
    -- a member of S more changes nothing
    standard-append : (c d s : List (Term Place)) → SameTotals ring.modulus c (d ++ s) → S s → IsStandard d
        → IsStandard c
    standard-append c d s same inside h =
        ⊎_elim
        (λ (member : S d). inl (is_module.has_same (d ++ s) c (SameTotals-sym ring.modulus same) (is_module.has_sums d s member inside)))
        (λ (found : (k : Place) × In k × Begins (lead_multiple lead k) (row_combination ring rows d)).
        inr (found.0, found.1, subst (Begins (lead_multiple lead found.0)) (sym value) found.2))
        h
      where
        value : row_combination ring rows c ≡ row_combination ring rows d
        value =
            combination-SameTotals (place_keys ring.weights) ring.modulus positive.modulus (λ k. k.monomial)
            (λ k. row_at rows k.position) same
            ∙ row_combination-append ring positive.modulus rows d s
            ∙ ap (row_sum ring (row_combination ring rows d)) (is_zero s inside)
            ∙ row_sum-nil ring positive.modulus (row_combination ring rows d)
            (IsCanonical-row_combination ring positive.modulus rows d)

    -- what holds of all combinations whose images are at most b
    abbrev IsStandardUpTo : Place → Type 0
    IsStandardUpTo b =
        (r : Place) → In r → lead_multiple lead r ≡ b → (c : List (Term Place)) → EachPlace
        (IsAtMost ring.weights In lead b) c → IsStandard c

    standard_step : (b : Place) → ((j : Place) → IsBelow ring.weights n j b → IsStandardUpTo j) → IsStandardUpTo b
    standard_step b before r inside e c most =
        by_coefficient (total ring.modulus (top_part ring.weights lead b) c)
        (coefficient_at-top ring n In rows lead leads b c most)
        (gather ring In lead S is_module r b settled inside e c most)
      where
        by_coefficient : (y : ℕ)
            → coefficient_at (place_cmp ring.weights) ring.modulus b (row_combination ring rows c) ≡ y
            → IsGathered ring In lead S r b c y → IsStandard c
        by_coefficient zero top gathered =
            standard-append c gathered.lower gathered.rest
            (SameTotals-trans ring.modulus gathered.same (SameTotals-append ring.modulus (SameTotals-refl ring.modulus gathered.lower) (SameTotals-zero ring.modulus r gathered.rest)))
            gathered.inside
            (⊎_elim
            (λ (none : gathered.lower ≡ []). inl (subst S (sym none) is_module.has_none))
            (λ (found : (q : Place) × In q × (place_cmp ring.weights (lead_multiple lead q) b ≡ Less) × EachPlace (IsAtMost ring.weights In lead (lead_multiple lead q)) gathered.lower).
            before (lead_multiple lead found.0)
            (found.2, leads.column found.0 found.1) found.0 found.1 refl gathered.lower found.3)
            (greatest ring.weights (λ k. place_cmp ring.weights (lead_multiple lead k) b ≡ Less) In lead gathered.lower gathered.under))
        by_coefficient (suc x) top gathered =
            inr (
              r,
              inside,
              subst (λ l. Begins l (row_combination ring rows c)) (sym e)
                  (begins_at ring b (row_combination ring rows c) x (IsCanonical-row_combination ring positive.modulus rows c) (row_combination-at_most ring n In rows lead leads b c most) top),
            )

    pub standard : (c : List (Term Place)) → EachPlace In c → IsStandard c
    standard c h =
        ⊎_elim
        (λ (none : c ≡ []). inl (subst S (sym none) is_module.has_none))
        (λ (found : (r : Place) × In r × Unit {0} × EachPlace (IsAtMost ring.weights In lead (lead_multiple lead r)) c).
        place_induction ring.weights positive.weights n IsStandardUpTo standard_step
        (lead_multiple lead found.0) found.0 found.1 refl c found.3)
        (greatest ring.weights (λ _. Unit {0}) In lead c (AllByRecursion-weaken _ _ (λ t k. (k, tt)) c h))
