-- The coefficient of a combination at the greatest image of its places: the sum of the coefficients that have that image.
use Rattle.std.proofs.Common.{◌≡◌, ◌≢◌, ℕ, suc, ◌%◌, List, [], ◌∷◌, if◌then◌else◌, Bool, true, false, map, refl, sym, ◌∙◌, ap, subst}
use Rattle.std.proofs.Math.Nat.{zero-mod}
use Rattle.std.specs.declared.cmp.Ordering.TheVariants.{Greater}
use Rattle.std.specs.Ordering.{is_eq}
use Rattle.sf_algebra.specs.MatrixOperations.{row_at, row_combination}
use Rattle.sf_algebra.specs.Multiples.{place_product, term_product, combination_terms, combination}
use Rattle.sf_algebra.specs.Residues.{sum_mod, product_mod}
use Rattle.sf_algebra.specs.Rings.{Ring}
use Rattle.sf_algebra.specs.Sums.{total, part_at, coefficient_at}
use Rattle.sf_algebra.specs.Terms.{Term}
use Rattle.sf_algebra.specs.Vectors.{Place, Vector, place_cmp, IsCanonicalRow}
use Rattle.sf_algebra.proofs.Arithmetic.Residues.{product_mod-one, sum_mod-first, sum_mod-zero}
use Rattle.sf_algebra.proofs.Basics.Lists.{AllByRecursion-append, AllByRecursion-weaken}
use Rattle.sf_algebra.proofs.Monomials.Orders.{ordering_cases, place_cmp-Equal, place_cmp_total}
use Rattle.sf_algebra.proofs.Monomials.Places.{place_cmp-place_product}
use Rattle.sf_algebra.proofs.Multiplying.Combinations.{coefficient_at-combination, factor, share}
use Rattle.sf_algebra.proofs.Multiplying.Keys.{place_keys}
use Rattle.sf_algebra.proofs.Terms.Coefficients.{coefficient_at-above}
use Rattle.sf_algebra.proofs.Terms.DoubleTotals.{total-each, total-zero}
use Rattle.sf_algebra.proofs.Terms.Normal.{EachPlace, EachPlace-normal}
use Rattle.sf_algebra.proofs.Terms.Totals.{total-cons, total-nil, total-reduced}
use Rattle.sf_groebner.specs.Criterion.{lead_multiple}
use Rattle.sf_groebner.proofs.Basics.PlaceOrder.{Less-not_Greater, less_not_greater}
use Rattle.sf_groebner.proofs.PairTheorems.LeadMultiples.{HasLeads, IsAtMost, top_part}

-- a list begins at b, with some coefficient
pub record Begins (b : Place) (v : List (Term Place)) : Type 0 where
  pub coefficient : ℕ
  pub tail : List (Term Place)
  pub shape : v ≡ record { at = b; coefficient = coefficient } ∷ tail

-- a canonical list no place of which is greater than b, and which has a coefficient at b, begins there
pub begins_at : (ring : Ring) (b : Place) (v : List (Term Place)) (x : ℕ) → IsCanonicalRow ring v
    → EachPlace (λ k. place_cmp ring.weights k b ≢ Greater) v
    → coefficient_at (place_cmp ring.weights) ring.modulus b v ≡ suc x → Begins b v
begins_at ring b [] x canonical most some =
    let none = total-nil ring.modulus (part_at (place_cmp ring.weights) b) in absurd (no_suc x (sym none ∙ some))
  where
    no_suc : (n : ℕ) → 0 ≢ suc n
    no_suc n e = cc
begins_at ring b (t ∷ ts) x canonical most some =
    ordering_cases (place_cmp ring.weights t.at b)
    (λ less.
    absurd (no_suc x
    (sym (coefficient_at-above (place_cmp ring.weights) ring.modulus b (t ∷ ts) (less, AllByRecursion-weaken _ _ (λ u h. (place_cmp_total ring.weights).trans u.at t.at b h less) ts canonical.descending.0)) ∙ some)))
    (λ equal. record { coefficient = t.coefficient; tail = ts; shape = λ i. record { at = place_cmp-Equal ring.weights t.at b equal i; coefficient = t.coefficient } ∷ ts })
    (λ greater. absurd (most.0 greater))
  where
    no_suc : (n : ℕ) → 0 ≢ suc n
    no_suc n e = cc

-- a fact of each product of a coefficient with a place of its row is one of each place of the combination
pub EachPlace-row_combination : (P : Place → Type 0) (ring : Ring) (rows : List Vector) (c : List (Term Place))
    → EachPlace (λ k. EachPlace (λ l. P (place_product k.monomial l)) (row_at rows k.position)) c
    → EachPlace P (row_combination ring rows c)
unfolding combination combination_terms
EachPlace-row_combination P ring rows c h = EachPlace-normal P (place_cmp ring.weights) ring.modulus _ (each c h)
  where
    products : (t : Term Place) (us : List (Term Place)) → EachPlace (λ l. P (place_product t.at.monomial l)) us
        → EachPlace P (map (term_product place_product ring.modulus
        (record { at = t.at.monomial; coefficient = t.coefficient })) us)
    products t [] h = tt
    products t (u ∷ us) h = (h.0, products t us h.1)

    each : (c : List (Term Place))
        → EachPlace (λ k. EachPlace (λ l. P (place_product k.monomial l)) (row_at rows k.position)) c
        → EachPlace P (combination_terms place_product ring.modulus (λ (k : Place). k.monomial)
        (λ (k : Place). row_at rows k.position) c)
    each [] h = tt
    each (t ∷ c) h = AllByRecursion-append _ _ _ (products t (row_at rows t.at.position) h.0) (each c h.1)

module _ (ring : Ring) (n : ℕ) (In : Place → Type 0) (rows : List Vector) (lead : ℕ → Place)
    (leads : HasLeads ring.weights n In rows lead) (b : Place) where
  -- no place of a combination is greater than the greatest image
  pub row_combination-at_most : (c : List (Term Place)) → EachPlace (IsAtMost ring.weights In lead b) c
      → EachPlace (λ k. place_cmp ring.weights k b ≢ Greater) (row_combination ring rows c)
  row_combination-at_most c h =
      EachPlace-row_combination _ ring rows c
      (AllByRecursion-weaken _ _
      (λ t k.
      subst (EachPlace (λ l. place_cmp ring.weights (place_product t.at.monomial l) b ≢ Greater))
      (sym (leads.shape t.at k.0))
      (k.1, AllByRecursion-weaken _ _ (λ u less greater. Less-not_Greater _ (less_not_greater ring.weights _ _ b (place_cmp-place_product ring.weights t.at.monomial u.at (lead t.at.position) ∙ less) k.1) greater) (leads.tail t.at.position) (leads.low t.at k.0)))
      c h)

  share-top : (t : Term Place) → IsAtMost ring.weights In lead b t.at
      → share place_product ring.modulus (λ k. k.monomial) (λ k. row_at rows k.position)
      (part_at (place_cmp ring.weights) b) t % ring.modulus ≡ top_part ring.weights lead b t % ring.modulus
  share-top t h =
      let g =
      λ (u : Term Place). part_at (place_cmp ring.weights) b
      (term_product place_product ring.modulus (factor (λ k. k.monomial) t) u) in
      ap (λ us. total ring.modulus g us % ring.modulus) (leads.shape t.at h.0)
      ∙ total-reduced ring.modulus g _
      ∙ total-cons ring.modulus g _ (leads.tail t.at.position)
      ∙ ap (sum_mod ring.modulus (g (record { at = lead t.at.position; coefficient = 1 }))) none
      ∙ sum_mod-zero ring.modulus _
      ∙ chosen (is_eq (place_cmp ring.weights (lead_multiple lead t.at) b))
    where
      chosen : (e : Bool) → (if e then product_mod ring.modulus t.coefficient 1 else 0) % ring.modulus
          ≡ (if e then t.coefficient else 0) % ring.modulus
      chosen true =
          sym (sum_mod-zero ring.modulus _)
          ∙ ap (λ n. sum_mod ring.modulus n 0) (product_mod-one ring.modulus t.coefficient)
          ∙ sum_mod-first ring.modulus t.coefficient 0 ∙ sum_mod-zero ring.modulus t.coefficient
      chosen false = refl

      none : total ring.modulus
          (λ (u : Term Place). part_at (place_cmp ring.weights) b
          (term_product place_product ring.modulus (factor (λ k. k.monomial) t) u)) (leads.tail t.at.position) ≡ 0
      none =
          total-each ring.modulus _ (λ u. 0) (leads.tail t.at.position)
          (AllByRecursion-weaken _ _ (λ u less. ap (λ o. (if is_eq o then product_mod ring.modulus t.coefficient u.coefficient else 0) % ring.modulus)
          (less_not_greater ring.weights _ _ b (place_cmp-place_product ring.weights t.at.monomial u.at (lead t.at.position) ∙ less) h.1)) (leads.tail t.at.position) (leads.low t.at h.0))
          ∙ total-zero ring.modulus (λ u. 0) (leads.tail t.at.position) (λ u. zero-mod ring.modulus)

  pub coefficient_at-top : (c : List (Term Place)) → EachPlace (IsAtMost ring.weights In lead b) c
      → coefficient_at (place_cmp ring.weights) ring.modulus b (row_combination ring rows c)
      ≡ total ring.modulus (top_part ring.weights lead b) c
  coefficient_at-top c h =
      coefficient_at-combination (place_keys ring.weights) ring.modulus (λ k. k.monomial)
      (λ k. row_at rows k.position) b c
      ∙ total-each ring.modulus _ (top_part ring.weights lead b) c (AllByRecursion-weaken _ _ share-top c h)
