-- Coefficients of canonical lists: at the lead, at a term, and of sums with a multiple by a constant.
use Rattle.std.proofs.Common.{◌≡◌, inl, inr, ℕ, ◌%◌, ◌<◌, if◌then◌else◌, Bool, true, false, List, [], ◌∷◌, sym, ◌∙◌, ap, subst}
use Rattle.std.proofs.Math.Nat.{mod-lt, zero-mod}
use Rattle.std.specs.declared.cmp.Ordering.TheVariants.{Less, Greater}
use Rattle.std.specs.Ordering.{is_eq, ordering_reverse}
use Rattle.sf_algebra.specs.Multiples.{place_product, term_product}
use Rattle.sf_algebra.specs.Residues.{sum_mod, product_mod}
use Rattle.sf_algebra.specs.Rings.{Ring}
use Rattle.sf_algebra.specs.Sums.{coefficient_at, part_at, total}
use Rattle.sf_algebra.specs.Terms.{Term}
use Rattle.sf_algebra.specs.VectorOperations.{row_multiple, row_sum}
use Rattle.sf_algebra.specs.Vectors.{Place, place_cmp, IsCanonicalRow}
use Rattle.sf_algebra.proofs.Arithmetic.Residues.{product_mod-reduced, product_mod-sum, product_mod-zero, sum_mod-first, sum_mod-zero_first}
use Rattle.sf_algebra.proofs.Monomials.Orders.{place_cmp_linear, place_cmp_total}
use Rattle.sf_algebra.proofs.Monomials.Places.{place_product-one}
use Rattle.sf_algebra.proofs.Multiplying.Keys.{place_keys}
use Rattle.sf_algebra.proofs.Multiplying.Multiples.{coefficient_at-multiple}
use Rattle.sf_algebra.proofs.Terms.Coefficients.{IsCanonical-tail, coefficient_at-above, coefficient_at-head}
use Rattle.sf_algebra.proofs.Terms.GroupLaws.{coefficient_at-add}
use Rattle.sf_algebra.proofs.Terms.Normal.{IsAboveEach-trans}
use Rattle.sf_algebra.proofs.Terms.Totals.{total-cons, total-nil, total-reduced}
use Rattle.sf_groebner.proofs.Basics.Items.{AllByRecursion-item, IsItem}
use Rattle.sf_groebner.proofs.PairTheorems.Multiplied.{constant_term}

-- the coefficient of a row at a place
abbrev pub coefficient : Ring → List (Term Place) → Place → ℕ
coefficient ring ts k = coefficient_at (place_cmp ring.weights) ring.modulus k ts

module _ (ring : Ring) where
  pub coefficient-below : 0 < ring.modulus → (ts : List (Term Place)) (k : Place) → coefficient ring ts k < ring.modulus
  unfolding total
  coefficient-below positive ts k = mod-lt _ positive

  -- above the lead there is none
  pub coefficient-above : (t : Term Place) (ts : List (Term Place)) → IsCanonicalRow ring (t ∷ ts) → (k : Place)
      → place_cmp ring.weights t.at k ≡ Less → coefficient ring (t ∷ ts) k ≡ 0
  coefficient-above t ts h k less =
      coefficient_at-above (place_cmp ring.weights) ring.modulus k (t ∷ ts)
      (less, IsAboveEach-trans (place_cmp ring.weights) (place_cmp_linear ring.weights) k t.at ts less h.descending.0)

  -- a multiple by a constant has the multiples of the coefficients
  part-constant : (x : ℕ) (k : Place) (t : Term Place)
      → part_at (place_cmp ring.weights) k (term_product place_product ring.modulus (constant_term x) t) % ring.modulus
      ≡ product_mod ring.modulus x (part_at (place_cmp ring.weights) k t)
  part-constant x k t =
      ap (λ l. (if is_eq (place_cmp ring.weights l k) then product_mod ring.modulus x t.coefficient else 0) % ring.modulus) (place_product-one t.at)
      ∙ chosen (is_eq (place_cmp ring.weights t.at k))
    where
      chosen : (b : Bool)
          → (if b then product_mod ring.modulus x t.coefficient else 0) % ring.modulus
          ≡ product_mod ring.modulus x (if b then t.coefficient else 0)
      chosen true = product_mod-reduced ring.modulus x t.coefficient
      chosen false = zero-mod ring.modulus ∙ sym (product_mod-zero ring.modulus x)

  total-constant : (x : ℕ) (k : Place) (ts : List (Term Place))
      → total ring.modulus (λ t. part_at (place_cmp ring.weights) k (term_product place_product ring.modulus (constant_term x) t)) ts
      ≡ product_mod ring.modulus x (coefficient ring ts k)
  total-constant x k [] =
      total-nil ring.modulus (λ t. part_at (place_cmp ring.weights) k (term_product place_product ring.modulus (constant_term x) t))
      ∙ sym (ap (product_mod ring.modulus x) (total-nil ring.modulus (part_at (place_cmp ring.weights) k)) ∙ product_mod-zero ring.modulus x)
  total-constant x k (t ∷ ts) =
      total-cons ring.modulus (λ t. part_at (place_cmp ring.weights) k (term_product place_product ring.modulus (constant_term x) t)) t ts
      ∙ sym (sum_mod-first ring.modulus _ _)
      ∙ (λ i. sum_mod ring.modulus (part-constant x k t i) (total-constant x k ts i))
      ∙ sym (product_mod-sum ring.modulus x (part_at (place_cmp ring.weights) k t) (coefficient ring ts k))
      ∙ ap (product_mod ring.modulus x) (sym (total-cons ring.modulus (part_at (place_cmp ring.weights) k) t ts))

  pub coefficient-constant : (x : ℕ) (ts : List (Term Place)) (k : Place)
      → coefficient ring (row_multiple ring (constant_term x) ts) k ≡ product_mod ring.modulus x (coefficient ring ts k)
  coefficient-constant x ts k =
      coefficient_at-multiple (place_keys ring.weights) ring.modulus k (constant_term x) ts ∙ total-constant x k ts

  pub coefficient-sum : (us vs : List (Term Place)) (k : Place)
      → coefficient ring (row_sum ring us vs) k
      ≡ sum_mod ring.modulus (coefficient ring us k) (coefficient ring vs k)
  coefficient-sum us vs k = coefficient_at-add (place_keys ring.weights) ring.modulus k us vs

  -- a term of a canonical list has the coefficient at its place
  pub coefficient-item : (ts : List (Term Place)) → IsCanonicalRow ring ts → (t : Term Place) → IsItem t ts
      → coefficient ring ts t.at ≡ t.coefficient
  coefficient-item [] h t item = absurd item
  coefficient-item (u ∷ us) h t (inl same) =
      subst (λ (s : Term Place). coefficient ring (u ∷ us) s.at ≡ s.coefficient) (sym same)
      (coefficient_at-head (place_cmp ring.weights) (place_cmp_linear ring.weights) ring.modulus u us h)
  coefficient-item (u ∷ us) h t (inr item) =
      let less : place_cmp ring.weights t.at u.at ≡ Less =
      AllByRecursion-item (λ (s : Term Place). place_cmp ring.weights s.at u.at ≡ Less) us t h.descending.0 item in
      let greater : place_cmp ring.weights u.at t.at ≡ Greater =
      (place_cmp_total ring.weights).antisymm u.at t.at ∙ ap ordering_reverse less in
      total-cons ring.modulus (part_at (place_cmp ring.weights) t.at) u us
      ∙ (λ i. sum_mod ring.modulus (if is_eq (greater i) then u.coefficient else 0) (coefficient ring us t.at))
      ∙ sum_mod-zero_first ring.modulus (coefficient ring us t.at)
      ∙ total-reduced ring.modulus (part_at (place_cmp ring.weights) t.at) us
      ∙ coefficient-item us (IsCanonical-tail (place_cmp ring.weights) ring.modulus u us h) t item
