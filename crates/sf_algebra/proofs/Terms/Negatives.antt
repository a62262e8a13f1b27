-- Negatives of canonical lists.
use Rattle.std.proofs.Common.{◌≡◌, ℕ, zero, suc, ◌-◌, ◌%◌, ◌<◌, List, [], ◌∷◌, refl, sym, ◌∙◌, ap, arith}
use Rattle.std.proofs.Math.Nat.{mod-eq_of_lt, zero-mod}
use Rattle.std.specs.declared.cmp.Ordering.{Ordering}
use Rattle.std.specs.List.{AllByRecursion}
use Rattle.sf_algebra.specs.Monomials.{Monomial, one}
use Rattle.sf_algebra.specs.Multiples.{negative_term, negative, term_product, multiple}
use Rattle.sf_algebra.specs.Residues.{sum_mod, product_mod, negative_mod}
use Rattle.sf_algebra.specs.Sums.{add, total}
use Rattle.sf_algebra.specs.Terms.{Term, IsDescending, IsNonzeroResidue, IsCanonical}
use Rattle.sf_algebra.proofs.Arithmetic.Residues.{negative_mod-below, negative_mod-positive, negative_mod-zero, product_mod-comm, product_mod-one, product_mod-reduced, product_mod-sum, product_mod-zero, sum_mod-cancel, sum_mod-exchange, sum_mod-first, sum_mod-negative, sum_mod-zero}
use Rattle.sf_algebra.proofs.Basics.Lists.{AllByRecursion-weaken}
use Rattle.sf_algebra.proofs.Multiplying.Keys.{Keys}
use Rattle.sf_algebra.proofs.Multiplying.MultipleLaws.{multiple-add, multiple-exchange, multiple-same}
use Rattle.sf_algebra.proofs.Multiplying.Multiples.{IsCanonical-multiple}
use Rattle.sf_algebra.proofs.Terms.Coefficients.{same_from_total}
use Rattle.sf_algebra.proofs.Terms.DoubleTotals.{total-each, total-map}
use Rattle.sf_algebra.proofs.Terms.Normal.{EachPlace, IsCanonical-add}
use Rattle.sf_algebra.proofs.Terms.Totals.{IsAdditive, total-add, total-cons, total-nil}

-- the negative of 1 is a factor that makes negatives
pub product_mod-negative_one : (p a : ℕ) → 0 < p → a < p → product_mod p (negative_mod p 1) a ≡ negative_mod p a
product_mod-negative_one p zero positive below =
    product_mod-zero p (negative_mod p 1) ∙ sym (negative_mod-zero p 0 refl)
product_mod-negative_one p (suc a) positive below =
    product_mod-comm p (negative_mod p 1) (suc a)
    ∙ sym (product_mod-reduced p (suc a) (negative_mod p 1))
    ∙ sum_mod-cancel p (suc a) _ _ positive (cancels ∙ sym (sum_mod-negative p (suc a) below))
    ∙ mod-eq_of_lt (negative_mod-below p (suc a) positive)
  where
    cancels : sum_mod p (suc a) (product_mod p (suc a) (negative_mod p 1)) ≡ 0
    cancels =
        sym (sum_mod-first p (suc a) _)
        ∙ ap (λ n. sum_mod p n (product_mod p (suc a) (negative_mod p 1))) (sym (product_mod-one p (suc a)))
        ∙ sym (product_mod-sum p (suc a) 1 (negative_mod p 1))
        ∙ ap (product_mod p (suc a)) (sum_mod-negative p 1 (omega arith))
        ∙ product_mod-zero p (suc a)

pub negative_mod-negative : (p a : ℕ) → 0 < a → a < p → negative_mod p (negative_mod p a) ≡ a
negative_mod-negative p a positive below =
    ap (negative_mod p) (negative_mod-positive p a positive below)
    ∙ negative_mod-positive p (p - a) (omega arith) (omega arith)
    ∙ omega arith

pub EachPlace-negative : {K : Type 0} (P : K → Type 0) (p : ℕ) (us : List (Term K)) → EachPlace P us
    → EachPlace P (negative p us)
EachPlace-negative P p [] h = tt
EachPlace-negative P p (u ∷ us) h = (h.0, EachPlace-negative P p us h.1)

module _ {K : Type 0} (cmp : K → K → Ordering) (p : ℕ) where
  IsDescending-negative : (us : List (Term K)) → IsDescending cmp us → IsDescending cmp (negative p us)
  IsDescending-negative [] h = tt
  IsDescending-negative (u ∷ us) h = (EachPlace-negative _ p us h.0, IsDescending-negative us h.1)

  residues-negative : (us : List (Term K)) → AllByRecursion (IsNonzeroResidue p) us
      → AllByRecursion (IsNonzeroResidue p) (negative p us)
  residues-negative [] h = tt
  residues-negative (u ∷ us) h =
      let value : negative_mod p u.coefficient ≡ p - u.coefficient =
      negative_mod-positive p u.coefficient h.0.0 h.0.1 in
      ((omega arith, omega arith), residues-negative us h.1)

  pub IsCanonical-negative : (us : List (Term K)) → IsCanonical cmp p us → IsCanonical cmp p (negative p us)
  IsCanonical-negative us h = record {
    descending = IsDescending-negative us h.descending;
    residues = residues-negative us h.residues;
  }

  -- the negative of the negative of a canonical list is the list
  pub negative-negative : (us : List (Term K)) → AllByRecursion (IsNonzeroResidue p) us
      → negative p (negative p us) ≡ us
  negative-negative [] h = refl
  negative-negative (u ∷ us) h = λ i. record { at = u.at; coefficient = negative_mod-negative p u.coefficient h.0.0 h.0.1 i } ∷ negative-negative us h.1 i

  -- over a canonical list and its negative, totals cancel
  pub total-negative : (g : Term K → ℕ) → IsAdditive p g → (us : List (Term K)) → AllByRecursion (IsNonzeroResidue p) us
      → sum_mod p (total p g us) (total p g (negative p us)) ≡ 0
  total-negative g additive [] h = (λ i. sum_mod p (total-nil p g i) (total-nil p g i)) ∙ sum_mod-zero p 0 ∙ zero-mod p
  total-negative g additive (u ∷ us) h =
      (λ i. sum_mod p (total-cons p g u us i) (total-cons p g (negative_term p u) (negative p us) i))
      ∙ sum_mod-exchange p (g u) (total p g us) (g (negative_term p u)) (total p g (negative p us))
      ∙ (λ i. sum_mod p (cancels i) (total-negative g additive us h.1 i))
      ∙ sum_mod-zero p 0
      ∙ zero-mod p
    where
      cancels : sum_mod p (g u) (g (negative_term p u)) ≡ 0
      cancels =
          sym (additive.at_sum u.at u.coefficient (negative_mod p u.coefficient))
          ∙ ap (λ n. g (record { at = u.at; coefficient = n }) % p) (sum_mod-negative p u.coefficient h.0.1)
          ∙ additive.at_zero u.at

-- the term -1
abbrev pub negative_one_term : ℕ → Term Monomial
negative_one_term p = record { at = one; coefficient = negative_mod p 1 }

module _ {K : Type 0} (keys : Keys K) (p : ℕ) (positive : 0 < p) where
  pub add-negative : (us : List (Term K)) → IsCanonical keys.cmp p us → add keys.cmp p us (negative p us) ≡ []
  add-negative us h =
      same_from_total keys.cmp keys.order p positive _ []
      (IsCanonical-add keys.cmp keys.order p positive us (negative p us)) (record { descending = tt; residues = tt })
      (λ g additive.
      total-add keys.cmp keys.order p g additive us (negative p us)
      ∙ total-negative keys.cmp p g additive us h.residues
      ∙ sym (total-nil p g))

  -- the negative is the multiple by -1
  pub multiple-negative_one : (us : List (Term K)) → IsCanonical keys.cmp p us
      → multiple keys.cmp keys.act p (negative_one_term p) us ≡ negative p us
  multiple-negative_one us h =
      multiple-same keys p positive (negative_one_term p) us (negative p us) (IsCanonical-negative keys.cmp p us h)
      (λ g additive.
      total-each p _ _ us (AllByRecursion-weaken _ _ (λ u residue. ap (λ t. g t % p) (negates u residue.1)) us h.residues)
      ∙ sym (total-map p g (negative_term p) us))
    where
      negates : (u : Term K) → u.coefficient < p → term_product keys.act p (negative_one_term p) u ≡ negative_term p u
      negates u below = λ i. record { at = keys.act_one u.at i; coefficient = product_mod-negative_one p u.coefficient positive below i }

  pub negative-add : (us vs : List (Term K)) → IsCanonical keys.cmp p us → IsCanonical keys.cmp p vs
      → negative p (add keys.cmp p us vs) ≡ add keys.cmp p (negative p us) (negative p vs)
  negative-add us vs h k =
      sym (multiple-negative_one (add keys.cmp p us vs) (IsCanonical-add keys.cmp keys.order p positive us vs))
      ∙ multiple-add keys p positive (negative_one_term p) us vs
      ∙ (λ i. add keys.cmp p (multiple-negative_one us h i) (multiple-negative_one vs k i))

  pub multiple-negative : (s : Term Monomial) (us : List (Term K)) → IsCanonical keys.cmp p us
      → multiple keys.cmp keys.act p s (negative p us) ≡ negative p (multiple keys.cmp keys.act p s us)
  multiple-negative s us h =
      ap (multiple keys.cmp keys.act p s) (sym (multiple-negative_one us h))
      ∙ multiple-exchange keys p positive s (negative_one_term p) us
      ∙ multiple-negative_one (multiple keys.cmp keys.act p s us) (IsCanonical-multiple keys p positive s us)
