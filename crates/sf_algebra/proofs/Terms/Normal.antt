-- The canonical list that a list of terms means is canonical, and it keeps what holds of each place.
use Rattle.std.proofs.Common.{◌≡◌, ℕ, zero, suc, ◌%◌, ◌<◌, List, [], ◌∷◌, ◌++◌, sym, ◌∙◌, ap, subst, arith}
use Rattle.std.proofs.Math.Nat.{mod-lt}
use Rattle.std.specs.declared.cmp.Ordering.{Ordering}
use Rattle.std.specs.declared.cmp.Ordering.TheVariants.{Less}
use Rattle.std.specs.List.{AllByRecursion}
use Rattle.std.specs.Ordering.{ordering_reverse}
use Rattle.sf_algebra.specs.Orders.{IsLinearOrder}
use Rattle.sf_algebra.specs.Residues.{sum_mod}
use Rattle.sf_algebra.specs.Sums.{put, insert, normal, add}
use Rattle.sf_algebra.specs.Terms.{Term, IsDescending, IsNonzeroResidue, IsCanonical}
use Rattle.sf_algebra.proofs.Arithmetic.Residues.{sum_mod-below}
use Rattle.sf_algebra.proofs.Basics.Lists.{AllByRecursion-append, AllByRecursion-weaken}
use Rattle.sf_algebra.proofs.Monomials.Orders.{match_ordering_cases}

-- a fact of each place at which a term of a list stands
abbrev pub EachPlace : {K : Type 0} → (K → Type 0) → List (Term K) → Type 0
EachPlace P ts = AllByRecursion (λ t. P t.at) ts

module _ {K : Type 0} (P : K → Type 0) where
  pub EachPlace-put : (k : K) (c : ℕ) (us : List (Term K)) → P k → EachPlace P us → EachPlace P (put k c us)
  EachPlace-put k zero us h each = each
  EachPlace-put k (suc c) us h each = (h, each)

  pub EachPlace-insert : (cmp : K → K → Ordering) (p : ℕ) (t : Term K) (us : List (Term K)) → P t.at → EachPlace P us
      → EachPlace P (insert cmp p t us)
  unfolding insert
  EachPlace-insert cmp p t [] h each = EachPlace-put t.at (t.coefficient % p) [] h each
  EachPlace-insert cmp p t (u ∷ us) h each =
      match_ordering_cases (cmp t.at u.at) _ _ _ (EachPlace P)
      (λ less. (each.0, EachPlace-insert cmp p t us h each.1))
      (λ equal. EachPlace-put t.at (sum_mod p t.coefficient u.coefficient) us h each.1)
      (λ greater. EachPlace-put t.at (t.coefficient % p) (u ∷ us) h each)

  pub EachPlace-normal : (cmp : K → K → Ordering) (p : ℕ) (ts : List (Term K)) → EachPlace P ts
      → EachPlace P (normal cmp p ts)
  unfolding normal
  EachPlace-normal cmp p [] each = each
  EachPlace-normal cmp p (t ∷ ts) each =
      EachPlace-insert cmp p t (normal cmp p ts) each.0 (EachPlace-normal cmp p ts each.1)

  pub EachPlace-add : (cmp : K → K → Ordering) (p : ℕ) (us vs : List (Term K)) → EachPlace P us → EachPlace P vs
      → EachPlace P (add cmp p us vs)
  unfolding add
  EachPlace-add cmp p us vs h k = EachPlace-normal cmp p (us ++ vs) (AllByRecursion-append _ us vs h k)

-- each place at which a term of a list stands is less than k
abbrev pub IsAboveEach : {K : Type 0} → (K → K → Ordering) → K → List (Term K) → Type 0
IsAboveEach cmp k us = EachPlace (λ l. cmp l k ≡ Less) us

pub IsDescending-put : {K : Type 0} (cmp : K → K → Ordering) (k : K) (c : ℕ) (us : List (Term K)) → IsAboveEach cmp k us
    → IsDescending cmp us → IsDescending cmp (put k c us)
IsDescending-put cmp k zero us above descending = descending
IsDescending-put cmp k (suc c) us above descending = (above, descending)

module _ {K : Type 0} (cmp : K → K → Ordering) (order : IsLinearOrder cmp) where
  pub IsAboveEach-trans : (k l : K) (us : List (Term K)) → cmp l k ≡ Less → IsAboveEach cmp l us → IsAboveEach cmp k us
  IsAboveEach-trans k l us less each = AllByRecursion-weaken _ _ (λ u h. order.total.trans u.at l k h less) us each

  pub IsDescending-insert : (p : ℕ) (t : Term K) (us : List (Term K)) → IsDescending cmp us
      → IsDescending cmp (insert cmp p t us)
  unfolding insert
  IsDescending-insert p t [] descending = IsDescending-put cmp t.at (t.coefficient % p) [] tt tt
  IsDescending-insert p t (u ∷ us) descending =
      match_ordering_cases (cmp t.at u.at) _ _ _ (IsDescending cmp)
      (λ less. (EachPlace-insert (λ l. cmp l u.at ≡ Less) cmp p t us less descending.0, IsDescending-insert p t us descending.1))
      (λ equal. IsDescending-put cmp t.at (sum_mod p t.coefficient u.coefficient) us (subst (λ k. IsAboveEach cmp k us) (sym (order.apart t.at u.at equal)) descending.0) descending.1)
      (λ greater.
      let less : cmp u.at t.at ≡ Less = order.total.antisymm u.at t.at ∙ ap ordering_reverse greater in
      IsDescending-put cmp t.at (t.coefficient % p) (u ∷ us)
      (less, IsAboveEach-trans t.at u.at us less descending.0) descending)

  pub IsDescending-normal : (p : ℕ) (ts : List (Term K)) → IsDescending cmp (normal cmp p ts)
  unfolding normal
  IsDescending-normal p [] = tt
  IsDescending-normal p (t ∷ ts) = IsDescending-insert p t (normal cmp p ts) (IsDescending-normal p ts)

pub residues-put : {K : Type 0} (p : ℕ) (k : K) (c : ℕ) (us : List (Term K)) → c < p
    → AllByRecursion (IsNonzeroResidue p) us → AllByRecursion (IsNonzeroResidue p) (put k c us)
residues-put p k zero us below each = each
residues-put p k (suc c) us below each = ((omega arith, below), each)

module _ {K : Type 0} (cmp : K → K → Ordering) (p : ℕ) (positive : 0 < p) where
  pub residues-insert : (t : Term K) (us : List (Term K)) → AllByRecursion (IsNonzeroResidue p) us
      → AllByRecursion (IsNonzeroResidue p) (insert cmp p t us)
  unfolding insert
  residues-insert t [] each = residues-put p t.at (t.coefficient % p) [] (mod-lt t.coefficient positive) each
  residues-insert t (u ∷ us) each =
      match_ordering_cases (cmp t.at u.at) _ _ _ (AllByRecursion (IsNonzeroResidue p))
      (λ less. (each.0, residues-insert t us each.1))
      (λ equal. residues-put p t.at (sum_mod p t.coefficient u.coefficient) us (sum_mod-below p t.coefficient u.coefficient positive) each.1)
      (λ greater. residues-put p t.at (t.coefficient % p) (u ∷ us) (mod-lt t.coefficient positive) each)

  pub residues-normal : (ts : List (Term K)) → AllByRecursion (IsNonzeroResidue p) (normal cmp p ts)
  unfolding normal
  residues-normal [] = tt
  residues-normal (t ∷ ts) = residues-insert t (normal cmp p ts) (residues-normal ts)

module _ {K : Type 0} (cmp : K → K → Ordering) (order : IsLinearOrder cmp) (p : ℕ) (positive : 0 < p) where
  pub IsCanonical-normal : (ts : List (Term K)) → IsCanonical cmp p (normal cmp p ts)
  IsCanonical-normal ts = record {
    descending = IsDescending-normal cmp order p ts;
    residues = residues-normal cmp p positive ts;
  }

  pub IsCanonical-add : (us vs : List (Term K)) → IsCanonical cmp p (add cmp p us vs)
  unfolding add
  IsCanonical-add us vs = IsCanonical-normal (us ++ vs)
