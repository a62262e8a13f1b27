-- Descending lists of terms, when lists are joined or taken apart.
use Rattle.std.proofs.Common.{◌≡◌, ℕ, zero, suc, List, [], ◌∷◌, ◌++◌, Some, take}
use Rattle.std.specs.declared.cmp.Ordering.{Ordering}
use Rattle.std.specs.declared.cmp.Ordering.TheVariants.{Less}
use Rattle.std.specs.Cmp.{IsTotalOrder}
use Rattle.std.specs.List.{AllByRecursion, slice_get}
use Rattle.sf_algebra.specs.Terms.{Term, IsDescending}
use Rattle.sf_algebra.proofs.Basics.Lists.{AllByRecursion-append, AllByRecursion-front, AllByRecursion-back, AllByRecursion-weaken, AllByRecursion-get}

-- each term of a list is greater than what stands at k
abbrev pub IsBelowEach : {K : Type 0} → (K → K → Ordering) → K → List (Term K) → Type 0
IsBelowEach cmp k ts = AllByRecursion (λ u. cmp k u.at ≡ Less) ts

module _ {K : Type 0} (cmp : K → K → Ordering) where
  -- a last term that is less than all before it
  pub IsDescending-push : (ts : List (Term K)) (t : Term K) → IsDescending cmp ts → IsBelowEach cmp t.at ts
      → IsDescending cmp (ts ++ t ∷ [])
  IsDescending-push [] t h b = (tt, tt)
  IsDescending-push (u ∷ us) t h b = (AllByRecursion-append _ us (t ∷ []) h.0 (b.0, tt), IsDescending-push us t h.1 b.1)

  pub IsDescending-front : (ts us : List (Term K)) → IsDescending cmp (ts ++ us) → IsDescending cmp ts
  IsDescending-front [] us h = tt
  IsDescending-front (t ∷ ts) us h = (AllByRecursion-front _ ts us h.0, IsDescending-front ts us h.1)

  pub IsDescending-back : (ts us : List (Term K)) → IsDescending cmp (ts ++ us) → IsDescending cmp us
  IsDescending-back [] us h = h
  IsDescending-back (t ∷ ts) us h = IsDescending-back ts us h.1

  -- a term of a descending list is less than all before it
  pub IsBelowEach-before : (ts : List (Term K)) (t : Term K) (us : List (Term K)) → IsDescending cmp (ts ++ t ∷ us)
      → IsBelowEach cmp t.at ts
  IsBelowEach-before [] t us h = tt
  IsBelowEach-before (s ∷ ts) t us h = ((AllByRecursion-back _ ts (t ∷ us) h.0).0, IsBelowEach-before ts t us h.1)

  -- the same by the term's place
  pub IsBelowEach-take : (ts : List (Term K)) (k : ℕ) (t : Term K) → IsDescending cmp ts → slice_get ts k ≡ Some t
      → IsBelowEach cmp t.at (take k ts)
  IsBelowEach-take [] k t h e = cc
  IsBelowEach-take (s ∷ ts) zero t h e = tt
  IsBelowEach-take (s ∷ ts) (suc k) t h e = (AllByRecursion-get _ ts k t h.0 e, IsBelowEach-take ts k t h.1 e)

  -- what is less than a term of a descending list is less than all before that term
  pub IsBelowEach-last : IsTotalOrder cmp → (ts : List (Term K)) (t : Term K) (k : K) → IsDescending cmp (ts ++ t ∷ [])
      → cmp k t.at ≡ Less → IsBelowEach cmp k (ts ++ t ∷ [])
  IsBelowEach-last o ts t k h l =
      AllByRecursion-append _ ts (t ∷ [])
      (AllByRecursion-weaken _ _ (λ u b. o.trans k t.at u.at l b) ts (IsBelowEach-before ts t [] h)) (l, tt)
