-- The items of a list that pass a test.
use Rattle.std.proofs.Common.{◌≡◌, ℕ, if◌then◌else◌, cond, Bool, true, false, List, [], ◌∷◌, filter, refl, sym, ◌∙◌, ap}
use Rattle.std.specs.declared.cmp.Ordering.{Ordering}
use Rattle.std.specs.List.{AllByRecursion}
use Rattle.sf_algebra.specs.Residues.{sum_mod}
use Rattle.sf_algebra.specs.Sums.{total}
use Rattle.sf_algebra.specs.Terms.{Term, IsDescending, IsCanonical}
use Rattle.sf_algebra.proofs.Arithmetic.Residues.{sum_mod-zero_first}
use Rattle.sf_algebra.proofs.Terms.Totals.{total-nil, total-cons, total-reduced}

-- a fact of what a test chooses, by what the test says
pub cond_cases : {A : Type 0} (b : Bool) (x y : A) (P : A → Type 0) → (b ≡ true → P x) → (b ≡ false → P y)
    → P (cond b x y)
cond_cases true x y P passed failed = passed refl
cond_cases false x y P passed failed = failed refl

-- a fact of each item that passes
pub AllByRecursion-filter : {X : Type 0} (P : X → Type 0) (test : X → Bool) (xs : List X)
    → ((x : X) → test x ≡ true → P x) → AllByRecursion P (filter test xs)
AllByRecursion-filter P test [] passes = tt
AllByRecursion-filter P test (x ∷ xs) passes =
    let rest = AllByRecursion-filter P test xs passes in
    cond_cases (test x) (x ∷ filter test xs) (filter test xs) (AllByRecursion P) (λ e. (passes x e, rest)) (λ e. rest)

-- what holds of each item still does
pub AllByRecursion-filter_keeps : {X : Type 0} (P : X → Type 0) (test : X → Bool) (xs : List X) → AllByRecursion P xs
    → AllByRecursion P (filter test xs)
AllByRecursion-filter_keeps P test [] h = tt
AllByRecursion-filter_keeps P test (x ∷ xs) h =
    let rest = AllByRecursion-filter_keeps P test xs h.1 in
    cond_cases (test x) (x ∷ filter test xs) (filter test xs) (AllByRecursion P) (λ e. (h.0, rest)) (λ e. rest)

module _ {K : Type 0} (test : Term K → Bool) where
  IsDescending-filter : (cmp : K → K → Ordering) (ts : List (Term K)) → IsDescending cmp ts
      → IsDescending cmp (filter test ts)
  IsDescending-filter cmp [] h = tt
  IsDescending-filter cmp (t ∷ ts) h =
      let rest = IsDescending-filter cmp ts h.1 in
      cond_cases (test t) (t ∷ filter test ts) (filter test ts) (IsDescending cmp)
      (λ e. (AllByRecursion-filter_keeps _ test ts h.0, rest)) (λ e. rest)

  pub IsCanonical-filter : (cmp : K → K → Ordering) (p : ℕ) (ts : List (Term K)) → IsCanonical cmp p ts
      → IsCanonical cmp p (filter test ts)
  IsCanonical-filter cmp p ts h = record {
    descending = IsDescending-filter cmp ts h.descending;
    residues = AllByRecursion-filter_keeps _ test ts h.residues;
  }

  -- a sum over the terms that pass is one in which the others count 0
  pub total-filter : (p : ℕ) (g : Term K → ℕ) (ts : List (Term K))
      → total p g (filter test ts) ≡ total p (λ t. if test t then g t else 0) ts
  total-filter p g [] = total-nil p g ∙ sym (total-nil p (λ t. if test t then g t else 0))
  total-filter p g (t ∷ ts) =
      let rest = total-filter p g ts in
      let counted : total p g (filter test (t ∷ ts)) ≡ sum_mod p (if test t then g t else 0) (total p g (filter test ts)) =
      by_test p g t (filter test ts) in
      counted ∙ ap (sum_mod p (if test t then g t else 0)) rest
      ∙ sym (total-cons p (λ t. if test t then g t else 0) t ts)
    where
      by_test : (p : ℕ) (g : Term K → ℕ) (t : Term K) (us : List (Term K))
          → total p g (cond (test t) (t ∷ us) us) ≡ sum_mod p (if test t then g t else 0) (total p g us)
      by_test p g t us = chosen (test t)
        where
          chosen : (b : Bool) → total p g (cond b (t ∷ us) us) ≡ sum_mod p (if b then g t else 0) (total p g us)
          chosen true = total-cons p g t us
          chosen false = sym (sum_mod-zero_first p (total p g us) ∙ total-reduced p g us)
