-- Laws of sums of terms: each equation of canonical lists is one of totals.
use Rattle.std.proofs.Common.{◌≡◌, ℕ, ◌%◌, ◌<◌, List, [], ◌∷◌, ◌++◌, refl, sym, ◌∙◌, ap, take, drop}
use Rattle.std.specs.declared.cmp.Ordering.{Ordering}
use Rattle.std.specs.List.Sorted.{IsPermutation}
use Rattle.std.proofs.lemmas.List.{take-append-drop}
use Rattle.sf_algebra.specs.Orders.{IsLinearOrder}
use Rattle.sf_algebra.specs.Residues.{sum_mod}
use Rattle.sf_algebra.specs.Sums.{put, insert, normal, add, total}
use Rattle.sf_algebra.specs.Terms.{Term, IsCanonical}
use Rattle.sf_algebra.proofs.Arithmetic.Residues.{sum_mod-assoc, sum_mod-comm, sum_mod-zero}
use Rattle.sf_algebra.proofs.Terms.Coefficients.{same_from_total}
use Rattle.sf_algebra.proofs.Terms.Normal.{IsCanonical-normal, IsCanonical-add}
use Rattle.sf_algebra.proofs.Terms.Totals.{total-nil, total-append, total-normal, total-add, total-reduced, total-IsPermutation}

pub normal-one : {K : Type 0} (cmp : K → K → Ordering) (p : ℕ) (t : Term K)
    → normal cmp p (t ∷ []) ≡ put t.at (t.coefficient % p) []
unfolding normal insert
normal-one cmp p t = refl

pub normal-nil : {K : Type 0} (cmp : K → K → Ordering) (p : ℕ) → normal cmp p [] ≡ []
unfolding normal
normal-nil cmp p = refl

module _ {K : Type 0} (cmp : K → K → Ordering) (order : IsLinearOrder cmp) (p : ℕ) (positive : 0 < p) where
  -- a canonical list means itself
  pub normal-canonical : (us : List (Term K)) → IsCanonical cmp p us → normal cmp p us ≡ us
  normal-canonical us h =
      same_from_total cmp order p positive _ us (IsCanonical-normal cmp order p positive us) h
      (λ g additive. total-normal cmp order p g additive us)

  -- the order of the terms doesn't matter
  pub normal-IsPermutation : (ts us : List (Term K)) → IsPermutation ts us → normal cmp p us ≡ normal cmp p ts
  normal-IsPermutation ts us h =
      same_from_total cmp order p positive _ _ (IsCanonical-normal cmp order p positive us)
      (IsCanonical-normal cmp order p positive ts)
      (λ g additive. total-normal cmp order p g additive us ∙ total-IsPermutation p g ts us h ∙ sym (total-normal cmp order p g additive ts))

  -- two lists one after the other mean the sum of what each means
  pub normal-append : (ts us : List (Term K)) → normal cmp p (ts ++ us) ≡ add cmp p (normal cmp p ts) (normal cmp p us)
  normal-append ts us =
      same_from_total cmp order p positive _ _ (IsCanonical-normal cmp order p positive (ts ++ us))
      (IsCanonical-add cmp order p positive _ _)
      (λ g additive.
      total-normal cmp order p g additive (ts ++ us)
      ∙ total-append p g ts us
      ∙ sym (total-add cmp order p g additive _ _ ∙ (λ i. sum_mod p (total-normal cmp order p g additive ts i) (total-normal cmp order p g additive us i))))

  -- the halves of a list mean the sum of what each means
  pub normal-halves : (k : ℕ) (ts : List (Term K))
      → normal cmp p ts ≡ add cmp p (normal cmp p (take k ts)) (normal cmp p (drop k ts))
  normal-halves k ts = ap (normal cmp p) (sym (take-append-drop k ts)) ∙ normal-append (take k ts) (drop k ts)

  pub add_comm : (us vs : List (Term K)) → add cmp p us vs ≡ add cmp p vs us
  add_comm us vs =
      same_from_total cmp order p positive _ _ (IsCanonical-add cmp order p positive us vs)
      (IsCanonical-add cmp order p positive vs us)
      (λ g additive.
      total-add cmp order p g additive us vs
      ∙ sum_mod-comm p _ _
      ∙ sym (total-add cmp order p g additive vs us))

  pub add_assoc : (us vs ws : List (Term K)) → add cmp p (add cmp p us vs) ws ≡ add cmp p us (add cmp p vs ws)
  add_assoc us vs ws =
      same_from_total cmp order p positive _ _ (IsCanonical-add cmp order p positive _ ws)
      (IsCanonical-add cmp order p positive us _)
      (λ g additive.
      total-add cmp order p g additive _ ws
      ∙ ap (λ n. sum_mod p n (total p g ws)) (total-add cmp order p g additive us vs)
      ∙ sum_mod-assoc p _ _ _
      ∙ ap (sum_mod p (total p g us)) (sym (total-add cmp order p g additive vs ws))
      ∙ sym (total-add cmp order p g additive us _))

  pub add-nil : (us : List (Term K)) → IsCanonical cmp p us → add cmp p us [] ≡ us
  add-nil us h =
      same_from_total cmp order p positive _ us (IsCanonical-add cmp order p positive us []) h
      (λ g additive.
      total-add cmp order p g additive us []
      ∙ ap (sum_mod p (total p g us)) (total-nil p g)
      ∙ sum_mod-zero p _
      ∙ total-reduced p g us)

  pub add-nil_first : (us : List (Term K)) → IsCanonical cmp p us → add cmp p [] us ≡ us
  add-nil_first us h = add_comm [] us ∙ add-nil us h
