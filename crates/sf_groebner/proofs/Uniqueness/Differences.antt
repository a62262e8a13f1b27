-- Differences of canonical lists of terms.
use Rattle.std.proofs.Common.{◌≡◌, ℕ, ◌%◌, ◌<◌, List, [], ◌∷◌, sym, ◌∙◌, ap}
use Rattle.sf_algebra.specs.Multiples.{negative, negative_term}
use Rattle.sf_algebra.specs.Residues.{sum_mod, negative_mod}
use Rattle.sf_algebra.specs.Sums.{add, total}
use Rattle.sf_algebra.specs.Terms.{Term, IsCanonical}
use Rattle.sf_algebra.proofs.Arithmetic.Residues.{sum_mod-exchange, sum_mod-negative, sum_mod-zero_first}
use Rattle.sf_algebra.proofs.Multiplying.Keys.{Keys}
use Rattle.sf_algebra.proofs.Terms.Coefficients.{same_from_total}
use Rattle.sf_algebra.proofs.Terms.Negatives.{add-negative}
use Rattle.sf_algebra.proofs.Terms.Normal.{IsCanonical-add}
use Rattle.sf_algebra.proofs.Terms.Sums.{add_assoc, add_comm, add-nil, add-nil_first}
use Rattle.sf_algebra.proofs.Terms.Totals.{IsAdditive, total-add, total-cons, total-reduced}

module _ {K : Type 0} (keys : Keys K) (p : ℕ) (positive : 0 < p) where
  cancels : (g : Term K → ℕ) → IsAdditive p g → (t : Term K) → t.coefficient < p
      → sum_mod p (g t) (g (negative_term p t)) ≡ 0
  cancels g additive t below =
      sym (additive.at_sum t.at t.coefficient (negative_mod p t.coefficient))
      ∙ ap (λ n. g (record { at = t.at; coefficient = n }) % p) (sum_mod-negative p t.coefficient below)
      ∙ additive.at_zero t.at

  -- a common first term goes out
  pub add-negative_first : (t : Term K) (us vs : List (Term K)) → IsCanonical keys.cmp p (t ∷ us)
      → IsCanonical keys.cmp p (t ∷ vs)
      → add keys.cmp p (t ∷ us) (negative p (t ∷ vs)) ≡ add keys.cmp p us (negative p vs)
  add-negative_first t us vs h k =
      same_from_total keys.cmp keys.order p positive _ _
      (IsCanonical-add keys.cmp keys.order p positive (t ∷ us) (negative p (t ∷ vs)))
      (IsCanonical-add keys.cmp keys.order p positive us (negative p vs))
      (λ g additive.
      total-add keys.cmp keys.order p g additive (t ∷ us) (negative p (t ∷ vs))
      ∙ (λ i. sum_mod p (total-cons p g t us i) (total-cons p g (negative_term p t) (negative p vs) i))
      ∙ sum_mod-exchange p (g t) (total p g us) (g (negative_term p t)) (total p g (negative p vs))
      ∙ ap (λ n. sum_mod p n (sum_mod p (total p g us) (total p g (negative p vs))))
      (cancels g additive t h.residues.0.1)
      ∙ ap (sum_mod p 0) (sym (total-add keys.cmp keys.order p g additive us (negative p vs)))
      ∙ sum_mod-zero_first p _
      ∙ total-reduced p g _)

  -- lists without a difference are equal
  pub add-negative_same : (us vs : List (Term K)) → IsCanonical keys.cmp p us → IsCanonical keys.cmp p vs
      → add keys.cmp p us (negative p vs) ≡ [] → us ≡ vs
  add-negative_same us vs h k none =
      sym (add-nil keys.cmp keys.order p positive us h)
      ∙ ap (add keys.cmp p us)
      (sym (add_comm keys.cmp keys.order p positive (negative p vs) vs ∙ add-negative keys p positive vs k))
      ∙ sym (add_assoc keys.cmp keys.order p positive us (negative p vs) vs)
      ∙ ap (λ ws. add keys.cmp p ws vs) none
      ∙ add-nil_first keys.cmp keys.order p positive vs k
