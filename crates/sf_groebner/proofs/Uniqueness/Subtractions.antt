-- Differences of canonical lists: what was taken away comes back, and sums behind a first term.
use Rattle.std.proofs.Common.{◌≡◌, ℕ, ◌<◌, List, ◌∷◌, sym, ◌∙◌, ap}
use Rattle.sf_algebra.specs.Multiples.{negative}
use Rattle.sf_algebra.specs.Residues.{sum_mod}
use Rattle.sf_algebra.specs.Sums.{add, total}
use Rattle.sf_algebra.specs.Terms.{Term, IsCanonical}
use Rattle.sf_algebra.proofs.Arithmetic.Residues.{sum_mod-assoc}
use Rattle.sf_algebra.proofs.Multiplying.Keys.{Keys}
use Rattle.sf_algebra.proofs.Terms.Coefficients.{same_from_total}
use Rattle.sf_algebra.proofs.Terms.Negatives.{add-negative}
use Rattle.sf_algebra.proofs.Terms.Normal.{IsCanonical-add}
use Rattle.sf_algebra.proofs.Terms.Sums.{add_assoc, add_comm, add-nil}
use Rattle.sf_algebra.proofs.Terms.Totals.{total-add, total-cons}

module _ {K : Type 0} (keys : Keys K) (p : ℕ) (positive : 0 < p) where
  -- us - vs + vs
  pub add-negative_back : (us vs : List (Term K)) → IsCanonical keys.cmp p us → IsCanonical keys.cmp p vs
      → add keys.cmp p (add keys.cmp p us (negative p vs)) vs ≡ us
  add-negative_back us vs h k =
      add_assoc keys.cmp keys.order p positive us (negative p vs) vs
      ∙ ap (add keys.cmp p us)
      (add_comm keys.cmp keys.order p positive (negative p vs) vs ∙ add-negative keys p positive vs k)
      ∙ add-nil keys.cmp keys.order p positive us h

  -- us + vs - vs
  pub add-negative_front : (us vs : List (Term K)) → IsCanonical keys.cmp p us → IsCanonical keys.cmp p vs
      → add keys.cmp p (add keys.cmp p us vs) (negative p vs) ≡ us
  add-negative_front us vs h k =
      add_assoc keys.cmp keys.order p positive us vs (negative p vs)
      ∙ ap (add keys.cmp p us) (add-negative keys p positive vs k)
      ∙ add-nil keys.cmp keys.order p positive us h

  -- a first term stays where the sum begins with it
  pub add-first : (t : Term K) (us vs ws : List (Term K)) → IsCanonical keys.cmp p (t ∷ ws) → add keys.cmp p us vs ≡ ws
      → add keys.cmp p (t ∷ us) vs ≡ t ∷ ws
  add-first t us vs ws canonical e =
      same_from_total keys.cmp keys.order p positive _ _
      (IsCanonical-add keys.cmp keys.order p positive (t ∷ us) vs) canonical
      (λ g additive.
      total-add keys.cmp keys.order p g additive (t ∷ us) vs
      ∙ ap (λ n. sum_mod p n (total p g vs)) (total-cons p g t us)
      ∙ sum_mod-assoc p (g t) (total p g us) (total p g vs)
      ∙ ap (sum_mod p (g t)) (sym (total-add keys.cmp keys.order p g additive us vs) ∙ ap (total p g) e)
      ∙ sym (total-cons p g t ws))
