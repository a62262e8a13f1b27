-- Modules of lists of terms: they have the combinations of rows that they have.
use Rattle.std.proofs.Common.{ℕ, zero, suc, List, [], ◌∷◌, ◌++◌, sym, subst}
use Rattle.sf_algebra.specs.MatrixOperations.{row_at, row_combination}
use Rattle.sf_algebra.specs.Monomials.{Monomial}
use Rattle.sf_algebra.specs.Multiples.{multiple}
use Rattle.sf_algebra.specs.Rings.{Ring, IsRing}
use Rattle.sf_algebra.specs.Sums.{add, normal}
use Rattle.sf_algebra.specs.Terms.{Term}
use Rattle.sf_algebra.specs.VectorOperations.{row_multiple, row_sum}
use Rattle.sf_algebra.specs.Vectors.{Place, Vector, place_cmp}
use Rattle.std.specs.List.{AllByRecursion}
use Rattle.sf_algebra.proofs.Monomials.Orders.{place_cmp_linear}
use Rattle.sf_algebra.proofs.Terms.SameTotals.{SameTotals-normal, SameTotals-sym}
use Rattle.sf_algebra.proofs.Vectors.Rows.{row_combination-append, row_combination-cons, row_combination-nil}
use Rattle.sf_groebner.proofs.PairTheorems.Kernels.{row_combination-SameTotals, row_combination-products}
use Rattle.sf_groebner.proofs.PairTheorems.LeadMultiples.{IsModule}

module _ (ring : Ring) (positive : IsRing ring) (S : List (Term Place) → Type 0)
    (is_module : IsModule ring.modulus S) where
  pub from_normal : (us : List (Term Place)) → S (normal (place_cmp ring.weights) ring.modulus us) → S us
  from_normal us h =
      is_module.has_same _ us (SameTotals-normal (place_cmp ring.weights) (place_cmp_linear ring.weights) ring.modulus us) h

  pub to_normal : (us : List (Term Place)) → S us → S (normal (place_cmp ring.weights) ring.modulus us)
  to_normal us h =
      is_module.has_same us _
      (SameTotals-sym ring.modulus (SameTotals-normal (place_cmp ring.weights) (place_cmp_linear ring.weights) ring.modulus us)) h

  pub has_row_sum : (us vs : List (Term Place)) → S us → S vs → S (row_sum ring us vs)
  unfolding add
  has_row_sum us vs h k = to_normal (us ++ vs) (is_module.has_sums us vs h k)

  pub has_row_multiple : (s : Term Monomial) (us : List (Term Place)) → S us → S (row_multiple ring s us)
  unfolding multiple
  has_row_multiple s us h = to_normal _ (is_module.has_products s us h)

  -- a combination whose coefficients stand for rows that are members
  pub has_chosen_combination : (rows : List Vector) (c : List (Term Place))
      → AllByRecursion (λ (t : Term Place). S (row_at rows t.at.position)) c → S (row_combination ring rows c)
  has_chosen_combination rows [] h = subst S (sym (row_combination-nil ring positive.modulus rows)) is_module.has_none
  has_chosen_combination rows (t ∷ c) h =
      subst S (sym (row_combination-cons ring positive.modulus rows t c))
      (has_row_sum _ _ (has_row_multiple _ (row_at rows t.at.position) h.0) (has_chosen_combination rows c h.1))

  -- a combination of members
  pub has_combination : (rows : List Vector) → AllByRecursion (λ (v : Vector). S v.terms) rows → (c : List (Term Place))
      → S (row_combination ring rows c)
  has_combination rows h c = has_chosen_combination rows c (each c)
    where
      row : (vs : List Vector) → AllByRecursion (λ (v : Vector). S v.terms) vs → (i : ℕ) → S (row_at vs i)
      row [] k i = is_module.has_none
      row (v ∷ vs) k zero = k.0
      row (v ∷ vs) k (suc i) = row vs k.1 i

      each : (c : List (Term Place)) → AllByRecursion (λ (t : Term Place). S (row_at rows t.at.position)) c
      each [] = tt
      each (t ∷ c) = (row rows h t.at.position, each c)

  -- the coefficients whose combinations are members
  pub combination-module : (rows : List Vector) → IsModule ring.modulus (λ c. S (row_combination ring rows c))
  combination-module rows = record {
    has_none = subst S (sym (row_combination-nil ring positive.modulus rows)) is_module.has_none;
    has_sums = λ us vs h k. subst S (sym (row_combination-append ring positive.modulus rows us vs)) (has_row_sum _ _ h k);
    has_products = λ s us h. subst S (sym (row_combination-products ring positive rows s us)) (has_row_multiple s _ h);
    has_same = λ us vs same h. subst S (row_combination-SameTotals ring positive rows same) h;
  }
