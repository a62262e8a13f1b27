-- The coefficients of the vector that sums over falling places stand for: at the place of a sum its residue.
use Rattle.std.proofs.Common.{◌≡◌, ℕ, zero, suc, ◌%◌, ◌<◌, if◌then◌else◌, List, [], ◌∷◌, length, get_or, ◌∙◌, ap, arith}
use Rattle.std.proofs.lemmas.Cmp.{tied_itself}
use Rattle.std.specs.declared.cmp.Ordering.TheVariants.{Greater, Less}
use Rattle.std.specs.List.{AllByRecursion}
use Rattle.std.specs.Ordering.{is_eq, ordering_reverse}
use Rattle.sf_algebra.specs.Residues.{sum_mod}
use Rattle.sf_algebra.specs.Rings.{ones}
use Rattle.sf_algebra.specs.Sums.{coefficient_at, part_at}
use Rattle.sf_algebra.specs.Vectors.{Place, place_cmp}
use Rattle.sf_algebra.proofs.Arithmetic.Residues.{sum_mod-zero, sum_mod-zero_first}
use Rattle.sf_algebra.proofs.Monomials.Orders.{place_cmp_linear}
use Rattle.sf_algebra.proofs.Terms.Coefficients.{coefficient_at-above, coefficient_at-normal}
use Rattle.sf_algebra.proofs.Terms.Normal.{IsAboveEach}
use Rattle.sf_algebra.proofs.Terms.Totals.{total-cons, total-reduced}
use Rattle.sf_variables.specs.Columns.{AreFalling}
use Rattle.sf_dense.specs.Entries.{column_at, cell_terms, dense}
use Rattle.sf_dense.proofs.DenseSums.PlacedEntries.{AllByRecursion-column}

module _ (p : ℕ) where
  IsAboveEach-cell_terms : (k : Place) (ks : List Place) (cs : List ℕ)
      → AllByRecursion (λ l. place_cmp ones l k ≡ Less) ks → IsAboveEach (place_cmp ones) k (cell_terms ks cs)
  unfolding cell_terms
  IsAboveEach-cell_terms k [] cs above = tt
  IsAboveEach-cell_terms k (l ∷ ks) [] above = tt
  IsAboveEach-cell_terms k (l ∷ ks) (c ∷ cs) above = (above.0, IsAboveEach-cell_terms k ks cs above.1)

  coefficient_at-cell_terms : (ks : List Place) (cs : List ℕ) (i : ℕ) → AreFalling ones ks → length ks ≡ length cs
      → i < length ks → coefficient_at (place_cmp ones) p (column_at ks i) (cell_terms ks cs) ≡ get_or cs i 0 % p
  unfolding cell_terms
  coefficient_at-cell_terms [] cs i falling same within = absurd (omega arith)
  coefficient_at-cell_terms (k ∷ ks) [] i falling same within = absurd (omega arith)
  coefficient_at-cell_terms (k ∷ ks) (c ∷ cs) zero falling same within =
      total-cons p (part_at (place_cmp ones) k) _ (cell_terms ks cs)
      ∙ ap (λ o. sum_mod p (if is_eq o then c else 0) (coefficient_at (place_cmp ones) p k (cell_terms ks cs)))
      (tied_itself (place_cmp_linear ones).total k)
      ∙ ap (sum_mod p c) (coefficient_at-above (place_cmp ones) p k _ (IsAboveEach-cell_terms k ks cs falling.0))
      ∙ sum_mod-zero p c
  coefficient_at-cell_terms (k ∷ ks) (c ∷ cs) (suc i) falling same within =
      let l : Place = column_at ks i in
      let less : place_cmp ones l k ≡ Less =
      AllByRecursion-column (λ m. place_cmp ones m k ≡ Less) ks i falling.0 (omega arith) in
      let greater : place_cmp ones k l ≡ Greater =
      (place_cmp_linear ones).total.antisymm k l ∙ ap ordering_reverse less in
      total-cons p (part_at (place_cmp ones) l) _ (cell_terms ks cs)
      ∙ ap (λ o. sum_mod p (if is_eq o then c else 0) (coefficient_at (place_cmp ones) p l (cell_terms ks cs))) greater
      ∙ sum_mod-zero_first p _
      ∙ total-reduced p (part_at (place_cmp ones) l) (cell_terms ks cs)
      ∙ coefficient_at-cell_terms ks cs i falling.1 (omega arith) (omega arith)

  -- the coefficient where one of the sums stands
  pub cell-coefficient : (ks : List Place) (cs : List ℕ) (i : ℕ) → AreFalling ones ks → length ks ≡ length cs
      → i < length ks → coefficient_at (place_cmp ones) p (column_at ks i) (dense p ks cs) ≡ get_or cs i 0 % p
  cell-coefficient ks cs i falling same within =
      coefficient_at-normal (place_cmp ones) (place_cmp_linear ones) p (column_at ks i) (cell_terms ks cs)
      ∙ coefficient_at-cell_terms ks cs i falling same within
