-- Combinations of the rows of two lists one after the other.
use Rattle.std.proofs.Common.{◌≡◌, ◌+◌, ◌<◌, List, ◌++◌, length, sym, ◌∙◌}
use Rattle.std.specs.List.{AllByRecursion}
use Rattle.sf_algebra.specs.MatrixOperations.{row_at, row_combination, moved}
use Rattle.sf_algebra.specs.Multiples.{place_product, term_product}
use Rattle.sf_algebra.specs.Rings.{Ring}
use Rattle.sf_algebra.specs.Sums.{total}
use Rattle.sf_algebra.specs.Terms.{Term}
use Rattle.sf_algebra.specs.VectorOperations.{row_sum}
use Rattle.sf_algebra.specs.Vectors.{Place, Vector}
use Rattle.sf_algebra.proofs.Basics.Lists.{AllByRecursion-weaken}
use Rattle.sf_algebra.proofs.Multiplying.CombinationLaws.{combination-rows, combination-same}
use Rattle.sf_algebra.proofs.Multiplying.Combinations.{total-combination}
use Rattle.sf_algebra.proofs.Multiplying.Keys.{place_keys}
use Rattle.sf_algebra.proofs.Terms.DoubleTotals.{total-map}
use Rattle.sf_algebra.proofs.Vectors.Rows.{IsCanonical-row_combination, row_at-append_first, row_at-append_second, row_combination-append}

module _ (ring : Ring) (positive : 0 < ring.modulus) (rows more : List Vector) where
  -- with coefficients of the first rows
  pub row_combination-stacked_first : (c : List (Term Place)) → AllByRecursion (λ t. t.at.position < length rows) c
      → row_combination ring (rows ++ more) c ≡ row_combination ring rows c
  row_combination-stacked_first c within =
      combination-rows (place_keys ring.weights) ring.modulus positive (λ k. k.monomial)
      (λ k. row_at (rows ++ more) k.position) (λ k. row_at rows k.position) c
      (AllByRecursion-weaken _ _ (λ t h. row_at-append_first rows more t.at.position h) c within)

  -- with coefficients of the rows behind them
  pub row_combination-stacked_second : (c : List (Term Place))
      → row_combination ring (rows ++ more) (moved (length rows) c) ≡ row_combination ring more c
  row_combination-stacked_second c =
      combination-same (place_keys ring.weights) ring.modulus positive (λ k. k.monomial)
      (λ k. row_at (rows ++ more) k.position) (moved (length rows) c) _
      (IsCanonical-row_combination ring positive more c)
      (λ g additive.
      total-map ring.modulus _
      (λ (t : Term Place). record { at = record { position = length rows + t.at.position; monomial = t.at.monomial }; coefficient = t.coefficient }) c
      ∙ (λ i. total ring.modulus (λ t. total ring.modulus (λ u. g (term_product place_product ring.modulus (record { at = t.at.monomial; coefficient = t.coefficient }) u)) (row_at-append_second rows more t.at.position i)) c)
      ∙ sym (total-combination (place_keys ring.weights) ring.modulus (λ k. k.monomial) (λ k. row_at more k.position) g additive c))

  -- with coefficients of both
  pub row_combination-stacked : (c d : List (Term Place)) → AllByRecursion (λ t. t.at.position < length rows) c
      → row_combination ring (rows ++ more) (c ++ moved (length rows) d)
      ≡ row_sum ring (row_combination ring rows c) (row_combination ring more d)
  row_combination-stacked c d within =
      row_combination-append ring positive (rows ++ more) c (moved (length rows) d)
      ∙ (λ i. row_sum ring (row_combination-stacked_first c within i) (row_combination-stacked_second d i))
