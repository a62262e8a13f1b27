-- Adding terms to the sum of some lists, list by list.
use Rattle.std.proofs.Common.{◌≡◌, ℕ, ◌<◌, List, [], Some, length, slice_set, sym, ◌∙◌, ap}
use Rattle.std.proofs.lemmas.List.{length-set}
use Rattle.std.proofs.lemmas.Option.{slice_get_within}
use Rattle.std.specs.List.{slice_get}
use Rattle.sf_algebra.specs.Rings.{ones, plain}
use Rattle.sf_algebra.specs.Terms.{Term, IsCanonical}
use Rattle.sf_algebra.specs.VectorOperations.{row_sum}
use Rattle.sf_algebra.specs.Vectors.{Place, place_cmp}
use Rattle.sf_algebra.proofs.Vectors.RowSums.{IsCanonical-row_sum, row_sum-assoc, row_sum-comm}
use Rattle.sf_reduce.specs.Buckets.{AreCanonical, sum_of_lists}
use Rattle.sf_reduce.proofs.BucketSums.{AllByRecursion-slice_set, slice_set-same, sum_of_lists-slice_set}

-- what is still to be added to the lists, of as many as at first, makes the whole sum
pub record IsEntering (p : ℕ) (old : List (List (Term Place))) (whole terms : List (Term Place)) (bs : List (List (Term Place))) : Type 0 where
  pub canonical : AreCanonical p bs
  pub terms_canonical : IsCanonical (place_cmp ones) p terms
  pub size : length bs ≡ length old
  pub sum : row_sum (plain p) terms (sum_of_lists p bs) ≡ whole

module _ (p : ℕ) (positive : 0 < p) (old : List (List (Term Place))) (whole terms : List (Term Place))
    (bs : List (List (Term Place))) (h : IsEntering p old whole terms bs) (i : ℕ) (b : List (Term Place))
    (read : slice_get bs i ≡ Some b) where
  within : i < length bs
  within = slice_get_within bs i b read

  abbrev others : List (Term Place)
  others = sum_of_lists p (slice_set bs i [])

  -- the list apart from the others
  parts : row_sum (plain p) (row_sum (plain p) b terms) others ≡ whole
  parts =
      ap (λ l. row_sum (plain p) l others) (row_sum-comm (plain p) positive b terms)
      ∙ row_sum-assoc (plain p) positive terms b others
      ∙ ap (row_sum (plain p) terms) (sym (sum_of_lists-slice_set p positive bs i b within) ∙ ap (sum_of_lists p) (slice_set-same bs i b read))
      ∙ h.sum

  -- the terms stay in this list
  pub IsEntering-last : (c : List (Term Place)) → c ≡ row_sum (plain p) b terms
      → sum_of_lists p (slice_set bs i c) ≡ whole
  IsEntering-last c sum =
      sum_of_lists-slice_set p positive bs i c within ∙ ap (λ l. row_sum (plain p) l others) sum ∙ parts

  -- they go on with what it had
  pub IsEntering-next : (c next : List (Term Place)) → c ≡ [] → next ≡ row_sum (plain p) b terms
      → IsCanonical (place_cmp ones) p c → IsEntering p old whole next (slice_set bs i c)
  IsEntering-next c next none sum canonical = record {
    canonical = AllByRecursion-slice_set (IsCanonical (place_cmp ones) p) bs i c h.canonical canonical;
    terms_canonical = rw sum (IsCanonical-row_sum (plain p) positive b terms);
    size = length-set bs i c ∙ h.size;
    sum = (λ l. row_sum (plain p) (sum l) (sum_of_lists p (slice_set bs i (none l)))) ∙ parts;
  }
