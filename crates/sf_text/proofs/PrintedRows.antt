-- The entries of a row, written one by one.
use Rattle.std.proofs.Common.{◌≡◌, ◌≢◌, ℕ, ◌+◌, ◌<◌, ◌≤◌, List, [], ◌∷◌, ◌++◌, Some, length, take, drop, ltb, subst, sym, ap, ◌∙◌, zero-add, arith}
use Rattle.std.specs.List.{AllByRecursion, slice_get, range_with_len}
use Rattle.std.proofs.lemmas.List.{take-append-drop}
use Rattle.std.proofs.lemmas.List.FromFn.{length-range_with_len, get_or-range_with_len}
use Rattle.std.proofs.lemmas.Option.{slice_get-get_or}
use Rattle.sf_algebra.specs.Printing.{polynomial_text, row_text, comma}
use Rattle.sf_algebra.specs.Rings.{ones}
use Rattle.sf_algebra.specs.Terms.{Term, IsDescending}
use Rattle.sf_algebra.specs.Vectors.{Place, place_cmp, entry}
use Rattle.sf_algebra.proofs.Basics.Descending.{IsDescending-back}
use Rattle.sf_algebra.proofs.Basics.Drops.{drop-slice_get}
use Rattle.sf_algebra.proofs.Basics.Lists.{AllByRecursion-weaken}
use Rattle.sf_algebra.proofs.Vectors.Entries.{without_position, entry-here, entry-elsewhere, entry-past, IsDescending-positions}
use Rattle.sf_text.specs.Columns.{IsFromColumn, SameEntriesPast}
use Rattle.sf_text.specs.Joins.{separator_after}
use Rattle.sf_text.proofs.JoinedItems.{joined_from, joined_from-start, joined_from-end, joined_from_more}

module _ (column : ℕ) (ts : List (Term Place)) (k : ℕ) where
  abbrev Stands : List (Term Place) → Type 0
  Stands = AllByRecursion (λ t. column ≤ t.at.position)

  -- past a column, no entry is left there
  pub entry-drop_past : IsFromColumn (column + 1) k ts → entry column (drop k ts) ≡ []
  entry-drop_past h = entry-past column (drop k ts) h

  module _ (t : Term Place) (read : slice_get ts k ≡ Some t) where
    rest : drop k ts ≡ t ∷ drop (k + 1) ts
    rest = drop-slice_get ts k t read

    pub entry-drop : t.at.position ≡ column
        → entry column (drop k ts) ≡ without_position t ∷ entry column (drop (k + 1) ts)
    entry-drop h = ap (entry column) rest ∙ entry-here column t (drop (k + 1) ts) h

    pub IsFromColumn-next : IsFromColumn column k ts → IsFromColumn column (k + 1) ts
    IsFromColumn-next h = (subst Stands rest h).1

    pub SameEntriesPast-next : t.at.position ≡ column → SameEntriesPast column k (k + 1) ts
    SameEntriesPast-next h = λ i later. sym (ap (entry i) rest ∙ entry-elsewhere i t (drop (k + 1) ts) (λ e. omega arith))

    -- a term at a later column is the first past this one
    pub IsFromColumn-past : IsDescending (place_cmp ones) ts → IsFromColumn column k ts → t.at.position ≢ column
        → IsFromColumn (column + 1) k ts
    IsFromColumn-past d h other =
        let here : column ≤ t.at.position = (subst Stands rest h).0 in
        let later : column + 1 ≤ t.at.position = omega arith in
        let descending = subst (IsDescending (place_cmp ones)) rest (IsDescending-back (place_cmp ones) (take k ts) (drop k ts) (subst (IsDescending (place_cmp ones)) (sym (take-append-drop k ts)) d)) in
        subst (AllByRecursion (λ u. column + 1 ≤ u.at.position)) (sym rest)
        (later, AllByRecursion-weaken _ _ (λ u e. omega arith) (drop (k + 1) ts) (IsDescending-positions ones t (drop (k + 1) ts) descending))

pub IsFromColumn-first : (ts : List (Term Place)) → IsFromColumn 0 0 ts
IsFromColumn-first [] = tt
IsFromColumn-first (t ∷ ts) = (omega arith, IsFromColumn-first ts)

module _ (names : List (List ℕ)) (columns : ℕ) (ts : List (Term Place)) where
  -- what is left to write of a row from a column on
  abbrev pub entries_from : ℕ → List ℕ
  entries_from = joined_from (λ i. polynomial_text names (entry i ts)) comma (range_with_len 0 columns)

  pub entries_from-start : entries_from 0 ≡ row_text names columns ts
  entries_from-start = joined_from-start (λ i. polynomial_text names (entry i ts)) comma (range_with_len 0 columns)

  pub entries_from-end : (column : ℕ) → columns ≤ column → entries_from column ≡ []
  entries_from-end column h =
      joined_from-end (λ i. polynomial_text names (entry i ts)) comma (range_with_len 0 columns) column
      (rw length-range_with_len h)

  -- what is written and what is left make the whole text, before an entry is written and behind it
  pub entries_from_more : (column k : ℕ) (whole text separated next : List ℕ)
      → column < columns → text ++ entries_from column ≡ whole → entry column (drop k ts) ≡ entry column ts
      → separated ≡ text ++ separator_after (ltb 0 column) comma
      → next ≡ separated ++ polynomial_text names (entry column (drop k ts))
      → next ++ entries_from (column + 1) ≡ whole
  entries_from_more column k whole text separated next low so_far same before now =
      let place : column < length (range_with_len 0 columns) = rw length-range_with_len low in
      let here =
      slice_get-get_or (range_with_len 0 columns) column 0 place
      ∙ ap Some (get_or-range_with_len 0 columns column 0 low ∙ zero-add column) in
      joined_from_more (λ i. polynomial_text names (entry i ts)) comma
      (range_with_len 0 columns) whole text next column column so_far here
      (now ∙ ap (λ es. separated ++ polynomial_text names es) same ∙ ap (λ u. u ++ polynomial_text names (entry column ts)) before)
