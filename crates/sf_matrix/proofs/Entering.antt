-- Entering rows into columns, term by term and row by row.
use Rattle.std.proofs.Common.{◌≡◌, ◌≢◌, inl, inr, ℕ, zero, suc, ◌+◌, ◌<◌, List, [], ◌∷◌, ◌++◌, length, take, drop, get_or, slice_set, Some, subst, ℤ, pos, refl, sym, ◌∙◌, ap, arith, append-nil, append_assoc}
use Rattle.std.specs.List.{slice_get}
use Rattle.std.proofs.lemmas.Option.{slice_get_within}
use Rattle.std.proofs.lemmas.Bool.{cases_eq}
use Rattle.std.proofs.lemmas.List.{drop_more, length-take-le}
use Rattle.sf_algebra.specs.MatrixOperations.{at_position}
use Rattle.sf_algebra.specs.Terms.{Term}
use Rattle.sf_algebra.specs.Vectors.{Place, Vector, entry}
use Rattle.sf_algebra.proofs.Basics.Lists.{take-slice_get}
use Rattle.sf_algebra.proofs.GradedMatrices.Columns.{column_terms-push}
use Rattle.sf_algebra.proofs.Vectors.Entries.{entry-here, entry-elsewhere}
use Rattle.sf_algebra.proofs.Vectors.Positions.{entry-append}
use Rattle.sf_matrix.specs.Columns.{entered, column_lists}

-- a term in another row
abbrev pub in_row : ℕ → Term Place → Term Place
in_row i t = record { at = record { position = i; monomial = t.at.monomial }; coefficient = t.coefficient }

pub length-entered : (i : ℕ) (ts : List (Term Place)) (j : ℕ) (cs : List (List (Term Place)))
    → length (entered i ts j cs) ≡ length cs
length-entered i ts j [] = refl
length-entered i ts j (c ∷ cs) = ap suc (length-entered i ts (suc j) cs)

pub entered-nil : (i j : ℕ) (cs : List (List (Term Place))) → entered i [] j cs ≡ cs
entered-nil i j [] = refl
entered-nil i j (c ∷ cs) = λ l. append-nil c l ∷ entered-nil i (suc j) cs l

entry-push_elsewhere : (j : ℕ) (ts : List (Term Place)) (t : Term Place) → t.at.position ≢ j
    → entry j (ts ++ t ∷ []) ≡ entry j ts
entry-push_elsewhere j ts t apart =
    entry-append j ts (t ∷ []) ∙ ap (λ es. entry j ts ++ es) (entry-elsewhere j t [] apart) ∙ append-nil (entry j ts)

at_position-append : (i j : ℕ) (ts : List (Term Place)) (t : Term Place) → t.at.position ≡ j
    → at_position i (entry j (ts ++ t ∷ [])) ≡ at_position i (entry j ts) ++ in_row i t ∷ []
at_position-append i j [] t here = ap (at_position i) (entry-here j t [] here)
at_position-append i j (u ∷ ts) t here = elim (cases_eq u.at.position j) [
  | inl same ↦
      ap (at_position i) (entry-here j u (ts ++ t ∷ []) same)
      ∙ ap (λ es. in_row i u ∷ es) (at_position-append i j ts t here)
      ∙ ap (λ es. at_position i es ++ in_row i t ∷ []) (sym (entry-here j u ts same))
  | inr other ↦
      ap (at_position i) (entry-elsewhere j u (ts ++ t ∷ []) other)
      ∙ at_position-append i j ts t here
      ∙ ap (λ es. at_position i es ++ in_row i t ∷ []) (sym (entry-elsewhere j u ts other))
]

-- a term at an earlier position changes no column from j on
entered-elsewhere : (i : ℕ) (ts : List (Term Place)) (t : Term Place) (j : ℕ) (cs : List (List (Term Place)))
    → t.at.position < j → entered i (ts ++ t ∷ []) j cs ≡ entered i ts j cs
entered-elsewhere i ts t j [] below = refl
entered-elsewhere i ts t j (c ∷ cs) below =
    λ l. (c ++ at_position i (entry-push_elsewhere j ts t (λ same. omega arith) l)) ∷ entered-elsewhere i ts t
    (suc j) cs (omega arith) l

-- one more term stands at the end of the column at its position
pub entered-push : (i : ℕ) (ts : List (Term Place)) (t : Term Place) (j : ℕ) (cs : List (List (Term Place))) (n : ℕ)
    (c : List (Term Place)) → t.at.position ≡ j + n → n < length cs → c ≡ get_or (entered i ts j cs) n c
    → entered i (ts ++ t ∷ []) j cs ≡ slice_set (entered i ts j cs) n (c ++ in_row i t ∷ [])
entered-push i ts t j [] n e here inside read = absurd (omega arith)
entered-push i ts t j (c ∷ cs) zero e here inside read =
    λ l. (ap (λ es. c ++ es) (at_position-append i j ts t (omega arith)) ∙ sym (append_assoc c (at_position i (entry j ts)) (in_row i t ∷ [])) ∙ ap (λ es. es ++ in_row i t ∷ []) (sym read)) l
    ∷ entered-elsewhere i ts t (suc j) cs (omega arith) l
entered-push i ts t j (c ∷ cs) (suc n) e here inside read =
    λ l. (c ++ at_position i (entry-push_elsewhere j ts t (λ same. omega arith) l)) ∷ entered-push i ts t (suc j) cs n e
    (omega arith) (omega arith) read l

-- a row entered into the columns of the rows before it
pub entered-column_lists : (vs : List Vector) (v : Vector) (j : ℕ) (ds : List ℤ)
    → entered (length vs) v.terms j (column_lists vs j ds) ≡ column_lists (vs ++ v ∷ []) j ds
entered-column_lists vs v j [] = refl
entered-column_lists vs v j (d ∷ ds) = λ l. sym (column_terms-push j 0 vs v (length vs) (omega arith)) l ∷ entered-column_lists vs v (suc j) ds l

pub length-column_lists : (vs : List Vector) (j : ℕ) (ds : List ℤ) → length (column_lists vs j ds) ≡ length ds
length-column_lists vs j [] = refl
length-column_lists vs j (d ∷ ds) = ap suc (length-column_lists vs (suc j) ds)

-- one more empty column
pub column_lists-empty : (cs : List (List (Term Place))) (i : ℕ) (ds : List ℤ) (whole : List (List (Term Place)))
    → i < length ds → cs ++ column_lists [] i (drop i ds) ≡ whole
    → (cs ++ [] ∷ []) ++ column_lists [] (i + 1) (drop (i + 1) ds) ≡ whole
column_lists-empty cs i ds whole below h =
    append_assoc cs ([] ∷ []) (column_lists [] (i + 1) (drop (i + 1) ds))
    ∙ ap (λ es. cs ++ es) (sym (ap (column_lists [] i) (drop_more ds i (get_or ds i (pos 0)) below) ∙ ap (λ n. [] ∷ column_lists [] n (drop (i + 1) ds)) (let next : suc i ≡ i + 1 = omega arith in next)))
    ∙ h

-- the row at a place entered into the columns of the rows before it
pub column_lists-take : (rows : List Vector) (i : ℕ) (v : Vector) (ds : List ℤ) → slice_get rows i ≡ Some v
    → entered i v.terms 0 (column_lists (take i rows) 0 ds) ≡ column_lists (take (i + 1) rows) 0 ds
column_lists-take rows i v ds read =
    let below = slice_get_within rows i v read in
    let size : length (take i rows) ≡ i = length-take-le i rows (omega arith) in
    subst (λ n. entered n v.terms 0 (column_lists (take i rows) 0 ds) ≡ column_lists (take i rows ++ v ∷ []) 0 ds) size
    (entered-column_lists (take i rows) v 0 ds)
    ∙ ap (λ vs. column_lists vs 0 ds) (sym (take-slice_get rows i v read))
