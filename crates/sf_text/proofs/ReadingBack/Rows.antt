-- The rows of a matrix, as they are printed, read back.
use Rattle.std.proofs.Common.{◌≡◌, ◌⊎◌, inl, inr, ℕ, zero, suc, ◌+◌, ◌<◌, ◌≤◌, List, [], ◌∷◌, ◌++◌, length, take, map, ◌==◌, true, false, cond, Bool, Some, None, refl, ap, ◌∙◌, length-append, ◌-◌, arith}
use Rattle.std.specs.List.{AllByRecursion, range_with_len, cons_option, join_with_byte}
use Rattle.std.specs.Option.{option_map, option_and_then}
use Rattle.std.proofs.Math.Seq.{take-append_seam}
use Rattle.sf_algebra.specs.Monomials.{Monomial}
use Rattle.sf_algebra.specs.Printing.{polynomial_text, row_text, rows_text, comma, semicolon}
use Rattle.sf_algebra.specs.Terms.{Term}
use Rattle.sf_algebra.specs.Vectors.{Place, Vector, entry}
use Rattle.sf_algebra.proofs.Basics.Lists.{AllByRecursion-append, AllByRecursion-weaken}
use Rattle.sf_algebra.proofs.Vectors.Entries.{without_position}
use Rattle.sf_text.specs.MatrixText.{all_of, entry_of, row_of, rows_of, closing, in_brackets, matrix_written}
use Rattle.sf_text.specs.ReadingBack.{inner}
use Rattle.sf_text.specs.Raw.{RawTerm}
use Rattle.sf_grammar.specs.Words.{parts}
use Rattle.sf_text.specs.declared.raw.RawMatrix.{RawMatrix}
use Rattle.sf_text.proofs.ReadingBack.OneWord.{IsPrintedByte, IsPrinted}
use Rattle.sf_text.proofs.ReadingBack.Joined.{joined-each, each-weaken, Lacks, parts-joined, before-first, behind-first}
use Rattle.sf_text.proofs.ReadingBack.Factors.{AreNames}
use Rattle.sf_text.proofs.ReadingBack.Terms.{IsEntryByte, IsWritableTerm, raw_entry, polynomial_text-each, entry_of-polynomial, all_of-map}

-- the terms of a row that the grammar can write
abbrev pub HasWritableTerms : List (List ℕ) → List (Term Place) → Type 0
HasWritableTerms names ts = AllByRecursion (λ t. IsWritableTerm names (without_position t)) ts

-- a fact of each term of a row, of those of an entry
pub entry-each : (P : Term Monomial → Type 0) (i : ℕ) (ts : List (Term Place))
    → AllByRecursion (λ t. P (without_position t)) ts → AllByRecursion P (entry i ts)
entry-each P i [] h = tt
entry-each P i (t ∷ ts) h = by (t.at.position == i) (entry-each P i ts h.1)
  where
    by : (here : Bool) → AllByRecursion P (entry i ts)
        → AllByRecursion P (cons_option (cond here (Some (without_position t)) None) (entry i ts))
    by true rest = (h.0, rest)
    by false rest = rest

-- a fact of each element
each : {X : Type 0} (P : X → Type 0) → ((x : X) → P x) → (xs : List X) → AllByRecursion P xs
each P h [] = tt
each P h (x ∷ xs) = (h x, each P h xs)

each-map : {X Y : Type 0} (P : Y → Type 0) (f : X → Y) (xs : List X) → AllByRecursion (λ x. P (f x)) xs
    → AllByRecursion P (map f xs)
each-map P f [] h = tt
each-map P f (x ∷ xs) h = (h.0, each-map P f xs h.1)

-- what is read of so many entries of a row, from a column on
abbrev pub raw_entries : List (List ℕ) → ℕ → ℕ → List (Term Place) → List (List RawTerm)
raw_entries names column n ts = map (λ i. raw_entry names (entry i ts)) (range_with_len column n)

abbrev pub raw_row : List (List ℕ) → ℕ → Vector → List (List RawTerm)
raw_row names columns v = raw_entries names 0 columns v.terms

-- a byte of a row
abbrev IsRowByte : ℕ → Type 0
IsRowByte b = IsEntryByte b ⊎ (b ≡ comma)

module _ (names : List (List ℕ)) (few : length names ≤ 6) (named : AreNames names) (columns : ℕ) where
  module _ (ts : List (Term Place)) (h : HasWritableTerms names ts) where
    entries-each : (is : List ℕ)
        → AllByRecursion (AllByRecursion IsEntryByte) (map (λ i. polynomial_text names (entry i ts)) is)
    entries-each is =
        each-map (AllByRecursion IsEntryByte) (λ i. polynomial_text names (entry i ts)) is
        (each _ (λ i. polynomial_text-each names few named (entry i ts) (entry-each (IsWritableTerm names) i ts h)) is)

    row_text-each : AllByRecursion IsRowByte (row_text names columns ts)
    row_text-each =
        joined-each IsRowByte comma (inr refl) (map (λ i. polynomial_text names (entry i ts)) (range_with_len 0 columns))
        (each-weaken _ _ (λ b k. inl k) _ (entries-each (range_with_len 0 columns)))

    entries-lack_comma : (is : List ℕ)
        → AllByRecursion (Lacks comma) (map (λ i. polynomial_text names (entry i ts)) is)
    entries-lack_comma is =
        each-weaken _ _ (λ b k not. omega arith) _ (entries-each is)

    entry-read : (i : ℕ) → entry_of (polynomial_text names (entry i ts)) ≡ Some (raw_entry names (entry i ts))
    entry-read i = entry_of-polynomial names few named (entry i ts) (entry-each (IsWritableTerm names) i ts h)

    row_of-text : 0 < columns → row_of (row_text names columns ts) ≡ Some (raw_entries names 0 columns ts)
    row_of-text some = by columns some
      where
        by : (n : ℕ) → 0 < n → row_of (row_text names n ts) ≡ Some (raw_entries names 0 n ts)
        by zero some = absurd (omega arith)
        by (suc n) some =
            let places = range_with_len 0 (suc n) in
            let text = λ (i : ℕ). polynomial_text names (entry i ts) in
            ap (all_of entry_of) (parts-joined comma (text 0) (map text (range_with_len 1 n)) (entries-lack_comma places))
            ∙ all_of-map entry_of text (λ i. raw_entry names (entry i ts)) places (each _ entry-read places)

  rows-each : (P : ℕ → Type 0) → ((b : ℕ) → IsRowByte b → P b) → (rows : List Vector)
      → AllByRecursion (λ (v : Vector). HasWritableTerms names v.terms) rows
      → AllByRecursion (AllByRecursion P) (map (λ (v : Vector). row_text names columns v.terms) rows)
  rows-each P f [] h = tt
  rows-each P f (v ∷ vs) h =
      (AllByRecursion-weaken _ _ f (row_text names columns v.terms) (row_text-each v.terms h.0), rows-each P f vs h.1)

  rows-read : 0 < columns → (rows : List Vector) → AllByRecursion (λ (v : Vector). HasWritableTerms names v.terms) rows
      → all_of row_of (map (λ (v : Vector). row_text names columns v.terms) rows) ≡ Some (map (raw_row names columns) rows)
  rows-read some [] h = refl
  rows-read some (v ∷ vs) h = rw (row_of-text v.terms h.0 some, rows-read some vs h.1)

-- an empty text is no row
rows_of-filled : (text : List ℕ) (rows : List (List (List RawTerm))) → all_of row_of (parts semicolon text) ≡ Some rows
    → rows_of text ≡ Some rows
rows_of-filled [] rows e = cc
rows_of-filled (b ∷ bs) rows e = e

rows_of-joined : (texts : List (List ℕ)) (rows : List (List (List RawTerm))) → AllByRecursion (Lacks semicolon) texts
    → all_of row_of texts ≡ Some rows → rows_of (join_with_byte semicolon texts) ≡ Some rows
rows_of-joined [] rows h e = e
rows_of-joined (x ∷ xs) rows h e =
    rows_of-filled (join_with_byte semicolon (x ∷ xs)) rows (ap (all_of row_of) (parts-joined semicolon x xs h) ∙ e)

-- what stands between two bytes
pub inner-between : (b c : ℕ) (text : List ℕ) → inner (b ∷ text ++ c ∷ []) ≡ text
inner-between b c text =
    let size : length (text ++ c ∷ []) ≡ length text + 1 = length-append text (c ∷ []) in
    let front : length (b ∷ text ++ c ∷ []) - 2 ≡ length text = omega arith in
    ap (λ n. take n (text ++ c ∷ [])) front ∙ take-append_seam text (c ∷ [])

-- a text in which no closing bracket stands is what stands between the brackets around it
in_brackets-around : (text : List ℕ) → Lacks closing text → in_brackets (91 ∷ text ++ 93 ∷ []) ≡ Some text
in_brackets-around text h = rw (behind-first closing text [] h, before-first closing text [] h)

matrix_written-brackets : (text : List ℕ) (rows : List (List (List RawTerm))) → Lacks closing text
    → rows_of text ≡ Some rows → matrix_written (91 ∷ text ++ 93 ∷ []) ≡ Some (record { rows = rows })
matrix_written-brackets text rows h e =
    ap (option_and_then (λ between. option_map as_matrix (rows_of between))) (in_brackets-around text h)
    ∙ ap (option_map as_matrix) e
  where
    as_matrix : List (List (List RawTerm)) → RawMatrix
    as_matrix rows = record { rows = rows }

pub matrix_written-rows : (names : List (List ℕ)) → length names ≤ 6 → AreNames names → (columns : ℕ) → 0 < columns
    → (rows : List Vector) → AllByRecursion (λ (v : Vector). HasWritableTerms names v.terms) rows
    → matrix_written (rows_text names columns rows) ≡ Some (record { rows = map (raw_row names columns) rows })
matrix_written-rows names few named zero some rows h = absurd (omega arith)
matrix_written-rows names few named (suc n) some rows h =
    let texts = map (λ (v : Vector). row_text names (suc n) v.terms) rows in
    let each_row = rows-each names few named (suc n) in
    matrix_written-brackets (join_with_byte semicolon texts) (map (raw_row names (suc n)) rows)
    (joined-each _ semicolon (λ is. omega arith) texts (each_row _ (λ b k is. omega arith) rows h))
    (rows_of-joined _ _ (each_row _ (λ b k is. omega arith) rows h) (rows-read names few named (suc n) some rows h))

-- no byte of the printed rows is a space or ends a line
pub rows_text-each : (names : List (List ℕ)) → length names ≤ 6 → AreNames names → (columns : ℕ) → 0 < columns
    → (rows : List Vector) → AllByRecursion (λ (v : Vector). HasWritableTerms names v.terms) rows
    → IsPrinted (rows_text names columns rows)
rows_text-each names few named zero some rows h = absurd (omega arith)
rows_text-each names few named (suc n) some rows h =
    let texts = map (λ (v : Vector). row_text names (suc n) v.terms) rows in (
      omega arith,
      AllByRecursion-append IsPrintedByte (join_with_byte semicolon texts) (93 ∷ [])
          (joined-each IsPrintedByte semicolon (omega arith) texts
          (rows-each names few named (suc n) IsPrintedByte (λ b e. omega arith) rows h)) (omega arith, tt),
    )
