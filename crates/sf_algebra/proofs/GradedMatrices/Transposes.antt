-- The transpose: its entries, and that a second one undoes the first.
use Rattle.std.proofs.Common.{◌≡◌, refl, ℕ, zero, suc, ◌+◌, ◌<◌, ◌≤◌, List, [], ◌∷◌, ◌++◌, map, length, ℤ, pos, neg_ℤ, sym, ap, ◌∙◌, subst, inl, inr, arith, append_assoc}
use Rattle.std.specs.List.{AllByRecursion}
use Rattle.std.proofs.lemmas.Bool.{cases_lt}
use Rattle.std.proofs.lemmas.List.{get_or_at}
use Rattle.std.proofs.Math.IntN.{neg_ℤ-neg_ℤ}
use Rattle.std.proofs.Math.ListN.{length-append}
use Rattle.sf_algebra.specs.Matrices.{Matrix, row_degrees, IsMatrix}
use Rattle.sf_algebra.specs.MatrixOperations.{row_at, column_terms, column_rows, transposed}
use Rattle.sf_algebra.specs.Rings.{Ring}
use Rattle.sf_algebra.specs.Terms.{Term}
use Rattle.sf_algebra.specs.Vectors.{Place, Vector, entry, IsVector}
use Rattle.sf_algebra.proofs.Basics.Lists.{AllByRecursion-weaken}
use Rattle.sf_algebra.proofs.GradedMatrices.Columns.{entry-column_terms, IsDescending-column_terms, IsVector-column}
use Rattle.sf_algebra.proofs.GradedMatrices.MatrixRows.{StandsWithin, IsCanonical-matrix_row, IsWithin-matrix_row, same_matrices}
use Rattle.sf_algebra.proofs.Vectors.Entries.{entry-elsewhere}
use Rattle.sf_algebra.proofs.Vectors.Positions.{same_from_entries}
use Rattle.sf_algebra.proofs.Vectors.Rows.{row_at-past}

pub degrees-column_rows : (rows : List Vector) (j : ℕ) (ds : List ℤ)
    → map (λ (v : Vector). v.degree) (column_rows rows j ds) ≡ map neg_ℤ ds
degrees-column_rows rows j [] = refl
degrees-column_rows rows j (d ∷ ds) = ap (λ es. neg_ℤ d ∷ es) (degrees-column_rows rows (suc j) ds)

pub length-column_rows : (rows : List Vector) (j : ℕ) (ds : List ℤ) → length (column_rows rows j ds) ≡ length ds
length-column_rows rows j [] = refl
length-column_rows rows j (d ∷ ds) = ap suc (length-column_rows rows (suc j) ds)

-- with one more column
pub column_rows-push : (rows : List Vector) (j : ℕ) (ds : List ℤ) (d : ℤ) (n : ℕ) → n ≡ j + length ds
    → column_rows rows j (ds ++ d ∷ []) ≡ column_rows rows j ds ++ record {
      degree =
          neg_ℤ d;
      terms = column_terms n 0 rows;
    } ∷ []
column_rows-push rows j [] d n e =
    ap (λ m. record { degree = neg_ℤ d; terms = column_terms m 0 rows } ∷ []) (let same : j ≡ n = omega arith in same)
column_rows-push rows j (c ∷ ds) d n e =
    ap (λ vs. record { degree = neg_ℤ c; terms = column_terms j 0 rows } ∷ vs)
    (column_rows-push rows (suc j) ds d n (omega arith))

pub row_at-column_rows : (rows : List Vector) (j : ℕ) (ds : List ℤ) (k n : ℕ) → k < length ds → n ≡ j + k
    → row_at (column_rows rows j ds) k ≡ column_terms n 0 rows
row_at-column_rows rows j [] k n h e = absurd (omega arith)
row_at-column_rows rows j (d ∷ ds) zero n h e = ap (λ m. column_terms m 0 rows) (let same : j ≡ n = omega arith in same)
row_at-column_rows rows j (d ∷ ds) (suc k) n h e = row_at-column_rows rows (suc j) ds k n (omega arith) (omega arith)

-- past the last position there is nothing
pub entry-outside : (n : ℕ) (ts : List (Term Place)) (j : ℕ) → StandsWithin n ts → n ≤ j → entry j ts ≡ []
entry-outside n [] j h le = refl
entry-outside n (t ∷ ts) j h le = entry-elsewhere j t ts (λ e. omega (arith, h.0)) ∙ entry-outside n ts j h.1 le

module _ (ring : Ring) (rows : List Vector) where
  IsVector-columns : (front ds : List ℤ) (j : ℕ) → j ≡ length front → AllByRecursion (IsVector ring (front ++ ds)) rows
      → AllByRecursion (IsVector ring (map neg_ℤ (map (λ (v : Vector). v.degree) rows))) (column_rows rows j ds)
  IsVector-columns front [] j e h = tt
  IsVector-columns front (d ∷ ds) j e h =
      let size : suc j ≡ length (front ++ d ∷ []) = rw length-append (omega arith) in (
        IsVector-column j ring (front ++ d ∷ ds) d rows (get_or_at front d ds (pos 0) j (sym e)) h,
        IsVector-columns (front ++ d ∷ []) ds (suc j) size
            (subst (λ all. AllByRecursion (IsVector ring all) rows) (sym (append_assoc front (d ∷ []) ds)) h),
      )

pub IsMatrix-transposed : (m : Matrix) → IsMatrix m → IsMatrix (transposed m)
IsMatrix-transposed m h = IsVector-columns m.ring m.rows [] m.target 0 refl h

pub row_degrees-transposed : (m : Matrix) → row_degrees (transposed m) ≡ map neg_ℤ m.target
row_degrees-transposed m = degrees-column_rows m.rows 0 m.target

-- the entry at (j, i) is the matrix's at (i, j)
pub entry-transposed : (m : Matrix) → IsMatrix m → (i j : ℕ)
    → entry i (row_at (transposed m).rows j) ≡ entry j (row_at m.rows i)
entry-transposed m h i j =
    elim (cases_lt j (length m.target)) [
      | inl inside ↦ ap (entry i) (row_at-column_rows m.rows 0 m.target j j inside (omega arith))
          ∙ entry-column_terms j 0 m.rows i i (omega arith)
      | inr past ↦
          let none : row_at (transposed m).rows j ≡ [] =
          row_at-past (column_rows m.rows 0 m.target) j (rw length-column_rows past) in
          ap (entry i) none ∙ sym
          (entry-outside (length m.target) (row_at m.rows i) j (IsWithin-matrix_row m.ring m.target m.rows h i) past)
    ]

pub map-neg-neg : (ds : List ℤ) → map neg_ℤ (map neg_ℤ ds) ≡ ds
map-neg-neg [] = refl
map-neg-neg (d ∷ ds) = λ i. neg_ℤ-neg_ℤ d i ∷ map-neg-neg ds i

pub transposed-transposed : (m : Matrix) → IsMatrix m → transposed (transposed m) ≡ m
transposed-transposed m h =
    let k = IsMatrix-transposed m h in
    same_matrices (transposed (transposed m)) m (IsMatrix-transposed (transposed m) k) h refl
    (ap (map neg_ℤ) (row_degrees-transposed m) ∙ map-neg-neg m.target)
    (row_degrees-transposed (transposed m) ∙ map-neg-neg (row_degrees m))
    (λ i j. entry-transposed (transposed m) k j i ∙ entry-transposed m h i j)

-- a row is the list of its entries, which are those of the transpose's rows
pub row_at-entries : (m : Matrix) → IsMatrix m → (i : ℕ) → row_at m.rows i ≡ column_terms i 0 (transposed m).rows
row_at-entries m h i =
    let rows =
    AllByRecursion-weaken _ _ (λ v k. k.canonical.descending) (transposed m).rows (IsMatrix-transposed m h) in
    same_from_entries m.ring.weights _ _ (IsCanonical-matrix_row m.ring m.target m.rows h i).descending
    (IsDescending-column_terms i m.ring.weights 0 (transposed m).rows rows)
    (λ j. sym (entry-column_terms i 0 (transposed m).rows j j (omega arith) ∙ entry-transposed m h i j))
