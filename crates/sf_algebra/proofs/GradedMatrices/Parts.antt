-- Parts of a matrix: their entries, and parts of parts, of stacks and of transposes.
use Rattle.std.proofs.Common.{◌≡◌, refl, ℕ, ◌+◌, ◌-◌, ◌<◌, ◌≤◌, List, [], map, length, drop, slice_range, neg_ℤ, sym, ap, ◌∙◌, inl, inr, arith, add_assoc, length-take}
use Rattle.std.proofs.lemmas.Bool.{cases_lt}
use Rattle.std.proofs.lemmas.List.{map-append}
use Rattle.sf_algebra.specs.Matrices.{Matrix, row_degrees, IsMatrix}
use Rattle.sf_algebra.specs.MatrixOperations.{row_at, part, part_terms, stacked, transposed}
use Rattle.sf_algebra.specs.Rings.{Ring}
use Rattle.sf_algebra.specs.Terms.{Term}
use Rattle.sf_algebra.specs.Vectors.{Place, Vector, entry, IsVector, IsCanonicalRow}
use Rattle.sf_algebra.proofs.Basics.Lists.{AllByRecursion-weaken}
use Rattle.sf_algebra.proofs.GradedMatrices.MatrixRows.{with_terms, row_at-drop, row_at-take, same_matrices}
use Rattle.sf_algebra.proofs.GradedMatrices.PartTerms.{entry-part_terms, IsWithin-part_terms, part_terms-whole, IsCanonical-part_terms, IsVector-part_terms}
use Rattle.sf_algebra.proofs.GradedMatrices.Ranges.{AllByRecursion-slice_range, slice_range-map, slice_range-whole, slice_range-first, slice_range-second, slice_range-slice_range, slice_range-append}
use Rattle.sf_algebra.proofs.GradedMatrices.Stacks.{AllByRecursion-map, degrees-with_terms, with_terms-with_terms, with_terms-each, with_terms-same}
use Rattle.sf_algebra.proofs.GradedMatrices.Transposes.{IsMatrix-transposed, entry-outside, entry-transposed, row_degrees-transposed}
use Rattle.sf_algebra.proofs.Vectors.Positions.{same_from_entries}
use Rattle.sf_algebra.proofs.Vectors.Rows.{row_at-map, row_at-past}

module _ (r0 r1 c0 c1 : ℕ) (m : Matrix) where
  pub IsMatrix-part : IsMatrix m → IsMatrix (part r0 r1 c0 c1 m)
  IsMatrix-part h =
      AllByRecursion-map (IsVector m.ring (slice_range m.target c0 c1))
      (λ (v : Vector). record { degree = v.degree; terms = part_terms c0 c1 v.terms }) (slice_range m.rows r0 r1)
      (AllByRecursion-weaken _ _ (IsVector-part_terms m.ring m.target c0 c1) (slice_range m.rows r0 r1) (AllByRecursion-slice_range _ m.rows r0 r1 h))

  pub row_degrees-part : row_degrees (part r0 r1 c0 c1 m) ≡ slice_range (row_degrees m) r0 r1
  row_degrees-part =
      degrees-with_terms (part_terms c0 c1) (slice_range m.rows r0 r1)
      ∙ sym (slice_range-map (λ (v : Vector). v.degree) m.rows r0 r1)

  pub row_at-part : (i : ℕ) → r0 + i < r1
      → row_at (part r0 r1 c0 c1 m).rows i ≡ part_terms c0 c1 (row_at m.rows (r0 + i))
  row_at-part i inside =
      row_at-map (part_terms c0 c1) refl (slice_range m.rows r0 r1) i
      ∙ ap (part_terms c0 c1)
      (row_at-take (r1 - r0) (drop r0 m.rows) i (omega arith) ∙ row_at-drop r0 m.rows i (r0 + i) refl)

  pub row_at-part_past : (i : ℕ) → r1 ≤ r0 + i → row_at (part r0 r1 c0 c1 m).rows i ≡ []
  row_at-part_past i past =
      let size : length (slice_range m.rows r0 r1) ≤ i = rw length-take (omega arith) in
      row_at-map (part_terms c0 c1) refl (slice_range m.rows r0 r1) i
      ∙ ap (part_terms c0 c1) (row_at-past (slice_range m.rows r0 r1) i size)

  pub entry-part : (i j : ℕ) → r0 + i < r1 → c0 + j < c1
      → entry j (row_at (part r0 r1 c0 c1 m).rows i) ≡ entry (c0 + j) (row_at m.rows (r0 + i))
  entry-part i j row column =
      ap (entry j) (row_at-part i row) ∙ entry-part_terms c0 c1 j (row_at m.rows (r0 + i)) column

  pub entry-part_past_row : (i j : ℕ) → r1 ≤ r0 + i → entry j (row_at (part r0 r1 c0 c1 m).rows i) ≡ []
  entry-part_past_row i j past = ap (entry j) (row_at-part_past i past)

  pub entry-part_past_column : (i j : ℕ) → c1 ≤ c0 + j → entry j (row_at (part r0 r1 c0 c1 m).rows i) ≡ []
  entry-part_past_column i j past =
      ap (entry j) (row_at-map (part_terms c0 c1) refl (slice_range m.rows r0 r1) i)
      ∙ entry-outside (c1 - c0) (part_terms c0 c1 (row_at (slice_range m.rows r0 r1) i)) j
      (IsWithin-part_terms c0 c1 (row_at (slice_range m.rows r0 r1) i)) (omega arith)

-- the whole of a matrix
pub part-whole : (m : Matrix) → IsMatrix m → part 0 (length m.rows) 0 (length m.target) m ≡ m
part-whole m h =
    let n = length m.target in
    let rows = ap (with_terms (part_terms 0 n)) (slice_range-whole m.rows (length m.rows) (omega arith))
    ∙ with_terms-same (part_terms 0 n) m.rows
    (AllByRecursion-weaken _ _ (λ v k. part_terms-whole n v.terms (AllByRecursion-weaken _ _ (λ t e. e.0) v.terms k.homogeneous)) m.rows h) in
    λ i. record { ring = m.ring; target = slice_range-whole m.target n (omega arith) i; rows = rows i }

-- the terms in a range of a range
pub part_terms-part_terms : (ring : Ring) (from to a b : ℕ) (ts : List (Term Place)) → from + b ≤ to
    → IsCanonicalRow ring ts → part_terms a b (part_terms from to ts) ≡ part_terms (from + a) (from + b) ts
part_terms-part_terms ring from to a b ts inside h =
    same_from_entries ring.weights _ _
    (IsCanonical-part_terms ring a b _ (IsCanonical-part_terms ring from to ts h)).descending
    (IsCanonical-part_terms ring (from + a) (from + b) ts h).descending
    (λ j. elim (cases_lt (a + j) b) [
      | inl within ↦
          entry-part_terms a b j (part_terms from to ts) within
          ∙ entry-part_terms from to (a + j) ts (omega arith)
          ∙ ap (λ n. entry n ts) (sym (add_assoc from a j))
          ∙ sym (entry-part_terms (from + a) (from + b) j ts (omega arith))
      | inr past ↦
          entry-outside (b - a) (part_terms a b (part_terms from to ts)) j
          (IsWithin-part_terms a b (part_terms from to ts)) (omega arith)
          ∙ sym (entry-outside ((from + b) - (from + a)) (part_terms (from + a) (from + b) ts) j (IsWithin-part_terms (from + a) (from + b) ts) (omega arith))
    ])

-- a part of a part
pub part-part : (r0 r1 c0 c1 s0 s1 d0 d1 : ℕ) (m : Matrix) → IsMatrix m → r0 + s1 ≤ r1 → c0 + d1 ≤ c1
    → part s0 s1 d0 d1 (part r0 r1 c0 c1 m) ≡ part (r0 + s0) (r0 + s1) (c0 + d0) (c0 + d1) m
part-part r0 r1 c0 c1 s0 s1 d0 d1 m h row column =
    let few = slice_range m.rows (r0 + s0) (r0 + s1) in
    let rows = ap (with_terms (part_terms d0 d1)) (slice_range-map (λ (v : Vector). record { degree = v.degree; terms = part_terms c0 c1 v.terms }) (slice_range m.rows r0 r1) s0 s1)
    ∙ ap (λ vs. with_terms (part_terms d0 d1) (with_terms (part_terms c0 c1) vs))
    (slice_range-slice_range m.rows r0 r1 s0 s1 row)
    ∙ with_terms-with_terms (part_terms d0 d1) (part_terms c0 c1) few
    ∙ with_terms-each (λ ts. part_terms d0 d1 (part_terms c0 c1 ts)) (part_terms (c0 + d0) (c0 + d1)) few
    (AllByRecursion-weaken _ _ (λ v k. part_terms-part_terms m.ring c0 c1 d0 d1 v.terms column k.canonical) few (AllByRecursion-slice_range _ m.rows (r0 + s0) (r0 + s1) h)) in
    λ i. record { ring = m.ring; target = slice_range-slice_range m.target c0 c1 d0 d1 column i; rows = rows i }

-- the first matrix of a stack, and the second
pub part-stacked_first : (a b : Matrix) → IsMatrix a → part 0 (length a.rows) 0 (length a.target) (stacked a b) ≡ a
part-stacked_first a b h =
    (λ i. record {
      ring = a.ring;
      target = slice_range a.target 0 (length a.target);
      rows =
          with_terms (part_terms 0 (length a.target))
          ((slice_range-first a.rows b.rows (length a.rows) refl ∙ sym (slice_range-whole a.rows (length a.rows) (omega arith))) i);
    })
    ∙ part-whole a h

pub part-stacked_second : (a b : Matrix) → a.ring ≡ b.ring → a.target ≡ b.target → IsMatrix b
    → part (length a.rows) (length a.rows + length b.rows) 0 (length b.target) (stacked a b) ≡ b
part-stacked_second a b rings targets h =
    (λ i. record {
      ring = rings i;
      target = slice_range (targets i) 0 (length b.target);
      rows =
          with_terms (part_terms 0 (length b.target))
          ((slice_range-second a.rows b.rows (length a.rows) (length a.rows + length b.rows) refl (omega arith) ∙ sym (slice_range-whole b.rows (length b.rows) (omega arith))) i);
    })
    ∙ part-whole b h

-- rows of a matrix, and the rows behind them
pub stacked-parts : (r0 r1 r2 c0 c1 : ℕ) (m : Matrix) → r0 ≤ r1 → r1 ≤ r2
    → stacked (part r0 r1 c0 c1 m) (part r1 r2 c0 c1 m) ≡ part r0 r2 c0 c1 m
stacked-parts r0 r1 r2 c0 c1 m first second =
    let rows = sym (map-append (λ (v : Vector). record { degree = v.degree; terms = part_terms c0 c1 v.terms }) (slice_range m.rows r0 r1) (slice_range m.rows r1 r2))
    ∙ ap (with_terms (part_terms c0 c1)) (slice_range-append m.rows r0 r1 r2 first second) in
    λ i. record { ring = m.ring; target = slice_range m.target c0 c1; rows = rows i }

-- rows in all columns
pub rows-part : (r0 r1 : ℕ) (m : Matrix) → IsMatrix m
    → (part r0 r1 0 (length m.target) m).rows ≡ slice_range m.rows r0 r1
rows-part r0 r1 m h =
    with_terms-same (part_terms 0 (length m.target)) (slice_range m.rows r0 r1)
    (AllByRecursion-weaken _ _ (λ v k. part_terms-whole (length m.target) v.terms (AllByRecursion-weaken _ _ (λ t e. e.0) v.terms k.homogeneous)) (slice_range m.rows r0 r1) (AllByRecursion-slice_range _ m.rows r0 r1 h))

-- the transpose of a part is the part of the transpose, rows and columns exchanged
pub transposed-part : (r0 r1 c0 c1 : ℕ) (m : Matrix) → IsMatrix m
    → transposed (part r0 r1 c0 c1 m) ≡ part c0 c1 r0 r1 (transposed m)
transposed-part r0 r1 c0 c1 m h =
    let k = IsMatrix-part r0 r1 c0 c1 m h in
    let t = IsMatrix-transposed m h in
    same_matrices (transposed (part r0 r1 c0 c1 m)) (part c0 c1 r0 r1 (transposed m))
    (IsMatrix-transposed (part r0 r1 c0 c1 m) k) (IsMatrix-part c0 c1 r0 r1 (transposed m) t) refl
    (ap (map neg_ℤ) (row_degrees-part r0 r1 c0 c1 m) ∙ sym (slice_range-map neg_ℤ (row_degrees m) r0 r1))
    (row_degrees-transposed (part r0 r1 c0 c1 m)
    ∙ sym (slice_range-map neg_ℤ m.target c0 c1)
    ∙ ap (λ ds. slice_range ds c0 c1) (sym (row_degrees-transposed m))
    ∙ sym (row_degrees-part c0 c1 r0 r1 (transposed m)))
    (λ i j.
    entry-transposed (part r0 r1 c0 c1 m) k j i
    ∙ elim (cases_lt (r0 + j) r1) [
      | inl row ↦ elim (cases_lt (c0 + i) c1) [
        | inl column ↦
            entry-part r0 r1 c0 c1 m j i row column
            ∙ sym (entry-transposed m h (r0 + j) (c0 + i))
            ∙ sym (entry-part c0 c1 r0 r1 (transposed m) i j column row)
        | inr past ↦ entry-part_past_column r0 r1 c0 c1 m j i past
            ∙ sym (entry-part_past_row c0 c1 r0 r1 (transposed m) i j past)
      ]
      | inr past ↦ entry-part_past_row r0 r1 c0 c1 m j i past
          ∙ sym (entry-part_past_column c0 c1 r0 r1 (transposed m) i j past)
    ])
