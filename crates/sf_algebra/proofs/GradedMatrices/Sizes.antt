-- The size of a matrix is within bounds where its numbers of rows and columns, its least degree and its greatest are.
use Rattle.std.proofs.Common.{inl, inr, ◌↔◌, List, [], ◌∷◌, ◌++◌, length, ℤ, pos, neg_ℤ, ◌≤ℤ◌, arith, subst, sym}
use Rattle.std.proofs.lemmas.Int.{ints}
use Rattle.std.specs.List.{AllByRecursion}
use Rattle.sf_algebra.specs.Bounds.{AreFrom, Fits, GREATEST_DEGREE, HasSmallSize, IsOneOf, IsSmallDegree}
use Rattle.sf_algebra.specs.Matrices.{Matrix, row_degrees}
use Rattle.sf_algebra.proofs.Basics.Lists.{AllByRecursion-append, AllByRecursion-weaken}

one_small : (d : ℤ) (es : List ℤ) → AllByRecursion IsSmallDegree es → IsOneOf d es → IsSmallDegree d
one_small d [] h one = absurd one
one_small d (e ∷ es) h (inl same) = subst IsSmallDegree (sym same) h.0
one_small d (e ∷ es) h (inr other) = one_small d es h.1 other

first_all : (P : ℤ → Type 0) (ds es : List ℤ) → AllByRecursion P (ds ++ es) → AllByRecursion P ds
first_all P [] es h = tt
first_all P (d ∷ ds) es h = (h.0, first_all P ds es h.1)

last_all : (P : ℤ → Type 0) (ds es : List ℤ) → AllByRecursion P (ds ++ es) → AllByRecursion P es
last_all P [] es h = h
last_all P (d ∷ ds) es h = last_all P ds es h.1

-- degrees between two that are within bounds are
between_small : (low high d : ℤ) → neg_ℤ GREATEST_DEGREE ≤ℤ low → high ≤ℤ GREATEST_DEGREE → (low ≤ℤ d) × (d ≤ℤ high)
    → IsSmallDegree d
between_small low high d least greatest h = (omega (arith, ints, least, h.0), omega (arith, ints, greatest, h.1))

pub HasSmallSize-Fits : (m : Matrix) (low high : ℤ) → AreFrom low high (row_degrees m ++ m.target)
    → HasSmallSize m ↔ Fits (length m.rows) (length m.target) low high
HasSmallSize-Fits m low high range = (
  (λ h.
      let degrees : AllByRecursion IsSmallDegree (pos 0 ∷ (row_degrees m ++ m.target)) =
      ((omega (arith, ints), omega (arith, ints)), AllByRecursion-append IsSmallDegree (row_degrees m) m.target h.row_degrees h.column_degrees) in
      (h.rows, (h.columns, ((one_small low (pos 0 ∷ (row_degrees m ++ m.target)) degrees range.least).0, (one_small high (pos 0 ∷ (row_degrees m ++ m.target)) degrees range.greatest).1)))),
  (λ h.
      let degrees =
      AllByRecursion-weaken _ IsSmallDegree (λ d k. between_small low high d h.1.1.0 h.1.1.1 k)
      (row_degrees m ++ m.target) range.between in
      record {
        rows = h.0;
        columns = h.1.0;
        row_degrees = first_all IsSmallDegree (row_degrees m) m.target degrees;
        column_degrees = last_all IsSmallDegree (row_degrees m) m.target degrees;
      }),
)
