-- Matrices whose size or degrees are at a bound, or one past it.
use Rattle.std.proofs.Common.{ℕ, zero, suc, ◌≤◌, [], length, replicate, ℤ, pos, neg_ℤ, sym, subst, arith}
use Rattle.std.specs.List.{AllByRecursion}
use Rattle.std.proofs.lemmas.Int.{ints}
use Rattle.std.proofs.lemmas.List.{length-replicate}
use Rattle.sf_algebra.specs.Bounds.{GREATEST_SIZE, IsSmallDegree, HasSmallSize}
use Rattle.sf_algebra.specs.Matrices.{row_degrees}
use Rattle.sf_algebra.specs.Vectors.{Vector}
use Rattle.sf_groebner.specs.BoundsExamples.{zeros, HasSmallSizeAtBounds, RefusesOneMoreRow, RefusesOneMoreColumn, RefusesGreaterDegree, RefusesLesserDegree}

-- what holds of an item holds of each of its copies
AllByRecursion-replicate : {A : Type 0} (P : A → Type 0) (n : ℕ) (x : A) → P x → AllByRecursion P (replicate n x)
AllByRecursion-replicate P zero x holds = tt
AllByRecursion-replicate P (suc n) x holds = (holds, AllByRecursion-replicate P n x holds)

copies_at_most : {A : Type 0} (n : ℕ) (x : A) → n ≤ GREATEST_SIZE → length (replicate n x) ≤ GREATEST_SIZE
copies_at_most n x few = subst (λ k. k ≤ GREATEST_SIZE) (sym (length-replicate n x)) few

small_rows : (rows columns : ℕ) (d : ℤ) → IsSmallDegree d
    → AllByRecursion IsSmallDegree (row_degrees (zeros rows columns d))
small_rows zero columns d small = tt
small_rows (suc rows) columns d small = (small, small_rows rows columns d small)

pub HasSmallSize-zeros : (rows columns : ℕ) (d : ℤ) → rows ≤ GREATEST_SIZE → columns ≤ GREATEST_SIZE → IsSmallDegree d
    → HasSmallSize (zeros rows columns d)
HasSmallSize-zeros rows columns d few narrow small = record {
  rows = copies_at_most rows _ few;
  columns = copies_at_most columns d narrow;
  row_degrees = small_rows rows columns d small;
  column_degrees = AllByRecursion-replicate IsSmallDegree columns d small;
}

pub zeros-at_bounds : HasSmallSizeAtBounds
zeros-at_bounds = (
  HasSmallSize-zeros 4096 4096 (pos 8000) (omega arith) (omega arith) (omega (arith, ints), omega (arith, ints)),
  HasSmallSize-zeros 4096 4096 (neg_ℤ (pos 8000)) (omega arith) (omega arith)
      (omega (arith, ints), omega (arith, ints)),
)

pub refuses_one_more_row : RefusesOneMoreRow
refuses_one_more_row limit basis small =
    omega (arith, length-replicate {A = Vector} 4097 (record { degree = pos 0; terms = [] }), small.size.rows)

pub refuses_one_more_column : RefusesOneMoreColumn
refuses_one_more_column limit basis small = omega (arith, length-replicate 4097 (pos 0), small.size.columns)

pub refuses_greater_degree : RefusesGreaterDegree
refuses_greater_degree limit basis small = omega (arith, ints, small.size.column_degrees.0.1)

pub refuses_lesser_degree : RefusesLesserDegree
refuses_lesser_degree limit basis small = omega (arith, ints, small.size.column_degrees.0.0)
