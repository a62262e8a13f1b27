-- Usual modules and maps have room beside one another.
use Rattle.std.proofs.Common.{◌≡◌, ◌*◌, ◌^◌, ◌≤◌, ℕ, List, length, map, sym, subst, arith, ℤ, neg_ℤ, ◌+ℤ◌}
use Rattle.std.proofs.lemmas.Int.{ints}
use Rattle.std.proofs.lemmas.List.{length-map}
use Rattle.std.proofs.Math.Nat.{mul-le-mul}
use Rattle.std.specs.List.{AllByRecursion}
use Rattle.sf_algebra.specs.Matrices.{Matrix, row_degrees}
use Rattle.sf_algebra.specs.MatrixOperations.{transposed}
use Rattle.sf_algebra.specs.Vectors.{Vector}
use Rattle.sf_algebra.proofs.Basics.Lists.{AllByRecursion-weaken}
use Rattle.sf_algebra.proofs.GradedMatrices.Stacks.{AllByRecursion-map}
use Rattle.sf_algebra.proofs.GradedMatrices.Transposes.{row_degrees-transposed}
use Rattle.sf_matrix.specs.Bounds.{HasNegative, IsDegree, SumsFit}
use Rattle.sf_derived.specs.Room.{AreUsual, HasRoomBeside, IsUsual, IsUsualDegree}

sum_fits : (d e : ℤ) → IsUsualDegree d → IsUsualDegree e → IsDegree (d +ℤ e)
sum_fits d e h k = (omega (arith, ints, h.0, h.1, k.0, k.1), omega (arith, ints, h.0, h.1, k.0, k.1))

sums_fit : (ds es : List ℤ) → AreUsual ds → AreUsual es → SumsFit ds es
sums_fit ds es h k =
    AllByRecursion-weaken IsUsualDegree _ (λ d f. AllByRecursion-weaken IsUsualDegree _ (λ e g. sum_fits d e f g) es k.within)
    ds h.within

product_fits : (k l : ℕ) → k ≤ 2 ^ 31 → l ≤ 2 ^ 31 → k * l ≤ 4611686018427387904
product_fits k l h m = mul-le-mul h m

length-degrees : (m : Matrix) → length (row_degrees m) ≡ length m.rows
length-degrees m = length-map m.rows (λ (v : Vector). v.degree)

pub room_beside : (a n : Matrix) → IsUsual a → IsUsual n → HasRoomBeside a n
room_beside a n h k =
    let a_rows : length a.rows ≤ 2 ^ 31 = subst (λ l. l ≤ 2 ^ 31) (length-degrees a) h.relations.number in
    let n_rows : length n.rows ≤ 2 ^ 31 = subst (λ l. l ≤ 2 ^ 31) (length-degrees n) k.relations.number in
    let first = product_fits (length a.rows) (length n.target) a_rows k.generators.number in
    let second = product_fits (length a.target) (length n.rows) h.generators.number n_rows in
    let columns = product_fits (length a.target) (length n.target) h.generators.number k.generators.number in
    record {
      rows = omega (arith, first, second);
      columns = omega (arith, columns);
      target = sums_fit a.target n.target h.generators k.generators;
      source = sums_fit (row_degrees a) n.target h.relations k.generators;
      relations = sums_fit a.target (row_degrees n) h.generators k.relations;
    }

-- negatives are usual, and have room
negative_usual : (d : ℤ) → IsUsualDegree d → IsUsualDegree (neg_ℤ d)
negative_usual d h = (omega (arith, ints, h.0, h.1), omega (arith, ints, h.0, h.1))

pub negatives_usual : (ds : List ℤ) → AreUsual ds → AreUsual (map neg_ℤ ds)
negatives_usual ds h = record {
  number = subst (λ l. l ≤ 2 ^ 31) (sym (length-map ds neg_ℤ)) h.number;
  within = AllByRecursion-map IsUsualDegree neg_ℤ ds
      (AllByRecursion-weaken IsUsualDegree (λ d. IsUsualDegree (neg_ℤ d)) negative_usual ds h.within);
}

pub transposed_usual : (m : Matrix) → IsUsual m → IsUsual (transposed m)
transposed_usual m h = record {
  generators = negatives_usual (row_degrees m) h.relations;
  relations = subst AreUsual (sym (row_degrees-transposed m)) (negatives_usual m.target h.generators);
}

has_negative : (d : ℤ) → IsUsualDegree d → HasNegative d
has_negative d h = omega (arith, ints, h.0, h.1)

pub have_negatives : (ds : List ℤ) → AreUsual ds → AllByRecursion HasNegative ds
have_negatives ds h = AllByRecursion-weaken IsUsualDegree HasNegative has_negative ds h.within
