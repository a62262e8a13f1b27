-- Laws of the product of matrices: the identity, associativity, stacks and negatives.
use Rattle.std.proofs.Common.{◌≡◌, refl, ℕ, ◌+◌, ◌<◌, List, ◌++◌, length, sym, ap, ◌∙◌, subst, inl, inr, arith}
use Rattle.std.proofs.lemmas.Bool.{cases_lt}
use Rattle.std.proofs.lemmas.List.{map-append, length-map}
use Rattle.sf_algebra.specs.Matrices.{Matrix, row_degrees, IsMatrix}
use Rattle.sf_algebra.specs.MatrixOperations.{row_at, row_combination, unit_rows, identity, stacked, negated, matrix_product}
use Rattle.sf_algebra.specs.Multiples.{negative}
use Rattle.sf_algebra.specs.Rings.{Ring}
use Rattle.sf_algebra.specs.Terms.{Term}
use Rattle.sf_algebra.specs.Vectors.{Place, Vector}
use Rattle.sf_algebra.proofs.Basics.Lists.{AllByRecursion-weaken}
use Rattle.sf_algebra.proofs.GradedMatrices.Columns.{AllByRecursion-always}
use Rattle.sf_algebra.proofs.GradedMatrices.Identities.{degrees-unit_rows, length-unit_rows}
use Rattle.sf_algebra.proofs.GradedMatrices.MatrixRows.{with_terms, same_rows, IsCanonical-matrix_row}
use Rattle.sf_algebra.proofs.GradedMatrices.Stacks.{degrees-with_terms, with_terms-with_terms, with_terms-each, with_terms-same}
use Rattle.sf_algebra.proofs.Vectors.RowParts.{row_combination-negated}
use Rattle.sf_algebra.proofs.Vectors.Rows.{row_at-past, row_at-matrix_product, row_combination-nil, row_combination-matrix_product, row_combination-negative}
use Rattle.sf_algebra.proofs.Vectors.UnitRows.{row_at-unit_rows, row_combination-unit, row_combination-unit_rows}

-- the identity before a matrix
pub matrix_product-identity_first : (m : Matrix) → 0 < m.ring.modulus → IsMatrix m
    → matrix_product (identity m.ring (row_degrees m)) m ≡ m
matrix_product-identity_first m positive h =
    let degrees =
    degrees-with_terms (row_combination m.ring m.rows) (unit_rows 0 (row_degrees m))
    ∙ degrees-unit_rows 0 (row_degrees m) in
    let rows : (matrix_product (identity m.ring (row_degrees m)) m).rows ≡ m.rows =
    same_rows (matrix_product (identity m.ring (row_degrees m)) m).rows m.rows degrees row in
    λ i. record { ring = m.ring; target = m.target; rows = rows i }
  where
    row : (i : ℕ) → row_at (matrix_product (identity m.ring (row_degrees m)) m).rows i ≡ row_at m.rows i
    row i =
        row_at-matrix_product m.ring positive (identity m.ring (row_degrees m)) m i refl
        ∙ elim (cases_lt i (length (row_degrees m))) [
          | inl inside ↦
              ap (row_combination m.ring m.rows) (row_at-unit_rows (row_degrees m) 0 i inside)
              ∙ row_combination-unit m.ring positive m.rows (0 + i)
              (IsCanonical-matrix_row m.ring m.target m.rows h (0 + i))
              ∙ ap (row_at m.rows) (let same : 0 + i ≡ i = omega arith in same)
          | inr past ↦
              ap (row_combination m.ring m.rows)
              (row_at-past (unit_rows 0 (row_degrees m)) i (rw (length-unit_rows 0 (row_degrees m)) past))
              ∙ row_combination-nil m.ring positive m.rows
              ∙ sym (row_at-past m.rows i (let size = length-map m.rows (λ (v : Vector). v.degree) in omega arith))
        ]

-- the identity behind a matrix
pub matrix_product-identity : (m : Matrix) → 0 < m.ring.modulus → IsMatrix m
    → matrix_product m (identity m.ring m.target) ≡ m
matrix_product-identity m positive h =
    let rows = with_terms-same (row_combination m.ring (unit_rows 0 m.target)) m.rows
    (AllByRecursion-weaken _ _ (λ v k. row_combination-unit_rows m.ring positive m.target v.terms k.canonical (AllByRecursion-weaken _ _ (λ t e. e.0) v.terms k.homogeneous)) m.rows h) in
    λ i. record { ring = m.ring; target = m.target; rows = rows i }

pub matrix_product-assoc : (a b c : Matrix) → 0 < a.ring.modulus → a.ring ≡ b.ring
    → matrix_product (matrix_product a b) c ≡ matrix_product a (matrix_product b c)
matrix_product-assoc a b c positive rings =
    let ring = a.ring in
    let rows = with_terms-with_terms (row_combination ring c.rows) (row_combination ring b.rows) a.rows
    ∙ with_terms-each (λ ts. row_combination ring c.rows (row_combination ring b.rows ts))
    (row_combination ring (matrix_product b c).rows) a.rows
    (AllByRecursion-always _ (λ v. sym (row_combination-matrix_product ring positive b c v.terms (sym rings))) a.rows) in
    λ i. record { ring = ring; target = c.target; rows = rows i }

-- the rows of a stack are multiplied one by one
pub matrix_product-stacked : (a b n : Matrix) → a.ring ≡ b.ring
    → matrix_product (stacked a b) n ≡ stacked (matrix_product a n) (matrix_product b n)
matrix_product-stacked a b n rings =
    let ring = a.ring in
    let rows = map-append (λ (v : Vector). record { degree = v.degree; terms = row_combination ring n.rows v.terms }) a.rows b.rows
    ∙ ap (λ q. with_terms (row_combination ring n.rows) a.rows ++ with_terms (row_combination q n.rows) b.rows) rings in
    λ i. record { ring = ring; target = n.target; rows = rows i }

-- a factor's negative gives the product's
pub matrix_product-negated_first : (a b : Matrix) → 0 < a.ring.modulus → IsMatrix a
    → matrix_product (negated a) b ≡ negated (matrix_product a b)
matrix_product-negated_first a b positive h =
    let ring = a.ring in
    let rows = with_terms-with_terms (row_combination ring b.rows) (negative ring.modulus) a.rows
    ∙ with_terms-each (λ ts. row_combination ring b.rows (negative ring.modulus ts))
    (λ ts. negative ring.modulus (row_combination ring b.rows ts)) a.rows
    (AllByRecursion-weaken _ _ (λ v k. row_combination-negative ring positive b.rows v.terms k.canonical) a.rows h)
    ∙ sym (with_terms-with_terms (negative ring.modulus) (row_combination ring b.rows) a.rows) in
    λ i. record { ring = ring; target = b.target; rows = rows i }

pub matrix_product-negated : (a b : Matrix) → 0 < a.ring.modulus → a.ring ≡ b.ring → IsMatrix b
    → matrix_product a (negated b) ≡ negated (matrix_product a b)
matrix_product-negated a b positive rings h =
    let ring = a.ring in
    let rows = with_terms-each (row_combination ring (negated b).rows) (λ ts. negative ring.modulus (row_combination ring b.rows ts)) a.rows
    (AllByRecursion-always _ (λ v. subst (λ q. row_combination q (negated b).rows v.terms ≡ negative q.modulus (row_combination q b.rows v.terms)) (sym rings) (row v.terms)) a.rows)
    ∙ sym (with_terms-with_terms (negative ring.modulus) (row_combination ring b.rows) a.rows) in
    λ i. record { ring = ring; target = b.target; rows = rows i }
  where
    row : (v : List (Term Place))
        → row_combination b.ring (negated b).rows v ≡ negative b.ring.modulus (row_combination b.ring b.rows v)
    row v =
        row_combination-negated b (subst (λ (q : Ring). 0 < q.modulus) rings positive)
        (AllByRecursion-weaken _ _ (λ v k. k.canonical) b.rows h) v
