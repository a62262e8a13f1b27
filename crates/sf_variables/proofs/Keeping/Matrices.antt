-- Matrices over the first n variables: each operation on matrices, row by row.
use Rattle.std.proofs.Common.{ℕ, suc, List, [], ◌∷◌, length, map, slice_range, ℤ, ◌+ℤ◌}
use Rattle.sf_algebra.specs.Matrices.{Matrix}
use Rattle.sf_algebra.specs.MatrixOperations.{at_position, column_rows, column_terms, identity, kronecker, kronecker_terms, matrix_product, negated, part, row_combination, stacked, transposed, unit_rows, vector_part}
use Rattle.sf_algebra.specs.Multiples.{negative}
use Rattle.sf_algebra.specs.Rings.{Ring}
use Rattle.sf_algebra.specs.Terms.{Term}
use Rattle.sf_algebra.specs.Vectors.{Place, Vector, entry}
use Rattle.sf_algebra.proofs.Basics.Lists.{AllByRecursion-append, AllByRecursion-weaken}
use Rattle.sf_algebra.proofs.GradedMatrices.Ranges.{AllByRecursion-slice_range}
use Rattle.sf_algebra.proofs.GradedMatrices.Stacks.{AllByRecursion-map}
use Rattle.sf_algebra.proofs.Tensors.Kronecker.{AllByRecursion-flat_map, kronecker_row}
use Rattle.sf_algebra.proofs.Vectors.Positions.{AllByRecursion-at_position, AllByRecursion-entry}
use Rattle.sf_variables.specs.Variables.{IsInVariables, IsRowInVariables, IsVectorInVariables, AreInVariables, IsMatrixInVariables}
use Rattle.sf_variables.proofs.Keeping.Monomials.{IsInVariables-one}
use Rattle.sf_variables.proofs.Keeping.Rows.{IsRowInVariables-combination, IsRowInVariables-kronecker_terms, IsRowInVariables-negative, IsRowInVariables-part}

module _ (n : ℕ) where
  AreInVariables-unit_rows : (i : ℕ) (ds : List ℤ) → AreInVariables n (unit_rows i ds)
  AreInVariables-unit_rows i [] = tt
  AreInVariables-unit_rows i (d ∷ ds) = ((IsInVariables-one n, tt), AreInVariables-unit_rows (suc i) ds)

  pub IsMatrixInVariables-identity : (ring : Ring) (degrees : List ℤ) → IsMatrixInVariables n (identity ring degrees)
  IsMatrixInVariables-identity ring degrees = AreInVariables-unit_rows 0 degrees

  -- where each row is changed by what keeps the variables
  AreInVariables-map : (f : Vector → Vector) → ((v : Vector) → IsVectorInVariables n v → IsVectorInVariables n (f v))
      → (vs : List Vector) → AreInVariables n vs → AreInVariables n (map f vs)
  AreInVariables-map f keeps vs h =
      AllByRecursion-map (IsVectorInVariables n) f vs (AllByRecursion-weaken _ _ keeps vs h)

  pub IsMatrixInVariables-matrix_product : (a b : Matrix) → IsMatrixInVariables n a → IsMatrixInVariables n b
      → IsMatrixInVariables n (matrix_product a b)
  IsMatrixInVariables-matrix_product a b h k =
      AreInVariables-map (λ (v : Vector). record { degree = v.degree; terms = row_combination a.ring b.rows v.terms })
      (λ v. IsRowInVariables-combination n a.ring b.rows v.terms k) a.rows h

  pub IsMatrixInVariables-negated : (m : Matrix) → IsMatrixInVariables n m → IsMatrixInVariables n (negated m)
  IsMatrixInVariables-negated m h =
      AreInVariables-map (λ (v : Vector). record { degree = v.degree; terms = negative m.ring.modulus v.terms })
      (λ v. IsRowInVariables-negative n m.ring.modulus v.terms) m.rows h

  pub IsMatrixInVariables-stacked : (a b : Matrix) → IsMatrixInVariables n a → IsMatrixInVariables n b
      → IsMatrixInVariables n (stacked a b)
  IsMatrixInVariables-stacked a b h k = AllByRecursion-append (IsVectorInVariables n) a.rows b.rows h k

  pub IsMatrixInVariables-part : (r0 r1 c0 c1 : ℕ) (m : Matrix) → IsMatrixInVariables n m
      → IsMatrixInVariables n (part r0 r1 c0 c1 m)
  IsMatrixInVariables-part r0 r1 c0 c1 m h =
      AreInVariables-map (vector_part c0 c1) (λ v. IsRowInVariables-part n c0 c1 v.terms) (slice_range m.rows r0 r1)
      (AllByRecursion-slice_range (IsVectorInVariables n) m.rows r0 r1 h)

  abbrev HasVariables : Term Place → Type 0
  HasVariables t = IsInVariables n t.at.monomial

  -- a column has entries of the rows
  IsRowInVariables-column_terms : (j i : ℕ) (vs : List Vector) → AreInVariables n vs
      → IsRowInVariables n (column_terms j i vs)
  IsRowInVariables-column_terms j i [] h = tt
  IsRowInVariables-column_terms j i (v ∷ vs) h =
      AllByRecursion-append _ (at_position i (entry j v.terms)) (column_terms j (suc i) vs)
      (AllByRecursion-at_position HasVariables i (entry j v.terms) (AllByRecursion-entry HasVariables j v.terms h.0))
      (IsRowInVariables-column_terms j (suc i) vs h.1)

  AreInVariables-column_rows : (rows : List Vector) → AreInVariables n rows → (j : ℕ) (ds : List ℤ)
      → AreInVariables n (column_rows rows j ds)
  AreInVariables-column_rows rows h j [] = tt
  AreInVariables-column_rows rows h j (d ∷ ds) =
      (IsRowInVariables-column_terms j 0 rows h, AreInVariables-column_rows rows h (suc j) ds)

  pub IsMatrixInVariables-transposed : (m : Matrix) → IsMatrixInVariables n m → IsMatrixInVariables n (transposed m)
  IsMatrixInVariables-transposed m h = AreInVariables-column_rows m.rows h 0 m.target

  pub IsMatrixInVariables-kronecker : (a b : Matrix) → IsMatrixInVariables n a → IsMatrixInVariables n b
      → IsMatrixInVariables n (kronecker a b)
  IsMatrixInVariables-kronecker a b h k =
      AllByRecursion-flat_map (IsVectorInVariables n)
      (λ (v : Vector). kronecker_row a.ring (length b.target) v b.rows) a.rows
      (AllByRecursion-weaken _ _ (λ v e. AreInVariables-map
      (λ (w : Vector). record {
        degree = v.degree +ℤ w.degree;
        terms = kronecker_terms a.ring
            (length b.target) v.terms w.terms;
      })
      (λ w f. IsRowInVariables-kronecker_terms n a.ring (length b.target) v.terms w.terms e f) b.rows k) a.rows h)
