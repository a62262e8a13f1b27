-- Free modules: any matrix is a map of them, and a product is zero where one of its factors has no terms.
use Rattle.std.proofs.Common.{◌≡◌, ℕ, zero, suc, List, [], ◌∷◌, map, sym, ap, ◌∙◌, refl, arith, ℤ}
use Rattle.std.specs.List.{AllByRecursion}
use Rattle.sf_algebra.specs.Matrices.{IsMatrix, Matrix, degrees_of}
use Rattle.sf_algebra.specs.MatrixOperations.{matrix_product, row_at, row_combination}
use Rattle.sf_algebra.specs.Rings.{IsRing, plain}
use Rattle.sf_algebra.specs.Terms.{Term}
use Rattle.sf_algebra.specs.VectorOperations.{row_sum}
use Rattle.sf_algebra.specs.Vectors.{Place, Vector}
use Rattle.sf_algebra.proofs.Basics.Lists.{AllByRecursion-weaken}
use Rattle.sf_algebra.proofs.Vectors.HomogeneousVectors.{IsVector-nil}
use Rattle.sf_algebra.proofs.Vectors.Rows.{row_combination-nil}
use Rattle.sf_groebner.specs.MinimalGenerators.{matrix_of}
use Rattle.sf_groebner.specs.Presentations.{IsModuleMap, IsZero}
use Rattle.sf_groebner.specs.Spans.{InSpan, combined}
use Rattle.sf_groebner.proofs.WorkedExamples.FreeRelations.{row_combination-no_rows, span-no_rows}
use Rattle.sf_blocks.specs.DirectSums.{IsZeroModulo}
use Rattle.sf_blocks.specs.MatrixSums.{row_by_row}
use Rattle.sf_blocks.proofs.MatrixSums.SumGroups.{row_sum-none}
use Rattle.sf_blocks.proofs.MatrixSums.SumProducts.{row_combination-zeros}
use Rattle.sf_bicomplex.specs.TailExample.{with_rows}

pub plain_ring : IsRing (plain 101)
plain_ring = omega arith

-- modulo no relations is modulo 0
pub free_from_zero : (target : List ℤ) (v : Vector) → IsZero v → InSpan (matrix_of (plain 101) target []) v
free_from_zero target v none = record {
  coefficients = record { degree = v.degree; terms = [] };
  homogeneous = record { canonical = record { descending = tt; residues = tt }; homogeneous = tt };
  value = λ i. record { degree = v.degree; terms = (row_combination-no_rows (plain 101) plain_ring [] ∙ sym none) i };
}

pub free-map : (source target : List ℤ) (rows : List Vector) → degrees_of rows ≡ source
    → IsMatrix (matrix_of (plain 101) target rows)
    → IsModuleMap (matrix_of (plain 101) source []) (matrix_of (plain 101) target []) (matrix_of (plain 101) target rows)
free-map source target rows degrees matrix = record {
  matrix = matrix;
  source_ring = refl;
  target_ring = refl;
  source_degrees = degrees;
  target_degrees = refl;
  sends = λ v e. free_from_zero target (combined (matrix_of (plain 101) target rows) v)
      (ap (row_combination (plain 101) rows) (span-no_rows (plain 101) plain_ring source v e)
      ∙ row_combination-nil (plain 101) plain_ring.modulus rows);
}

module _ (source target : List ℤ) (ts : List (Term Place)) where
  pub with_rows-degrees : degrees_of (with_rows source target ts).rows ≡ source
  with_rows-degrees = each source
    where
      each : (ds : List ℤ) → degrees_of (map (λ (d : ℤ). record { degree = d; terms = ts }) ds) ≡ ds
      each [] = refl
      each (d ∷ ds) = ap (λ es. d ∷ es) (each ds)

  pub with_rows-map : IsMatrix (with_rows source target ts)
      → IsModuleMap (matrix_of (plain 101) source []) (matrix_of (plain 101) target []) (with_rows source target ts)
  with_rows-map matrix =
      free-map source target (map (λ (d : ℤ). record { degree = d; terms = ts }) source) with_rows-degrees matrix

-- no terms are a vector
pub with_rows-nothing : (source target : List ℤ) → IsMatrix (with_rows source target [])
with_rows-nothing [] target = tt
with_rows-nothing (d ∷ ds) target = (IsVector-nil (plain 101) target d, with_rows-nothing ds target)

-- rows without terms
abbrev pub HasNoTerms : List Vector → Type 0
HasNoTerms = AllByRecursion IsZero

pub zero_modulo : (target : List ℤ) (m : Matrix) → HasNoTerms m.rows → IsZeroModulo (matrix_of (plain 101) target []) m
zero_modulo target m none = AllByRecursion-weaken IsZero _ (free_from_zero target) m.rows none

row_at-nothing : (ds : List ℤ) (i : ℕ) → row_at (map (λ (d : ℤ). record { degree = d; terms = [] }) ds) i ≡ []
row_at-nothing [] i = refl
row_at-nothing (d ∷ ds) zero = refl
row_at-nothing (d ∷ ds) (suc i) = row_at-nothing ds i

module _ (source target : List ℤ) where
  -- no terms in the first factor
  pub product-first : (m : Matrix) → HasNoTerms (matrix_product (with_rows source target []) m).rows
  product-first m = each source
    where
      each : (ds : List ℤ) → HasNoTerms (map (λ (v : Vector). record { degree = v.degree; terms = row_combination (plain 101) m.rows v.terms })
          (map (λ (d : ℤ). record { degree = d; terms = [] }) ds))
      each [] = tt
      each (d ∷ ds) = (row_combination-nil (plain 101) plain_ring.modulus m.rows, each ds)

  -- or in the second
  pub product-second : (ts : List (Term Place)) (others more : List ℤ)
      → HasNoTerms (matrix_product (with_rows source target ts) (with_rows others more [])).rows
  product-second ts others more = each source
    where
      each : (ds : List ℤ) → HasNoTerms (map (λ (v : Vector). record { degree = v.degree; terms = row_combination (plain 101) (with_rows others more []).rows v.terms })
          (map (λ (d : ℤ). record { degree = d; terms = ts }) ds))
      each [] = tt
      each (d ∷ ds) = (
        row_combination-zeros (plain 101) plain_ring.modulus (with_rows others more []).rows (row_at-nothing others) ts,
        each ds,
      )

-- nor has a sum of such matrices
pub sum-nothing : (us vs : List Vector) → HasNoTerms us → HasNoTerms vs
    → HasNoTerms (row_by_row (row_sum (plain 101)) us vs)
sum-nothing [] vs h k = tt
sum-nothing (u ∷ us) [] h k = tt
sum-nothing (u ∷ us) (v ∷ vs) h k =
    ((λ i. row_sum (plain 101) (h.0 i) (k.0 i)) ∙ row_sum-none (plain 101), sum-nothing us vs h.1 k.1)
