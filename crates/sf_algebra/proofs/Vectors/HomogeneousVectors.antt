-- Sums, negatives, multiples and combinations of homogeneous vectors are homogeneous vectors.
use Rattle.std.proofs.Common.{◌≡◌, ℕ, ◌<◌, List, [], length, subst, sym, ◌∙◌, arith, ℤ, pos, ◌+ℤ◌}
use Rattle.std.proofs.lemmas.Int.{ints}
use Rattle.sf_algebra.specs.DegreeParts.{degree_part}
use Rattle.sf_algebra.specs.Matrices.{Matrix, IsMatrix, row_degrees}
use Rattle.sf_algebra.specs.MatrixOperations.{row_combination, identity, unit_vector}
use Rattle.sf_algebra.specs.Monomials.{Monomial, monomial_degree}
use Rattle.sf_algebra.specs.Multiples.{negative}
use Rattle.sf_algebra.specs.Rings.{Ring}
use Rattle.sf_algebra.specs.Terms.{Term}
use Rattle.sf_algebra.specs.VectorOperations.{row_sum, row_multiple}
use Rattle.sf_algebra.specs.Vectors.{Place, Vector, place_cmp, generator_degree, IsHomogeneous, IsVector, IsCanonicalRow}
use Rattle.sf_algebra.proofs.Basics.Filters.{IsCanonical-filter}
use Rattle.sf_algebra.proofs.Basics.Lists.{AllByRecursion-weaken}
use Rattle.sf_algebra.proofs.Multiplying.Keys.{place_keys}
use Rattle.sf_algebra.proofs.Multiplying.Multiples.{IsCanonical-multiple}
use Rattle.sf_algebra.proofs.Terms.Negatives.{IsCanonical-negative}
use Rattle.sf_algebra.proofs.Vectors.DegreeParts.{IsHomogeneous-degree_part, row_combination-degree_part}
use Rattle.sf_algebra.proofs.Vectors.Degrees.{HasHomogeneousRows, IsHomogeneous-add, IsHomogeneous-multiple, IsHomogeneous-negative, IsHomogeneous-row_combination}
use Rattle.sf_algebra.proofs.Vectors.RowParts.{HasCanonicalRows}
use Rattle.sf_algebra.proofs.Vectors.RowSums.{IsCanonical-row_sum}
use Rattle.sf_algebra.proofs.Vectors.Rows.{IsCanonical-row_combination}
use Rattle.sf_algebra.proofs.Vectors.UnitRows.{row_combination-unit_rows}

module _ (ring : Ring) (degrees : List ℤ) where
  pub IsVector-add : 0 < ring.modulus → (d : ℤ) (us vs : List (Term Place))
      → IsVector ring degrees (record { degree = d; terms = us })
      → IsVector ring degrees (record { degree = d; terms = vs })
      → IsVector ring degrees (record { degree = d; terms = row_sum ring us vs })
  IsVector-add positive d us vs h k = record {
    canonical = IsCanonical-row_sum ring positive us vs;
    homogeneous = IsHomogeneous-add degrees ring d us vs h.homogeneous k.homogeneous;
  }

  pub IsVector-nil : (d : ℤ) → IsVector ring degrees (record { degree = d; terms = [] })
  IsVector-nil d = record { canonical = record { descending = tt; residues = tt }; homogeneous = tt }

  pub IsVector-negative : (d : ℤ) (us : List (Term Place)) → IsVector ring degrees (record { degree = d; terms = us })
      → IsVector ring degrees (record { degree = d; terms = negative ring.modulus us })
  IsVector-negative d us h = record {
    canonical = IsCanonical-negative (place_cmp ring.weights) ring.modulus us h.canonical;
    homogeneous = IsHomogeneous-negative degrees ring d us h.homogeneous;
  }

  pub IsVector-multiple : 0 < ring.modulus → (d : ℤ) (s : Term Monomial) (us : List (Term Place))
      → IsVector ring degrees (record { degree = d; terms = us })
      → IsVector ring degrees
      (record { degree = d +ℤ pos (monomial_degree ring.weights s.at); terms = row_multiple ring s us })
  IsVector-multiple positive d s us h = record {
    canonical = IsCanonical-multiple (place_keys ring.weights) ring.modulus positive s us;
    homogeneous = IsHomogeneous-multiple degrees ring d s us h.homogeneous;
  }

  pub IsVector-unit_vector : 1 < ring.modulus → (i : ℕ) → i < length degrees
      → IsVector ring degrees (unit_vector (generator_degree degrees i) i)
  IsVector-unit_vector above i within = record {
    canonical = record { descending = (tt, tt); residues = ((omega arith, above), tt) };
    homogeneous = ((within, omega (arith, ints)), tt);
  }

  pub IsVector-degree_part : (d : ℤ) (ts : List (Term Place)) → IsCanonicalRow ring ts → IsVector ring degrees (record { degree = d; terms = degree_part ring.weights degrees d ts })
  IsVector-degree_part d ts h = record { canonical = IsCanonical-filter _ (place_cmp ring.weights) ring.modulus ts h; homogeneous = IsHomogeneous-degree_part ring.weights degrees d ts }

-- a vector times the identity
pub row_combination-identity : (ring : Ring) → 0 < ring.modulus → (degrees : List ℤ) (v : Vector)
    → IsVector ring degrees v → row_combination ring (identity ring degrees).rows v.terms ≡ v.terms
row_combination-identity ring positive degrees v h =
    row_combination-unit_rows ring positive degrees v.terms h.canonical
    (AllByRecursion-weaken _ _ (λ t k. k.0) v.terms h.homogeneous)

-- the rows of a matrix are homogeneous and canonical
pub HasHomogeneousRows-from_IsMatrix : (m : Matrix) → IsMatrix m → HasHomogeneousRows m.ring.weights m.target m.rows
HasHomogeneousRows-from_IsMatrix m h = AllByRecursion-weaken _ _ (λ v k. k.homogeneous) m.rows h

pub HasCanonicalRows-from_IsMatrix : (m : Matrix) → IsMatrix m → HasCanonicalRows m.ring m.rows
HasCanonicalRows-from_IsMatrix m h = AllByRecursion-weaken _ _ (λ v k. k.canonical) m.rows h

module _ (m : Matrix) (positive : 0 < m.ring.modulus) (is_matrix : IsMatrix m) where
  -- a vector times a matrix
  pub IsVector-row_combination : (c : Vector) → IsVector m.ring (row_degrees m) c
      → IsVector m.ring m.target (record { degree = c.degree; terms = row_combination m.ring m.rows c.terms })
  IsVector-row_combination c h = record {
    canonical = IsCanonical-row_combination m.ring positive m.rows c.terms;
    homogeneous =
        IsHomogeneous-row_combination m.target m.ring m.rows
        (HasHomogeneousRows-from_IsMatrix m is_matrix) c.degree c.terms h.homogeneous;
  }

  -- a vector that is a combination of the rows is one with coefficients of its degree
  pub row_combination-IsVector : (v : Vector) → IsVector m.ring m.target v → (c : List (Term Place))
      → row_combination m.ring m.rows c ≡ v.terms
      → row_combination m.ring m.rows (degree_part m.ring.weights (row_degrees m) v.degree c) ≡ v.terms
  row_combination-IsVector v h c e =
      row_combination-degree_part m.target v.degree m.ring m.rows (HasHomogeneousRows-from_IsMatrix m is_matrix) positive c (subst (IsHomogeneous m.ring.weights m.target v.degree) (sym e) h.homogeneous) ∙ e
