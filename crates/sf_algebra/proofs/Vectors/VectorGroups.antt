-- Vectors as groups: the canonical lists of terms, on which the terms of polynomials act, and the homogeneous vectors
-- of one degree. Combinations of rows are maps of these groups, and spans are subgroups.
use Rattle.std.proofs.Common.{ℕ, ◌<◌, List, [], ℤ}
use Rattle.sf_algebra.specs.Groups.{Group, IsSub, IsMap, Whole, ImageOf}
use Rattle.sf_algebra.specs.Matrices.{Matrix, IsMatrix, row_degrees}
use Rattle.sf_algebra.specs.MatrixOperations.{row_combination}
use Rattle.sf_algebra.specs.Monomials.{Monomial}
use Rattle.sf_algebra.specs.Multiples.{multiple, negative}
use Rattle.sf_algebra.specs.Rings.{Ring}
use Rattle.sf_algebra.specs.Sums.{add}
use Rattle.sf_algebra.specs.Terms.{Term, IsCanonical}
use Rattle.sf_algebra.specs.VectorOperations.{row_sum}
use Rattle.sf_algebra.specs.Vectors.{Place, Vector, place_cmp, IsVector}
use Rattle.sf_algebra.proofs.Multiplying.Keys.{Keys, place_keys}
use Rattle.sf_algebra.proofs.Multiplying.MultipleLaws.{multiple-add}
use Rattle.sf_algebra.proofs.Multiplying.Multiples.{IsCanonical-multiple}
use Rattle.sf_algebra.proofs.Operators.Subgroups.{Whole-sub, ImageOf-sub}
use Rattle.sf_algebra.proofs.Terms.Negatives.{IsCanonical-negative, add-negative}
use Rattle.sf_algebra.proofs.Terms.Normal.{IsCanonical-add}
use Rattle.sf_algebra.proofs.Terms.Sums.{add_comm, add_assoc, add-nil}
use Rattle.sf_algebra.proofs.Vectors.HomogeneousVectors.{IsVector-add, IsVector-nil, IsVector-negative, IsVector-row_combination}
use Rattle.sf_algebra.proofs.Vectors.RowSums.{row_sum-comm, row_sum-assoc, row_sum-nil}
use Rattle.sf_algebra.proofs.Vectors.Rows.{IsCanonical-row_combination, row_combination-add, row_combination-multiple}
use Rattle.sf_algebra.proofs.Vectors.VectorProps.{same_canonical, vector_unique}

-- the canonical lists of terms at what the monomials act on, with the terms of polynomials as operators
abbrev pub canonical_lists : {K : Type 0} → Keys K → (p : ℕ) → 0 < p → Group (Term Monomial)
canonical_lists {K} keys p positive = record {
  V = (ts : List (Term K)) × IsCanonical keys.cmp p ts;
  zero = ([], record { descending = tt; residues = tt });
  plus = λ u v. (add keys.cmp p u.0 v.0, IsCanonical-add keys.cmp keys.order p positive u.0 v.0);
  minus = λ u. (negative p u.0, IsCanonical-negative keys.cmp p u.0 u.1);
  act = λ s u. (multiple keys.cmp keys.act p s u.0, IsCanonical-multiple keys p positive s u.0);
  comm = λ u v. same_canonical keys.cmp p _ _ (add_comm keys.cmp keys.order p positive u.0 v.0);
  assoc = λ u v w. same_canonical keys.cmp p _ _ (add_assoc keys.cmp keys.order p positive u.0 v.0 w.0);
  unit = λ u. same_canonical keys.cmp p _ _ (add-nil keys.cmp keys.order p positive u.0 u.1);
  inverse = λ u. same_canonical keys.cmp p _ _ (add-negative keys p positive u.0 u.1);
  act_plus = λ s u v. same_canonical keys.cmp p _ _ (multiple-add keys p positive s u.0 v.0);
}

-- all vectors, of no degree in particular
abbrev pub vectors : (ring : Ring) → 0 < ring.modulus → Group (Term Monomial)
vectors ring positive = canonical_lists (place_keys ring.weights) ring.modulus positive

module _ (ring : Ring) (positive : 0 < ring.modulus) (rows : List Vector) where
  -- the combination of the rows
  abbrev pub combined_rows : (vectors ring positive).V → (vectors ring positive).V
  combined_rows c = (row_combination ring rows c.0, IsCanonical-row_combination ring positive rows c.0)

  pub combined_rows-map : IsMap (vectors ring positive) (vectors ring positive) combined_rows
  combined_rows-map = record {
    to_plus = λ c d. same_canonical (place_cmp ring.weights) ring.modulus _ _ (row_combination-add ring positive rows c.0 d.0);
    to_act = λ s c. same_canonical (place_cmp ring.weights) ring.modulus _ _ (row_combination-multiple ring positive rows s c.0);
  }

  -- the span of the rows
  abbrev pub SpanOf : (vectors ring positive).V → Type 0
  SpanOf = ImageOf combined_rows Whole

  pub SpanOf-sub : IsSub (vectors ring positive) SpanOf
  SpanOf-sub =
      ImageOf-sub (vectors ring positive) (vectors ring positive) combined_rows combined_rows-map Whole
      (Whole-sub (vectors ring positive))

-- the homogeneous vectors of degree d over a free module, with no operators
abbrev pub vectors_of_degree : (ring : Ring) → 0 < ring.modulus → List ℤ → ℤ → Group ⊥
vectors_of_degree ring positive degrees d = record {
  V = (ts : List (Term Place)) × IsVector ring degrees (record { degree = d; terms = ts });
  zero = ([], IsVector-nil ring degrees d);
  plus = λ u v. (row_sum ring u.0 v.0, IsVector-add ring degrees positive d u.0 v.0 u.1 v.1);
  minus = λ u. (negative ring.modulus u.0, IsVector-negative ring degrees d u.0 u.1);
  act = λ r u. absurd r;
  comm = λ u v. vector_unique ring degrees d _ _ (row_sum-comm ring positive u.0 v.0);
  assoc = λ u v w. vector_unique ring degrees d _ _ (row_sum-assoc ring positive u.0 v.0 w.0);
  unit = λ u. vector_unique ring degrees d _ _ (row_sum-nil ring positive u.0 (u.1).canonical);
  inverse = λ u. vector_unique ring degrees d _ _ (add-negative (place_keys ring.weights) ring.modulus positive u.0 (u.1).canonical);
  act_plus = λ r u v. absurd r;
}

module _ (m : Matrix) (positive : 0 < m.ring.modulus) (d : ℤ) where
  -- the coefficients of degree d for the rows of a matrix
  abbrev pub coefficients_of_degree : Group ⊥
  coefficients_of_degree = vectors_of_degree m.ring positive (row_degrees m) d

  -- the vectors of degree d of its target
  abbrev pub values_of_degree : Group ⊥
  values_of_degree = vectors_of_degree m.ring positive m.target d

  -- the combination of its rows
  abbrev pub combined_matrix : IsMatrix m → coefficients_of_degree.V → values_of_degree.V
  combined_matrix is_matrix c =
      (row_combination m.ring m.rows c.0, IsVector-row_combination m positive is_matrix (record { degree = d; terms = c.0 }) c.1)

  pub combined_matrix-map : (is_matrix : IsMatrix m)
      → IsMap coefficients_of_degree values_of_degree (combined_matrix is_matrix)
  combined_matrix-map is_matrix = record {
    to_plus = λ c e. vector_unique m.ring m.target d _ _ (row_combination-add m.ring positive m.rows c.0 e.0);
    to_act = λ r c. absurd r;
  }
