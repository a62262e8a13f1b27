-- Matrices with their sums, zeros and negatives are a commutative group.
use Rattle.std.proofs.Common.{◌≡◌, ◌↔◌, refl, ℕ, zero, suc, ◌<◌, List, [], ◌∷◌, ap, sym, ◌∙◌, subst, ℤ, map}
use Rattle.std.specs.List.{AllByRecursion}
use Rattle.sf_algebra.specs.Matrices.{Matrix, row_degrees, degrees_of, IsMatrix}
use Rattle.sf_algebra.specs.MatrixOperations.{row_at, negated}
use Rattle.sf_algebra.specs.Multiples.{negative}
use Rattle.sf_algebra.specs.Polynomials.{polynomial_sum}
use Rattle.sf_algebra.specs.Rings.{Ring}
use Rattle.sf_algebra.specs.Sums.{add, normal}
use Rattle.sf_algebra.specs.VectorOperations.{row_sum, row_difference}
use Rattle.sf_algebra.specs.Vectors.{Vector, entry, IsVector}
use Rattle.sf_algebra.proofs.GradedMatrices.MatrixRows.{IsCanonical-matrix_row, same_matrices}
use Rattle.sf_algebra.proofs.GradedMatrices.NegatedMatrices.{row_degrees-negated}
use Rattle.sf_algebra.proofs.Multiplying.Keys.{place_keys}
use Rattle.sf_algebra.proofs.Terms.Negatives.{add-negative, negative-add}
use Rattle.sf_algebra.proofs.Vectors.HomogeneousVectors.{IsVector-add, IsVector-nil}
use Rattle.sf_algebra.proofs.Vectors.RowParts.{row_at-negated}
use Rattle.sf_algebra.proofs.Vectors.RowSums.{row_sum-comm, row_sum-assoc, row_sum-nil}
use Rattle.sf_blocks.specs.MatrixSums.{row_by_row, AreParallel, matrix_sum, matrix_difference, zero_matrix}
use Rattle.sf_blocks.proofs.MatrixSums.EntrySums.{entry-row_sum}
use Rattle.sf_blocks.proofs.MatrixSums.RowsByRows.{same_by_rows, degrees-row_by_row, row_at-row_by_row, AllByRecursion-row_by_row}

pub row_sum-none : (ring : Ring) → row_sum ring [] [] ≡ []
unfolding add normal
row_sum-none ring = refl

pub AreParallel-sym : (a b : Matrix) → AreParallel a b → AreParallel b a
AreParallel-sym a b h = record { rings = sym h.rings; targets = sym h.targets; degrees = sym h.degrees }

pub AreParallel-trans : (a b c : Matrix) → AreParallel a b → AreParallel b c → AreParallel a c
AreParallel-trans a b c h k = record {
  rings = h.rings ∙ k.rings;
  targets = h.targets ∙ k.targets;
  degrees = h.degrees ∙ k.degrees;
}

-- a matrix in the place of an equal one between the same free modules
pub IsMatrix-parallel : (a b : Matrix) → AreParallel a b → IsMatrix b → AllByRecursion (IsVector a.ring a.target) b.rows
IsMatrix-parallel a b h k =
    subst (λ q. AllByRecursion (IsVector q a.target) b.rows) (sym h.rings)
    (subst (λ ds. AllByRecursion (IsVector b.ring ds) b.rows) (sym h.targets) k)

module _ (a b : Matrix) (h : AreParallel a b) where
  pub row_degrees-matrix_sum : row_degrees (matrix_sum a b) ≡ row_degrees a
  row_degrees-matrix_sum = degrees-row_by_row (row_sum a.ring) a.rows b.rows h.degrees

  pub row_at-matrix_sum : (i : ℕ)
      → row_at (matrix_sum a b).rows i ≡ row_sum a.ring (row_at a.rows i) (row_at b.rows i)
  row_at-matrix_sum i = row_at-row_by_row (row_sum a.ring) (row_sum-none a.ring) a.rows b.rows h.degrees i

  pub AreParallel-matrix_sum : AreParallel (matrix_sum a b) a
  AreParallel-matrix_sum = record { rings = refl; targets = refl; degrees = row_degrees-matrix_sum }

  module _ (positive : 0 < a.ring.modulus) where
    pub IsMatrix-matrix_sum : IsMatrix a → IsMatrix b → IsMatrix (matrix_sum a b)
    IsMatrix-matrix_sum k l =
        AllByRecursion-row_by_row (row_sum a.ring) (IsVector a.ring a.target) (IsVector a.ring a.target)
        (IsVector a.ring a.target)
        (λ d us vs m n. IsVector-add a.ring a.target positive d us vs m n) a.rows b.rows h.degrees k
        (IsMatrix-parallel a b h l)

    pub entry-matrix_sum : (i j : ℕ)
        → entry j (row_at (matrix_sum a b).rows i)
        ≡ polynomial_sum a.ring (entry j (row_at a.rows i)) (entry j (row_at b.rows i))
    entry-matrix_sum i j =
        ap (entry j) (row_at-matrix_sum i) ∙ entry-row_sum a.ring positive j (row_at a.rows i) (row_at b.rows i)

    pub matrix_sum-comm : matrix_sum a b ≡ matrix_sum b a
    matrix_sum-comm =
        let k = AreParallel-sym a b h in
        same_by_rows (matrix_sum a b) (matrix_sum b a) h.rings h.targets
        (row_degrees-matrix_sum ∙ h.degrees ∙ sym (degrees-row_by_row (row_sum b.ring) b.rows a.rows k.degrees))
        (λ i.
        row_at-matrix_sum i
        ∙ row_sum-comm a.ring positive (row_at a.rows i) (row_at b.rows i)
        ∙ ap (λ q. row_sum q (row_at b.rows i) (row_at a.rows i)) h.rings
        ∙ sym (row_at-row_by_row (row_sum b.ring) (row_sum-none b.ring) b.rows a.rows k.degrees i))

pub negated-matrix_sum : (a b : Matrix) → 0 < a.ring.modulus → AreParallel a b → IsMatrix a → IsMatrix b
    → negated (matrix_sum a b) ≡ matrix_sum (negated a) (negated b)
negated-matrix_sum a b positive h k l =
    let ring = a.ring in
    let s = matrix_sum a b in
    let n : AreParallel (negated a) (negated b) = record {
      rings = h.rings;
      targets = h.targets;
      degrees = row_degrees-negated a ∙ h.degrees ∙ sym (row_degrees-negated b);
    } in
    same_by_rows (negated s) (matrix_sum (negated a) (negated b)) refl refl
    (row_degrees-negated s
    ∙ row_degrees-matrix_sum a b h
    ∙ sym (row_degrees-matrix_sum (negated a) (negated b) n ∙ row_degrees-negated a))
    (λ i.
    row_at-negated s i
    ∙ ap (negative ring.modulus) (row_at-matrix_sum a b h i)
    ∙ negative-add (place_keys ring.weights) ring.modulus positive (row_at a.rows i) (row_at b.rows i)
    (IsCanonical-matrix_row ring a.target a.rows k i)
    (IsCanonical-matrix_row ring a.target b.rows (IsMatrix-parallel a b h l) i)
    ∙ ap (λ (q : Ring). row_sum ring (negative ring.modulus (row_at a.rows i)) (negative q.modulus (row_at b.rows i)))
    h.rings
    ∙ (λ n. row_sum ring (sym (row_at-negated a i) n) (sym (row_at-negated b i) n))
    ∙ sym (row_at-matrix_sum (negated a) (negated b) n i))

pub matrix_sum-assoc : (a b c : Matrix) → 0 < a.ring.modulus → AreParallel a b → AreParallel b c
    → matrix_sum (matrix_sum a b) c ≡ matrix_sum a (matrix_sum b c)
matrix_sum-assoc a b c positive h k =
    let ab = matrix_sum a b in
    let bc = matrix_sum b c in
    let first : AreParallel ab c = AreParallel-trans ab a c (AreParallel-matrix_sum a b h)
    (AreParallel-trans a b c h k) in
    let last : AreParallel a bc = AreParallel-trans a b bc h (AreParallel-sym bc b (AreParallel-matrix_sum b c k)) in
    same_by_rows (matrix_sum ab c) (matrix_sum a bc) refl refl
    (row_degrees-matrix_sum ab c first ∙ row_degrees-matrix_sum a b h ∙ sym (row_degrees-matrix_sum a bc last))
    (λ i.
    row_at-matrix_sum ab c first i
    ∙ ap (λ us. row_sum a.ring us (row_at c.rows i)) (row_at-matrix_sum a b h i)
    ∙ row_sum-assoc a.ring positive (row_at a.rows i) (row_at b.rows i) (row_at c.rows i)
    ∙ ap (λ q. row_sum a.ring (row_at a.rows i) (row_sum q (row_at b.rows i) (row_at c.rows i))) h.rings
    ∙ ap (row_sum a.ring (row_at a.rows i)) (sym (row_at-matrix_sum b c k i))
    ∙ sym (row_at-matrix_sum a bc last i))

module _ (ring : Ring) (source target : List ℤ) where
  pub row_degrees-zero_matrix : row_degrees (zero_matrix ring source target) ≡ source
  row_degrees-zero_matrix = go source
    where
      go : (ds : List ℤ) → degrees_of (map (λ (d : ℤ). record { degree = d; terms = [] }) ds) ≡ ds
      go [] = refl
      go (d ∷ ds) = ap (λ es. d ∷ es) (go ds)

  pub row_at-zero_matrix : (i : ℕ) → row_at (zero_matrix ring source target).rows i ≡ []
  row_at-zero_matrix i = go source i
    where
      go : (ds : List ℤ) (k : ℕ) → row_at (map (λ (d : ℤ). record { degree = d; terms = [] }) ds) k ≡ []
      go [] k = refl
      go (d ∷ ds) zero = refl
      go (d ∷ ds) (suc k) = go ds k

  pub IsMatrix-zero_matrix : IsMatrix (zero_matrix ring source target)
  IsMatrix-zero_matrix = go source
    where
      go : (ds : List ℤ)
          → AllByRecursion (IsVector ring target) (map (λ (d : ℤ). record { degree = d; terms = [] }) ds)
      go [] = tt
      go (d ∷ ds) = (IsVector-nil ring target d, go ds)

-- a matrix without entries is zero
pub same_zero : (m : Matrix) → ((i : ℕ) → row_at m.rows i ≡ []) → m ≡ zero_matrix m.ring (row_degrees m) m.target
same_zero m none =
    same_by_rows m (zero_matrix m.ring (row_degrees m) m.target) refl refl
    (sym (row_degrees-zero_matrix m.ring (row_degrees m) m.target))
    (λ i. none i ∙ sym (row_at-zero_matrix m.ring (row_degrees m) m.target i))

pub zero_entries : (m : Matrix) → IsMatrix m → ((i j : ℕ) → entry j (row_at m.rows i) ≡ [])
    ↔ (m ≡ zero_matrix m.ring (row_degrees m) m.target)
zero_entries m h =
    let z = zero_matrix m.ring (row_degrees m) m.target in
    let none : (i j : ℕ) → entry j (row_at z.rows i) ≡ [] =
    λ i j. ap (entry j) (row_at-zero_matrix m.ring (row_degrees m) m.target i) in (
      λ empty. same_matrices m z h (IsMatrix-zero_matrix m.ring (row_degrees m) m.target) refl refl
          (sym (row_degrees-zero_matrix m.ring (row_degrees m) m.target)) (λ i j. empty i j ∙ sym (none i j)),
      λ same i j. ap (λ (k : Matrix). entry j (row_at k.rows i)) same ∙ none i j,
    )

module _ (m : Matrix) (positive : 0 < m.ring.modulus) (is_matrix : IsMatrix m) where
  AreParallel-zero : AreParallel m (zero_matrix m.ring (row_degrees m) m.target)
  AreParallel-zero = record {
    rings = refl;
    targets = refl;
    degrees = sym (row_degrees-zero_matrix m.ring (row_degrees m) m.target);
  }

  pub matrix_sum-zero : matrix_sum m (zero_matrix m.ring (row_degrees m) m.target) ≡ m
  matrix_sum-zero =
      let z = zero_matrix m.ring (row_degrees m) m.target in
      same_by_rows (matrix_sum m z) m refl refl (row_degrees-matrix_sum m z AreParallel-zero)
      (λ i.
      row_at-matrix_sum m z AreParallel-zero i
      ∙ ap (row_sum m.ring (row_at m.rows i)) (row_at-zero_matrix m.ring (row_degrees m) m.target i)
      ∙ row_sum-nil m.ring positive (row_at m.rows i) (IsCanonical-matrix_row m.ring m.target m.rows is_matrix i))

  pub matrix_sum-negated : matrix_sum m (negated m) ≡ zero_matrix m.ring (row_degrees m) m.target
  matrix_sum-negated =
      let h : AreParallel m (negated m) = record
      { rings = refl; targets = refl; degrees = sym (row_degrees-negated m) } in
      let s = matrix_sum m (negated m) in
      same_zero s (λ i.
      row_at-matrix_sum m (negated m) h i
      ∙ ap (row_sum m.ring (row_at m.rows i)) (row_at-negated m i)
      ∙ add-negative (place_keys m.ring.weights) m.ring.modulus positive (row_at m.rows i)
      (IsCanonical-matrix_row m.ring m.target m.rows is_matrix i))
      ∙ ap (λ ds. zero_matrix m.ring ds m.target) (row_degrees-matrix_sum m (negated m) h)

-- row by row, a difference is a sum with negatives
pub matrix_difference-sum : (a b : Matrix) → a.ring ≡ b.ring → matrix_difference a b ≡ matrix_sum a (negated b)
matrix_difference-sum a b rings =
    (λ i. record { ring = a.ring; target = a.target; rows = go a.rows b.rows i })
    ∙ ap (λ (q : Ring). record {
      ring = a.ring;
      target = a.target;
      rows = row_by_row (row_sum a.ring) a.rows
          (map (λ (v : Vector). record { degree = v.degree; terms = negative q.modulus v.terms }) b.rows);
    }) rings
  where
    go : (us vs : List Vector)
        → row_by_row (row_difference a.ring) us vs
        ≡ row_by_row (row_sum a.ring) us
        (map (λ (v : Vector). record { degree = v.degree; terms = negative a.ring.modulus v.terms }) vs)
    go [] vs = refl
    go (u ∷ us) [] = refl
    go (u ∷ us) (v ∷ vs) =
        ap (λ ws. record { degree = u.degree; terms = row_difference a.ring u.terms v.terms } ∷ ws) (go us vs)
