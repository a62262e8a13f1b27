-- The rows of a Kronecker product with an identity, and the Kronecker product of two identities.
use Rattle.std.proofs.Common.{if◌then◌else◌, ◌==◌, eqb, true, false, inl, inr, ◌≡◌, refl, ℕ, suc, ◌+◌, ◌*◌, ◌<◌, List, [], ◌∷◌, ◌++◌, map, length, ℤ, ◌+ℤ◌, sym, ap, ◌∙◌, arith, suc-mul, zero-mul}
use Rattle.std.proofs.lemmas.Bool.{cases_eq}
use Rattle.std.proofs.lemmas.Bool.Decides.{nat_tests}
use Rattle.std.proofs.lemmas.List.{length-map}
use Rattle.sf_algebra.specs.Matrices.{Matrix, IsMatrix}
use Rattle.sf_algebra.specs.MatrixOperations.{row_at, unit_vector, unit_rows, identity, moved, kronecker_terms, degree_sums, kronecker}
use Rattle.sf_algebra.specs.Polynomials.{polynomial_product}
use Rattle.sf_algebra.specs.Rings.{Ring}
use Rattle.sf_algebra.specs.Vectors.{entry, IsCanonicalRow}
use Rattle.sf_algebra.proofs.GradedMatrices.Identities.{IsMatrix-identity, length-unit_rows, unit_rows-append}
use Rattle.sf_algebra.proofs.GradedMatrices.MatrixRows.{IsCanonical-matrix_row}
use Rattle.sf_algebra.proofs.GradedMatrices.TransposedProducts.{entry-unit_rows, entry-unit_rows_other}
use Rattle.sf_algebra.proofs.Multiplying.Polynomials.{polynomial_product-comm, polynomial_product-nil, polynomial_product-one}
use Rattle.sf_algebra.proofs.Tensors.Kronecker.{kronecker_row, row_at-kronecker}
use Rattle.sf_algebra.proofs.Tensors.KroneckerEntries.{entry-kronecker}
use Rattle.sf_algebra.proofs.Tensors.KroneckerProducts.{kronecker_rows}
use Rattle.sf_algebra.proofs.Tensors.KroneckerUnits.{scattered, kronecker_terms-unit_first, kronecker_terms-unit}
use Rattle.sf_algebra.proofs.Vectors.Positions.{IsCanonical-entry}
use Rattle.sf_algebra.proofs.Vectors.UnitRows.{unit_term, row_at-unit_rows}

-- with an identity first, the rows of the other matrix are moved on by whole blocks of its columns
pub row_at-kronecker_identity_first : (ds : List ℤ) (b : Matrix) → 0 < b.ring.modulus → IsMatrix b → (i k : ℕ)
    → i < length ds → k < length b.rows
    → row_at (kronecker (identity b.ring ds) b).rows (i * length b.rows + k)
    ≡ moved (i * length b.target) (row_at b.rows k)
row_at-kronecker_identity_first ds b positive h i k first second =
    let same : 0 + i ≡ i = omega arith in
    row_at-kronecker (identity b.ring ds) b positive i k second
    ∙ ap (λ u. kronecker_terms b.ring (length b.target) u (row_at b.rows k))
    (row_at-unit_rows ds 0 i first ∙ ap (λ n. unit_term n ∷ []) same)
    ∙ kronecker_terms-unit_first b.ring (length b.target) positive i (row_at b.rows k)
    (IsCanonical-matrix_row b.ring b.target b.rows h k)

-- with an identity second, a row of the other matrix is scattered
pub row_at-kronecker_identity : (a : Matrix) (es : List ℤ) → 0 < a.ring.modulus → IsMatrix a → (i k : ℕ) → k < length es
    → row_at (kronecker a (identity a.ring es)).rows (i * length es + k) ≡ scattered (length es) k (row_at a.rows i)
row_at-kronecker_identity a es positive h i k inside =
    let same : 0 + k ≡ k = omega arith in
    let size : length (unit_rows 0 es) ≡ length es = length-unit_rows 0 es in
    ap (λ n. row_at (kronecker a (identity a.ring es)).rows (i * n + k)) (sym size)
    ∙ row_at-kronecker a (identity a.ring es) positive i k (omega arith)
    ∙ ap (kronecker_terms a.ring (length es) (row_at a.rows i))
    (row_at-unit_rows es 0 k inside ∙ ap (λ n. unit_term n ∷ []) same)
    ∙ kronecker_terms-unit a.ring (length es) positive k (omega arith) (row_at a.rows i)
    (IsCanonical-matrix_row a.ring a.target a.rows h i)

module _ (ring : Ring) (above : 1 < ring.modulus) where
  IsCanonical-unit : (k : ℕ) → IsCanonicalRow ring (unit_term k ∷ [])
  IsCanonical-unit k = record { descending = (tt, tt); residues = ((omega arith, above), tt) }

  kronecker_row-unit : (n : ℕ) (d : ℤ) (i k m : ℕ) (es : List ℤ) → m ≡ i * n + k
      → kronecker_row ring n (unit_vector d i) (unit_rows k es) ≡ unit_rows m (map (λ e. d +ℤ e) es)
  kronecker_row-unit n d i k m [] e = refl
  kronecker_row-unit n d i k m (c ∷ es) e =
      (λ j. record { degree = d +ℤ c; terms = (kronecker_terms-unit_first ring n (omega arith) i (unit_term k ∷ []) (IsCanonical-unit k) ∙ ap (λ q. unit_term q ∷ []) (sym e)) j }
      ∷ kronecker_row-unit n d i (suc k) (suc m) es (omega arith) j)

  kronecker_rows-units : (es : List ℤ) (i m : ℕ) (ds : List ℤ) → m ≡ i * length es
      → kronecker_rows ring (length es) (unit_rows i ds) (unit_rows 0 es) ≡ unit_rows m (degree_sums ds es)
  kronecker_rows-units es i m [] e = refl
  kronecker_rows-units es i m (d ∷ ds) e =
      let size : length (map (λ c. d +ℤ c) es) ≡ length es = length-map es (λ c. d +ℤ c) in
      (λ j. kronecker_row-unit (length es) d i 0 m es (omega arith) j ++ kronecker_rows-units es (suc i) (m + length es) ds (omega (arith, suc-mul i (length es))) j)
      ∙ sym (unit_rows-append m (map (λ c. d +ℤ c) es) (degree_sums ds es) (m + length es) (omega arith))

  pub kronecker-identity : (ds es : List ℤ)
      → kronecker (identity ring ds) (identity ring es) ≡ identity ring (degree_sums ds es)
  kronecker-identity ds es = λ i. record {
    ring = ring;
    target = degree_sums ds es;
    rows = kronecker_rows-units es 0 0 ds (sym (zero-mul (length es))) i;
  }

-- with an identity second, the entries of the other matrix stand where the identity has its ones
pub entry-kronecker_identity : (a : Matrix) (es : List ℤ) → 1 < a.ring.modulus → IsMatrix a → (i k j l : ℕ)
    → k < length es → l < length es
    → entry (j * length es + l) (row_at (kronecker a (identity a.ring es)).rows (i * length es + k))
    ≡ (if k == l then entry j (row_at a.rows i) else [])
entry-kronecker_identity a es above h i k j l row column =
    let positive : 0 < a.ring.modulus = omega arith in
    let size : length (unit_rows 0 es) ≡ length es = length-unit_rows 0 es in
    ap (λ n. entry (j * length es + l) (row_at (kronecker a (identity a.ring es)).rows (i * n + k))) (sym size)
    ∙ entry-kronecker a (identity a.ring es) positive (IsMatrix-identity a.ring above es) i k j l (omega arith) column
    ∙ polynomial_product-comm a.ring positive (entry j (row_at a.rows i)) (entry l (row_at (unit_rows 0 es) k))
    ∙ elim (cases_eq k l) [
      | inl same ↦
          let yes : eqb k l ≡ true = grind (arith, nat_tests) in
          ap (λ c. polynomial_product a.ring c (entry j (row_at a.rows i)))
          (ap (λ c. entry c (row_at (unit_rows 0 es) k)) (sym same) ∙ entry-unit_rows es k row)
          ∙ polynomial_product-one a.ring positive (entry j (row_at a.rows i))
          (IsCanonical-entry a.ring j (row_at a.rows i) (IsCanonical-matrix_row a.ring a.target a.rows h i))
          ∙ ap (λ b. if b then entry j (row_at a.rows i) else []) (sym yes)
      | inr other ↦
          let no : eqb k l ≡ false = grind (arith, nat_tests) in
          ap (λ c. polynomial_product a.ring c (entry j (row_at a.rows i))) (entry-unit_rows_other es k l other)
          ∙ polynomial_product-nil a.ring (entry j (row_at a.rows i))
          ∙ ap (λ b. if b then entry j (row_at a.rows i) else []) (sym no)
    ]
