-- The transpose of a Kronecker product is the Kronecker product of the transposes.
use Rattle.std.proofs.Common.{◌≡◌, refl, ℕ, ◌+◌, ◌*◌, ◌/◌, ◌%◌, ◌<◌, List, [], ◌∷◌, ◌++◌, map, length, ℤ, ◌+ℤ◌, neg_ℤ, sym, ap, ◌∙◌, subst, inl, inr, arith, mul-zero}
use Rattle.std.proofs.Math.IntN.{neg_ℤ-+ℤ}
use Rattle.std.proofs.Math.Nat.{mod-lt}
use Rattle.std.proofs.lemmas.Bool.{cases_lt}
use Rattle.std.proofs.lemmas.List.{length-map, map-append}
use Rattle.std.proofs.lemmas.Nat.{div-add-mod'}
use Rattle.sf_algebra.specs.Matrices.{Matrix, row_degrees, IsMatrix}
use Rattle.sf_algebra.specs.MatrixOperations.{row_at, transposed, degree_sums, kronecker}
use Rattle.sf_algebra.specs.Polynomials.{polynomial_product}
use Rattle.sf_algebra.specs.Vectors.{Vector, entry}
use Rattle.sf_algebra.proofs.GradedMatrices.MatrixRows.{IsWithin-matrix_row, same_matrices}
use Rattle.sf_algebra.proofs.GradedMatrices.Transposes.{IsMatrix-transposed, entry-outside, entry-transposed, length-column_rows, row_degrees-transposed}
use Rattle.sf_algebra.proofs.Tensors.Kronecker.{IsMatrix-kronecker, row_degrees-kronecker}
use Rattle.sf_algebra.proofs.Tensors.KroneckerEntries.{entry-kronecker}
use Rattle.sf_algebra.proofs.Tensors.KroneckerVectors.{length-degree_sums}
use Rattle.sf_algebra.proofs.Vectors.Rows.{row_at-past}

neg-plus : (d : ℤ) (es : List ℤ) → map neg_ℤ (map (λ e. d +ℤ e) es) ≡ map (λ e. neg_ℤ d +ℤ e) (map neg_ℤ es)
neg-plus d [] = refl
neg-plus d (e ∷ es) = λ i. neg_ℤ-+ℤ d e i ∷ neg-plus d es i

-- the negatives of sums are the sums of negatives
pub degree_sums-neg : (ds es : List ℤ) → map neg_ℤ (degree_sums ds es) ≡ degree_sums (map neg_ℤ ds) (map neg_ℤ es)
degree_sums-neg [] es = refl
degree_sums-neg (d ∷ ds) es =
    map-append neg_ℤ (map (λ e. d +ℤ e) es) (degree_sums ds es) ∙ (λ i. neg-plus d es i ++ degree_sums-neg ds es i)

pub length-kronecker : (a b : Matrix) → length (kronecker a b).rows ≡ length a.rows * length b.rows
length-kronecker a b =
    sym (length-map (kronecker a b).rows (λ (v : Vector). v.degree))
    ∙ ap length (row_degrees-kronecker a b)
    ∙ length-degree_sums (row_degrees a) (row_degrees b)
    ∙ (λ i. length-map a.rows (λ (v : Vector). v.degree) i * length-map b.rows (λ (v : Vector). v.degree) i)

-- where the second matrix has no rows, or no columns, there are no entries
no_rows : (a b : Matrix) (i j : ℕ) → length b.rows ≡ 0 → entry j (row_at (kronecker a b).rows i) ≡ []
no_rows a b i j none =
    let size : length (kronecker a b).rows ≡ 0 =
    length-kronecker a b ∙ ap (λ n. length a.rows * n) none ∙ mul-zero (length a.rows) in
    ap (entry j) (row_at-past (kronecker a b).rows i (omega arith))

no_columns : (a b : Matrix) (i j : ℕ) → IsMatrix (kronecker a b) → length b.target ≡ 0
    → entry j (row_at (kronecker a b).rows i) ≡ []
no_columns a b i j h none =
    let size : length (degree_sums a.target b.target) ≡ 0 = length-degree_sums a.target b.target ∙ ap (λ n. length a.target * n) none ∙ mul-zero (length a.target) in
    entry-outside _ (row_at (kronecker a b).rows i) j
    (IsWithin-matrix_row a.ring (degree_sums a.target b.target) (kronecker a b).rows h i) (omega arith)

module _ (a b : Matrix) (positive : 0 < a.ring.modulus) (rings : a.ring ≡ b.ring) (h : IsMatrix a)
    (k : IsMatrix b) where
  columns : length (transposed b).rows ≡ length b.target
  columns = length-column_rows b.rows 0 b.target

  rows : length (transposed b).target ≡ length b.rows
  rows = length-map (row_degrees b) neg_ℤ ∙ length-map b.rows (λ (v : Vector). v.degree)

  -- the entries at pairs of numbers
  pairs : (i r j c : ℕ) → r < length b.rows → c < length b.target
      → entry (j * length b.target + c) (row_at (kronecker a b).rows (i * length b.rows + r))
      ≡ entry (i * length b.rows + r) (row_at (kronecker (transposed a) (transposed b)).rows (j * length b.target + c))
  pairs i r j c row column =
      entry-kronecker a b positive k i r j c row column
      ∙ (λ l. polynomial_product a.ring (sym (entry-transposed a h i j) l) (sym (entry-transposed b k r c) l))
      ∙ sym (entry-kronecker (transposed a) (transposed b) positive (IsMatrix-transposed b k) j c i r (rw columns column) (rw rows row))
      ∙ (λ l. entry (i * rows l + r) (row_at (kronecker (transposed a) (transposed b)).rows (j * columns l + c)))

  entries : (m n : ℕ) → entry n (row_at (kronecker a b).rows m)
      ≡ entry m (row_at (kronecker (transposed a) (transposed b)).rows n)
  entries m n =
      let ta = IsMatrix-transposed a h in
      let tb = IsMatrix-transposed b k in
      elim (cases_lt 0 (length b.rows)) [
        | inl some_rows ↦ elim (cases_lt 0 (length b.target)) [
          | inl some_columns ↦
              subst (λ q. entry q (row_at (kronecker a b).rows m) ≡ entry m (row_at (kronecker (transposed a) (transposed b)).rows q)) (div-add-mod' n (length b.target))
              (subst (λ q. entry (n / length b.target * length b.target + n % length b.target) (row_at (kronecker a b).rows q) ≡ entry q (row_at (kronecker (transposed a) (transposed b)).rows (n / length b.target * length b.target + n % length b.target))) (div-add-mod' m (length b.rows))
              (pairs (m / length b.rows) (m % length b.rows) (n / length b.target) (n % length b.target) (mod-lt m some_rows) (mod-lt n some_columns)))
          | inr none ↦
              no_columns a b m n (IsMatrix-kronecker a b positive rings h k) (omega arith)
              ∙ sym (no_rows (transposed a) (transposed b) n m (columns ∙ omega arith))
        ]
        | inr none ↦
            no_rows a b m n (omega arith)
            ∙ sym (no_columns (transposed a) (transposed b) n m (IsMatrix-kronecker (transposed a) (transposed b) positive rings ta tb) (rows ∙ omega arith))
      ]

  pub transposed-kronecker : transposed (kronecker a b) ≡ kronecker (transposed a) (transposed b)
  transposed-kronecker =
      let ab = IsMatrix-kronecker a b positive rings h k in
      same_matrices (transposed (kronecker a b)) (kronecker (transposed a) (transposed b))
      (IsMatrix-transposed (kronecker a b) ab)
      (IsMatrix-kronecker (transposed a) (transposed b) positive rings (IsMatrix-transposed a h) (IsMatrix-transposed b k))
      refl
      (ap (map neg_ℤ) (row_degrees-kronecker a b) ∙ degree_sums-neg (row_degrees a) (row_degrees b))
      (row_degrees-transposed (kronecker a b)
      ∙ degree_sums-neg a.target b.target
      ∙ (λ i. degree_sums (sym (row_degrees-transposed a) i) (sym (row_degrees-transposed b) i))
      ∙ sym (row_degrees-kronecker (transposed a) (transposed b)))
      (λ i j. entry-transposed (kronecker a b) ab j i ∙ entries j i)
