-- The Kronecker product as the product of two with an identity, the rows of which are those of one matrix, moved or
-- scattered.
use Rattle.std.proofs.Common.{◌≡◌, refl, ℕ, suc, ◌+◌, ◌*◌, ◌<◌, ◌≤◌, List, [], ◌∷◌, ◌++◌, map, length, ℤ, ◌+ℤ◌, sym, ap, ◌∙◌, subst, arith, append_assoc, append-nil}
use Rattle.std.specs.List.{flat_map}
use Rattle.sf_algebra.specs.Matrices.{Matrix, row_degrees, IsMatrix}
use Rattle.sf_algebra.specs.MatrixOperations.{unit_vector, unit_rows, identity, matrix_product, moved, kronecker}
use Rattle.sf_algebra.specs.Rings.{Ring}
use Rattle.sf_algebra.specs.Vectors.{Vector}
use Rattle.sf_algebra.proofs.GradedMatrices.Identities.{IsMatrix-identity, row_degrees-identity}
use Rattle.sf_algebra.proofs.GradedMatrices.ProductLaws.{matrix_product-identity_first, matrix_product-identity}
use Rattle.sf_algebra.proofs.Tensors.Kronecker.{kronecker_row}
use Rattle.sf_algebra.proofs.Tensors.KroneckerProducts.{kronecker_rows, kronecker-matrix_product}
use Rattle.sf_algebra.proofs.Tensors.KroneckerUnits.{scattered, kronecker_terms-unit_first, kronecker_terms-unit}
use Rattle.sf_algebra.proofs.Vectors.HomogeneousVectors.{HasCanonicalRows-from_IsMatrix}
use Rattle.sf_algebra.proofs.Vectors.RowParts.{HasCanonicalRows}

-- the rows, each of a degree that is greater by d, moved on by so many positions
abbrev pub moved_rows : ℤ → ℕ → List Vector → List Vector
moved_rows d by ws = map (λ (w : Vector). record { degree = d +ℤ w.degree; terms = moved by w.terms }) ws

-- the rows once for each degree, the first time moved by i blocks of n columns
abbrev pub repeated_rows : ℕ → ℕ → List ℤ → List Vector → List Vector
repeated_rows n i [] ws = []
repeated_rows n i (d ∷ ds) ws = moved_rows d (i * n) ws ++ repeated_rows n (suc i) ds ws

-- a row once for each degree, scattered over each n-th column: the first time from column k on, then from the next
abbrev pub scattered_rows : ℕ → ℕ → List ℤ → Vector → List Vector
scattered_rows n k [] v = []
scattered_rows n k (e ∷ es) v = record { degree = v.degree +ℤ e; terms = scattered n k v.terms } ∷ scattered_rows n (suc k) es v

-- one more degree
pub repeated_rows-push : (n i : ℕ) (ds : List ℤ) (d : ℤ) (ws : List Vector) (m : ℕ) → m ≡ i + length ds
    → repeated_rows n i (ds ++ d ∷ []) ws ≡ repeated_rows n i ds ws ++ moved_rows d (m * n) ws
repeated_rows-push n i [] d ws m e =
    append-nil (moved_rows d (i * n) ws) ∙ ap (λ q. moved_rows d (q * n) ws) (let same : i ≡ m = omega arith in same)
repeated_rows-push n i (c ∷ ds) d ws m e =
    ap (λ l. moved_rows c (i * n) ws ++ l) (repeated_rows-push n (suc i) ds d ws m (omega arith))
    ∙ sym (append_assoc (moved_rows c (i * n) ws) (repeated_rows n (suc i) ds ws) (moved_rows d (m * n) ws))

pub scattered_rows-push : (n k : ℕ) (es : List ℤ) (e : ℤ) (v : Vector) (m : ℕ) → m ≡ k + length es
    → scattered_rows n k (es ++ e ∷ []) v ≡ scattered_rows n k es v ++ record {
      degree =
          v.degree +ℤ e;
      terms = scattered n m v.terms;
    } ∷ []
scattered_rows-push n k [] e v m same =
    ap (λ q. record { degree = v.degree +ℤ e; terms = scattered n q v.terms } ∷ []) (let h : k ≡ m = omega arith in h)
scattered_rows-push n k (c ∷ es) e v m same =
    ap (λ l. record { degree = v.degree +ℤ c; terms = scattered n k v.terms } ∷ l)
    (scattered_rows-push n (suc k) es e v m (omega arith))

module _ (ring : Ring) (n : ℕ) (positive : 0 < ring.modulus) where
  kronecker_row-moved : (d : ℤ) (i : ℕ) (ws : List Vector) → HasCanonicalRows ring ws
      → kronecker_row ring n (unit_vector d i) ws ≡ moved_rows d (i * n) ws
  kronecker_row-moved d i [] h = refl
  kronecker_row-moved d i (w ∷ ws) h = λ j. record { degree = d +ℤ w.degree; terms = kronecker_terms-unit_first ring n positive i w.terms h.0 j } ∷ kronecker_row-moved d i ws h.1 j

  kronecker_rows-repeated : (i : ℕ) (ds : List ℤ) (ws : List Vector) → HasCanonicalRows ring ws
      → kronecker_rows ring n (unit_rows i ds) ws ≡ repeated_rows n i ds ws
  kronecker_rows-repeated i [] ws h = refl
  kronecker_rows-repeated i (d ∷ ds) ws h = λ j. kronecker_row-moved d i ws h j ++ kronecker_rows-repeated (suc i) ds ws h j

  kronecker_row-scattered : (k : ℕ) (es : List ℤ) (v : Vector) → length es ≤ n → HasCanonicalRows ring (v ∷ [])
      → kronecker_row ring n v (unit_rows k es) ≡ scattered_rows n k es v
  kronecker_row-scattered k [] v size h = refl
  kronecker_row-scattered k (e ∷ es) v size h =
      λ j. record {
        degree =
            v.degree +ℤ e;
        terms = kronecker_terms-unit ring n positive k
            (omega arith) v.terms h.0 j;
      } ∷ kronecker_row-scattered (suc k) es v (omega arith) h j

  kronecker_rows-scattered : (es : List ℤ) (vs : List Vector) → length es ≤ n → HasCanonicalRows ring vs
      → kronecker_rows ring n vs (unit_rows 0 es) ≡ flat_map (scattered_rows n 0 es) vs
  kronecker_rows-scattered es [] size h = refl
  kronecker_rows-scattered es (v ∷ vs) size h = λ j. kronecker_row-scattered 0 es v size (h.0, tt) j ++ kronecker_rows-scattered es vs size h.1 j

-- with an identity first, the rows are repeated
pub rows-kronecker_identity_first : (ds : List ℤ) (b : Matrix) → 0 < b.ring.modulus → IsMatrix b
    → (kronecker (identity b.ring ds) b).rows ≡ repeated_rows (length b.target) 0 ds b.rows
rows-kronecker_identity_first ds b positive h =
    kronecker_rows-repeated b.ring (length b.target) positive 0 ds b.rows (HasCanonicalRows-from_IsMatrix b h)

-- with an identity second, they are scattered
pub rows-kronecker_identity : (a : Matrix) (es : List ℤ) → 0 < a.ring.modulus → IsMatrix a
    → (kronecker a (identity a.ring es)).rows ≡ flat_map (scattered_rows (length es) 0 es) a.rows
rows-kronecker_identity a es positive h =
    kronecker_rows-scattered a.ring (length es) positive es a.rows (omega arith) (HasCanonicalRows-from_IsMatrix a h)

pub kronecker-factors : (a b : Matrix) → 1 < a.ring.modulus → a.ring ≡ b.ring → IsMatrix a → IsMatrix b
    → kronecker a b ≡ matrix_product (kronecker a (identity a.ring (row_degrees b)))
    (kronecker (identity a.ring a.target) b)
kronecker-factors a b above rings h k =
    let positive : 0 < a.ring.modulus = omega arith in
    (λ i. kronecker (sym (matrix_product-identity a positive h) i) (sym (matrix_product-identity_first b (subst (λ ring. 0 < ring.modulus) rings positive) k) i))
    ∙ ap (λ ring. kronecker (matrix_product a (identity a.ring a.target)) (matrix_product (identity ring (row_degrees b)) b)) (sym rings)
    ∙ kronecker-matrix_product a (identity a.ring a.target) (identity a.ring (row_degrees b)) b
    (record { positive = positive; rings = refl; degrees = row_degrees-identity a.ring a.target })
    (record { positive = positive; rings = rings; degrees = refl })
    refl
    (IsMatrix-identity a.ring above (row_degrees b))

-- the two factors may come in either order
pub kronecker-factors_exchanged : (a b : Matrix) → 1 < a.ring.modulus → a.ring ≡ b.ring → IsMatrix a → IsMatrix b
    → kronecker a b ≡ matrix_product (kronecker (identity a.ring (row_degrees a)) b)
    (kronecker a (identity a.ring b.target))
kronecker-factors_exchanged a b above rings h k =
    let positive : 0 < a.ring.modulus = omega arith in
    (λ i. kronecker (sym (matrix_product-identity_first a positive h) i) (sym (matrix_product-identity b (subst (λ ring. 0 < ring.modulus) rings positive) k) i))
    ∙ ap (λ ring. kronecker (matrix_product (identity a.ring (row_degrees a)) a) (matrix_product b (identity ring b.target))) (sym rings)
    ∙ kronecker-matrix_product (identity a.ring (row_degrees a)) a b (identity a.ring b.target)
    (record { positive = positive; rings = refl; degrees = refl })
    (record { positive = subst (λ ring. 0 < ring.modulus) rings positive; rings = sym rings; degrees = row_degrees-identity a.ring b.target })
    rings
    k
