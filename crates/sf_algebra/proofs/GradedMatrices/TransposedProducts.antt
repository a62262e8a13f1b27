-- The transposes of the identity and of a product.
use Rattle.std.proofs.Common.{◌≡◌, ◌≢◌, refl, ℕ, ◌+◌, ◌<◌, ◌≤◌, List, [], ◌∷◌, map, length, ℤ, neg_ℤ, sym, ap, ◌∙◌, subst, inl, inr, arith}
use Rattle.std.proofs.lemmas.Bool.{cases_eq, cases_lt}
use Rattle.std.proofs.lemmas.List.{length-map}
use Rattle.sf_algebra.specs.Matrices.{Matrix, IsMatrix}
use Rattle.sf_algebra.specs.MatrixOperations.{row_at, unit_rows, identity, matrix_product, transposed, IsComposable}
use Rattle.sf_algebra.specs.Rings.{Ring}
use Rattle.sf_algebra.specs.Vectors.{entry}
use Rattle.sf_algebra.proofs.GradedMatrices.Identities.{IsMatrix-identity, row_degrees-identity, length-unit_rows}
use Rattle.sf_algebra.proofs.GradedMatrices.MatrixProducts.{IsMatrix-matrix_product, row_degrees-matrix_product}
use Rattle.sf_algebra.proofs.GradedMatrices.MatrixRows.{same_matrices}
use Rattle.sf_algebra.proofs.GradedMatrices.Transposes.{IsMatrix-transposed, entry-transposed, row_degrees-transposed}
use Rattle.sf_algebra.proofs.Multiplying.MultipleLaws.{one_term}
use Rattle.sf_algebra.proofs.Vectors.Entries.{entry-here, entry-elsewhere}
use Rattle.sf_algebra.proofs.Vectors.EntryTotals.{inner_product, inner_product-comm, entry-row_combination}
use Rattle.sf_algebra.proofs.Vectors.Rows.{row_at-past, row_at-matrix_product}
use Rattle.sf_algebra.proofs.Vectors.UnitRows.{unit_term, row_at-unit_rows}

-- the entries of the identity
pub entry-unit_rows : (ds : List ℤ) (i : ℕ) → i < length ds → entry i (row_at (unit_rows 0 ds) i) ≡ one_term ∷ []
entry-unit_rows ds i inside =
    ap (entry i) (row_at-unit_rows ds 0 i inside) ∙ entry-here i (unit_term (0 + i)) [] (omega arith)

pub entry-unit_rows_other : (ds : List ℤ) (i j : ℕ) → i ≢ j → entry j (row_at (unit_rows 0 ds) i) ≡ []
entry-unit_rows_other ds i j other =
    elim (cases_lt i (length ds)) [
      | inl inside ↦
          ap (entry j) (row_at-unit_rows ds 0 i inside)
          ∙ entry-elsewhere j (unit_term (0 + i)) [] (λ e. other (omega arith))
      | inr past ↦ ap (entry j) (row_at-past (unit_rows 0 ds) i (rw (length-unit_rows 0 ds) past))
    ]

pub entry-unit_rows_past : (ds : List ℤ) (i j : ℕ) → length ds ≤ i → entry j (row_at (unit_rows 0 ds) i) ≡ []
entry-unit_rows_past ds i j past = ap (entry j) (row_at-past (unit_rows 0 ds) i (rw (length-unit_rows 0 ds) past))

-- identities of one size have the same entries, and rows and columns may be exchanged
pub entry-unit_rows_exchange : (ds es : List ℤ) (i j : ℕ) → length ds ≡ length es
    → entry j (row_at (unit_rows 0 ds) i) ≡ entry i (row_at (unit_rows 0 es) j)
entry-unit_rows_exchange ds es i j size =
    elim (cases_eq i j) [
      | inl same ↦ subst (λ k. entry k (row_at (unit_rows 0 ds) i) ≡ entry i (row_at (unit_rows 0 es) k)) same
          (elim (cases_lt i (length ds)) [
            | inl inside ↦ entry-unit_rows ds i inside ∙ sym (entry-unit_rows es i (omega arith))
            | inr past ↦ entry-unit_rows_past ds i i past ∙ sym (entry-unit_rows_past es i i (omega arith))
          ])
      | inr other ↦ entry-unit_rows_other ds i j other ∙ sym (entry-unit_rows_other es j i (λ e. other (sym e)))
    ]

pub transposed-identity : (ring : Ring) (ds : List ℤ) → 1 < ring.modulus
    → transposed (identity ring ds) ≡ identity ring (map neg_ℤ ds)
transposed-identity ring ds above =
    let h = IsMatrix-identity ring above ds in
    same_matrices (transposed (identity ring ds)) (identity ring (map neg_ℤ ds))
    (IsMatrix-transposed (identity ring ds) h) (IsMatrix-identity ring above (map neg_ℤ ds)) refl
    (ap (map neg_ℤ) (row_degrees-identity ring ds))
    (row_degrees-transposed (identity ring ds) ∙ sym (row_degrees-identity ring (map neg_ℤ ds)))
    (λ i j. entry-transposed (identity ring ds) h j i ∙ entry-unit_rows_exchange ds (map neg_ℤ ds) j i (sym (length-map ds neg_ℤ)))

pub IsComposable-transposed : (a b : Matrix) → IsComposable a b → IsComposable (transposed b) (transposed a)
IsComposable-transposed a b c = record {
  positive = subst (λ (q : Ring). 0 < q.modulus) c.rings c.positive;
  rings = sym c.rings;
  degrees = row_degrees-transposed a ∙ ap (map neg_ℤ) (sym c.degrees);
}

pub transposed-matrix_product : (a b : Matrix) → IsComposable a b → IsMatrix a → IsMatrix b
    → transposed (matrix_product a b) ≡ matrix_product (transposed b) (transposed a)
transposed-matrix_product a b c h k =
    let ab = IsMatrix-matrix_product a b c h k in
    let ta = IsMatrix-transposed a h in
    let tb = IsMatrix-transposed b k in
    let d = IsComposable-transposed a b c in
    same_matrices (transposed (matrix_product a b)) (matrix_product (transposed b) (transposed a))
    (IsMatrix-transposed (matrix_product a b) ab)
    (IsMatrix-matrix_product (transposed b) (transposed a) d tb ta)
    c.rings
    (ap (map neg_ℤ) (row_degrees-matrix_product a b))
    (row_degrees-transposed (matrix_product a b) ∙ sym (row_degrees-matrix_product (transposed b) (transposed a) ∙ row_degrees-transposed b))
    (λ i j.
    entry-transposed (matrix_product a b) ab j i
    ∙ ap (entry i) (row_at-matrix_product a.ring c.positive a b j refl)
    ∙ entry-row_combination a.ring c.positive i b.rows (row_at a.rows j) (row_at (transposed b).rows i)
    (λ l. entry-transposed b k l i)
    ∙ inner_product-comm a.ring c.positive (row_at a.rows j) (row_at (transposed b).rows i)
    ∙ ap (λ ring. inner_product ring (row_at (transposed b).rows i) (row_at a.rows j)) c.rings
    ∙ sym (entry-row_combination b.ring d.positive j (transposed a).rows (row_at (transposed b).rows i) (row_at a.rows j) (λ l. sym (entry-transposed a h j l)))
    ∙ ap (entry j) (sym (row_at-matrix_product b.ring d.positive (transposed b) (transposed a) i refl)))
