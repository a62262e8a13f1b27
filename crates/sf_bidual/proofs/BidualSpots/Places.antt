-- The maps of the bidual bicomplex by places of the columns: what they are, and that their squares are zero.
use Rattle.std.proofs.Common.{◌≡◌, ◌<◌, ℕ, zero, suc, map, refl, sym, ◌∙◌, ap, subst, neg_ℤ}
use Rattle.sf_algebra.specs.Matrices.{Matrix, row_degrees, IsMatrix}
use Rattle.sf_algebra.specs.MatrixOperations.{matrix_product, negated, transposed, IsComposable}
use Rattle.sf_algebra.specs.Rings.{Ring, IsOverField}
use Rattle.sf_algebra.proofs.GradedMatrices.MatrixProducts.{IsMatrix-matrix_product}
use Rattle.sf_algebra.proofs.GradedMatrices.TransposedProducts.{transposed-matrix_product}
use Rattle.sf_algebra.proofs.GradedMatrices.Transposes.{IsMatrix-transposed, row_degrees-transposed}
use Rattle.sf_algebra.proofs.Monomials.Weights.{field_ring}
use Rattle.sf_blocks.specs.MatrixSums.{matrix_sum, IsZeroMatrix}
use Rattle.sf_blocks.proofs.MatrixSums.SumGroups.{matrix_sum-negated}
use Rattle.sf_blocks.proofs.TwoByTwo.ZeroParts.{IsZeroMatrix-zero_matrix}
use Rattle.sf_bicomplex.specs.TensorBicomplexes.{signed}
use Rattle.sf_bicomplex.proofs.Tensors.Multiples.{IsMatrix-signed, ring-signed, row_degrees-signed, signed-first, signed-second, target-signed}
use Rattle.sf_bidual.specs.Bidual.{dual_degrees}
use Rattle.sf_bidual.specs.CartanEilenberg.{CartanEilenberg, IsCartanEilenberg, IsCochainComplex, column_steps, horizontal_step}
use Rattle.sf_bidual.proofs.Horseshoes.Lifts.{negated-zero}
use Rattle.sf_bidual.proofs.Columns.Laws.{column-rings, column-squares, column-target, column_degrees-steps, resolves_terms}
use Rattle.sf_bidual.proofs.HorizontalMaps.Squares.{IsMatrix-horizontal, commute_differentials, horizontal_squares, row_degrees-horizontal}
use Rattle.sf_bidual.proofs.Rows.TransposedColumns.{transposed_zero}

-- signs
pub signed-zero : (j : ℕ) (m : Matrix) → IsZeroMatrix m → IsZeroMatrix (signed j m)
signed-zero zero m h = h
signed-zero (suc j) m h = negated-zero (signed j m) (signed-zero j m h)

module _ (ring : Ring) (maps : ℕ → Matrix) (x : CartanEilenberg) (prime : IsOverField ring)
    (complex : IsCochainComplex ring maps) (h : IsCartanEilenberg ring maps x) where
  positive : 0 < ring.modulus
  positive = (field_ring prime).modulus

  module _ (i j : ℕ) where
    -- the transposed maps of a column
    abbrev pub across : Matrix
    across = transposed (column_steps x i (suc j))

    pub step-matrix : IsMatrix (column_steps x i j)
    step-matrix = ((resolves_terms ring maps x prime complex h i).exact j).out_matrix

    next-matrix : IsMatrix (column_steps x i (suc j))
    next-matrix = ((resolves_terms ring maps x prime complex h i).exact j).into_matrix

    pub across-matrix : IsMatrix across
    across-matrix = IsMatrix-transposed (column_steps x i (suc j)) next-matrix

    pub across-ring : across.ring ≡ ring
    across-ring = column-rings ring maps x prime complex h i (suc j)

    pub across-source : row_degrees across ≡ dual_degrees x i (suc j)
    across-source =
        row_degrees-transposed (column_steps x i (suc j))
        ∙ ap (map neg_ℤ) (column-target ring maps x prime complex h i j)

    pub across-target : across.target ≡ dual_degrees x i (suc (suc j))
    across-target = ap (map neg_ℤ) (column_degrees-steps ring maps x prime complex h i (suc j))

    -- the transposed horizontal maps, from the next row
    abbrev pub plain_down : Matrix
    plain_down = transposed (horizontal_step ring x i j)

    pub plain_down-matrix : IsMatrix plain_down
    plain_down-matrix =
        IsMatrix-transposed (horizontal_step ring x i j) (IsMatrix-horizontal ring maps x prime complex h i j)

    pub plain_down-source : row_degrees plain_down ≡ dual_degrees x (suc i) (suc j)
    plain_down-source = row_degrees-transposed (horizontal_step ring x i j)

    pub plain_down-target : plain_down.target ≡ dual_degrees x i (suc j)
    plain_down-target = ap (map neg_ℤ) (row_degrees-horizontal ring maps x prime complex h i j)

    abbrev pub down : Matrix
    down = signed j plain_down

    pub down-matrix : IsMatrix down
    down-matrix = IsMatrix-signed j plain_down plain_down-matrix

    pub down-ring : down.ring ≡ ring
    down-ring = ring-signed j plain_down

    pub down-source : row_degrees down ≡ dual_degrees x (suc i) (suc j)
    down-source = row_degrees-signed j plain_down ∙ plain_down-source

    pub down-target : down.target ≡ dual_degrees x i (suc j)
    down-target = target-signed j plain_down ∙ plain_down-target

  pub across-twice : (i j : ℕ) → IsZeroMatrix (matrix_product (across i j) (across i (suc j)))
  across-twice i j =
      let exact = (resolves_terms ring maps x prime complex h i).exact (suc j) in
      transposed_zero (column_steps x i (suc j)) (column_steps x i (suc (suc j))) exact.meet exact.into_matrix
      exact.out_matrix (column-squares ring maps x prime complex h i (suc j))

  horizontals : (i j : ℕ) → IsComposable (horizontal_step ring x i j) (horizontal_step ring x (suc i) j)
  horizontals i j = record {
    positive = positive;
    rings = refl;
    degrees = row_degrees-horizontal ring maps x prime complex h (suc i) j;
  }

  pub down-twice : (i j : ℕ) → IsZeroMatrix (matrix_product (down (suc i) j) (down i j))
  down-twice i j =
      let zero_plain : IsZeroMatrix (matrix_product (plain_down (suc i) j) (plain_down i j)) =
      transposed_zero (horizontal_step ring x (suc i) j) (horizontal_step ring x i j) (horizontals i j)
      (IsMatrix-horizontal ring maps x prime complex h i j) (IsMatrix-horizontal ring maps x prime complex h (suc i) j)
      (horizontal_squares ring maps x prime complex h i j) in
      subst IsZeroMatrix
      (sym (signed-first j (plain_down (suc i) j) (down i j) positive (plain_down-matrix (suc i) j)
      ∙ ap (signed j) (signed-second j (plain_down (suc i) j) (plain_down i j) positive refl
      (plain_down-matrix i j))))
      (signed-zero j (signed j (matrix_product (plain_down (suc i) j) (plain_down i j)))
      (signed-zero j (matrix_product (plain_down (suc i) j) (plain_down i j)) zero_plain))

  -- the transposed square of horizontal maps and differentials
  pub plain_square : (i j : ℕ) → matrix_product (plain_down i j) (across i j)
      ≡ matrix_product (across (suc i) j) (plain_down i (suc j))
  plain_square i j =
      let first : IsComposable (column_steps x i (suc j)) (horizontal_step ring x i j) = record {
        positive = subst (λ (q : Ring). 0 < q.modulus) (sym (column-rings ring maps x prime complex h i (suc j))) positive;
        rings = column-rings ring maps x prime complex h i (suc j);
        degrees = row_degrees-horizontal ring maps x prime complex h i j
            ∙ sym (column-target ring maps x prime complex h i j);
      } in
      let last : IsComposable (horizontal_step ring x i (suc j)) (column_steps x (suc i) (suc j)) = record {
        positive = positive;
        rings = sym (column-rings ring maps x prime complex h (suc i) (suc j));
        degrees = column_degrees-steps ring maps x prime complex h (suc i) (suc j);
      } in
      sym (transposed-matrix_product (column_steps x i (suc j)) (horizontal_step ring x i j) first (next-matrix i j)
      (IsMatrix-horizontal ring maps x prime complex h i j))
      ∙ ap transposed (commute_differentials ring maps x prime complex h i j)
      ∙ transposed-matrix_product (horizontal_step ring x i (suc j)) (column_steps x (suc i) (suc j)) last
      (IsMatrix-horizontal ring maps x prime complex h i (suc j)) (next-matrix (suc i) j)

  -- with its signs it is zero
  pub signed_square : (i j : ℕ)
      → IsZeroMatrix (matrix_sum (matrix_product (down i j) (across i j)) (matrix_product (across (suc i) j) (down i (suc j))))
  signed_square i j =
      let one = matrix_product (plain_down i j) (across i j) in
      let positive_across : 0 < (across (suc i) j).ring.modulus =
      subst (λ (q : Ring). 0 < q.modulus) (sym (across-ring (suc i) j)) positive in
      let first : matrix_product (down i j) (across i j) ≡ signed j one =
      signed-first j (plain_down i j) (across i j) positive (plain_down-matrix i j) in
      let second : matrix_product (across (suc i) j) (down i (suc j)) ≡ negated (signed j one) =
      signed-second (suc j) (across (suc i) j) (plain_down i (suc j)) positive_across (across-ring (suc i) j)
      (plain_down-matrix i (suc j))
      ∙ ap (λ m. negated (signed j m)) (sym (plain_square i j)) in
      let one-matrix : IsMatrix one = IsMatrix-matrix_product (plain_down i j) (across i j) (record {
        positive = positive;
        rings = sym (across-ring i j);
        degrees = across-source i j ∙ sym (plain_down-target i j);
      }) (plain_down-matrix i j) (across-matrix i j) in
      let whole = signed j one in
      let positive_whole : 0 < whole.ring.modulus =
      subst (λ (q : Ring). 0 < q.modulus) (sym (ring-signed j one)) positive in
      subst IsZeroMatrix (λ k. matrix_sum (sym first k) (sym second k))
      (subst IsZeroMatrix (sym (matrix_sum-negated whole positive_whole (IsMatrix-signed j one one-matrix)))
      (IsZeroMatrix-zero_matrix whole.ring (row_degrees whole) whole.target))
