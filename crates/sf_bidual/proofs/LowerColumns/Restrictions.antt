-- A map of column 1 to the ring that goes nowhere but horizontally is, restricted to the cycles, a map of Z(1).
use Rattle.std.proofs.Common.{◌≡◌, ◌<◌, ℕ, suc, List, [], map, refl, sym, ◌∙◌, ap, subst, neg_ℤ}
use Rattle.sf_algebra.specs.Matrices.{IsMatrix, Matrix, degrees_of, row_degrees}
use Rattle.sf_algebra.specs.MatrixOperations.{identity, matrix_product, row_combination, transposed}
use Rattle.sf_algebra.specs.Rings.{IsOverField, IsRing, Ring}
use Rattle.sf_algebra.specs.Terms.{Term}
use Rattle.sf_algebra.specs.Vectors.{IsVector, Place, Vector}
use Rattle.sf_algebra.proofs.GradedMatrices.Identities.{IsMatrix-identity, row_degrees-identity}
use Rattle.sf_algebra.proofs.GradedMatrices.ProductLaws.{matrix_product-identity, matrix_product-identity_first}
use Rattle.sf_algebra.proofs.GradedMatrices.TransposedProducts.{transposed-matrix_product}
use Rattle.sf_algebra.proofs.GradedMatrices.Transposes.{IsMatrix-transposed, row_degrees-transposed}
use Rattle.sf_algebra.proofs.Monomials.Weights.{field_ring}
use Rattle.sf_algebra.proofs.Vectors.HomogeneousVectors.{IsVector-row_combination}
use Rattle.sf_algebra.proofs.Vectors.Rows.{row_combination-matrix_product}
use Rattle.sf_groebner.specs.Spans.{IsSyzygy, combined_rows}
use Rattle.sf_blocks.specs.MatrixSums.{IsZeroMatrix, zero_matrix}
use Rattle.sf_blocks.proofs.MatrixSums.SumGroups.{IsMatrix-zero_matrix, row_degrees-zero_matrix}
use Rattle.sf_blocks.proofs.MatrixSums.SumProducts.{row_combination-zeros}
use Rattle.sf_blocks.proofs.TwoByTwo.ZeroParts.{IsZeroMatrix-product_second, IsZeroMatrix-zero_matrix, row_at-zero}
use Rattle.sf_bidual.specs.CartanEilenberg.{CartanEilenberg, IsCartanEilenberg, IsCochainComplex, column_degrees, column_steps, cycle_degrees, cycle_steps, horizontal_step, widened}
use Rattle.sf_bidual.specs.FactorLaws.{IsBasisOfCycles}
use Rattle.sf_bidual.proofs.Columns.Laws.{boundary-target, column-rings, column_degrees-steps, cycle-rings, cycle_degrees-steps, outer-degrees, outer_horseshoe, resolves_cycles, resolves_terms}
use Rattle.sf_bidual.proofs.HorizontalMaps.Squares.{IsMatrix-horizontal, row_degrees-horizontal, unit, unit-degrees}
use Rattle.sf_bidual.proofs.HorizontalMaps.Widened.{IsMatrix-widened, product-widened, row_degrees-widened, widened-stacked, widened-triangle}
use Rattle.sf_bidual.proofs.Horseshoes.Exactness.{AreTriangle-horseshoe}
use Rattle.sf_bidual.proofs.LowerColumns.FreeCycles.{Q, transposed-cycles}
use Rattle.sf_bidual.proofs.Rows.TransposedColumns.{transposed_zero}

-- a vector times the transpose of a product
pub combined-transposed : (ring : Ring) → 0 < ring.modulus → (a b : Matrix) → a.ring ≡ ring → b.ring ≡ ring
    → row_degrees b ≡ a.target → IsMatrix a → IsMatrix b → (ts : List (Term Place))
    → row_combination ring (transposed (matrix_product a b)).rows ts
    ≡ row_combination ring (transposed a).rows (row_combination ring (transposed b).rows ts)
combined-transposed ring positive a b a_ring b_ring meet ma mb ts =
    ap (λ (m : Matrix). row_combination ring m.rows ts)
    (transposed-matrix_product a b
    (record {
      positive = subst (λ (q : Ring). 0 < q.modulus) (sym a_ring) positive;
      rings = a_ring ∙ sym b_ring;
      degrees = meet;
    }) ma mb)
    ∙ row_combination-matrix_product ring positive (transposed b) (transposed a) ts b_ring

module _ (ring : Ring) (maps : ℕ → Matrix) (x : CartanEilenberg) (prime : IsOverField ring)
    (complex : IsCochainComplex ring maps) (h : IsCartanEilenberg ring maps x) where
  positive : IsRing ring
  positive = field_ring prime

  -- the cycles of a place of column i, in the column
  module _ (i j : ℕ) where
    abbrev pub cycle_part : Matrix
    cycle_part = widened (identity ring (cycle_degrees x i j)) (row_degrees (x.boundaries (suc i) j))

    cycle_unit-matrix : IsMatrix (identity ring (cycle_degrees x i j))
    cycle_unit-matrix = IsMatrix-identity ring prime.prime.above_one (cycle_degrees x i j)

    pub cycle_part-matrix : IsMatrix cycle_part
    cycle_part-matrix =
        IsMatrix-widened (identity ring (cycle_degrees x i j)) (row_degrees (x.boundaries (suc i) j)) cycle_unit-matrix

    pub cycle_part-degrees : row_degrees cycle_part ≡ cycle_degrees x i j
    cycle_part-degrees =
        row_degrees-widened (identity ring (cycle_degrees x i j)) (row_degrees (x.boundaries (suc i) j))
        ∙ row_degrees-identity ring (cycle_degrees x i j)

    -- what goes to the cycles, in the column
    pub product-cycle_part : (m : Matrix) → m.ring ≡ ring → m.target ≡ cycle_degrees x i j → IsMatrix m
        → matrix_product m cycle_part ≡ widened m (row_degrees (x.boundaries (suc i) j))
    product-cycle_part m m_ring target matrix =
        product-widened (identity ring (cycle_degrees x i j)) (row_degrees (x.boundaries (suc i) j)) m
        (record {
          positive = subst (λ (q : Ring). 0 < q.modulus) (sym m_ring) positive.modulus;
          rings = m_ring;
          degrees = row_degrees-identity ring (cycle_degrees x i j) ∙ sym target;
        }) matrix cycle_unit-matrix
        ∙ ap (λ m. widened m (row_degrees (x.boundaries (suc i) j)))
        ((λ k. matrix_product m (identity (sym m_ring k) (sym target k)))
        ∙ matrix_product-identity m (subst (λ (q : Ring). 0 < q.modulus) (sym m_ring) positive.modulus) matrix)

  -- the cycles go to cycles, and horizontally nowhere
  module _ (i j : ℕ) where
    abbrev cycles : Matrix
    cycles = cycle_steps x i (suc j)

    cycles-matrix : IsMatrix cycles
    cycles-matrix = ((resolves_cycles ring maps x prime complex h i).exact (suc j)).out_matrix

    cycles-target : cycles.target ≡ cycle_degrees x i j
    cycles-target =
        sym ((resolves_cycles ring maps x prime complex h i).exact j).meet.degrees
        ∙ cycle_degrees-steps ring maps x prime complex h i j

    pub cycles-go : matrix_product (cycle_part i (suc j)) (column_steps x i (suc j))
        ≡ matrix_product (cycle_steps x i (suc j)) (cycle_part i j)
    cycles-go =
        let next = x.boundaries (suc i) (suc j) in
        let one = identity ring (cycle_degrees x i (suc j)) in
        widened-triangle one cycles (x.outer i (suc j)) next (row_degrees next)
        (sym (outer-degrees ring maps x prime complex h i (suc j)))
        (AreTriangle-horseshoe (cycle_steps x i) (x.boundaries (suc i)) (x.outer i)
        (outer_horseshoe ring maps x prime complex h i) j)
        (record {
          positive = positive.modulus;
          rings = sym (cycle-rings ring maps x prime complex h i (suc j));
          degrees = cycle_degrees-steps ring maps x prime complex h i (suc j);
        }) (cycle_unit-matrix i (suc j)) cycles-matrix
        ∙ ap (λ m. widened m next.target)
        ((λ k. matrix_product
        (identity (sym (cycle-rings ring maps x prime complex h i (suc j)) k)
        (sym (cycle_degrees-steps ring maps x prime complex h i (suc j)) k)) cycles)
        ∙ matrix_product-identity_first cycles
        (subst (λ (q : Ring). 0 < q.modulus) (sym (cycle-rings ring maps x prime complex h i (suc j))) positive.modulus)
        cycles-matrix)
        ∙ ap (widened cycles) (boundary-target ring maps x prime complex h (suc i) j)
        ∙ sym (product-cycle_part i j cycles (cycle-rings ring maps x prime complex h i (suc j)) cycles-target
        cycles-matrix)

  module _ (i j : ℕ) where
    pub cycles-nowhere : IsZeroMatrix (matrix_product (cycle_part i j) (horizontal_step ring x i j))
    cycles-nowhere =
        let one = identity ring (cycle_degrees x i j) in
        let zeros = zero_matrix ring (cycle_degrees x i j) (column_degrees x (suc i) j) in
        subst IsZeroMatrix
        (sym (widened-stacked one zeros (unit ring maps x prime complex h i j) (row_degrees (x.boundaries (suc i) j))
        (sym (unit-degrees ring maps x prime complex h i j))
        (record {
          positive = positive.modulus;
          rings = refl;
          degrees = row_degrees-zero_matrix ring (cycle_degrees x i j) (column_degrees x (suc i) j);
        }) refl refl (cycle_unit-matrix i j) (IsMatrix-zero_matrix ring (cycle_degrees x i j) (column_degrees x (suc i) j))))
        (IsZeroMatrix-product_second one zeros positive.modulus
        (IsZeroMatrix-zero_matrix ring (cycle_degrees x i j) (column_degrees x (suc i) j)))

  -- u goes along its row where w goes horizontally; so its restriction to the cycles is a map of Z(1)
  module _ (g : List Vector) (basis : IsBasisOfCycles ring maps g) where
    abbrev pub E : Matrix
    E = cycle_part 1 0

    abbrev R : Matrix
    R = Q ring maps x prime complex h g basis

    pub restricted : (u w : Vector) → IsVector ring (map neg_ℤ (column_degrees x 1 0)) u
        → row_combination ring (transposed (column_steps x 1 1)).rows u.terms
        ≡ row_combination ring (transposed (horizontal_step ring x 1 1)).rows w.terms
        → (f : Vector) × IsVector ring (map neg_ℤ (degrees_of g)) f
        × (combined_rows ring (transposed R).rows f ≡ combined_rows ring (transposed E).rows u)
    restricted u w vector same =
        let p = positive.modulus in
        let cycles = cycle_steps x 1 1 in
        let cycles_ring = cycle-rings ring maps x prime complex h 1 1 in
        let column = column_steps x 1 1 in
        let across = horizontal_step ring x 1 1 in
        let E1 = cycle_part 1 1 in
        let v : Vector = combined_rows ring (transposed E).rows u in
        let gone : row_combination ring (transposed cycles).rows v.terms ≡ [] =
        sym (combined-transposed ring p cycles E cycles_ring refl
        (cycle_part-degrees 1 0 ∙ sym (cycles-target 1 0)) (cycles-matrix 1 0) (cycle_part-matrix 1 0) u.terms)
        ∙ ap (λ (m : Matrix). row_combination ring (transposed m).rows u.terms) (sym (cycles-go 1 0))
        ∙ combined-transposed ring p E1 column refl (column-rings ring maps x prime complex h 1 1)
        (column_degrees-steps ring maps x prime complex h 1 1) (cycle_part-matrix 1 1)
        ((resolves_terms ring maps x prime complex h 1).exact 1).out_matrix u.terms
        ∙ ap (row_combination ring (transposed E1).rows) same
        ∙ sym (row_combination-matrix_product ring p (transposed across) (transposed E1) w.terms refl)
        ∙ row_combination-zeros ring p (matrix_product (transposed across) (transposed E1)).rows
        (row_at-zero (matrix_product (transposed across) (transposed E1))
        (transposed_zero across E1
        (record { positive = p; rings = refl; degrees = row_degrees-horizontal ring maps x prime complex h 1 1 })
        (cycle_part-matrix 1 1) (IsMatrix-horizontal ring maps x prime complex h 1 1) (cycles-nowhere 1 1))) w.terms in
        let inside : IsVector ring (map neg_ℤ (cycle_degrees x 1 0)) v =
        subst (λ ds. IsVector ring (map neg_ℤ ds) v) (cycle_part-degrees 1 0)
        (IsVector-row_combination (transposed E) p (IsMatrix-transposed E (cycle_part-matrix 1 0)) u
        (subst (λ ds. IsVector ring ds u) (sym (row_degrees-transposed E)) vector)) in
        let syzygy : IsSyzygy (transposed cycles) v = record {
          coefficients =
              subst (λ (q : Ring). IsVector q (row_degrees (transposed cycles)) v) (sym cycles_ring)
              (subst (λ ds. IsVector ring ds v)
              (ap (map neg_ℤ) (sym (cycles-target 1 0)) ∙ sym (row_degrees-transposed cycles)) inside);
          zero = ap (λ (q : Ring). row_combination q (transposed cycles).rows v.terms) cycles_ring ∙ gone;
        } in
        let s = ((transposed-cycles ring maps x prime complex h g basis).exact v).0 syzygy in
        (s.coefficients, subst (λ ds. IsVector ring ds s.coefficients) (row_degrees-transposed R) s.homogeneous, s.value)
