-- Horizontal maps commute with differentials and augmentations: both ways the block B(i + 1) goes on as in its own
-- resolution, into the first block of the next column, and the others go to zero.
use Rattle.std.proofs.Common.{◌≡◌, ◌<◌, ℕ, suc, ◌++◌, refl, sym, ◌∙◌, ap, subst}
use Rattle.sf_algebra.specs.Matrices.{Matrix, row_degrees, IsMatrix}
use Rattle.sf_algebra.specs.MatrixOperations.{identity, matrix_product, stacked, IsComposable}
use Rattle.sf_algebra.specs.Rings.{Ring, IsOverField}
use Rattle.sf_algebra.proofs.GradedMatrices.Identities.{IsMatrix-identity, row_degrees-identity}
use Rattle.sf_algebra.proofs.GradedMatrices.MatrixProducts.{row_degrees-matrix_product}
use Rattle.sf_algebra.proofs.GradedMatrices.ProductLaws.{matrix_product-identity, matrix_product-identity_first, matrix_product-stacked}
use Rattle.sf_algebra.proofs.GradedMatrices.Stacks.{IsMatrix-stacked, row_degrees-stacked}
use Rattle.sf_algebra.proofs.Monomials.Weights.{field_ring}
use Rattle.sf_blocks.specs.MatrixSums.{zero_matrix, IsZeroMatrix}
use Rattle.sf_blocks.specs.SideBySide.{AreTriangle, beside}
use Rattle.sf_blocks.proofs.MatrixSums.SumGroups.{IsMatrix-zero_matrix, row_degrees-zero_matrix}
use Rattle.sf_blocks.proofs.MatrixSums.SumProducts.{matrix_product-zero_first}
use Rattle.sf_blocks.proofs.TwoByTwo.ZeroParts.{IsZeroMatrix-stacked, IsZeroMatrix-zero_matrix, IsZeroMatrix-product_second}
use Rattle.sf_homotopy.proofs.Exactness.ZeroProducts.{zero_products}
use Rattle.sf_bidual.specs.CartanEilenberg.{CartanEilenberg, IsCartanEilenberg, IsCochainComplex, column_degrees, column_steps, cycle_degrees, cycle_steps, horizontal_step, widened}
use Rattle.sf_bidual.proofs.Columns.Laws.{boundary-rings, boundary-target, column-rings, column-target, cycle-rings, cycle_degrees-steps, homology-target, inner-degrees, inner_horseshoe, outer-degrees, outer_horseshoe, resolves_boundaries, resolves_cycles}
use Rattle.sf_bidual.proofs.HorizontalMaps.Widened.{AreBeside-widened, IsMatrix-widened, product-below, product-widened, row_degrees-widened, widened-stacked, widened-triangle}
use Rattle.sf_bidual.proofs.Horseshoes.Exactness.{AreTriangle-horseshoe, IsMatrix-side}
use Rattle.sf_bidual.proofs.Horseshoes.Lifts.{matrix_product-lifts}

module _ (ring : Ring) (maps : ℕ → Matrix) (x : CartanEilenberg) (prime : IsOverField ring)
    (complex : IsCochainComplex ring maps) (h : IsCartanEilenberg ring maps x) where
  positive : 0 < ring.modulus
  positive = (field_ring prime).modulus

  module _ (i j : ℕ) where
    -- the block that goes on, and its degrees
    abbrev block : Matrix
    block = x.boundaries (suc i) j

    abbrev pub inner_unit : Matrix
    inner_unit = widened (identity ring (row_degrees block)) (row_degrees (x.homology (suc i) j))

    abbrev pub unit : Matrix
    unit = widened inner_unit (row_degrees (x.boundaries (suc (suc i)) j))

    identity-matrix : IsMatrix (identity ring (row_degrees block))
    identity-matrix = IsMatrix-identity ring prime.prime.above_one (row_degrees block)

    pub inner_unit-matrix : IsMatrix inner_unit
    inner_unit-matrix =
        IsMatrix-widened (identity ring (row_degrees block)) (row_degrees (x.homology (suc i) j)) identity-matrix

    pub unit-matrix : IsMatrix unit
    unit-matrix = IsMatrix-widened inner_unit (row_degrees (x.boundaries (suc (suc i)) j)) inner_unit-matrix

    pub inner_unit-degrees : row_degrees inner_unit ≡ row_degrees block
    inner_unit-degrees =
        row_degrees-widened (identity ring (row_degrees block)) (row_degrees (x.homology (suc i) j))
        ∙ row_degrees-identity ring (row_degrees block)

    pub unit-degrees : row_degrees unit ≡ row_degrees block
    unit-degrees = row_degrees-widened inner_unit (row_degrees (x.boundaries (suc (suc i)) j)) ∙ inner_unit-degrees

    pub IsMatrix-horizontal : IsMatrix (horizontal_step ring x i j)
    IsMatrix-horizontal =
        IsMatrix-stacked (zero_matrix ring (cycle_degrees x i j) (column_degrees x (suc i) j)) unit refl refl
        (IsMatrix-zero_matrix ring (cycle_degrees x i j) (column_degrees x (suc i) j)) unit-matrix

    pub row_degrees-horizontal : row_degrees (horizontal_step ring x i j) ≡ column_degrees x i j
    row_degrees-horizontal =
        row_degrees-stacked (zero_matrix ring (cycle_degrees x i j) (column_degrees x (suc i) j)) unit
        ∙ (λ n. row_degrees-zero_matrix ring (cycle_degrees x i j) (column_degrees x (suc i) j) n ++ unit-degrees n)

    -- a horizontal map, and another matrix behind it
    pub horizontal-product : (m : Matrix) → m.ring ≡ ring
        → matrix_product (horizontal_step ring x i j) m
        ≡ stacked (zero_matrix ring (cycle_degrees x i j) m.target) (matrix_product unit m)
    horizontal-product m e =
        matrix_product-stacked (zero_matrix ring (cycle_degrees x i j) (column_degrees x (suc i) j)) unit m refl
        ∙ ap (λ n. stacked n (matrix_product unit m))
        (matrix_product-zero_first ring (cycle_degrees x i j) (column_degrees x (suc i) j) m positive)

    -- the identity in front of the block
    block-identity_first : matrix_product (identity ring (row_degrees block)) block ≡ block
    block-identity_first =
        ap (λ q. matrix_product (identity q (row_degrees block)) block)
        (sym (boundary-rings ring maps x prime complex h (suc i) j))
        ∙ matrix_product-identity_first block
        (subst (λ (q : Ring). 0 < q.modulus) (sym (boundary-rings ring maps x prime complex h (suc i) j)) positive)
        ((resolves_boundaries ring maps x prime complex h (suc i)).exact j).out_matrix

    identity-block : IsComposable (identity ring (row_degrees block)) block
    identity-block = record {
      positive = positive;
      rings = sym (boundary-rings ring maps x prime complex h (suc i) j);
      degrees = refl;
    }

    block-matrix : IsMatrix block
    block-matrix = ((resolves_boundaries ring maps x prime complex h (suc i)).exact j).out_matrix

  -- the unit block before the maps of a column
  module _ (i j : ℕ) where
    abbrev next : Matrix
    next = x.boundaries (suc i) (suc j)

    inner-before : matrix_product (inner_unit i (suc j)) (cycle_steps x (suc i) (suc j))
        ≡ widened next (x.homology (suc i) (suc j)).target
    inner-before =
        widened-triangle (identity ring (row_degrees next)) next (x.inner (suc i) (suc j)) (x.homology (suc i) (suc j))
        (row_degrees (x.homology (suc i) (suc j)))
        (sym (inner-degrees ring maps x prime complex h (suc i) (suc j)))
        (AreTriangle-horseshoe (x.boundaries (suc i)) (x.homology (suc i)) (x.inner (suc i))
        (inner_horseshoe ring maps x prime complex h (suc i)) j)
        (identity-block i (suc j)) (identity-matrix i (suc j)) (block-matrix i (suc j))
        ∙ ap (λ m. widened m (x.homology (suc i) (suc j)).target) (block-identity_first i (suc j))

    inner-cycles : IsComposable (inner_unit i (suc j)) (cycle_steps x (suc i) (suc j))
    inner-cycles = record {
      positive = positive;
      rings = sym (cycle-rings ring maps x prime complex h (suc i) (suc j));
      degrees = cycle_degrees-steps ring maps x prime complex h (suc i) (suc j);
    }

    unit-before : matrix_product (unit i (suc j)) (column_steps x (suc i) (suc j))
        ≡ widened (widened next (x.homology (suc i) (suc j)).target) (x.boundaries (suc (suc i)) (suc j)).target
    unit-before =
        widened-triangle (inner_unit i (suc j)) (cycle_steps x (suc i) (suc j)) (x.outer (suc i) (suc j))
        (x.boundaries (suc (suc i)) (suc j)) (row_degrees (x.boundaries (suc (suc i)) (suc j)))
        (sym (outer-degrees ring maps x prime complex h (suc i) (suc j)))
        (AreTriangle-horseshoe (cycle_steps x (suc i)) (x.boundaries (suc (suc i))) (x.outer (suc i))
        (outer_horseshoe ring maps x prime complex h (suc i)) j)
        inner-cycles (inner_unit-matrix i (suc j))
        ((resolves_cycles ring maps x prime complex h (suc i)).exact (suc j)).out_matrix
        ∙ ap (λ m. widened m (x.boundaries (suc (suc i)) (suc j)).target) inner-before

    -- the unit block behind the map of the block
    next-identity : matrix_product next (identity ring (row_degrees (x.boundaries (suc i) j))) ≡ next
    next-identity =
        (λ n. matrix_product next (identity (sym (boundary-rings ring maps x prime complex h (suc i) (suc j)) n)
        (sym (boundary-target ring maps x prime complex h (suc i) j) n)))
        ∙ matrix_product-identity next
        (subst (λ (q : Ring). 0 < q.modulus) (sym (boundary-rings ring maps x prime complex h (suc i) (suc j))) positive)
        (block-matrix i (suc j))

    next-composable : (m : Matrix) → m.ring ≡ ring → row_degrees m ≡ row_degrees (x.boundaries (suc i) j)
        → IsComposable next m
    next-composable m e d = record {
      positive = subst (λ (q : Ring). 0 < q.modulus) (sym (boundary-rings ring maps x prime complex h (suc i) (suc j)))
          positive;
      rings = boundary-rings ring maps x prime complex h (suc i) (suc j) ∙ sym e;
      degrees = d ∙ sym (boundary-target ring maps x prime complex h (suc i) j);
    }

    unit-behind : matrix_product next (unit i j)
        ≡ widened (widened next (row_degrees (x.homology (suc i) j))) (row_degrees (x.boundaries (suc (suc i)) j))
    unit-behind =
        product-widened (inner_unit i j) (row_degrees (x.boundaries (suc (suc i)) j)) next
        (next-composable (inner_unit i j) refl (inner_unit-degrees i j)) (block-matrix i (suc j))
        (inner_unit-matrix i j)
        ∙ ap (λ m. widened m (row_degrees (x.boundaries (suc (suc i)) j)))
        (product-widened (identity ring (row_degrees (x.boundaries (suc i) j))) (row_degrees (x.homology (suc i) j)) next
        (next-composable (identity ring (row_degrees (x.boundaries (suc i) j))) refl
        (row_degrees-identity ring (row_degrees (x.boundaries (suc i) j)))) (block-matrix i (suc j))
        (identity-matrix i j)
        ∙ ap (λ m. widened m (row_degrees (x.homology (suc i) j))) next-identity)

    abbrev cycles : Matrix
    cycles = cycle_steps x i (suc j)

    abbrev side : Matrix
    side = x.outer i (suc j)

    triangle-here : AreTriangle cycles side next
    triangle-here =
        AreTriangle-horseshoe (cycle_steps x i) (x.boundaries (suc i)) (x.outer i)
        (outer_horseshoe ring maps x prime complex h i) j

    cycles-matrix : IsMatrix cycles
    cycles-matrix = ((resolves_cycles ring maps x prime complex h i).exact (suc j)).out_matrix

    cycles-target : cycles.target ≡ cycle_degrees x i j
    cycles-target =
        sym ((resolves_cycles ring maps x prime complex h i).exact j).meet.degrees
        ∙ cycle_degrees-steps ring maps x prime complex h i j

    side-matrix : IsMatrix side
    side-matrix =
        IsMatrix-side (cycle_steps x i) (x.boundaries (suc i)) (x.outer i)
        (outer_horseshoe ring maps x prime complex h i) (suc j)

    abbrev zeros : Matrix
    zeros = zero_matrix cycles.ring (row_degrees cycles) next.target

    zeros-unit : IsComposable zeros (unit i j)
    zeros-unit = record {
      positive = subst (λ (q : Ring). 0 < q.modulus) (sym (cycle-rings ring maps x prime complex h i (suc j))) positive;
      rings = cycle-rings ring maps x prime complex h i (suc j);
      degrees = unit-degrees i j ∙ sym (boundary-target ring maps x prime complex h (suc i) j);
    }

    pub commute_differentials : matrix_product (column_steps x i (suc j)) (horizontal_step ring x i j)
        ≡ matrix_product (horizontal_step ring x i (suc j)) (column_steps x (suc i) (suc j))
    commute_differentials =
        let across = horizontal_step ring x i j in
        let zeros-matrix = IsMatrix-zero_matrix cycles.ring (row_degrees cycles) next.target in
        let target : column_degrees x (suc i) j ≡ (column_steps x (suc i) (suc j)).target =
        sym (column-target ring maps x prime complex h (suc i) j) in
        matrix_product-stacked (beside cycles zeros) (beside side next) across triangle-here.rings
        ∙ (λ n. stacked
        ((product-below cycles zeros (unit i j) ring (cycle_degrees x i j) (column_degrees x (suc i) j)
        (AreBeside-widened cycles next.target) (cycle-rings ring maps x prime complex h i (suc j)) cycles-target refl
        zeros-unit cycles-matrix zeros-matrix (unit-matrix i j)
        ∙ matrix_product-zero_first cycles.ring (row_degrees cycles) next.target (unit i j) zeros-unit.positive
        ∙ (λ k. zero_matrix (cycle-rings ring maps x prime complex h i (suc j) k)
        (cycle_degrees-steps ring maps x prime complex h i (suc j) k) (target k))) n)
        ((product-below side next (unit i j) ring (cycle_degrees x i j) (column_degrees x (suc i) j)
        triangle-here.lower (sym triangle-here.rings ∙ cycle-rings ring maps x prime complex h i (suc j))
        (sym triangle-here.targets ∙ cycles-target) refl
        (next-composable (unit i j) refl (unit-degrees i j)) side-matrix (block-matrix i (suc j)) (unit-matrix i j)
        ∙ unit-behind
        ∙ (λ k. widened (widened next (sym (homology-target ring maps x prime complex h (suc i) j) k))
        (sym (boundary-target ring maps x prime complex h (suc (suc i)) j) k))
        ∙ sym unit-before) n))
        ∙ sym (horizontal-product i (suc j) (column_steps x (suc i) (suc j))
        (column-rings ring maps x prime complex h (suc i) (suc j)))

  module _ (i : ℕ) where
    -- the first block of the cycles, and of the column, is that of the boundaries
    pub inner-start : matrix_product (inner_unit i 0) (cycle_steps x (suc i) 0) ≡ x.boundaries (suc i) 0
    inner-start =
        let inner = inner_horseshoe ring maps x prime complex h (suc i) in
        widened-stacked (identity ring (row_degrees (x.boundaries (suc i) 0))) (x.boundaries (suc i) 0)
        (x.inner (suc i) 0) (row_degrees (x.homology (suc i) 0))
        (sym (inner-degrees ring maps x prime complex h (suc i) 0)) (identity-block i 0) (sym inner.start.ring_of)
        (sym inner.start.target_of) (identity-matrix i 0) (block-matrix i 0)
        ∙ block-identity_first i 0

    unit-start : matrix_product (unit i 0) (column_steps x (suc i) 0) ≡ x.boundaries (suc i) 0
    unit-start =
        let inside : IsComposable (inner_unit i 0) (cycle_steps x (suc i) 0) = record {
          positive = positive;
          rings = sym (cycle-rings ring maps x prime complex h (suc i) 0);
          degrees = cycle_degrees-steps ring maps x prime complex h (suc i) 0;
        } in
        let outer = outer_horseshoe ring maps x prime complex h (suc i) in
        widened-stacked (inner_unit i 0) (cycle_steps x (suc i) 0) (x.outer (suc i) 0)
        (row_degrees (x.boundaries (suc (suc i)) 0)) (sym (outer-degrees ring maps x prime complex h (suc i) 0)) inside
        (sym outer.start.ring_of) (sym outer.start.target_of) (inner_unit-matrix i 0)
        ((resolves_cycles ring maps x prime complex h (suc i)).exact 0).out_matrix
        ∙ inner-start

    cycles-zero : IsZeroMatrix (matrix_product (cycle_steps x i 0) (maps i))
    cycles-zero =
        zero_products (maps i) (cycle_steps x i 0)
        (subst (λ (q : Ring). 1 < q.modulus) (sym (complex.rings i)) prime.prime.above_one)
        (record {
          out_matrix = complex.matrices i;
          into_matrix = ((resolves_cycles ring maps x prime complex h i).exact 0).out_matrix;
          meet = record {
            positive =
                subst (λ (q : Ring). 0 < q.modulus) (sym (cycle-rings ring maps x prime complex h i 0)) positive;
            rings = cycle-rings ring maps x prime complex h i 0 ∙ sym (complex.rings i);
            degrees = sym (h.boundaries i).presentation.generators_target;
          };
          exact = λ v.
              let same = (resolves_cycles ring maps x prime complex h i).onto v in
              (same.1, same.0);
        })

    pub commute_augmentations : matrix_product (column_steps x i 0) (maps i)
        ≡ matrix_product (horizontal_step ring x i 0) (column_steps x (suc i) 0)
    commute_augmentations =
        let outer = outer_horseshoe ring maps x prime complex h i in
        let last : matrix_product (x.outer i 0) (maps i) ≡ x.boundaries (suc i) 0 =
        matrix_product-lifts (maps i) (x.boundaries (suc i) 0) (x.outer i 0) (h.outer_start i)
        (complex.rings i ∙ sym (boundary-rings ring maps x prime complex h (suc i) 0))
        ((sym (complex.meet i).degrees) ∙ sym (h.boundaries (suc i)).presentation.generators_target) in
        matrix_product-stacked (cycle_steps x i 0) (x.outer i 0) (maps i) (sym outer.start.ring_of)
        ∙ (λ n. stacked
        ((cycles-zero
        ∙ (λ k. zero_matrix (cycle-rings ring maps x prime complex h i 0 k)
        ((row_degrees-matrix_product (cycle_steps x i 0) (maps i)
        ∙ cycle_degrees-steps ring maps x prime complex h i 0) k)
        ((sym (complex.meet i).degrees ∙ sym (h.boundaries (suc i)).presentation.generators_target) k))) n)
        ((last ∙ sym unit-start) n))
        ∙ sym (horizontal-product i 0 (column_steps x (suc i) 0) (column-rings ring maps x prime complex h (suc i) 0))

  pub horizontal_squares : (i j : ℕ)
      → IsZeroMatrix (matrix_product (horizontal_step ring x i j) (horizontal_step ring x (suc i) j))
  horizontal_squares i j =
      let behind = horizontal_step ring x (suc i) j in
      let over = zero_matrix ring (cycle_degrees x (suc i) j) (column_degrees x (suc (suc i)) j) in
      let inside : IsComposable (inner_unit i j) over = record {
        positive = positive;
        rings = refl;
        degrees = row_degrees-zero_matrix ring (cycle_degrees x (suc i) j) (column_degrees x (suc (suc i)) j);
      } in
      let gone : IsZeroMatrix (matrix_product (unit i j) behind) =
      subst IsZeroMatrix (sym (widened-stacked (inner_unit i j) over (unit (suc i) j)
      (row_degrees (x.boundaries (suc (suc i)) j)) (sym (unit-degrees (suc i) j)) inside refl refl
      (inner_unit-matrix i j) (IsMatrix-zero_matrix ring (cycle_degrees x (suc i) j) (column_degrees x (suc (suc i)) j))))
      (IsZeroMatrix-product_second (inner_unit i j) over positive
      (IsZeroMatrix-zero_matrix ring (cycle_degrees x (suc i) j) (column_degrees x (suc (suc i)) j))) in
      subst IsZeroMatrix (sym (horizontal-product i j behind refl))
      ((IsZeroMatrix-stacked (zero_matrix ring (cycle_degrees x i j) behind.target) (matrix_product (unit i j) behind)).1
      (IsZeroMatrix-zero_matrix ring (cycle_degrees x i j) behind.target, gone))
