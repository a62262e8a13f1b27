-- The laws of columns, from one column.
use Rattle.std.proofs.Common.{◌≡◌, ◌<◌, ℕ, zero, suc, ◌++◌, sym, ap, ◌∙◌, subst}
use Rattle.sf_algebra.specs.Matrices.{Matrix, row_degrees}
use Rattle.sf_algebra.specs.MatrixOperations.{matrix_product}
use Rattle.sf_algebra.specs.Rings.{Ring, IsOverField}
use Rattle.sf_algebra.specs.Vectors.{IsVector}
use Rattle.sf_groebner.specs.Presentations.{IsZero}
use Rattle.sf_groebner.specs.Spans.{InSpan, IsSyzygy}
use Rattle.sf_presented.specs.Presented.{IsPresentedBy}
use Rattle.sf_blocks.specs.MatrixSums.{IsZeroMatrix}
use Rattle.sf_homotopy.specs.Exactness.{IsExactPair}
use Rattle.sf_homotopy.proofs.Exactness.ZeroProducts.{zero_products}
use Rattle.sf_bidual.specs.CartanEilenberg.{CartanEilenberg, IsCartanEilenberg, IsCochainComplex, IsResolutionOf, arriving, column_degrees, column_steps, cycle_degrees, cycle_steps}
use Rattle.sf_bidual.specs.ColumnLaws.{Resolves}
use Rattle.sf_bidual.specs.Horseshoes.{IsHorseshoe}
use Rattle.sf_bidual.proofs.Horseshoes.Exactness.{AreTriangle-horseshoe}
use Rattle.sf_bidual.proofs.Horseshoes.Lifts.{row_degrees-lifts}
use Rattle.sf_algebra.proofs.GradedMatrices.Stacks.{row_degrees-stacked}
use Rattle.sf_blocks.proofs.TwoByTwo.Triangles.{row_degrees-triangle}
use Rattle.sf_bidual.proofs.Columns.Arriving.{IsTo-arriving, arriving-zero}
use Rattle.sf_bidual.proofs.Columns.OneColumn.{boundaries-exact, boundaries-onto, column-exact, column-onto, cycles-exact, cycles-onto, first_horseshoe, homology-exact, homology-presented, second_horseshoe}

module _ (ring : Ring) (maps : ℕ → Matrix) (x : CartanEilenberg) (prime : IsOverField ring)
    (complex : IsCochainComplex ring maps) (h : IsCartanEilenberg ring maps x) where
  pub next-boundaries : (i : ℕ)
      → IsResolutionOf ring (maps i).target (InSpan (maps i)) IsZero (x.boundaries (suc i))
  next-boundaries i =
      subst (λ ds. IsResolutionOf ring ds (InSpan (maps i)) IsZero (x.boundaries (suc i))) (complex.meet i).degrees
      (h.boundaries (suc i))

  -- the two horseshoes
  pub inner_horseshoe : (i : ℕ) → IsHorseshoe (x.boundaries i) (x.homology i) (x.inner i)
  inner_horseshoe i =
      first_horseshoe ring prime (arriving ring maps i) (maps i) (IsTo-arriving ring maps prime complex i) (complex.rings i)
      (complex.matrices i) (arriving-zero ring maps prime complex i) (x.boundaries i) (x.homology i) (h.boundaries i) (h.homology i) (x.inner i)
      (h.inner_start i) (h.inner_sides i)

  pub outer_horseshoe : (i : ℕ) → IsHorseshoe (cycle_steps x i) (x.boundaries (suc i)) (x.outer i)
  outer_horseshoe i =
      second_horseshoe ring prime (arriving ring maps i) (maps i) (IsTo-arriving ring maps prime complex i) (complex.rings i)
      (complex.matrices i) (arriving-zero ring maps prime complex i) (x.boundaries i) (x.homology i) (h.boundaries i) (h.homology i) (x.inner i)
      (h.inner_start i) (h.inner_sides i) (x.boundaries (suc i)) (next-boundaries i) (x.outer i)
      (h.outer_start i) (h.outer_sides i)

  pub resolves_boundaries : (i : ℕ) → Resolves (InSpan (arriving ring maps i)) (x.boundaries i)
  resolves_boundaries i = record {
    onto = boundaries-onto ring prime (arriving ring maps i) (maps i) (IsTo-arriving ring maps prime complex i) (complex.rings i)
        (complex.matrices i) (arriving-zero ring maps prime complex i) (x.boundaries i) (x.homology i) (h.boundaries i) (h.homology i);
    exact = boundaries-exact ring prime (arriving ring maps i) (maps i) (IsTo-arriving ring maps prime complex i) (complex.rings i)
        (complex.matrices i) (arriving-zero ring maps prime complex i) (x.boundaries i) (x.homology i) (h.boundaries i) (h.homology i);
  }

  pub resolves_cycles : (i : ℕ) → Resolves (IsSyzygy (maps i)) (cycle_steps x i)
  resolves_cycles i = record {
    onto = cycles-onto ring prime (arriving ring maps i) (maps i) (IsTo-arriving ring maps prime complex i) (complex.rings i)
        (complex.matrices i) (arriving-zero ring maps prime complex i) (x.boundaries i) (x.homology i) (h.boundaries i) (h.homology i) (x.inner i)
        (h.inner_start i) (h.inner_sides i);
    exact = cycles-exact ring prime (arriving ring maps i) (maps i) (IsTo-arriving ring maps prime complex i) (complex.rings i)
        (complex.matrices i) (arriving-zero ring maps prime complex i) (x.boundaries i) (x.homology i) (h.boundaries i) (h.homology i) (x.inner i)
        (h.inner_start i) (h.inner_sides i);
  }

  pub resolves_homology : (i : ℕ)
      → IsPresentedBy (IsSyzygy (maps i)) (InSpan (arriving ring maps i)) (x.homology i 0) (x.homology i 1)
      × ((j : ℕ) → IsExactPair (x.homology i (suc j)) (x.homology i (suc (suc j))))
  resolves_homology i = (
    homology-presented ring prime (arriving ring maps i) (maps i) (IsTo-arriving ring maps prime complex i) (complex.rings i)
        (complex.matrices i) (arriving-zero ring maps prime complex i) (x.boundaries i) (x.homology i) (h.boundaries i) (h.homology i),
    homology-exact ring prime (arriving ring maps i) (maps i) (IsTo-arriving ring maps prime complex i) (complex.rings i)
        (complex.matrices i) (arriving-zero ring maps prime complex i) (x.boundaries i) (x.homology i) (h.boundaries i) (h.homology i),
  )

  pub resolves_terms : (i : ℕ) → Resolves (IsVector ring (row_degrees (maps i))) (column_steps x i)
  resolves_terms i = record {
    onto = column-onto ring prime (arriving ring maps i) (maps i) (IsTo-arriving ring maps prime complex i) (complex.rings i)
        (complex.matrices i) (arriving-zero ring maps prime complex i) (x.boundaries i) (x.homology i) (h.boundaries i) (h.homology i) (x.inner i)
        (h.inner_start i) (h.inner_sides i) (x.boundaries (suc i)) (next-boundaries i) (x.outer i)
        (h.outer_start i) (h.outer_sides i);
    exact = column-exact ring prime (arriving ring maps i) (maps i) (IsTo-arriving ring maps prime complex i) (complex.rings i)
        (complex.matrices i) (arriving-zero ring maps prime complex i) (x.boundaries i) (x.homology i) (h.boundaries i) (h.homology i) (x.inner i)
        (h.inner_start i) (h.inner_sides i) (x.boundaries (suc i)) (next-boundaries i) (x.outer i)
        (h.outer_start i) (h.outer_sides i);
  }

  pub column-ring : (i : ℕ) → (column_steps x i 0).ring ≡ ring
  column-ring i = (h.boundaries i).presentation.generators_ring

  -- the maps of a column are over one ring
  pub column-rings : (i j : ℕ) → (column_steps x i j).ring ≡ ring
  column-rings i zero = column-ring i
  column-rings i (suc j) = ((resolves_terms i).exact j).meet.rings ∙ column-rings i j

  pub column-squares : (i j : ℕ) → IsZeroMatrix (matrix_product (column_steps x i (suc j)) (column_steps x i j))
  column-squares i j =
      zero_products (column_steps x i j) (column_steps x i (suc j))
      (subst (λ (q : Ring). 1 < q.modulus) (sym (column-rings i j)) prime.prime.above_one)
      ((resolves_terms i).exact j)

  pub boundary-rings : (i j : ℕ) → (x.boundaries i j).ring ≡ ring
  boundary-rings i zero = (h.boundaries i).presentation.generators_ring
  boundary-rings i (suc j) = ((resolves_boundaries i).exact j).meet.rings ∙ boundary-rings i j

  pub cycle-rings : (i j : ℕ) → (cycle_steps x i j).ring ≡ ring
  cycle-rings i zero = boundary-rings i zero
  cycle-rings i (suc j) = ((resolves_cycles i).exact j).meet.rings ∙ cycle-rings i j

  -- where a map of a block goes, the one before leaves
  pub boundary-target : (i j : ℕ) → (x.boundaries i (suc j)).target ≡ row_degrees (x.boundaries i j)
  boundary-target i j = sym ((resolves_boundaries i).exact j).meet.degrees

  pub homology-target : (i j : ℕ) → (x.homology i (suc j)).target ≡ row_degrees (x.homology i j)
  homology-target i zero = (inner_horseshoe i).last_target ∙ ap row_degrees (h.inner_start i)
  homology-target i (suc j) = sym ((resolves_homology i).1 j).meet.degrees

  -- the sides leave where the last blocks do
  pub inner-degrees : (i j : ℕ) → row_degrees (x.inner i j) ≡ row_degrees (x.homology i j)
  inner-degrees i zero = ap row_degrees (h.inner_start i)
  inner-degrees i (suc j) =
      (AreTriangle-horseshoe (x.boundaries i) (x.homology i) (x.inner i) (inner_horseshoe i) j).lower.degrees

  pub outer-degrees : (i j : ℕ) → row_degrees (x.outer i j) ≡ row_degrees (x.boundaries (suc i) j)
  outer-degrees i zero = row_degrees-lifts (maps i) (x.boundaries (suc i) zero) (x.outer i zero) (h.outer_start i)
  outer-degrees i (suc j) =
      (AreTriangle-horseshoe (cycle_steps x i) (x.boundaries (suc i)) (x.outer i) (outer_horseshoe i) j).lower.degrees

  -- the degrees of the places of a column
  pub cycle_degrees-steps : (i j : ℕ) → row_degrees (cycle_steps x i j) ≡ cycle_degrees x i j
  cycle_degrees-steps i zero =
      row_degrees-stacked (x.boundaries i zero) (x.inner i zero)
      ∙ ap (λ ds. row_degrees (x.boundaries i zero) ++ ds) (inner-degrees i zero)
  cycle_degrees-steps i (suc j) =
      row_degrees-triangle (x.boundaries i (suc j)) (x.inner i (suc j)) (x.homology i (suc j))
      (AreTriangle-horseshoe (x.boundaries i) (x.homology i) (x.inner i) (inner_horseshoe i) j)
      ∙ ap (λ ds. row_degrees (x.boundaries i (suc j)) ++ ds) (inner-degrees i (suc j))

  pub column_degrees-steps : (i j : ℕ) → row_degrees (column_steps x i j) ≡ column_degrees x i j
  column_degrees-steps i zero =
      row_degrees-stacked (cycle_steps x i zero) (x.outer i zero)
      ∙ (λ n. cycle_degrees-steps i zero n ++ outer-degrees i zero n)
  column_degrees-steps i (suc j) =
      row_degrees-triangle (cycle_steps x i (suc j)) (x.outer i (suc j)) (x.boundaries (suc i) (suc j))
      (AreTriangle-horseshoe (cycle_steps x i) (x.boundaries (suc i)) (x.outer i) (outer_horseshoe i) j)
      ∙ (λ n. cycle_degrees-steps i (suc j) n ++ outer-degrees i (suc j) n)

  pub column-target : (i j : ℕ) → (column_steps x i (suc j)).target ≡ column_degrees x i j
  column-target i j = sym ((resolves_terms i).exact j).meet.degrees ∙ column_degrees-steps i j
