-- Pages by their numbers: page r + 1 is the homology of the differential of page r, and past the columns nothing
-- changes.
use Rattle.std.proofs.Common.{◌≡◌, ℕ, suc, ◌+◌, ◌-◌, ◌≤◌, sym, subst, arith}
use Rattle.sf_algebra.specs.Groups.{IsWithin}
use Rattle.sf_algebra.proofs.Operators.Correspondences.{IsCorrespondence, IsMapOfClasses}
use Rattle.sf_chase.specs.ColumnPages.{BoundariesOfPage, ColumnBoundaries, ColumnCycles, CyclesOfPage, HasDifferentialOfPage}
use Rattle.sf_chase.specs.Columns.{ColumnOf, Columned, IsColumnComplex, IsDifferential}
use Rattle.sf_chase.proofs.Columns.Differentials.{HasColumnDifferential-classes, HasColumnDifferential-correspondence}
use Rattle.sf_chase.proofs.Columns.NextPages.{ColumnBoundaries-cycles, ColumnBoundaries-grow, ColumnBoundaries-last, ColumnCycles-fall, column_boundaries-values, column_cycles-kernel, column_kernel-cycles, column_values-boundaries}

module _ {R : Type 0} (X Y : Columned R) (d : X.group.V → Y.group.V) (differential : IsDifferential X Y d) where
  -- cycles fall from page to page
  pub CyclesOfPage-fall : (q r j : ℕ) → q ≤ r → (C : ColumnOf X j)
      → IsWithin (CyclesOfPage X Y d r j C) (CyclesOfPage X Y d q j C)
  CyclesOfPage-fall q r j rises C = ColumnCycles-fall X Y d differential j (suc j - r) (suc j - q) (omega arith) C

  -- and boundaries grow
  pub BoundariesOfPage-grow : (q r j : ℕ) → q ≤ r → (C : ColumnOf Y j)
      → IsWithin (BoundariesOfPage X Y d q j C) (BoundariesOfPage X Y d r j C)
  BoundariesOfPage-grow q r j rises C = ColumnBoundaries-grow X Y d differential (j + q) (j + r) j (omega arith) C

  -- an element that falls below each column falls no further
  pub CyclesOfPage-last : (r j : ℕ) → suc j ≤ r → (C : ColumnOf X j)
      → IsWithin (ColumnCycles X Y d j 0 C) (CyclesOfPage X Y d r j C)
  CyclesOfPage-last r j past C = ColumnCycles-fall X Y d differential j 0 (suc j - r) (omega arith) C

  pub CyclesOfPage-at_last : (r j : ℕ) → suc j ≤ r → (C : ColumnOf X j)
      → IsWithin (CyclesOfPage X Y d r j C) (ColumnCycles X Y d j 0 C)
  CyclesOfPage-at_last r j past C = ColumnCycles-fall X Y d differential j (suc j - r) 0 (omega arith) C

  -- where all columns have taken part nothing more is a boundary
  pub BoundariesOfPage-last : (top r j : ℕ) → ((v : X.group.V) → X.below top v) → (C : ColumnOf Y j)
      → IsWithin (BoundariesOfPage X Y d r j C) (ColumnBoundaries X Y d top j C)
  BoundariesOfPage-last top r j all C = ColumnBoundaries-last X Y d differential top (j + r) j all C

  pub BoundariesOfPage-at_last : (top r j : ℕ) → top ≤ j + r → (C : ColumnOf Y j)
      → IsWithin (ColumnBoundaries X Y d top j C) (BoundariesOfPage X Y d r j C)
  BoundariesOfPage-at_last top r j past C = ColumnBoundaries-grow X Y d differential top (j + r) j past C

  pub BoundariesOfPage-cycles : (W : Columned R) (e : Y.group.V → W.group.V) → IsDifferential Y W e
      → IsColumnComplex X Y W d e → (q r j : ℕ) (C : ColumnOf Y j)
      → IsWithin (BoundariesOfPage X Y d q j C) (CyclesOfPage Y W e r j C)
  BoundariesOfPage-cycles W e next complex q r j C =
      ColumnBoundaries-cycles X Y d differential W e next complex (j + q) j (suc j - r) C

  module _ (r i : ℕ) (C : ColumnOf X (i + r)) (D : ColumnOf Y i) where
    there : suc (i + r) - r ≡ suc i
    there = omega arith

    further : suc (i + r) - suc r ≡ i
    further = omega arith

    higher : i + suc r ≡ suc (i + r)
    higher = omega arith

    -- the differential of page r, from the cycles of page r to those of page r
    pub differential-correspondence : (W : Columned R) (e : Y.group.V → W.group.V) → IsDifferential Y W e
        → IsColumnComplex X Y W d e
        → IsCorrespondence C.group D.group (CyclesOfPage X Y d r (i + r) C) (CyclesOfPage Y W e r i D)
        (HasDifferentialOfPage X Y d r i C D)
    differential-correspondence W e next complex =
        subst (λ s. IsCorrespondence C.group D.group (ColumnCycles X Y d (i + r) s C) (CyclesOfPage Y W e r i D)
        (HasDifferentialOfPage X Y d r i C D))
        (sym there)
        (HasColumnDifferential-correspondence X Y d differential (i + r) i C D W e next complex (suc i - r))

    -- is a map of classes: boundaries of page r have boundaries of page r as values
    pub differential-classes : (U : Columned R) (b : U.group.V → X.group.V) → IsDifferential U X b
        → IsColumnComplex U X Y b d
        → IsMapOfClasses (CyclesOfPage X Y d r (i + r) C) (BoundariesOfPage U X b r (i + r) C)
        (BoundariesOfPage X Y d r i D)
        (HasDifferentialOfPage X Y d r i C D)
    differential-classes U b before complex =
        subst (λ s. IsMapOfClasses (ColumnCycles X Y d (i + r) s C) (BoundariesOfPage U X b r (i + r) C)
        (BoundariesOfPage X Y d r i D) (HasDifferentialOfPage X Y d r i C D))
        (sym there)
        (HasColumnDifferential-classes X Y d differential (i + r) i C D U b before complex (i + r + r))

    -- cycles of page r + 1 are its kernel
    pub cycles-kernel : (u : C.group.V) → CyclesOfPage X Y d (suc r) (i + r) C u
        → HasDifferentialOfPage X Y d r i C D u D.group.zero
    cycles-kernel u h =
        column_cycles-kernel X Y d differential (i + r) i C D u (subst (λ s. ColumnCycles X Y d (i + r) s C u) further h)

    pub kernel-cycles : (u : C.group.V) → HasDifferentialOfPage X Y d r i C D u D.group.zero
        → CyclesOfPage X Y d (suc r) (i + r) C u
    kernel-cycles u h =
        subst (λ s. ColumnCycles X Y d (i + r) s C u) (sym further)
        (column_kernel-cycles X Y d differential (i + r) i C D u h)

    -- and boundaries of page r + 1 its values
    pub boundaries-values : (w : D.group.V) → BoundariesOfPage X Y d (suc r) i D w
        → (u : C.group.V) × HasDifferentialOfPage X Y d r i C D u w
    boundaries-values w h =
        column_boundaries-values X Y d differential (i + r) i C D w (subst (λ t. ColumnBoundaries X Y d t i D w) higher h)

    pub values-boundaries : (u : C.group.V) (w : D.group.V) → HasDifferentialOfPage X Y d r i C D u w
        → BoundariesOfPage X Y d (suc r) i D w
    values-boundaries u w h =
        subst (λ t. ColumnBoundaries X Y d t i D w) (sym higher)
        (column_values-boundaries X Y d differential (i + r) i C D u w h)
