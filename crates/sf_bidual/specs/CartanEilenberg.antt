-- The Cartan-Eilenberg resolution of a complex of free modules. (Weibel, "An Introduction to Homological Algebra", 5.7.1;
-- the choice of generators and lifts is this project's own.)
use Rattle.std.specs.Prelude.{◌≡◌, ℕ, zero, suc, List, ◌++◌, ℤ}
use Rattle.sf_algebra.specs.Matrices.{Matrix, row_degrees, IsMatrix}
use Rattle.sf_algebra.specs.MatrixOperations.{identity, matrix_product, stacked, IsComposable}
use Rattle.sf_algebra.specs.Rings.{Ring}
use Rattle.sf_algebra.specs.Vectors.{Vector}
use Rattle.sf_groebner.specs.Presentations.{IsPresentation, IsZero}
use Rattle.sf_groebner.specs.Resolutions.{IsFirstStep, IsNextStep}
use Rattle.sf_groebner.specs.Spans.{InSpan, IsSyzygy}
use Rattle.sf_blocks.specs.MatrixSums.{zero_matrix, IsZeroMatrix}
use Rattle.sf_blocks.specs.SideBySide.{beside}
use Rattle.sf_homotopy.specs.Exactness.{from_nothing}
use Rattle.sf_bidual.specs.Horseshoes.{AreLifts, AreSides, horseshoe}

-- free modules A(0) -> A(1) -> ... over a ring: map i goes from A(i) to A(i + 1), and the next one after it gives 0
pub record IsCochainComplex (ring : Ring) (maps : ℕ → Matrix) : Type 0 where
  pub rings : (i : ℕ) → (maps i).ring ≡ ring
  pub matrices : (i : ℕ) → IsMatrix (maps i)
  pub meet : (i : ℕ) → IsComposable (maps i) (maps (suc i))
  pub square : (i : ℕ) → IsZeroMatrix (matrix_product (maps i) (maps (suc i)))

-- the map that arrives at A(i); at A(0) it is that of the module 0
abbrev pub arriving : Ring → (ℕ → Matrix) → ℕ → Matrix
arriving ring maps zero = from_nothing ring (row_degrees (maps zero))
arriving ring maps (suc i) = maps i

-- the canonical resolution of N modulo B: number 0 has minimal generators as rows, number 1 their relations, and each
-- further one the relations of the one before
pub record IsResolutionOf (ring : Ring) (target : List ℤ) (N B : Vector → Type 0) (steps : ℕ → Matrix) : Type 0 where
  pub relations : Matrix
  pub presentation : IsPresentation ring target N B (steps 0) relations
  pub first : IsFirstStep relations (steps 1)
  pub next : (j : ℕ) → IsNextStep (steps (suc j)) (steps (suc (suc j)))

-- for each i the resolutions of boundaries B(i) and of homology H(i), and the sides of two horseshoes
pub record CartanEilenberg : Type 0 where
  pub boundaries : ℕ → ℕ → Matrix
  pub homology : ℕ → ℕ → Matrix
  pub inner : ℕ → ℕ → Matrix
  pub outer : ℕ → ℕ → Matrix

-- the blocks B(i) and H(i): the resolution of the cycles Z(i)
abbrev pub cycle_steps : CartanEilenberg → ℕ → ℕ → Matrix
cycle_steps x i = horseshoe (x.boundaries i) (x.homology i) (x.inner i)

-- the blocks B(i), H(i) and B(i + 1): the column i, which resolves A(i), its augmentation first
abbrev pub column_steps : CartanEilenberg → ℕ → ℕ → Matrix
column_steps x i = horseshoe (cycle_steps x i) (x.boundaries (suc i)) (x.outer i)

-- B(i) is resolved modulo 0, and H(i) is Z(i) modulo B(i); the inner sides begin with the generators of H(i), and the
-- outer ones with lifts of those of B(i + 1) over map i
pub record IsCartanEilenberg (ring : Ring) (maps : ℕ → Matrix) (x : CartanEilenberg) : Type 0 where
  pub boundaries : (i : ℕ)
      → IsResolutionOf ring (row_degrees (maps i)) (InSpan (arriving ring maps i)) IsZero (x.boundaries i)
  pub homology : (i : ℕ)
      → IsResolutionOf ring (row_degrees (maps i)) (IsSyzygy (maps i)) (InSpan (arriving ring maps i)) (x.homology i)
  pub inner_start : (i : ℕ) → x.inner i 0 ≡ x.homology i 0
  pub inner_sides : (i : ℕ) → AreSides (x.boundaries i) (x.homology i) (x.inner i)
  pub outer_start : (i : ℕ) → AreLifts (maps i) (x.boundaries (suc i) 0) (x.outer i 0)
  pub outer_sides : (i : ℕ) → AreSides (cycle_steps x i) (x.boundaries (suc i)) (x.outer i)

-- the degrees of the generators of the blocks of the cycles, and of the whole column, at place j
abbrev pub cycle_degrees : CartanEilenberg → ℕ → ℕ → List ℤ
cycle_degrees x i j = row_degrees (x.boundaries i j) ++ row_degrees (x.homology i j)

abbrev pub column_degrees : CartanEilenberg → ℕ → ℕ → List ℤ
column_degrees x i j = cycle_degrees x i j ++ row_degrees (x.boundaries (suc i) j)

-- m with columns of zeros behind it
abbrev pub widened : Matrix → List ℤ → Matrix
widened m degrees = beside m (zero_matrix m.ring (row_degrees m) degrees)

-- the horizontal map at place j of column i: the block B(i + 1) goes to the first block of the next column by the
-- identity, the others go to zero
abbrev pub horizontal_step : Ring → CartanEilenberg → ℕ → ℕ → Matrix
horizontal_step ring x i j =
    stacked (zero_matrix ring (cycle_degrees x i j) (column_degrees x (suc i) j))
    (widened
    (widened (identity ring (row_degrees (x.boundaries (suc i) j))) (row_degrees (x.homology (suc i) j)))
    (row_degrees (x.boundaries (suc (suc i)) j)))
