-- What holds of the horizontal maps of a Cartan-Eilenberg resolution. (Weibel, "An Introduction to Homological Algebra",
-- 5.7.1.)
use Rattle.std.specs.Prelude.{◌≡◌, ℕ, suc}
use Rattle.sf_algebra.specs.Matrices.{Matrix, row_degrees, IsMatrix}
use Rattle.sf_algebra.specs.MatrixOperations.{matrix_product}
use Rattle.sf_algebra.specs.Rings.{Ring, IsOverField}
use Rattle.sf_blocks.specs.MatrixSums.{IsZeroMatrix}
use Rattle.sf_bidual.specs.CartanEilenberg.{CartanEilenberg, IsCartanEilenberg, IsCochainComplex, column_degrees, column_steps, horizontal_step}

-- they are matrices from each place of a column to that of the next one
abbrev pub HasHorizontalMatrices : Type 0
HasHorizontalMatrices =
    (ring : Ring) (maps : ℕ → Matrix) (x : CartanEilenberg) → IsOverField ring → IsCochainComplex ring maps
    → IsCartanEilenberg ring maps x → (i j : ℕ)
    → IsMatrix (horizontal_step ring x i j) × (row_degrees (column_steps x i j) ≡ column_degrees x i j)
    × (row_degrees (horizontal_step ring x i j) ≡ column_degrees x i j)

-- they commute with the differentials
abbrev pub CommuteWithDifferentials : Type 0
CommuteWithDifferentials =
    (ring : Ring) (maps : ℕ → Matrix) (x : CartanEilenberg) → IsOverField ring → IsCochainComplex ring maps
    → IsCartanEilenberg ring maps x → (i j : ℕ)
    → matrix_product (column_steps x i (suc j)) (horizontal_step ring x i j)
    ≡ matrix_product (horizontal_step ring x i (suc j)) (column_steps x (suc i) (suc j))

-- and with the augmentations, where the maps of the complex stand on the other side
abbrev pub CommuteWithAugmentations : Type 0
CommuteWithAugmentations =
    (ring : Ring) (maps : ℕ → Matrix) (x : CartanEilenberg) → IsOverField ring → IsCochainComplex ring maps
    → IsCartanEilenberg ring maps x → (i : ℕ)
    → matrix_product (column_steps x i 0) (maps i)
    ≡ matrix_product (horizontal_step ring x i 0) (column_steps x (suc i) 0)

-- one after the other they give 0
abbrev pub HasZeroHorizontalSquares : Type 0
HasZeroHorizontalSquares =
    (ring : Ring) (maps : ℕ → Matrix) (x : CartanEilenberg) → IsOverField ring → IsCochainComplex ring maps
    → IsCartanEilenberg ring maps x → (i j : ℕ)
    → IsZeroMatrix (matrix_product (horizontal_step ring x i j) (horizontal_step ring x (suc i) j))
