-- The bidual bicomplex of a presented module: Hom into the ring of the Cartan-Eilenberg resolution of Hom into the ring of
-- its resolution. Its columns p go from -n to 0; here column p has the number n + p. (Barakat, "Spectral Filtrations via
-- Generalized Morphisms"; the choice of the resolutions is this project's own.)
use Rattle.std.specs.Prelude.{◌≡◌, ◌-◌, ℕ, zero, suc, List, [], map, ℤ, pos, negsuc, neg_ℤ}
use Rattle.sf_algebra.specs.Matrices.{Matrix}
use Rattle.sf_algebra.specs.MatrixOperations.{transposed}
use Rattle.sf_algebra.specs.Rings.{Ring}
use Rattle.sf_groebner.specs.MinimalGenerators.{matrix_of}
use Rattle.sf_groebner.specs.Resolutions.{IsFirstStep, IsNextStep}
use Rattle.sf_homotopy.specs.Exactness.{from_nothing, to_nothing}
use Rattle.sf_bicomplex.specs.Bicomplexes.{Bicomplex}
use Rattle.sf_bicomplex.specs.TensorBicomplexes.{signed}
use Rattle.sf_bicomplex.specs.TotalColumns.{total_degrees}
use Rattle.sf_bidual.specs.CartanEilenberg.{CartanEilenberg, IsCartanEilenberg, column_degrees, column_steps, horizontal_step}

-- the maps of Hom(D, R), where step i of the resolution D goes from D(i + 1) to D(i)
abbrev pub dual_maps : (ℕ → Matrix) → ℕ → Matrix
dual_maps steps i = transposed (steps i)

-- degrees of Hom(J, R), where the places of a column J are counted from 1, and nothing stands at place 0
abbrev pub dual_degrees : CartanEilenberg → ℕ → ℕ → List ℤ
dual_degrees x i zero = []
dual_degrees x i (suc j) = map neg_ℤ (column_degrees x i j)

-- the map from there to the next place, and that to the next lower row, with the sign (-1)^j; what stands at no place goes
-- to the free module with generators of these degrees
abbrev pub dual_across : Ring → CartanEilenberg → ℕ → List ℤ → ℕ → Matrix
dual_across ring x i degrees zero = from_nothing ring degrees
dual_across ring x i degrees (suc j) = transposed (column_steps x i (suc j))

abbrev pub dual_down : Ring → CartanEilenberg → ℕ → ℕ → Matrix
dual_down ring x i zero = from_nothing ring []
dual_down ring x i (suc j) = signed j (transposed (horizontal_step ring x i j))

-- in column k stands the place 1 + n - k of a column of x, in row i of its column i
abbrev pub bidual_degrees : ℕ → CartanEilenberg → ℕ → ℤ → List ℤ
bidual_degrees n x k (pos i) = dual_degrees x i (suc n - k)
bidual_degrees n x k (negsuc i) = []

abbrev pub bidual_down : Ring → ℕ → CartanEilenberg → ℕ → ℤ → Matrix
bidual_down ring n x k (pos (suc i)) = dual_down ring x i (suc n - k)
bidual_down ring n x k (pos zero) = to_nothing ring (dual_degrees x zero (suc n - k))
bidual_down ring n x k (negsuc i) = from_nothing ring []

abbrev pub bidual_across : Ring → ℕ → CartanEilenberg → ℕ → ℤ → Matrix
bidual_across ring n x k (pos i) = dual_across ring x i (dual_degrees x i (suc n - (k - 1))) (suc n - k)
bidual_across ring n x k (negsuc i) = from_nothing ring []

abbrev pub bidual : Ring → ℕ → CartanEilenberg → Bicomplex
bidual ring n x = record {
  ring = ring;
  columns = suc n;
  relations = λ k q. from_nothing ring (bidual_degrees n x k q);
  vertical = bidual_down ring n x;
  horizontal = bidual_across ring n x;
}

-- no resolution of boundaries or homology has a step past n
pub record HasNoStepPast (n : ℕ) (x : CartanEilenberg) : Type 0 where
  pub boundaries : (i : ℕ) → (x.boundaries i (suc n)).rows ≡ []
  pub homology : (i : ℕ) → (x.homology i (suc n)).rows ≡ []

-- x is the Cartan-Eilenberg resolution of Hom(D, R), for the canonical resolution D of the module with these relations
pub record IsBidualOf (relations : Matrix) (n : ℕ) (steps : ℕ → Matrix) (x : CartanEilenberg) : Type 0 where
  pub first : IsFirstStep relations (steps 0)
  pub next : (i : ℕ) → IsNextStep (steps i) (steps (suc i))
  pub cartan : IsCartanEilenberg relations.ring (dual_maps steps) x
  pub ends : HasNoStepPast n x

-- the map e from the free module of the generators to the highest column of the total complex, in degree n, which is its
-- first one: the transpose of the augmentation of column 0
abbrev pub bidual_augmentation : Ring → ℕ → CartanEilenberg → Matrix
bidual_augmentation ring n x =
    matrix_of ring (total_degrees (bidual ring n x) (pos n)) (transposed (column_steps x 0 0)).rows
