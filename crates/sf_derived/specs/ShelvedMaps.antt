-- The maps of the resolution that a shelf keeps under a number. (This project's own.)
use Rattle.std.specs.Prelude.{◌≡◌, ℕ, ◌≤◌, List, [], Some, IfSome, slice_get}
use Rattle.sf_algebra.specs.Matrices.{Matrix}
use Rattle.sf_blocks.specs.MatrixSums.{zero_matrix}
use Rattle.sf_object.specs.Shelves.{Shelved, modules_of, step_at}

-- d is the map out of place i: out of place 0 it goes to nothing, else it is step i
pub record IsMapOut (shelf : List Shelved) (id i : ℕ) (d : Matrix) : Type 0 where
  pub first : i ≡ 0 → IfSome (slice_get (modules_of shelf) id) (λ m. d ≡ zero_matrix m.ring m.target [])
  pub later : 1 ≤ i → step_at shelf id i ≡ Some d
