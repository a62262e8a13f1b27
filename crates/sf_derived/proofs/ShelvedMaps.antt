-- The maps that are read of a shelf are those of the complex that its steps are.
use Rattle.std.proofs.Common.{◌≡◌, ◌≤◌, ◌-◌, ℕ, zero, suc, List, [], ◌∷◌, Some, IfSome, slice_get, refl, sym, subst, arith, ℤ}
use Rattle.std.proofs.lemmas.Option.{none-some, same_Some}
use Rattle.sf_algebra.specs.Matrices.{Matrix, row_degrees}
use Rattle.sf_algebra.specs.Rings.{Ring}
use Rattle.sf_blocks.specs.MatrixSums.{zero_matrix}
use Rattle.sf_bicomplex.specs.TensorBicomplexes.{map_to}
use Rattle.sf_object.specs.Shelves.{Shelved, modules_of, step_at, steps_up_to}
use Rattle.sf_object.proofs.Shelves.{step_read}
use Rattle.sf_derived.specs.DerivedPlans.{resolved}
use Rattle.sf_derived.specs.ShelvedMaps.{IsMapOut}

-- the map to a place is the step of its number
to_read : (ring : Ring) (first : List ℤ) (ms : List Matrix) (p : ℕ) (d : Matrix) → slice_get ms p ≡ Some d
    → d ≡ map_to ring first ms p
to_read ring first [] p d read = absurd (none-some d read)
to_read ring first (m ∷ ms) zero d read = sym (same_Some m d read)
to_read ring first (m ∷ ms) (suc p) d read = to_read ring (row_degrees m) ms p d read

from_read : (m : Matrix) (steps : List Matrix) (j : ℕ) (d : Matrix) → 1 ≤ j → slice_get steps (j - 1) ≡ Some d
    → d ≡ (resolved m steps).map j
from_read m steps zero d first read = absurd (omega arith)
from_read m steps (suc p) d first read =
    let before : suc p - 1 ≡ p = omega arith in
    to_read m.ring m.target steps p d (subst (λ k. slice_get steps k ≡ Some d) before read)

pub step_is : (shelf : List Shelved) (id k : ℕ) (m : Matrix) (j : ℕ) → j ≤ k → 1 ≤ j → (d : Matrix)
    → step_at shelf id j ≡ Some d → d ≡ (resolved m (steps_up_to k (slice_get shelf id))).map j
step_is shelf id k m j last first d read =
    from_read m (steps_up_to k (slice_get shelf id)) j d first (step_read shelf id j k d first last read)

pub map_out_is : (shelf : List Shelved) (id k : ℕ) (m : Matrix) → slice_get (modules_of shelf) id ≡ Some m → (i : ℕ) → i ≤ k
    → (d : Matrix) → IsMapOut shelf id i d → d ≡ (resolved m (steps_up_to k (slice_get shelf id))).map i
map_out_is shelf id k m number zero last d h =
    subst (λ o. IfSome o (λ (r : Matrix). d ≡ zero_matrix r.ring r.target [])) number (h.first refl)
map_out_is shelf id k m number (suc i) last d h = step_is shelf id k m (suc i) last (omega arith) d (h.later (omega arith))
