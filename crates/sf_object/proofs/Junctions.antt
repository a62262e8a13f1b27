-- The junctions of maps, by their places.
use Rattle.std.proofs.Common.{◌≡◌, ℕ, zero, suc, ◌-◌, List, [], ◌∷◌, length, Some, slice_get, refl, ◌∙◌, ap, arith}
use Rattle.std.proofs.lemmas.Option.{none-some, same_Some}
use Rattle.sf_object.specs.declared.map.Map.{Map}
use Rattle.sf_object.specs.Complexes.{junctions, junctions_behind}

-- maps i and i + 1 make junction i
behind-at : (h : Map) (gs : List Map) (i : ℕ) (f g : Map) → slice_get (h ∷ gs) i ≡ Some f → slice_get gs i ≡ Some g
    → slice_get (junctions_behind h gs) i ≡ Some (record { first = g; second = f })
behind-at h [] i f g here next = absurd (none-some g next)
behind-at h (k ∷ gs) zero f g here next =
    λ i. Some (record { first = same_Some k g next i; second = same_Some h f here i })
behind-at h (k ∷ gs) (suc i) f g here next = behind-at k gs i f g here next

pub junction_at : (fs : List Map) (i : ℕ) (f g : Map) → slice_get fs i ≡ Some f → slice_get fs (suc i) ≡ Some g
    → slice_get (junctions fs) i ≡ Some (record { first = g; second = f })
junction_at [] i f g here next = absurd (none-some f here)
junction_at (h ∷ fs) i f g here next = behind-at h fs i f g here next

-- there is one fewer than maps
length-behind : (h : Map) (gs : List Map) → length (junctions_behind h gs) ≡ length gs
length-behind h [] = refl
length-behind h (k ∷ gs) = ap suc (length-behind k gs)

pub length-junctions : (fs : List Map) → length (junctions fs) ≡ length fs - 1
length-junctions [] = refl
length-junctions (h ∷ fs) = length-behind h fs ∙ omega arith
