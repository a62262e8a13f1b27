-- Total complexes whose rows are exact but for the highest column, where a complex of groups is set. Relations take no
-- part. (Weibel, "An Introduction to Homological Algebra", section 2.7.)
use Rattle.std.specs.Prelude.{◌≡◌, ℕ, suc}
use Rattle.sf_algebra.specs.Groups.{Group, IsMap, Mod}
use Rattle.sf_chase.specs.Columns.{Columned}

-- one differential after the other is zero
abbrev pub IsZeroAfter : {R : Type 0} (X Y W : Columned R) → (X.group.V → Y.group.V) → (Y.group.V → W.group.V) → Type 0
IsZeroAfter X Y W d e = (v : X.group.V) → e (d v) ≡ W.group.zero

-- an element of column j that goes nowhere along its row: its image stands in column j
abbrev pub IsFlat : {R : Type 0} (Y W : Columned R) → (Y.group.V → W.group.V) → (j : ℕ) → Y.group.V → Type 0
IsFlat Y W e j v = Y.column j v × W.column j (e v)

-- the row is exact at column j: what goes nowhere along it comes from the next higher column
abbrev pub IsExactRow : {R : Type 0} (X Y W : Columned R) → (X.group.V → Y.group.V) → (Y.group.V → W.group.V) → (j : ℕ)
    → Type 0
IsExactRow X Y W d e j =
    (v : Y.group.V) → IsFlat Y W e j v → (u : X.group.V) × X.column (suc j) u × Mod Y.group (Y.column (suc j)) v (d u)

-- a group set into the column n of Y
pub record IsAugmentation {R : Type 0} (B : Group R) (Y : Columned R) (n : ℕ) (set : B.V → Y.group.V) : Type 0 where
  pub map : IsMap B Y.group set
  pub inside : (b : B.V) → Y.column n (set b)
  pub one_to_one : (b : B.V) → set b ≡ Y.group.zero → b ≡ B.zero

-- and what goes nowhere along the row is set there
abbrev pub ResolvesRow : {R V : Type 0} (Y W : Columned R) → (Y.group.V → W.group.V) → (n : ℕ) → (V → Y.group.V)
    → Type 0
ResolvesRow {V = V} Y W e n set = (v : Y.group.V) → IsFlat Y W e n v → (b : V) × (v ≡ set b)
