-- Groups in columns, as the places of one degree of a double complex, and differentials that keep a column or go on to
-- the next lower one. Columns are numbered from the lowest, so that below the column 0 there is nothing. (Weibel, "An
-- Introduction to Homological Algebra", sections 1.2 and 5.6.)
use Rattle.std.specs.Prelude.{◌≡◌, ℕ, suc, ◌≤◌}
use Rattle.sf_algebra.specs.Groups.{Group, IsSub, IsMap, IsWithin, PreimageOf, SumOf}

-- a group, with relations, that is the sum of its columns: what stands in column j alone, and what stands below it
pub record Columned (R : Type 0) : Type 1 where
  pub group : Group R
  pub relations : group.V → Type 0
  pub relations_sub : IsSub group relations
  pub column : ℕ → group.V → Type 0
  pub below : ℕ → group.V → Type 0
  pub column_sub : (j : ℕ) → IsSub group (column j)
  pub below_sub : (j : ℕ) → IsSub group (below j)
  pub rises : (i j : ℕ) → i ≤ j → IsWithin (below i) (below j)
  pub nothing_lower : (v : group.V) → below 0 v → v ≡ group.zero
  pub highest : (j : ℕ) (v : group.V) → below (suc j) v → SumOf group (column j) (below j) v
  pub column_below : (j : ℕ) → IsWithin (column j) (below (suc j))
  pub apart : (j : ℕ) (v : group.V) → column j v → below j v → v ≡ group.zero

-- d is a differential: it keeps relations and raises no column, and what stands in one column goes there and to the
-- next lower one
pub record IsDifferential {R : Type 0} (X Y : Columned R) (d : X.group.V → Y.group.V) : Type 0 where
  pub map : IsMap X.group Y.group d
  pub relates : IsWithin X.relations (PreimageOf d Y.relations)
  pub keeps : (j : ℕ) (v : X.group.V) → X.below j v → Y.below j (d v)
  pub steps : (j : ℕ) (v : X.group.V) → X.column (suc j) v
      → SumOf Y.group (Y.column (suc j)) (Y.column j) (d v)

-- one differential after the other gives relations
abbrev pub IsColumnComplex : {R : Type 0} (X Y W : Columned R) → (X.group.V → Y.group.V) → (Y.group.V → W.group.V)
    → Type 0
IsColumnComplex X Y W d e = (v : X.group.V) → W.relations (e (d v))

-- the column j of X as a group of its own, with relations: `put` sets an element there, `taken` reads the column off
pub record ColumnOf {R : Type 0} (X : Columned R) (j : ℕ) : Type 1 where
  pub group : Group R
  pub relations : group.V → Type 0
  pub relations_sub : IsSub group relations
  pub put : group.V → X.group.V
  pub taken : X.group.V → group.V
  pub put_map : IsMap group X.group put
  pub taken_map : IsMap X.group group taken
  pub taken_put : (c : group.V) → taken (put c) ≡ c
  pub put_column : (c : group.V) → X.column j (put c)
  pub put_taken : (v : X.group.V) → X.column j v → put (taken v) ≡ v
  pub taken_below : (v : X.group.V) → X.below j v → taken v ≡ group.zero
  pub put_relations : IsWithin relations (PreimageOf put X.relations)
  pub taken_relations : IsWithin X.relations (PreimageOf taken relations)
