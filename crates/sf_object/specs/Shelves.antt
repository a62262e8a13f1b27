-- A shelf of resolutions: modules, and the steps of their resolutions that are there. (This project's own.)
use Rattle.std.specs.Prelude.{◌≡◌, ℕ, ◌+◌, ◌-◌, ◌≤◌, max, false, List, [], ◌∷◌, ◌++◌, length, map, take, Option, Some, None, option_and_then, slice_get, slice_set, Result, Ok, Err, ◌⊎◌}
use Rattle.std.specs.List.{AllByRecursion}
use Rattle.sf_algebra.specs.Matrices.{Matrix}
use Rattle.sf_matrix.specs.declared.basis.BaseFault.{BaseFault}
use Rattle.sf_matrix.specs.Meets.{Meets}
use Rattle.sf_matrix.specs.Tables.{AreDistinct, Table, is_among}
use Rattle.sf_object.specs.Kept.{IsKept}
use Rattle.sf_object.specs.ResolutionPlans.{resolution_plan}

-- a module, by its relations, and the steps of its resolution that are there, from the first on
pub record Shelved : Type 0 where
  pub relations : Matrix
  pub steps : List Matrix

-- the relations of the modules, by their numbers
abbrev pub modules_of : List Shelved → List Matrix
modules_of shelf = map (λ (e : Shelved). e.relations) shelf

-- entry number id is there, with at least its steps 1 to k
pub record HasSteps (shelf : List Shelved) (id k : ℕ) : Type 0 where
  pub entry : Shelved
  pub here : slice_get shelf id ≡ Some entry
  pub enough : k ≤ length entry.steps

-- step k, counted from 1, of entry number id
abbrev pub step_at : List Shelved → ℕ → ℕ → Option Matrix
step_at shelf id k = option_and_then (λ (e : Shelved). slice_get e.steps (k - 1)) (slice_get shelf id)

-- the steps of an entry are those of the resolution, and what was looked at for them is in the table
abbrev pub IsKeptOver : Table → Shelved → Type 0
IsKeptOver t e = IsKept t (resolution_plan e.relations (length e.steps)) e.steps

-- so it is with each entry, and no module has two
pub record GrewOver (shelf : List Shelved) (t : Table) : Type 0 where
  pub kept : AllByRecursion (IsKeptOver t) shelf
  pub distinct : AreDistinct (modules_of shelf)

-- number id is that of the module with these relations: it has one already, or a new entry without steps is added at the end
pub record HasOpened (before : List Shelved) (relations : Matrix) (id : ℕ) (after : List Shelved) : Type 0 where
  pub number : slice_get (modules_of after) id ≡ Some relations
  pub shelf :
      (after ≡ before)
      ⊎ ((is_among relations (modules_of before) ≡ false) × (after ≡ before ++ record { relations = relations; steps = [] } ∷ []))

-- what becomes of a shelf that is asked for the number of a module: it stays as it was where memory is wanting
abbrev pub Opens : {E : Type 0} → List Shelved → Matrix → Result ℕ E → List Shelved → Type 0
Opens before relations (Ok id) after = HasOpened before relations id after
Opens before relations (Err fault) after = after ≡ before

-- the steps 1 to k of entry number id were asked for: that entry has its steps and maybe some more, none of them past step k, and no
-- other entry has changed
pub record HasGrownUpTo (before : List Shelved) (id k : ℕ) (after : List Shelved) : Type 0 where
  pub entry : Shelved
  pub more : List Matrix
  pub here : slice_get before id ≡ Some entry
  pub steps : after ≡ slice_set before id (record { relations = entry.relations; steps = entry.steps ++ more })
  pub few : length entry.steps + length more ≤ max k (length entry.steps)

-- the steps 1 to k of an entry
abbrev pub steps_up_to : ℕ → Option Shelved → List Matrix
steps_up_to k None = []
steps_up_to k (Some e) = take k e.steps

-- the steps 1 to k of entry number id, unless there was a fault
abbrev pub told_steps : List Shelved → ℕ → ℕ → Result (Unit {0}) BaseFault → Result (List Matrix) BaseFault
told_steps shelf id k (Err fault) = Err fault
told_steps shelf id k (Ok done) = Ok (steps_up_to k (slice_get shelf id))

-- the steps 1 to k of entry number id are found or made: what was looked at, and how it ends, is as the plan of the resolution says,
-- whether or not steps were there before
pub record MeetsSteps (before : List Shelved) (t : Table) (id k : ℕ) (end : Result (Unit {0}) BaseFault) (after : List Shelved)
    (u : Table) : Type 0 where
  pub grown : HasGrownUpTo before id k after
  pub meets : Meets t (resolution_plan grown.entry.relations k) (told_steps after id k end) u
