-- The run of a plan for a limit: the matrices that it looks at, in order, and how it ends. (This project's own.)
use Rattle.std.specs.Prelude.{◌≡◌, ℕ, ◌<◌, List, [], ◌∷◌, ◌++◌, length, Result, Ok, Err}
use Rattle.sf_algebra.specs.Bounds.{HasSmallSize}
use Rattle.sf_algebra.specs.Matrices.{Matrix, IsMatrix}
use Rattle.sf_algebra.specs.Rings.{IsOverField}
use Rattle.sf_algebra.specs.Vectors.{Vector}
use Rattle.sf_groebner.specs.ReducedBases.{IsGraphBasis}
use Rattle.sf_groebner.specs.Small.{IsSmall, IsLarge}
use Rattle.sf_matrix.specs.declared.basis.BaseFault.TheVariants.{Memory, Large}
use Rattle.sf_matrix.specs.declared.basis.BaseFault.{BaseFault}
use Rattle.sf_matrix.specs.Questions.{Question, Answer, IsSensible, Holds}
use Rattle.sf_matrix.specs.Plans.{Plan, answer, look, ask}

-- a matrix without rows, which isn't looked at
pub record IsRowless (m : Matrix) : Type 0 where
  pub field : IsOverField m.ring
  pub none : m.rows ≡ []

-- a matrix that can be looked at: it has a row, and its size and degrees are within bounds
pub record IsFit (m : Matrix) : Type 0 where
  pub row : 0 < length m.rows
  pub field : IsOverField m.ring
  pub matrix : IsMatrix m
  pub size : HasSmallSize m

-- that m isn't small
abbrev pub large : Matrix → BaseFault
large m = Large (length m.rows) (length m.target)

-- the looks of a plan up to its end: its answer; or the first matrix that isn't small; or want of memory, which may come at any
-- moment. What can't be looked at isn't small and isn't among the looks; a question that makes no sense has no answer.
pub data Run (limit : ℕ) {A : Type 0} : Plan A → List Matrix → Result A BaseFault → Type 0 where
  ends : {a : A} → Run limit (answer a) [] (Ok a)
  stops : {plan : Plan A} → Run limit plan [] (Err Memory)
  skips : {m : Matrix} {next : List Vector → Plan A} {looked : List Matrix} {end : Result A BaseFault}
      → IsRowless m → Run limit (next []) looked end → Run limit (look m next) looked end
  looks : {m : Matrix} {next : List Vector → Plan A} {looked : List Matrix} {end : Result A BaseFault} (elements : List Vector)
      → IsFit m → IsSmall limit m elements → Run limit (next elements) looked end
      → Run limit (look m next) (m ∷ looked) end
  outgrows : {m : Matrix} {next : List Vector → Plan A}
      → IsFit m → IsLarge limit m → Run limit (look m next) (m ∷ []) (Err (large m))
  refuses : {m : Matrix} {next : List Vector → Plan A}
      → (IsRowless m → ⊥) → (IsFit m → ⊥) → Run limit (look m next) [] (Err (large m))
  asks : {q : Question} {next : Answer q → Plan A} {looked : List Matrix} {end : Result A BaseFault} (x : Answer q)
      → IsSensible q → Holds q x → Run limit (next x) looked end → Run limit (ask q next) looked end
  strays : {q : Question} {next : Answer q → Plan A}
      → (IsSensible q → ⊥) → Run limit (ask q next) [] (Err (Large 0 0))

-- a run that didn't end for want of memory
abbrev pub IsWhole : {A : Type 0} → Result A BaseFault → Type 0
IsWhole (Ok a) = Unit {0}
IsWhole (Err Memory) = ⊥
IsWhole (Err (Large rows columns)) = Unit {0}

-- a second run of the same plan: it looked at the same matrices and ended alike, or memory was wanting after some first ones
abbrev pub Agrees : {A : Type 0} → List Matrix → Result A BaseFault → List Matrix → Result A BaseFault → Type 0
Agrees looked end others (Ok a) = (others ≡ looked) × (end ≡ Ok a)
Agrees looked end others (Err Memory) = (more : List Matrix) × (looked ≡ others ++ more)
Agrees looked end others (Err (Large rows columns)) = (others ≡ looked) × (end ≡ Err (Large rows columns))

-- what a look that ended well tells of a matrix, whether or not it has rows
pub record IsLookedAt (m : Matrix) (elements : List Vector) : Type 0 where
  pub field : IsOverField m.ring
  pub matrix : IsMatrix m
  pub reduced : IsGraphBasis m elements
