-- The steps of a module that a line asks for are those that a shelf finds or makes for its number.
use Rattle.std.proofs.Common.{◌≡◌, ℕ, ◌+◌, ◌-◌, List, [], ◌∷◌, ◌++◌, Option, Some, None, slice_get, Result, Ok, sym, ◌∙◌, ap, subst, arith}
use Rattle.std.proofs.lemmas.Option.{none-some, same_Some}
use Rattle.std.specs.Option.{option_and_then}
use Rattle.sf_algebra.specs.Matrices.{Matrix}
use Rattle.sf_algebra.proofs.Basics.Lists.{take-slice_get}
use Rattle.sf_matrix.specs.Meets.{Meets}
use Rattle.sf_matrix.specs.Tables.{Table}
use Rattle.sf_matrix.specs.declared.basis.BaseFault.{BaseFault}
use Rattle.sf_object.specs.ResolutionPlans.{resolution_plan}
use Rattle.sf_object.specs.Shelves.{HasOpened, MeetsSteps, Shelved, step_at, steps_up_to, told_steps}
use Rattle.sf_object.proofs.Shelves.{module_entry}

pub steps_met : {old before after : List Shelved} {t u : Table} {relations : Matrix} {id k : ℕ} {end : Result (Unit {0}) BaseFault}
    → HasOpened old relations id before → MeetsSteps before t id k end after u
    → Meets t (resolution_plan relations k) (told_steps after id k end) u
steps_met {before = before} {after = after} {t = t} {u = u} {relations = relations} {id = id} {k = k} {end = end} opened h =
    let e = module_entry before id relations opened.number in
    let same : h.grown.entry.relations ≡ relations =
    ap (λ (d : Shelved). d.relations) (same_Some h.grown.entry e.0 (sym h.grown.here ∙ e.1)) ∙ e.2 in
    subst (λ (m : Matrix). Meets t (resolution_plan m k) (told_steps after id k end) u) same h.meets

-- so it is with the steps that are read
pub steps_told : {old before after : List Shelved} {t u : Table} {relations : Matrix} {id k : ℕ} {done : Unit {0}} {steps : List Matrix}
    → steps ≡ steps_up_to k (slice_get after id) → HasOpened old relations id before → MeetsSteps before t id k (Ok done) after u
    → Meets t (resolution_plan relations k) (Ok steps) u
steps_told {t = t} {u = u} {relations = relations} {k = k} same opened h =
    subst (λ (ms : List Matrix). Meets t (resolution_plan relations k) (Ok ms) u) (sym same) (steps_met opened h)

one_less : (n : ℕ) → n + 1 - 1 ≡ n
one_less n = omega arith

-- one step more is read
pub steps_next : (shelf : List Shelved) (id before : ℕ) (m : Matrix) → step_at shelf id (before + 1) ≡ Some m
    → steps_up_to (before + 1) (slice_get shelf id) ≡ steps_up_to before (slice_get shelf id) ++ m ∷ []
steps_next shelf id before m read = by (slice_get shelf id) read
  where
    by : (o : Option Shelved) → option_and_then (λ (e : Shelved). slice_get e.steps (before + 1 - 1)) o ≡ Some m
        → steps_up_to (before + 1) o ≡ steps_up_to before o ++ m ∷ []
    by None h = absurd (none-some m h)
    by (Some e) h = take-slice_get e.steps before m (ap (slice_get e.steps) (sym (one_less before)) ∙ h)
