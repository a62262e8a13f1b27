-- A shelf of resolutions and a table: the shelf keeps what was looked at for its steps, whatever else the table is used for.
use Rattle.std.proofs.Common.{◌≡◌, ◌||◌, Bool, true, false, not, inl, inr, ℕ, zero, suc, ◌-◌, ◌≤◌, List, [], ◌∷◌, ◌++◌, length, take, Option, Some, None, slice_get, slice_set, Result, Ok, Err, refl, sym, ◌∙◌, ap, subst, arith}
use Rattle.std.proofs.lemmas.Bool.{cases_Bool}
use Rattle.std.proofs.lemmas.List.Folds.{list_any-append}
use Rattle.std.proofs.lemmas.List.{map-append}
use Rattle.std.proofs.lemmas.Option.{none-some, same_Some, slice_get-map}
use Rattle.std.specs.List.{AllByRecursion}
use Rattle.std.specs.Option.{option_and_then, option_map}
use Rattle.sf_algebra.specs.Matrices.{Matrix}
use Rattle.sf_algebra.proofs.Basics.Lists.{AllByRecursion-append, AllByRecursion-get, AllByRecursion-weaken}
use Rattle.sf_algebra.proofs.GradedMatrices.Equality.{same_matrix, Decides-same_matrix}
use Rattle.sf_matrix.specs.declared.basis.BaseFault.{BaseFault}
use Rattle.sf_matrix.specs.Meets.{Meets}
use Rattle.sf_matrix.specs.Plans.{Plan}
use Rattle.sf_matrix.specs.Tables.{AreDistinct, Table, is_among}
use Rattle.sf_object.specs.Kept.{IsKept}
use Rattle.sf_object.specs.ResolutionPlans.{resolution_plan}
use Rattle.sf_object.specs.Shelves.{GrewOver, HasGrownUpTo, HasOpened, HasSteps, IsKeptOver, Opens, Shelved, modules_of, step_at, steps_up_to}
use Rattle.sf_object.proofs.Kept.{kept_over, meets_kept}
use Rattle.sf_object.proofs.ResolutionRuns.{fewer_kept, kept_none}

-- the empty shelf grew over each table
pub grew_none : (t : Table) → GrewOver [] t
grew_none t = record { kept = tt; distinct = tt }

-- a shelf grew over what its table became by other calls
pub grew_stays : {A : Type 0} {t u : Table} {plan : Plan A} {end : Result A BaseFault} (shelf : List Shelved)
    → Meets t plan end u → GrewOver shelf t → GrewOver shelf u
grew_stays {t = t} {u = u} shelf h grew = record {
  kept = AllByRecursion-weaken (IsKeptOver t) (IsKeptOver u) (λ e k. kept_over h k) shelf grew.kept;
  distinct = grew.distinct;
}

-- one module more
same_matrix-sym : (m n : Matrix) → same_matrix m n ≡ false → same_matrix n m ≡ false
same_matrix-sym m n differ =
    elim (cases_Bool (same_matrix n m)) [
      | inl same ↦
          let again : same_matrix m n ≡ true = (Decides-same_matrix m n).1 (sym ((Decides-same_matrix n m).0 same)) in
          absurd (let clash : true ≡ false = sym again ∙ differ in cc)
      | inr other ↦ other
    ]

or_false : (a b : Bool) → (a || b) ≡ false → (a ≡ false) × (b ≡ false)
or_false true b h = cc
or_false false b h = (refl, h)

not_true : (b : Bool) → not b ≡ true → b ≡ false
not_true true h = cc
not_true false h = refl

is_among-more : (m n : Matrix) (ms : List Matrix) → is_among m ms ≡ false → same_matrix m n ≡ false
    → is_among m (ms ++ n ∷ []) ≡ false
is_among-more m n ms none other =
    list_any-append (same_matrix m) ms (n ∷ []) ∙ (λ i. none i || (other i || false))

distinct-more : (ms : List Matrix) (m : Matrix) → AreDistinct ms → is_among m ms ≡ false → AreDistinct (ms ++ m ∷ [])
distinct-more [] m h none = (refl, tt)
distinct-more (n ∷ ns) m h none =
    let both = or_false (same_matrix m n) (is_among m ns) none in
    let other = is_among-more n m ns (not_true (is_among n ns) h.0) (same_matrix-sym m n both.0) in
    (ap not other, distinct-more ns m h.1 both.1)

-- a module without steps
abbrev pub fresh : Matrix → Shelved
fresh relations = record { relations = relations; steps = [] }

pub grew_added : {t : Table} (shelf : List Shelved) (relations : Matrix) → GrewOver shelf t
    → is_among relations (modules_of shelf) ≡ false → GrewOver (shelf ++ fresh relations ∷ []) t
grew_added {t} shelf relations grew missing = record {
  kept = AllByRecursion-append (IsKeptOver t) shelf (fresh relations ∷ []) grew.kept (kept_none t relations, tt);
  distinct =
      subst AreDistinct (sym (map-append (λ (e : Shelved). e.relations) shelf (fresh relations ∷ [])))
      (distinct-more (modules_of shelf) relations grew.distinct missing);
}

-- so it is after a module was opened
grew_by : {t : Table} (before after : List Shelved) (relations : Matrix) (id : ℕ) → HasOpened before relations id after
    → GrewOver before t → GrewOver after t
grew_by {t} before after relations id h grew = elim h.shelf [
  | inl same ↦ subst (λ shelf. GrewOver shelf t) (sym same) grew
  | inr added ↦ subst (λ shelf. GrewOver shelf t) (sym added.1) (grew_added before relations grew added.0)
]

pub grew_opened : {E : Type 0} {t : Table} (before after : List Shelved) (relations : Matrix) (result : Result ℕ E)
    → Opens before relations result after → GrewOver before t → GrewOver after t
grew_opened before after relations (Ok id) h grew = grew_by before after relations id h grew
grew_opened {E} {t} before after relations (Err fault) same grew = subst (λ shelf. GrewOver shelf t) (sym same) grew

-- where a module has a number, it has an entry
entry_of : (shelf : List Shelved) (id : ℕ) (relations : Matrix) (o : Option Shelved) → slice_get shelf id ≡ o
    → option_map (λ (e : Shelved). e.relations) o ≡ Some relations
    → (e : Shelved) × (slice_get shelf id ≡ Some e) × (e.relations ≡ relations)
entry_of shelf id relations None same none = absurd (none-some relations none)
entry_of shelf id relations (Some e) same is = (e, same, same_Some e.relations relations is)

pub module_entry : (shelf : List Shelved) (id : ℕ) (relations : Matrix) → slice_get (modules_of shelf) id ≡ Some relations
    → (e : Shelved) × (slice_get shelf id ≡ Some e) × (e.relations ≡ relations)
module_entry shelf id relations h =
    entry_of shelf id relations (slice_get shelf id) refl (sym (slice_get-map (λ (e : Shelved). e.relations) shelf id) ∙ h)

pub module_is : (shelf : List Shelved) (id : ℕ) (e : Shelved) → slice_get shelf id ≡ Some e
    → slice_get (modules_of shelf) id ≡ Some e.relations
module_is shelf id e here =
    slice_get-map (λ (e : Shelved). e.relations) shelf id ∙ ap (option_map (λ (e : Shelved). e.relations)) here

-- a module that has a number has its first 0 steps
pub here_now : (shelf : List Shelved) (id : ℕ) (relations : Matrix) → slice_get (modules_of shelf) id ≡ Some relations
    → HasSteps shelf id 0
here_now shelf id relations h =
    let e = module_entry shelf id relations h in record { entry = e.0; here = e.1; enough = omega arith }

pub opened_there : {before after : List Shelved} (relations : Matrix) (id : ℕ) → HasOpened before relations id after
    → HasSteps after id 0
opened_there {before} {after} relations id h = here_now after id relations h.number

-- what is there stays there when a module is opened
slice_get-front : {X : Type 0} (xs ys : List X) (k : ℕ) (x : X) → slice_get xs k ≡ Some x → slice_get (xs ++ ys) k ≡ Some x
slice_get-front [] ys k x read = absurd (none-some x read)
slice_get-front (y ∷ xs) ys zero x read = read
slice_get-front (y ∷ xs) ys (suc k) x read = slice_get-front xs ys k x read

pub entry_opened : {E : Type 0} (before after : List Shelved) (relations : Matrix) (result : Result ℕ E)
    → Opens before relations result after → (id : ℕ) (e : Shelved) → slice_get before id ≡ Some e
    → slice_get after id ≡ Some e
entry_opened before after relations (Ok new) h id e here = elim h.shelf [
  | inl same ↦ ap (λ shelf. slice_get shelf id) same ∙ here
  | inr added ↦
      ap (λ shelf. slice_get shelf id) added.1
      ∙ slice_get-front before (fresh relations ∷ []) id e here
]
entry_opened before after relations (Err fault) same id e here = ap (λ shelf. slice_get shelf id) same ∙ here

pub steps_opened : {E : Type 0} (before after : List Shelved) (relations : Matrix) (result : Result ℕ E)
    → Opens before relations result after → (id k : ℕ) → HasSteps before id k → HasSteps after id k
steps_opened before after relations result h id k there = record {
  entry = there.entry;
  here = entry_opened before after relations result h id there.entry there.here;
  enough = there.enough;
}

-- an entry takes the place of another one
set-here : {X : Type 0} (xs : List X) (i : ℕ) (x y : X) → slice_get xs i ≡ Some x → slice_get (slice_set xs i y) i ≡ Some y
set-here [] i x y here = absurd (none-some x here)
set-here (z ∷ xs) zero x y here = refl
set-here (z ∷ xs) (suc i) x y here = set-here xs i x y here

set-all : {X : Type 0} (P : X → Type 0) (xs : List X) (i : ℕ) (y : X) → AllByRecursion P xs → P y
    → AllByRecursion P (slice_set xs i y)
set-all P [] i y h own = tt
set-all P (x ∷ xs) zero y h own = (own, h.1)
set-all P (x ∷ xs) (suc i) y h own = (h.0, set-all P xs i y h.1 own)

modules-set : (shelf : List Shelved) (id : ℕ) (e : Shelved) (steps : List Matrix) → slice_get shelf id ≡ Some e
    → modules_of (slice_set shelf id (record { relations = e.relations; steps = steps })) ≡ modules_of shelf
modules-set [] id e steps here = absurd (none-some e here)
modules-set (d ∷ shelf) zero e steps here =
    ap (λ (x : Shelved). x.relations ∷ modules_of shelf) (sym (same_Some d e here))
modules-set (d ∷ shelf) (suc id) e steps here = λ i. d.relations ∷ modules-set shelf id e steps here i

-- each number keeps its module
pub same_modules : (before : List Shelved) (id k : ℕ) (after : List Shelved) → HasGrownUpTo before id k after
    → modules_of after ≡ modules_of before
same_modules before id k after h =
    ap modules_of h.steps ∙ modules-set before id h.entry (h.entry.steps ++ h.more) h.here

-- a shelf grew over its table where the steps of one entry were made
pub grew_steps : {u : Table} (before : List Shelved) (id k : ℕ) (after : List Shelved) (h : HasGrownUpTo before id k after)
    → AllByRecursion (IsKeptOver u) before → AreDistinct (modules_of before)
    → IsKeptOver u (record { relations = h.entry.relations; steps = h.entry.steps ++ h.more }) → GrewOver after u
grew_steps {u} before id k after h kept distinct own = record {
  kept = subst (AllByRecursion (IsKeptOver u)) (sym h.steps) (set-all (IsKeptOver u) before id _ kept own);
  distinct = subst AreDistinct (sym (same_modules before id k after h)) distinct;
}

-- the entry, as it became
pub entry_grown : (before : List Shelved) (id k : ℕ) (after : List Shelved) (h : HasGrownUpTo before id k after)
    → slice_get after id ≡ Some (record { relations = h.entry.relations; steps = h.entry.steps ++ h.more })
entry_grown before id k after h =
    ap (λ shelf. slice_get shelf id) h.steps ∙ set-here before id h.entry _ h.here

-- the first steps of an entry are kept, and to make them again looks at nothing new
pub first_steps : {t : Table} (shelf : List Shelved) (id k : ℕ) → GrewOver shelf t → (h : HasSteps shelf id k)
    → IsKept t (resolution_plan h.entry.relations k) (take k h.entry.steps)
first_steps {t} shelf id k grew h =
    fewer_kept h.entry.relations k (length h.entry.steps) h.entry.steps h.enough
    (AllByRecursion-get (IsKeptOver t) shelf id h.entry grew.kept h.here)

pub steps_found : {t : Table} (shelf : List Shelved) (id k : ℕ) → GrewOver shelf t → (h : HasSteps shelf id k)
    → Meets t (resolution_plan h.entry.relations k) (Ok (steps_up_to k (slice_get shelf id))) t
steps_found {t} shelf id k grew h =
    subst (λ o. Meets t (resolution_plan h.entry.relations k) (Ok (steps_up_to k o)) t) (sym h.here)
    (meets_kept (first_steps shelf id k grew h))

-- a step that is read of the shelf is one of the first steps
slice_get-take : {X : Type 0} (xs : List X) (i k : ℕ) → suc i ≤ k → slice_get (take k xs) i ≡ slice_get xs i
slice_get-take [] i zero h = refl
slice_get-take [] i (suc k) h = refl
slice_get-take (x ∷ xs) i zero h = absurd (omega arith)
slice_get-take (x ∷ xs) zero (suc k) h = refl
slice_get-take (x ∷ xs) (suc i) (suc k) h = slice_get-take xs i k (omega arith)

pub step_read : (shelf : List Shelved) (id i k : ℕ) (m : Matrix) → 1 ≤ i → i ≤ k → step_at shelf id i ≡ Some m
    → slice_get (steps_up_to k (slice_get shelf id)) (i - 1) ≡ Some m
step_read shelf id i k m first last read = by (slice_get shelf id) read
  where
    by : (o : Option Shelved) → option_and_then (λ (e : Shelved). slice_get e.steps (i - 1)) o ≡ Some m
        → slice_get (steps_up_to k o) (i - 1) ≡ Some m
    by None h = absurd (none-some m h)
    by (Some e) h = slice_get-take e.steps (i - 1) k (omega arith) ∙ h
