-- What the calls of the shelf do to its entries.
use Rattle.std.proofs.Common.{◌≡◌, inl, inr, false, ℕ, zero, suc, ◌≤◌, ◌<◌, get_or, List, [], ◌∷◌, ◌++◌, length, Some, slice_get, slice_set, Result, Ok, Err, IsOk, OnOk, refl, sym, ◌∙◌, ap, subst}
use Rattle.std.proofs.lemmas.Option.{get_or_from_slice_get, none-some, same_Some, slice_get_read}
use Rattle.sf_algebra.specs.Matrices.{Matrix}
use Rattle.sf_matrix.specs.declared.basis.BaseFault.{BaseFault}
use Rattle.sf_matrix.specs.Meets.{Meets}
use Rattle.sf_matrix.specs.Tables.{Table, is_among}
use Rattle.sf_object.specs.ResolutionPlans.{resolution_plan}
use Rattle.sf_object.specs.Shelves.{GrewOver, HasGrownUpTo, HasOpened, HasSteps, IsKeptOver, MeetsSteps, Shelved, modules_of, steps_up_to, told_steps}
use Rattle.sf_object.proofs.Shelves.{entry_grown, fresh, grew_stays, grew_steps, module_is}
use Rattle.sf_resolve.specs.Making.{AreMoreUpTo, first_told}

-- a module that has a number
pub opened_old : (shelf : List Shelved) (relations : Matrix) (id : ℕ) → slice_get (modules_of shelf) id ≡ Some relations
    → HasOpened shelf relations id shelf
opened_old shelf relations id number = record { number = number; shelf = inl refl }

-- and a new one
last-at : {X : Type 0} (xs : List X) (x : X) → slice_get (xs ++ x ∷ []) (length xs) ≡ Some x
last-at [] x = refl
last-at (y ∷ xs) x = last-at xs x

pub opened_new : (before after : List Shelved) (relations : Matrix) (id : ℕ)
    → is_among relations (modules_of before) ≡ false → after ≡ before ++ fresh relations ∷ [] → id ≡ length before
    → HasOpened before relations id after
opened_new before after relations id missing added last = record {
  number =
      module_is after id (fresh relations)
      (ap (λ shelf. slice_get shelf id) added ∙ ap (slice_get (before ++ fresh relations ∷ [])) last ∙ last-at before (fresh relations));
  shelf = inr (missing, added);
}

-- the entry of a number took the place of the one before
module _ (before after : List Shelved) (id k : ℕ) (e f : Shelved) (here : slice_get before id ≡ Some e)
    (set : after ≡ slice_set before id f) (same_module : f.relations ≡ e.relations) (more : AreMoreUpTo e.steps k f.steps) where
  grown_entry : f ≡ record { relations = e.relations; steps = e.steps ++ more.more }
  grown_entry = λ i. record { relations = same_module i; steps = more.steps i }

  pub shelf_grown : HasGrownUpTo before id k after
  shelf_grown = record {
    entry = e;
    more = more.more;
    here = here;
    steps = set ∙ ap (slice_set before id) grown_entry;
    few = more.few;
  }

  entry_now : slice_get after id ≡ Some f
  unfolding shelf_grown
  entry_now = entry_grown before id k after shelf_grown ∙ ap Some (sym grown_entry)

  same_told : (end : Result (Unit {0}) BaseFault) → first_told k f.steps end ≡ told_steps after id k end
  same_told (Err fault) = refl
  same_told (Ok done) = ap (λ o. Ok (steps_up_to k o)) (sym entry_now)

  pub shelf_meets : {t u : Table} (end : Result (Unit {0}) BaseFault)
      → Meets t (resolution_plan e.relations k) (first_told k f.steps end) u → MeetsSteps before t id k end after u
  unfolding shelf_grown
  shelf_meets {t} {u} end h = record {
    grown = shelf_grown;
    meets = subst (λ told. Meets t (resolution_plan e.relations k) told u) (same_told end) h;
  }

  pub shelf_there : k ≤ length f.steps → HasSteps after id k
  shelf_there enough = record { entry = f; here = entry_now; enough = enough }

  pub shelf_grew : {t u : Table} {end : Result (List Matrix) BaseFault} → Meets t (resolution_plan e.relations k) end u
      → GrewOver before t → IsKeptOver u f → GrewOver after u
  unfolding shelf_grown
  shelf_grew {t} {u} h grew own =
      let stays = grew_stays before h grew in
      grew_steps before id k after shelf_grown stays.kept stays.distinct (subst (IsKeptOver u) grown_entry own)

set-same : {X : Type 0} (xs : List X) (i : ℕ) (x : X) → slice_get xs i ≡ Some x → slice_set xs i x ≡ xs
set-same [] i x here = absurd (none-some x here)
set-same (y ∷ xs) zero x here = ap (λ z. z ∷ xs) (sym (same_Some y x here))
set-same (y ∷ xs) (suc i) x here = ap (λ zs. y ∷ zs) (set-same xs i x here)

-- where nothing was to be made the shelf is as it was
pub shelf_same : (before after : List Shelved) (id : ℕ) (e f : Shelved) → slice_get before id ≡ Some e
    → after ≡ slice_set before id f → f ≡ e → after ≡ before
shelf_same before after id e f here set same = set ∙ ap (slice_set before id) same ∙ set-same before id e here

-- the entry of which steps are there
pub enough_at : (shelf : List Shelved) (id k : ℕ) (e : Shelved) → slice_get shelf id ≡ Some e → HasSteps shelf id k
    → k ≤ length e.steps
enough_at shelf id k e here h =
    let same : h.entry ≡ e = same_Some h.entry e (sym h.here ∙ here) in
    subst (λ (x : Shelved). k ≤ length x.steps) same h.enough

-- where all steps are there already: what the entry's call ensures then
pub shelf_found : {E : Type 0} (t u : Table) (result : Result (Unit {0}) E) (before after : List Shelved) (id k : ℕ) (e f : Shelved)
    → slice_get before id ≡ Some e → after ≡ slice_set before id f
    → (k ≤ length e.steps → IsOk result × (f ≡ e) × (u ≡ t)) → HasSteps before id k
    → IsOk result × (after ≡ before) × (u ≡ t)
shelf_found t u result before after id k e f here set found there =
    let h = found (enough_at before id k e here there) in
    (h.0, shelf_same before after id e f here set h.1, h.2)

-- the steps are there where the call ended well
pub shelf_enough : {E : Type 0} (result : Result (Unit {0}) E) (after : List Shelved) (id k : ℕ) (f : Shelved)
    → (k ≤ length f.steps → HasSteps after id k) → OnOk result (k ≤ length f.steps) → OnOk result (HasSteps after id k)
shelf_enough (Ok done) after id k f there h = there h
shelf_enough (Err fault) after id k f there h = tt

-- the entry as the vector has it
pub entry_here : (before items : List Shelved) (id : ℕ) → HasSteps before id 0 → (e d : Shelved) → items ≡ before
    → e ≡ get_or items id d → slice_get before id ≡ Some e
entry_here before items id there e d same read =
    there.here
    ∙ ap Some
    (sym (get_or_from_slice_get before id there.entry d there.here) ∙ ap (λ es. get_or es id d) (sym same) ∙ sym read)

-- an entry of these relations
pub number_here : (entries : List Shelved) (relations : Matrix) (k : ℕ) (e : Shelved) → k < length entries
    → e ≡ get_or entries k e → e.relations ≡ relations → slice_get (modules_of entries) k ≡ Some relations
number_here entries relations k e below read same =
    module_is entries k e (slice_get_read entries (length entries) k e refl below read) ∙ ap Some same
