-- What a run of a plan that came to an answer tells, one step of the plan after another.
use Rattle.std.proofs.Common.{◌≡◌, ℕ, ◌<◌, List, [], ◌∷◌, ◌++◌, length, Ok, Err, refl, sym, ap, subst, arith}
use Rattle.std.specs.List.{AllByRecursion}
use Rattle.sf_algebra.specs.Bounds.{HasSmallSize}
use Rattle.sf_algebra.specs.Matrices.{Matrix, IsMatrix}
use Rattle.sf_algebra.specs.Rings.{IsOverField}
use Rattle.sf_algebra.specs.Vectors.{Vector, IsVector}
use Rattle.sf_algebra.proofs.Monomials.Weights.{field_ring}
use Rattle.sf_groebner.specs.Small.{IsLarge}
use Rattle.sf_matrix.specs.declared.basis.BaseFault.TheVariants.{Large}
use Rattle.sf_matrix.specs.Plans.{Plan, answer, look, ask, bind, look_plan}
use Rattle.sf_matrix.specs.Questions.{Question, Answer, IsSensible, Holds}
use Rattle.sf_matrix.specs.Runs.{Run, IsRowless, IsLookedAt, ends, skips, looks, outgrows, refuses, asks}
use Rattle.sf_matrix.proofs.Plans.WithoutRows.{graph_basis-no_rows}

looked_at-rowless : (m : Matrix) → IsRowless m → IsLookedAt m []
looked_at-rowless m h = record {
  field = h.field;
  matrix = subst (AllByRecursion (IsVector m.ring m.target)) (sym h.none) tt;
  reduced = graph_basis-no_rows m (field_ring h.field) h.none;
}

module _ {A : Type 0} (limit : ℕ) where
  -- a look found the reduced basis of the graph, which is empty where there is no row
  pub look_is : (m : Matrix) (next : List Vector → Plan A) (looked : List Matrix) (a : A)
      → Run limit (look m next) looked (Ok a)
      → (elements : List Vector) × (others : List Matrix) × IsLookedAt m elements × Run limit (next elements) others (Ok a)
  look_is m next looked a (skips h run) = ([], looked, looked_at-rowless m h, run)
  look_is m next looked a (looks {looked = others} elements fit small run) = (
    elements,
    others,
    record { field = fit.field; matrix = fit.matrix; reduced = small.reduced },
    run,
  )

  -- a question made sense and had an answer
  pub ask_is : (q : Question) (next : Answer q → Plan A) (looked : List Matrix) (a : A)
      → Run limit (ask q next) looked (Ok a)
      → (x : Answer q) × IsSensible q × Holds q x × Run limit (next x) looked (Ok a)
  ask_is q next looked a (asks x sensible holds run) = (x, sensible, holds, run)

  pub answer_is : (b : A) (looked : List Matrix) (a : A) → Run limit (answer b) looked (Ok a) → a ≡ b
  answer_is b looked a ends = refl

  no_fault : (b : A) (looked : List Matrix) (rows columns : ℕ) → Run limit (answer b) looked (Err (Large rows columns)) → ⊥
  no_fault b looked rows columns h = elim h [ ]

-- one look
pub look_plan_is : (limit : ℕ) (m : Matrix) (looked : List Matrix) (elements : List Vector)
    → Run limit (look_plan m) looked (Ok elements) → IsLookedAt m elements
look_plan_is limit m looked elements run =
    let found = look_is limit m answer looked elements run in
    subst (IsLookedAt m) (sym (answer_is limit found.0 found.1 elements found.3)) found.2

-- a matrix over a field that one look finds too large isn't small, and it was looked at where its size is within bounds
pub record IsTooLarge (limit : ℕ) (m : Matrix) (looked : List Matrix) (rows columns : ℕ) : Type 0 where
  pub rows_count : rows ≡ length m.rows
  pub columns_count : columns ≡ length m.target
  pub large : IsLarge limit m
  pub looked_at : HasSmallSize m → looked ≡ m ∷ []

some_row : (m : Matrix) → IsOverField m.ring → (IsRowless m → ⊥) → 0 < length m.rows
some_row m field fails = by m.rows refl
  where
    by : (vs : List Vector) → m.rows ≡ vs → 0 < length vs
    by [] none = absurd (fails (record { field = field; none = none }))
    by (v ∷ vs) e = omega arith

pub look_plan_large : (limit : ℕ) (m : Matrix) (looked : List Matrix) (rows columns : ℕ) → IsOverField m.ring → IsMatrix m
    → Run limit (look_plan m) looked (Err (Large rows columns)) → IsTooLarge limit m looked rows columns
look_plan_large limit m looked rows columns field matrix (skips h run) = absurd (no_fault limit [] looked rows columns run)
look_plan_large limit m looked rows columns field matrix (looks {looked = others} elements fit small run) =
    absurd (no_fault limit elements others rows columns run)
look_plan_large limit m looked rows columns field matrix (outgrows fit outgrown) =
    record { rows_count = refl; columns_count = refl; large = outgrown; looked_at = λ size. refl }
look_plan_large limit m looked rows columns field matrix (refuses has_row unfit) =
    let beyond : HasSmallSize m → ⊥ =
    λ size. unfit (record { row = some_row m field has_row; field = field; matrix = matrix; size = size }) in
    record {
      rows_count = refl;
      columns_count = refl;
      large = λ elements small. beyond small.size;
      looked_at = λ size. absurd (beyond size);
    }

-- a plan and one that goes on from its answer
pub bind_is : {A B : Type 0} (limit : ℕ) (plan : Plan A) (further : A → Plan B) (looked : List Matrix) (b : B)
    → Run limit (bind plan further) looked (Ok b)
    → (a : A) × (first : List Matrix) × (others : List Matrix) × Run limit plan first (Ok a)
    × Run limit (further a) others (Ok b) × (looked ≡ first ++ others)
bind_is limit (answer a) further looked b run = (a, [], looked, ends, run, refl)
bind_is limit (look m next) further looked b (skips h run) =
    let parts = bind_is limit (next []) further looked b run in
    (parts.0, parts.1, parts.2, skips h parts.3, parts.4, parts.5)
bind_is limit (look m next) further looked b (looks {looked = others} elements fit small run) =
    let parts = bind_is limit (next elements) further others b run in
    (parts.0, m ∷ parts.1, parts.2, looks elements fit small parts.3, parts.4, ap (λ ms. m ∷ ms) parts.5)
bind_is limit (ask q next) further looked b (asks x sensible holds run) =
    let parts = bind_is limit (next x) further looked b run in
    (parts.0, parts.1, parts.2, asks x sensible holds parts.3, parts.4, parts.5)
