-- What the plan of a task answers is what the definitions say, and nothing else is meant.
use Rattle.std.proofs.Common.{◌≡◌, ◌↔◌, ℕ, List, Bool, true, false, if◌then◌else◌, Option, Some, None, Ok, refl, sym, ap, subst}
use Rattle.std.specs.Prelude.{IsTrue}
use Rattle.sf_algebra.specs.Matrices.{Matrix}
use Rattle.sf_algebra.specs.Vectors.{Vector}
use Rattle.sf_algebra.proofs.Monomials.Weights.{field_ring}
use Rattle.sf_groebner.specs.Lifts.{IsLift}
use Rattle.sf_groebner.specs.Presentations.{IsZero}
use Rattle.sf_groebner.specs.Spans.{InSpan, IsCoefficients}
use Rattle.sf_groebner.proofs.Constructions.Reductions.{reduction_lift, reduction_zero}
use Rattle.sf_groebner.proofs.Uniqueness.Lifts.{unique_lift}
use Rattle.sf_matrix.specs.Tables.{Table}
use Rattle.sf_matrix.specs.Meets.{Meets}
use Rattle.sf_matrix.specs.Plans.{answer, ask}
use Rattle.sf_matrix.specs.Questions.{rest, is_zero}
use Rattle.sf_matrix.specs.Runs.{Run}
use Rattle.sf_matrix.proofs.Plans.Readings.{answer_is, ask_is, look_is}
use Rattle.sf_matrix.proofs.Zeros.{is_zero-tests}
use Rattle.sf_genmor.specs.declared.presentation.Presentation.{Presentation}
use Rattle.sf_genmor.proofs.LookAnswers.{basis_is, basis_look, syzygies_is, syzygies_look, unique_basis, unique_syzygies}
use Rattle.sf_object.specs.Faults.{IsBetween}
use Rattle.sf_object.proofs.ComplexFailures.{answers_first_failure}
use Rattle.sf_object.proofs.MapFaults.{answers_first_fault}
use Rattle.sf_module.proofs.ModuleAnswers.{kernel_answered, image_answered, cokernel_answered}
use Rattle.sf_resolve.proofs.StepAnswers.{answers_resolution}
use Rattle.sf_script.specs.declared.checked.Checked.TheVariants.{Opens, Enters, Limits, Defines, Maps, Chains, Lets, Asks, Shows, Basis, Syz, Member, Lift, Resolves}
use Rattle.sf_script.specs.declared.checked.Checked.{Checked}
use Rattle.sf_script.specs.declared.checked.CheckedQuery.TheVariants.{Kernel, Image, Coker}
use Rattle.sf_script.specs.declared.checked.CheckedQuery.{CheckedQuery}
use Rattle.sf_session.specs.Tasks.{Found, map_of, Means, IsOf, plan_of, query_plan, membership_plan, lift_plan}

-- an answer is meant, and no other
abbrev pub IsFixed : (c : Checked) → Found c → Type 0
IsFixed c a = Means c a × ((b : Found c) → Means c b → b ≡ a)

-- truth values that tell the same are equal
pub same_told : (P : Type 0) (a b : Bool) → IsTrue a ↔ P → IsTrue b ↔ P → b ≡ a
same_told P true true h k = refl
same_told P true false h k = k.1 (h.0 refl)
same_told P false true h k = sym (h.1 (k.0 refl))
same_told P false false h k = refl

membership_fixed : (m : Matrix) (v : Vector) (a : Bool) → IsTrue a ↔ InSpan m v → IsFixed (Member m v) a
membership_fixed m v a h = (h, λ b k. same_told (InSpan m v) a b h k)

module _ (m : Matrix) (v w c : Vector) (zero_inside : IsZero w ↔ InSpan m v) (leaves : IsZero w → IsLift m v c)
    (one : (d e : Vector) → IsLift m v d → IsLift m v e → d ≡ e) (lifted : (d : Vector) → IsLift m v d → InSpan m v) where
  lift_fixed : (zero : Bool) → IsTrue zero ↔ IsZero w → IsFixed (Lift m v) (if zero then Some c else None)
  lift_fixed true e = (leaves (e.0 refl), λ b k. only b k)
    where
      only : (b : Option Vector) → Means (Lift m v) b → b ≡ Some c
      only None k = absurd (k (zero_inside.0 (e.0 refl)))
      only (Some d) k = ap Some (one d c k (leaves (e.0 refl)))
  lift_fixed false e = (λ inside. clash (e.1 (zero_inside.1 inside)), λ b k. only b k)
    where
      clash : false ≡ true → ⊥
      clash f = cc

      only : (b : Option Vector) → Means (Lift m v) b → b ≡ None
      only None k = refl
      only (Some d) k = absurd (clash (e.1 (zero_inside.1 (lifted d k))))

-- a lift shows that the vector is in the span
lift_inside : (m : Matrix) (v c : Vector) → IsLift m v c → InSpan m v
lift_inside m v c h = record { coefficients = c; homogeneous = h.coefficients; value = h.value }

-- the maps of the queries of a line go between their modules
abbrev pub IsReady : Checked → Type 0
IsReady Opens = Unit {0}
IsReady (Enters ring) = Unit {0}
IsReady (Limits limit) = Unit {0}
IsReady (Defines name m) = Unit {0}
IsReady (Maps name f) = Unit {0}
IsReady (Chains name c) = Unit {0}
IsReady (Lets name q) = IsBetween (map_of q)
IsReady (Asks q) = IsBetween (map_of q)
IsReady (Shows what) = Unit {0}
IsReady (Basis m) = Unit {0}
IsReady (Syz m) = Unit {0}
IsReady (Member m v) = Unit {0}
IsReady (Lift m v) = Unit {0}
IsReady (Resolves m k) = Unit {0}

query_fixed : (limit : ℕ) (q : CheckedQuery) → IsBetween (map_of q) → (looked : List Matrix) (p : Presentation)
    → Run limit (query_plan q) looked (Ok p) → IsOf q p × ((other : Presentation) → IsOf q other → other ≡ p)
query_fixed limit (Kernel f) between looked p run = kernel_answered limit f looked p between run
query_fixed limit (Image f) between looked p run = image_answered limit f looked p between run
query_fixed limit (Coker f) between looked p run = cokernel_answered limit f looked p between run

-- there is nothing else to be found where all is given
nothing_else : (a b : Unit {0}) → b ≡ a
nothing_else a b = refl

pub task_fixed : (limit : ℕ) (c : Checked) → IsReady c → (looked : List Matrix) (a : Found c)
    → Run limit (plan_of c) looked (Ok a) → IsFixed c a
unfolding membership_plan lift_plan
task_fixed limit Opens ready looked a run = (tt, λ b k. nothing_else a b)
task_fixed limit (Enters ring) ready looked a run = (tt, λ b k. nothing_else a b)
task_fixed limit (Limits n) ready looked a run = (tt, λ b k. nothing_else a b)
task_fixed limit (Defines name m) ready looked a run = (tt, λ b k. nothing_else a b)
task_fixed limit (Maps name f) ready looked a run = answers_first_fault limit f looked a run
task_fixed limit (Chains name c) ready looked a run = answers_first_failure limit c looked a run
task_fixed limit (Lets name q) ready looked a run = query_fixed limit q ready looked a run
task_fixed limit (Asks q) ready looked a run = query_fixed limit q ready looked a run
task_fixed limit (Shows what) ready looked a run = (tt, λ b k. nothing_else a b)
task_fixed limit (Basis m) ready looked a run =
    let found = basis_look limit m looked a run in
    let answer = basis_is limit m looked a run in
    (answer, λ b. unique_basis m (field_ring found.1.field) found.1.matrix a b answer)
task_fixed limit (Syz m) ready looked a run =
    let found = syzygies_look limit m looked a run in
    let answer = syzygies_is limit m looked a run in
    (answer, λ b. unique_syzygies m (field_ring found.1.field) a b answer)
task_fixed limit (Member m v) ready looked a run =
    let found = look_is limit m (λ elements. ask (rest m v) (λ left. answer (is_zero left.0))) looked a run in
    let left = ask_is limit (rest m v) (λ left. answer (is_zero left.0)) found.1 a found.3 in
    let zero = reduction_zero m (field_ring found.2.field) found.2.matrix v left.1.2 left.0.0 left.0.1 left.2 in
    let tests = is_zero-tests left.0.0.terms in
    subst (IsFixed (Member m v)) (sym (answer_is limit (is_zero left.0.0) found.1 a left.3))
    (membership_fixed m v (is_zero left.0.0) (λ e. zero.0 (tests.0 e), λ inside. tests.1 (zero.1 inside)))
task_fixed limit (Lift m v) ready looked a run =
    let next = λ (left : Vector × Vector). answer (if is_zero left.0 then Some left.1 else None) in
    let found = look_is limit m (λ elements. ask (rest m v) next) looked a run in
    let left = ask_is limit (rest m v) next found.1 a found.3 in
    let positive = field_ring found.2.field in
    let zero = reduction_zero m positive found.2.matrix v left.1.2 left.0.0 left.0.1 left.2 in
    let leaves = reduction_lift m positive v left.0.0 left.0.1 left.2 in
    subst (IsFixed (Lift m v)) (sym (answer_is limit (if is_zero left.0.0 then Some left.0.1 else None) found.1 a left.3))
    (lift_fixed m v left.0.0 left.0.1 zero leaves
    (unique_lift m positive v)
    (lift_inside m v)
    (is_zero left.0.0) (is_zero-tests left.0.0.terms))
task_fixed limit (Resolves m k) ready looked a run = answers_resolution limit m k looked a run

-- the coefficients with which the plan of a lift ends are a vector over the rows' degrees
pub lift_coefficients : (t u : Table) (m : Matrix) (v : Vector) (o : Option Vector) (c : Vector) → o ≡ Some c
    → Meets t (lift_plan m v) (Ok o) u → IsCoefficients m c
lift_coefficients t u m v o c e h =
    (subst (Means (Lift m v)) e (task_fixed t.limit (Lift m v) tt h.looked o h.run).0).coefficients
