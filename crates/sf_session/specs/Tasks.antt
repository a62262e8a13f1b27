-- What a line asks for that no test before the working list refuses: at which matrices it looks, and what its answer means.
use Rattle.std.specs.Prelude.{◌↔◌, ℕ, Bool, true, false, if◌then◌else◌, List, Option, Some, None, IsTrue}
use Rattle.sf_algebra.specs.Matrices.{Matrix}
use Rattle.sf_algebra.specs.Vectors.{Vector}
use Rattle.sf_groebner.specs.Lifts.{IsLift}
use Rattle.sf_groebner.specs.Spans.{InSpan}
use Rattle.sf_matrix.specs.Plans.{Plan, answer, look, ask}
use Rattle.sf_matrix.specs.Questions.{rest, is_zero}
use Rattle.sf_genmor.specs.LookPlans.{IsBasisMatrix, IsSyzygyMatrix, basis_plan, syzygies_plan}
use Rattle.sf_genmor.specs.declared.presentation.Presentation.{Presentation}
use Rattle.sf_module.specs.ModulePlans.{IsKernelOf, IsImageOf, IsCokernelOf, kernel_plan, image_plan, cokernel_plan}
use Rattle.sf_object.specs.declared.map.Map.{Map}
use Rattle.sf_object.specs.Complexes.{IsFirstFailure, complex_plan}
use Rattle.sf_object.specs.Faults.{IsFirstFault, map_plan}
use Rattle.sf_object.specs.ResolutionPlans.{resolution_plan}
use Rattle.sf_resolve.specs.ResolutionLaws.{AreFirstSteps}
use Rattle.sf_script.specs.declared.checked.Checked.TheVariants.{Opens, Enters, Limits, Defines, Maps, Chains, Lets, Asks, Shows, Basis, Syz, Member, Lift, Resolves}
use Rattle.sf_script.specs.declared.checked.Checked.{Checked}
use Rattle.sf_script.specs.declared.checked.CheckedQuery.TheVariants.{Kernel, Image, Coker}
use Rattle.sf_script.specs.declared.checked.CheckedQuery.{CheckedQuery}

-- what is found: nothing that isn't given already; the fault of a map or of a complex; a presented module; a matrix; yes or no; the
-- coefficients, or that there are none; some steps
abbrev pub Found : Checked → Type 0
Found Opens = Unit {0}
Found (Enters ring) = Unit {0}
Found (Limits limit) = Unit {0}
Found (Defines name m) = Unit {0}
Found (Maps name f) = Option ℕ
Found (Chains name c) = Option ℕ
Found (Lets name q) = Presentation
Found (Asks q) = Presentation
Found (Shows what) = Unit {0}
Found (Basis m) = Matrix
Found (Syz m) = Matrix
Found (Member m v) = Bool
Found (Lift m v) = Option Vector
Found (Resolves m k) = List Matrix

-- one look at the relations, then what the vector leaves
unfoldable pub membership_plan : Matrix → Vector → Plan Bool
membership_plan m v = look m (λ elements. ask (rest m v) (λ left. answer (is_zero left.0)))

unfoldable pub lift_plan : Matrix → Vector → Plan (Option Vector)
lift_plan m v =
    look m (λ elements. ask (rest m v) (λ left. answer (if is_zero left.0 then Some left.1 else None)))

-- the map of which a query asks
abbrev pub map_of : CheckedQuery → Map
map_of (Kernel f) = f
map_of (Image f) = f
map_of (Coker f) = f

abbrev pub query_plan : CheckedQuery → Plan Presentation
query_plan (Kernel f) = kernel_plan f
query_plan (Image f) = image_plan f
query_plan (Coker f) = cokernel_plan f

-- the working list of each
abbrev pub plan_of : (c : Checked) → Plan (Found c)
plan_of Opens = answer tt
plan_of (Enters ring) = answer tt
plan_of (Limits limit) = answer tt
plan_of (Defines name m) = answer tt
plan_of (Maps name f) = map_plan f
plan_of (Chains name c) = complex_plan c
plan_of (Lets name q) = query_plan q
plan_of (Asks q) = query_plan q
plan_of (Shows what) = answer tt
plan_of (Basis m) = basis_plan m
plan_of (Syz m) = syzygies_plan m
plan_of (Member m v) = membership_plan m v
plan_of (Lift m v) = lift_plan m v
plan_of (Resolves m k) = resolution_plan m k

-- there is a working list: these lines are noted even where memory is wanting for them
abbrev pub has_list : Checked → Bool
has_list Opens = false
has_list (Enters ring) = false
has_list (Limits limit) = false
has_list (Defines name m) = false
has_list (Maps name f) = true
has_list (Chains name c) = true
has_list (Lets name q) = true
has_list (Asks q) = true
has_list (Shows what) = false
has_list (Basis m) = true
has_list (Syz m) = true
has_list (Member m v) = true
has_list (Lift m v) = true
has_list (Resolves m k) = true

abbrev pub IsOf : CheckedQuery → Presentation → Type 0
IsOf (Kernel f) p = IsKernelOf f p
IsOf (Image f) p = IsImageOf f p
IsOf (Coker f) p = IsCokernelOf f p

-- what each answer means. No plan is named here.
abbrev pub Means : (c : Checked) → Found c → Type 0
Means Opens a = Unit {0}
Means (Enters ring) a = Unit {0}
Means (Limits limit) a = Unit {0}
Means (Defines name m) a = Unit {0}
Means (Maps name f) found = IsFirstFault f found
Means (Chains name c) found = IsFirstFailure c found
Means (Lets name q) p = IsOf q p
Means (Asks q) p = IsOf q p
Means (Shows what) a = Unit {0}
Means (Basis m) b = IsBasisMatrix m b
Means (Syz m) b = IsSyzygyMatrix m b
Means (Member m v) inside = IsTrue inside ↔ InSpan m v
Means (Lift m v) None = InSpan m v → ⊥
Means (Lift m v) (Some c) = IsLift m v c
Means (Resolves m k) steps = AreFirstSteps m k steps
