-- Where the steps that the plan answers end: past the variables they have no row.
use Rattle.std.proofs.Common.{◌≡◌, ℕ, zero, suc, ◌≤◌, List, [], drop, Ok, sym, ◌∙◌, ap, subst}
use Rattle.std.proofs.Math.Seq.{drop-nil}
use Rattle.std.specs.List.{AllByRecursion}
use Rattle.sf_algebra.specs.Matrices.{Matrix}
use Rattle.sf_algebra.specs.Monomials.{VARIABLES}
use Rattle.sf_hilbert.proofs.Exactness.Bound.{ends_after_variables}
use Rattle.sf_matrix.specs.Runs.{Run}
use Rattle.sf_object.specs.ResolutionPlans.{resolution_plan}
use Rattle.sf_object.proofs.ResolutionRuns.{no_step}
use Rattle.sf_variables.specs.Variables.{IsMatrixInVariables}
use Rattle.sf_resolve.proofs.StepAnswers.{resolution_is, resolved_matrix}

abbrev pub HasNoRows : Matrix → Type 0
HasNoRows step = step.rows ≡ []

pub ends_after : (n : ℕ) → 1 ≤ n → n ≤ VARIABLES → (limit : ℕ) (relations : Matrix) (k : ℕ) (looked steps : List Matrix)
    → IsMatrixInVariables n relations → Run limit (resolution_plan relations k) looked (Ok steps)
    → AllByRecursion HasNoRows (drop n steps)
ends_after n least greatest limit relations zero looked steps inside run =
    subst (AllByRecursion HasNoRows) (sym (ap (drop n) (no_step limit relations looked steps run) ∙ drop-nil n)) tt
ends_after n least greatest limit relations (suc k) looked steps inside run =
    let over = resolved_matrix limit relations k looked steps run in
    ends_after_variables n least greatest relations over.field over.matrix inside steps
    (resolution_is limit relations (suc k) looked steps run)
