-- For each limit a plan has a run to its end.
use Rattle.std.proofs.Common.{inl, inr, ℕ, List, [], ◌∷◌, Result, Ok, Err}
use Rattle.sf_algebra.specs.Matrices.{Matrix}
use Rattle.sf_groebner.proofs.Constructions.MatrixBases.{small_or_large}
use Rattle.sf_matrix.specs.declared.basis.BaseFault.TheVariants.{Large}
use Rattle.sf_matrix.specs.declared.basis.BaseFault.{BaseFault}
use Rattle.sf_matrix.specs.Plans.{Plan, answer, look, ask}
use Rattle.sf_matrix.specs.Runs.{Run, IsWhole, large, ends, skips, looks, outgrows, refuses, asks, strays}
use Rattle.sf_matrix.proofs.Plans.OneAnswer.{answer_exists}
use Rattle.sf_matrix.proofs.Plans.Decisions.{decide_rowless, decide_fit, decide_sensible}

-- a run to its end
abbrev HasWholeRun : (limit : ℕ) {A : Type 0} → Plan A → Type 0
HasWholeRun limit {A} plan = (looked : List Matrix) × (end : Result A BaseFault) × IsWhole end × Run limit plan looked end

pub run_exists : {A : Type 0} (limit : ℕ) (plan : Plan A) → HasWholeRun limit plan
run_exists limit (answer a) = ([], Ok a, tt, ends)
run_exists limit (look m next) = elim (decide_rowless m) [
  | inl rowless ↦
      let more = run_exists limit (next []) in
      (more.0, more.1, more.2, skips rowless more.3)
  | inr some_row ↦ elim (decide_fit m) [
    | inr unfit ↦ ([], Err (large m), tt, refuses some_row unfit)
    | inl fit ↦ elim (small_or_large m fit.field fit.matrix limit) [
      | inr outgrown ↦ (m ∷ [], Err (large m), tt, outgrows fit outgrown)
      | inl small ↦
          let more = run_exists limit (next small.0) in
          (m ∷ more.0, more.1, more.2, looks small.0 fit small.1 more.3)
    ]
  ]
]
run_exists limit (ask q next) = elim (decide_sensible q) [
  | inr fails ↦ ([], Err (Large 0 0), tt, strays fails)
  | inl sensible ↦
      let found = answer_exists q sensible in
      let more = run_exists limit (next found.0) in
      (more.0, more.1, more.2, asks found.0 sensible found.1 more.3)
]
