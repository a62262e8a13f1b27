-- What comes of the end of a plan's run.
use Rattle.std.proofs.Common.{◌≡◌, List, Result, Ok, Err, IsErrAnd, refl, sym, ap, ◌∙◌, subst}
use Rattle.std.proofs.lemmas.Result.{err_from_is_err_and}
use Rattle.sf_matrix.specs.Meets.{Meets}
use Rattle.sf_matrix.specs.Tables.{Table}
use Rattle.sf_matrix.specs.declared.basis.BaseFault.{BaseFault}
use Rattle.sf_object.specs.Shelves.{GrewOver, Shelved}
use Rattle.sf_object.proofs.Shelves.{grew_stays}
use Rattle.sf_script.specs.declared.checked.Checked.{Checked}
use Rattle.sf_session.specs.Outcomes.{outcome}
use Rattle.sf_session.specs.Settling.{Settles}
use Rattle.sf_session.specs.Tasks.{Found, plan_of}
use Rattle.sf_session.specs.declared.outcome.Outcome.{Outcome}

module _ (c : Checked) {before after : Table} where
  pub settled : (a : Found c) {out : Outcome} → Meets before (plan_of c) (Ok a) after → out ≡ outcome c a → Settles c before (Ok out) after
  settled a met told = record { end = Ok a; met = met; told = told }

  pub failed : {fault : BaseFault} → Meets before (plan_of c) (Err fault) after → Settles c before (Err fault) after
  failed {fault} met = record { end = Err fault; met = met; told = refl }

  -- a fault that `?` hands on
  pub settles_exit : {result : Result Outcome BaseFault} {fault : BaseFault} → IsErrAnd result (λ e. e ≡ fault)
      → Meets before (plan_of c) (Err fault) after → Settles c before result after
  settles_exit {result} exit met =
      let p = err_from_is_err_and result exit in
      subst (λ r. Settles c before r after) (sym (p.1 ∙ ap Err p.2)) (failed met)

  -- a shelf that isn't asked grew over what the table becomes
  pub grew_settled : {result : Result Outcome BaseFault} (shelf : List Shelved) → Settles c before result after
      → GrewOver shelf before → GrewOver shelf after
  grew_settled shelf h grew = grew_stays shelf h.met grew
