-- What a call over a table has met of the plan of a task, at each of its exits.
use Rattle.std.proofs.Common.{◌≡◌, ◌↔◌, ℕ, [], Bool, if◌then◌else◌, Option, Some, None, Ok, Err, sym, ap}
use Rattle.std.specs.Prelude.{IsTrue}
use Rattle.sf_algebra.specs.Matrices.{Matrix}
use Rattle.sf_algebra.specs.Vectors.{Vector, IsVector}
use Rattle.sf_groebner.specs.Reductions.{IsReduction}
use Rattle.sf_matrix.specs.Tables.{Table}
use Rattle.sf_matrix.specs.declared.basis.BaseFault.TheVariants.{Memory}
use Rattle.sf_matrix.specs.declared.basis.BaseFault.{BaseFault}
use Rattle.sf_matrix.specs.Meets.{Meets, Looked}
use Rattle.sf_matrix.proofs.Plans.Rules.{asks_rest, look_cut, look_fails, look_then, meets_answer}
use Rattle.sf_matrix.proofs.Zeros.{is_zero-tests}
use Rattle.sf_session.specs.Tasks.{membership_plan, lift_plan}
use Rattle.sf_matrix.specs.Questions.{is_zero}
use Rattle.sf_session.proofs.TaskAnswers.{same_told}

module _ {t u : Table} {m : Matrix} where
  module _ (v : Vector) where
    pub membership_failed : {fault : BaseFault} → Looked t m (Err fault) u → Meets t (membership_plan m v) (Err fault) u
    unfolding membership_plan
    membership_failed h = look_fails h

    pub membership_cut : {o : Option ℕ} → Looked t m (Ok o) u → Meets t (membership_plan m v) (Err Memory) u
    unfolding membership_plan
    membership_cut h = look_cut h

    pub membership_found : {o : Option ℕ} {w c : Vector} {empty : Bool} → IsVector m.ring m.target v → Looked t m (Ok o) u
        → IsReduction m v w c → IsTrue empty ↔ (w.terms ≡ []) → Meets t (membership_plan m v) (Ok empty) u
    unfolding membership_plan
    membership_found {w = w} {empty = empty} vector h reduction tells =
        look_then h (λ elements. asks_rest h vector reduction
        (meets_answer (sym (same_told (w.terms ≡ []) empty (is_zero w) tells (is_zero-tests w.terms)))))

    pub lift_failed : {fault : BaseFault} → Looked t m (Err fault) u → Meets t (lift_plan m v) (Err fault) u
    unfolding lift_plan
    lift_failed h = look_fails h

    pub lift_cut : {o : Option ℕ} → Looked t m (Ok o) u → Meets t (lift_plan m v) (Err Memory) u
    unfolding lift_plan
    lift_cut h = look_cut h

    pub lift_found : {o : Option ℕ} {w c : Vector} (empty : Bool) → IsVector m.ring m.target v → Looked t m (Ok o) u
        → IsReduction m v w c → IsTrue empty ↔ (w.terms ≡ [])
        → Meets t (lift_plan m v) (Ok (if empty then Some c else None)) u
    unfolding lift_plan
    lift_found {w = w} {c = c} empty vector h reduction tells =
        look_then h (λ elements. asks_rest h vector reduction
        (meets_answer
        (ap (λ (zero : Bool). if zero then Some c else None) (sym (same_told (w.terms ≡ []) empty (is_zero w) tells (is_zero-tests w.terms))))))
