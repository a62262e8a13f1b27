-- What a call over a table has met of the plan of first blocks, once it has looked at the syzygies of the stack.
use Rattle.std.proofs.Common.{◌≡◌, Err, Ok, refl, ◌∙◌, subst}
use Rattle.sf_algebra.specs.Matrices.{Matrix, row_degrees}
use Rattle.sf_algebra.specs.MatrixOperations.{stacked}
use Rattle.sf_algebra.proofs.GradedMatrices.Stacks.{row_degrees-stacked}
use Rattle.sf_matrix.specs.declared.basis.BaseFault.TheVariants.{Memory}
use Rattle.sf_matrix.specs.declared.basis.BaseFault.{BaseFault}
use Rattle.sf_matrix.specs.Meets.{Meets}
use Rattle.sf_matrix.specs.Plans.{Plan, answer, bind}
use Rattle.sf_matrix.specs.Tables.{Table}
use Rattle.sf_matrix.proofs.Plans.Rules.{meets_answer, meets_fails, meets_stops, meets_then}
use Rattle.sf_genmor.specs.LookPlans.{BeginWith, blocks_plan, first_blocks, syzygies_plan}
use Rattle.sf_genmor.proofs.LookAnswers.{syzygies_is}

-- a look at syzygies, and then their first blocks
abbrev blocks_after : Matrix → Matrix → Plan Matrix
blocks_after a s = answer (first_blocks a s.rows)

blocks_plan-bind : (a b : Matrix) → bind (syzygies_plan (stacked a b)) (blocks_after a) ≡ blocks_plan a b
unfolding syzygies_plan blocks_plan
blocks_plan-bind a b = refl

module _ {t u : Table} (a b stack : Matrix) (same : stack ≡ stacked a b) where
  pub blocks_failed : {fault : BaseFault} → Meets t (syzygies_plan stack) (Err fault) u → Meets t (blocks_plan a b) (Err fault) u
  blocks_failed {fault} h =
      subst (λ plan. Meets t plan (Err fault) u) (blocks_plan-bind a b)
      (meets_fails (blocks_after a) (subst (λ m. Meets t (syzygies_plan m) (Err fault) u) same h))

  module _ {s : Matrix} (h : Meets t (syzygies_plan stack) (Ok s) u) where
    here : Meets t (syzygies_plan (stacked a b)) (Ok s) u
    here = subst (λ m. Meets t (syzygies_plan m) (Ok s) u) same h

    pub blocks_cut : Meets t (blocks_plan a b) (Err Memory) u
    blocks_cut =
        subst (λ plan. Meets t plan (Err Memory) u) (blocks_plan-bind a b) (meets_stops (blocks_after a) here)

    pub blocks_found : {r : Matrix} → r ≡ first_blocks a s.rows → Meets t (blocks_plan a b) (Ok r) u
    blocks_found {r} e =
        subst (λ plan. Meets t plan (Ok r) u) (blocks_plan-bind a b) (meets_then (blocks_after a) here (meets_answer e))

    -- what first blocks need of the syzygies
    pub blocks_ring : s.ring ≡ a.ring
    blocks_ring = (syzygies_is t.limit (stacked a b) here.looked s here.run).ring

    pub blocks_target : BeginWith (row_degrees a) s.target
    blocks_target = (
      row_degrees b,
      (syzygies_is t.limit (stacked a b) here.looked s here.run).target ∙ row_degrees-stacked a b,
    )
