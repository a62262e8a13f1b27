-- What `image` and `cokernel` have met of their plans, at each of their exits, and that what they present may be presented.
use Rattle.std.proofs.Common.{◌≡◌, Ok, Err, Result, sym, ◌∙◌, ap, subst}
use Rattle.sf_algebra.specs.Matrices.{Matrix}
use Rattle.sf_algebra.specs.MatrixOperations.{stacked}
use Rattle.sf_algebra.proofs.Monomials.Weights.{field_ring}
use Rattle.sf_matrix.specs.declared.basis.BaseFault.{BaseFault}
use Rattle.sf_matrix.specs.Meets.{Meets}
use Rattle.sf_matrix.specs.Plans.{Plan, bind}
use Rattle.sf_matrix.specs.Runs.{Run}
use Rattle.sf_matrix.specs.Tables.{Table}
use Rattle.sf_matrix.proofs.Plans.Rules.{meets_fails, meets_then}
use Rattle.sf_object.specs.declared.map.Map.{Map}
use Rattle.sf_object.specs.Faults.{IsBetween}
use Rattle.sf_genmor.specs.declared.presentation.Presentation.{Presentation}
use Rattle.sf_genmor.specs.LookPlans.{basis_plan}
use Rattle.sf_genmor.specs.PresentationPlans.{IsPresentable, present_plan}
use Rattle.sf_genmor.specs.QuotientPlans.{quotient_plan}
use Rattle.sf_genmor.proofs.LookAnswers.{basis_look}
use Rattle.sf_module.specs.ModulePlans.{cokernel_plan, image_plan, images_and_relations}
use Rattle.sf_genmor.proofs.SamePresentations.{InSpan-behind}
use Rattle.sf_genmor.proofs.Presentable.{bases_presentable}

-- what comes behind the looks of each plan
abbrev image_rest : Map → Matrix → Plan Presentation
image_rest f whole = bind (basis_plan f.target) (λ base. present_plan whole base)

-- the rows that code has stacked
rows_are : (f : Map) (rows a : Matrix) → rows ≡ stacked f.matrix a → a ≡ f.target → rows ≡ images_and_relations f
rows_are f rows a same_rows same_target = same_rows ∙ ap (stacked f.matrix) same_target

module _ {t : Table} (f : Map) {rows a : Matrix} (same_rows : rows ≡ stacked f.matrix a) (same_target : a ≡ f.target) where
  rows_at : {u : Table} {r : Result Matrix BaseFault} → Meets t (basis_plan rows) r u
      → Meets t (basis_plan (images_and_relations f)) r u
  rows_at {u} {r} h = subst (λ m. Meets t (basis_plan m) r u) (rows_are f rows a same_rows same_target) h

  pub image_fails : {u : Table} {fault : BaseFault} → Meets t (basis_plan rows) (Err fault) u → Meets t (image_plan f) (Err fault) u
  unfolding image_plan
  image_fails h = meets_fails (image_rest f) (rows_at h)

  pub cokernel_found : {u : Table} {r : Result Presentation BaseFault} → Meets t (quotient_plan rows) r u
      → Meets t (cokernel_plan f) r u
  unfolding cokernel_plan
  cokernel_found {u} {r} h = subst (λ m. Meets t (quotient_plan m) r u) (rows_are f rows a same_rows same_target) h

  module _ {u : Table} {whole : Matrix} (h : Meets t (basis_plan rows) (Ok whole) u) where
    image_goes : {v : Table} {r : Result Presentation BaseFault} → Meets u (image_rest f whole) r v → Meets t (image_plan f) r v
    unfolding image_plan
    image_goes k = meets_then (image_rest f) (rows_at h) k

    module _ {v : Table} where
      target_at : {r : Result Matrix BaseFault} → Meets u (basis_plan a) r v → Meets u (basis_plan f.target) r v
      target_at {r} k = subst (λ m. Meets u (basis_plan m) r v) same_target k

      pub image_base_fails : {fault : BaseFault} → Meets u (basis_plan a) (Err fault) v → Meets t (image_plan f) (Err fault) v
      image_base_fails k = image_goes (meets_fails (present_plan whole) (target_at k))

      module _ {base : Matrix} (k : Meets u (basis_plan a) (Ok base) v) where
        pub image_presentable : IsBetween f → IsPresentable v.limit whole base
        image_presentable between =
            let first = rows_at h in
            let second = target_at k in
            let stack = basis_look t.limit (images_and_relations f) first.looked whole first.run in
            bases_presentable v.limit (images_and_relations f) f.target (sym between.target_ring) (sym between.target_degrees)
            (λ x inside. InSpan-behind f.matrix f.target (field_ring stack.1.field) between.target_ring x inside)
            first.looked second.looked whole base
            (subst (λ limit. Run limit (basis_plan (images_and_relations f)) first.looked (Ok whole))
            (sym (second.grown.limit ∙ first.grown.limit)) first.run)
            (subst (λ limit. Run limit (basis_plan f.target) second.looked (Ok base)) (sym second.grown.limit) second.run)

        pub image_found : {w : Table} {r : Result Presentation BaseFault} → Meets v (present_plan whole base) r w
            → Meets t (image_plan f) r w
        image_found l = image_goes (meets_then (present_plan whole) (target_at k) l)
