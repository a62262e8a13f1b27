-- What `homology` and `kernel` have met of their plans, at each of their exits, and that what they present may be presented.
use Rattle.std.proofs.Common.{◌≡◌, Ok, Err, Result, sym, ◌∙◌, subst, List, ℤ}
use Rattle.sf_algebra.specs.Matrices.{Matrix, IsMatrix}
use Rattle.sf_algebra.specs.Rings.{Ring, IsOverField, IsRing}
use Rattle.sf_algebra.specs.Vectors.{Vector, IsVector}
use Rattle.sf_algebra.proofs.Basics.Lists.{AllByRecursion-append, AllByRecursion-back, AllByRecursion-front}
use Rattle.sf_algebra.proofs.Monomials.Weights.{field_ring}
use Rattle.sf_groebner.specs.Homology.{ComplexPlace, IsCycle}
use Rattle.sf_groebner.specs.Spans.{InSpan, combined}
use Rattle.sf_groebner.proofs.Spanning.Spans.{span_module}
use Rattle.sf_matrix.specs.declared.basis.BaseFault.TheVariants.{Memory}
use Rattle.sf_matrix.specs.declared.basis.BaseFault.{BaseFault}
use Rattle.sf_matrix.specs.Meets.{Meets}
use Rattle.sf_matrix.specs.Plans.{Plan, bind}
use Rattle.sf_matrix.specs.Runs.{Run}
use Rattle.sf_matrix.specs.Tables.{Table}
use Rattle.sf_matrix.proofs.Plans.Rules.{meets_fails, meets_stops, meets_then}
use Rattle.sf_presented.proofs.RowMaps.{sends-rows, sends-span}
use Rattle.sf_object.specs.declared.map.Map.{Map}
use Rattle.sf_object.specs.Faults.{IsBetween}
use Rattle.sf_genmor.specs.declared.presentation.Presentation.{Presentation}
use Rattle.sf_genmor.specs.LookPlans.{basis_plan, blocks_plan}
use Rattle.sf_genmor.specs.PresentationPlans.{IsPresentable, present_plan}
use Rattle.sf_genmor.proofs.LookAnswers.{IsMatrix-base, basis_look, blocks_look}
use Rattle.sf_module.specs.HomologyPlans.{HasMeetingMaps, IsComplexAt, boundaries_of, homology_plan}
use Rattle.sf_module.specs.ModulePlans.{IsWellDefined, kernel_plan}
use Rattle.sf_module.proofs.ModuleAnswers.{kernel-homology, kernel_meets, kernel_place}
use Rattle.sf_genmor.proofs.Presentable.{blocks_presentable}

-- at a place of a complex the maps meet
pub complex_meets : (place : ComplexPlace) → IsComplexAt place → HasMeetingMaps place
complex_meets place h = record {
  arriving_ring = h.arriving_ring;
  out_ring = h.out_map.source_ring;
  beyond_ring = h.out_map.target_ring;
  arriving_target = h.arriving_target;
  out_degrees = h.out_map.source_degrees;
  out_target = h.out_map.target_degrees;
}

-- and a boundary is a cycle, since the rows that arrive and the relations are sent into the relations beyond
boundary-cycle : (place : ComplexPlace) → IsComplexAt place → IsOverField place.arriving.ring → IsMatrix (boundaries_of place)
    → IsMatrix place.beyond → (v : Vector) → InSpan (boundaries_of place) v → IsCycle place.out place.beyond v
boundary-cycle place h field matrix beyond v inside =
    let out_arriving : place.out.ring ≡ place.arriving.ring = h.out_map.source_ring ∙ sym h.arriving_ring in
    let here : Matrix = record { ring = place.arriving.ring; target = place.arriving.target; rows = place.here.rows } in
    let same_here : here ≡ place.here =
    λ i. record { ring = h.arriving_ring i; target = h.arriving_target i; rows = place.here.rows } in
    let out_field : IsOverField place.out.ring = subst IsOverField (sym out_arriving) field in
    let positive : IsRing place.out.ring = field_ring out_field in
    let P = λ (w : Vector). InSpan place.beyond (combined place.out w) in
    let arriving_rows =
    sends-rows place.arriving place.beyond place.out positive out_arriving h.out_map.target_ring out_field.prime.above_one
    (AllByRecursion-front (IsVector place.arriving.ring place.arriving.target) place.arriving.rows place.here.rows matrix)
    h.square in
    let here_rows =
    sends-rows here place.beyond place.out positive out_arriving h.out_map.target_ring out_field.prime.above_one
    (AllByRecursion-back (IsVector place.arriving.ring place.arriving.target) place.arriving.rows place.here.rows matrix)
    (λ w k. h.out_map.sends w (subst (λ (m : Matrix). InSpan m w) same_here k)) in
    let target : (boundaries_of place).target ≡ _ = h.arriving_target ∙ sym h.out_map.source_degrees in
    record {
      coefficients =
          subst (λ (x : Ring × List ℤ). IsVector x.0 x.1 v) (λ i. (sym out_arriving i, target i))
          ((span_module (boundaries_of place) (field_ring field) matrix).vectors v inside);
      inside =
          sends-span (boundaries_of place) place.beyond place.out positive out_arriving h.out_map.target_ring beyond
          (AllByRecursion-append P place.arriving.rows place.here.rows arriving_rows here_rows) v inside;
    }

-- what comes behind the first look
abbrev homology_rest : ComplexPlace → Matrix → Plan Presentation
homology_rest place cycles = bind (basis_plan (boundaries_of place)) (λ boundaries. present_plan cycles boundaries)

-- the relations beyond, and the rows that arrive with the relations behind them, as code reads them
module _ {t u : Table} (place : ComplexPlace) {beyond : Matrix} (same_beyond : beyond ≡ place.beyond) where
  cycles_at : {r : Result Matrix BaseFault} → Meets t (blocks_plan place.out beyond) r u
      → Meets t (blocks_plan place.out place.beyond) r u
  cycles_at {r} h = subst (λ m. Meets t (blocks_plan place.out m) r u) same_beyond h

  pub homology_fails : {fault : BaseFault} → Meets t (blocks_plan place.out beyond) (Err fault) u
      → Meets t (homology_plan place) (Err fault) u
  unfolding homology_plan
  homology_fails h = meets_fails (homology_rest place) (cycles_at h)

  module _ {cycles : Matrix} (h : Meets t (blocks_plan place.out beyond) (Ok cycles) u) where
    homology_goes : {v : Table} {r : Result Presentation BaseFault} → Meets u (homology_rest place cycles) r v
        → Meets t (homology_plan place) r v
    unfolding homology_plan
    homology_goes k = meets_then (homology_rest place) (cycles_at h) k

    -- memory may be wanting for the rows
    pub homology_cut : Meets t (homology_plan place) (Err Memory) u
    unfolding homology_plan
    homology_cut = meets_stops (homology_rest place) (cycles_at h)

    module _ {rows : Matrix} (same_rows : rows ≡ boundaries_of place) {v : Table} where
      rows_at : {r : Result Matrix BaseFault} → Meets u (basis_plan rows) r v → Meets u (basis_plan (boundaries_of place)) r v
      rows_at {r} k = subst (λ m. Meets u (basis_plan m) r v) same_rows k

      pub homology_base_fails : {fault : BaseFault} → Meets u (basis_plan rows) (Err fault) v
          → Meets t (homology_plan place) (Err fault) v
      homology_base_fails k = homology_goes (meets_fails (present_plan cycles) (rows_at k))

      module _ {boundaries : Matrix} (k : Meets u (basis_plan rows) (Ok boundaries) v) where
        presentable_within : HasMeetingMaps place
            → (IsOverField place.arriving.ring → IsMatrix (boundaries_of place) → IsMatrix place.beyond → (x : Vector)
            → InSpan (boundaries_of place) x → IsCycle place.out place.beyond x)
            → IsPresentable v.limit cycles boundaries
        presentable_within meets within =
            let first = cycles_at h in
            let second = rows_at k in
            let stack = blocks_look t.limit place.out place.beyond first.looked cycles first.run in
            let others = basis_look u.limit (boundaries_of place) second.looked boundaries second.run in
            blocks_presentable v.limit place.out place.beyond (boundaries_of place) meets.beyond_ring meets.out_target
            (meets.arriving_ring ∙ sym meets.out_ring) (meets.arriving_target ∙ sym meets.out_degrees)
            (within others.1.field others.1.matrix
            (IsMatrix-base place.out place.beyond meets.beyond_ring meets.out_target stack.1.matrix))
            first.looked second.looked cycles boundaries
            (subst (λ limit. Run limit (blocks_plan place.out place.beyond) first.looked (Ok cycles))
            (sym (second.grown.limit ∙ first.grown.limit)) first.run)
            (subst (λ limit. Run limit (basis_plan (boundaries_of place)) second.looked (Ok boundaries)) (sym second.grown.limit)
            second.run)

        pub homology_presentable : IsComplexAt place → IsPresentable v.limit cycles boundaries
        homology_presentable complex = presentable_within (complex_meets place complex) (boundary-cycle place complex)

        pub homology_found : {w : Table} {r : Result Presentation BaseFault} → Meets v (present_plan cycles boundaries) r w
            → Meets t (homology_plan place) r w
        homology_found l = homology_goes (meets_then (present_plan cycles) (rows_at k) l)

-- a kernel is the homology where nothing arrives
map_between : (f : Map) → IsWellDefined f → IsBetween f
map_between f h = record {
  source_ring = h.source_ring;
  target_ring = h.target_ring;
  source_degrees = h.source_degrees;
  target_degrees = h.target_degrees;
}

as_kernel : (f : Map) → {t u : Table} {r : Result Presentation BaseFault} → Meets t (homology_plan (kernel_place f)) r u
    → Meets t (kernel_plan f) r u
as_kernel f {t} {u} {r} h = subst (λ plan. Meets t plan r u) (kernel-homology f) h

module _ {t u : Table} (f : Map) {a : Matrix} (same_target : a ≡ f.target) where
  pub kernel_fails : {fault : BaseFault} → Meets t (blocks_plan f.matrix a) (Err fault) u → Meets t (kernel_plan f) (Err fault) u
  kernel_fails h = as_kernel f (homology_fails (kernel_place f) same_target h)

  module _ {cycles : Matrix} (h : Meets t (blocks_plan f.matrix a) (Ok cycles) u) {b : Matrix} (same_source : b ≡ f.source)
      {v : Table} where
    pub kernel_base_fails : {fault : BaseFault} → Meets u (basis_plan b) (Err fault) v → Meets t (kernel_plan f) (Err fault) v
    kernel_base_fails k = as_kernel f (homology_base_fails (kernel_place f) same_target h same_source k)

    module _ {base : Matrix} (k : Meets u (basis_plan b) (Ok base) v) where
      -- the map sends relations into relations
      pub kernel_presentable : IsWellDefined f → IsPresentable v.limit cycles base
      kernel_presentable map =
          presentable_within (kernel_place f) same_target h same_source k (kernel_meets f (map_between f map))
          (λ field matrix beyond x inside. record {
            coefficients =
                subst (λ (y : Ring × List ℤ). IsVector y.0 y.1 x) (λ i. (sym map.source_ring i, sym map.source_degrees i))
                ((span_module f.source (field_ring field) matrix).vectors x inside);
            inside = map.sends x inside;
          })

      pub kernel_found : {w : Table} {r : Result Presentation BaseFault} → Meets v (present_plan cycles base) r w
          → Meets t (kernel_plan f) r w
      kernel_found l = as_kernel f (homology_found (kernel_place f) same_target h same_source k l)
