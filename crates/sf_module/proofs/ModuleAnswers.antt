-- The plans of kernels, images and cokernels answer the kernels, images and cokernels of the definitions, and nothing else. A kernel is
-- the homology where nothing arrives.
use Rattle.std.proofs.Common.{◌≡◌, ℕ, List, Ok, refl, sym, ◌∙◌, ap, subst, ℤ}
use Rattle.sf_algebra.specs.Matrices.{Matrix}
use Rattle.sf_algebra.specs.Rings.{Ring}
use Rattle.sf_algebra.specs.Vectors.{IsVector}
use Rattle.sf_algebra.proofs.Basics.Lists.{AllByRecursion-front}
use Rattle.sf_algebra.proofs.Monomials.Weights.{field_ring}
use Rattle.sf_groebner.specs.Homology.{ComplexPlace, IsAny, IsCokernel, IsImage}
use Rattle.sf_groebner.specs.Presentations.{IsPresentation}
use Rattle.sf_groebner.specs.ReducedBases.{IsReducedBasis}
use Rattle.sf_groebner.specs.Spans.{InSpan}
use Rattle.sf_groebner.proofs.Uniqueness.Homology.{unique_image}
use Rattle.sf_matrix.specs.Runs.{Run}
use Rattle.sf_presented.proofs.PresentationMatrices.{IsMatrix-image}
use Rattle.sf_object.specs.declared.map.Map.{Map}
use Rattle.sf_object.specs.Faults.{IsBetween}
use Rattle.sf_genmor.specs.declared.presentation.Presentation.{Presentation}
use Rattle.sf_genmor.specs.LookPlans.{basis_plan}
use Rattle.sf_genmor.specs.PresentationPlans.{without_rows}
use Rattle.sf_genmor.specs.QuotientPlans.{quotient_plan}
use Rattle.sf_genmor.proofs.LookAnswers.{basis_is, basis_look}
use Rattle.sf_genmor.proofs.PresentationDegrees.{presentation_degrees}
use Rattle.sf_genmor.proofs.QuotientAnswers.{quotient_answered, quotient_sound}
use Rattle.sf_module.specs.HomologyPlans.{HasMeetingMaps, homology_plan}
use Rattle.sf_genmor.specs.SoundPresentations.{IsSoundOver}
use Rattle.sf_module.specs.ModulePlans.{IsCokernelOf, IsImageOf, IsKernelOf, cokernel_plan, image_plan, images_and_relations, kernel_plan}
use Rattle.sf_module.proofs.HomologyAnswers.{homology_answered, homology_sound}
use Rattle.sf_genmor.proofs.PresentedAnswers.{HasTwoLooks, presents_modulo, same_presentation, sound_over, two_looks}

-- the place of the source of a map, where nothing arrives
abbrev pub kernel_place : Map → ComplexPlace
kernel_place f = record { arriving = without_rows f.source; here = f.source; out = f.matrix; beyond = f.target }

pub kernel_meets : (f : Map) → IsBetween f → HasMeetingMaps (kernel_place f)
kernel_meets f between = record {
  arriving_ring = refl;
  out_ring = between.source_ring;
  beyond_ring = between.target_ring;
  arriving_target = refl;
  out_degrees = between.source_degrees;
  out_target = between.target_degrees;
}

pub kernel-homology : (f : Map) → homology_plan (kernel_place f) ≡ kernel_plan f
unfolding homology_plan kernel_plan
kernel-homology f = refl

module _ (limit : ℕ) (f : Map) (looked : List Matrix) (p : Presentation) (between : IsBetween f) where
  as_homology : Run limit (kernel_plan f) looked (Ok p) → Run limit (homology_plan (kernel_place f)) looked (Ok p)
  as_homology run = subst (λ plan. Run limit plan looked (Ok p)) (sym (kernel-homology f)) run

  pub kernel_answered : Run limit (kernel_plan f) looked (Ok p) → IsKernelOf f p × ((q : Presentation) → IsKernelOf f q → q ≡ p)
  kernel_answered run =
      let h = homology_answered limit (kernel_place f) looked p (kernel_meets f between) (as_homology run) in (
        record { presents = h.0.presents; reduced = h.0.reduced },
        λ q k. h.1 q (record { presents = k.presents; reduced = k.reduced }),
      )

  pub kernel_sound : Run limit (kernel_plan f) looked (Ok p) → IsSoundOver f.matrix.ring limit p
  kernel_sound run =
      subst (λ ring. IsSoundOver ring limit p) (sym between.source_ring)
      (homology_sound limit (kernel_place f) looked p (kernel_meets f between) (as_homology run))

image_looks : (limit : ℕ) (f : Map) (looked : List Matrix) (p : Presentation) → Run limit (image_plan f) looked (Ok p)
    → HasTwoLooks limit (basis_plan (images_and_relations f)) (basis_plan f.target) p
unfolding image_plan
image_looks limit f looked p run = two_looks limit (basis_plan (images_and_relations f)) (basis_plan f.target) looked p run

pub image_answered : (limit : ℕ) (f : Map) (looked : List Matrix) (p : Presentation) → IsBetween f
    → Run limit (image_plan f) looked (Ok p) → IsImageOf f p × ((q : Presentation) → IsImageOf f q → q ≡ p)
image_answered limit f looked p between run =
    let rows : Matrix = images_and_relations f in
    let r = image_looks limit f looked p run in
    let stack = basis_look limit rows r.first_looked r.n r.first_run in
    let basis = basis_is limit rows r.first_looked r.n r.first_run in
    let target = basis_look limit f.target r.second_looked r.base r.second_run in
    let ring : r.n.ring ≡ f.target.ring = basis.ring ∙ between.target_ring in
    let reduced : IsReducedBasis r.n.ring.weights (InSpan rows) r.n.rows =
    subst (λ (q : Ring). IsReducedBasis q.weights (InSpan rows) r.n.rows) (sym basis.ring) basis.reduced in
    let h =
    presents_modulo limit r.n f.target r.base target.1.field target.1.matrix
    (basis_is limit f.target r.second_looked r.base r.second_run)
    ring (InSpan rows) reduced r.last_looked p r.last_run in
    let presents : IsImage f.target f.matrix p.gens p.rels =
    subst (λ (x : Ring × List ℤ). IsPresentation x.0 x.1 (InSpan rows) (InSpan f.target) p.gens p.rels)
    (λ i. (ring i, (basis.target ∙ between.target_degrees) i)) h.presentation in (
      record { presents = presents; reduced = h.reduced },
      λ q k.
          same_presentation f.target.ring f.target.target (InSpan rows) (InSpan f.target) (field_ring target.1.field) p q presents
          (unique_image f.target f.matrix (field_ring target.1.field) between.target_ring stack.1.matrix target.1.matrix
          q.gens q.rels p.gens p.rels k.presents presents)
          h.reduced k.reduced,
    )

-- a cokernel is the quotient by the images and the relations
as_quotient : (limit : ℕ) (f : Map) (looked : List Matrix) (p : Presentation) → Run limit (cokernel_plan f) looked (Ok p)
    → Run limit (quotient_plan (images_and_relations f)) looked (Ok p)
unfolding cokernel_plan
as_quotient limit f looked p run = run

-- over the ring and the free module of the target
cokernel-quotient : (f : Map) → IsBetween f → (g r : Matrix)
    → IsPresentation f.matrix.ring f.matrix.target (IsAny f.matrix.ring f.matrix.target) (InSpan (images_and_relations f)) g r
    ≡ IsCokernel f.target f.matrix g r
cokernel-quotient f between g r =
    ap (λ (x : Ring × List ℤ). IsPresentation x.0 x.1 (IsAny x.0 x.1) (InSpan (images_and_relations f)) g r)
    (λ i. (between.target_ring i, between.target_degrees i))

pub cokernel_answered : (limit : ℕ) (f : Map) (looked : List Matrix) (p : Presentation) → IsBetween f
    → Run limit (cokernel_plan f) looked (Ok p) → IsCokernelOf f p × ((q : Presentation) → IsCokernelOf f q → q ≡ p)
cokernel_answered limit f looked p between run =
    let h = quotient_answered limit (images_and_relations f) looked p (as_quotient limit f looked p run) in (
      record {
        presents = subst (λ (X : Type 0). X) (cokernel-quotient f between p.gens p.rels) h.0.presents;
        reduced = h.0.reduced;
      },
      λ q k. h.1 q (record {
        presents = subst (λ (X : Type 0). X) (sym (cokernel-quotient f between q.gens q.rels)) k.presents;
        reduced = k.reduced;
      }),
    )

-- what the plans answer is sound: matrices over the ring, of small degrees
module _ (limit : ℕ) (f : Map) (looked : List Matrix) (p : Presentation) (between : IsBetween f) where
  pub image_sound : Run limit (image_plan f) looked (Ok p) → IsSoundOver f.matrix.ring limit p
  image_sound run =
      let rows : Matrix = images_and_relations f in
      let r = image_looks limit f looked p run in
      let whole = basis_is limit rows r.first_looked r.n r.first_run in
      let basis = basis_is limit f.target r.second_looked r.base r.second_run in
      let stack = basis_look limit rows r.first_looked r.n r.first_run in
      let target = basis_look limit f.target r.second_looked r.base r.second_run in
      let presents = (image_answered limit f looked p between run).0.presents in
      sound_over f.matrix.ring limit p f.target.ring f.target.target (InSpan rows) (InSpan f.target) between.target_ring presents
      (IsMatrix-image f.target f.matrix (field_ring target.1.field) between.target_ring between.target_degrees
      (AllByRecursion-front (IsVector f.matrix.ring f.matrix.target) f.matrix.rows f.target.rows stack.1.matrix) target.1.matrix
      p.gens p.rels presents)
      (presentation_degrees limit r.n r.base r.last_looked p
      (basis.ring ∙ sym between.target_ring ∙ sym whole.ring)
      (basis.target ∙ sym between.target_degrees ∙ sym whole.target) r.last_run)

  pub cokernel_sound : Run limit (cokernel_plan f) looked (Ok p) → IsSoundOver f.matrix.ring limit p
  cokernel_sound run = quotient_sound limit (images_and_relations f) looked p (as_quotient limit f looked p run)
