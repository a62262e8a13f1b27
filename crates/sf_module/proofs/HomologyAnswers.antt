-- The plan of a homology answers the homology of the definitions, and nothing else.
use Rattle.std.proofs.Common.{◌≡◌, ℕ, List, Ok, refl, sym, ◌∙◌, subst, ℤ}
use Rattle.sf_algebra.specs.Matrices.{Matrix, IsMatrix}
use Rattle.sf_algebra.specs.Rings.{Ring, IsOverField}
use Rattle.sf_algebra.specs.Vectors.{IsVector}
use Rattle.sf_algebra.proofs.Monomials.Weights.{field_ring}
use Rattle.sf_groebner.specs.Homology.{ComplexPlace, IsCycle, IsHomology}
use Rattle.sf_groebner.specs.Presentations.{IsPresentation}
use Rattle.sf_groebner.specs.ReducedBases.{IsReducedBasis}
use Rattle.sf_groebner.specs.Spans.{InSpan}
use Rattle.sf_groebner.proofs.Uniqueness.Homology.{unique_homology}
use Rattle.sf_groebner.proofs.Uniqueness.PresentedModules.{IsMatrix-generators, IsMatrix-relations}
use Rattle.sf_matrix.specs.Runs.{Run}
use Rattle.sf_genmor.specs.declared.presentation.Presentation.{Presentation}
use Rattle.sf_genmor.specs.LookPlans.{basis_plan, blocks_plan}
use Rattle.sf_genmor.proofs.LookAnswers.{IsMatrix-base, basis_is, basis_look, blocks_is, blocks_look}
use Rattle.sf_genmor.proofs.PresentationDegrees.{presentation_degrees}
use Rattle.sf_module.specs.HomologyPlans.{HasMeetingMaps, IsHomologyOf, boundaries_of, homology_plan}
use Rattle.sf_genmor.specs.SoundPresentations.{IsSoundOver}
use Rattle.sf_genmor.proofs.PresentedAnswers.{HasTwoLooks, presents_modulo, same_presentation, sound_over, two_looks}

homology_looks : (limit : ℕ) (place : ComplexPlace) (looked : List Matrix) (p : Presentation)
    → Run limit (homology_plan place) looked (Ok p)
    → HasTwoLooks limit (blocks_plan place.out place.beyond) (basis_plan (boundaries_of place)) p
unfolding homology_plan
homology_looks limit place looked p run =
    two_looks limit (blocks_plan place.out place.beyond) (basis_plan (boundaries_of place)) looked p run

-- generators and relations are matrices, since cycles are vectors over the free module of the place
IsMatrix-homology : (place : ComplexPlace) → HasMeetingMaps place → (g r : Matrix) → IsHomology place g r → IsMatrix g × IsMatrix r
IsMatrix-homology place meets g r h =
    let ring = place.here.ring in
    let target = place.here.target in
    let cycle = IsCycle place.out place.beyond in
    let boundary = InSpan (boundaries_of place) in (
      IsMatrix-generators ring target cycle boundary g r h
          (λ v k. subst (λ (x : Ring × List ℤ). IsVector x.0 x.1 v) (λ i. (meets.out_ring i, meets.out_degrees i)) k.coefficients),
      IsMatrix-relations ring target cycle boundary g r h,
    )

module _ (limit : ℕ) (place : ComplexPlace) (looked : List Matrix) (p : Presentation) (meets : HasMeetingMaps place)
    (run : Run limit (homology_plan place) looked (Ok p)) where
  looks : HasTwoLooks limit (blocks_plan place.out place.beyond) (basis_plan (boundaries_of place)) p
  looks = homology_looks limit place looked p run

  pub homology_answered : IsHomologyOf place p × ((q : Presentation) → IsHomologyOf place q → q ≡ p)
  homology_answered =
      let relations = blocks_is limit place.out place.beyond looks.first_looked looks.n meets.beyond_ring looks.first_run in
      let stack = blocks_look limit place.out place.beyond looks.first_looked looks.n looks.first_run in
      let beyond = IsMatrix-base place.out place.beyond meets.beyond_ring meets.out_target stack.1.matrix in
      let rows : Matrix = boundaries_of place in
      let found = basis_look limit rows looks.second_looked looks.base looks.second_run in
      let field : IsOverField place.here.ring = subst IsOverField meets.arriving_ring found.1.field in
      let reduced : IsReducedBasis looks.n.ring.weights (IsCycle place.out place.beyond) looks.n.rows =
      subst (λ (q : Ring). IsReducedBasis q.weights (IsCycle place.out place.beyond) looks.n.rows) (sym relations.ring)
      relations.reduced in
      let ring : looks.n.ring ≡ place.here.ring = relations.ring ∙ meets.out_ring in
      let h =
      presents_modulo limit looks.n rows looks.base found.1.field found.1.matrix
      (basis_is limit rows looks.second_looked looks.base looks.second_run)
      (ring ∙ sym meets.arriving_ring) (IsCycle place.out place.beyond) reduced looks.last_looked p looks.last_run in
      let presents : IsHomology place p.gens p.rels =
      subst (λ (x : Ring × List ℤ). IsPresentation x.0 x.1 (IsCycle place.out place.beyond) (InSpan rows) p.gens p.rels)
      (λ i. (ring i, (relations.target ∙ meets.out_degrees) i)) h.presentation in (
        record { presents = presents; reduced = h.reduced },
        λ q k.
            same_presentation place.here.ring place.here.target (IsCycle place.out place.beyond) (InSpan rows) (field_ring field)
            p q presents
            (unique_homology place (field_ring field) meets.arriving_ring meets.out_ring (sym meets.beyond_ring ∙ meets.out_ring)
            found.1.matrix beyond q.gens q.rels p.gens p.rels k.presents presents)
            h.reduced k.reduced,
      )

  pub homology_sound : IsSoundOver place.here.ring limit p
  homology_sound =
      let relations = blocks_is limit place.out place.beyond looks.first_looked looks.n meets.beyond_ring looks.first_run in
      let rows : Matrix = boundaries_of place in
      let basis = basis_is limit rows looks.second_looked looks.base looks.second_run in
      let presents = homology_answered.0.presents in
      sound_over place.here.ring limit p place.here.ring place.here.target (IsCycle place.out place.beyond) (InSpan rows) refl
      presents (IsMatrix-homology place meets p.gens p.rels presents)
      (presentation_degrees limit looks.n looks.base looks.last_looked p
      (basis.ring ∙ meets.arriving_ring ∙ sym meets.out_ring ∙ sym relations.ring)
      (basis.target ∙ meets.arriving_target ∙ sym meets.out_degrees ∙ sym relations.target) looks.last_run)
