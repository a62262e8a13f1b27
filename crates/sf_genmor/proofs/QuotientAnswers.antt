-- The plan of a quotient of a free module answers the presentation of the definitions, and nothing else.
use Rattle.std.proofs.Common.{◌≡◌, ℕ, List, Ok, refl}
use Rattle.sf_algebra.specs.Matrices.{Matrix, IsMatrix}
use Rattle.sf_algebra.specs.Rings.{IsRing}
use Rattle.sf_algebra.proofs.Monomials.Weights.{field_ring}
use Rattle.sf_groebner.specs.Homology.{IsAny}
use Rattle.sf_groebner.specs.Presentations.{IsPresentation}
use Rattle.sf_groebner.specs.Spans.{InSpan}
use Rattle.sf_groebner.proofs.Uniqueness.Homology.{span_of}
use Rattle.sf_groebner.proofs.Uniqueness.PresentedModules.{IsMatrix-generators, IsMatrix-relations}
use Rattle.sf_groebner.proofs.Uniqueness.Presentations.{any_module, unique_presentation}
use Rattle.sf_groebner.proofs.Uniqueness.UniqueBases.{unique_reduced}
use Rattle.sf_matrix.specs.Runs.{Run}
use Rattle.sf_matrix.proofs.Plans.Readings.{bind_is}
use Rattle.sf_presented.proofs.FreeBases.{reduced-any}
use Rattle.sf_genmor.specs.declared.presentation.Presentation.{Presentation}
use Rattle.sf_genmor.specs.LookPlans.{basis_plan}
use Rattle.sf_genmor.specs.PresentationPlans.{present_plan}
use Rattle.sf_genmor.specs.QuotientPlans.{IsQuotientOf, quotient_plan, units_over}
use Rattle.sf_genmor.specs.SoundPresentations.{IsSoundOver}
use Rattle.sf_genmor.proofs.LookAnswers.{basis_is, basis_look}
use Rattle.sf_genmor.proofs.PresentationDegrees.{presentation_degrees}
use Rattle.sf_genmor.proofs.PresentedAnswers.{presents_modulo, same_presentation, sound_over}

-- all vectors of a free module modulo the span of a matrix have one presentation
unique_quotient : (m : Matrix) → IsRing m.ring → IsMatrix m → (g r h s : Matrix)
    → IsPresentation m.ring m.target (IsAny m.ring m.target) (InSpan m) g r
    → IsPresentation m.ring m.target (IsAny m.ring m.target) (InSpan m) h s → (g ≡ h) × (r ≡ s)
unique_quotient m positive matrix =
    unique_presentation m.ring positive m.target m.target (IsAny m.ring m.target) (InSpan m)
    (unique_reduced m.ring positive m.target (IsAny m.ring m.target) (any_module m.ring positive m.target))
    (span_of m.ring positive m refl matrix)

-- the look and the presentation of a run
module _ (limit : ℕ) (m : Matrix) (looked : List Matrix) (p : Presentation) where
  looks : Run limit (quotient_plan m) looked (Ok p)
      → (base : Matrix) × (first : List Matrix) × (others : List Matrix) × Run limit (basis_plan m) first (Ok base)
      × Run limit (present_plan (units_over m.ring m.target) base) others (Ok p)
  unfolding quotient_plan
  looks run =
      let r = bind_is limit (basis_plan m) (λ base. present_plan (units_over m.ring m.target) base) looked p run in
      (r.0, r.1, r.2, r.3, r.4)

  pub quotient_answered : Run limit (quotient_plan m) looked (Ok p)
      → IsQuotientOf m p × ((q : Presentation) → IsQuotientOf m q → q ≡ p)
  quotient_answered run =
      let r = looks run in
      let found = basis_look limit m r.1 r.0 r.3 in
      let field = found.1.field in
      let positive = field_ring field in
      let h =
      presents_modulo limit (units_over m.ring m.target) m r.0 field found.1.matrix (basis_is limit m r.1 r.0 r.3) refl
      (IsAny m.ring m.target) (reduced-any m.ring positive field.prime.above_one m.target) r.2 p r.4 in (
        record { presents = h.presentation; reduced = h.reduced },
        λ q k.
            same_presentation m.ring m.target (IsAny m.ring m.target) (InSpan m) positive p q h.presentation
            (unique_quotient m positive found.1.matrix q.gens q.rels p.gens p.rels k.presents h.presentation)
            h.reduced k.reduced,
      )

  pub quotient_sound : Run limit (quotient_plan m) looked (Ok p) → IsSoundOver m.ring limit p
  quotient_sound run =
      let r = looks run in
      let basis = basis_is limit m r.1 r.0 r.3 in
      let presents = (quotient_answered run).0.presents in
      sound_over m.ring limit p m.ring m.target (IsAny m.ring m.target) (InSpan m) refl presents (
        IsMatrix-generators m.ring m.target (IsAny m.ring m.target) (InSpan m) p.gens p.rels presents (λ v k. k),
        IsMatrix-relations m.ring m.target (IsAny m.ring m.target) (InSpan m) p.gens p.rels presents,
      )
      (presentation_degrees limit (units_over m.ring m.target) r.0 r.2 p basis.ring basis.target r.4)
