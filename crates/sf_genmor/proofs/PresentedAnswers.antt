-- What plans with two looks and a presentation answer: a presentation modulo a span, of which there is one.
use Rattle.std.proofs.Common.{◌≡◌, ℕ, List, Ok, sym, ◌∙◌, subst, ℤ}
use Rattle.sf_algebra.specs.Matrices.{Matrix, IsMatrix}
use Rattle.sf_algebra.specs.Rings.{Ring, IsRing, IsOverField}
use Rattle.sf_algebra.specs.Vectors.{Vector}
use Rattle.sf_groebner.specs.Presentations.{IsPresentation}
use Rattle.sf_groebner.specs.ReducedBases.{IsReducedBasis}
use Rattle.sf_groebner.specs.Spans.{InSpan}
use Rattle.sf_groebner.proofs.Uniqueness.PresentedModules.{IsMatrix-relations}
use Rattle.sf_matrix.specs.Plans.{Plan, bind}
use Rattle.sf_matrix.specs.Runs.{Run}
use Rattle.sf_matrix.proofs.Plans.Readings.{bind_is}
use Rattle.sf_genmor.specs.declared.presentation.Presentation.{Presentation}
use Rattle.sf_genmor.specs.LookPlans.{IsBasisMatrix}
use Rattle.sf_genmor.specs.PresentationDegrees.{HasSmallDegrees}
use Rattle.sf_genmor.specs.PresentationPlans.{present_plan}
use Rattle.sf_genmor.proofs.LookAnswers.{unique_basis}
use Rattle.sf_genmor.proofs.PresentationAnswers.{presents_module, reduced-relations}
use Rattle.sf_genmor.specs.SoundPresentations.{IsSoundOver}
use Rattle.sf_genmor.proofs.SamePresentations.{IsPresentation-same, basis_span}

-- a presentation of N modulo the span of a basis is one modulo the span of that of which it is the basis
pub record PresentsModulo (ring : Ring) (target : List ℤ) (N : Vector → Type 0) (m : Matrix) (p : Presentation) : Type 0 where
  pub presentation : IsPresentation ring target N (InSpan m) p.gens p.rels
  pub reduced : IsBasisMatrix p.rels p.reduced_rels

module _ (limit : ℕ) (n m base : Matrix) (field : IsOverField m.ring) (matrix : IsMatrix m) (basis : IsBasisMatrix m base)
    (rings : n.ring ≡ m.ring) (N : Vector → Type 0) (reduced : IsReducedBasis n.ring.weights N n.rows) where
  pub presents_modulo : (looked : List Matrix) (p : Presentation) → Run limit (present_plan n base) looked (Ok p)
      → PresentsModulo n.ring n.target N m p
  presents_modulo looked p run =
      let base_ring : base.ring ≡ n.ring = basis.ring ∙ sym rings in
      let h = presents_module limit n base base_ring N reduced looked p run in
      record {
        presentation =
            IsPresentation-same n.ring n.target N (InSpan base) (InSpan m) (λ v. (basis_span m base field matrix basis v).1)
            (λ v. (basis_span m base field matrix basis v).0) p.gens p.rels h.presentation;
        reduced = reduced-relations n base base_ring N p h;
      }

-- presentations from equal parts; the reduced relations are those of the relations
module _ (ring : Ring) (target : List ℤ) (N B : Vector → Type 0) (positive : IsRing ring) (p q : Presentation)
    (h : IsPresentation ring target N B p.gens p.rels) (same : (q.gens ≡ p.gens) × (q.rels ≡ p.rels)) where
  pub same_presentation : IsBasisMatrix p.rels p.reduced_rels → IsBasisMatrix q.rels q.reduced_rels → q ≡ p
  same_presentation b c =
      let reduced : q.reduced_rels ≡ p.reduced_rels =
      unique_basis p.rels (subst (λ r. IsRing r) (sym h.relations_ring) positive)
      (IsMatrix-relations ring target N B p.gens p.rels h)
      p.reduced_rels q.reduced_rels b (subst (λ m. IsBasisMatrix m q.reduced_rels) same.1 c) in
      λ i. record { gens = same.0 i; rels = same.1 i; reduced_rels = reduced i }

-- the looks of a plan with two of them, and the presentation
pub record HasTwoLooks (limit : ℕ) (first : Plan Matrix) (second : Plan Matrix) (p : Presentation) : Type 0 where
  pub n : Matrix
  pub base : Matrix
  pub first_looked : List Matrix
  pub second_looked : List Matrix
  pub last_looked : List Matrix
  pub first_run : Run limit first first_looked (Ok n)
  pub second_run : Run limit second second_looked (Ok base)
  pub last_run : Run limit (present_plan n base) last_looked (Ok p)

pub two_looks : (limit : ℕ) (first second : Plan Matrix) (looked : List Matrix) (p : Presentation)
    → Run limit (bind first (λ n. bind second (λ base. present_plan n base))) looked (Ok p) → HasTwoLooks limit first second p
two_looks limit first second looked p run =
    let a = bind_is limit first (λ n. bind second (λ base. present_plan n base)) looked p run in
    let b = bind_is limit second (λ base. present_plan a.0 base) a.2 p a.4 in
    record {
      n = a.0;
      base = b.0;
      first_looked = a.1;
      second_looked = b.1;
      last_looked = b.2;
      first_run = a.3;
      second_run = b.3;
      last_run = b.4;
    }

-- what a presentation of matrices is, over a ring, where its degrees are small
pub sound_over : (over : Ring) (limit : ℕ) (p : Presentation) (ring : Ring) (target : List ℤ) (N B : Vector → Type 0)
    → over ≡ ring → IsPresentation ring target N B p.gens p.rels → IsMatrix p.gens × IsMatrix p.rels → HasSmallDegrees limit p
    → IsSoundOver over limit p
sound_over over limit p ring target N B same h matrices degrees = record {
  generators = matrices.0;
  relations = matrices.1;
  generators_ring = h.generators_ring ∙ sym same;
  relations_ring = h.relations_ring ∙ sym same;
  relations_target = h.relations_target;
  degrees = degrees;
}
