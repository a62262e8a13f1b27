-- A module with a reduced basis has a canonical resolution modulo a span, and modulo 0.
use Rattle.std.proofs.Common.{◌≡◌, ◌<◌, ℕ, zero, suc, List, refl, sym, subst, ℤ}
use Rattle.sf_algebra.specs.Matrices.{Matrix, IsMatrix}
use Rattle.sf_algebra.specs.Rings.{Ring, IsOverField}
use Rattle.sf_algebra.specs.Vectors.{Vector, IsVector}
use Rattle.sf_algebra.proofs.Monomials.Weights.{field_ring}
use Rattle.sf_groebner.specs.Presentations.{IsPresentation, IsZero}
use Rattle.sf_groebner.specs.Spans.{InSpan}
use Rattle.sf_groebner.proofs.Constructions.PresentationExistence.{HasBasis, presentation_exists}
use Rattle.sf_groebner.proofs.Uniqueness.PresentedModules.{IsMatrix-relations, IsPresentation-same}
use Rattle.sf_homotopy.specs.Exactness.{from_nothing}
use Rattle.sf_bidual.specs.CartanEilenberg.{IsResolutionOf}
use Rattle.sf_bidual.proofs.BidualSpots.FreeMaps.{no_rows-span, no_rows-zero}
use Rattle.sf_bidual.proofs.Existing.Steps.{IsGood, all_steps, all_steps-first, all_steps-next}

module _ (ring : Ring) (prime : IsOverField ring) (target : List ℤ) (N : Vector → Type 0)
    (vectors : (v : Vector) → N v → IsVector ring target v) (basis : HasBasis ring.weights N) where
  module _ (B : Vector → Type 0) (g r : Matrix) (p : IsPresentation ring target N B g r) where
    good : IsGood r
    good = record {
      prime = subst IsOverField (sym p.relations_ring) prime;
      matrix = IsMatrix-relations ring target N B g r p;
    }

    abbrev steps : ℕ → Matrix
    steps zero = g
    steps (suc j) = all_steps r good j

    pub resolution_from : (steps : ℕ → Matrix) × IsResolutionOf ring target N B steps
    resolution_from = (
      steps,
      record {
        relations = r;
        presentation = p;
        first = all_steps-first r good;
        next = all_steps-next r good;
      },
    )

  pub resolution_modulo : (base : Matrix) → base.ring ≡ ring → base.target ≡ target → IsMatrix base
      → (steps : ℕ → Matrix) × IsResolutionOf ring target N (InSpan base) steps
  resolution_modulo base rings targets matrix =
      let p = presentation_exists ring prime target N vectors basis base rings targets matrix in
      resolution_from (InSpan base) p.0 p.1 p.2

  pub resolution_modulo_zero : (steps : ℕ → Matrix) × IsResolutionOf ring target N IsZero steps
  resolution_modulo_zero =
      let base = from_nothing ring target in
      let positive : 0 < ring.modulus = (field_ring prime).modulus in
      let p = presentation_exists ring prime target N vectors basis base refl refl tt in
      resolution_from IsZero p.0 p.1
      (IsPresentation-same ring target N (InSpan base) p.0 p.1 p.2 N IsZero (λ v k. k) (λ v k. k)
      (no_rows-zero ring positive target) (no_rows-span ring positive target))
