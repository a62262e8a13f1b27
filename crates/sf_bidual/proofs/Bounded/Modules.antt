-- Presented modules over n variables have bidual bicomplexes and purity filtrations, and these are one.
use Rattle.std.proofs.Common.{◌≡◌, ◌≤◌, ℕ, zero, suc, sym, subst}
use Rattle.sf_algebra.specs.Matrices.{Matrix, IsMatrix}
use Rattle.sf_algebra.specs.Monomials.{VARIABLES}
use Rattle.sf_algebra.specs.Rings.{IsRing, IsOverField}
use Rattle.sf_algebra.proofs.Monomials.Weights.{field_ring}
use Rattle.sf_groebner.specs.Resolutions.{IsFirstStep, IsNextStep}
use Rattle.sf_groebner.proofs.Uniqueness.Presentations.{unique_first_step, unique_next_step}
use Rattle.sf_variables.specs.Variables.{IsMatrixInVariables}
use Rattle.sf_variables.proofs.Keeping.Matrices.{IsMatrixInVariables-transposed}
use Rattle.sf_bidual.specs.Bidual.{IsBidualOf, dual_maps}
use Rattle.sf_bidual.specs.CartanEilenberg.{CartanEilenberg, IsCartanEilenberg}
use Rattle.sf_bidual.specs.Purity.{IsPurityPart, IsPuritySubmodule}
use Rattle.sf_bidual.proofs.BidualSpots.DualComplexes.{complex_of_steps}
use Rattle.sf_bidual.proofs.Bounded.Resolutions.{no_step_past_variables}
use Rattle.sf_bidual.proofs.Bounded.Steps.{each_step_in_variables}
use Rattle.sf_bidual.proofs.Existing.CartanEilenberg.{cartan_eilenberg_exists}
use Rattle.sf_bidual.proofs.Existing.Steps.{IsGood, all_steps, all_steps-first, all_steps-next}
use Rattle.sf_bidual.proofs.Existing.Uniqueness.{one_resolution}
use Rattle.sf_bidual.proofs.PurityParts.Parts.{purity_parts, purity_submodules}

module _ (n : ℕ) (some : 1 ≤ n) (few : n ≤ VARIABLES) (relations : Matrix) (prime : IsOverField relations.ring)
    (matrix : IsMatrix relations) (keeps : IsMatrixInVariables n relations) where
  pub bidual_of_variables : (steps : ℕ → Matrix) × (x : CartanEilenberg) × IsBidualOf relations n steps x
  bidual_of_variables =
      let good : IsGood relations = record { prime = prime; matrix = matrix } in
      let steps = all_steps relations good in
      let first = all_steps-first relations good in
      let next = all_steps-next relations good in
      let complex = complex_of_steps relations steps prime matrix first next in
      let found = cartan_eilenberg_exists relations.ring (dual_maps steps) prime complex in (
        steps,
        found.0,
        record {
          first = first;
          next = next;
          cartan = found.1;
          ends =
              no_step_past_variables n some few relations.ring prime (dual_maps steps) complex
              (λ i. IsMatrixInVariables-transposed n (steps i)
              (each_step_in_variables n relations prime keeps steps first next i)) found.0 found.1;
        },
      )

  pub purity_filtration : (steps : ℕ → Matrix) × (x : CartanEilenberg) × IsBidualOf relations n steps x
      × ((k : ℕ) → (g : Matrix) × (r : Matrix) × IsPuritySubmodule relations n x k g r)
      × ((p : ℕ) → (g : Matrix) × (r : Matrix) × IsPurityPart relations n x p g r)
  purity_filtration =
      let found = bidual_of_variables in (
        found.0,
        found.1,
        found.2,
        λ k. (purity_submodules relations n found.0 found.1 prime matrix found.2 k).0,
        λ p. (purity_parts relations n found.0 found.1 prime matrix found.2 p).0,
      )

module _ (relations : Matrix) (prime : IsOverField relations.ring) (matrix : IsMatrix relations)
    (steps others : ℕ → Matrix) (first : IsFirstStep relations (steps 0)) (next : (i : ℕ) → IsNextStep (steps i) (steps (suc i)))
    (one : IsFirstStep relations (others 0)) (more : (i : ℕ) → IsNextStep (others i) (others (suc i))) where
  step-ring : (i : ℕ) → IsRing (steps i).ring
  step-ring zero = subst IsRing (sym first.ring) (field_ring prime)
  step-ring (suc i) = subst IsRing (sym (next i).ring) (step-ring i)

  one_step : (i : ℕ) → steps i ≡ others i
  one_step zero = unique_first_step relations (field_ring prime) matrix (steps 0) (others 0) first one
  one_step (suc i) =
      unique_next_step (steps i) (step-ring i) (steps (suc i)) (others (suc i)) (next i)
      (subst (λ m. IsNextStep m (others (suc i))) (sym (one_step i)) (more i))

module _ (n : ℕ) (relations : Matrix) (prime : IsOverField relations.ring) (matrix : IsMatrix relations)
    (steps others : ℕ → Matrix) (x y : CartanEilenberg) (d : IsBidualOf relations n steps x)
    (e : IsBidualOf relations n others y) where
  all_one : steps ≡ others
  all_one = λ i j. one_step relations prime matrix steps others d.first d.next e.first e.next j i

  cartan-same : IsCartanEilenberg relations.ring (dual_maps steps) y
  cartan-same =
      subst (λ s. IsCartanEilenberg relations.ring (dual_maps s) y) (sym all_one) e.cartan

  one_cartan : x ≡ y
  one_cartan =
      let same = one_resolution relations.ring (dual_maps steps) x y prime
      (complex_of_steps relations steps prime matrix d.first d.next) d.cartan cartan-same in
      λ t. record {
        boundaries = λ i j. (same i j).0 t;
        homology = λ i j. (same i j).1 t;
        inner = λ i j. (same i j).2 t;
        outer = λ i j. (same i j).3 t;
      }

  pub one_purity_filtration : (g r h s : Matrix)
      → ((k : ℕ) → IsPuritySubmodule relations n x k g r → IsPuritySubmodule relations n y k h s → (g ≡ h) × (r ≡ s))
      × ((p : ℕ) → IsPurityPart relations n x p g r → IsPurityPart relations n y p h s → (g ≡ h) × (r ≡ s))
  one_purity_filtration g r h s = (
    λ k part other. (purity_submodules relations n steps x prime matrix d k).1 g r h s part
        (subst (λ z. IsPuritySubmodule relations n z k h s) (sym one_cartan) other),
    λ p part other. (purity_parts relations n steps x prime matrix d p).1 g r h s part
        (subst (λ z. IsPurityPart relations n z p h s) (sym one_cartan) other),
  )
