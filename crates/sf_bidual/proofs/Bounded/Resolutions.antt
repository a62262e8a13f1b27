-- Over n variables the canonical resolution of N modulo B has no rows at number n + 1; so no resolution in a
-- Cartan-Eilenberg resolution has a step past n.
use Rattle.std.proofs.Common.{◌≡◌, ◌≤◌, ℕ, zero, suc, List, [], sym, ap, subst, ℤ}
use Rattle.sf_algebra.specs.Matrices.{Matrix, row_degrees}
use Rattle.sf_algebra.specs.Monomials.{VARIABLES}
use Rattle.sf_algebra.specs.Rings.{Ring, IsRing, IsOverField}
use Rattle.sf_algebra.specs.Vectors.{Vector}
use Rattle.sf_algebra.proofs.Monomials.Weights.{field_ring}
use Rattle.sf_groebner.specs.Presentations.{IsZero}
use Rattle.sf_groebner.specs.Spans.{InSpan, IsSyzygy}
use Rattle.sf_groebner.proofs.Uniqueness.PresentedModules.{IsMatrix-relations}
use Rattle.sf_variables.specs.Variables.{IsMatrixInVariables}
use Rattle.sf_variables.proofs.OuterParts.Bases.{HasOuterParts}
use Rattle.sf_variables.proofs.OuterParts.Vectors.{outer_terms}
use Rattle.sf_variables.proofs.Presenting.MatrixBases.{HasBasesInVariables, span_in_variables_of, span_parts_of, syzygies_in_variables}
use Rattle.sf_variables.proofs.Presenting.Presentations.{presentation_in_variables}
use Rattle.sf_bidual.specs.Bidual.{HasNoStepPast}
use Rattle.sf_bidual.specs.CartanEilenberg.{CartanEilenberg, IsCartanEilenberg, IsCochainComplex, IsResolutionOf, arriving}
use Rattle.sf_bidual.proofs.Bounded.Steps.{step_past_variables}
use Rattle.sf_bidual.proofs.Columns.Arriving.{IsTo-arriving}

module _ (n : ℕ) (some : 1 ≤ n) (few : n ≤ VARIABLES) (ring : Ring) (prime : IsOverField ring) where
  positive : IsRing ring
  positive = field_ring prime

  zero_parts : HasOuterParts ring.weights n IsZero
  zero_parts b v none = ap (outer_terms n b) none

  resolution_past : (target : List ℤ) (N B : Vector → Type 0) → HasBasesInVariables ring.weights n N
      → HasOuterParts ring.weights n B → (steps : ℕ → Matrix) → IsResolutionOf ring target N B steps
      → (steps (suc n)).rows ≡ []
  resolution_past target N B bases parts steps h =
      step_past_variables n h.relations (subst IsOverField (sym h.presentation.relations_ring) prime)
      (presentation_in_variables n ring positive target N B bases parts (steps 0) h.relations h.presentation).1
      (λ j. steps (suc j)) h.first h.next some few
      (IsMatrix-relations ring target N B (steps 0) h.relations h.presentation)

  module _ (maps : ℕ → Matrix) (complex : IsCochainComplex ring maps)
      (keeps : (i : ℕ) → IsMatrixInVariables n (maps i)) where
    keeps-arriving : (i : ℕ) → IsMatrixInVariables n (arriving ring maps i)
    keeps-arriving zero = tt
    keeps-arriving (suc i) = keeps i

    syzygies_of : (i : ℕ) → HasBasesInVariables ring.weights n (IsSyzygy (maps i))
    syzygies_of i =
        subst (λ (q : Ring). HasBasesInVariables q.weights n (IsSyzygy (maps i))) (complex.rings i)
        (syzygies_in_variables n (maps i) (subst IsRing (sym (complex.rings i)) positive) (keeps i))

    pub no_step_past_variables : (x : CartanEilenberg) → IsCartanEilenberg ring maps x → HasNoStepPast n x
    no_step_past_variables x h = record {
      boundaries = λ i.
          let to = IsTo-arriving ring maps prime complex i in
          resolution_past (row_degrees (maps i)) (InSpan (arriving ring maps i)) IsZero
          (span_in_variables_of n ring positive (arriving ring maps i) to.ring_of (keeps-arriving i)) zero_parts
          (x.boundaries i) (h.boundaries i);
      homology = λ i.
          let to = IsTo-arriving ring maps prime complex i in
          resolution_past (row_degrees (maps i)) (IsSyzygy (maps i)) (InSpan (arriving ring maps i)) (syzygies_of i)
          (span_parts_of n ring positive (arriving ring maps i) to.ring_of (keeps-arriving i)) (x.homology i)
          (h.homology i);
    }
