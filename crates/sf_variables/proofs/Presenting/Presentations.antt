-- Presentations over n variables: generators are some of a reduced basis, and so are their relations; then homology,
-- kernels, images, cokernels and the steps of resolutions.
use Rattle.std.proofs.Common.{◌≡◌, ℕ, List, [], ◌∷◌, refl, sym, subst, ℤ}
use Rattle.std.specs.List.{AllByRecursion}
use Rattle.sf_algebra.specs.Matrices.{Matrix}
use Rattle.sf_algebra.specs.MatrixOperations.{stacked}
use Rattle.sf_algebra.specs.Rings.{Ring, IsRing}
use Rattle.sf_algebra.specs.Vectors.{Vector}
use Rattle.sf_groebner.specs.Homology.{ComplexPlace, IsAny, IsCycle, IsHomology, IsKernel, IsImage, IsCokernel}
use Rattle.sf_groebner.specs.Presentations.{IsZero, IsRelation, IsPresentation}
use Rattle.sf_groebner.specs.Resolutions.{AreNextSteps, IsResolution}
use Rattle.sf_groebner.specs.Spans.{InSpan, IsSyzygy}
use Rattle.sf_variables.specs.Variables.{IsMatrixInVariables}
use Rattle.sf_variables.proofs.Keeping.Matrices.{IsMatrixInVariables-stacked}
use Rattle.sf_variables.proofs.OuterParts.Bases.{HasOuterParts}
use Rattle.sf_variables.proofs.Presenting.MatrixBases.{HasBasesInVariables, any_in_variables, minimal_in_variables, relations_in_variables_of, span_in_variables, span_in_variables_of, span_parts_of, syzygies_in_variables}

-- generators and relations are over n variables
abbrev pub AreBothInVariables : ℕ → Matrix → Matrix → Type 0
AreBothInVariables n g r = IsMatrixInVariables n g × IsMatrixInVariables n r

module _ (n : ℕ) where
  pub presentation_in_variables : (ring : Ring) → IsRing ring → (target : List ℤ) (N B : Vector → Type 0)
      → HasBasesInVariables ring.weights n N → HasOuterParts ring.weights n B
      → (g r : Matrix) → IsPresentation ring target N B g r → AreBothInVariables n g r
  presentation_in_variables ring positive target N B bases parts g r h =
      let generators : IsMatrixInVariables n g =
      minimal_in_variables ring n N B bases g.rows h.generators_minimal in (
        generators,
        minimal_in_variables ring n (IsRelation g B) IsZero
            (relations_in_variables_of n ring positive g h.generators_ring generators B parts) r.rows h.relations_minimal,
      )

  pub homology_in_variables : (place : ComplexPlace) → IsRing place.here.ring → place.arriving.ring ≡ place.here.ring
      → place.out.ring ≡ place.here.ring → place.beyond.ring ≡ place.here.ring
      → IsMatrixInVariables n place.arriving → IsMatrixInVariables n place.here → IsMatrixInVariables n place.out
      → IsMatrixInVariables n place.beyond
      → (g r : Matrix) → IsHomology place g r → AreBothInVariables n g r
  homology_in_variables place positive first second third arriving here out beyond =
      presentation_in_variables place.here.ring positive place.here.target (IsCycle place.out place.beyond)
      (InSpan (stacked place.arriving place.here))
      (relations_in_variables_of n place.here.ring positive place.out second out (InSpan place.beyond)
      (span_parts_of n place.here.ring positive place.beyond third beyond))
      (span_parts_of n place.here.ring positive (stacked place.arriving place.here) first
      (IsMatrixInVariables-stacked n place.arriving place.here arriving here))

  pub kernel_in_variables : (source target map : Matrix) → IsRing source.ring → map.ring ≡ source.ring
      → target.ring ≡ source.ring
      → IsMatrixInVariables n source → IsMatrixInVariables n target → IsMatrixInVariables n map
      → (g r : Matrix) → IsKernel source target map g r → AreBothInVariables n g r
  kernel_in_variables source target map positive first second here beyond out =
      presentation_in_variables source.ring positive source.target (IsCycle map target) (InSpan source)
      (relations_in_variables_of n source.ring positive map first out (InSpan target)
      (span_parts_of n source.ring positive target second beyond))
      (span_parts_of n source.ring positive source refl here)

  pub image_in_variables : (target map : Matrix) → IsRing target.ring → map.ring ≡ target.ring
      → IsMatrixInVariables n target → IsMatrixInVariables n map
      → (g r : Matrix) → IsImage target map g r → AreBothInVariables n g r
  image_in_variables target map positive same zeros rows =
      presentation_in_variables target.ring positive target.target (InSpan (stacked map target)) (InSpan target)
      (span_in_variables_of n target.ring positive (stacked map target) same
      (IsMatrixInVariables-stacked n map target rows zeros))
      (span_parts_of n target.ring positive target refl zeros)

  pub cokernel_in_variables : (target map : Matrix) → IsRing target.ring → map.ring ≡ target.ring
      → IsMatrixInVariables n target → IsMatrixInVariables n map
      → (g r : Matrix) → IsCokernel target map g r → AreBothInVariables n g r
  cokernel_in_variables target map positive same zeros rows =
      presentation_in_variables target.ring positive target.target (IsAny target.ring target.target)
      (InSpan (stacked map target))
      (any_in_variables n target.ring positive target.target)
      (span_parts_of n target.ring positive (stacked map target) same
      (IsMatrixInVariables-stacked n map target rows zeros))

  steps_in_variables : (before : Matrix) → IsRing before.ring → IsMatrixInVariables n before → (steps : List Matrix)
      → AreNextSteps before steps → AllByRecursion (IsMatrixInVariables n) steps
  steps_in_variables before positive keeps [] h = tt
  steps_in_variables before positive keeps (step ∷ steps) h =
      let here : IsMatrixInVariables n step =
      minimal_in_variables before.ring n (IsSyzygy before) IsZero
      (syzygies_in_variables n before positive keeps) step.rows h.0.minimal in
      (here, steps_in_variables step (subst IsRing (sym h.0.ring) positive) here steps h.1)

  pub resolution_in_variables : (relations : Matrix) → IsRing relations.ring → IsMatrixInVariables n relations
      → (steps : List Matrix) → IsResolution relations steps → AllByRecursion (IsMatrixInVariables n) steps
  resolution_in_variables relations positive keeps [] h = tt
  resolution_in_variables relations positive keeps (step ∷ steps) h =
      let here : IsMatrixInVariables n step =
      minimal_in_variables relations.ring n (InSpan relations) IsZero
      (span_in_variables n relations positive keeps) step.rows h.0.minimal in
      (here, steps_in_variables step (subst IsRing (sym h.0.ring) positive) here steps h.1)
