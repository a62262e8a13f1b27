-- The reduced bases of the modules of a matrix over n variables are over n variables, and so are minimal generators.
use Rattle.std.proofs.Common.{◌≡◌, ℕ, List, [], length, sym, subst, ℤ}
use Rattle.sf_algebra.specs.Matrices.{Matrix}
use Rattle.sf_algebra.specs.MatrixOperations.{stacked}
use Rattle.sf_algebra.specs.Rings.{Ring, IsRing, Weights}
use Rattle.sf_algebra.specs.Vectors.{Vector, IsCanonicalRow}
use Rattle.sf_algebra.proofs.GradedMatrices.PartTerms.{IsCanonical-part_terms}
use Rattle.sf_algebra.proofs.Vectors.Rows.{IsCanonical-row_combination}
use Rattle.sf_groebner.specs.Cuts.{IsFirstBlock}
use Rattle.sf_groebner.specs.Homology.{IsAny}
use Rattle.sf_groebner.specs.MinimalGenerators.{AreMinimal}
use Rattle.sf_groebner.specs.Presentations.{IsRelation}
use Rattle.sf_groebner.specs.ReducedBases.{IsReducedBasis}
use Rattle.sf_groebner.specs.Spans.{InSpan, IsSyzygy, IsGraphVector}
use Rattle.sf_groebner.proofs.Uniqueness.PresentedModules.{AllByRecursion-kept}
use Rattle.sf_variables.specs.Variables.{AreInVariables, IsMatrixInVariables, IsVectorInVariables}
use Rattle.sf_variables.proofs.Keeping.Matrices.{IsMatrixInVariables-stacked}
use Rattle.sf_variables.proofs.OuterParts.Bases.{HasOuterParts, basis_in_variables}
use Rattle.sf_variables.proofs.OuterParts.Modules.{any_parts, first_part_parts, graph_vector_parts, relation_parts, span_parts, syzygy_parts}

-- the reduced basis of a module, by these weights, is over n variables
abbrev pub HasBasesInVariables : Weights → ℕ → (Vector → Type 0) → Type 0
HasBasesInVariables weights n N = (basis : List Vector) → IsReducedBasis weights N basis → AreInVariables n basis

-- so are minimal generators, which are some of the basis
pub minimal_in_variables : (ring : Ring) (n : ℕ) (N B : Vector → Type 0) → HasBasesInVariables ring.weights n N
    → (generators : List Vector) → AreMinimal ring N B generators → AreInVariables n generators
minimal_in_variables ring n N B keeps generators h =
    AllByRecursion-kept ring [] (IsVectorInVariables n) B [] h.basis generators (keeps h.basis h.reduced) h.kept

module _ (n : ℕ) (m : Matrix) (positive : IsRing m.ring) (keeps : IsMatrixInVariables n m) where
  pub span_in_variables : HasBasesInVariables m.ring.weights n (InSpan m)
  span_in_variables =
      basis_in_variables n m.ring positive.weights (InSpan m)
      (λ v h. subst (λ (w : Vector). IsCanonicalRow m.ring w.terms) h.value
      (IsCanonical-row_combination m.ring positive.modulus m.rows h.coefficients.terms))
      (span_parts n m positive.modulus keeps)

  pub relations_in_variables : (B : Vector → Type 0) → HasOuterParts m.ring.weights n B
      → HasBasesInVariables m.ring.weights n (IsRelation m B)
  relations_in_variables B parts =
      basis_in_variables n m.ring positive.weights (IsRelation m B) (λ c h. h.coefficients.canonical)
      (relation_parts n m positive.modulus keeps B parts)

  pub syzygies_in_variables : HasBasesInVariables m.ring.weights n (IsSyzygy m)
  syzygies_in_variables =
      basis_in_variables n m.ring positive.weights (IsSyzygy m) (λ c h. h.coefficients.canonical)
      (syzygy_parts n m positive.modulus keeps)

  pub graph_in_variables : HasBasesInVariables m.ring.weights n (IsGraphVector m)
  graph_in_variables =
      basis_in_variables n m.ring positive.weights (IsGraphVector m) (λ w h. h.vector.canonical)
      (graph_vector_parts n m positive.modulus keeps)

-- first blocks of the syzygies of a stack
pub first_blocks_in_variables : (n : ℕ) (a b : Matrix) → IsRing a.ring → IsMatrixInVariables n a
    → IsMatrixInVariables n b → HasBasesInVariables a.ring.weights n (IsFirstBlock a b)
first_blocks_in_variables n a b positive h k =
    basis_in_variables n a.ring positive.weights (IsFirstBlock a b)
    (λ v f. subst (λ (w : Vector). IsCanonicalRow a.ring w.terms) f.part
    (IsCanonical-part_terms a.ring 0 (length a.rows) f.whole.terms f.inside.coefficients.canonical))
    (first_part_parts a.ring.weights n (length a.rows) (IsSyzygy (stacked a b))
    (syzygy_parts n (stacked a b) positive.modulus (IsMatrixInVariables-stacked n a b h k)))

-- all vectors of a free module
pub any_in_variables : (n : ℕ) (ring : Ring) → IsRing ring → (degrees : List ℤ)
    → HasBasesInVariables ring.weights n (IsAny ring degrees)
any_in_variables n ring positive degrees =
    basis_in_variables n ring positive.weights (IsAny ring degrees) (λ v h. h.canonical) (any_parts n ring degrees)

-- of a span, with the ring as it is known
module _ (n : ℕ) (ring : Ring) (positive : IsRing ring) (m : Matrix) (same : m.ring ≡ ring)
    (keeps : IsMatrixInVariables n m) where
  pub IsRing-of : IsRing m.ring
  IsRing-of = subst IsRing (sym same) positive

  pub span_parts_of : HasOuterParts ring.weights n (InSpan m)
  span_parts_of = subst (λ (q : Ring). HasOuterParts q.weights n (InSpan m)) same (span_parts n m IsRing-of.modulus keeps)

  pub span_in_variables_of : HasBasesInVariables ring.weights n (InSpan m)
  span_in_variables_of =
      subst (λ (q : Ring). HasBasesInVariables q.weights n (InSpan m)) same (span_in_variables n m IsRing-of keeps)

  -- of relations modulo a module
  pub relations_in_variables_of : (B : Vector → Type 0) → HasOuterParts ring.weights n B
      → HasBasesInVariables ring.weights n (IsRelation m B)
  relations_in_variables_of B parts =
      subst (λ (q : Ring). HasBasesInVariables q.weights n (IsRelation m B)) same
      (relations_in_variables n m IsRing-of keeps B (subst (λ (q : Ring). HasOuterParts q.weights n B) (sym same) parts))
