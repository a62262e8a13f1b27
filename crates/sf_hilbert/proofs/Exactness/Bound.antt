-- A resolution over n variables has no rows past its first n steps. It is exact modulo n variables from its step n + 1
-- on, and none of the terms there is free of them, as none is a constant.
use Rattle.std.proofs.Common.{◌≡◌, ◌≢◌, ℕ, zero, suc, ◌+◌, ◌≤◌, false, List, [], ◌∷◌, ◌++◌, drop, length, inl, inr, sym, ◌∙◌, subst, arith}
use Rattle.std.specs.List.{AllByRecursion}
use Rattle.std.proofs.lemmas.Bool.{cases_lt}
use Rattle.std.proofs.lemmas.List.{drop-append-le, drop_all}
use Rattle.sf_algebra.specs.Matrices.{Matrix, IsMatrix}
use Rattle.sf_algebra.specs.Monomials.{VARIABLES, one}
use Rattle.sf_algebra.specs.Rings.{Ring, IsRing, IsOverField}
use Rattle.sf_algebra.specs.Terms.{Term}
use Rattle.sf_algebra.specs.Vectors.{Place, Vector, IsCanonicalRow, IsVector}
use Rattle.sf_algebra.proofs.Basics.Lists.{AllByRecursion-weaken}
use Rattle.sf_algebra.proofs.GradedMatrices.Ranges.{AllByRecursion-drop}
use Rattle.sf_algebra.proofs.Monomials.Weights.{field_ring}
use Rattle.sf_groebner.specs.MinimalGenerators.{AreMinimal}
use Rattle.sf_groebner.specs.Presentations.{IsZero}
use Rattle.sf_groebner.specs.Resolutions.{AreNextSteps, IsResolution}
use Rattle.sf_groebner.specs.Spans.{InSpan, IsSyzygy}
use Rattle.sf_groebner.proofs.Spanning.Spans.{span_module}
use Rattle.sf_groebner.proofs.Uniqueness.PresentedModules.{minimal-inside}
use Rattle.sf_variables.specs.Variables.{IsInVariables, IsMatrixInVariables, IsVectorInVariables}
use Rattle.sf_variables.proofs.Presenting.MatrixBases.{minimal_in_variables, syzygies_in_variables}
use Rattle.sf_variables.proofs.Presenting.Presentations.{resolution_in_variables}
use Rattle.sf_hilbert.specs.Exactness.{AreAllExact, is_free_of}
use Rattle.sf_hilbert.specs.HilbertLaws.{HasNoConstants, EndsAfterVariables, HasNoConstantsFromSecond, IsExactModuloVariables}
use Rattle.sf_hilbert.proofs.Exactness.Chains.{AreAllExact-after, AreExactModulo-none, AreSteps, each_syzygy, one_more_step, over}
use Rattle.sf_hilbert.proofs.Exactness.Vanishing.{KeepsNothing, kept-nothing, vanishing_steps}
use Rattle.sf_hilbert.proofs.Kept.Variables.{is_free_of-multiplicative, is_free_of-one, not_free}
use Rattle.sf_hilbert.proofs.Minimality.Constants.{syzygies_without_constants}
use Rattle.sf_hilbert.proofs.Minimality.Generators.{IsAscending, IsAscending-minimal, IsIndependent, IsIndependent-minimal}

-- over n variables, what has no constants keeps nothing that is free of them
KeepsNothing-rows : (n : ℕ) (rows : List Vector) → AllByRecursion (IsVectorInVariables n) rows
    → AllByRecursion (λ (v : Vector). AllByRecursion (λ (t : Term Place). t.at.monomial ≢ one) v.terms) rows
    → KeepsNothing (is_free_of n) rows
KeepsNothing-rows n [] h k = tt
KeepsNothing-rows n (v ∷ vs) h k =
    (kept-nothing (is_free_of n) v.terms (each v.terms h.0 k.0), KeepsNothing-rows n vs h.1 k.1)
  where
    each : (ts : List (Term Place)) → AllByRecursion (λ (t : Term Place). IsInVariables n t.at.monomial) ts
        → AllByRecursion (λ (t : Term Place). t.at.monomial ≢ one) ts
        → AllByRecursion (λ (t : Term Place). is_free_of n t.at.monomial ≡ false) ts
    each [] a b = tt
    each (t ∷ ts) a b = (not_free n t.at.monomial a.0 b.0, each ts a.1 b.1)

KeepsNothing-all : (n : ℕ) (steps : List Matrix) → AllByRecursion (IsMatrixInVariables n) steps
    → AllByRecursion HasNoConstants steps
    → AllByRecursion (λ (step : Matrix). KeepsNothing (is_free_of n) step.rows) steps
KeepsNothing-all n [] h k = tt
KeepsNothing-all n (step ∷ steps) h k =
    (KeepsNothing-rows n step.rows h.0 k.0, KeepsNothing-all n steps h.1 k.1)

module _ (ring : Ring) (field : IsOverField ring) where
  positive : IsRing ring
  positive = field_ring field

  -- the steps after rows that ascend and of which none is a combination of others have no constants
  steps_without_constants : (before : Matrix) (steps : List Matrix)
      → AllByRecursion (λ (v : Vector). IsCanonicalRow ring v.terms) before.rows → IsAscending before.rows
      → IsIndependent ring [] before.rows → AreSteps ring before steps → AllByRecursion HasNoConstants steps
  steps_without_constants before [] canonical ascending independent h = tt
  steps_without_constants before (step ∷ steps) canonical ascending independent h =
      let syzygies = each_syzygy ring field before step.rows h.1 in (
        AllByRecursion-weaken _ _ (λ (v : Vector) k. syzygies_without_constants ring field before.rows canonical ascending
            independent v.degree v.terms k.coefficients k.zero) step.rows syzygies,
        steps_without_constants step steps
            (AllByRecursion-weaken _ _ (λ (v : Vector) k. k.coefficients.canonical) step.rows syzygies)
            (IsAscending-minimal ring positive (IsSyzygy (over ring before)) step.rows h.1)
            (IsIndependent-minimal ring positive (IsSyzygy (over ring before)) step.rows h.1) h.2,
      )

  steps_in_variables : (n : ℕ) (before : Matrix) (steps : List Matrix) → IsMatrixInVariables n before
      → AreSteps ring before steps → AllByRecursion (IsMatrixInVariables n) steps
  steps_in_variables n before [] keeps h = tt
  steps_in_variables n before (step ∷ steps) keeps h =
      let here = minimal_in_variables ring n (IsSyzygy (over ring before)) IsZero
      (syzygies_in_variables n (over ring before) positive keeps) step.rows h.1 in
      (here, steps_in_variables n step steps here h.2)

  module _ (first : Matrix) (steps : List Matrix) (matrix : IsMatrix (over ring first))
      (ascending : IsAscending first.rows) (independent : IsIndependent ring [] first.rows)
      (next : AreSteps ring first steps) where
    canonical : AllByRecursion (λ (v : Vector). IsCanonicalRow ring v.terms) first.rows
    canonical = AllByRecursion-weaken _ _ (λ (v : Vector) k. k.canonical) first.rows matrix

    no_constants : AllByRecursion HasNoConstants steps
    no_constants = steps_without_constants first steps canonical ascending independent next

    vanish : (k : ℕ) → suc k ≤ VARIABLES → IsMatrixInVariables (suc k) first
        → AllByRecursion (λ (step : Matrix). step.rows ≡ []) (drop k steps)
    vanish k small keeps = elim (cases_lt k (length steps + 1)) [
      | inl within ↦
          let more = one_more_step ring field first steps matrix next in
          let all : drop k (steps ++ more.0 ∷ []) ≡ drop k steps ++ more.0 ∷ [] =
          drop-append-le k steps (more.0 ∷ []) (omega arith) in
          let exact = AreAllExact-after ring field (suc k) 0 (omega arith) (first ∷ (steps ++ more.0 ∷ [])) more.1
          (AreExactModulo-none ring field first (steps ++ more.0 ∷ []) more.1) in
          let nothing = KeepsNothing-all (suc k) (steps ++ more.0 ∷ [])
          (steps_in_variables (suc k) first (steps ++ more.0 ∷ []) keeps more.1)
          (steps_without_constants first (steps ++ more.0 ∷ []) canonical ascending independent more.1) in
          let count : 0 + suc k ≡ suc k = omega arith in
          vanishing_steps ring field (is_free_of (suc k)) (is_free_of-multiplicative (suc k) small)
          (is_free_of-one (suc k) small) (drop k steps) more.0
          (subst (AreAllExact ring (is_free_of (suc k))) all
          (subst (λ m. AreAllExact ring (is_free_of m) (drop k (steps ++ more.0 ∷ []))) count exact))
          (subst (AllByRecursion (λ (step : Matrix). KeepsNothing (is_free_of (suc k)) step.rows)) all
          (AllByRecursion-drop _ k (steps ++ more.0 ∷ []) nothing))
      | inr past ↦ subst (AllByRecursion (λ (step : Matrix). step.rows ≡ [])) (sym (drop_all k steps (omega arith))) tt
    ]

-- the steps of a resolution, over the ring of the relations
AreSteps-next : (ring : Ring) (before : Matrix) (steps : List Matrix) → before.ring ≡ ring → AreNextSteps before steps
    → AreSteps ring before steps
AreSteps-next ring before [] e h = tt
AreSteps-next ring before (step ∷ steps) e h = (
  h.0.target,
  subst (λ (r : Ring). AreMinimal r (IsSyzygy (over r before)) IsZero step.rows) e h.0.minimal,
  AreSteps-next ring step steps (h.0.ring ∙ e) h.1,
)

module _ (relations : Matrix) (field : IsOverField relations.ring) (matrix : IsMatrix relations) (first : Matrix)
    (steps : List Matrix) (h : IsResolution relations (first ∷ steps)) where
  first_matrix : IsMatrix (over relations.ring first)
  first_matrix =
      let vectors = (span_module relations (field_ring field) matrix).vectors in
      subst (λ ds. AllByRecursion (λ (v : Vector). IsVector relations.ring ds v) first.rows) (sym h.0.target)
      (AllByRecursion-weaken _ _ vectors first.rows
      (minimal-inside relations.ring relations.target (InSpan relations) IsZero first.rows h.0.minimal))

  first_ascending : IsAscending first.rows
  first_ascending =
      IsAscending-minimal relations.ring (field_ring field) (InSpan relations) first.rows h.0.minimal

  first_independent : IsIndependent relations.ring [] first.rows
  first_independent =
      IsIndependent-minimal relations.ring (field_ring field) (InSpan relations) first.rows h.0.minimal

  next_steps : AreSteps relations.ring first steps
  next_steps = AreSteps-next relations.ring first steps h.0.ring h.1

pub ends_after_variables : EndsAfterVariables
ends_after_variables n some few relations field matrix keeps [] h =
    subst (AllByRecursion (λ (step : Matrix). step.rows ≡ [])) (sym (drop_all n [] (omega arith))) tt
ends_after_variables zero some few relations field matrix keeps (first ∷ steps) h = absurd (omega arith)
ends_after_variables (suc k) some few relations field matrix keeps (first ∷ steps) h =
    vanish relations.ring field first steps (first_matrix relations field matrix first steps h)
    (first_ascending relations field matrix first steps h) (first_independent relations field matrix first steps h)
    (next_steps relations field matrix first steps h) k few
    (resolution_in_variables (suc k) relations (field_ring field) keeps (first ∷ steps) h).0

pub no_constants_from_second : HasNoConstantsFromSecond
no_constants_from_second relations field matrix [] h = tt
no_constants_from_second relations field matrix (first ∷ steps) h =
    no_constants relations.ring field first steps (first_matrix relations field matrix first steps h)
    (first_ascending relations field matrix first steps h) (first_independent relations field matrix first steps h)
    (next_steps relations field matrix first steps h)

pub exact_modulo_variables : IsExactModuloVariables
exact_modulo_variables n few relations field matrix [] h =
    subst (AreAllExact relations.ring (is_free_of n)) (sym (drop_all n [] (omega arith))) tt
exact_modulo_variables n few relations field matrix (first ∷ steps) h =
    let next = next_steps relations field matrix first steps h in
    let count : 0 + n ≡ n = omega arith in
    subst (λ m. AreAllExact relations.ring (is_free_of m) (drop n (first ∷ steps))) count
    (AreAllExact-after relations.ring field n 0 (omega arith) (first ∷ steps) next
    (AreExactModulo-none relations.ring field first steps next))
