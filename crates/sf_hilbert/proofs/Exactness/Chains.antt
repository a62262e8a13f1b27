-- The steps of a resolution, over one ring: exact modulo no variable, and modulo one more from one step later on.
use Rattle.std.proofs.Common.{◌≡◌, ℕ, zero, suc, ◌+◌, ◌<◌, ◌≤◌, true, List, [], ◌∷◌, ◌++◌, drop, filter, refl, sym, ◌∙◌, ap, subst, arith}
use Rattle.std.specs.List.{AllByRecursion}
use Rattle.sf_algebra.specs.Matrices.{Matrix, row_degrees, IsMatrix, degrees_of}
use Rattle.sf_algebra.specs.MatrixOperations.{row_combination}
use Rattle.sf_algebra.specs.Monomials.{VARIABLES, variable}
use Rattle.sf_algebra.specs.Rings.{Ring, IsRing, IsOverField}
use Rattle.sf_algebra.specs.Vectors.{Vector, IsVector}
use Rattle.sf_algebra.proofs.Basics.Lists.{AllByRecursion-weaken}
use Rattle.sf_algebra.proofs.Monomials.Weights.{field_ring}
use Rattle.sf_groebner.specs.MinimalGenerators.{AreMinimal, matrix_of}
use Rattle.sf_groebner.specs.Presentations.{IsZero}
use Rattle.sf_groebner.specs.Spans.{IsSyzygy}
use Rattle.sf_groebner.proofs.Constructions.MatrixBases.{syzygy_basis}
use Rattle.sf_groebner.proofs.Constructions.MinimalExistence.{minimal_modulo_zero}
use Rattle.sf_groebner.proofs.Spanning.SyzygyCombinations.{syzygies-zero, syzygy_submodule}
use Rattle.sf_groebner.proofs.Uniqueness.PresentedModules.{minimal-inside}
use Rattle.sf_groebner.proofs.Uniqueness.ReducedCoordinates.{InSpan-minimal}
use Rattle.sf_hilbert.specs.Exactness.{AreAllExact, AreExactModulo, IsExactModulo, is_free_of, is_without, kept}
use Rattle.sf_hilbert.proofs.Exactness.Step.{AreSyzygies, IsExactModulo-step}
use Rattle.sf_hilbert.proofs.Kept.Variables.{IsDividedBy-variable, is_free_of-multiplicative, is_free_of-variable, is_without-variable}

-- a step, with the ring of all
abbrev pub over : Ring → Matrix → Matrix
over ring step = matrix_of ring step.target step.rows

-- each step has the minimal generators of the syzygies of the one before
abbrev pub AreSteps : Ring → Matrix → List Matrix → Type 0
AreSteps ring before [] = Unit {0}
AreSteps ring before (step ∷ steps) =
    (step.target ≡ row_degrees before) × AreMinimal ring (IsSyzygy (over ring before)) IsZero step.rows
    × AreSteps ring step steps

filter-all : {X : Type 0} (xs : List X) → filter (λ _. true) xs ≡ xs
filter-all [] = refl
filter-all (x ∷ xs) = λ i. x ∷ filter-all xs i

module _ (ring : Ring) (field : IsOverField ring) where
  positive : IsRing ring
  positive = field_ring field

  module _ (before : Matrix) (rows : List Vector)
      (minimal : AreMinimal ring (IsSyzygy (over ring before)) IsZero rows) where
    pub each_syzygy : AllByRecursion (IsSyzygy (over ring before)) rows
    each_syzygy = minimal-inside ring (row_degrees before) (IsSyzygy (over ring before)) IsZero rows minimal

    pub AreSyzygies-minimal : AreSyzygies ring before.rows rows
    AreSyzygies-minimal = record {
      vectors = AllByRecursion-weaken _ _ (λ v h. h.coefficients) rows each_syzygy;
      zeros = syzygies-zero (over ring before) positive rows each_syzygy;
    }

    -- modulo no variable: minimal generators generate
    IsExactModulo-minimal : IsExactModulo ring (is_free_of 0) before.rows rows
    IsExactModulo-minimal d c vector nil =
        let v : Vector = record { degree = d; terms = c } in
        let syzygy : IsSyzygy (over ring before) v =
        record { coefficients = vector; zero = sym (filter-all (row_combination ring before.rows c)) ∙ nil } in
        let spanned =
        InSpan-minimal ring field (row_degrees before) (IsSyzygy (over ring before))
        (syzygy_submodule (over ring before) positive) rows minimal v syzygy in (
          spanned.coefficients.terms,
          subst (λ e. IsVector ring (degrees_of rows) (record { degree = e; terms = spanned.coefficients.terms }))
              (ap (λ (w : Vector). w.degree) spanned.value) spanned.homogeneous,
          ap (λ (w : Vector). kept (is_free_of 0) w.terms) spanned.value,
        )

  pub AreExactModulo-none : (before : Matrix) (steps : List Matrix) → AreSteps ring before steps
      → AreExactModulo ring (is_free_of 0) before steps
  AreExactModulo-none before [] h = tt
  AreExactModulo-none before (step ∷ steps) h =
      (IsExactModulo-minimal before step.rows h.1, AreExactModulo-none step steps h.2)

  -- one variable more, from one step later on
  AreExactModulo-next : (i : ℕ) → i < VARIABLES → (before step : Matrix) (steps : List Matrix)
      → AreSteps ring before (step ∷ steps) → AreExactModulo ring (is_free_of i) before (step ∷ steps)
      → AreExactModulo ring (is_free_of (suc i)) step steps
  AreExactModulo-next i h before step [] steps_h exact = tt
  AreExactModulo-next i h before step (next ∷ more) steps_h exact = (
    IsExactModulo-step ring field (is_free_of i) (is_without i) (is_free_of-multiplicative i (omega arith))
        (is_free_of-multiplicative (suc i) (omega arith)) (variable i) (IsDividedBy-variable i h)
        (is_free_of-variable i h) (is_without-variable i h) before.rows step.rows next.rows
        (AreSyzygies-minimal before step.rows steps_h.1) exact.0 exact.1.0,
    AreExactModulo-next i h step next more steps_h.2 exact.1,
  )

  -- all steps of a list, and after some more variables those from so many steps later on
  abbrev pub AreAllSteps : List Matrix → Type 0
  AreAllSteps [] = Unit {0}
  AreAllSteps (step ∷ steps) = AreSteps ring step steps

  tail_steps : (step : Matrix) (steps : List Matrix) → AreSteps ring step steps → AreAllSteps steps
  tail_steps step [] h = tt
  tail_steps step (next ∷ more) h = h.2

  tail_exact : (i : ℕ) → i < VARIABLES → (step : Matrix) (steps : List Matrix) → AreSteps ring step steps
      → AreExactModulo ring (is_free_of i) step steps → AreAllExact ring (is_free_of (suc i)) steps
  tail_exact i h step [] k exact = tt
  tail_exact i h step (next ∷ more) k exact = AreExactModulo-next i h step next more k exact

  pub AreAllExact-after : (n i : ℕ) → i + n ≤ VARIABLES → (steps : List Matrix) → AreAllSteps steps
      → AreAllExact ring (is_free_of i) steps → AreAllExact ring (is_free_of (i + n)) (drop n steps)
  AreAllExact-after zero i h steps k exact =
      let same : i ≡ i + zero = omega arith in
      subst (λ m. AreAllExact ring (is_free_of m) steps) same exact
  AreAllExact-after (suc n) i h [] k exact = tt
  AreAllExact-after (suc n) i h (step ∷ steps) k exact =
      let same : suc i + n ≡ i + suc n = omega arith in
      subst (λ m. AreAllExact ring (is_free_of m) (drop n steps)) same
      (AreAllExact-after n (suc i) (omega arith) steps (tail_steps step steps k) (tail_exact i (omega arith) step steps k exact))

  -- one step more at the end
  pub one_more_step : (before : Matrix) (steps : List Matrix) → IsMatrix (over ring before)
      → AreSteps ring before steps → (extra : Matrix) × AreSteps ring before (steps ++ extra ∷ [])
  one_more_step before [] matrix h =
      let b = syzygy_basis (over ring before) field matrix in
      let g = minimal_modulo_zero ring (row_degrees before) field (IsSyzygy (over ring before))
      (λ v k. k.coefficients) b.0 b.1 in
      (matrix_of ring (row_degrees before) g.generators, (refl, g.minimal, tt))
  one_more_step before (step ∷ steps) matrix h =
      let inside = subst (λ ds. IsMatrix (matrix_of ring ds step.rows)) (sym h.0)
      (AreSyzygies-minimal before step.rows h.1).vectors in
      let more = one_more_step step steps inside h.2 in
      (more.0, (h.0, h.1, more.1))
