-- Minimal generators and presentations are matrices, and depend only on what is in the modules.
use Rattle.std.proofs.Common.{◌≡◌, inl, inr, List, [], ◌∷◌, ◌++◌, sym, subst, ℤ}
use Rattle.std.specs.List.{AllByRecursion}
use Rattle.sf_algebra.specs.Matrices.{Matrix, row_degrees, IsMatrix}
use Rattle.sf_algebra.specs.Rings.{Ring, IsRing}
use Rattle.sf_algebra.specs.Vectors.{Vector, IsVector}
use Rattle.sf_algebra.proofs.Basics.Lists.{AllByRecursion-weaken}
use Rattle.sf_groebner.specs.MinimalGenerators.{AreKept, AreMinimal}
use Rattle.sf_groebner.specs.Presentations.{IsZero, IsRelation, IsPresentation}
use Rattle.sf_groebner.specs.Resolutions.{IsFirstStep, IsNextStep, AreNextSteps, IsResolution}
use Rattle.sf_groebner.specs.Spans.{combined, InSpan, IsSyzygy}
use Rattle.sf_groebner.proofs.Spanning.Spans.{span_module}
use Rattle.sf_groebner.proofs.Uniqueness.MinimalGenerators.{AreMinimal-same}

module _ (ring : Ring) (target : List ℤ) (N B : Vector → Type 0) where
  -- what holds of each vector holds of those kept
  pub AllByRecursion-kept : (earlier vs kept : List Vector) → AllByRecursion N vs → AreKept ring B earlier vs kept
      → AllByRecursion N kept
  AllByRecursion-kept earlier [] kept h k = subst (AllByRecursion N) (sym k) tt
  AllByRecursion-kept earlier (v ∷ vs) kept h (inl k) = AllByRecursion-kept (earlier ++ v ∷ []) vs kept h.1 k.1
  AllByRecursion-kept earlier (v ∷ vs) kept h (inr k) =
      subst (AllByRecursion N) (sym k.1.1) (h.0, AllByRecursion-kept (earlier ++ v ∷ []) vs k.1.0 h.1 k.1.2)

  -- minimal generators are in the module
  pub minimal-inside : (generators : List Vector) → AreMinimal ring N B generators → AllByRecursion N generators
  minimal-inside generators h = AllByRecursion-kept [] h.basis generators h.reduced.inside h.kept

  pub minimal-vectors : (degrees : List ℤ) → ((v : Vector) → N v → IsVector ring degrees v) → (generators : List Vector)
      → AreMinimal ring N B generators → AllByRecursion (IsVector ring degrees) generators
  minimal-vectors degrees vectors generators h =
      AllByRecursion-weaken N (IsVector ring degrees) vectors generators (minimal-inside generators h)

-- a matrix from what its parts are
as_matrix : (ring : Ring) (degrees : List ℤ) (m : Matrix) → m.ring ≡ ring → m.target ≡ degrees
    → AllByRecursion (IsVector ring degrees) m.rows → IsMatrix m
as_matrix ring degrees m same_ring same rows =
    subst (λ q. AllByRecursion (IsVector q m.target) m.rows) (sym same_ring)
    (subst (λ ds. AllByRecursion (IsVector ring ds) m.rows) (sym same) rows)

module _ (ring : Ring) (target : List ℤ) (N B : Vector → Type 0) (g r : Matrix)
    (h : IsPresentation ring target N B g r) where
  -- generators and relations are matrices
  pub IsMatrix-generators : ((v : Vector) → N v → IsVector ring target v) → IsMatrix g
  IsMatrix-generators vectors =
      as_matrix ring target g h.generators_ring h.generators_target
      (minimal-vectors ring target N B target vectors g.rows h.generators_minimal)

  pub IsMatrix-relations : IsMatrix r
  IsMatrix-relations =
      as_matrix ring (row_degrees g) r h.relations_ring h.relations_target
      (minimal-vectors ring (row_degrees g) (IsRelation g B) IsZero (row_degrees g) (λ v k. subst (λ q. IsVector q (row_degrees g) v) h.generators_ring k.coefficients) r.rows h.relations_minimal)

  -- the presentation of the same modules, given otherwise
  pub IsPresentation-same : (P C : Vector → Type 0) → ((v : Vector) → N v → P v) → ((v : Vector) → P v → N v)
      → ((v : Vector) → B v → C v) → ((v : Vector) → C v → B v)
      → IsPresentation ring target P C g r
  IsPresentation-same P C to from more less = record {
    generators_ring = h.generators_ring;
    generators_target = h.generators_target;
    generators_minimal = AreMinimal-same ring target N P B C to from more less g.rows h.generators_minimal;
    relations_ring = h.relations_ring;
    relations_target = h.relations_target;
    relations_minimal =
        AreMinimal-same ring (row_degrees g) (IsRelation g B) (IsRelation g C) IsZero IsZero
        (λ v k. record { coefficients = k.coefficients; inside = more (combined g v) k.inside })
        (λ v k. record { coefficients = k.coefficients; inside = less (combined g v) k.inside })
        (λ v k. k) (λ v k. k) r.rows h.relations_minimal;
  }

-- the steps of a resolution are matrices
pub IsMatrix-first_step : (m : Matrix) → IsRing m.ring → IsMatrix m → (step : Matrix) → IsFirstStep m step
    → IsMatrix step
IsMatrix-first_step m positive matrix step h =
    as_matrix m.ring m.target step h.ring h.target
    (minimal-vectors m.ring m.target (InSpan m) IsZero m.target (span_module m positive matrix).vectors step.rows h.minimal)

pub IsMatrix-next_step : (m step : Matrix) → IsNextStep m step → IsMatrix step
IsMatrix-next_step m step h =
    as_matrix m.ring (row_degrees m) step h.ring h.target
    (minimal-vectors m.ring (row_degrees m) (IsSyzygy m) IsZero (row_degrees m) (λ v k. k.coefficients) step.rows h.minimal)

IsMatrix-next_steps : (m : Matrix) (steps : List Matrix) → AreNextSteps m steps → AllByRecursion IsMatrix steps
IsMatrix-next_steps m [] h = tt
IsMatrix-next_steps m (step ∷ steps) h = (IsMatrix-next_step m step h.0, IsMatrix-next_steps step steps h.1)

pub IsMatrix-resolution : (m : Matrix) → IsRing m.ring → IsMatrix m → (steps : List Matrix) → IsResolution m steps
    → AllByRecursion IsMatrix steps
IsMatrix-resolution m positive matrix [] h = tt
IsMatrix-resolution m positive matrix (step ∷ steps) h =
    (IsMatrix-first_step m positive matrix step h.0, IsMatrix-next_steps step steps h.1)
