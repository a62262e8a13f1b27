-- Where the map that leaves a place of a complex has no rows, its cycles are zeros, and minimal generators of zeros are
-- none.
use Rattle.std.proofs.Common.{◌≡◌, List, [], ◌∷◌, length, refl, ap, subst, arith, ℤ}
use Rattle.std.specs.List.{AllByRecursion}
use Rattle.sf_algebra.specs.Matrices.{Matrix, degrees_of, row_degrees}
use Rattle.sf_algebra.specs.MatrixOperations.{stacked}
use Rattle.sf_algebra.specs.Rings.{Ring, Weights}
use Rattle.sf_algebra.specs.Terms.{Term}
use Rattle.sf_algebra.specs.Vectors.{Place, Vector, IsHomogeneous}
use Rattle.sf_groebner.specs.Homology.{IsCycle}
use Rattle.sf_groebner.specs.MinimalGenerators.{AreKept, AreMinimal}
use Rattle.sf_groebner.specs.Presentations.{IsRelation, IsZero}
use Rattle.sf_groebner.specs.ReducedBases.{IsMonic}
use Rattle.sf_groebner.specs.Spans.{InSpan}
use Rattle.sf_hilbert.specs.HilbertLaws.{HasNoHomologyWithoutRows}

-- over no generators there are no terms
homogeneous_nil : (weights : Weights) (degrees : List ℤ) → degrees ≡ [] → (d : ℤ) (ts : List (Term Place))
    → IsHomogeneous weights degrees d ts → ts ≡ []
homogeneous_nil weights degrees none d [] h = refl
homogeneous_nil weights degrees none d (t ∷ ts) h = absurd (omega (arith, h.0.0, ap length none))

module _ (ring : Ring) (N B : Vector → Type 0) (zeros : (v : Vector) → N v → v.terms ≡ []) where
  no_basis : (basis : List Vector) → AllByRecursion N basis
      → AllByRecursion (λ (v : Vector). IsMonic v.terms) basis → basis ≡ []
  no_basis [] inside monic = refl
  no_basis (v ∷ vs) inside monic = absurd (subst IsMonic (zeros v inside.0) monic.0)

  -- minimal generators of zeros are none
  pub minimal_none : (generators : List Vector) → AreMinimal ring N B generators → generators ≡ []
  minimal_none generators h =
      subst (λ vs. AreKept ring B [] vs generators) (no_basis h.basis h.reduced.inside h.reduced.monic) h.kept

-- relations of no rows, modulo whatever module, are zeros
relations_are_zeros : (m : Matrix) (B : Vector → Type 0) → m.rows ≡ [] → (c : Vector) → IsRelation m B c → c.terms ≡ []
relations_are_zeros m B none c h =
    homogeneous_nil m.ring.weights (row_degrees m) (ap degrees_of none) c.degree c.terms h.coefficients.homogeneous

pub no_homology_without_rows : HasNoHomologyWithoutRows
no_homology_without_rows place none g r h =
    let base = InSpan (stacked place.arriving place.here) in
    let generators = minimal_none place.here.ring (IsCycle place.out place.beyond) base
    (relations_are_zeros place.out (InSpan place.beyond) none) g.rows h.generators_minimal in (
      generators,
      minimal_none place.here.ring (IsRelation g base) IsZero (relations_are_zeros g base generators) r.rows
          h.relations_minimal,
    )
