-- What the plan of coordinates answers, by any relations that span all relations.
use Rattle.std.proofs.Common.{◌≡◌, ◌↔◌, true, false, ℕ, List, length, Bool, if◌then◌else◌, Option, Some, None, Ok, refl, sym, ◌∙◌, ap, subst}
use Rattle.std.specs.Prelude.{IsTrue}
use Rattle.sf_algebra.specs.Matrices.{Matrix, row_degrees, IsMatrix}
use Rattle.sf_algebra.specs.MatrixOperations.{stacked, vector_part}
use Rattle.sf_algebra.specs.Rings.{Ring, IsRing, IsOverField}
use Rattle.sf_algebra.specs.Vectors.{Vector, IsVector}
use Rattle.sf_algebra.proofs.Basics.Lists.{AllByRecursion-front}
use Rattle.sf_algebra.proofs.Monomials.Weights.{field_ring}
use Rattle.sf_groebner.specs.MinimalGenerators.{matrix_of}
use Rattle.sf_groebner.specs.Presentations.{AreRelationsModulo, IsReducedByRelations, IsRelation, IsZero}
use Rattle.sf_groebner.specs.Reductions.{IsReduction}
use Rattle.sf_groebner.specs.ReducedBases.{IsReducedBasis}
use Rattle.sf_groebner.specs.Spans.{InSpan}
use Rattle.sf_groebner.proofs.Constructions.MinimalExistence.{minimal_modulo_zero}
use Rattle.sf_groebner.proofs.Constructions.PresentationExistence.{relation_basis}
use Rattle.sf_groebner.proofs.Constructions.Reductions.{reduction_lift, reduction_zero}
use Rattle.sf_groebner.proofs.Spanning.SameModules.{IsReducedBasis-same}
use Rattle.sf_groebner.proofs.Uniqueness.ReducedCoordinates.{InSpan-relations, IsRelation-span}
use Rattle.sf_matrix.specs.Plans.{answer, ask}
use Rattle.sf_matrix.specs.Questions.{rest, is_zero}
use Rattle.sf_matrix.specs.Runs.{Run}
use Rattle.sf_matrix.proofs.Plans.Readings.{answer_is, ask_is, look_is}
use Rattle.sf_matrix.proofs.Zeros.{is_zero-tests}
use Rattle.sf_presented.specs.Coordinates.{AreCoordinates}
use Rattle.sf_presented.proofs.Coordinates.{coordinates-inside, coordinates-lift, unique_coordinates}
use Rattle.sf_genmor.specs.CoordinatePlans.{SpansRelationsModulo, TellsCoordinates, coordinates_plan}
use Rattle.sf_genmor.proofs.LookAnswers.{IsMatrix-base}

-- only the span of the relations counts
IsReducedByRelations-same : (r s : Matrix) → r.ring ≡ s.ring → ((c : Vector) → InSpan r c → InSpan s c)
    → ((c : Vector) → InSpan s c → InSpan r c)
    → (c : Vector) → IsReducedByRelations r c → IsReducedByRelations s c
IsReducedByRelations-same r s rings to from c h = record {
  basis = h.basis;
  reduced_basis =
      subst (λ (ring : Ring). IsReducedBasis ring.weights (InSpan s) h.basis) rings
      (IsReducedBasis-same r.ring.weights (InSpan r) (InSpan s) to from h.basis h.reduced_basis);
  reduced = h.reduced;
}

-- minimal relations, where the generators with the base behind them are a matrix over a field
minimal_relations : (g base : Matrix) → base.ring ≡ g.ring → base.target ≡ g.target → IsOverField g.ring
    → IsMatrix (stacked g base) → (r : Matrix) × AreRelationsModulo g base r
minimal_relations g base rings targets prime matrix =
    let base_matrix = IsMatrix-base g base (sym rings) (sym targets) matrix in
    let front = AllByRecursion-front (IsVector g.ring g.target) g.rows base.rows matrix in
    let basis = relation_basis g base prime (sym rings) (sym targets) front base_matrix in
    let minimal =
    minimal_modulo_zero g.ring (row_degrees g) prime (IsRelation g (InSpan base)) (λ c k. k.coefficients) basis.0 basis.1 in (
      matrix_of g.ring (row_degrees g) minimal.generators,
      record { base_matrix = base_matrix; base_ring = sym rings; ring = refl; target = refl; minimal = minimal.minimal },
    )

module _ (g base relations : Matrix) (prime : IsOverField g.ring) (spans : SpansRelationsModulo g base relations)
    (minimal : Matrix) (given : AreRelationsModulo g base minimal) where
  to_minimal : (v c : Vector) → AreCoordinates g base relations v c → AreCoordinates g base minimal v c
  to_minimal v c h = record {
    coefficients = h.coefficients;
    reduced =
        IsReducedByRelations-same relations minimal (spans.ring ∙ sym given.ring)
        (λ d k. InSpan-relations g base minimal prime given d ((spans.spans d).1 k))
        (λ d k. (spans.spans d).0 (IsRelation-span g base minimal prime given d k)) c h.reduced;
    value = h.value;
  }

  from_minimal : (v c : Vector) → AreCoordinates g base minimal v c → AreCoordinates g base relations v c
  from_minimal v c h = record {
    coefficients = h.coefficients;
    reduced =
        IsReducedByRelations-same minimal relations (given.ring ∙ sym spans.ring)
        (λ d k. (spans.spans d).0 (IsRelation-span g base minimal prime given d k))
        (λ d k. InSpan-relations g base minimal prime given d ((spans.spans d).1 k)) c h.reduced;
    value = h.value;
  }

-- truth values that tell the same are equal
pub same_told : (P : Type 0) (a b : Bool) → IsTrue a ↔ P → IsTrue b ↔ P → a ≡ b
same_told P true true h k = refl
same_told P true false h k = sym (k.1 (h.0 refl))
same_told P false true h k = h.1 (k.0 refl)
same_told P false false h k = refl

-- an answer tells the coordinates, and no other does
abbrev pub TellsOnly : Matrix → Matrix → Matrix → Vector → Option Vector → Type 0
TellsOnly g base relations v found =
    TellsCoordinates g base relations v found
    × ((other : Option Vector) → TellsCoordinates g base relations v other → other ≡ found)

module _ (g base relations : Matrix) (v : Vector) where
  -- one list of coordinates exactly where the vector is in the span
  tells_one : (c : Vector) → AreCoordinates g base relations v c → InSpan (stacked g base) v
      → ((d : Vector) → AreCoordinates g base relations v d → d ≡ c) → TellsOnly g base relations v (Some c)
  tells_one c h inside one = (h, only)
    where
      only : (other : Option Vector) → TellsCoordinates g base relations v other → other ≡ Some c
      only None k = absurd (k inside)
      only (Some d) k = ap Some (one d k)

  tells_none : (InSpan (stacked g base) v → ⊥) → ((d : Vector) → AreCoordinates g base relations v d → InSpan (stacked g base) v)
      → TellsOnly g base relations v None
  tells_none outside inside = (outside, only)
    where
      only : (other : Option Vector) → TellsCoordinates g base relations v other → other ≡ None
      only None k = refl
      only (Some d) k = absurd (outside (inside d k))

module _ (g base relations : Matrix) (rings : base.ring ≡ g.ring) (targets : base.target ≡ g.target)
    (spans : SpansRelationsModulo g base relations) (v : Vector) where
  -- what is left of a vector, and its coefficients, tell its coordinates
  pub reduction_tells : IsOverField g.ring → IsMatrix (stacked g base) → IsVector g.ring g.target v → (w c : Vector)
      → IsReduction (stacked g base) v w c
      → TellsOnly g base relations v (if is_zero w then Some (vector_part 0 (length g.rows) c) else None)
  reduction_tells prime matrix vector w c h = by (is_zero w) (is_zero-tests w.terms)
    where
      positive : IsRing g.ring
      positive = field_ring prime

      minimal : (r : Matrix) × AreRelationsModulo g base r
      minimal = minimal_relations g base rings targets prime matrix

      zero : IsZero w ↔ InSpan (stacked g base) v
      zero = reduction_zero (stacked g base) positive matrix v vector w c h

      one : (d e : Vector) → AreCoordinates g base relations v d → AreCoordinates g base relations v e → d ≡ e
      one d e k l =
          unique_coordinates g base minimal.0 prime minimal.1 v vector.canonical d e
          (to_minimal g base relations prime spans minimal.0 minimal.1 v d k)
          (to_minimal g base relations prime spans minimal.0 minimal.1 v e l)

      inside : (d : Vector) → AreCoordinates g base relations v d → InSpan (stacked g base) v
      inside d k =
          coordinates-inside g base minimal.0 prime minimal.1 v d vector.canonical
          (to_minimal g base relations prime spans minimal.0 minimal.1 v d k)

      found : IsZero w → AreCoordinates g base relations v (vector_part 0 (length g.rows) c)
      found none =
          from_minimal g base relations prime spans minimal.0 minimal.1 v (vector_part 0 (length g.rows) c)
          (coordinates-lift g base minimal.0 prime minimal.1 v c (reduction_lift (stacked g base) positive v w c h none))

      by : (b : Bool) → IsTrue b ↔ IsZero w
          → TellsOnly g base relations v (if b then Some (vector_part 0 (length g.rows) c) else None)
      by true e =
          tells_one g base relations v (vector_part 0 (length g.rows) c) (found (e.0 refl)) (zero.0 (e.0 refl))
          (λ d k. one d (vector_part 0 (length g.rows) c) k (found (e.0 refl)))
      by false e = tells_none g base relations v (λ k. clash (e.1 (zero.1 k))) inside
        where
          clash : false ≡ true → ⊥
          clash f = cc

  pub coordinates_are : (limit : ℕ) (looked : List Matrix) (found : Option Vector)
      → Run limit (coordinates_plan g base v) looked (Ok found) → TellsOnly g base relations v found
  unfolding coordinates_plan
  coordinates_are limit looked found run =
      let next = λ (left : Vector × Vector). answer (if is_zero left.0 then Some (vector_part 0 (length g.rows) left.1) else None) in
      let at = look_is limit (stacked g base) (λ elements. ask (rest (stacked g base) v) next) looked found run in
      let left = ask_is limit (rest (stacked g base) v) next at.1 found at.3 in
      let told = if is_zero left.0.0 then Some (vector_part 0 (length g.rows) left.0.1) else None in
      subst (TellsOnly g base relations v) (sym (answer_is limit told at.1 found left.3))
      (reduction_tells at.2.field at.2.matrix left.1.2 left.0.0 left.0.1 left.2)
