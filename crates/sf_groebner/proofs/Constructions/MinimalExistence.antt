-- A module with a reduced basis has minimal generators, modulo 0 and modulo a span.
use Rattle.std.proofs.Common.{inl, inr, List, [], ◌∷◌, ◌++◌, refl, ℤ}
use Rattle.std.specs.List.{AllByRecursion}
use Rattle.sf_algebra.specs.Rings.{Ring, IsOverField}
use Rattle.sf_algebra.specs.Vectors.{Vector, IsVector}
use Rattle.sf_algebra.proofs.Basics.Lists.{AllByRecursion-append, AllByRecursion-weaken}
use Rattle.sf_groebner.specs.MinimalGenerators.{AreKept, AreMinimal, IsInSum, matrix_of}
use Rattle.sf_groebner.specs.Presentations.{IsZero}
use Rattle.sf_groebner.specs.ReducedBases.{IsReducedBasis}
use Rattle.sf_groebner.specs.Spans.{InSpan}
use Rattle.sf_groebner.proofs.Basics.Decisions.{IsDecided}
use Rattle.sf_groebner.proofs.Constructions.SumDecisions.{decide_sum_span, decide_sum_zero}

-- minimal generators that are homogeneous vectors
pub record MinimalVectors (ring : Ring) (target : List ℤ) (N B : Vector → Type 0) : Type 0 where
  pub generators : List Vector
  pub vectors : AllByRecursion (IsVector ring target) generators
  pub minimal : AreMinimal ring N B generators

module _ (ring : Ring) (target : List ℤ) where
  -- whether a vector is in B plus a span is decided
  abbrev DecidesSums : (Vector → Type 0) → Type 0
  DecidesSums B =
      (earlier : List Vector) → AllByRecursion
      (IsVector ring target) earlier → (v : Vector) → IsVector ring target v → IsDecided (IsInSum ring earlier B v)

  kept_exists : (B : Vector → Type 0) → DecidesSums B → (earlier vs : List Vector)
      → AllByRecursion (IsVector ring target) earlier → AllByRecursion (IsVector ring target) vs
      → (kept : List Vector) × AllByRecursion (IsVector ring target) kept × AreKept ring B earlier vs kept
  kept_exists B decide earlier [] h k = ([], tt, refl)
  kept_exists B decide earlier (v ∷ vs) h k =
      let rest =
      kept_exists B decide (earlier ++ v ∷ []) vs
      (AllByRecursion-append (IsVector ring target) earlier (v ∷ []) h (k.0, tt)) k.1 in
      elim (decide earlier h v k.0) [
        | inl inside ↦ (rest.0, rest.1, inl (inside, rest.2))
        | inr outside ↦ (v ∷ rest.0, (k.0, rest.1), inr (outside, (rest.0, refl, rest.2)))
      ]

  module _ (prime : IsOverField ring) (N : Vector → Type 0) (vectors : (v : Vector) → N v → IsVector ring target v)
      (basis : List Vector) (reduced : IsReducedBasis ring.weights N basis) where
    minimal_exists : (B : Vector → Type 0) → DecidesSums B → MinimalVectors ring target N B
    minimal_exists B decide =
        let kept =
        kept_exists B decide [] basis tt
        (AllByRecursion-weaken N (IsVector ring target) vectors basis reduced.inside) in
        record {
          generators = kept.0;
          vectors = kept.1;
          minimal = record { basis = basis; reduced = reduced; kept = kept.2 };
        }

    pub minimal_modulo_zero : MinimalVectors ring target N IsZero
    minimal_modulo_zero = minimal_exists IsZero (decide_sum_zero ring prime target)

    pub minimal_modulo_span : (rows : List Vector) → AllByRecursion (IsVector ring target) rows
        → MinimalVectors ring target N (InSpan (matrix_of ring target rows))
    minimal_modulo_span rows h =
        minimal_exists (InSpan (matrix_of ring target rows))
        (λ earlier k v vector. decide_sum_span ring prime target earlier k v vector rows h)
