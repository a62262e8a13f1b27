-- A reduced basis of a module that is closed under combinations is the reduced basis of its own span, which over a field
-- is the module.
use Rattle.std.proofs.Common.{◌↔◌, ℕ, zero, suc, ◌<◌, List, [], ◌∷◌, length, subst, ℤ, arith}
use Rattle.std.proofs.lemmas.Int.{ints}
use Rattle.std.proofs.lemmas.List.{length-map}
use Rattle.std.specs.List.{AllByRecursion}
use Rattle.sf_algebra.specs.Matrices.{degrees_of}
use Rattle.sf_algebra.specs.MatrixOperations.{row_at}
use Rattle.sf_algebra.specs.Rings.{Ring, IsRing, IsOverField}
use Rattle.sf_algebra.specs.Terms.{Term}
use Rattle.sf_algebra.specs.Vectors.{Place, Vector, generator_degree, IsVector, IsCanonicalRow}
use Rattle.sf_algebra.proofs.Monomials.Weights.{field_ring}
use Rattle.sf_algebra.proofs.Vectors.UnitRows.{row_combination-unit, unit_term}
use Rattle.sf_groebner.specs.MinimalGenerators.{matrix_of}
use Rattle.sf_groebner.specs.ReducedBases.{IsMonic, IsReducedBasis}
use Rattle.sf_groebner.specs.Spans.{InSpan}
use Rattle.sf_groebner.proofs.Constructions.MatrixBases.{basis-monic}
use Rattle.sf_groebner.proofs.Constructions.MonicVectors.{IsMonicVector, monic_row}
use Rattle.sf_groebner.proofs.Spanning.SpanCombinations.{IsCombination-InSpan, InSpan-IsCombination}
use Rattle.sf_groebner.proofs.Spanning.Submodules.{IsSubmodule}
use Rattle.sf_groebner.proofs.Uniqueness.GeneratingBases.{IsCombination-basis}

-- what holds of the row at each position holds of each row
pub AllByRecursion-rows : (P : Vector → Type 0) (rows : List Vector)
    → ((i : ℕ) → i < length rows → P (record { degree = generator_degree (degrees_of rows) i; terms = row_at rows i }))
    → AllByRecursion P rows
AllByRecursion-rows P [] f = tt
AllByRecursion-rows P (v ∷ vs) f = (f zero (omega arith), AllByRecursion-rows P vs (λ i h. f (suc i) (omega arith)))

-- a monic row has a coefficient 1, so the modulus is above 1
monic-above_one : (ring : Ring) (ts : List (Term Place)) → IsCanonicalRow ring ts → IsMonic ts → 1 < ring.modulus
monic-above_one ring [] h monic = absurd monic
monic-above_one ring (t ∷ ts) h monic = subst (λ n. n < ring.modulus) monic h.residues.0.1

-- each monic row is in the span of the rows
module _ (ring : Ring) (positive : IsRing ring) (target : List ℤ) (rows : List Vector)
    (monic : AllByRecursion (IsMonicVector ring target) rows) where
  unit_coefficients : (i : ℕ) → i < length rows
      → IsVector ring (degrees_of rows) (record { degree = generator_degree (degrees_of rows) i; terms = unit_term i ∷ [] })
  unit_coefficients i within =
      let row = monic_row ring target rows monic i within in
      let above = monic-above_one ring (row_at rows i) row.vector.canonical row.monic in
      record {
        canonical = record { descending = (tt, tt); residues = ((omega arith, above), tt) };
        homogeneous = ((rw length-map within, omega (arith, ints)), tt);
      }

  pub rows-in_span : AllByRecursion (InSpan (matrix_of ring target rows)) rows
  rows-in_span =
      AllByRecursion-rows (InSpan (matrix_of ring target rows)) rows
      (λ i within.
      let row = monic_row ring target rows monic i within in
      let terms = row_combination-unit ring positive.modulus rows i row.vector.canonical in
      record {
        coefficients = record { degree = generator_degree (degrees_of rows) i; terms = unit_term i ∷ [] };
        homogeneous = unit_coefficients i within;
        value = λ j. record { degree = generator_degree (degrees_of rows) i; terms = terms j };
      })

module _ (ring : Ring) (target : List ℤ) (N : Vector → Type 0) (submodule : IsSubmodule ring target N)
    (basis : List Vector) (h : IsReducedBasis ring.weights N basis) where
  module _ (positive : IsRing ring) where
    own_span-inside : (v : Vector) → InSpan (matrix_of ring target basis) v → N v
    own_span-inside v k =
        let c = IsCombination-InSpan (matrix_of ring target basis) positive v k in
        subst (λ ts. N (record { degree = v.degree; terms = ts })) c.value
        (submodule.combinations basis h.inside v.degree c.coefficients c.homogeneous)

    pub reduced-own_span : IsReducedBasis ring.weights (InSpan (matrix_of ring target basis)) basis
    reduced-own_span = record {
      inside =
          rows-in_span ring positive target basis
          (basis-monic ring target N submodule.module_like.vectors basis h);
      monic = h.monic;
      complete = λ v k. h.complete v (own_span-inside v k);
      apart = h.apart;
      sorted = h.sorted;
    }

  pub own_span : IsOverField ring → (v : Vector) → N v ↔ InSpan (matrix_of ring target basis) v
  own_span prime v = (
    λ k. InSpan-IsCombination (matrix_of ring target basis) (field_ring prime) v (IsCombination-basis ring prime target N submodule basis h v k),
    own_span-inside (field_ring prime) v,
  )
