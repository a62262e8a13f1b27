-- Relations modulo a matrix without rows are syzygies; combinations of no rows are 0, and coefficients of none are.
use Rattle.std.proofs.Common.{◌≡◌, List, [], ◌∷◌, sym, ◌∙◌, ap, ℤ, arith}
use Rattle.sf_algebra.specs.Matrices.{Matrix}
use Rattle.sf_algebra.specs.MatrixOperations.{row_combination}
use Rattle.sf_algebra.specs.Rings.{Ring, IsRing}
use Rattle.sf_algebra.specs.Terms.{Term}
use Rattle.sf_algebra.specs.Vectors.{Place, Vector}
use Rattle.sf_algebra.proofs.GradedMatrices.MatrixRows.{StandsWithin}
use Rattle.sf_algebra.proofs.GradedMatrices.ProductParts.{combination-no_rows}
use Rattle.sf_algebra.proofs.Multiplying.Keys.{place_keys}
use Rattle.sf_groebner.specs.MinimalGenerators.{matrix_of}
use Rattle.sf_groebner.specs.Presentations.{IsRelation}
use Rattle.sf_groebner.specs.ReducedBases.{HasDividedLead, IsReducedBasis, IsSyzygyBasis}
use Rattle.sf_groebner.specs.Spans.{InSpan, IsSyzygy}
use Rattle.sf_groebner.proofs.PartsOfBases.GraphParts.{IsWithin-coefficients}
use Rattle.sf_groebner.proofs.Spanning.SameModules.{IsReducedBasis-same}

pub row_combination-no_rows : (ring : Ring) → IsRing ring → (c : List (Term Place)) → row_combination ring [] c ≡ []
row_combination-no_rows ring positive c =
    combination-no_rows (place_keys ring.weights) ring.modulus positive.modulus (λ (k : Place). k.monomial) c

pub span-no_rows : (ring : Ring) → IsRing ring → (target : List ℤ) (v : Vector) → InSpan (matrix_of ring target []) v
    → v.terms ≡ []
span-no_rows ring positive target v h =
    sym (ap (λ (w : Vector). w.terms) h.value) ∙ row_combination-no_rows ring positive h.coefficients.terms

no_lead : (ts : List (Term Place)) → StandsWithin 0 ts → HasDividedLead [] ts
no_lead [] h = tt
no_lead (t ∷ ts) h = absurd (omega (arith, h.0))

-- no rows have no relations
pub reduced-no_rows : (ring : Ring) (target : List ℤ) (B : Vector → Type 0)
    → IsReducedBasis ring.weights (IsRelation (matrix_of ring target []) B) []
reduced-no_rows ring target B = record {
  inside = tt;
  monic = tt;
  complete = λ c h. no_lead c.terms (IsWithin-coefficients (matrix_of ring target []) c h.coefficients);
  apart = tt;
  sorted = tt;
}

module _ (m : Matrix) (positive : IsRing m.ring) (target : List ℤ) where
  relation_from_syzygy : (c : Vector) → IsSyzygy m c → IsRelation m (InSpan (matrix_of m.ring target [])) c
  relation_from_syzygy c h = record {
    coefficients = h.coefficients;
    inside = record {
      coefficients = record { degree = c.degree; terms = [] };
      homogeneous = record { canonical = record { descending = tt; residues = tt }; homogeneous = tt };
      value = λ i. record { degree = c.degree; terms = (row_combination-no_rows m.ring positive [] ∙ sym h.zero) i };
    };
  }

  syzygy_from_relation : (c : Vector) → IsRelation m (InSpan (matrix_of m.ring target [])) c → IsSyzygy m c
  syzygy_from_relation c h = record {
    coefficients = h.coefficients;
    zero = span-no_rows m.ring positive target _ h.inside;
  }

  -- relations modulo no rows are syzygies
  pub reduced-free_relations : (basis : List Vector) → IsSyzygyBasis m basis
      → IsReducedBasis m.ring.weights (IsRelation m (InSpan (matrix_of m.ring target []))) basis
  reduced-free_relations basis h =
      IsReducedBasis-same m.ring.weights (IsSyzygy m)
      (IsRelation m (InSpan (matrix_of m.ring target []))) relation_from_syzygy syzygy_from_relation basis h
