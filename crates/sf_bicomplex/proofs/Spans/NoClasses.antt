-- Where each vector of N is in B, the presentation of N modulo B has no generators and no relations.
use Rattle.std.proofs.Common.{List, [], ◌∷◌, ◌++◌, inl, refl, ℤ}
use Rattle.std.specs.List.{AllByRecursion}
use Rattle.sf_algebra.specs.Rings.{Ring, IsRing, IsOverField}
use Rattle.sf_algebra.specs.Vectors.{Vector, IsCanonicalRow, IsVector}
use Rattle.sf_algebra.proofs.Basics.Lists.{AllByRecursion-weaken}
use Rattle.sf_algebra.proofs.Monomials.Weights.{field_ring}
use Rattle.sf_algebra.proofs.Vectors.RowSums.{row_sum-nil}
use Rattle.sf_algebra.proofs.Vectors.Rows.{row_combination-nil}
use Rattle.sf_groebner.specs.MinimalGenerators.{AreKept, IsInSum, matrix_of}
use Rattle.sf_groebner.specs.Presentations.{IsPresentation}
use Rattle.sf_groebner.specs.Spans.{InSpan}
use Rattle.sf_groebner.proofs.Constructions.MatrixBases.{span_basis}
use Rattle.sf_groebner.proofs.Spanning.SameModules.{IsReducedBasis-same}
use Rattle.sf_groebner.proofs.WorkedExamples.FreeRelations.{reduced-no_rows}
use Rattle.sf_bicomplex.proofs.Spans.SpannedModules.{IsSpanned, IsSubmodule-spanned}

module _ (ring : Ring) (positive : IsRing ring) (B : Vector → Type 0) where
  -- what is in B is a sum of itself and nothing
  IsInSum-inside : (earlier : List Vector) (v : Vector) → IsCanonicalRow ring v.terms → B v → IsInSum ring earlier B v
  IsInSum-inside earlier v canonical h = record {
    first = v;
    second = record { degree = v.degree; terms = [] };
    in_module = h;
    in_span = record {
      coefficients = record { degree = v.degree; terms = [] };
      homogeneous = record { canonical = record { descending = tt; residues = tt }; homogeneous = tt };
      value = λ i. record { degree = v.degree; terms = row_combination-nil ring positive.modulus earlier i };
    };
    first_degree = refl;
    second_degree = refl;
    sum = row_sum-nil ring positive.modulus v.terms canonical;
  }

  pub kept-none : (earlier vs : List Vector) → AllByRecursion (λ v. IsCanonicalRow ring v.terms × B v) vs
      → AreKept ring B earlier vs []
  kept-none earlier [] h = refl
  kept-none earlier (v ∷ vs) h =
      inl (IsInSum-inside earlier v h.0.0 h.0.1, kept-none (earlier ++ v ∷ []) vs h.1)

module _ (ring : Ring) (prime : IsOverField ring) (target : List ℤ) (N B : Vector → Type 0)
    (spanned : IsSpanned ring target N) (inside : (v : Vector) → N v → B v) where
  pub presentation-none : IsPresentation ring target N B (matrix_of ring target []) (matrix_of ring [] [])
  presentation-none =
      let positive : IsRing ring = field_ring prime in
      let found = span_basis (matrix_of ring target spanned.rows) prime spanned.matrix in
      let reduced =
      IsReducedBasis-same ring.weights (InSpan (matrix_of ring target spanned.rows)) N (λ v. (spanned.spans v).1)
      (λ v. (spanned.spans v).0) found.0 found.1 in
      let vectors : (v : Vector) → N v → IsVector ring target v =
      (IsSubmodule-spanned ring target positive N spanned).module_like.vectors in
      record {
        generators_ring = refl;
        generators_target = refl;
        generators_minimal = record {
          basis = found.0;
          reduced = reduced;
          kept =
              kept-none ring positive B [] found.0
              (AllByRecursion-weaken N (λ v. IsCanonicalRow ring v.terms × B v)
              (λ v k. ((vectors v k).canonical, inside v k)) found.0 reduced.inside);
        };
        relations_ring = refl;
        relations_target = refl;
        relations_minimal = record { basis = []; reduced = reduced-no_rows ring target B; kept = refl };
      }
