-- Monic rows whose pairs reduce to zero: a vector whose lead none of theirs divides is no sum of them; one row has no
-- syzygies.
use Rattle.std.proofs.Common.{◌≡◌, ℕ, ◌<◌, List, [], ◌∷◌, length, sym, ◌∙◌, ap, subst, ℤ, arith}
use Rattle.std.specs.List.{AllByRecursion}
use Rattle.sf_algebra.specs.MatrixOperations.{row_combination}
use Rattle.sf_algebra.specs.Rings.{Ring, IsRing}
use Rattle.sf_algebra.specs.Terms.{Term}
use Rattle.sf_algebra.specs.VectorOperations.{row_sum}
use Rattle.sf_algebra.specs.Vectors.{Place, Vector, place_cmp, IsCanonicalRow}
use Rattle.sf_algebra.proofs.Monomials.Orders.{place_cmp_linear}
use Rattle.sf_algebra.proofs.Terms.Sums.{normal-canonical}
use Rattle.sf_algebra.proofs.Vectors.RowSums.{row_sum-nil_first}
use Rattle.sf_algebra.proofs.Vectors.Rows.{IsCanonical-row_combination}
use Rattle.sf_groebner.specs.Criterion.{HaveLeadsAtOnePosition, IsForRows, IsMonicRow, ReducesToZero}
use Rattle.sf_groebner.specs.MinimalGenerators.{IsInSum, matrix_of}
use Rattle.sf_groebner.specs.Presentations.{IsZero}
use Rattle.sf_groebner.specs.ReducedBases.{HasDividedLead, IsReducedBasis}
use Rattle.sf_groebner.specs.Spans.{InSpan, IsSyzygy}
use Rattle.sf_groebner.proofs.PairTheorems.Buchberger.{buchberger}
use Rattle.sf_groebner.proofs.PairTheorems.Schreyer.{IsSpanned, schreyer}
use Rattle.sf_groebner.proofs.PartsOfBases.GraphParts.{IsWithin-coefficients}

module _ (ring : Ring) (positive : IsRing ring) where
  module _ (target : List ℤ) (rows : List Vector) (monic : AllByRecursion (IsMonicRow ring) rows)
      (pairs : (i j : ℕ) → i < j → j < length rows → HaveLeadsAtOnePosition rows i j → ReducesToZero ring rows i j) where
    span_lead : (v : Vector) → InSpan (matrix_of ring target rows) v → HasDividedLead rows v.terms
    span_lead v h =
        subst (λ (w : Vector). HasDividedLead rows w.terms) h.value
        (buchberger ring positive rows monic pairs h.coefficients.terms (IsWithin-coefficients (matrix_of ring target rows) h.coefficients h.homogeneous))

    sum-zero_first : (v : Vector) (h : IsInSum ring rows IsZero v) → h.second.terms ≡ v.terms
    sum-zero_first v h =
        sym (row_sum-nil_first ring positive.modulus h.second.terms
        (subst (λ (w : Vector). IsCanonicalRow ring w.terms) h.in_span.value (IsCanonical-row_combination ring positive.modulus rows h.in_span.coefficients.terms)))
        ∙ ap (λ us. row_sum ring us h.second.terms) (sym h.in_module)
        ∙ h.sum

    pub not_in_sum : (v : Vector) → (HasDividedLead rows v.terms → ⊥) → IsInSum ring rows IsZero v → ⊥
    not_in_sum v none h = none (subst (HasDividedLead rows) (sum-zero_first v h) (span_lead h.second h.in_span))

  -- combinations of no rows have no lead
  no_rows : (c : List (Term Place)) → AllByRecursion (IsForRows []) c → HasDividedLead [] (row_combination ring [] c)
  no_rows = buchberger ring positive [] tt (λ i j h k e. absurd (omega (arith, k)))

  pub no_syzygies : (target : List ℤ) (v : Vector) → IsMonicRow ring v
      → IsReducedBasis ring.weights (IsSyzygy (matrix_of ring target (v ∷ []))) []
  no_syzygies target v monic = record {
    inside = tt;
    monic = tt;
    complete = λ c h.
        let spanned : IsSpanned ring [] c.terms =
        schreyer ring positive (v ∷ []) [] tt (monic, tt)
        (λ i j earlier within e. absurd (omega (arith, earlier, within))) c.terms
        (IsWithin-coefficients (matrix_of ring target (v ∷ [])) c h.coefficients) h.zero in
        subst (HasDividedLead [])
        (spanned.value ∙ normal-canonical (place_cmp ring.weights) (place_cmp_linear ring.weights) ring.modulus positive.modulus c.terms h.coefficients.canonical) (no_rows spanned.coefficients spanned.for_rows);
    apart = tt;
    sorted = tt;
  }
