-- A presentation of a module modulo another one is one of each description of these modules; a basis spans, and a span lies in that
-- of a stack.
use Rattle.std.proofs.Common.{List, [], ℤ, ◌↔◌, ◌≡◌, refl, sym, subst}
use Rattle.sf_algebra.specs.Matrices.{Matrix, IsMatrix}
use Rattle.sf_algebra.specs.Rings.{Ring, IsRing, IsOverField}
use Rattle.sf_algebra.specs.MatrixOperations.{stacked}
use Rattle.sf_algebra.specs.Vectors.{Vector, IsCanonicalRow}
use Rattle.sf_algebra.proofs.Monomials.Weights.{field_ring}
use Rattle.sf_algebra.proofs.Vectors.RowSums.{row_sum-nil}
use Rattle.sf_algebra.proofs.Vectors.Rows.{IsCanonical-row_combination, row_combination-nil}
use Rattle.sf_groebner.specs.Presentations.{IsPresentation, IsRelation, IsZero}
use Rattle.sf_groebner.specs.Spans.{InSpan}
use Rattle.sf_groebner.proofs.Constructions.OwnSpans.{own_span}
use Rattle.sf_groebner.proofs.PartsOfBases.StackedSpans.{InSpan-stacked_sum}
use Rattle.sf_groebner.proofs.Spanning.SpanCombinations.{span_submodule}
use Rattle.sf_groebner.proofs.Uniqueness.MinimalGenerators.{AreMinimal-same}
use Rattle.sf_genmor.specs.LookPlans.{IsBasisMatrix}

module _ (ring : Ring) (target : List ℤ) (N B C : Vector → Type 0) (to : (v : Vector) → B v → C v)
    (from : (v : Vector) → C v → B v) where
  -- modulo another description of the same module
  pub IsPresentation-same : (g r : Matrix) → IsPresentation ring target N B g r → IsPresentation ring target N C g r
  IsPresentation-same g r h = record {
    generators_ring = h.generators_ring;
    generators_target = h.generators_target;
    generators_minimal = AreMinimal-same ring target N N B C (λ v k. k) (λ v k. k) to from g.rows h.generators_minimal;
    relations_ring = h.relations_ring;
    relations_target = h.relations_target;
    relations_minimal =
        AreMinimal-same ring r.target (IsRelation g B) (IsRelation g C) IsZero IsZero
        (λ c k. record { coefficients = k.coefficients; inside = to _ k.inside })
        (λ c k. record { coefficients = k.coefficients; inside = from _ k.inside })
        (λ v k. k) (λ v k. k) r.rows h.relations_minimal;
  }

-- a reduced basis of a span spans it
pub basis_span : (m b : Matrix) → IsOverField m.ring → IsMatrix m → IsBasisMatrix m b → (v : Vector)
    → InSpan m v ↔ InSpan b v
basis_span m b field matrix h v =
    let same = own_span m.ring m.target (InSpan m) (span_submodule m (field_ring field) matrix) b.rows h.reduced field v in
    subst (λ (ring : Ring). InSpan m v ↔ InSpan (record { ring = ring; target = b.target; rows = b.rows }) v) (sym h.ring) same

-- what is in the span of the rows below is in that of the stack
pub InSpan-behind : (a b : Matrix) → IsRing a.ring → a.ring ≡ b.ring → (v : Vector) → InSpan b v → InSpan (stacked a b) v
InSpan-behind a b positive rings v h =
    let zero : Vector = record { degree = v.degree; terms = [] } in
    let canonical : IsCanonicalRow b.ring v.terms =
    subst (λ (x : Vector). IsCanonicalRow b.ring x.terms) h.value
    (IsCanonical-row_combination b.ring (subst (λ r. IsRing r) rings positive).modulus b.rows h.coefficients.terms) in
    InSpan-stacked_sum a b positive rings v
    (record {
      first = v;
      second = zero;
      in_module = h;
      in_span = record {
        coefficients = zero;
        homogeneous = record { canonical = record { descending = tt; residues = tt }; homogeneous = tt };
        value = λ i. record { degree = v.degree; terms = row_combination-nil a.ring positive.modulus a.rows i };
      };
      first_degree = refl;
      second_degree = refl;
      sum = row_sum-nil a.ring positive.modulus v.terms (subst (λ r. IsCanonicalRow r v.terms) (sym rings) canonical);
    })
