-- The one rest of a vector by the reduced basis of a span, which is none exactly where the vector is in the span.
use Rattle.std.proofs.Common.{◌≡◌, ◌↔◌, ◌<◌, List, [], length, refl, sym, ◌∙◌, ap, subst, ℤ}
use Rattle.std.specs.declared.cmp.Ordering.TheVariants.{Less}
use Rattle.std.specs.List.{AllByRecursion}
use Rattle.sf_algebra.specs.Matrices.{Matrix, IsMatrix, degrees_of}
use Rattle.sf_algebra.specs.MatrixOperations.{row_combination}
use Rattle.sf_algebra.specs.Multiples.{negative}
use Rattle.sf_algebra.specs.Rings.{Ring, IsRing, IsOverField}
use Rattle.sf_algebra.specs.Sums.{normal}
use Rattle.sf_algebra.specs.Terms.{Term}
use Rattle.sf_algebra.specs.VectorOperations.{row_sum, vector_difference}
use Rattle.sf_algebra.specs.Vectors.{Place, Vector, place_cmp, IsVector, IsCanonicalRow}
use Rattle.sf_algebra.proofs.Basics.Lists.{AllByRecursion-weaken}
use Rattle.sf_algebra.proofs.Monomials.Orders.{place_cmp_linear}
use Rattle.sf_algebra.proofs.Monomials.Weights.{field_ring}
use Rattle.sf_algebra.proofs.Multiplying.Keys.{place_keys}
use Rattle.sf_algebra.proofs.Terms.Normal.{EachPlace-normal, IsCanonical-normal}
use Rattle.sf_algebra.proofs.Vectors.Degrees.{IsHomogeneous-normal}
use Rattle.sf_algebra.proofs.Vectors.RowSums.{row_sum-comm, row_sum-assoc, row_sum-nil_first}
use Rattle.sf_algebra.proofs.Vectors.Rows.{IsCanonical-row_combination}
use Rattle.sf_groebner.specs.Criterion.{IsMonicRow, lead_at, lead_multiple}
use Rattle.sf_groebner.specs.Divisions.{IsDivided, IsDivision}
use Rattle.sf_groebner.specs.MinimalGenerators.{matrix_of}
use Rattle.sf_groebner.specs.Presentations.{IsReducedByRelations}
use Rattle.sf_groebner.specs.ReducedBases.{HasDividedLead, IsMonic, IsSpanBasis}
use Rattle.sf_groebner.specs.Spans.{InSpan}
use Rattle.sf_groebner.proofs.Basics.Items.{AllByRecursion-both}
use Rattle.sf_groebner.proofs.Constructions.Divisions.{divide}
use Rattle.sf_groebner.proofs.Constructions.MatrixBases.{span_basis}
use Rattle.sf_groebner.proofs.Constructions.MonicVectors.{IsMonicVector, IsMonicVector-rows}
use Rattle.sf_groebner.proofs.Spanning.SpanCombinations.{row_combination-normal, span_submodule}
use Rattle.sf_groebner.proofs.Spanning.Spans.{span_module}
use Rattle.sf_groebner.proofs.Spanning.Submodules.{IsSubmodule}
use Rattle.sf_groebner.proofs.Uniqueness.Remainders.{IsReducedBy-none, same_reduced}
use Rattle.sf_groebner.proofs.Uniqueness.Subtractions.{add-negative_front}

module _ (ring : Ring) (positive : IsRing ring) where
  abbrev plus : List (Term Place) → List (Term Place) → List (Term Place)
  plus us vs = row_sum ring us vs

  -- where two sums are equal, the differences of their parts are
  pub add-negative_exchange : (u v x y : List (Term Place)) → IsCanonicalRow ring u → IsCanonicalRow ring v
      → IsCanonicalRow ring x → IsCanonicalRow ring y → plus u x ≡ plus v y
      → plus y (negative ring.modulus x) ≡ plus u (negative ring.modulus v)
  add-negative_exchange u v x y hu hv hx hy e =
      ap (λ l. plus l (negative ring.modulus x))
      (sym (add-negative_front (place_keys ring.weights) ring.modulus positive.modulus y v hy hv) ∙ ap (λ l. plus l (negative ring.modulus v)) (row_sum-comm ring positive.modulus y v ∙ sym e))
      ∙ row_sum-assoc ring positive.modulus (plus u x) (negative ring.modulus v) (negative ring.modulus x)
      ∙ ap (plus (plus u x)) (row_sum-comm ring positive.modulus (negative ring.modulus v) (negative ring.modulus x))
      ∙ sym (row_sum-assoc ring positive.modulus (plus u x) (negative ring.modulus x) (negative ring.modulus v))
      ∙ ap (λ l. plus l (negative ring.modulus v))
      (add-negative_front (place_keys ring.weights) ring.modulus positive.modulus u x hu hx)

-- quotients may be made canonical
pub IsDivided-normal : (ring : Ring) → IsRing ring → (target : List ℤ) (rows : List Vector) (d : ℤ)
    (ts rest quotients : List (Term Place)) → IsDivided ring target rows d ts rest quotients
    → IsDivided ring target rows d ts rest (normal (place_cmp ring.weights) ring.modulus quotients)
IsDivided-normal ring positive target rows d ts rest quotients e = record {
  vector = e.vector;
  homogeneous = IsHomogeneous-normal (degrees_of rows) ring d quotients e.homogeneous;
  reduced = e.reduced;
  below = λ b above.
      let others = e.below b above in (
        others.0,
        EachPlace-normal
            (λ k. (k.position < length rows) × (place_cmp ring.weights (lead_multiple (lead_at rows) k) b ≡ Less))
            (place_cmp ring.weights) ring.modulus quotients others.1,
      );
  sum = ap (row_sum ring rest) (row_combination-normal ring positive rows quotients) ∙ e.sum;
}

-- a division by monic rows, with the quotients as a vector
pub division_exists : (m : Matrix) → IsOverField m.ring → IsMatrix m → AllByRecursion (IsMonicRow m.ring) m.rows
    → (v : Vector) → IsVector m.ring m.target v
    → (rest : Vector) × (quotients : Vector) × IsDivision m.ring m.target m.rows v rest quotients
division_exists m prime matrix monic v vector =
    let ring : Ring = m.ring in
    let positive : IsRing ring = field_ring prime in
    let rows : AllByRecursion (IsMonicVector ring m.target) m.rows =
    IsMonicVector-rows ring m.target m.rows matrix monic in
    let e = divide ring prime m.target m.rows rows v vector in
    let quotients : List (Term Place) = normal (place_cmp ring.weights) ring.modulus e.quotients in
    let canonical = IsDivided-normal ring positive m.target m.rows v.degree v.terms e.rest e.quotients e.divided in (
      record { degree = v.degree; terms = e.rest },
      record { degree = v.degree; terms = quotients },
      record {
        rest_degree = refl;
        quotients_degree = refl;
        coefficients = record {
          canonical =
              IsCanonical-normal (place_cmp ring.weights)
              (place_cmp_linear ring.weights) ring.modulus positive.modulus e.quotients;
          homogeneous = canonical.homogeneous;
        };
        divided = canonical;
      },
    )

-- a division by the reduced basis of a span
pub basis_division : (m : Matrix) → IsOverField m.ring → IsMatrix m → (basis : List Vector) → IsSpanBasis m basis
    → (v : Vector) → IsVector m.ring m.target v
    → (rest : Vector) × (quotients : Vector) × IsDivision m.ring m.target basis v rest quotients
basis_division m prime matrix basis h =
    let vectors = (span_module m (field_ring prime) matrix).vectors in
    division_exists (matrix_of m.ring m.target basis) prime
    (AllByRecursion-weaken (InSpan m) (IsVector m.ring m.target) vectors basis h.inside)
    (AllByRecursion-both (InSpan m) (λ (w : Vector). IsMonic w.terms) (IsMonicRow m.ring) (λ w a b. record { canonical = (vectors w a).canonical; monic = b }) basis h.inside h.monic)

module _ (m : Matrix) (positive : IsRing m.ring) (matrix : IsMatrix m) (basis : List Vector) (h : IsSpanBasis m basis)
    (v : Vector) (vector : IsVector m.ring m.target v) where
  submodule : IsSubmodule m.ring m.target (InSpan m)
  submodule = span_submodule m positive matrix

  -- the combination with the quotients
  abbrev taken : Vector → Vector
  taken quotients = record { degree = quotients.degree; terms = row_combination m.ring basis quotients.terms }

  taken-inside : (rest quotients : Vector) → IsDivision m.ring m.target basis v rest quotients
      → InSpan m (taken quotients)
  taken-inside rest quotients e =
      submodule.combinations basis h.inside quotients.degree quotients.terms e.coefficients.homogeneous

  taken-canonical : (quotients : Vector) → IsCanonicalRow m.ring (taken quotients).terms
  taken-canonical quotients = IsCanonical-row_combination m.ring positive.modulus basis quotients.terms

  pub rest_unique : (rest quotients other others : Vector) → IsDivision m.ring m.target basis v rest quotients
      → IsDivision m.ring m.target basis v other others → rest ≡ other
  rest_unique rest quotients other others e f =
      let inside : InSpan m (vector_difference m.ring (taken others) (taken quotients)) =
      submodule.module_like.differences (taken others) (taken quotients) (taken-inside other others f)
      (taken-inside rest quotients e) (f.quotients_degree ∙ sym e.quotients_degree) in
      let exchanged = add-negative_exchange m.ring positive rest.terms other.terms (taken quotients).terms (taken others).terms e.divided.vector.canonical f.divided.vector.canonical
      (taken-canonical quotients) (taken-canonical others) (e.divided.sum ∙ sym f.divided.sum) in
      let terms : rest.terms ≡ other.terms =
      same_reduced m.ring positive basis rest other e.divided.vector.canonical f.divided.vector.canonical
      (subst (HasDividedLead basis) exchanged (h.complete (vector_difference m.ring (taken others) (taken quotients)) inside))
      e.divided.reduced f.divided.reduced in
      λ i. record { degree = (e.rest_degree ∙ sym f.rest_degree) i; terms = terms i }

  pub rest_none : (rest quotients : Vector) → IsDivision m.ring m.target basis v rest quotients
      → rest.terms ≡ [] ↔ InSpan m v
  rest_none rest quotients e = (
    λ none.
        let terms : (taken quotients).terms ≡ v.terms =
        sym (row_sum-nil_first m.ring positive.modulus (taken quotients).terms (taken-canonical quotients))
        ∙ ap (λ l. row_sum m.ring l (taken quotients).terms) (sym none)
        ∙ e.divided.sum in
        let same : taken quotients ≡ v = λ i. record { degree = e.quotients_degree i; terms = terms i } in
        subst (InSpan m) same (taken-inside rest quotients e),
    λ inside.
        let back : row_sum m.ring v.terms (negative m.ring.modulus (taken quotients).terms) ≡ rest.terms =
        ap (λ l. row_sum m.ring l (negative m.ring.modulus (taken quotients).terms)) (sym e.divided.sum)
        ∙ add-negative_front (place_keys m.ring.weights) m.ring.modulus positive.modulus rest.terms
        (taken quotients).terms e.divided.vector.canonical (taken-canonical quotients) in
        IsReducedBy-none basis rest.terms e.divided.reduced
        (subst (HasDividedLead basis) back
        (h.complete (vector_difference m.ring v (taken quotients)) (submodule.module_like.differences v (taken quotients) inside (taken-inside rest quotients e) (sym e.quotients_degree)))),
  )

-- a vector differs by one of the span from one that is reduced by the relations
pub reduced_vector_exists : (m : Matrix) → IsOverField m.ring → IsMatrix m → (v : Vector) → IsVector m.ring m.target v
    → (w : Vector) × IsVector m.ring m.target w × (w.degree ≡ v.degree) × InSpan m (vector_difference m.ring v w)
    × IsReducedByRelations m w
reduced_vector_exists m prime matrix v vector =
    let positive : IsRing m.ring = field_ring prime in
    let b = span_basis m prime matrix in
    let basis : List Vector = b.0 in
    let d = basis_division m prime matrix basis b.1 v vector in
    let rest : Vector = d.0 in
    let quotients : Vector = d.1 in
    let e = d.2 in
    let rest_vector : IsVector m.ring m.target rest =
    subst (λ d. IsVector m.ring m.target (record { degree = d; terms = rest.terms })) (sym e.rest_degree) e.divided.vector in
    let taken_terms : List (Term Place) = row_combination m.ring basis quotients.terms in
    let canonical : IsCanonicalRow m.ring taken_terms =
    IsCanonical-row_combination m.ring positive.modulus basis quotients.terms in
    let terms : taken_terms ≡ row_sum m.ring v.terms (negative m.ring.modulus rest.terms) =
    sym (add-negative_front (place_keys m.ring.weights) m.ring.modulus positive.modulus taken_terms rest.terms canonical e.divided.vector.canonical)
    ∙ ap (λ ts. row_sum m.ring ts (negative m.ring.modulus rest.terms))
    (row_sum-comm m.ring positive.modulus taken_terms rest.terms ∙ e.divided.sum) in (
      rest,
      rest_vector,
      e.rest_degree,
      subst (InSpan m) (λ i. record { degree = e.quotients_degree i; terms = terms i })
          ((span_submodule m positive matrix).combinations basis b.1.inside quotients.degree quotients.terms e.coefficients.homogeneous),
      record { basis = basis; reduced_basis = b.1; reduced = e.divided.reduced },
    )
