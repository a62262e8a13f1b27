-- Each vector has one reduction by relations: the rest of a division by their basis, and the lift of what was taken away.
use Rattle.std.proofs.Common.{◌≡◌, ◌↔◌, sym, ◌∙◌, ap, subst}
use Rattle.sf_algebra.specs.Matrices.{Matrix, IsMatrix}
use Rattle.sf_algebra.specs.MatrixOperations.{row_combination}
use Rattle.sf_algebra.specs.Multiples.{negative}
use Rattle.sf_algebra.specs.Rings.{Ring, IsRing, IsOverField}
use Rattle.sf_algebra.specs.VectorOperations.{row_sum, vector_difference}
use Rattle.sf_algebra.specs.Vectors.{Vector, IsVector, IsCanonicalRow}
use Rattle.sf_algebra.proofs.Monomials.Weights.{field_ring}
use Rattle.sf_algebra.proofs.Multiplying.Keys.{place_keys}
use Rattle.sf_algebra.proofs.Vectors.RowSums.{row_sum-comm, row_sum-nil_first}
use Rattle.sf_algebra.proofs.Vectors.Rows.{IsCanonical-row_combination}
use Rattle.sf_groebner.specs.Lifts.{IsLift}
use Rattle.sf_groebner.specs.Presentations.{IsZero}
use Rattle.sf_groebner.specs.ReducedBases.{HasDividedLead}
use Rattle.sf_groebner.specs.Reductions.{IsReduction}
use Rattle.sf_groebner.specs.Spans.{InSpan, combined}
use Rattle.sf_groebner.proofs.Constructions.LiftExistence.{lift_exists}
use Rattle.sf_groebner.proofs.Constructions.Rests.{add-negative_exchange, reduced_vector_exists}
use Rattle.sf_groebner.proofs.Spanning.Spans.{span_module}
use Rattle.sf_groebner.proofs.Uniqueness.Lifts.{unique_lift}
use Rattle.sf_groebner.proofs.Uniqueness.ReducedCoordinates.{unique_reduced_vector}
use Rattle.sf_groebner.proofs.Uniqueness.Remainders.{IsReducedBy-none}
use Rattle.sf_groebner.proofs.Uniqueness.Subtractions.{add-negative_back, add-negative_front}

pub reduction_exists : (m : Matrix) → IsOverField m.ring → IsMatrix m → (v : Vector) → IsVector m.ring m.target v
    → (w : Vector) × (c : Vector) × IsReduction m v w c
reduction_exists m prime matrix v vector =
    let ring : Ring = m.ring in
    let positive : IsRing ring = field_ring prime in
    let e = reduced_vector_exists m prime matrix v vector in
    let w : Vector = e.0 in
    let l = lift_exists m prime matrix (vector_difference ring v w) e.3 in
    let c : Vector = l.0 in
    let value : row_combination ring m.rows c.terms ≡ row_sum ring v.terms (negative ring.modulus w.terms) =
    ap (λ (x : Vector). x.terms) l.1.value in
    let terms : row_sum ring w.terms (row_combination ring m.rows c.terms) ≡ v.terms =
    ap (row_sum ring w.terms) value
    ∙ row_sum-comm ring positive.modulus w.terms (row_sum ring v.terms (negative ring.modulus w.terms))
    ∙ add-negative_back (place_keys ring.weights) ring.modulus positive.modulus v.terms
    w.terms vector.canonical e.1.canonical in (
      w,
      c,
      record {
        vector = e.1;
        reduced = e.4;
        lift = l.1;
        sum = λ i. record { degree = e.2 i; terms = terms i };
      },
    )

module _ (m : Matrix) (positive : IsRing m.ring) where
  canonical : (c : Vector) → IsCanonicalRow m.ring (combined m c).terms
  canonical c = IsCanonical-row_combination m.ring positive.modulus m.rows c.terms

  module _ (v w c : Vector) (e : IsReduction m v w c) where
    degree : w.degree ≡ v.degree
    degree = ap (λ (x : Vector). x.degree) e.sum

    -- the coefficients have the degree of v
    coefficients_degree : c.degree ≡ v.degree
    coefficients_degree = ap (λ (x : Vector). x.degree) e.lift.value

    sum : row_sum m.ring w.terms (row_combination m.ring m.rows c.terms) ≡ v.terms
    sum = ap (λ (x : Vector). x.terms) e.sum

    taken : InSpan m (combined m c)
    taken = record { coefficients = c; homogeneous = e.lift.coefficients; value = λ i. combined m c }

    all_taken : IsZero w → combined m c ≡ v
    all_taken none =
        let terms : row_combination m.ring m.rows c.terms ≡ v.terms =
        sym (row_sum-nil_first m.ring positive.modulus (row_combination m.ring m.rows c.terms) (canonical c))
        ∙ ap (λ ts. row_sum m.ring ts (row_combination m.ring m.rows c.terms)) (sym none)
        ∙ sum in
        λ i. record { degree = coefficients_degree i; terms = terms i }

    pub reduction_lift : IsZero w → IsLift m v c
    reduction_lift none = record {
      syzygies = e.lift.syzygies;
      basis = e.lift.basis;
      coefficients = e.lift.coefficients;
      value = all_taken none;
      reduced = e.lift.reduced;
    }

  module _ (matrix : IsMatrix m) (v : Vector) (vector : IsVector m.ring m.target v) where
    pub reduction_unique : (w c x d : Vector) → IsReduction m v w c → IsReduction m v x d → (w ≡ x) × (c ≡ d)
    reduction_unique w c x d e f =
        let degrees : w.degree ≡ x.degree = degree v w c e ∙ sym (degree v x d f) in
        let inside : InSpan m (vector_difference m.ring (combined m d) (combined m c)) =
        (span_module m positive matrix).differences (combined m d) (combined m c) (taken v x d f) (taken v w c e)
        (coefficients_degree v x d f ∙ sym (coefficients_degree v w c e)) in
        let exchanged = add-negative_exchange m.ring positive w.terms x.terms (combined m c).terms (combined m d).terms
        e.vector.canonical f.vector.canonical (canonical c) (canonical d) (sum v w c e ∙ sym (sum v x d f)) in
        let same_difference : vector_difference m.ring (combined m d) (combined m c) ≡ vector_difference m.ring w x =
        λ i. record { degree = (coefficients_degree v x d f ∙ sym (degree v w c e)) i; terms = exchanged i } in
        let same : w ≡ x =
        unique_reduced_vector m positive matrix w x e.vector f.vector degrees
        (subst (InSpan m) same_difference inside) e.reduced f.reduced in
        (same, unique_lift m positive (vector_difference m.ring v x) c d (subst (λ y. IsLift m (vector_difference m.ring v y) c) same e.lift) f.lift)

    pub reduction_zero : (w c : Vector) → IsReduction m v w c → IsZero w ↔ InSpan m v
    reduction_zero w c e = (
      λ none. record { coefficients = c; homogeneous = e.lift.coefficients; value = all_taken v w c e none },
      λ inside.
          let back : row_sum m.ring v.terms (negative m.ring.modulus (combined m c).terms) ≡ w.terms =
          ap (λ l. row_sum m.ring l (negative m.ring.modulus (combined m c).terms)) (sym (sum v w c e))
          ∙ add-negative_front (place_keys m.ring.weights) m.ring.modulus positive.modulus w.terms
          (combined m c).terms e.vector.canonical (canonical c) in
          IsReducedBy-none e.reduced.basis w.terms e.reduced.reduced
          (subst (HasDividedLead e.reduced.basis) back
          (e.reduced.reduced_basis.complete (vector_difference m.ring v (combined m c)) ((span_module m positive matrix).differences v (combined m c) inside (taken v w c e) (sym (coefficients_degree v w c e))))),
    )
