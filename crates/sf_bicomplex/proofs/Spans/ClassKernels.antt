-- The matrix of a map of classes: its kernel modulo relations are the coordinates of what corresponds to 0, and its span
-- with the relations the coordinates of all values.
use Rattle.std.proofs.Common.{◌≡◌, ◌↔◌, List, [], sym, subst, refl, ℤ}
use Rattle.sf_algebra.specs.Matrices.{IsMatrix, Matrix, degrees_of}
use Rattle.sf_algebra.specs.MatrixOperations.{stacked}
use Rattle.sf_algebra.specs.Multiples.{negative}
use Rattle.sf_algebra.specs.Rings.{IsOverField, IsRing, Ring}
use Rattle.sf_algebra.specs.VectorOperations.{row_sum, vector_difference}
use Rattle.sf_algebra.specs.Vectors.{IsVector, Vector}
use Rattle.sf_algebra.proofs.GradedMatrices.Stacks.{IsMatrix-stacked}
use Rattle.sf_algebra.proofs.Monomials.Weights.{field_ring}
use Rattle.sf_algebra.proofs.Vectors.Rows.{IsCanonical-row_combination}
use Rattle.sf_groebner.specs.Homology.{IsCycle}
use Rattle.sf_groebner.specs.Maps.{AreEqualModulo}
use Rattle.sf_groebner.specs.MinimalGenerators.{matrix_of}
use Rattle.sf_groebner.specs.Presentations.{IsPresentation}
use Rattle.sf_groebner.specs.Spans.{InSpan, combined}
use Rattle.sf_groebner.proofs.MapsOnHomology.EqualModulo.{add-negative_again}
use Rattle.sf_groebner.proofs.PartsOfBases.StackedSpans.{InSpan-stacked, InSpan-stacked_sum}
use Rattle.sf_groebner.proofs.Spanning.SpanCombinations.{span_submodule_of, zero-inside}
use Rattle.sf_groebner.proofs.Spanning.Spans.{IsVector-difference, combined-difference}
use Rattle.sf_groebner.proofs.Uniqueness.PresentedModules.{IsMatrix-relations}
use Rattle.sf_presented.proofs.EqualModulo.{AreEqualModulo-sym}
use Rattle.sf_bicomplex.specs.Descriptions.{HaveCoordinatesOf}
use Rattle.sf_bicomplex.proofs.Columns.Splits.{first_of_sum}
use Rattle.sf_bicomplex.proofs.Spans.ClassMaps.{IsClassMap, combined-corresponds, less_zero, mm-degrees, mm-matrix, mm-vector, target-combined, unique}
use Rattle.sf_bicomplex.proofs.Spans.ReducedCoordinates.{reduced_coordinates, relations-of}
use Rattle.sf_bicomplex.proofs.Spans.SpannedModules.{IsSpanned, IsSubmodule-spanned}

module _ (ring : Ring) (prime : IsOverField ring) (source target : List ℤ) (N B M A : Vector → Type 0)
    (n : IsSpanned ring source N) (b : IsSpanned ring source B) (m : IsSpanned ring target M)
    (a : IsSpanned ring target A) (F : Vector → Vector → Type 0) (f : IsClassMap ring N B M A F) (gs rs hs ss : List Vector)
    (given : IsPresentation ring source N B (matrix_of ring source gs) (matrix_of ring (degrees_of gs) rs))
    (other : IsPresentation ring target M A (matrix_of ring target hs) (matrix_of ring (degrees_of hs) ss))
    (ms : List Vector)
    (describes : HaveCoordinatesOf F (matrix_of ring target hs) (matrix_of ring (degrees_of hs) ss) gs ms) where
  abbrev g : Matrix
  g = matrix_of ring source gs

  abbrev h : Matrix
  h = matrix_of ring target hs

  abbrev s : Matrix
  s = matrix_of ring (degrees_of hs) ss

  abbrev d : Matrix
  d = matrix_of ring (degrees_of hs) ms

  positive : IsRing ring
  positive = field_ring prime

  vector-of : (c : Vector) → IsVector ring (degrees_of gs) c → IsVector ring (degrees_of hs) (combined d c)
  vector-of = mm-vector ring prime source target N B M A n b m a F f gs rs hs ss given other ms describes

  degrees-of : degrees_of ms ≡ degrees_of gs
  degrees-of = mm-degrees ring prime source target N B M A n b m a F f gs rs hs ss given other ms describes

  matrix-of : IsMatrix d
  matrix-of = mm-matrix ring prime source target N B M A n b m a F f gs rs hs ss given other ms describes

  relations-matrix : IsMatrix s
  relations-matrix =
      IsMatrix-relations ring target M A h s other

  corresponds : (c : Vector) → IsVector ring (degrees_of gs) c → F (combined g c) (combined h (combined d c))
  corresponds = combined-corresponds ring prime source target N B M A n b m a F f gs rs hs ss given other ms describes

  one_value : (u w x : Vector) → F u w → F u x → AreEqualModulo ring A w x
  one_value = unique ring prime source target N B M A n b m a F f gs rs hs ss given other

  values : (c : Vector) → IsVector ring (degrees_of hs) c → M (combined h c)
  values = target-combined ring prime source target N B M A n b m a F f gs rs hs ss given other

  nothing_less : (v : Vector) → IsVector ring target v
      → vector_difference ring v (record { degree = v.degree; terms = [] }) ≡ v
  nothing_less = less_zero ring prime source target N B M A n b m a F f gs rs hs ss given other target

  target_vector : (v : Vector) → M v → IsVector ring target v
  target_vector = (IsSubmodule-spanned ring target positive M m).module_like.vectors

  pub description-kernel : (c : Vector) → IsCycle (matrix_of ring (degrees_of hs) ms) (matrix_of ring (degrees_of hs) ss) c
      ↔ (IsVector ring (degrees_of gs) c
      × F (combined (matrix_of ring source gs) c) (record { degree = c.degree; terms = [] }))
  description-kernel c =
      let none : Vector = record { degree = c.degree; terms = [] } in
      let value : Vector = combined h (combined d c) in (
        λ e.
            let x = subst (λ ds. IsVector ring ds c) degrees-of e.coefficients in
            let inside = ((relations-of ring prime target M A m a hs ss other (combined d c)).1 e.inside).inside in
            let value_vector = target_vector value (values (combined d c) (vector-of c x)) in (
              x,
              f.equal (combined g c) value none (corresponds c x)
                  (zero-inside ring positive target M (IsSubmodule-spanned ring target positive M m) c.degree)
                  (record { degrees = refl; difference = subst A (sym (nothing_less value value_vector)) inside }),
            ),
        λ e.
            let value_vector = target_vector value (values (combined d c) (vector-of c e.0)) in
            let same = one_value (combined g c) value none (corresponds c e.0) e.1 in
            record {
              coefficients = subst (λ ds. IsVector ring ds c) (sym degrees-of) e.0;
              inside = (relations-of ring prime target M A m a hs ss other (combined d c)).0 (record {
                coefficients = vector-of c e.0;
                inside = subst A (nothing_less value value_vector) same.difference;
              });
            },
      )

  -- coefficients that give equal values differ by a relation
  differ : (c e : Vector) → IsVector ring (degrees_of hs) c → IsVector ring (degrees_of hs) e
      → AreEqualModulo ring A (combined h c) (combined h e) → InSpan s (vector_difference ring c e)
  differ c e x y same =
      (relations-of ring prime target M A m a hs ss other (vector_difference ring c e)).0 (record {
        coefficients = IsVector-difference ring positive (degrees_of hs) c e x y same.degrees;
        inside = subst A (sym (combined-difference h positive c e y.canonical)) same.difference;
      })

  pub description-image : (c : Vector)
      → InSpan (stacked (matrix_of ring (degrees_of hs) ms) (matrix_of ring (degrees_of hs) ss)) c
      ↔ (IsVector ring (degrees_of hs) c × (u : Vector) × F u (combined (matrix_of ring target hs) c))
  description-image c = (
    λ e.
        let split = InSpan-stacked d s positive refl c e in
        let k : Vector = split.in_span.coefficients in
        let k_vector : IsVector ring (degrees_of gs) k =
        subst (λ ds. IsVector ring ds k) degrees-of split.in_span.homogeneous in
        let both = IsMatrix-stacked d s refl refl matrix-of relations-matrix in
        let c_vector =
        (span_submodule_of ring positive (degrees_of hs) (stacked d s) refl refl both).module_like.vectors c e in
        let w : Vector = combined h split.second in
        let there : F (combined g k) w =
        subst (λ v. F (combined g k) (combined h v)) split.in_span.value (corresponds k k_vector) in
        let second_vector : IsVector ring (degrees_of hs) split.second =
        subst (IsVector ring (degrees_of hs)) split.in_span.value (vector-of k k_vector) in
        let relation = (relations-of ring prime target M A m a hs ss other split.first).1 split.in_module in
        let front : split.first.terms ≡ row_sum ring c.terms (negative ring.modulus split.second.terms) =
        first_of_sum ring positive split.first.terms split.second.terms c.terms relation.coefficients.canonical
        second_vector.canonical split.sum in
        let rest : split.first ≡ vector_difference ring c split.second =
        λ i. record { degree = split.first_degree i; terms = front i } in
        let same : AreEqualModulo ring A (combined h c) w = record {
          degrees = sym split.second_degree;
          difference =
              subst A (combined-difference h positive c split.second second_vector.canonical)
              (subst (λ v. A (combined h v)) rest relation.inside);
        } in (
          c_vector,
          combined g k,
          f.equal (combined g k) w (combined h c) there (values c c_vector)
              (AreEqualModulo-sym ring positive target A (IsSubmodule-spanned ring target positive A a) (combined h c) w
              (IsCanonical-row_combination ring positive.modulus hs c.terms)
              (IsCanonical-row_combination ring positive.modulus hs split.second.terms) same),
        ),
    λ e.
        let u = e.1 in
        let w = e.2 in
        let k = reduced_coordinates ring prime source N B n b gs rs given u (f.first u (combined h c) w) in
        let image : Vector = combined d k.0 in
        let image_vector = vector-of k.0 k.1 in
        let same : AreEqualModulo ring A (combined h c) (combined h image) =
        f.classes u (combined g k.0) (combined h c) (combined h image) w (corresponds k.0 k.1) k.3 in
        InSpan-stacked_sum d s positive refl c (record {
          first = vector_difference ring c image;
          second = image;
          in_module = differ c image e.0 image_vector same;
          in_span = record {
            coefficients = k.0;
            homogeneous = subst (λ ds. IsVector ring ds k.0) (sym degrees-of) k.1;
            value = refl;
          };
          first_degree = refl;
          second_degree = sym same.degrees;
          sum = add-negative_again ring positive c.terms image.terms e.0.canonical image_vector.canonical;
        }),
  )
