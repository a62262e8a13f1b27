-- A matrix is the identity modulo relations where it gives the unit vectors back. An inverse has its rows reduced, which
-- changes none of its classes; and two inverses have equal classes, since each undoes what the other does.
use Rattle.std.proofs.Common.{◌≡◌, ◌↔◌, ◌<◌, List, [], ◌∷◌, map, refl, sym, ◌∙◌, ap, subst}
use Rattle.std.specs.List.{AllByRecursion}
use Rattle.sf_algebra.specs.Matrices.{Matrix, row_degrees, IsMatrix}
use Rattle.sf_algebra.specs.MatrixOperations.{identity, matrix_product, row_combination, unit_rows}
use Rattle.sf_algebra.specs.Rings.{Ring, IsRing, IsOverField}
use Rattle.sf_algebra.specs.Vectors.{Vector, IsVector, IsHomogeneous, IsCanonicalRow}
use Rattle.sf_algebra.proofs.Basics.Lists.{AllByRecursion-weaken}
use Rattle.sf_algebra.proofs.GradedMatrices.Identities.{IsMatrix-identity, row_degrees-identity}
use Rattle.sf_algebra.proofs.GradedMatrices.ProductLaws.{matrix_product-identity_first}
use Rattle.sf_algebra.proofs.Monomials.Weights.{field_ring}
use Rattle.sf_algebra.proofs.Vectors.HomogeneousVectors.{row_combination-identity}
use Rattle.sf_algebra.proofs.Vectors.Rows.{row_combination-matrix_product}
use Rattle.sf_groebner.specs.Maps.{AreEqualModulo}
use Rattle.sf_groebner.specs.MinimalGenerators.{matrix_of}
use Rattle.sf_groebner.specs.Presentations.{IsModuleMap, IsReducedByRelations}
use Rattle.sf_groebner.specs.Spans.{InSpan, combined}
use Rattle.sf_groebner.proofs.Constructions.Rests.{reduced_vector_exists}
use Rattle.sf_groebner.proofs.MapsOnHomology.EqualModulo.{AreEqualModulo-inside, combined-AreEqualModulo}
use Rattle.sf_groebner.proofs.MapsOnHomology.Squares.{IsVector-combined, IsCanonical-combined}
use Rattle.sf_groebner.proofs.Spanning.SpanCombinations.{span_submodule, span_submodule_of}
use Rattle.sf_groebner.proofs.Spanning.Submodules.{IsSubmodule}
use Rattle.sf_groebner.proofs.Uniqueness.ReducedCoordinates.{unique_reduced_vector}
use Rattle.sf_presented.specs.Inverses.{GivesBack, GivesUnitsBack, IsIdentityModulo, AreInverseModulo}
use Rattle.sf_presented.proofs.Composites.{combined-matrix_product}
use Rattle.sf_presented.proofs.EqualModulo.{AreEqualModulo-sym, AreEqualModulo-trans}
use Rattle.sf_presented.proofs.EqualRows.{AreEqualRows, EqualRows-map, EqualRows-image, EqualRows-degrees, EqualRows-combined, canonical-with_terms}

module _ (relations m : Matrix) (positive : IsRing relations.ring) (above : 1 < relations.ring.modulus)
    (same_ring : m.ring ≡ relations.ring) (matrix : IsMatrix relations) where
  units-back : IsIdentityModulo relations m → GivesUnitsBack relations m
  units-back h =
      AllByRecursion-weaken _ (GivesBack relations m) h (identity relations.ring relations.target).rows
      (IsMatrix-identity relations.ring above relations.target)

  identity-by_units : GivesUnitsBack relations m → IsIdentityModulo relations m
  identity-by_units h v vector =
      let ring : Ring = relations.ring in
      let units : List Vector = unit_rows 0 relations.target in
      let image : Vector → Vector = λ u. record { degree = u.degree; terms = row_combination ring m.rows u.terms } in
      let rows : AreEqualRows ring (InSpan relations) units (map image units) =
      EqualRows-image ring (InSpan relations) image units
      (AllByRecursion-weaken _ _
      (λ u k. subst (λ q. AreEqualModulo ring (InSpan relations) u
      (record { degree = u.degree; terms = row_combination q m.rows u.terms })) same_ring k) units h) in
      let same =
      EqualRows-combined ring positive (InSpan relations) relations.target
      (span_submodule relations positive matrix) units (map image units)
      (canonical-with_terms ring positive m.rows units) rows v
      (subst (λ ds. IsHomogeneous ring.weights ds v.degree v.terms)
      (sym (row_degrees-identity ring relations.target)) vector.homogeneous) in
      let first : row_combination ring units v.terms ≡ v.terms =
      row_combination-identity ring positive.modulus relations.target v vector in
      let second : row_combination ring (map image units) v.terms ≡ row_combination m.ring m.rows v.terms =
      row_combination-matrix_product ring positive.modulus (matrix_of ring relations.target units) m v.terms refl
      ∙ (λ i. row_combination (sym same_ring i) m.rows (first i)) in
      subst (λ x. AreEqualModulo ring (InSpan relations) x (combined m v))
      (λ i. record { degree = v.degree; terms = first i })
      (subst (AreEqualModulo ring (InSpan relations)
      (record { degree = v.degree; terms = row_combination ring units v.terms }))
      (λ i. record { degree = v.degree; terms = second i }) same)

  pub identity-units : IsIdentityModulo relations m ↔ GivesUnitsBack relations m
  identity-units = (units-back, identity-by_units)

-- vectors, each with one that is reduced by relations and equal to it
record ReducedRows (relations : Matrix) (vs : List Vector) : Type 0 where
  rows : List Vector
  vectors : AllByRecursion (IsVector relations.ring relations.target) rows
  equal : AreEqualRows relations.ring (InSpan relations) vs rows
  reduced : AllByRecursion (IsReducedByRelations relations) rows

reduced_rows : (relations : Matrix) → IsOverField relations.ring → IsMatrix relations → (vs : List Vector)
    → AllByRecursion (IsVector relations.ring relations.target) vs → ReducedRows relations vs
reduced_rows relations prime matrix [] h = record { rows = []; vectors = tt; equal = tt; reduced = tt }
reduced_rows relations prime matrix (v ∷ vs) h =
    let w = reduced_vector_exists relations prime matrix v h.0 in
    let rest = reduced_rows relations prime matrix vs h.1 in
    record {
      rows = w.0 ∷ rest.rows;
      vectors = (w.1, rest.vectors);
      equal = (record { degrees = sym w.2; difference = w.3 }, rest.equal);
      reduced = (w.4, rest.reduced);
    }

-- reduced vectors that are equal modulo relations, one after another
same_reduced_rows : (relations : Matrix) → IsRing relations.ring → IsMatrix relations → (vs ws : List Vector)
    → AllByRecursion (IsVector relations.ring relations.target) vs
    → AllByRecursion (IsVector relations.ring relations.target) ws
    → AllByRecursion (IsReducedByRelations relations) vs → AllByRecursion (IsReducedByRelations relations) ws
    → AreEqualRows relations.ring (InSpan relations) vs ws → vs ≡ ws
same_reduced_rows relations positive matrix [] [] h k r s e = refl
same_reduced_rows relations positive matrix [] (w ∷ ws) h k r s e = absurd e
same_reduced_rows relations positive matrix (v ∷ vs) [] h k r s e = absurd e
same_reduced_rows relations positive matrix (v ∷ vs) (w ∷ ws) h k r s e =
    let first : v ≡ w = unique_reduced_vector relations positive matrix v w h.0 k.0 e.0.degrees e.0.difference r.0 s.0 in
    let rest = same_reduced_rows relations positive matrix vs ws h.1 k.1 r.1 s.1 e.1 in
    λ i. first i ∷ rest i

module _ (first second to : Matrix) (prime : IsOverField first.ring) (first_matrix : IsMatrix first) where
  abbrev ring : Ring
  ring = first.ring

  positive : IsRing ring
  positive = field_ring prime

  inside_first : IsSubmodule ring first.target (InSpan first)
  inside_first = span_submodule first positive first_matrix

  module _ (to_map : IsModuleMap first second to) where
    second_ring : second.ring ≡ ring
    second_ring = sym to_map.target_ring ∙ to_map.source_ring

    inside_second : IsMatrix second → IsSubmodule ring second.target (InSpan second)
    inside_second second_matrix = span_submodule_of ring positive second.target second second_ring refl second_matrix

    -- a vector over the target of the second
    over_second : (v : Vector) → IsVector second.ring second.target v → IsVector ring second.target v
    over_second v h = subst (λ q. IsVector q second.target v) second_ring h

    to_vector : (v : Vector) → IsVector ring first.target v → IsVector ring second.target (combined to v)
    to_vector v h =
        IsVector-combined ring positive to to_map.source_ring to_map.matrix first.target second.target
        to_map.source_degrees to_map.target_degrees v h

  module _ (second_matrix : IsMatrix second) (from : Matrix) (h : AreInverseModulo first second to from) where
    from_rows : AllByRecursion (IsVector ring first.target) from.rows
    from_rows =
        subst (λ q. AllByRecursion (IsVector q first.target) from.rows) h.from_map.target_ring
        (subst (λ ds. AllByRecursion (IsVector from.ring ds) from.rows) h.from_map.target_degrees h.from_map.matrix)

    some : ReducedRows first from.rows
    some = reduced_rows first prime first_matrix from.rows from_rows

    abbrev inverse : Matrix
    inverse = matrix_of ring first.target some.rows

    degrees-inverse : row_degrees inverse ≡ row_degrees from
    degrees-inverse = sym (EqualRows-degrees ring positive (InSpan first) from.rows some.rows some.equal)

    from_ring : from.ring ≡ ring
    from_ring = h.from_map.target_ring

    -- both give what is equal
    from-equal : (v : Vector) → IsVector ring second.target v
        → AreEqualModulo ring (InSpan first) (combined from v) (combined inverse v)
    from-equal v vector =
        subst (λ q. AreEqualModulo ring (InSpan first)
        (record { degree = v.degree; terms = row_combination q from.rows v.terms }) (combined inverse v)) (sym from_ring)
        (EqualRows-combined ring positive (InSpan first) first.target inside_first from.rows some.rows
        (AllByRecursion-weaken _ _ (λ w k. k.canonical) some.rows some.vectors) some.equal v
        (subst (λ ds. IsHomogeneous ring.weights ds v.degree v.terms) (sym h.from_map.source_degrees) vector.homogeneous))

    canonical-from : (v : Vector) → IsCanonicalRow ring (combined from v).terms
    canonical-from v = IsCanonical-combined ring positive from from_ring v

    canonical-inverse : (v : Vector) → IsCanonicalRow ring (combined inverse v).terms
    canonical-inverse v = IsCanonical-combined ring positive inverse refl v

    inverse_map : IsModuleMap second first inverse
    inverse_map = record {
      matrix = some.vectors;
      source_ring = sym (second_ring h.to_map);
      target_ring = refl;
      source_degrees = degrees-inverse ∙ h.from_map.source_degrees;
      target_degrees = refl;
      sends = λ v k.
          AreEqualModulo-inside ring positive first.target (InSpan first) inside_first.module_like (combined from v)
          (combined inverse v)
          (canonical-inverse v) (from-equal v ((inside_second h.to_map second_matrix).module_like.vectors v k))
          (h.from_map.sends v k);
    }

    to_positive : IsRing to.ring
    to_positive = subst (λ q. IsRing q) (sym h.to_map.source_ring) positive

    inverse-back : IsIdentityModulo first (matrix_product to inverse)
    inverse-back v vector =
        let w : Vector = combined to v in
        let given : AreEqualModulo ring (InSpan first) v (combined from w) =
        subst (AreEqualModulo ring (InSpan first) v)
        (combined-matrix_product to from to_positive (h.to_map.source_ring ∙ sym from_ring) v) (h.back v vector) in
        subst (AreEqualModulo ring (InSpan first) v)
        (sym (combined-matrix_product to inverse to_positive h.to_map.source_ring v))
        (AreEqualModulo-trans ring positive first.target (InSpan first) inside_first v (combined from w)
        (combined inverse w) vector.canonical (canonical-from w) (canonical-inverse w) given
        (from-equal w (to_vector h.to_map v vector)))

    inverse-forth : IsIdentityModulo second (matrix_product inverse to)
    inverse-forth v vector =
        let given : AreEqualModulo second.ring (InSpan second) v (combined to (combined from v)) =
        subst (AreEqualModulo second.ring (InSpan second) v)
        (combined-matrix_product from to (subst (λ q. IsRing q) (sym from_ring) positive)
        (from_ring ∙ sym h.to_map.source_ring) v) (h.forth v vector) in
        let same : AreEqualModulo to.ring (InSpan second) (combined to (combined from v))
        (combined to (combined inverse v)) =
        combined-AreEqualModulo to to_positive (InSpan first) (InSpan second) h.to_map.sends (combined from v)
        (combined inverse v)
        (subst (λ q. IsCanonicalRow q (combined inverse v).terms) (sym h.to_map.source_ring) (canonical-inverse v))
        (subst (λ q. AreEqualModulo q (InSpan first) (combined from v) (combined inverse v))
        (sym h.to_map.source_ring) (from-equal v (over_second h.to_map v vector))) in
        let second_positive : IsRing second.ring = subst (λ q. IsRing q) (sym (second_ring h.to_map)) positive in
        subst (AreEqualModulo second.ring (InSpan second) v)
        (sym (combined-matrix_product inverse to positive (sym h.to_map.source_ring) v))
        (AreEqualModulo-trans second.ring second_positive second.target (InSpan second)
        (span_submodule second second_positive second_matrix) v (combined to (combined from v))
        (combined to (combined inverse v))
        vector.canonical
        (IsCanonical-combined second.ring second_positive to h.to_map.target_ring (combined from v))
        (IsCanonical-combined second.ring second_positive to h.to_map.target_ring (combined inverse v))
        given (subst (λ q. AreEqualModulo q (InSpan second) (combined to (combined from v))
        (combined to (combined inverse v))) h.to_map.target_ring same))

    pub reduced_inverse : (inverse : Matrix) × AreInverseModulo first second to inverse
        × AllByRecursion (IsReducedByRelations first) inverse.rows
    reduced_inverse = (
      inverse,
      record { to_map = h.to_map; from_map = inverse_map; back = inverse-back; forth = inverse-forth },
      some.reduced,
    )

  module _ (a b : Matrix) (h : AreInverseModulo first second to a) (k : AreInverseModulo first second to b) where
    a_ring : a.ring ≡ ring
    a_ring = h.from_map.target_ring

    b_ring : b.ring ≡ ring
    b_ring = k.from_map.target_ring

    -- v a is equal to v b to a, and so to v b
    inverses-equal : (v : Vector) → IsVector ring second.target v
        → AreEqualModulo ring (InSpan first) (combined a v) (combined b v)
    inverses-equal v vector =
        let to_ring : to.ring ≡ ring = h.to_map.source_ring in
        let w : Vector = combined b v in
        let u : Vector = combined to w in
        let w_vector : IsVector ring first.target w =
        IsVector-combined ring positive b b_ring k.from_map.matrix second.target first.target
        k.from_map.source_degrees k.from_map.target_degrees v vector in
        let given : AreEqualModulo second.ring (InSpan second) v u =
        subst (AreEqualModulo second.ring (InSpan second) v)
        (combined-matrix_product b to (subst (λ q. IsRing q) (sym b_ring) positive) (b_ring ∙ sym to_ring) v)
        (k.forth v (subst (λ q. IsVector q second.target v) (sym (second_ring h.to_map)) vector)) in
        let one : AreEqualModulo ring (InSpan first) (combined a v) (combined a u) =
        subst (λ q. AreEqualModulo q (InSpan first) (combined a v) (combined a u)) a_ring
        (combined-AreEqualModulo a (subst (λ q. IsRing q) (sym a_ring) positive) (InSpan second)
        (InSpan first) h.from_map.sends v u
        (IsCanonical-combined a.ring (subst (λ q. IsRing q) (sym a_ring) positive) to (to_ring ∙ sym a_ring) w)
        (subst (λ q. AreEqualModulo q (InSpan second) v u) (second_ring h.to_map ∙ sym a_ring) given)) in
        let two : AreEqualModulo ring (InSpan first) w (combined a u) =
        subst (AreEqualModulo ring (InSpan first) w)
        (combined-matrix_product to a (subst (λ q. IsRing q) (sym to_ring) positive) (to_ring ∙ sym a_ring) w)
        (h.back w w_vector) in
        AreEqualModulo-trans ring positive first.target (InSpan first) inside_first (combined a v) (combined a u) w
        (IsCanonical-combined ring positive a a_ring v)
        (IsCanonical-combined ring positive a a_ring u) w_vector.canonical one
        (AreEqualModulo-sym ring positive first.target (InSpan first) inside_first w (combined a u) w_vector.canonical
        (IsCanonical-combined ring positive a a_ring u) two)

    -- the rows of a map out of the second module, as images of unit vectors
    rows-images : (m : Matrix) → IsModuleMap second first m
        → map (combined m) (unit_rows 0 second.target) ≡ m.rows
    rows-images m l =
        let m_positive : IsRing m.ring = subst (λ q. IsRing q) (sym l.target_ring) positive in
        ap (λ ds. map (combined m) (unit_rows 0 ds)) (sym l.source_degrees)
        ∙ (λ i. (matrix_product-identity_first m m_positive.modulus l.matrix i).rows)

    rows-equal : AreEqualRows ring (InSpan first) a.rows b.rows
    rows-equal =
        subst (λ vs. AreEqualRows ring (InSpan first) vs b.rows) (rows-images a h.from_map)
        (subst (AreEqualRows ring (InSpan first) (map (combined a) (unit_rows 0 second.target)))
        (rows-images b k.from_map)
        (EqualRows-map ring (InSpan first) (combined a) (combined b) (unit_rows 0 second.target)
        (AllByRecursion-weaken _ _ inverses-equal (unit_rows 0 second.target)
        (IsMatrix-identity ring prime.prime.above_one second.target))))

    rows-vectors : (m : Matrix) → IsModuleMap second first m → AllByRecursion (IsVector ring first.target) m.rows
    rows-vectors m l =
        subst (λ q. AllByRecursion (IsVector q first.target) m.rows) l.target_ring
        (subst (λ ds. AllByRecursion (IsVector m.ring ds) m.rows) l.target_degrees l.matrix)

    pub unique_reduced_inverse : AllByRecursion (IsReducedByRelations first) a.rows
        → AllByRecursion (IsReducedByRelations first) b.rows → a ≡ b
    unique_reduced_inverse r s =
        let rows : a.rows ≡ b.rows =
        same_reduced_rows first positive first_matrix a.rows b.rows (rows-vectors a h.from_map)
        (rows-vectors b k.from_map) r s rows-equal in
        λ i. record {
          ring = (a_ring ∙ sym b_ring) i;
          target = (h.from_map.target_degrees ∙ sym k.from_map.target_degrees) i;
          rows = rows i;
        }
