-- Where two lists of generators have coordinates in one another, the matrices of these are inverse: what a combination of
-- the ones gives is equal to what its image gives by the others, so there and back the coefficients differ by a relation.
use Rattle.std.proofs.Common.{◌≡◌, List, [], ◌∷◌, refl, sym, ◌∙◌, subst}
use Rattle.std.specs.List.{AllByRecursion}
use Rattle.sf_algebra.specs.Matrices.{Matrix, degrees_of, row_degrees, IsMatrix}
use Rattle.sf_algebra.specs.MatrixOperations.{row_combination, matrix_product}
use Rattle.sf_algebra.specs.Rings.{Ring, IsRing, IsOverField}
use Rattle.sf_algebra.specs.Vectors.{Vector, IsVector}
use Rattle.sf_algebra.proofs.GradedMatrices.MatrixRows.{with_terms}
use Rattle.sf_algebra.proofs.Monomials.Weights.{field_ring}
use Rattle.sf_algebra.proofs.Vectors.Rows.{row_combination-matrix_product}
use Rattle.sf_groebner.specs.Maps.{AreEqualModulo}
use Rattle.sf_groebner.specs.MinimalGenerators.{matrix_of}
use Rattle.sf_groebner.specs.Presentations.{AreRelationsModulo, IsModuleMap}
use Rattle.sf_groebner.specs.Spans.{InSpan, IsCoefficients, combined}
use Rattle.sf_groebner.proofs.MapsOnHomology.EqualModulo.{AreEqualModulo-inside}
use Rattle.sf_groebner.proofs.MapsOnHomology.Squares.{IsVector-combined, IsCanonical-combined}
use Rattle.sf_groebner.proofs.Uniqueness.ReducedCoordinates.{InSpan-relations, IsRelation-span}
use Rattle.sf_presented.specs.Coordinates.{HaveCoordinates, IsDescription}
use Rattle.sf_presented.specs.Inverses.{IsIdentityModulo, AreInverseModulo}
use Rattle.sf_presented.proofs.Composites.{combined-matrix_product}
use Rattle.sf_presented.proofs.Coordinates.{base_submodule, from_relations, relation-from_equal}
use Rattle.sf_presented.proofs.EqualModulo.{AreEqualModulo-trans}
use Rattle.sf_presented.proofs.EqualRows.{AreEqualRows, EqualRows-combined, canonical-with_terms}

-- what coordinates say, one after another
module _ (generators base relations : Matrix) where
  coordinates-degrees : (vs cs : List Vector) → HaveCoordinates generators base relations vs cs
      → degrees_of cs ≡ degrees_of vs
  coordinates-degrees [] [] h = refl
  coordinates-degrees [] (c ∷ cs) h = absurd h
  coordinates-degrees (v ∷ vs) [] h = absurd h
  coordinates-degrees (v ∷ vs) (c ∷ cs) h = λ i. sym h.0.value.degrees i ∷ coordinates-degrees vs cs h.1 i

  coordinates-coefficients : (vs cs : List Vector) → HaveCoordinates generators base relations vs cs
      → AllByRecursion (IsCoefficients generators) cs
  coordinates-coefficients [] [] h = tt
  coordinates-coefficients [] (c ∷ cs) h = absurd h
  coordinates-coefficients (v ∷ vs) [] h = absurd h
  coordinates-coefficients (v ∷ vs) (c ∷ cs) h = (h.0.coefficients, coordinates-coefficients vs cs h.1)

  coordinates-equal : (ring : Ring) → generators.ring ≡ ring → (vs cs : List Vector)
      → HaveCoordinates generators base relations vs cs
      → AreEqualRows ring (InSpan base) vs (with_terms (row_combination ring generators.rows) cs)
  coordinates-equal ring same [] [] h = tt
  coordinates-equal ring same [] (c ∷ cs) h = absurd h
  coordinates-equal ring same (v ∷ vs) [] h = absurd h
  coordinates-equal ring same (v ∷ vs) (c ∷ cs) h = (
    subst (λ q. AreEqualModulo q (InSpan base) v
        (record { degree = c.degree; terms = row_combination q generators.rows c.terms })) same h.0.value,
    coordinates-equal ring same vs cs h.1,
  )

module _ (generators others base relations other_relations to : Matrix) (prime : IsOverField generators.ring)
    (given : AreRelationsModulo generators base relations) (other : AreRelationsModulo others base other_relations)
    (description : IsDescription others base other_relations generators to) where
  abbrev ring : Ring
  ring = generators.ring

  positive : IsRing ring
  positive = field_ring prime

  pub others_ring : others.ring ≡ generators.ring
  others_ring = other.base_ring ∙ sym given.base_ring

  pub to_ring : to.ring ≡ generators.ring
  to_ring = description.ring ∙ others_ring

  to-matrix : IsMatrix to
  to-matrix =
      subst (λ q. AllByRecursion (IsVector q to.target) to.rows) (sym description.ring)
      (subst (λ ds. AllByRecursion (IsVector others.ring ds) to.rows) (sym description.target)
      (coordinates-coefficients others base other_relations generators.rows to.rows description.rows))

  to-degrees : row_degrees to ≡ row_degrees generators
  to-degrees = coordinates-degrees others base other_relations generators.rows to.rows description.rows

  -- coefficients of the ones go to coefficients of the others
  pub to-coefficients : (c : Vector) → IsCoefficients generators c → IsCoefficients others (combined to c)
  to-coefficients c h =
      subst (λ q. IsVector q (row_degrees others) (combined to c)) (sym others_ring)
      (IsVector-combined ring positive to to_ring to-matrix (row_degrees generators)
      (row_degrees others) to-degrees description.target c h)

  -- which give what is equal
  pub to-equal : (c : Vector) → IsCoefficients generators c
      → AreEqualModulo generators.ring (InSpan base) (combined generators c) (combined others (combined to c))
  to-equal c h =
      let same : row_combination ring (with_terms (row_combination ring others.rows) to.rows) c.terms ≡
      (combined others (combined to c)).terms =
      row_combination-matrix_product ring positive.modulus (matrix_of ring [] to.rows) others c.terms refl
      ∙ (λ i. row_combination (sym others_ring i) others.rows (row_combination (sym to_ring i) to.rows c.terms)) in
      subst (λ ts. AreEqualModulo ring (InSpan base) (combined generators c) (record { degree = c.degree; terms = ts }))
      same
      (EqualRows-combined ring positive (InSpan base) base.target
      (base_submodule generators base relations prime given) generators.rows
      (with_terms (row_combination ring others.rows) to.rows)
      (canonical-with_terms ring positive others.rows to.rows)
      (coordinates-equal others base other_relations ring others_ring generators.rows to.rows description.rows) c
      h.homogeneous)

  pub map-description : IsModuleMap relations other_relations to
  map-description = record {
    matrix = to-matrix;
    source_ring = to_ring ∙ sym given.ring;
    target_ring = description.ring ∙ sym other.ring;
    source_degrees = to-degrees ∙ sym given.target;
    target_degrees = description.target ∙ sym other.target;
    sends = λ v h.
        let k = IsRelation-span generators base relations prime given v h in
        InSpan-relations others base other_relations (subst IsOverField (sym others_ring) prime) other (combined to v)
        (record {
          coefficients = to-coefficients v k.coefficients;
          inside =
              AreEqualModulo-inside ring positive base.target (InSpan base)
              (base_submodule generators base relations prime given).module_like (combined generators v)
              (combined others (combined to v))
              (IsCanonical-combined ring positive others others_ring (combined to v))
              (to-equal v k.coefficients) k.inside;
        });
  }

module _ (generators others base relations other_relations to from : Matrix) (prime : IsOverField generators.ring)
    (given : AreRelationsModulo generators base relations) (other : AreRelationsModulo others base other_relations)
    (there : IsDescription others base other_relations generators to)
    (back : IsDescription generators base relations others from) where
  rings : others.ring ≡ generators.ring
  rings = others_ring generators others base relations other_relations to prime given other there

  other_prime : IsOverField others.ring
  other_prime = subst IsOverField (sym rings) prime

  there_and_back : IsIdentityModulo relations (matrix_product to from)
  there_and_back v h =
      let ring : Ring = generators.ring in
      let positive : IsRing ring = field_ring prime in
      let coefficients : IsCoefficients generators v = from_relations generators base relations prime given v h in
      let w : Vector = combined to v in
      let w_coefficients : IsCoefficients others w =
      to-coefficients generators others base relations other_relations to prime given other there v coefficients in
      let u : Vector = combined from w in
      let u_coefficients : IsCoefficients generators u =
      to-coefficients others generators base other_relations relations from other_prime other given back w
      w_coefficients in
      let same : AreEqualModulo ring (InSpan base) (combined generators v) (combined generators u) =
      AreEqualModulo-trans ring positive base.target (InSpan base) (base_submodule generators base relations prime given)
      (combined generators v) (combined others w) (combined generators u)
      (IsCanonical-combined ring positive generators refl v) (IsCanonical-combined ring positive others rings w)
      (IsCanonical-combined ring positive generators refl u)
      (to-equal generators others base relations other_relations to prime given other there v coefficients)
      (subst (λ q. AreEqualModulo q (InSpan base) (combined others w) (combined generators u)) rings
      (to-equal others generators base other_relations relations from other_prime other given back w w_coefficients)) in
      let to_here : to.ring ≡ ring = there.ring ∙ rings in
      subst (AreEqualModulo relations.ring (InSpan relations) v)
      (sym (combined-matrix_product to from (subst (λ q. IsRing q) (sym to_here) positive) (to_here ∙ sym back.ring) v))
      (record {
        degrees = refl;
        difference = relation-from_equal generators base relations prime given v u coefficients u_coefficients same;
      })

pub inverse-descriptions : (generators others base relations other_relations to from : Matrix)
    → IsOverField generators.ring → AreRelationsModulo generators base relations
    → AreRelationsModulo others base other_relations → IsDescription others base other_relations generators to
    → IsDescription generators base relations others from → AreInverseModulo relations other_relations to from
inverse-descriptions generators others base relations other_relations to from prime given other there back =
    let same = others_ring generators others base relations other_relations to prime given other there in
    let other_prime : IsOverField others.ring = subst IsOverField (sym same) prime in
    record {
      to_map = map-description generators others base relations other_relations to prime given other there;
      from_map = map-description others generators base other_relations relations from other_prime other given back;
      back = there_and_back generators others base relations other_relations to from prime given other there back;
      forth = there_and_back others generators base other_relations relations from to other_prime other given back there;
    }
