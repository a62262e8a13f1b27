-- Maps of presented modules compose, and so do squares of maps and maps of complexes.
use Rattle.std.proofs.Common.{◌≡◌, refl, sym, ◌∙◌, ap, subst}
use Rattle.sf_algebra.specs.Matrices.{Matrix, row_degrees}
use Rattle.sf_algebra.specs.MatrixOperations.{matrix_product, row_combination, IsComposable}
use Rattle.sf_algebra.specs.Rings.{Ring, IsRing}
use Rattle.sf_algebra.specs.Vectors.{Vector, IsVector}
use Rattle.sf_algebra.proofs.GradedMatrices.MatrixProducts.{IsMatrix-matrix_product, row_degrees-matrix_product}
use Rattle.sf_algebra.proofs.Vectors.Rows.{row_combination-matrix_product}
use Rattle.sf_groebner.specs.Homology.{ComplexPlace}
use Rattle.sf_groebner.specs.Maps.{AreEqualModulo, IsSquare, AreChainMaps}
use Rattle.sf_groebner.specs.Presentations.{IsModuleMap}
use Rattle.sf_groebner.specs.Spans.{IsCoefficients, combined, InSpan}
use Rattle.sf_groebner.proofs.MapsOnHomology.EqualModulo.{combined-AreEqualModulo}
use Rattle.sf_groebner.proofs.MapsOnHomology.Squares.{IsVector-combined, IsCanonical-combined}
use Rattle.sf_groebner.proofs.Spanning.SpanCombinations.{span_submodule_of}
use Rattle.sf_presented.proofs.EqualModulo.{AreEqualModulo-trans}

-- a product of matrices, applied to a vector
pub combined-matrix_product : (f g : Matrix) → IsRing f.ring → f.ring ≡ g.ring → (v : Vector)
    → combined (matrix_product f g) v ≡ combined g (combined f v)
combined-matrix_product f g positive rings v =
    λ i. record {
      degree = v.degree;
      terms =
          (row_combination-matrix_product f.ring positive.modulus f g v.terms refl
          ∙ ap (λ q. row_combination q g.rows (row_combination f.ring f.rows v.terms)) rings) i;
    }

module _ (a b c f g : Matrix) (positive : IsRing f.ring) (h : IsModuleMap a b f) (k : IsModuleMap b c g) where
  pub rings-composable : f.ring ≡ g.ring
  rings-composable = h.target_ring ∙ sym k.source_ring

  pub maps-composable : IsComposable f g
  maps-composable = record {
    positive = positive.modulus;
    rings = rings-composable;
    degrees = k.source_degrees ∙ sym h.target_degrees;
  }

  pub IsModuleMap-matrix_product : IsModuleMap a c (matrix_product f g)
  IsModuleMap-matrix_product = record {
    matrix = IsMatrix-matrix_product f g maps-composable h.matrix k.matrix;
    source_ring = h.source_ring;
    target_ring = rings-composable ∙ k.target_ring;
    source_degrees = row_degrees-matrix_product f g ∙ h.source_degrees;
    target_degrees = k.target_degrees;
    sends = λ v e.
        subst (InSpan c) (sym (combined-matrix_product f g positive rings-composable v))
        (k.sends (combined f v) (h.sends v e));
  }

module _ (upper upper_relations middle middle_relations lower lower_relations left right other_left other_right : Matrix)
    (h : IsSquare upper upper_relations middle middle_relations left right)
    (k : IsSquare middle middle_relations lower lower_relations other_left other_right) where
  right_rings : right.ring ≡ other_right.ring
  right_rings = h.right_map.target_ring ∙ sym k.right_map.source_ring

  left_rings : left.ring ≡ other_left.ring
  left_rings = h.left_ring ∙ right_rings ∙ sym k.left_ring

  left_positive : IsRing left.ring
  left_positive = subst (λ q. IsRing q) (sym h.left_ring) h.positive

  left-composable : IsComposable left other_left
  left-composable = record {
    positive = left_positive.modulus;
    rings = left_rings;
    degrees = k.left_source ∙ sym h.left_target;
  }

  middle_ring : middle.ring ≡ right.ring
  middle_ring = h.lower_map.ring ∙ sym h.right_map.target_ring

  lower_ring : lower.ring ≡ right.ring
  lower_ring = k.lower_map.ring ∙ sym k.right_map.target_ring ∙ sym right_rings

  upper_ring : upper.ring ≡ right.ring
  upper_ring = h.upper_map.ring ∙ sym h.right_map.source_ring

  commutes-composite : (c : Vector) → IsCoefficients upper c
      → AreEqualModulo right.ring (InSpan lower_relations)
      (combined (matrix_product right other_right) (combined upper c))
      (combined lower (combined (matrix_product left other_left) c))
  commutes-composite c coefficients =
      let ring : Ring = right.ring in
      let first : Vector = combined other_right (combined right (combined upper c)) in
      let second : Vector = combined other_right (combined middle (combined left c)) in
      let third : Vector = combined lower (combined other_left (combined left c)) in
      let through : IsCoefficients middle (combined left c) =
      subst (λ q. IsVector q (row_degrees middle) (combined left c)) (sym middle_ring)
      (IsVector-combined ring h.positive left h.left_ring h.left_matrix (row_degrees upper)
      (row_degrees middle) h.left_source h.left_target c
      (subst (λ q. IsVector q (row_degrees upper) c) upper_ring coefficients)) in
      let one : AreEqualModulo ring (InSpan lower_relations) first second =
      subst (λ q. AreEqualModulo q (InSpan lower_relations) first second) (sym right_rings)
      (combined-AreEqualModulo other_right k.positive (InSpan middle_relations)
      (InSpan lower_relations) k.right_map.sends (combined right (combined upper c)) (combined middle (combined left c))
      (IsCanonical-combined other_right.ring k.positive middle (middle_ring ∙ right_rings) (combined left c))
      (subst (λ q. AreEqualModulo q (InSpan middle_relations) (combined right (combined upper c))
      (combined middle (combined left c))) right_rings (h.commutes c coefficients))) in
      let two : AreEqualModulo ring (InSpan lower_relations) second third =
      subst (λ q. AreEqualModulo q (InSpan lower_relations) second third) (sym right_rings)
      (k.commutes (combined left c) through) in
      subst (λ v. AreEqualModulo ring (InSpan lower_relations) v
      (combined lower (combined (matrix_product left other_left) c)))
      (sym (combined-matrix_product right other_right h.positive right_rings (combined upper c)))
      (subst (λ v. AreEqualModulo ring (InSpan lower_relations) first (combined lower v))
      (sym (combined-matrix_product left other_left left_positive left_rings c))
      (AreEqualModulo-trans ring h.positive lower_relations.target (InSpan lower_relations)
      (span_submodule_of ring h.positive lower_relations.target lower_relations
      (sym k.right_map.target_ring ∙ sym right_rings) refl k.lower_map.relations_matrix)
      first second third
      (IsCanonical-combined ring h.positive other_right (sym right_rings) (combined right (combined upper c)))
      (IsCanonical-combined ring h.positive other_right (sym right_rings) (combined middle (combined left c)))
      (IsCanonical-combined ring h.positive lower lower_ring (combined other_left (combined left c))) one two))

  pub IsSquare-matrix_product : IsSquare upper upper_relations lower lower_relations (matrix_product left other_left)
      (matrix_product right other_right)
  IsSquare-matrix_product = record {
    positive = h.positive;
    upper_map = h.upper_map;
    lower_map = k.lower_map;
    right_map =
        IsModuleMap-matrix_product upper_relations middle_relations lower_relations right other_right h.positive
        h.right_map k.right_map;
    left_matrix = IsMatrix-matrix_product left other_left left-composable h.left_matrix k.left_matrix;
    left_ring = h.left_ring;
    left_source = row_degrees-matrix_product left other_left ∙ h.left_source;
    left_target = k.left_target;
    commutes = commutes-composite;
  }

pub AreChainMaps-matrix_product : (a b c : ComplexPlace)
    (first second third other_first other_second other_third : Matrix)
    → AreChainMaps a b first second third → AreChainMaps b c other_first other_second other_third
    → AreChainMaps a c (matrix_product first other_first) (matrix_product second other_second)
    (matrix_product third other_third)
AreChainMaps-matrix_product a b c first second third other_first other_second other_third h k = record {
  before =
      IsSquare-matrix_product a.arriving a.here b.arriving b.here c.arriving c.here first second other_first
      other_second h.before k.before;
  after =
      IsSquare-matrix_product a.out a.beyond b.out b.beyond c.out c.beyond second third other_second other_third
      h.after k.after;
}
