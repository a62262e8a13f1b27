-- The identities are a square of each map, and maps of each complex.
use Rattle.std.proofs.Common.{◌≡◌, ◌<◌, List, refl, sym, ◌∙◌, ap, subst, ℤ}
use Rattle.sf_algebra.specs.Matrices.{Matrix, row_degrees}
use Rattle.sf_algebra.specs.MatrixOperations.{identity}
use Rattle.sf_algebra.specs.Multiples.{negative}
use Rattle.sf_algebra.specs.Rings.{Ring, IsRing}
use Rattle.sf_algebra.specs.VectorOperations.{row_sum}
use Rattle.sf_algebra.specs.Vectors.{Vector, IsVector}
use Rattle.sf_algebra.proofs.GradedMatrices.Identities.{IsMatrix-identity, row_degrees-identity}
use Rattle.sf_algebra.proofs.Multiplying.Keys.{place_keys}
use Rattle.sf_algebra.proofs.Terms.Negatives.{add-negative}
use Rattle.sf_algebra.proofs.Vectors.HomogeneousVectors.{row_combination-identity}
use Rattle.sf_groebner.specs.Homology.{ComplexPlace}
use Rattle.sf_groebner.specs.Maps.{IsMapInto, IsSquare, AreChainMaps}
use Rattle.sf_groebner.specs.Spans.{combined, InSpan}
use Rattle.sf_groebner.proofs.MapsOnHomology.Squares.{IsVector-combined}
use Rattle.sf_groebner.proofs.Spanning.SpanCombinations.{span_submodule_of, zero-inside}
use Rattle.sf_groebner.proofs.Spanning.Submodules.{IsSubmodule}

module _ (ring : Ring) (positive : IsRing ring) (above : 1 < ring.modulus) where
  combined-identity : (degrees : List ℤ) (v : Vector) → IsVector ring degrees v → combined (identity ring degrees) v ≡ v
  combined-identity degrees v h = λ i. record { degree = v.degree; terms = row_combination-identity ring positive.modulus degrees v h i }

  pub square-identity : (relations map : Matrix) → relations.ring ≡ ring → IsMapInto relations map
      → IsSquare map relations map relations (identity ring (row_degrees map)) (identity ring relations.target)
  square-identity relations map same_ring into =
      let map_ring : map.ring ≡ ring = into.ring ∙ same_ring in
      let submodule : IsSubmodule ring relations.target (InSpan relations) =
      span_submodule_of ring positive relations.target relations same_ring refl into.relations_matrix in
      record {
        positive = positive;
        upper_map = into;
        lower_map = into;
        right_map = record {
          matrix = IsMatrix-identity ring above relations.target;
          source_ring = sym same_ring;
          target_ring = sym same_ring;
          source_degrees = row_degrees-identity ring relations.target;
          target_degrees = refl;
          sends = λ v h. subst (InSpan relations) (sym (combined-identity relations.target v (submodule.module_like.vectors v h))) h;
        };
        left_matrix = IsMatrix-identity ring above (row_degrees map);
        left_ring = refl;
        left_source = row_degrees-identity ring (row_degrees map);
        left_target = refl;
        commutes = λ c h.
            let coefficients : IsVector ring (row_degrees map) c =
            subst (λ q. IsVector q (row_degrees map) c) map_ring h in
            let value : Vector = combined map c in
            let vector : IsVector ring relations.target value =
            IsVector-combined ring positive map map_ring into.map_matrix
            (row_degrees map) relations.target refl into.target c coefficients in
            let first : combined (identity ring relations.target) value ≡ value =
            combined-identity relations.target value vector in
            let second : combined map (combined (identity ring (row_degrees map)) c) ≡ value =
            ap (combined map) (combined-identity (row_degrees map) c coefficients) in
            record {
              degrees = refl;
              difference =
                  subst (λ ts. InSpan relations (record { degree = c.degree; terms = ts }))
                  (sym ((λ i. row_sum ring (first i).terms (negative ring.modulus (second i).terms)) ∙ add-negative (place_keys ring.weights) ring.modulus positive.modulus value.terms vector.canonical))
                  (zero-inside ring positive relations.target (InSpan relations) submodule c.degree);
            };
      }

  pub chain_maps-identity : (a : ComplexPlace) → a.here.ring ≡ ring → a.beyond.ring ≡ ring → IsMapInto a.here a.arriving
      → IsMapInto a.beyond a.out → row_degrees a.out ≡ a.here.target
      → AreChainMaps a a (identity ring (row_degrees a.arriving)) (identity ring a.here.target)
      (identity ring a.beyond.target)
  chain_maps-identity a here beyond arriving out meets = record {
    before = square-identity a.here a.arriving here arriving;
    after =
        subst (λ ds. IsSquare a.out a.beyond a.out a.beyond (identity ring ds) (identity ring a.beyond.target)) meets
        (square-identity a.beyond a.out beyond out);
  }
