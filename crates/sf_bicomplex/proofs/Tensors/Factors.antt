-- Complexes of free modules, and a module alone, as complexes of presented modules.
use Rattle.std.proofs.Common.{◌≡◌, ◌<◌, ℕ, zero, suc, List, [], ◌∷◌, map, refl, sym, ap, ◌∙◌, subst, arith, ℤ, pos, negsuc, ◌-ℤ◌}
use Rattle.std.proofs.lemmas.Int.{ints}
use Rattle.std.specs.List.{AllByRecursion}
use Rattle.sf_algebra.specs.Matrices.{IsMatrix, Matrix, degrees_of, row_degrees}
use Rattle.sf_algebra.specs.MatrixOperations.{IsComposable, matrix_product}
use Rattle.sf_algebra.specs.Rings.{IsRing, Ring}
use Rattle.sf_algebra.specs.Terms.{Term}
use Rattle.sf_algebra.specs.Vectors.{IsVector, Place, Vector}
use Rattle.sf_algebra.proofs.Basics.Lists.{AllByRecursion-weaken}
use Rattle.sf_algebra.proofs.GradedMatrices.MatrixProducts.{IsMatrix-matrix_product}
use Rattle.sf_algebra.proofs.Vectors.HomogeneousVectors.{IsVector-nil}
use Rattle.sf_groebner.specs.MinimalGenerators.{matrix_of}
use Rattle.sf_groebner.specs.Presentations.{IsModuleMap}
use Rattle.sf_blocks.specs.BlockLists.{IsTo}
use Rattle.sf_blocks.specs.DirectSums.{IsZeroModulo}
use Rattle.sf_blocks.specs.MatrixSums.{IsZeroMatrix, zero_matrix}
use Rattle.sf_blocks.proofs.DirectSums.ZeroModulo.{IsZeroModulo-zero}
use Rattle.sf_bicomplex.specs.TensorBicomplexes.{FreeComplex, IsFreeComplex, IsModuleComplex, alone_map, alone_relations, as_modules, free_map, free_relations, module_alone}
use Rattle.sf_bicomplex.specs.TensorLaws.{HasTensorsOfComplexes, HasTensorsWithModules}
use Rattle.sf_bicomplex.proofs.Tensors.Multiples.{map-from_multiple, multiple-from_zero}
use Rattle.sf_bicomplex.proofs.Tensors.TensorLaws.{tensor-bicomplex}

-- a vector over no generators has no terms, so a matrix to nothing is zero
no_terms : (ring : Ring) (v : Vector) → IsVector ring [] v → v.terms ≡ []
no_terms ring v h = go v.terms (AllByRecursion-weaken _ (λ (t : Term Place). t.at.position < 0) (λ t e. e.0) v.terms h.homogeneous)
  where
    go : (ts : List (Term Place)) → AllByRecursion (λ (t : Term Place). t.at.position < 0) ts → ts ≡ []
    go [] k = refl
    go (t ∷ ts) k = absurd (omega arith)

to_nothing : (m : Matrix) → IsMatrix m → m.target ≡ [] → IsZeroMatrix m
to_nothing m h none =
    let rows : AllByRecursion (IsVector m.ring []) m.rows =
    subst (λ ds. AllByRecursion (IsVector m.ring ds) m.rows) none h in
    λ i. record { ring = m.ring; target = m.target; rows = go m.rows rows i }
  where
    go : (vs : List Vector) → AllByRecursion (IsVector m.ring []) vs
        → vs ≡ map (λ (d : ℤ). record { degree = d; terms = [] }) (degrees_of vs)
    go [] k = refl
    go (v ∷ vs) k = λ i. record { degree = v.degree; terms = no_terms m.ring v k.0 i } ∷ go vs k.1 i

product-to_nothing : (a b r : Matrix) → IsRing r.ring → IsComposable a b → IsMatrix a → IsMatrix b → b.target ≡ []
    → IsZeroModulo r (matrix_product a b)
product-to_nothing a b r is_ring ab ma mb none =
    IsZeroModulo-zero r (matrix_product a b) is_ring
    (to_nothing (matrix_product a b) (IsMatrix-matrix_product a b ab ma mb) none)

-- what goes from a module without relations, and from no module
free-map : (ring : Ring) → IsRing ring → (source target : List ℤ) (m : Matrix) → m.ring ≡ ring → IsMatrix m
    → row_degrees m ≡ source → m.target ≡ target
    → IsModuleMap (matrix_of ring source []) (matrix_of ring target []) m
free-map ring is_ring source target m rings h degrees targets =
    map-from_multiple (matrix_of ring source []) (matrix_of ring target []) m (subst IsRing (sym rings) is_ring) rings rings
    tt h degrees targets
    (record {
      factor = matrix_of ring [] [];
      ring = refl;
      target = refl;
      matrix = tt;
      product = λ i. record { ring = ring; target = targets i; rows = [] };
    })

from_nothing : (ring : Ring) → IsRing ring → (r : Matrix) → ring ≡ r.ring → IsMatrix r
    → IsModuleMap (matrix_of ring [] []) r (zero_matrix ring [] r.target)
from_nothing ring is_ring r rings h =
    map-from_multiple (matrix_of ring [] []) r (zero_matrix ring [] r.target) is_ring refl rings h tt refl refl
    (record {
      factor = matrix_of ring (row_degrees r) [];
      ring = rings;
      target = refl;
      matrix = tt;
      product = refl;
    })

one_lower : (q : ℕ) → pos (suc q) -ℤ pos 1 ≡ pos q
one_lower q = omega (arith, ints)

module _ (d : FreeComplex) (h : IsFreeComplex d) where
  free_modules : (q : ℤ) → IsTo d.ring (free_relations d q).target (free_relations d q)
  free_modules (pos q) = record { ring_of = refl; target_of = refl; matrix = tt }
  free_modules (negsuc q) = record { ring_of = refl; target_of = refl; matrix = tt }

  free_maps : (q : ℤ) → IsModuleMap (free_relations d q) (free_relations d (q -ℤ pos 1)) (free_map d q)
  free_maps (pos zero) =
      let s = h.sources 0 in free-map d.ring h.is_ring (d.degrees 0) [] (d.map 0) s.ring_of s.matrix s.source_of h.leaving
  free_maps (pos (suc q)) =
      let s = h.sources (suc q) in
      subst (λ below. IsModuleMap (matrix_of d.ring (d.degrees (suc q)) []) (free_relations d below) (d.map (suc q)))
      (sym (one_lower q))
      (free-map d.ring h.is_ring (d.degrees (suc q)) (d.degrees q) (d.map (suc q)) s.ring_of s.matrix s.source_of
      (h.targets q))
  free_maps (negsuc q) = free-map d.ring h.is_ring [] [] (zero_matrix d.ring [] []) refl tt refl refl

  composable : (p : ℕ) → IsComposable (d.map (suc p)) (d.map p)
  composable p = record {
    positive = subst (λ (r : Ring). 0 < r.modulus) (sym (h.sources (suc p)).ring_of) h.is_ring.modulus;
    rings = (h.sources (suc p)).ring_of ∙ sym (h.sources p).ring_of;
    degrees = (h.sources p).source_of ∙ sym (h.targets p);
  }

  free_squares : (q : ℤ) → IsZeroModulo (free_relations d (q -ℤ pos 1 -ℤ pos 1)) (matrix_product (free_map d q) (free_map d (q -ℤ pos 1)))
  free_squares (pos zero) =
      product-to_nothing (d.map 0) (zero_matrix d.ring [] []) (matrix_of d.ring [] []) h.is_ring
      (record {
        positive = subst (λ (r : Ring). 0 < r.modulus) (sym (h.sources 0).ring_of) h.is_ring.modulus;
        rings = (h.sources 0).ring_of;
        degrees = sym h.leaving;
      })
      (h.sources 0).matrix tt refl
  free_squares (pos (suc zero)) =
      product-to_nothing (d.map 1) (d.map 0) (matrix_of d.ring [] []) h.is_ring (composable 0) (h.sources 1).matrix
      (h.sources 0).matrix h.leaving
  free_squares (pos (suc (suc q))) =
      subst (λ n. IsZeroModulo (free_relations d (n -ℤ pos 1)) (matrix_product (d.map (suc (suc q))) (free_map d n)))
      (sym (one_lower (suc q)))
      (subst (λ n. IsZeroModulo (free_relations d n) (matrix_product (d.map (suc (suc q))) (d.map (suc q))))
      (sym (one_lower q))
      (IsZeroModulo-zero (matrix_of d.ring (d.degrees q) []) (matrix_product (d.map (suc (suc q))) (d.map (suc q)))
      h.is_ring (h.squares q)))
  free_squares (negsuc q) = tt

  pub free-module_complex : IsModuleComplex d.ring (as_modules d)
  free-module_complex = record { modules = free_modules; maps = free_maps; squares = free_squares }

module _ (m : Matrix) (is_ring : IsRing m.ring) (h : IsMatrix m) where
  alone_ring : (q : ℤ) → m.ring ≡ (alone_relations m q).ring
  alone_ring (pos zero) = refl
  alone_ring (pos (suc q)) = refl
  alone_ring (negsuc q) = refl

  alone_matrix : (q : ℤ) → IsMatrix (alone_relations m q)
  alone_matrix (pos zero) = h
  alone_matrix (pos (suc q)) = tt
  alone_matrix (negsuc q) = tt

  zero-to_nothing : IsMatrix (zero_matrix m.ring m.target [])
  zero-to_nothing = go m.target
    where
      go : (ds : List ℤ) → AllByRecursion (IsVector m.ring []) (map (λ (d : ℤ). record { degree = d; terms = [] }) ds)
      go [] = tt
      go (d ∷ ds) = (IsVector-nil m.ring [] d, go ds)

  zero-degrees : (ds : List ℤ) → degrees_of (map (λ (d : ℤ). record { degree = d; terms = [] }) ds) ≡ ds
  zero-degrees [] = refl
  zero-degrees (d ∷ ds) = ap (λ es. d ∷ es) (zero-degrees ds)

  alone_maps : (q : ℤ) → IsModuleMap (alone_relations m q) (alone_relations m (q -ℤ pos 1)) (alone_map m q)
  alone_maps (pos zero) =
      let out = zero_matrix m.ring m.target [] in
      let none = matrix_of m.ring [] [] in
      let degrees : row_degrees out ≡ m.target = zero-degrees m.target in
      map-from_multiple m none out is_ring refl refl tt zero-to_nothing degrees refl
      (multiple-from_zero none (matrix_product m out) refl refl
      (product-to_nothing m out none is_ring
      (record { positive = is_ring.modulus; rings = refl; degrees = degrees }) h zero-to_nothing refl))
  alone_maps (pos (suc q)) =
      let below = pos (suc q) -ℤ pos 1 in
      from_nothing m.ring is_ring (alone_relations m below) (alone_ring below) (alone_matrix below)
  alone_maps (negsuc q) =
      let below = negsuc q -ℤ pos 1 in
      from_nothing m.ring is_ring (alone_relations m below) (alone_ring below) (alone_matrix below)

  alone_squares : (q : ℤ)
      → IsZeroModulo (alone_relations m (q -ℤ pos 1 -ℤ pos 1)) (matrix_product (alone_map m q) (alone_map m (q -ℤ pos 1)))
  alone_squares (pos zero) =
      product-to_nothing (zero_matrix m.ring m.target []) (zero_matrix m.ring [] []) (matrix_of m.ring [] []) is_ring
      (record { positive = is_ring.modulus; rings = refl; degrees = refl }) zero-to_nothing tt refl
  alone_squares (pos (suc q)) = tt
  alone_squares (negsuc q) = tt

  pub alone-module_complex : IsModuleComplex m.ring (module_alone m)
  alone-module_complex = record {
    modules = λ q. record { ring_of = sym (alone_ring q); target_of = refl; matrix = alone_matrix q };
    maps = alone_maps;
    squares = alone_squares;
  }

pub tensors_of_complexes : HasTensorsOfComplexes
tensors_of_complexes c d hc hd rings above =
    tensor-bicomplex c hc above (as_modules d)
    (subst (λ r. IsModuleComplex r (as_modules d)) (sym rings) (free-module_complex d hd))

pub tensors_with_modules : HasTensorsWithModules
tensors_with_modules c hc above m rings h =
    tensor-bicomplex c hc above (module_alone m)
    (subst (λ r. IsModuleComplex r (module_alone m)) (sym rings)
    (alone-module_complex m (subst IsRing rings hc.is_ring) h))
