-- Hom and tensor keep complexes.
use Rattle.std.proofs.Common.{◌≡◌, ◌<◌, map, neg_ℤ, sym, ap, ◌∙◌, subst}
use Rattle.sf_algebra.specs.Matrices.{Matrix, row_degrees}
use Rattle.sf_algebra.specs.MatrixOperations.{degree_sums, identity, kronecker, matrix_product, transposed}
use Rattle.sf_algebra.proofs.GradedMatrices.TransposedProducts.{IsComposable-transposed, transposed-matrix_product}
use Rattle.sf_algebra.proofs.GradedMatrices.Transposes.{IsMatrix-transposed}
use Rattle.sf_algebra.proofs.Monomials.Weights.{field_ring}
use Rattle.sf_blocks.specs.MatrixSums.{IsZeroMatrix, zero_matrix}
use Rattle.sf_blocks.proofs.DirectSums.ZeroModulo.{IsZeroModulo-zero}
use Rattle.sf_blocks.proofs.Kroneckers.FactorSums.{kronecker-zero_first}
use Rattle.sf_blocks.proofs.MatrixSums.SumTransposes.{transposed-zero}
use Rattle.sf_blocks.proofs.TwoByTwo.ZeroParts.{IsZeroMatrix-zero_matrix}
use Rattle.sf_functor.specs.FunctorLaws.{HomsComplexes, IsComplexBeside, TensorsComplexes}
use Rattle.sf_functor.specs.Functors.{tensor_matrix, tensor_relations}
use Rattle.sf_functor.proofs.FunctorMaps.{above_one, positive, tensors_products, transposed_beside}

-- zero as a map gives zero
zero_tensor : (z n : Matrix) → 0 < z.ring.modulus → IsZeroMatrix z → IsZeroMatrix (tensor_matrix z n)
zero_tensor z n above h =
    let units = identity z.ring n.target in
    let zero : tensor_matrix z n
    ≡ zero_matrix z.ring (degree_sums (row_degrees z) (row_degrees units)) (degree_sums z.target units.target) =
    ap (λ m. kronecker m units) h ∙ kronecker-zero_first z.ring (row_degrees z) z.target units above in
    subst IsZeroMatrix (sym zero)
    (IsZeroMatrix-zero_matrix z.ring (degree_sums (row_degrees z) (row_degrees units)) (degree_sums z.target units.target))

pub tensors_complexes : TensorsComplexes
tensors_complexes a b n h =
    let above = above_one a.ring n.ring h.first.ring h.first.field in
    let zero : IsZeroMatrix (matrix_product (tensor_matrix a n) (tensor_matrix b n)) =
    subst IsZeroMatrix (tensors_products a b n above h.composable) (zero_tensor (matrix_product a b) n (positive a.ring above) h.square) in
    (zero, IsZeroModulo-zero (tensor_relations b.target n) _ (field_ring h.first.field) zero)

zero_transposed : (z : Matrix) → IsZeroMatrix z → IsZeroMatrix (transposed z)
zero_transposed z h =
    let zero = ap transposed h ∙ transposed-zero z.ring (row_degrees z) z.target in
    subst IsZeroMatrix (sym zero) (IsZeroMatrix-zero_matrix z.ring (map neg_ℤ z.target) (map neg_ℤ (row_degrees z)))

-- the transposes are a complex in the other order
pub transposed_complex : (a b n : Matrix) → IsComplexBeside a b n → IsComplexBeside (transposed b) (transposed a) n
transposed_complex a b n h = record {
  first = transposed_beside b n (record {
    field = h.first.field;
    ring = sym h.composable.rings ∙ h.first.ring;
    map = h.second;
    module_relations = h.first.module_relations;
  });
  second = IsMatrix-transposed a h.first.map;
  composable = IsComposable-transposed a b h.composable;
  square = subst IsZeroMatrix (transposed-matrix_product a b h.composable h.first.map h.second)
      (zero_transposed (matrix_product a b) h.square);
}

pub homs_complexes : HomsComplexes
homs_complexes a b n h = tensors_complexes (transposed b) (transposed a) n (transposed_complex a b n h)
