-- Hom and tensor keep maps, identities and products; and the ring may be left out.
use Rattle.std.proofs.Common.{◌≡◌, ◌<◌, List, [], ◌∷◌, map, ℤ, refl, sym, ap, ◌∙◌, subst, arith}
use Rattle.std.specs.List.{AllByRecursion}
use Rattle.sf_algebra.specs.Matrices.{IsMatrix, Matrix, row_degrees}
use Rattle.sf_algebra.specs.MatrixOperations.{IsComposable, degree_sums, identity, kronecker, matrix_product, transposed}
use Rattle.sf_algebra.specs.Rings.{IsOverField, IsRing, Ring}
use Rattle.sf_algebra.specs.Vectors.{IsVector, Vector}
use Rattle.sf_algebra.proofs.Basics.Lists.{AllByRecursion-weaken}
use Rattle.sf_algebra.proofs.GradedMatrices.Identities.{IsMatrix-identity, row_degrees-identity}
use Rattle.sf_algebra.proofs.GradedMatrices.ProductLaws.{matrix_product-identity}
use Rattle.sf_algebra.proofs.GradedMatrices.TransposedProducts.{IsComposable-transposed, transposed-identity, transposed-matrix_product}
use Rattle.sf_algebra.proofs.GradedMatrices.Transposes.{IsMatrix-transposed, row_degrees-transposed}
use Rattle.sf_algebra.proofs.Monomials.Weights.{field_ring}
use Rattle.sf_algebra.proofs.Tensors.Kronecker.{IsMatrix-kronecker, row_degrees-kronecker}
use Rattle.sf_algebra.proofs.Tensors.KroneckerFactors.{kronecker-factors, kronecker-factors_exchanged}
use Rattle.sf_algebra.proofs.Tensors.KroneckerIdentities.{kronecker-identity}
use Rattle.sf_algebra.proofs.Tensors.KroneckerProducts.{kronecker-matrix_product}
use Rattle.sf_algebra.proofs.Tensors.KroneckerSums.{kronecker-one}
use Rattle.sf_groebner.specs.Presentations.{IsModuleMap}
use Rattle.sf_groebner.specs.Spans.{InSpan, combined_rows}
use Rattle.sf_presented.proofs.RowMaps.{sends-span}
use Rattle.sf_functor.specs.FunctorLaws.{HomsIdentities, HomsMaps, HomsProducts, HomsRing, IsMapBeside, TensorsIdentities, TensorsMaps, TensorsProducts, TensorsRing}
use Rattle.sf_functor.specs.Functors.{dual_degrees, hom_matrix, hom_relations, tensor_matrix, tensor_relations}

-- the rows of b times m are combinations of those of m
product_rows : (b m : Matrix) → b.ring ≡ m.ring → b.target ≡ row_degrees m → (vs : List Vector)
    → AllByRecursion (IsVector b.ring b.target) vs
    → AllByRecursion (λ v. InSpan m (combined_rows b.ring m.rows v)) vs
product_rows b m rings targets vs h =
    AllByRecursion-weaken _ _ (λ v k. record {
      coefficients = v;
      homogeneous = subst (λ (x : Ring × List ℤ). IsVector x.0 x.1 v) (λ i. (rings i, targets i)) k;
      value = ap (λ q. combined_rows q m.rows v) (sym rings);
    }) vs h

-- what each row of a product is: the row of the first factor, combined
pub rows_of_product : (a m : Matrix) (P : Vector → Type 0) → AllByRecursion P (matrix_product a m).rows
    → AllByRecursion (λ v. P (combined_rows a.ring m.rows v)) a.rows
rows_of_product a m P h = go a.rows h
  where
    go : (vs : List Vector) → AllByRecursion P (map (combined_rows a.ring m.rows) vs)
        → AllByRecursion (λ v. P (combined_rows a.ring m.rows v)) vs
    go [] k = tt
    go (v ∷ vs) k = (k.0, go vs k.1)

product_of_rows : (a m : Matrix) (P : Vector → Type 0) → AllByRecursion (λ v. P (combined_rows a.ring m.rows v)) a.rows
    → AllByRecursion P (matrix_product a m).rows
product_of_rows a m P h = go a.rows h
  where
    go : (vs : List Vector) → AllByRecursion (λ v. P (combined_rows a.ring m.rows v)) vs
        → AllByRecursion P (map (combined_rows a.ring m.rows) vs)
    go [] k = tt
    go (v ∷ vs) k = (k.0, go vs k.1)

pub above_one : (ring other : Ring) → ring ≡ other → IsOverField other → 1 < ring.modulus
above_one ring other same field = subst (λ (q : Ring). 1 < q.modulus) (sym same) field.prime.above_one

pub positive : (ring : Ring) → 1 < ring.modulus → 0 < ring.modulus
positive ring above = omega arith

pub IsMatrix-tensor_relations : (degrees : List ℤ) (n : Matrix) → IsOverField n.ring → IsMatrix n
    → IsMatrix (tensor_relations degrees n)
IsMatrix-tensor_relations degrees n field h =
    let above = field.prime.above_one in
    IsMatrix-kronecker (identity n.ring degrees) n (positive n.ring above) refl (IsMatrix-identity n.ring above degrees) h

pub IsMatrix-tensor_matrix : (a n : Matrix) → 1 < a.ring.modulus → IsMatrix a → IsMatrix (tensor_matrix a n)
IsMatrix-tensor_matrix a n above h =
    IsMatrix-kronecker a (identity a.ring n.target) (positive a.ring above) refl h (IsMatrix-identity a.ring above n.target)

pub row_degrees-tensor_matrix : (a n : Matrix) → row_degrees (tensor_matrix a n) ≡ degree_sums (row_degrees a) n.target
row_degrees-tensor_matrix a n =
    row_degrees-kronecker a (identity a.ring n.target) ∙ ap (degree_sums (row_degrees a)) (row_degrees-identity a.ring n.target)

-- a relation of N at a generator of the source goes to the same combination of the relations at those of the target
relations_sent : (a n : Matrix) → IsMapBeside a n
    → matrix_product (tensor_relations (row_degrees a) n) (tensor_matrix a n)
    ≡ matrix_product (kronecker a (identity a.ring (row_degrees n))) (tensor_relations a.target n)
relations_sent a n h =
    let above = above_one a.ring n.ring h.ring h.field in
    (λ i. matrix_product (kronecker (identity (sym h.ring i) (row_degrees a)) n) (tensor_matrix a n))
    ∙ sym (kronecker-factors_exchanged a n above h.ring h.map h.module_relations)
    ∙ kronecker-factors a n above h.ring h.map h.module_relations
    ∙ (λ i. matrix_product (kronecker a (identity a.ring (row_degrees n))) (kronecker (identity (h.ring i) a.target) n))

pub tensors_maps : TensorsMaps
tensors_maps a n h =
    let above = above_one a.ring n.ring h.ring h.field in
    let source = tensor_relations (row_degrees a) n in
    let target = tensor_relations a.target n in
    let m = tensor_matrix a n in
    let b = kronecker a (identity a.ring (row_degrees n)) in
    let whole = IsMatrix-kronecker a (identity a.ring (row_degrees n)) (positive a.ring above) refl h.map
    (IsMatrix-identity a.ring above (row_degrees n)) in
    let to_relations : b.target ≡ row_degrees target =
    sym (row_degrees-kronecker (identity n.ring a.target) n
    ∙ ap (λ ds. degree_sums ds (row_degrees n)) (row_degrees-identity n.ring a.target)) in
    let spanned : AllByRecursion (InSpan target) (matrix_product source m).rows =
    subst (λ (x : Matrix). AllByRecursion (InSpan target) x.rows) (sym (relations_sent a n h))
    (product_of_rows b target (InSpan target) (product_rows b target h.ring to_relations b.rows whole)) in
    record {
      matrix = IsMatrix-tensor_matrix a n above h.map;
      source_ring = h.ring;
      target_ring = h.ring;
      source_degrees = row_degrees-tensor_matrix a n;
      target_degrees = refl;
      sends = sends-span source target m (subst IsRing (sym h.ring) (field_ring h.field)) h.ring h.ring
          (IsMatrix-tensor_relations a.target n h.field h.module_relations)
          (subst (λ q. AllByRecursion (λ v. InSpan target (combined_rows q m.rows v)) source.rows) (sym h.ring)
          (rows_of_product source m (InSpan target) spanned));
    }

-- the transpose is a map beside N too
pub transposed_beside : (a n : Matrix) → IsMapBeside a n → IsMapBeside (transposed a) n
transposed_beside a n h = record {
  field = h.field;
  ring = h.ring;
  map = IsMatrix-transposed a h.map;
  module_relations = h.module_relations;
}

pub homs_maps : HomsMaps
homs_maps a n h =
    subst (λ ds. IsModuleMap (tensor_relations ds n) (hom_relations (row_degrees a) n) (hom_matrix a n))
    (row_degrees-transposed a) (tensors_maps (transposed a) n (transposed_beside a n h))

pub tensors_identities : TensorsIdentities
tensors_identities degrees n above = kronecker-identity n.ring above degrees n.target

pub homs_identities : HomsIdentities
homs_identities degrees n above =
    ap (λ m. tensor_matrix m n) (transposed-identity n.ring degrees above)
    ∙ tensors_identities (dual_degrees degrees) n above

pub tensors_products : TensorsProducts
tensors_products a b n above h =
    let units = identity a.ring n.target in
    let composable : IsComposable units units =
    record { positive = h.positive; rings = refl; degrees = row_degrees-identity a.ring n.target } in
    ap (kronecker (matrix_product a b)) (sym (matrix_product-identity units h.positive (IsMatrix-identity a.ring above n.target)))
    ∙ kronecker-matrix_product a b units units h composable refl (IsMatrix-identity a.ring above n.target)
    ∙ (λ i. matrix_product (tensor_matrix a n) (kronecker b (identity (h.rings i) n.target)))

pub homs_products : HomsProducts
homs_products a b n above h first second =
    ap (λ m. tensor_matrix m n) (transposed-matrix_product a b h first second)
    ∙ tensors_products (transposed b) (transposed a) n (subst (λ (q : Ring). 1 < q.modulus) h.rings above)
    (IsComposable-transposed a b h)

pub tensors_ring : TensorsRing
tensors_ring n above h = kronecker-one n above h

pub homs_ring : HomsRing
homs_ring n above h = kronecker-one n above h
