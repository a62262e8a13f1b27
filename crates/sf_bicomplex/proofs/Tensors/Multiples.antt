-- Matrices that are zero modulo relations are multiples of the matrix of relations, so Kronecker products keep them.
use Rattle.std.proofs.Common.{◌≡◌, ◌<◌, ℕ, zero, suc, List, [], ◌∷◌, map, refl, sym, ap, ◌∙◌, subst, arith, ℤ}
use Rattle.std.specs.List.{AllByRecursion}
use Rattle.sf_algebra.specs.Matrices.{IsMatrix, Matrix, row_degrees}
use Rattle.sf_algebra.specs.MatrixOperations.{degree_sums, identity, kronecker, matrix_product, negated}
use Rattle.sf_algebra.specs.Rings.{IsRing, Ring}
use Rattle.sf_algebra.specs.Vectors.{IsVector, Vector}
use Rattle.sf_algebra.proofs.Basics.Lists.{AllByRecursion-weaken}
use Rattle.sf_algebra.proofs.GradedMatrices.Identities.{IsMatrix-identity, row_degrees-identity}
use Rattle.sf_algebra.proofs.GradedMatrices.NegatedMatrices.{IsMatrix-negated, row_degrees-negated}
use Rattle.sf_algebra.proofs.GradedMatrices.ProductLaws.{matrix_product-identity, matrix_product-negated, matrix_product-negated_first}
use Rattle.sf_algebra.proofs.GradedMatrices.Stacks.{AllByRecursion-map}
use Rattle.sf_algebra.proofs.Tensors.Kronecker.{IsMatrix-kronecker, row_degrees-kronecker}
use Rattle.sf_algebra.proofs.Tensors.KroneckerProducts.{kronecker-matrix_product}
use Rattle.sf_algebra.proofs.Tensors.KroneckerSums.{kronecker-negated}
use Rattle.sf_groebner.specs.Presentations.{IsModuleMap}
use Rattle.sf_groebner.specs.Spans.{InSpan, combined_rows}
use Rattle.sf_presented.proofs.RowMaps.{sends-rows, sends-span}
use Rattle.sf_blocks.specs.DirectSums.{IsZeroModulo}
use Rattle.sf_bicomplex.specs.TensorBicomplexes.{signed}

-- m is some matrix times r
pub record IsMultiple (r m : Matrix) : Type 0 where
  pub factor : Matrix
  pub ring : factor.ring ≡ r.ring
  pub target : factor.target ≡ row_degrees r
  pub matrix : IsMatrix factor
  pub product : m ≡ matrix_product factor r

abbrev coefficient_rows : (r : Matrix) (vs : List Vector) → AllByRecursion (InSpan r) vs → List Vector
coefficient_rows r [] h = []
coefficient_rows r (v ∷ vs) h = h.0.coefficients ∷ coefficient_rows r vs h.1

coefficient_rows-matrix : (r : Matrix) (vs : List Vector) (h : AllByRecursion (InSpan r) vs)
    → AllByRecursion (IsVector r.ring (row_degrees r)) (coefficient_rows r vs h)
coefficient_rows-matrix r [] h = tt
coefficient_rows-matrix r (v ∷ vs) h = (h.0.homogeneous, coefficient_rows-matrix r vs h.1)

coefficient_rows-value : (r : Matrix) (vs : List Vector) (h : AllByRecursion (InSpan r) vs)
    → map (combined_rows r.ring r.rows) (coefficient_rows r vs h) ≡ vs
coefficient_rows-value r [] h = refl
coefficient_rows-value r (v ∷ vs) h = λ i. h.0.value i ∷ coefficient_rows-value r vs h.1 i

pub multiple-from_zero : (r m : Matrix) → m.ring ≡ r.ring → m.target ≡ r.target → IsZeroModulo r m → IsMultiple r m
multiple-from_zero r m rings targets h = record {
  factor = record { ring = r.ring; target = row_degrees r; rows = coefficient_rows r m.rows h };
  ring = refl;
  target = refl;
  matrix = coefficient_rows-matrix r m.rows h;
  product = λ i. record { ring = rings i; target = targets i; rows = sym (coefficient_rows-value r m.rows h) i };
}

pub zero-from_multiple : (r m : Matrix) → IsMultiple r m → IsZeroModulo r m
zero-from_multiple r m h =
    let x = h.factor in
    subst (IsZeroModulo r) (sym h.product)
    (AllByRecursion-map (InSpan r) (combined_rows x.ring r.rows) x.rows
    (AllByRecursion-weaken (IsVector x.ring x.target) _
    (λ v k. record {
      coefficients = v;
      homogeneous = subst (λ q. IsVector q (row_degrees r) v) h.ring (subst (λ ds. IsVector x.ring ds v) h.target k);
      value = ap (λ q. combined_rows q r.rows v) (sym h.ring);
    }) x.rows h.matrix))

-- (-1)^p
pub ring-signed : (p : ℕ) (m : Matrix) → (signed p m).ring ≡ m.ring
ring-signed zero m = refl
ring-signed (suc p) m = ring-signed p m

pub target-signed : (p : ℕ) (m : Matrix) → (signed p m).target ≡ m.target
target-signed zero m = refl
target-signed (suc p) m = target-signed p m

pub row_degrees-signed : (p : ℕ) (m : Matrix) → row_degrees (signed p m) ≡ row_degrees m
row_degrees-signed zero m = refl
row_degrees-signed (suc p) m = row_degrees-negated (signed p m) ∙ row_degrees-signed p m

pub IsMatrix-signed : (p : ℕ) (m : Matrix) → IsMatrix m → IsMatrix (signed p m)
IsMatrix-signed zero m h = h
IsMatrix-signed (suc p) m h = IsMatrix-negated (signed p m) (IsMatrix-signed p m h)

above_zero : (ring other : Ring) → ring ≡ other → 0 < other.modulus → 0 < ring.modulus
above_zero ring other same h = subst (λ (q : Ring). 0 < q.modulus) (sym same) h

pub signed-first : (p : ℕ) (a b : Matrix) → 0 < a.ring.modulus → IsMatrix a
    → matrix_product (signed p a) b ≡ signed p (matrix_product a b)
signed-first zero a b positive h = refl
signed-first (suc p) a b positive h =
    matrix_product-negated_first (signed p a) b (above_zero (signed p a).ring a.ring (ring-signed p a) positive)
    (IsMatrix-signed p a h)
    ∙ ap negated (signed-first p a b positive h)

pub signed-second : (p : ℕ) (a b : Matrix) → 0 < a.ring.modulus → a.ring ≡ b.ring → IsMatrix b
    → matrix_product a (signed p b) ≡ signed p (matrix_product a b)
signed-second zero a b positive rings h = refl
signed-second (suc p) a b positive rings h =
    matrix_product-negated a (signed p b) positive (rings ∙ sym (ring-signed p b)) (IsMatrix-signed p b h)
    ∙ ap negated (signed-second p a b positive rings h)

pub signed-product : (p s : ℕ) (a b : Matrix) → 0 < a.ring.modulus → a.ring ≡ b.ring → IsMatrix a → IsMatrix b
    → matrix_product (signed p a) (signed s b) ≡ signed p (signed s (matrix_product a b))
signed-product p s a b positive rings h k =
    signed-first p a (signed s b) positive h ∙ ap (signed p) (signed-second s a b positive rings k)

pub kronecker-signed : (p : ℕ) (a b : Matrix) → 0 < a.ring.modulus → a.ring ≡ b.ring → IsMatrix b
    → kronecker a (signed p b) ≡ signed p (kronecker a b)
kronecker-signed zero a b positive rings h = refl
kronecker-signed (suc p) a b positive rings h =
    kronecker-negated a (signed p b) positive (rings ∙ sym (ring-signed p b)) (IsMatrix-signed p b h)
    ∙ ap negated (kronecker-signed p a b positive rings h)

pub multiple-signed : (p : ℕ) (r m : Matrix) → 0 < r.ring.modulus → IsMultiple r m → IsMultiple r (signed p m)
multiple-signed zero r m positive h = h
multiple-signed (suc p) r m positive h =
    let k = multiple-signed p r m positive h in record {
      factor = negated k.factor;
      ring = k.ring;
      target = k.target;
      matrix = IsMatrix-negated k.factor k.matrix;
      product = ap negated k.product
          ∙ sym (matrix_product-negated_first k.factor r (above_zero k.factor.ring r.ring k.ring positive) k.matrix);
    }

-- with an identity as the first factor of a Kronecker product
module _ (ring : Ring) (above : 1 < ring.modulus) (ds : List ℤ) where
  positive : 0 < ring.modulus
  positive = omega arith

  abbrev ones : Matrix
  ones = identity ring ds

  pub kronecker-product : (a b : Matrix) → ring ≡ a.ring → a.ring ≡ b.ring → row_degrees b ≡ a.target → IsMatrix a
      → kronecker ones (matrix_product a b) ≡ matrix_product (kronecker ones a) (kronecker ones b)
  kronecker-product a b rings others degrees h =
      ap (λ (x : Matrix). kronecker x (matrix_product a b))
      (sym (matrix_product-identity ones positive (IsMatrix-identity ring above ds)))
      ∙ kronecker-matrix_product ones ones a b
      (record { positive = positive; rings = refl; degrees = row_degrees-identity ring ds })
      (record { positive = subst (λ (q : Ring). 0 < q.modulus) rings positive; rings = others; degrees = degrees })
      rings h

  pub multiple-kronecker : (r m : Matrix) → ring ≡ r.ring → IsMultiple r m
      → IsMultiple (kronecker ones r) (kronecker ones m)
  multiple-kronecker r m rings h = record {
    factor = kronecker ones h.factor;
    ring = refl;
    target = (λ i. degree_sums (sym (row_degrees-identity ring ds) i) (h.target i)) ∙ sym (row_degrees-kronecker ones r);
    matrix = IsMatrix-kronecker ones h.factor positive (rings ∙ sym h.ring) (IsMatrix-identity ring above ds) h.matrix;
    product = ap (kronecker ones) h.product
        ∙ kronecker-product h.factor r (rings ∙ sym h.ring) h.ring (sym h.target) h.matrix;
  }

all_of_map : {X Y : Type 0} (P : Y → Type 0) (f : X → Y) (xs : List X) → AllByRecursion P (map f xs)
    → AllByRecursion (λ x. P (f x)) xs
all_of_map P f [] h = tt
all_of_map P f (x ∷ xs) h = (h.0, all_of_map P f xs h.1)

-- what sends relations to a multiple of relations is a map of presented modules
module _ (source target map : Matrix) (positive : IsRing map.ring) (first : map.ring ≡ source.ring)
    (second : map.ring ≡ target.ring) where
  pub map-from_multiple : IsMatrix target → IsMatrix map → row_degrees map ≡ source.target → map.target ≡ target.target
      → IsMultiple target (matrix_product source map) → IsModuleMap source target map
  map-from_multiple matrix of_map degrees targets h = record {
    matrix = of_map;
    source_ring = first;
    target_ring = second;
    source_degrees = degrees;
    target_degrees = targets;
    sends = sends-span source target map positive first second matrix
        (subst (λ q. AllByRecursion (λ v. InSpan target (combined_rows q map.rows v)) source.rows) (sym first)
        (all_of_map (InSpan target) (combined_rows source.ring map.rows) source.rows
        (zero-from_multiple target (matrix_product source map) h)));
  }

  pub multiple-from_map : 1 < map.ring.modulus → IsMatrix source → IsModuleMap source target map
      → IsMultiple target (matrix_product source map)
  multiple-from_map above matrix h =
      multiple-from_zero target (matrix_product source map) (sym first ∙ second) h.target_degrees
      (AllByRecursion-map (InSpan target) (combined_rows source.ring map.rows) source.rows
      (subst (λ q. AllByRecursion (λ v. InSpan target (combined_rows q map.rows v)) source.rows) first
      (sends-rows source target map positive first second above matrix h.sends)))
