-- What holds of Hom and tensor of free modules with a presented module N. (Atiyah, Macdonald, "Introduction to Commutative Algebra",
-- chapter 2.)
use Rattle.std.specs.Prelude.{◌≡◌, ◌==◌, if◌then◌else◌, ℕ, ◌+◌, ◌*◌, ◌<◌, List, [], ◌∷◌, length, ℤ, pos, ◌+ℤ◌, ◌-ℤ◌}
use Rattle.sf_algebra.specs.Matrices.{Matrix, row_degrees, IsMatrix}
use Rattle.sf_algebra.specs.MatrixOperations.{IsComposable, identity, matrix_product, moved, row_at}
use Rattle.sf_algebra.specs.Rings.{IsOverField}
use Rattle.sf_algebra.specs.Vectors.{entry, generator_degree}
use Rattle.sf_groebner.specs.Presentations.{IsModuleMap}
use Rattle.sf_blocks.specs.DirectSums.{IsZeroModulo}
use Rattle.sf_blocks.specs.MatrixSums.{IsZeroMatrix}
use Rattle.sf_functor.specs.Functors.{hom_matrix, hom_relations, tensor_matrix, tensor_relations}

-- the pair of generator i of D and generator j of N has the sum of their degrees
abbrev pub AddsDegrees : Type 0
AddsDegrees =
    (degrees : List ℤ) (n : Matrix) (i j : ℕ) → i < length degrees → j < length n.target
    → generator_degree (tensor_relations degrees n).target (i * length n.target + j)
    ≡ generator_degree degrees i +ℤ generator_degree n.target j

-- the map that sends generator i of D to generator j of N has the difference of their degrees
abbrev pub SubtractsDegrees : Type 0
SubtractsDegrees =
    (degrees : List ℤ) (n : Matrix) (i j : ℕ) → i < length degrees → j < length n.target
    → generator_degree (hom_relations degrees n).target (i * length n.target + j)
    ≡ generator_degree n.target j -ℤ generator_degree degrees i

-- relation k of N stands at each generator i of D
abbrev pub RepeatsRelations : Type 0
RepeatsRelations =
    (degrees : List ℤ) (n : Matrix) → 0 < n.ring.modulus → IsMatrix n → (i k : ℕ) → i < length degrees → k < length n.rows
    → row_at (tensor_relations degrees n).rows (i * length n.rows + k) ≡ moved (i * length n.target) (row_at n.rows k)

-- a x 1 sends the pair of i and k to the pairs of j and k by the entry of a at (i, j)
abbrev pub SpreadsEntries : Type 0
SpreadsEntries =
    (a n : Matrix) → 1 < a.ring.modulus → IsMatrix a → (i j k l : ℕ) → k < length n.target → l < length n.target
    → entry (j * length n.target + l) (row_at (tensor_matrix a n).rows (i * length n.target + k))
    ≡ (if k == l then entry j (row_at a.rows i) else [])

-- the map that sends generator j to k, after a, sends generator i to k by the entry of a at (i, j)
abbrev pub SpreadsTransposedEntries : Type 0
SpreadsTransposedEntries =
    (a n : Matrix) → 1 < a.ring.modulus → IsMatrix a → (i j k l : ℕ) → k < length n.target → l < length n.target
    → entry (i * length n.target + l) (row_at (hom_matrix a n).rows (j * length n.target + k))
    ≡ (if k == l then entry j (row_at a.rows i) else [])

-- a is a map of free modules over the ring of N
pub record IsMapBeside (a n : Matrix) : Type 0 where
  pub field : IsOverField n.ring
  pub ring : a.ring ≡ n.ring
  pub map : IsMatrix a
  pub module_relations : IsMatrix n

-- a x 1 is a map of presented modules
abbrev pub TensorsMaps : Type 0
TensorsMaps =
    (a n : Matrix) → IsMapBeside a n
    → IsModuleMap (tensor_relations (row_degrees a) n) (tensor_relations a.target n) (tensor_matrix a n)

-- and so is what a gives between modules of maps, the other way
abbrev pub HomsMaps : Type 0
HomsMaps =
    (a n : Matrix) → IsMapBeside a n
    → IsModuleMap (hom_relations a.target n) (hom_relations (row_degrees a) n) (hom_matrix a n)

-- identities give identities
abbrev pub TensorsIdentities : Type 0
TensorsIdentities =
    (degrees : List ℤ) (n : Matrix) → 1 < n.ring.modulus
    → tensor_matrix (identity n.ring degrees) n ≡ identity n.ring (tensor_relations degrees n).target

abbrev pub HomsIdentities : Type 0
HomsIdentities =
    (degrees : List ℤ) (n : Matrix) → 1 < n.ring.modulus
    → hom_matrix (identity n.ring degrees) n ≡ identity n.ring (hom_relations degrees n).target

-- products give products, with Hom in the other order
abbrev pub TensorsProducts : Type 0
TensorsProducts =
    (a b n : Matrix) → 1 < a.ring.modulus → IsComposable a b
    → tensor_matrix (matrix_product a b) n ≡ matrix_product (tensor_matrix a n) (tensor_matrix b n)

abbrev pub HomsProducts : Type 0
HomsProducts =
    (a b n : Matrix) → 1 < a.ring.modulus → IsComposable a b → IsMatrix a → IsMatrix b
    → hom_matrix (matrix_product a b) n ≡ matrix_product (hom_matrix b n) (hom_matrix a n)

-- the two maps are over the ring of N, and the first and then the second is 0
pub record IsComplexBeside (a b n : Matrix) : Type 0 where
  pub first : IsMapBeside a n
  pub second : IsMatrix b
  pub composable : IsComposable a b
  pub square : IsZeroMatrix (matrix_product a b)

-- so a complex gives a complex: the product is 0, and so it is 0 modulo relations
abbrev pub TensorsComplexes : Type 0
TensorsComplexes =
    (a b n : Matrix) → IsComplexBeside a b n
    → IsZeroMatrix (matrix_product (tensor_matrix a n) (tensor_matrix b n))
    × IsZeroModulo (tensor_relations b.target n) (matrix_product (tensor_matrix a n) (tensor_matrix b n))

abbrev pub HomsComplexes : Type 0
HomsComplexes =
    (a b n : Matrix) → IsComplexBeside a b n
    → IsZeroMatrix (matrix_product (hom_matrix b n) (hom_matrix a n))
    × IsZeroModulo (hom_relations (row_degrees a) n) (matrix_product (hom_matrix b n) (hom_matrix a n))

-- the tensor product of the ring and N is N, and so is the module of maps from the ring to N
abbrev pub TensorsRing : Type 0
TensorsRing = (n : Matrix) → 0 < n.ring.modulus → IsMatrix n → tensor_relations (pos 0 ∷ []) n ≡ n

abbrev pub HomsRing : Type 0
HomsRing = (n : Matrix) → 0 < n.ring.modulus → IsMatrix n → hom_relations (pos 0 ∷ []) n ≡ n
