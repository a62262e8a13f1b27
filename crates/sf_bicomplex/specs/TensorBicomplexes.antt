-- The tensor product of a complex of free modules and a complex of presented modules, as a bicomplex. (Weibel, "An
-- Introduction to Homological Algebra", section 2.7: the sign trick.)
use Rattle.std.specs.Prelude.{◌≡◌, ◌≤◌, ℕ, zero, suc, List, [], ◌∷◌, length, ℤ, pos, negsuc, ◌-ℤ◌}
use Rattle.sf_algebra.specs.Matrices.{Matrix, row_degrees}
use Rattle.sf_algebra.specs.MatrixOperations.{identity, kronecker, matrix_product, negated}
use Rattle.sf_algebra.specs.Rings.{Ring, IsRing}
use Rattle.sf_groebner.specs.MinimalGenerators.{matrix_of}
use Rattle.sf_groebner.specs.Presentations.{IsModuleMap}
use Rattle.sf_blocks.specs.BlockLists.{IsFrom, IsTo}
use Rattle.sf_blocks.specs.DirectSums.{IsZeroModulo}
use Rattle.sf_blocks.specs.MatrixSums.{IsZeroMatrix, zero_matrix}
use Rattle.sf_bicomplex.specs.Bicomplexes.{Bicomplex}

-- a complex of free modules in finitely many places, numbered from 0: the degrees of the generators in each place, and
-- the map from there to the next lower one
pub record FreeComplex : Type 0 where
  pub ring : Ring
  pub places : ℕ
  pub degrees : ℕ → List ℤ
  pub map : ℕ → Matrix

-- past the places there is nothing, the map out of place 0 goes to nothing, and two maps in a row are zero
pub record IsFreeComplex (c : FreeComplex) : Type 0 where
  pub is_ring : IsRing c.ring
  pub outside : (p : ℕ) → c.places ≤ p → c.degrees p ≡ []
  pub sources : (p : ℕ) → IsFrom c.ring (c.degrees p) (c.map p)
  pub leaving : (c.map 0).target ≡ []
  pub targets : (p : ℕ) → (c.map (suc p)).target ≡ c.degrees p
  pub squares : (p : ℕ) → IsZeroMatrix (matrix_product (c.map (suc (suc p))) (c.map (suc p)))

-- a complex of presented modules: the relations in each place, and the map from there to the next lower one
pub record ModuleComplex : Type 0 where
  pub relations : ℤ → Matrix
  pub map : ℤ → Matrix

-- the maps are maps of presented modules, and two in a row are zero modulo relations
pub record IsModuleComplex (ring : Ring) (d : ModuleComplex) : Type 0 where
  pub modules : (q : ℤ) → IsTo ring (d.relations q).target (d.relations q)
  pub maps : (q : ℤ) → IsModuleMap (d.relations q) (d.relations (q -ℤ pos 1)) (d.map q)
  pub squares : (q : ℤ)
      → IsZeroModulo (d.relations (q -ℤ pos 1 -ℤ pos 1)) (matrix_product (d.map q) (d.map (q -ℤ pos 1)))

-- (-1)^p m
abbrev pub signed : ℕ → Matrix → Matrix
signed zero m = m
signed (suc p) m = negated (signed p m)

-- in column p and row q stands the tensor product of the modules in place p and in place q; dh = d x 1, and
-- dv = (-1)^p (1 x d)
abbrev pub tensor_bicomplex : FreeComplex → ModuleComplex → Bicomplex
tensor_bicomplex c d = record {
  ring = c.ring;
  columns = c.places;
  relations = λ p q. kronecker (identity c.ring (c.degrees p)) (d.relations q);
  vertical = λ p q. signed p (kronecker (identity c.ring (c.degrees p)) (d.map q));
  horizontal = λ p q. kronecker (c.map p) (identity c.ring (d.relations q).target);
}

-- a complex of free modules as one of presented modules, without relations
abbrev pub free_relations : FreeComplex → ℤ → Matrix
free_relations c (pos q) = matrix_of c.ring (c.degrees q) []
free_relations c (negsuc q) = matrix_of c.ring [] []

abbrev pub free_map : FreeComplex → ℤ → Matrix
free_map c (pos q) = c.map q
free_map c (negsuc q) = zero_matrix c.ring [] []

abbrev pub as_modules : FreeComplex → ModuleComplex
as_modules c = record { relations = free_relations c; map = free_map c }

-- a presented module in place 0, and nothing elsewhere
abbrev pub alone_relations : Matrix → ℤ → Matrix
alone_relations m (pos zero) = m
alone_relations m q = matrix_of m.ring [] []

abbrev pub alone_map : Matrix → ℤ → Matrix
alone_map m (pos zero) = zero_matrix m.ring m.target []
alone_map m q = zero_matrix m.ring [] (alone_relations m (q -ℤ pos 1)).target

abbrev pub module_alone : Matrix → ModuleComplex
module_alone m = record { relations = alone_relations m; map = alone_map m }

-- the generators in each place, and the map from each place to the next lower one, of the complex that these matrices
-- are, the first of which goes to the generators in place 0
abbrev pub degrees_at : List ℤ → List Matrix → ℕ → List ℤ
degrees_at first ms zero = first
degrees_at first [] (suc p) = []
degrees_at first (m ∷ ms) (suc p) = degrees_at (row_degrees m) ms p

abbrev pub map_to : Ring → List ℤ → List Matrix → ℕ → Matrix
map_to ring first [] p = zero_matrix ring [] (degrees_at first [] p)
map_to ring first (m ∷ ms) zero = m
map_to ring first (m ∷ ms) (suc p) = map_to ring (row_degrees m) ms p

abbrev pub map_from : Ring → List ℤ → List Matrix → ℕ → Matrix
map_from ring first ms zero = zero_matrix ring first []
map_from ring first ms (suc p) = map_to ring first ms p

abbrev pub complex_of : Ring → List ℤ → List Matrix → FreeComplex
complex_of ring first ms = record {
  ring = ring;
  places = suc (length ms);
  degrees = degrees_at first ms;
  map = map_from ring first ms;
}

-- each matrix goes to the generators from which the one before goes, and two in a row are zero
abbrev pub IsZeroAfter : Matrix → List Matrix → Type 0
IsZeroAfter m [] = Unit {0}
IsZeroAfter m (n ∷ ns) = IsZeroMatrix (matrix_product n m)

abbrev pub AreComplex : Ring → List ℤ → List Matrix → Type 0
AreComplex ring first [] = Unit {0}
AreComplex ring first (m ∷ ms) = IsTo ring first m × IsZeroAfter m ms × AreComplex ring (row_degrees m) ms

-- the tensor bicomplex of two complexes of free modules, and of one with a presented module
abbrev pub tensor_of_complexes : FreeComplex → FreeComplex → Bicomplex
tensor_of_complexes c d = tensor_bicomplex c (as_modules d)

abbrev pub tensor_with_module : FreeComplex → Matrix → Bicomplex
tensor_with_module c m = tensor_bicomplex c (module_alone m)
