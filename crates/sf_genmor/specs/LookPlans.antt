-- Plans of one look, and what they answer: the reduced basis of the span of a matrix, that of its syzygies, and that of the
-- relations of rows modulo the span of others. (Cox, Little, O'Shea, "Using Algebraic Geometry", chapter 5, sections 2 and 3.)
use Rattle.std.specs.Prelude.{◌≡◌, if◌then◌else◌, List, [], ◌∷◌, ◌++◌, length, ℤ}
use Rattle.sf_algebra.specs.Matrices.{Matrix, row_degrees}
use Rattle.sf_algebra.specs.MatrixOperations.{stacked}
use Rattle.sf_algebra.specs.Vectors.{Vector}
use Rattle.sf_groebner.specs.BasisParts.{syzygies_of}
use Rattle.sf_groebner.specs.Cuts.{first_parts, has_terms}
use Rattle.sf_groebner.specs.MinimalGenerators.{matrix_of}
use Rattle.sf_groebner.specs.Presentations.{IsRelation}
use Rattle.sf_groebner.specs.ReducedBases.{IsReducedBasis, IsSpanBasis, IsSyzygyBasis}
use Rattle.sf_groebner.specs.Spans.{InSpan}
use Rattle.sf_matrix.specs.Plans.{Plan, answer, look}
use Rattle.sf_matrix.specs.Tables.{graph_of}

-- the reduced basis of the span of a matrix
unfoldable pub basis_plan : Matrix → Plan Matrix
basis_plan m = look m (λ elements. answer (graph_of m elements).basis)

-- that of its syzygies
unfoldable pub syzygies_plan : Matrix → Plan Matrix
syzygies_plan m = look m (λ elements. answer (graph_of m elements).syzygies)

-- the first blocks of syzygies of the rows of a and some others, where they aren't 0
abbrev pub first_blocks : Matrix → List Vector → Matrix
first_blocks a syzygies = matrix_of a.ring (row_degrees a) (first_parts (length a.rows) syzygies)

-- degrees that begin with others
abbrev pub BeginWith : List ℤ → List ℤ → Type 0
BeginWith first degrees = (others : List ℤ) × (degrees ≡ first ++ others)

-- a vector, unless it is 0
abbrev pub nonzero : Vector → List Vector
nonzero v = if has_terms v.terms then v ∷ [] else []

-- the reduced basis of the relations of the rows of a modulo the span of b
unfoldable pub blocks_plan : Matrix → Matrix → Plan Matrix
blocks_plan a b = look (stacked a b) (λ elements. answer (first_blocks a (syzygies_of (stacked a b) elements)))

-- the reduced basis of the span, over the target
pub record IsBasisMatrix (m b : Matrix) : Type 0 where
  pub ring : b.ring ≡ m.ring
  pub target : b.target ≡ m.target
  pub reduced : IsSpanBasis m b.rows

-- the reduced basis of the syzygies, over the free module of the rows' degrees
pub record IsSyzygyMatrix (m b : Matrix) : Type 0 where
  pub ring : b.ring ≡ m.ring
  pub target : b.target ≡ row_degrees m
  pub reduced : IsSyzygyBasis m b.rows

-- the reduced basis of the relations modulo the span of a base, over the free module of the rows' degrees
pub record IsRelationMatrix (a base b : Matrix) : Type 0 where
  pub ring : b.ring ≡ a.ring
  pub target : b.target ≡ row_degrees a
  pub reduced : IsReducedBasis a.ring.weights (IsRelation a (InSpan base)) b.rows
