-- Reduced bases as rows of matrices: what they span, and that the lists of a small matrix are small. (Cox, Little, O'Shea,
-- "Using Algebraic Geometry", chapter 5, section 2.)
use Rattle.std.specs.Prelude.{◌≡◌, ◌↔◌, ℕ, List, length}
use Rattle.sf_algebra.specs.Matrices.{Matrix, IsMatrix, row_degrees}
use Rattle.sf_algebra.specs.MatrixOperations.{stacked}
use Rattle.sf_algebra.specs.Rings.{IsRing, IsOverField}
use Rattle.sf_algebra.specs.Vectors.{Vector}
use Rattle.sf_groebner.specs.BasisParts.{syzygies_of, values_of}
use Rattle.sf_groebner.specs.Cuts.{first_parts}
use Rattle.sf_groebner.specs.MinimalGenerators.{matrix_of}
use Rattle.sf_groebner.specs.ReducedBases.{IsSpanBasis, IsSyzygyBasis}
use Rattle.sf_groebner.specs.Small.{IsSmall, IsSmallReducedBasis}
use Rattle.sf_groebner.specs.Spans.{InSpan, IsSyzygy}

-- the reduced basis of a span is that of its own span
abbrev pub IsBasisOfOwnSpan : Type 0
IsBasisOfOwnSpan =
    (m : Matrix) → IsRing m.ring → IsMatrix m → (basis : List Vector) → IsSpanBasis m basis
    → IsSpanBasis (matrix_of m.ring m.target basis) basis

-- so is that of the syzygies
abbrev pub IsSyzygyBasisOfOwnSpan : Type 0
IsSyzygyBasisOfOwnSpan =
    (m : Matrix) → IsRing m.ring → (basis : List Vector) → IsSyzygyBasis m basis
    → IsSpanBasis (matrix_of m.ring (row_degrees m) basis) basis

-- over a field it spans the span
abbrev pub SpansSpan : Type 0
SpansSpan =
    (m : Matrix) → IsOverField m.ring → IsMatrix m → (basis : List Vector) → IsSpanBasis m basis
    → (v : Vector) → InSpan m v ↔ InSpan (matrix_of m.ring m.target basis) v

-- and the other the syzygies
abbrev pub SpansAllSyzygies : Type 0
SpansAllSyzygies =
    (m : Matrix) → IsOverField m.ring → (basis : List Vector) → IsSyzygyBasis m basis
    → (v : Vector) → IsSyzygy m v ↔ InSpan (matrix_of m.ring (row_degrees m) basis) v

-- the values of a small matrix are the rows of a small reduced basis
abbrev pub HasSmallValues : Type 0
HasSmallValues =
    (limit : ℕ) (m : Matrix) → IsRing m.ring → IsMatrix m → (basis : List Vector) → IsSmall limit m basis
    → IsSmallReducedBasis limit (matrix_of m.ring m.target (values_of m basis))

-- so are its syzygies
abbrev pub HasSmallSyzygies : Type 0
HasSmallSyzygies =
    (limit : ℕ) (m : Matrix) → IsRing m.ring → (basis : List Vector) → IsSmall limit m basis
    → IsSmallReducedBasis limit (matrix_of m.ring (row_degrees m) (syzygies_of m basis))

-- and the first blocks of the syzygies of a small stack
abbrev pub HasSmallFirstBlocks : Type 0
HasSmallFirstBlocks =
    (limit : ℕ) (a b : Matrix) → IsRing a.ring → a.ring ≡ b.ring → IsMatrix b → (basis : List Vector) → IsSmall limit (stacked a b) basis
    → IsSmallReducedBasis limit
    (matrix_of a.ring (row_degrees a) (first_parts (length a.rows) (syzygies_of (stacked a b) basis)))
