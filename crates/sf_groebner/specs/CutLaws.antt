-- What holds of the parts of reduced bases. (Cox, Little, O'Shea, "Using Algebraic Geometry", chapter 5, section 3:
-- syzygies and elimination of positions.)
use Rattle.std.specs.Prelude.{◌≡◌, ◌↔◌, List, length}
use Rattle.sf_algebra.specs.Matrices.{Matrix, IsMatrix}
use Rattle.sf_algebra.specs.MatrixOperations.{stacked}
use Rattle.sf_algebra.specs.Rings.{IsRing}
use Rattle.sf_algebra.specs.Vectors.{Vector}
use Rattle.sf_groebner.specs.BasisParts.{AreLifts, coefficients_of, syzygies_of, values_of}
use Rattle.sf_groebner.specs.Cuts.{first_parts, IsFirstBlock}
use Rattle.sf_groebner.specs.Presentations.{IsRelation}
use Rattle.sf_groebner.specs.ReducedBases.{IsReducedBasis, IsSpanBasis, IsSyzygyBasis, IsGraphBasis}
use Rattle.sf_groebner.specs.Spans.{InSpan, IsSyzygy}

-- of the reduced basis of a graph, the value parts that aren't 0 are the reduced basis of the span
abbrev pub HasSpanOfValues : Type 0
HasSpanOfValues =
    (m : Matrix) → IsRing m.ring → IsMatrix m → (basis : List Vector) → IsGraphBasis m basis
    → IsSpanBasis m (values_of m basis)

-- the coefficient parts of the others are the reduced basis of the syzygies
abbrev pub HasSyzygiesOfOthers : Type 0
HasSyzygiesOfOthers =
    (m : Matrix) → IsRing m.ring → (basis : List Vector) → IsGraphBasis m basis
    → IsSyzygyBasis m (syzygies_of m basis)

-- the coefficients beside the values are their lifts
abbrev pub HasLiftsOfValues : Type 0
HasLiftsOfValues =
    (m : Matrix) → IsRing m.ring → (basis : List Vector) → IsGraphBasis m basis
    → AreLifts m (values_of m basis) (coefficients_of m basis)

-- of the reduced basis of the syzygies of a stack, the first blocks that aren't 0 are the reduced basis of all first
-- blocks
abbrev pub HasBasisOfFirstBlocks : Type 0
HasBasisOfFirstBlocks =
    (a b : Matrix) → IsRing a.ring → (basis : List Vector) → IsReducedBasis a.ring.weights
    (IsSyzygy (stacked a b)) basis
    → IsReducedBasis a.ring.weights (IsFirstBlock a b) (first_parts (length a.rows) basis)

-- the first blocks are the relations of the first rows modulo the span of the others
abbrev pub HasRelationsAsFirstBlocks : Type 0
HasRelationsAsFirstBlocks =
    (a b : Matrix) → IsRing a.ring → a.ring ≡ b.ring → (v : Vector) → IsRelation a (InSpan b) v ↔ IsFirstBlock a b v
