-- What holds of the reduced bases of the modules of a matrix. (Cox, Little, O'Shea, "Using Algebraic Geometry", chapter
-- 5, section 2.)
use Rattle.std.specs.Prelude.{◌≡◌, List}
use Rattle.sf_algebra.specs.Matrices.{Matrix, IsMatrix}
use Rattle.sf_algebra.specs.Rings.{IsRing}
use Rattle.sf_algebra.specs.Vectors.{Vector}
use Rattle.sf_groebner.specs.ReducedBases.{IsSpanBasis, IsSyzygyBasis, IsGraphBasis}

-- the span has at most one reduced basis
abbrev pub HasOneSpanBasis : Type 0
HasOneSpanBasis =
    (m : Matrix) → IsRing m.ring → IsMatrix m → (a b : List Vector) → IsSpanBasis m a → IsSpanBasis m b → a ≡ b

-- so have the syzygies
abbrev pub HasOneSyzygyBasis : Type 0
HasOneSyzygyBasis = (m : Matrix) → IsRing m.ring → (a b : List Vector) → IsSyzygyBasis m a → IsSyzygyBasis m b → a ≡ b

-- so has the graph
abbrev pub HasOneGraphBasis : Type 0
HasOneGraphBasis = (m : Matrix) → IsRing m.ring → (a b : List Vector) → IsGraphBasis m a → IsGraphBasis m b → a ≡ b
