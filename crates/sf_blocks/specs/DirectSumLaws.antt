-- What holds of direct sums of relations. (Any textbook of algebra.)
use Rattle.std.specs.Prelude.{◌≡◌, ◌↔◌, ◌++◌, List, ℤ, length}
use Rattle.sf_algebra.specs.Matrices.{Matrix, IsMatrix}
use Rattle.sf_algebra.specs.MatrixOperations.{moved, stacked}
use Rattle.sf_algebra.specs.Rings.{IsRing}
use Rattle.sf_algebra.specs.Terms.{Term}
use Rattle.sf_algebra.specs.Vectors.{Place, IsVector}
use Rattle.sf_groebner.specs.Spans.{InSpan}
use Rattle.sf_blocks.specs.DirectSums.{direct_sum, AreRelations, IsZeroModulo}
use Rattle.sf_blocks.specs.MatrixSums.{IsZeroMatrix}
use Rattle.sf_blocks.specs.SideBySide.{AreBeside, beside}

-- a vector with another one behind it is in the span of a direct sum exactly where each is in the span of its part
abbrev pub SpansDirectSums : Type 0
SpansDirectSums =
    (a b : Matrix) → IsRing a.ring → a.ring ≡ b.ring → IsMatrix a → IsMatrix b → (d : ℤ) (us vs : List (Term Place))
    → IsVector a.ring a.target (record { degree = d; terms = us })
    → IsVector a.ring b.target (record { degree = d; terms = vs })
    → InSpan (direct_sum a b) (record { degree = d; terms = us ++ moved (length a.target) vs })
    ↔ (InSpan a (record { degree = d; terms = us }) × InSpan b (record { degree = d; terms = vs }))

-- matrices side by side are zero modulo a direct sum exactly where each is modulo its part
abbrev pub HasZerosModuloBeside : Type 0
HasZerosModuloBeside =
    (r q a b : Matrix) → IsRing a.ring → AreBeside a b → AreRelations r a → AreRelations q b → IsMatrix a → IsMatrix b
    → IsZeroModulo (direct_sum r q) (beside a b) ↔ (IsZeroModulo r a × IsZeroModulo q b)

-- a stack is zero modulo relations exactly where both matrices are
abbrev pub HasZeroStacksModulo : Type 0
HasZeroStacksModulo =
    (r a b : Matrix) → IsZeroModulo r (stacked a b) ↔ (IsZeroModulo r a × IsZeroModulo r b)

-- zero is zero modulo any relations
abbrev pub HasZeroModuloAny : Type 0
HasZeroModuloAny = (r m : Matrix) → IsRing r.ring → IsZeroMatrix m → IsZeroModulo r m
