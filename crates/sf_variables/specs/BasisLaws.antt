-- The reduced bases and the minimal generators of the modules of a matrix over n variables are over n variables.
-- (Textbook: a ring of polynomials is free over one in fewer variables, so that bases stay bases.)
use Rattle.std.specs.Prelude.{◌≡◌, ℕ, List}
use Rattle.sf_algebra.specs.Matrices.{Matrix}
use Rattle.sf_algebra.specs.Rings.{IsRing}
use Rattle.sf_algebra.specs.Vectors.{Vector}
use Rattle.sf_groebner.specs.Cuts.{IsFirstBlock}
use Rattle.sf_groebner.specs.MinimalGenerators.{AreMinimal}
use Rattle.sf_groebner.specs.Presentations.{IsZero, IsRelation}
use Rattle.sf_groebner.specs.ReducedBases.{IsReducedBasis, IsSpanBasis, IsSyzygyBasis, IsGraphBasis}
use Rattle.sf_groebner.specs.Spans.{InSpan, IsSyzygy}
use Rattle.sf_variables.specs.Variables.{AreInVariables, IsMatrixInVariables}

-- the basis of the graph
abbrev pub HasGraphBasisInVariables : Type 0
HasGraphBasisInVariables =
    (n : ℕ) (m : Matrix) → IsRing m.ring → IsMatrixInVariables n m → (basis : List Vector)
    → IsGraphBasis m basis → AreInVariables n basis

-- that of the span
abbrev pub HasSpanBasisInVariables : Type 0
HasSpanBasisInVariables =
    (n : ℕ) (m : Matrix) → IsRing m.ring → IsMatrixInVariables n m → (basis : List Vector) → IsSpanBasis m basis
    → AreInVariables n basis

-- that of the syzygies
abbrev pub HasSyzygyBasisInVariables : Type 0
HasSyzygyBasisInVariables =
    (n : ℕ) (m : Matrix) → IsRing m.ring → IsMatrixInVariables n m → (basis : List Vector)
    → IsSyzygyBasis m basis → AreInVariables n basis

-- that of the relations modulo a span
abbrev pub HasRelationBasisInVariables : Type 0
HasRelationBasisInVariables =
    (n : ℕ) (m base : Matrix) → IsRing m.ring → base.ring ≡ m.ring → IsMatrixInVariables n m
    → IsMatrixInVariables n base
    → (basis : List Vector) → IsReducedBasis m.ring.weights (IsRelation m (InSpan base)) basis
    → AreInVariables n basis

-- that of the first blocks of the syzygies of a stack
abbrev pub HasFirstBlockBasisInVariables : Type 0
HasFirstBlockBasisInVariables =
    (n : ℕ) (a b : Matrix) → IsRing a.ring → IsMatrixInVariables n a → IsMatrixInVariables n b
    → (basis : List Vector) → IsReducedBasis a.ring.weights (IsFirstBlock a b) basis → AreInVariables n basis

-- the minimal generators of the span modulo a span, whatever that is of
abbrev pub HasMinimalSpanInVariables : Type 0
HasMinimalSpanInVariables =
    (n : ℕ) (m base : Matrix) → IsRing m.ring → IsMatrixInVariables n m → (generators : List Vector)
    → AreMinimal m.ring (InSpan m) (InSpan base) generators → AreInVariables n generators

-- those of the syzygies modulo 0
abbrev pub HasMinimalSyzygiesInVariables : Type 0
HasMinimalSyzygiesInVariables =
    (n : ℕ) (m : Matrix) → IsRing m.ring → IsMatrixInVariables n m → (generators : List Vector)
    → AreMinimal m.ring (IsSyzygy m) IsZero generators → AreInVariables n generators

-- those of the relations modulo a span, modulo 0
abbrev pub HasMinimalRelationsInVariables : Type 0
HasMinimalRelationsInVariables =
    (n : ℕ) (m base : Matrix) → IsRing m.ring → base.ring ≡ m.ring → IsMatrixInVariables n m
    → IsMatrixInVariables n base
    → (generators : List Vector) → AreMinimal m.ring (IsRelation m (InSpan base)) IsZero generators
    → AreInVariables n generators
