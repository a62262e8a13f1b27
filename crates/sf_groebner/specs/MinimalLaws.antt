-- What holds of minimal generators. (Textbook; the choice of the generators is this project's own.)
use Rattle.std.specs.Prelude.{◌≡◌, ◌↔◌, List, []}
use Rattle.sf_algebra.specs.Matrices.{Matrix, IsMatrix}
use Rattle.sf_algebra.specs.Rings.{Ring, IsRing, IsOverField}
use Rattle.sf_algebra.specs.Vectors.{Vector}
use Rattle.sf_groebner.specs.MinimalGenerators.{IsInSum, AreKept, AreMinimal, AreChosen}
use Rattle.sf_groebner.specs.Presentations.{IsZero, IsRelation}
use Rattle.sf_groebner.specs.Spans.{InSpan}

-- modulo a span, the vectors kept before do as well as all vectors before
abbrev pub ChoosesModuloSpan : Type 0
ChoosesModuloSpan =
    (base : Matrix) → IsRing base.ring → IsMatrix base → (vs kept : List Vector)
    → AreKept base.ring (InSpan base) [] vs kept ↔ AreChosen base.ring (InSpan base) [] vs kept

-- modulo 0 too
abbrev pub ChoosesModuloZero : Type 0
ChoosesModuloZero =
    (ring : Ring) → IsRing ring → (vs kept : List Vector) → AreKept ring IsZero [] vs kept ↔ AreChosen ring IsZero [] vs kept

-- a span modulo another one has at most one list of minimal generators
abbrev pub HasOneMinimalSpan : Type 0
HasOneMinimalSpan =
    (m base : Matrix) → IsRing m.ring → IsMatrix m → (a b : List Vector)
    → AreMinimal m.ring (InSpan m) (InSpan base) a → AreMinimal m.ring (InSpan m) (InSpan base) b → a ≡ b

-- so have the relations of vectors modulo a span, modulo 0
abbrev pub HasOneMinimalRelations : Type 0
HasOneMinimalRelations =
    (m base : Matrix) → IsRing m.ring → m.ring ≡ base.ring → IsMatrix base → (a b : List Vector)
    → AreMinimal m.ring (IsRelation m (InSpan base)) IsZero a → AreMinimal m.ring (IsRelation m (InSpan base)) IsZero b
    → a ≡ b

-- each vector of the span is the sum of one of the other and a combination of the minimal generators
abbrev pub GeneratesSpan : Type 0
GeneratesSpan =
    (m base : Matrix) → IsOverField m.ring → m.ring ≡ base.ring → m.target ≡ base.target → IsMatrix m → IsMatrix base → (generators : List Vector)
    → AreMinimal m.ring (InSpan m) (InSpan base) generators
    → (v : Vector) → InSpan m v → IsInSum m.ring generators (InSpan base) v
