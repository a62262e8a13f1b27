-- What holds of reductions: each vector has exactly one. (Textbook.)
use Rattle.std.specs.Prelude.{◌≡◌, ◌↔◌}
use Rattle.sf_algebra.specs.Matrices.{Matrix, IsMatrix}
use Rattle.sf_algebra.specs.Rings.{IsRing, IsOverField}
use Rattle.sf_algebra.specs.Vectors.{Vector, IsVector}
use Rattle.sf_groebner.specs.Lifts.{IsLift}
use Rattle.sf_groebner.specs.Presentations.{IsZero}
use Rattle.sf_groebner.specs.Reductions.{IsReduction}
use Rattle.sf_groebner.specs.Spans.{InSpan}

-- over a field a vector has a reduction
abbrev pub HasReductions : Type 0
HasReductions =
    (m : Matrix) → IsOverField m.ring → IsMatrix m → (v : Vector) → IsVector m.ring m.target v
    → (w : Vector) × (c : Vector) × IsReduction m v w c

-- and no other one
abbrev pub HasOneReduction : Type 0
HasOneReduction =
    (m : Matrix) → IsRing m.ring → IsMatrix m → (v : Vector) → IsVector m.ring m.target v
    → (w c x d : Vector) → IsReduction m v w c → IsReduction m v x d → (w ≡ x) × (c ≡ d)

-- what is left is 0 exactly where the vector is in the span
abbrev pub ReducesSpanToZero : Type 0
ReducesSpanToZero =
    (m : Matrix) → IsRing m.ring → IsMatrix m → (v : Vector) → IsVector m.ring m.target v
    → (w c : Vector) → IsReduction m v w c → IsZero w ↔ InSpan m v

-- and then the coefficients are its lift
abbrev pub LeavesLifts : Type 0
LeavesLifts =
    (m : Matrix) → IsRing m.ring → (v w c : Vector) → IsReduction m v w c → IsZero w → IsLift m v c
