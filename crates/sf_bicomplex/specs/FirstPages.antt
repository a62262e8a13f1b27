-- The first page is the homology of the columns: its cycles are what dv sends to relations, its boundaries what dv gives
-- modulo relations. (Weibel, "An Introduction to Homological Algebra", section 5.6.)
use Rattle.std.specs.Prelude.{◌≡◌, ◌↔◌, ℕ, ◌<◌, ℤ, pos, ◌-ℤ◌}
use Rattle.sf_algebra.specs.Vectors.{IsVector, Vector}
use Rattle.sf_groebner.specs.Spans.{InSpan, combined_rows}
use Rattle.sf_bicomplex.specs.Bicomplexes.{Bicomplex, IsBicomplex}
use Rattle.sf_bicomplex.specs.Pages.{IsBoundaryOfPage, IsCycleOfPage, IsNear}
use Rattle.sf_bicomplex.specs.TotalColumns.{place}

-- dv of a vector in column p of degree n
abbrev pub down : Bicomplex → ℤ → ℕ → Vector → Vector
down b n p v = combined_rows b.ring (b.vertical p (n -ℤ pos p)).rows v

abbrev pub HasFirstCycles : Type 0
HasFirstCycles =
    (b : Bicomplex) → IsBicomplex b → (n m : ℤ) → m ≡ n -ℤ pos 1 → (p : ℕ) → p < b.columns → (z : Vector)
    → IsCycleOfPage b 1 n m p z ↔ (IsVector b.ring (place b n p).target z × InSpan (place b m p) (down b n p z))

abbrev pub HasFirstBoundaries : Type 0
HasFirstBoundaries =
    (b : Bicomplex) → IsBicomplex b → (n m : ℤ) → m ≡ n -ℤ pos 1 → (p : ℕ) → p < b.columns → (w : Vector)
    → IsBoundaryOfPage b 1 n m p w
    ↔ IsNear b.ring (place b m p).target (down b n p) (IsVector b.ring (place b n p).target) (InSpan (place b m p)) w
