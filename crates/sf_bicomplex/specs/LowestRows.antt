-- The lowest row of a bicomplex, below which no generators stand. All of its vectors are cycles of the first page, whose
-- differential there is dh; so the second page is the homology of dh on the first one. (Weibel, "An Introduction to
-- Homological Algebra", section 5.6.)
use Rattle.std.specs.Prelude.{◌≡◌, ◌↔◌, ℕ, suc, ◌<◌, [], ℤ, pos, ◌-ℤ◌}
use Rattle.sf_algebra.specs.Rings.{IsOverField}
use Rattle.sf_algebra.specs.Vectors.{IsVector, Vector}
use Rattle.sf_groebner.specs.Maps.{AreEqualModulo}
use Rattle.sf_groebner.specs.Spans.{combined_rows}
use Rattle.sf_bicomplex.specs.Bicomplexes.{Bicomplex, IsBicomplex}
use Rattle.sf_bicomplex.specs.Pages.{HasDifferential, IsBoundaryOfPage, IsCycleOfPage, IsNear}
use Rattle.sf_bicomplex.specs.TotalColumns.{place}

-- dh of a vector in column p + 1 of degree n
abbrev pub left : Bicomplex → ℤ → ℕ → Vector → Vector
left b n p v = combined_rows b.ring (b.horizontal (suc p) (n -ℤ pos (suc p))).rows v

abbrev pub HasLowestCycles : Type 0
HasLowestCycles =
    (b : Bicomplex) → IsBicomplex b → (n m : ℤ) → m ≡ n -ℤ pos 1 → (p : ℕ) → p < b.columns → (place b m p).target ≡ []
    → (z : Vector) → IsCycleOfPage b 1 n m p z ↔ IsVector b.ring (place b n p).target z

-- where nothing stands below column p + 1, the differential of page 1 from there is dh, modulo boundaries
abbrev pub HasLowestDifferentials : Type 0
HasLowestDifferentials =
    (b : Bicomplex) → IsBicomplex b → IsOverField b.ring → (n m : ℤ) → m ≡ n -ℤ pos 1 → (p : ℕ) → suc p < b.columns
    → (place b m (suc p)).target ≡ [] → (u w : Vector)
    → HasDifferential b 1 n m p u w
    ↔ (IsVector b.ring (place b n (suc p)).target u × IsVector b.ring (place b m p).target w
    × AreEqualModulo b.ring (IsBoundaryOfPage b 1 n m p) w (left b n p u))

-- so the cycles of page 2 are what dh sends to boundaries of page 1
abbrev pub HasSecondCycles : Type 0
HasSecondCycles =
    (b : Bicomplex) → IsBicomplex b → IsOverField b.ring → (n m : ℤ) → m ≡ n -ℤ pos 1 → (p : ℕ) → suc p < b.columns
    → (place b m (suc p)).target ≡ [] → (u : Vector)
    → IsCycleOfPage b 2 n m (suc p) u
    ↔ (IsVector b.ring (place b n (suc p)).target u × IsBoundaryOfPage b 1 n m p (left b n p u))

-- and its boundaries what dh gives, modulo boundaries of page 1
abbrev pub HasSecondBoundaries : Type 0
HasSecondBoundaries =
    (b : Bicomplex) → IsBicomplex b → IsOverField b.ring → (n m : ℤ) → m ≡ n -ℤ pos 1 → (p : ℕ) → suc p < b.columns
    → (place b m (suc p)).target ≡ [] → (w : Vector)
    → IsBoundaryOfPage b 2 n m p w
    ↔ IsNear b.ring (place b m p).target (left b n p) (IsVector b.ring (place b n (suc p)).target)
    (IsBoundaryOfPage b 1 n m p) w
