-- What holds of the filtration of homology: its parts are the last page. (Weibel, "An Introduction to Homological
-- Algebra", sections 5.2 and 5.4.)
use Rattle.std.specs.Prelude.{◌≡◌, ◌↔◌, ℕ, suc, ◌<◌, ◌≤◌, ℤ, pos, ◌+ℤ◌, ◌-ℤ◌}
use Rattle.sf_algebra.specs.Matrices.{Matrix}
use Rattle.sf_algebra.specs.Rings.{IsOverField}
use Rattle.sf_algebra.specs.Vectors.{Vector}
use Rattle.sf_groebner.specs.Maps.{AreEqualModulo}
use Rattle.sf_groebner.specs.Spans.{InSpan, IsCoefficients}
use Rattle.sf_bicomplex.specs.Bicomplexes.{Bicomplex, IsBicomplex}
use Rattle.sf_bicomplex.specs.InducedFiltrations.{HasLeadingColumn, IsOfPart, IsTotalHomology}
use Rattle.sf_bicomplex.specs.Pages.{IsBoundaryOfPage, IsCycleOfPage}

-- parts rise; that of no columns has the relations of the homology alone, and that of all columns all coordinates
abbrev pub HasRisingParts : Type 0
HasRisingParts =
    (b : Bicomplex) → IsBicomplex b → IsOverField b.ring → (n above below : ℤ) → above ≡ n +ℤ pos 1
    → below ≡ n -ℤ pos 1 → (g relations : Matrix) → IsTotalHomology b n g relations → (k l : ℕ) → k ≤ l → (c : Vector)
    → (IsOfPart b above n below g k c → IsOfPart b above n below g l c)
    × (IsOfPart b above n below g 0 c ↔ InSpan relations c)
    × (IsCoefficients g c → IsOfPart b above n below g b.columns c)

-- the coordinates up to column p have leading columns there, and these are the cycles of the last page
abbrev pub HasLeadingColumns : Type 0
HasLeadingColumns =
    (b : Bicomplex) → IsBicomplex b → IsOverField b.ring → (n above below : ℤ) → above ≡ n +ℤ pos 1
    → below ≡ n -ℤ pos 1 → (g relations : Matrix) → IsTotalHomology b n g relations → (r p : ℕ) → b.columns ≤ r
    → p < b.columns
    → ((c : Vector) → IsOfPart b above n below g (suc p) c
    ↔ ((z : Vector) × HasLeadingColumn b above n below g p c z))
    × ((z : Vector) → IsCycleOfPage b r n below p z ↔ ((c : Vector) × HasLeadingColumn b above n below g p c z))

-- they are equal modulo the next lower part exactly where their leading columns are modulo boundaries of the last page
abbrev pub HasPartsAsLastPage : Type 0
HasPartsAsLastPage =
    (b : Bicomplex) → IsBicomplex b → IsOverField b.ring → (n above below : ℤ) → above ≡ n +ℤ pos 1
    → below ≡ n -ℤ pos 1 → (g relations : Matrix) → IsTotalHomology b n g relations → (r p : ℕ) → b.columns ≤ r
    → p < b.columns → (c e y z : Vector) → HasLeadingColumn b above n below g p c y
    → HasLeadingColumn b above n below g p e z
    → AreEqualModulo g.ring (IsOfPart b above n below g p) c e
    ↔ AreEqualModulo b.ring (IsBoundaryOfPage b r above n p) y z
