-- What holds of pages and their differentials. (Weibel, "An Introduction to Homological Algebra", section 5.4.)
use Rattle.std.specs.Prelude.{◌≡◌, ◌↔◌, ℕ, suc, ◌+◌, ◌<◌, ◌≤◌, [], ℤ, pos, ◌-ℤ◌}
use Rattle.sf_algebra.specs.Vectors.{Vector}
use Rattle.sf_groebner.specs.Maps.{AreEqualModulo}
use Rattle.sf_bicomplex.specs.Bicomplexes.{Bicomplex, IsBicomplex}
use Rattle.sf_bicomplex.specs.Pages.{HasDifferential, IsBoundaryOfPage, IsCycleOfPage}

-- from page to page cycles fall and boundaries grow
abbrev pub HasNestedPages : Type 0
HasNestedPages =
    (b : Bicomplex) → IsBicomplex b → (n m : ℤ) → m ≡ n -ℤ pos 1 → (q r p : ℕ) → q ≤ r → p < b.columns → (v : Vector)
    → (IsCycleOfPage b r n m p v → IsCycleOfPage b q n m p v)
    × (IsBoundaryOfPage b q n m p v → IsBoundaryOfPage b r n m p v)

-- boundaries of any page are cycles of all
abbrev pub HasBoundariesAmongCycles : Type 0
HasBoundariesAmongCycles =
    (b : Bicomplex) → IsBicomplex b → (n m l : ℤ) → m ≡ n -ℤ pos 1 → l ≡ m -ℤ pos 1 → (q r p : ℕ) → p < b.columns
    → (v : Vector) → IsBoundaryOfPage b q n m p v → IsCycleOfPage b r m l p v

-- the vectors with a differential are the cycles of the page, and the differentials are cycles of it too
abbrev pub HasDifferentialsOfCycles : Type 0
HasDifferentialsOfCycles =
    (b : Bicomplex) → IsBicomplex b → (n m l : ℤ) → m ≡ n -ℤ pos 1 → l ≡ m -ℤ pos 1 → (r p : ℕ) → p + r < b.columns
    → (u : Vector)
    → (IsCycleOfPage b r n m (p + r) u → (w : Vector) × HasDifferential b r n m p u w)
    × ((w : Vector) → HasDifferential b r n m p u w → IsCycleOfPage b r n m (p + r) u × IsCycleOfPage b r m l p w)

-- what is equal modulo boundaries of the page has differentials that are
abbrev pub HasDifferentialsOfClasses : Type 0
HasDifferentialsOfClasses =
    (b : Bicomplex) → IsBicomplex b → (k n m : ℤ) → n ≡ k -ℤ pos 1 → m ≡ n -ℤ pos 1 → (r p : ℕ) → p + r < b.columns
    → (u v w x : Vector) → HasDifferential b r n m p u w → HasDifferential b r n m p v x
    → AreEqualModulo b.ring (IsBoundaryOfPage b r k n (p + r)) u v
    → AreEqualModulo b.ring (IsBoundaryOfPage b r n m p) w x

-- the cycles of the next page are the kernel of the differential
abbrev pub HasKernelAsNextCycles : Type 0
HasKernelAsNextCycles =
    (b : Bicomplex) → IsBicomplex b → (n m : ℤ) → m ≡ n -ℤ pos 1 → (r p : ℕ) → p + r < b.columns → (u : Vector)
    → IsCycleOfPage b (suc r) n m (p + r) u ↔ HasDifferential b r n m p u (record { degree = u.degree; terms = [] })

-- and its boundaries the differentials
abbrev pub HasValuesAsNextBoundaries : Type 0
HasValuesAsNextBoundaries =
    (b : Bicomplex) → IsBicomplex b → (n m : ℤ) → m ≡ n -ℤ pos 1 → (r p : ℕ) → p + r < b.columns → (w : Vector)
    → IsBoundaryOfPage b (suc r) n m p w ↔ ((u : Vector) × HasDifferential b r n m p u w)

-- past the last columns nothing changes: cycles where the differential leaves the bicomplex at the left, and boundaries
-- where it would come from the right of it
abbrev pub HasLastPages : Type 0
HasLastPages =
    (b : Bicomplex) → IsBicomplex b → (n m : ℤ) → m ≡ n -ℤ pos 1 → (q r p : ℕ) → q ≤ r → p < b.columns → (v : Vector)
    → (suc p ≤ q → IsCycleOfPage b q n m p v ↔ IsCycleOfPage b r n m p v)
    × (b.columns ≤ p + q → IsBoundaryOfPage b q n m p v ↔ IsBoundaryOfPage b r n m p v)
