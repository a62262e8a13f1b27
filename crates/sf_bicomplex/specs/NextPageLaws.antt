-- Page r + 1 is the homology of page r: by matrices of the differentials, and by two matrices that are inverse to one
-- another. (Weibel, "An Introduction to Homological Algebra", section 5.4.)
use Rattle.std.specs.Prelude.{◌≡◌, ◌↔◌, ℕ, suc, ◌+◌, ◌<◌, ◌≤◌, ℤ, pos, ◌+ℤ◌, ◌-ℤ◌}
use Rattle.sf_algebra.specs.Matrices.{Matrix}
use Rattle.sf_algebra.specs.MatrixOperations.{stacked}
use Rattle.sf_algebra.specs.Rings.{IsOverField}
use Rattle.sf_algebra.specs.Vectors.{Vector}
use Rattle.sf_groebner.specs.Homology.{IsCycle}
use Rattle.sf_groebner.specs.Spans.{InSpan, IsCoefficients}
use Rattle.sf_presented.specs.Inverses.{AreInverseModulo}
use Rattle.sf_bicomplex.specs.Bicomplexes.{Bicomplex, IsBicomplex}
use Rattle.sf_bicomplex.specs.Descriptions.{Describes}
use Rattle.sf_bicomplex.specs.NextPages.{HasPageCoordinates, IsNextBoundary, IsNextCycle, IsPageHomology}
use Rattle.sf_bicomplex.specs.Pages.{HasDifferential, IsPage}

-- coordinates of cycles of the next page are the kernel of the matrix of the differential modulo relations, and those of
-- its boundaries the span of that matrix and of the relations
abbrev pub HasNextPageByMatrix : Type 0
HasNextPageByMatrix =
    (b : Bicomplex) → IsBicomplex b → IsOverField b.ring → (n m : ℤ) → m ≡ n -ℤ pos 1 → (r p : ℕ) → p + r < b.columns
    → (g relations h others d : Matrix) → IsPage b r n (p + r) g relations → IsPage b r m p h others
    → Describes (HasDifferential b r n m p) h others g d → (c : Vector)
    → (IsNextCycle b r n m (p + r) g c ↔ IsCycle d others c)
    × (IsNextBoundary b r n m p h c ↔ InSpan (stacked d others) c)

-- where the differential leaves the bicomplex at the left all coordinates are those of cycles, and where it would come from
-- the right of it relations alone are those of boundaries
abbrev pub HasNextPageAtBorders : Type 0
HasNextPageAtBorders =
    (b : Bicomplex) → IsBicomplex b → IsOverField b.ring → (r : ℕ) (n : ℤ) (p : ℕ) → p < b.columns
    → (g relations : Matrix) → IsPage b r n p g relations → (c : Vector)
    → (suc p ≤ r → IsCoefficients g c → IsNextCycle b r n (n -ℤ pos 1) p g c)
    × (b.columns ≤ p + r → IsNextBoundary b r (n +ℤ pos 1) n p g c ↔ InSpan relations c)

-- the homology of a page has one presentation
abbrev pub HasOnePageHomology : Type 0
HasOnePageHomology =
    (b : Bicomplex) → IsBicomplex b → IsOverField b.ring → (r : ℕ) (n : ℤ) (p : ℕ) → p < b.columns
    → (g relations : Matrix) → IsPage b r n p g relations
    → ((h : Matrix) × (others : Matrix) × IsPageHomology b r n p g h others)
    × ((h others k more : Matrix) → IsPageHomology b r n p g h others → IsPageHomology b r n p g k more
    → (h ≡ k) × (others ≡ more))

-- its generators and those of page r + 1 have coordinates in one another, by two matrices that are inverse modulo relations
abbrev pub HasInverseNextMaps : Type 0
HasInverseNextMaps =
    (b : Bicomplex) → IsBicomplex b → IsOverField b.ring → (r : ℕ) (n : ℤ) (p : ℕ) → p < b.columns
    → (g relations h others next more : Matrix) → IsPage b r n p g relations → IsPageHomology b r n p g h others
    → IsPage b (suc r) n p next more
    → ((to : Matrix) × Describes (HasPageCoordinates b r n p g) h others next to)
    × ((from : Matrix) × Describes (λ c v. HasPageCoordinates b r n p g v c) next more h from)
    × ((to from : Matrix) → Describes (HasPageCoordinates b r n p g) h others next to
    → Describes (λ c v. HasPageCoordinates b r n p g v c) next more h from → AreInverseModulo more others to from)
