-- What pages and parts of homology have modulo a prime: presentations, and matrices of the differential and between parts
-- and the last page; each is one. (Weibel, "An Introduction to Homological Algebra", section 5.4.)
use Rattle.std.specs.Prelude.{◌≡◌, ℕ, ◌+◌, ◌<◌, ℤ, pos, ◌+ℤ◌, ◌-ℤ◌}
use Rattle.sf_algebra.specs.Matrices.{Matrix}
use Rattle.sf_algebra.specs.Rings.{IsOverField}
use Rattle.sf_groebner.specs.Presentations.{IsModuleMap}
use Rattle.sf_presented.specs.Inverses.{AreInverseModulo}
use Rattle.sf_bicomplex.specs.Bicomplexes.{Bicomplex, IsBicomplex}
use Rattle.sf_bicomplex.specs.Descriptions.{Describes}
use Rattle.sf_bicomplex.specs.InducedFiltrations.{HasLeadingColumn, IsPartOfHomology, IsTotalHomology}
use Rattle.sf_bicomplex.specs.Pages.{HasDifferential, IsPage}

-- there is one page of each number in each column
abbrev pub HasOnePage : Type 0
HasOnePage =
    (b : Bicomplex) → IsBicomplex b → IsOverField b.ring → (r : ℕ) (n : ℤ) (p : ℕ) → p < b.columns
    → ((g : Matrix) × (relations : Matrix) × IsPage b r n p g relations)
    × ((g relations h others : Matrix) → IsPage b r n p g relations → IsPage b r n p h others
    → (g ≡ h) × (relations ≡ others))

-- the differential from one page to another has one matrix, which is a map of presented modules
abbrev pub HasOneDifferential : Type 0
HasOneDifferential =
    (b : Bicomplex) → IsBicomplex b → IsOverField b.ring → (n m : ℤ) → m ≡ n -ℤ pos 1 → (r p : ℕ) → p + r < b.columns
    → (g relations h others : Matrix) → IsPage b r n (p + r) g relations → IsPage b r m p h others
    → ((d : Matrix) × Describes (HasDifferential b r n m p) h others g d)
    × ((d : Matrix) → Describes (HasDifferential b r n m p) h others g d → IsModuleMap relations others d)
    × ((d e : Matrix) → Describes (HasDifferential b r n m p) h others g d
    → Describes (HasDifferential b r n m p) h others g e → d ≡ e)

-- the total complex has one homology in each degree
abbrev pub HasOneTotalHomology : Type 0
HasOneTotalHomology =
    (b : Bicomplex) → IsBicomplex b → IsOverField b.ring → (n : ℤ)
    → ((g : Matrix) × (relations : Matrix) × IsTotalHomology b n g relations)
    × ((g relations h others : Matrix) → IsTotalHomology b n g relations → IsTotalHomology b n h others
    → (g ≡ h) × (relations ≡ others))

-- there is one part of homology in each column
abbrev pub HasOnePart : Type 0
HasOnePart =
    (b : Bicomplex) → IsBicomplex b → IsOverField b.ring → (n : ℤ) (generators relations : Matrix)
    → IsTotalHomology b n generators relations → (p : ℕ) → p < b.columns
    → ((g : Matrix) × (others : Matrix) × IsPartOfHomology b n generators p g others)
    × ((g others h more : Matrix) → IsPartOfHomology b n generators p g others → IsPartOfHomology b n generators p h more
    → (g ≡ h) × (others ≡ more))

-- leading columns of its generators, in coordinates of the last page, and coordinates of classes with the generators of
-- the page as leading columns, are two matrices that are inverse to one another modulo relations
abbrev pub HasInversePartMaps : Type 0
HasInversePartMaps =
    (b : Bicomplex) → IsBicomplex b → IsOverField b.ring → (n : ℤ) (generators relations : Matrix)
    → IsTotalHomology b n generators relations → (p : ℕ) → p < b.columns → (g others h more : Matrix)
    → IsPartOfHomology b n generators p g others → IsPage b b.columns n p h more
    → ((to : Matrix) × Describes (HasLeadingColumn b (n +ℤ pos 1) n (n -ℤ pos 1) generators p) h more g to)
    × ((from : Matrix)
    × Describes (λ z c. HasLeadingColumn b (n +ℤ pos 1) n (n -ℤ pos 1) generators p c z) g others h from)
    × ((to from : Matrix) → Describes (HasLeadingColumn b (n +ℤ pos 1) n (n -ℤ pos 1) generators p) h more g to
    → Describes (λ z c. HasLeadingColumn b (n +ℤ pos 1) n (n -ℤ pos 1) generators p c z) g others h from
    → AreInverseModulo others more to from)
