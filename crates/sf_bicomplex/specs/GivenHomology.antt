-- A presented module that is the homology of a total complex by a matrix, and the filtration by columns that it has through
-- it. (Weibel, "An Introduction to Homological Algebra", sections 5.2 and 5.4.)
use Rattle.std.specs.Prelude.{◌≡◌, ◌↔◌, ℕ, [], ◌<◌, ◌≤◌, ℤ, pos, ◌+ℤ◌, ◌-ℤ◌}
use Rattle.sf_algebra.specs.Matrices.{Matrix}
use Rattle.sf_algebra.specs.Rings.{IsOverField}
use Rattle.sf_algebra.specs.Vectors.{Vector}
use Rattle.sf_groebner.specs.Homology.{IsCycle}
use Rattle.sf_groebner.specs.MinimalGenerators.{matrix_of}
use Rattle.sf_groebner.specs.Spans.{InSpan, IsCoefficients, IsSyzygy}
use Rattle.sf_presented.specs.Inverses.{AreInverseModulo}
use Rattle.sf_presented.specs.Presented.{IsPresentedBy}
use Rattle.sf_bicomplex.specs.Bicomplexes.{Bicomplex, IsBicomplex}
use Rattle.sf_bicomplex.specs.Descriptions.{Describes}
use Rattle.sf_bicomplex.specs.InducedFiltrations.{HasLeadingColumn, IsOfPart, IsPartOfHomology, IsTotalBoundary}
use Rattle.sf_bicomplex.specs.Pages.{IsPage}
use Rattle.sf_bicomplex.specs.ResolvedRows.{Augmentation, ResolvesRows}
use Rattle.sf_bicomplex.specs.TotalColumns.{total_degrees, total_map, total_module}

-- the rows of e are cycles of the total complex, which generate its homology in degree n, and between them are the relations
-- of the module
pub record IsGivenHomology (b : Bicomplex) (n : ℤ) (e relations : Matrix) : Type 0 where
  pub ring : e.ring ≡ b.ring
  pub target : e.target ≡ total_degrees b n
  pub presented : IsPresentedBy (IsCycle (total_map b n (n -ℤ pos 1)) (total_module b (n -ℤ pos 1)))
      (IsTotalBoundary b (n +ℤ pos 1) n) e relations

-- parts of the module rise; that of no columns has its relations alone, and that of all columns all vectors
abbrev pub HasRisingGivenParts : Type 0
HasRisingGivenParts =
    (b : Bicomplex) → IsBicomplex b → IsOverField b.ring → (n : ℤ) (e relations : Matrix) → IsGivenHomology b n e relations
    → (k l : ℕ) → k ≤ l → (c : Vector)
    → (IsOfPart b (n +ℤ pos 1) n (n -ℤ pos 1) e k c → IsOfPart b (n +ℤ pos 1) n (n -ℤ pos 1) e l c)
    × (IsOfPart b (n +ℤ pos 1) n (n -ℤ pos 1) e 0 c ↔ InSpan relations c)
    × (IsCoefficients e c → IsOfPart b (n +ℤ pos 1) n (n -ℤ pos 1) e b.columns c)

-- it has one part in each column
abbrev pub HasOneGivenPart : Type 0
HasOneGivenPart =
    (b : Bicomplex) → IsBicomplex b → IsOverField b.ring → (n : ℤ) (e relations : Matrix) → IsGivenHomology b n e relations
    → (p : ℕ) → p < b.columns
    → ((g : Matrix) × (others : Matrix) × IsPartOfHomology b n e p g others)
    × ((g others h more : Matrix) → IsPartOfHomology b n e p g others → IsPartOfHomology b n e p h more
    → (g ≡ h) × (others ≡ more))

-- which is the last page there, by two matrices that are inverse modulo relations
abbrev pub HasInverseGivenMaps : Type 0
HasInverseGivenMaps =
    (b : Bicomplex) → IsBicomplex b → IsOverField b.ring → (n : ℤ) (e relations : Matrix) → IsGivenHomology b n e relations
    → (p : ℕ) → p < b.columns → (g others h more : Matrix) → IsPartOfHomology b n e p g others
    → IsPage b b.columns n p h more
    → ((to : Matrix) × Describes (HasLeadingColumn b (n +ℤ pos 1) n (n -ℤ pos 1) e p) h more g to)
    × ((from : Matrix) × Describes (λ z c. HasLeadingColumn b (n +ℤ pos 1) n (n -ℤ pos 1) e p c z) g others h from)
    × ((to from : Matrix) → Describes (HasLeadingColumn b (n +ℤ pos 1) n (n -ℤ pos 1) e p) h more g to
    → Describes (λ z c. HasLeadingColumn b (n +ℤ pos 1) n (n -ℤ pos 1) e p c z) g others h from
    → AreInverseModulo others more to from)

-- what is set, as rows over the total complex
abbrev pub set_rows : Bicomplex → (top : ℕ) → Augmentation → ℤ → Matrix
set_rows b top a n = matrix_of b.ring (total_degrees b n) (a.set (n -ℤ pos top)).rows

-- where rows resolve a complex that ends at a place, the cokernel there is the homology of the total complex by what is set
abbrev pub GivesCokernel : Type 0
GivesCokernel =
    (b : Bicomplex) → IsBicomplex b → IsOverField b.ring → (top : ℕ) (a : Augmentation) → ResolvesRows b top a → (n : ℤ)
    → a.degrees (n -ℤ pos top -ℤ pos 1) ≡ []
    → IsGivenHomology b n (set_rows b top a n) (a.map (n +ℤ pos 1 -ℤ pos top))

-- and where the complex is exact at a place, so is the total complex
abbrev pub GivesExactPlaces : Type 0
GivesExactPlaces =
    (b : Bicomplex) → IsBicomplex b → IsOverField b.ring → (top : ℕ) (a : Augmentation) → ResolvesRows b top a → (n : ℤ)
    → ((c : Vector) → IsSyzygy (a.map (n -ℤ pos top)) c → InSpan (a.map (n +ℤ pos 1 -ℤ pos top)) c) → (z : Vector)
    → IsCycle (total_map b n (n -ℤ pos 1)) (total_module b (n -ℤ pos 1)) z → IsTotalBoundary b (n +ℤ pos 1) n z
