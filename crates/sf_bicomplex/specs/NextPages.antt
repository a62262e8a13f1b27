-- The next page in coordinates of a page: its cycles and boundaries, the homology of the page by matrices, and what
-- corresponds to its vectors. (Weibel, "An Introduction to Homological Algebra", section 5.4; the choice of the coordinates
-- is this project's own.)
use Rattle.std.specs.Prelude.{ℕ, suc, ℤ, pos, ◌+ℤ◌, ◌-ℤ◌}
use Rattle.sf_algebra.specs.Matrices.{Matrix, row_degrees}
use Rattle.sf_algebra.specs.Vectors.{Vector}
use Rattle.sf_groebner.specs.Maps.{AreEqualModulo}
use Rattle.sf_groebner.specs.Presentations.{IsPresentation, IsRelation}
use Rattle.sf_groebner.specs.Spans.{IsCoefficients, combined}
use Rattle.sf_bicomplex.specs.Bicomplexes.{Bicomplex}
use Rattle.sf_bicomplex.specs.Pages.{IsBoundaryOfPage, IsCycleOfPage}

-- coordinates, in generators of page r in column p of degree n, of cycles and of boundaries of page r + 1
abbrev pub IsNextCycle : Bicomplex → (r : ℕ) → (n m : ℤ) → (p : ℕ) → Matrix → Vector → Type 0
IsNextCycle b r n m p generators = IsRelation generators (IsCycleOfPage b (suc r) n m p)

abbrev pub IsNextBoundary : Bicomplex → (r : ℕ) → (n m : ℤ) → (p : ℕ) → Matrix → Vector → Type 0
IsNextBoundary b r n m p generators = IsRelation generators (IsBoundaryOfPage b (suc r) n m p)

-- the homology of page r, in these coordinates
abbrev pub IsPageHomology : Bicomplex → (r : ℕ) → ℤ → (p : ℕ) → Matrix → Matrix → Matrix → Type 0
IsPageHomology b r n p generators homology_generators homology_relations =
    IsPresentation b.ring (row_degrees generators) (IsNextCycle b r n (n -ℤ pos 1) p generators)
    (IsNextBoundary b r (n +ℤ pos 1) n p generators) homology_generators homology_relations

-- v, a cycle of page r + 1, has the coordinates c on page r, modulo boundaries of page r + 1
pub record HasPageCoordinates (b : Bicomplex) (r : ℕ) (n : ℤ) (p : ℕ) (generators : Matrix) (v c : Vector) : Type 0 where
  pub cycle : IsCycleOfPage b (suc r) n (n -ℤ pos 1) p v
  pub coefficients : IsCoefficients generators c
  pub same : AreEqualModulo b.ring (IsBoundaryOfPage b (suc r) (n +ℤ pos 1) n p) v (combined generators c)
