-- The filtration by columns that the homology of the total complex has, in coordinates of its generators. (Weibel, "An
-- Introduction to Homological Algebra", sections 5.2 and 5.4.)
use Rattle.std.specs.Prelude.{ℕ, suc, ℤ, pos, ◌+ℤ◌, ◌-ℤ◌}
use Rattle.sf_algebra.specs.Matrices.{Matrix, row_degrees}
use Rattle.sf_algebra.specs.MatrixOperations.{stacked}
use Rattle.sf_algebra.specs.Vectors.{Vector, IsVector}
use Rattle.sf_groebner.specs.Homology.{ComplexPlace, IsHomology}
use Rattle.sf_groebner.specs.Maps.{AreEqualModulo}
use Rattle.sf_groebner.specs.Presentations.{IsPresentation}
use Rattle.sf_groebner.specs.Spans.{InSpan, IsCoefficients, combined}
use Rattle.sf_bicomplex.specs.Bicomplexes.{Bicomplex}
use Rattle.sf_bicomplex.specs.Pages.{IsNear}
use Rattle.sf_bicomplex.specs.TotalColumns.{StandsBelow, column_part, place, total_degrees, total_map, total_module}

-- the place of the total complex in degree n, between degrees above and below
abbrev pub total_place : Bicomplex → (above n below : ℤ) → ComplexPlace
total_place b above n below = record {
  arriving = total_map b above n;
  here = total_module b n;
  out = total_map b n below;
  beyond = total_module b below;
}

-- the homology of the total complex in degree n
abbrev pub IsTotalHomology : Bicomplex → ℤ → Matrix → Matrix → Type 0
IsTotalHomology b n generators relations =
    IsHomology (total_place b (n +ℤ pos 1) n (n -ℤ pos 1)) generators relations

-- images of the total complex, and its relations
abbrev pub IsTotalBoundary : Bicomplex → (above n : ℤ) → Vector → Type 0
IsTotalBoundary b above n = InSpan (stacked (total_map b above n) (total_module b n))

-- v is a cycle that stands in the k lowest columns
pub record IsCycleBelow (b : Bicomplex) (n below : ℤ) (k : ℕ) (v : Vector) : Type 0 where
  pub stands : StandsBelow b n k v
  pub cycle : InSpan (total_module b below) (combined (total_map b n below) v)

-- the part of homology in the k lowest columns, in coordinates: those that give a cycle there plus a boundary
pub record IsOfPart (b : Bicomplex) (above n below : ℤ) (generators : Matrix) (k : ℕ) (c : Vector) : Type 0 where
  pub coefficients : IsCoefficients generators c
  pub near : IsNear b.ring (total_degrees b n) (λ v. v) (IsCycleBelow b n below k) (IsTotalBoundary b above n)
      (combined generators c)

-- the part of column p: the coordinates of the columns up to p, modulo those of the columns below p
abbrev pub IsPartOfHomology : Bicomplex → ℤ → (generators : Matrix) → (p : ℕ) → Matrix → Matrix → Type 0
IsPartOfHomology b n generators p part_generators part_relations =
    IsPresentation b.ring (row_degrees generators) (IsOfPart b (n +ℤ pos 1) n (n -ℤ pos 1) generators (suc p))
    (IsOfPart b (n +ℤ pos 1) n (n -ℤ pos 1) generators p) part_generators part_relations

-- z is a column p of the class with the coordinates c: that of a cycle up to there which is equal to it modulo boundaries
pub record HasLeadingColumn (b : Bicomplex) (above n below : ℤ) (generators : Matrix) (p : ℕ) (c z : Vector) : Type 0 where
  pub coefficients : IsCoefficients generators c
  pub vector : IsVector b.ring (place b n p).target z
  pub cycle : Vector
  pub inside : IsCycleBelow b n below (suc p) cycle
  pub same : AreEqualModulo b.ring (IsTotalBoundary b above n) (combined generators c) cycle
  pub column : AreEqualModulo b.ring (InSpan (place b n p)) z (column_part b n p cycle)
