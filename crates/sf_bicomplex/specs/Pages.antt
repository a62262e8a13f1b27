-- The pages of the spectral sequence of a bicomplex, whose total complex is filtered by columns, and their
-- differentials. Total degrees in a row are named: the map goes from degree n to degree m = n - 1. (Weibel, "An
-- Introduction to Homological Algebra", sections 5.4 and 5.6.)
use Rattle.std.specs.Prelude.{ℕ, suc, ◌+◌, ◌-◌, List, ℤ, pos, ◌+ℤ◌, ◌-ℤ◌}
use Rattle.sf_algebra.specs.Matrices.{Matrix}
use Rattle.sf_algebra.specs.Rings.{Ring}
use Rattle.sf_algebra.specs.Vectors.{Vector, IsVector}
use Rattle.sf_groebner.specs.Maps.{AreEqualModulo}
use Rattle.sf_groebner.specs.Presentations.{IsPresentation}
use Rattle.sf_groebner.specs.Spans.{InSpan, combined}
use Rattle.sf_bicomplex.specs.Bicomplexes.{Bicomplex}
use Rattle.sf_bicomplex.specs.TotalColumns.{StandsBelow, column_part, place, total_degrees, total_map, total_module}

-- v is equal modulo N to what f gives of a vector of M
pub record IsNear (ring : Ring) (degrees : List ℤ) (f : Vector → Vector) (M N : Vector → Type 0) (v : Vector) : Type 0 where
  pub vector : IsVector ring degrees v
  pub source : Vector
  pub inside : M source
  pub equal : AreEqualModulo ring N v (f source)

-- a stands in the t lowest columns, and its image in the s lowest ones, modulo relations
pub record FallsBelow (b : Bicomplex) (n m : ℤ) (t s : ℕ) (a : Vector) : Type 0 where
  pub stands : StandsBelow b n t a
  pub falls : IsNear b.ring (total_degrees b m) (λ w. w) (StandsBelow b m s) (InSpan (total_module b m)) (combined (total_map b n m) a)

-- cycles of page r in column p of degree n: the columns p of vectors up to there whose images are r columns lower,
-- modulo relations
abbrev pub IsCycleOfPage : Bicomplex → (r : ℕ) → (n m : ℤ) → (p : ℕ) → Vector → Type 0
IsCycleOfPage b r n m p =
    IsNear b.ring (place b n p).target (column_part b n p) (FallsBelow b n m (suc p) (suc p - r)) (InSpan (place b n p))

-- boundaries of page r in column p of degree m: the columns p of images, up to there, of vectors from less than r
-- columns higher, modulo relations
abbrev pub IsBoundaryOfPage : Bicomplex → (r : ℕ) → (n m : ℤ) → (p : ℕ) → Vector → Type 0
IsBoundaryOfPage b r n m p =
    IsNear b.ring (place b m p).target (λ a. column_part b m p (combined (total_map b n m) a))
    (FallsBelow b n m (p + r) (suc p)) (InSpan (place b m p))

-- the page r in column p of degree n: cycles modulo boundaries
abbrev pub IsPage : Bicomplex → (r : ℕ) → ℤ → (p : ℕ) → Matrix → Matrix → Type 0
IsPage b r n p generators relations =
    IsPresentation b.ring (place b n p).target (IsCycleOfPage b r n (n -ℤ pos 1) p)
    (IsBoundaryOfPage b r (n +ℤ pos 1) n p) generators relations

-- w in column p of degree m stands for the differential of u in column p + r of degree n: some vector that falls by r
-- columns has the column u, modulo relations, and its image has the column w, modulo boundaries
pub record HasDifferential (b : Bicomplex) (r : ℕ) (n m : ℤ) (p : ℕ) (u w : Vector) : Type 0 where
  pub from_vector : IsVector b.ring (place b n (p + r)).target u
  pub to_vector : IsVector b.ring (place b m p).target w
  pub through : Vector
  pub falls : FallsBelow b n m (suc (p + r)) (suc p) through
  pub start : AreEqualModulo b.ring (InSpan (place b n (p + r))) u (column_part b n (p + r) through)
  pub end : AreEqualModulo b.ring (IsBoundaryOfPage b r n m p) w (column_part b m p (combined (total_map b n m) through))
