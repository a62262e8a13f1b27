-- Matrices between presented modules, and the first relation that isn't sent into relations. (homalg's convention: the rows of a
-- matrix are relations, and maps act on row vectors from the right.)
use Rattle.std.specs.Prelude.{◌≡◌, ℕ, suc, List, [], ◌∷◌, map, take, if◌then◌else◌, Option, Some, None, slice_get, ◌≤ℤ◌}
use Rattle.std.specs.List.{AllByRecursion}
use Rattle.sf_algebra.specs.Matrices.{Matrix, row_degrees}
use Rattle.sf_algebra.specs.Vectors.{Vector}
use Rattle.sf_groebner.specs.Spans.{InSpan, combined}
use Rattle.sf_matrix.specs.Bounds.{DegreeFits}
use Rattle.sf_matrix.specs.Plans.{Plan, answer, look, ask}
use Rattle.sf_matrix.specs.Questions.{rest, is_zero}
use Rattle.sf_matrix.specs.Tables.{GREATEST_REDUCED_DEGREE}
use Rattle.sf_object.specs.declared.map.Map.{Map}

-- a matrix, with the relations of the modules between which it stands
abbrev pub map_of : Matrix → Matrix → Matrix → Map
map_of source matrix target = record { source = source; target = target; matrix = matrix }

-- over one ring, the rows stand for the generators of the source, and the columns for those of the target
pub record IsBetween (f : Map) : Type 0 where
  pub source_ring : f.matrix.ring ≡ f.source.ring
  pub target_ring : f.matrix.ring ≡ f.target.ring
  pub source_degrees : row_degrees f.matrix ≡ f.source.target
  pub target_degrees : f.matrix.target ≡ f.target.target

-- to what the relations of the source are sent
abbrev pub images_of : Map → List Vector
images_of f = map (combined f.matrix) f.source.rows

-- these vectors have room, to be made and to be reduced
pub record HasImageRoom (f : Map) : Type 0 where
  pub made : AllByRecursion (λ (v : Vector). DegreeFits f.target.target v.degree) f.source.rows
  pub reduced : AllByRecursion (λ (v : Vector). v.degree ≤ℤ GREATEST_REDUCED_DEGREE) f.source.rows

-- vector k of a list, counted from 0, is the first that isn't in the span of m
pub record IsFirstOutside (m : Matrix) (vs : List Vector) (k : ℕ) : Type 0 where
  pub vector : Vector
  pub here : slice_get vs k ≡ Some vector
  pub outside : InSpan m vector → ⊥
  pub before : AllByRecursion (InSpan m) (take k vs)

-- the first that isn't, or none where all are
abbrev pub IsFirstOrNone : Matrix → List Vector → Option ℕ → Type 0
IsFirstOrNone m vs None = AllByRecursion (InSpan m) vs
IsFirstOrNone m vs (Some k) = IsFirstOutside m vs k

-- the first relation of the source that isn't sent into the span of the target's, or none where all are
abbrev pub IsFirstFault : Map → Option ℕ → Type 0
IsFirstFault f found = IsFirstOrNone f.target (images_of f) found

-- one vector after another, the first of which has the number k, is reduced by m, up to one of which something is left
abbrev pub outside_plan : Matrix → ℕ → List Vector → Plan (Option ℕ)
outside_plan m k [] = answer None
outside_plan m k (v ∷ vs) =
    ask (rest m v) (λ left. if is_zero left.0 then outside_plan m (suc k) vs else answer (Some k))

-- the working list: one look at the relations of the target; then the images are reduced by them
unfoldable pub map_plan : Map → Plan (Option ℕ)
map_plan f = look f.target (λ elements. outside_plan f.target 0 (images_of f))
