-- Complexes of modules, and the first place at which one map with the next isn't 0. (Weibel, "An Introduction to Homological
-- Algebra", section 1.1; in homalg's convention, in which maps act on row vectors from the right. That the first failure is told is
-- this project's own.)
use Rattle.std.specs.Prelude.{◌≡◌, ℕ, suc, ◌+◌, List, [], ◌∷◌, map, take, is_some, if◌then◌else◌, Option, Some, None, slice_get}
use Rattle.std.specs.List.{AllByRecursion}
use Rattle.sf_algebra.specs.Vectors.{Vector}
use Rattle.sf_groebner.specs.Spans.{InSpan, combined}
use Rattle.sf_matrix.specs.Plans.{Plan, answer, bind}
use Rattle.sf_object.specs.declared.complex.Complex.{Complex}
use Rattle.sf_object.specs.declared.map.Map.{Map}
use Rattle.sf_object.specs.Faults.{HasImageRoom, IsBetween, map_of, map_plan}

-- two maps, the second of which goes on from the module to which the first goes
pub record Junction : Type 0 where
  pub first : Map
  pub second : Map

-- the junctions of maps with the one that each of them comes before
abbrev pub junctions_behind : Map → List Map → List Junction
junctions_behind f [] = []
junctions_behind f (g ∷ gs) = record { first = g; second = f } ∷ junctions_behind g gs

-- the junctions of maps f1, f2 and so on, where fk goes from place k to place k - 1: f2 and f1, f3 and f2, and so on
abbrev pub junctions : List Map → List Junction
junctions [] = []
junctions (f ∷ fs) = junctions_behind f fs

-- the first goes to the module from which the second comes
abbrev pub AreMeeting : Junction → Type 0
AreMeeting j = j.second.source ≡ j.first.target

-- maps between their modules, each of which goes on from the one behind it
pub record IsChain (c : Complex) : Type 0 where
  pub between : AllByRecursion IsBetween c.maps
  pub meeting : AllByRecursion AreMeeting (junctions c.maps)

-- the second map, from the module whose relations are the rows of the first
abbrev pub square_of : Junction → Map
square_of j = map_of j.first.matrix j.second.matrix j.second.target

-- to what the generators from which the first comes are sent by both
abbrev pub squares_of : Junction → List Vector
squares_of j = map (combined j.second.matrix) j.first.matrix.rows

-- these have room, to be made and to be reduced
abbrev pub HasSquareRoom : Junction → Type 0
HasSquareRoom j = HasImageRoom (square_of j)

-- both together are 0: they send each generator into the span of the relations
abbrev pub IsLawful : Junction → Type 0
IsLawful j = AllByRecursion (InSpan j.second.target) (squares_of j)

-- the image of the first lies in the kernel of the second
abbrev pub IsImageInKernel : Junction → Type 0
IsImageInKernel j = (v : Vector) → InSpan j.first.matrix v → InSpan j.second.target (combined j.second.matrix v)

-- so it is at each junction
abbrev pub IsComplex : Complex → Type 0
IsComplex c = AllByRecursion IsImageInKernel (junctions c.maps)

-- junction i, counted from 0, is the first at which both together aren't 0
pub record IsFirstUnlawful (js : List Junction) (i : ℕ) : Type 0 where
  pub junction : Junction
  pub here : slice_get js i ≡ Some junction
  pub unlawful : IsLawful junction → ⊥
  pub before : AllByRecursion IsLawful (take i js)

-- the number, counted from 1, of the first such junction, or none where there is none
abbrev pub IsFirstAmong : List Junction → Option ℕ → Type 0
IsFirstAmong js None = AllByRecursion IsLawful js
IsFirstAmong js (Some k) = (i : ℕ) × (k ≡ i + 1) × IsFirstUnlawful js i

abbrev pub IsFirstFailure : Complex → Option ℕ → Type 0
IsFirstFailure c found = IsFirstAmong (junctions c.maps) found

-- the law of one junction: a look at the relations to which both go; then one image after another is reduced by them, and the number
-- of the first one that isn't among them is told
unfoldable pub square_plan : Junction → Plan (Option ℕ)
square_plan j = map_plan (square_of j)

-- one law after another, the first of which has the number k, up to one that fails
abbrev pub laws_plan : ℕ → List Junction → Plan (Option ℕ)
laws_plan k [] = answer None
laws_plan k (j ∷ js) = bind (square_plan j) (λ found. if is_some found then answer (Some k) else laws_plan (suc k) js)

-- the working list of a complex: each look comes before its law
unfoldable pub complex_plan : Complex → Plan (Option ℕ)
complex_plan c = laws_plan 1 (junctions c.maps)
