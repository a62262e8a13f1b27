-- The part of a vector that has a given degree. (Textbook: the homogeneous components of an element of a graded module.)
use Rattle.std.specs.Prelude.{Bool, nat_lt, ◌&&◌, List, length, ℤ}
use Rattle.std.specs.List.{filter}
use Rattle.std.specs.Ordering.{int_eq}
use Rattle.sf_algebra.specs.Rings.{Weights}
use Rattle.sf_algebra.specs.Terms.{Term}
use Rattle.sf_algebra.specs.Vectors.{Place, place_degree}

-- whether a term stands at one of the generators and has degree d
abbrev pub has_degree : Weights → List ℤ → ℤ → Term Place → Bool
has_degree weights degrees d t = nat_lt t.at.position (length degrees) && int_eq d (place_degree weights degrees t.at)

-- the terms of degree d at the generators
abbrev pub degree_part : Weights → List ℤ → ℤ → List (Term Place) → List (Term Place)
degree_part weights degrees d ts = filter (has_degree weights degrees d) ts
