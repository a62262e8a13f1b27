-- The resolution of the residue field of a ring in three variables: three steps have rows. (Weibel, "An Introduction to
-- Homological Algebra", section 4.5: the Koszul complex of a regular sequence.)
use Rattle.std.specs.Prelude.{[], ◌∷◌, pos}
use Rattle.sf_algebra.specs.Matrices.{Matrix}
use Rattle.sf_algebra.specs.Rings.{plain}
use Rattle.sf_algebra.specs.Vectors.{Vector}
use Rattle.sf_groebner.specs.Examples.{term, vector}
use Rattle.sf_groebner.specs.ResolutionExamples.{x_row, y_row}
use Rattle.sf_groebner.specs.Resolutions.{IsResolution}

abbrev pub z_row : Vector
z_row = vector 1 (term 1 0 (0 ∷ 0 ∷ 1 ∷ []) ∷ [])

-- the ideal of x, y and z
abbrev pub three_variables : Matrix
three_variables = record { ring = plain 101; target = pos 0 ∷ []; rows = x_row ∷ y_row ∷ z_row ∷ [] }

-- y times x less x times y, and so for the other two pairs
abbrev pub xy_row : Vector
xy_row = vector 2 (term 1 0 (0 ∷ 1 ∷ []) ∷ term 100 1 (1 ∷ []) ∷ [])

abbrev pub xz_row : Vector
xz_row = vector 2 (term 1 0 (0 ∷ 0 ∷ 1 ∷ []) ∷ term 100 2 (1 ∷ []) ∷ [])

abbrev pub yz_row : Vector
yz_row = vector 2 (term 1 1 (0 ∷ 0 ∷ 1 ∷ []) ∷ term 100 2 (0 ∷ 1 ∷ []) ∷ [])

abbrev pub pairs_of_variables : Matrix
pairs_of_variables = record {
  ring = plain 101;
  target = pos 1 ∷ pos 1 ∷ pos 1 ∷ [];
  rows = xy_row ∷ xz_row ∷ yz_row ∷ [];
}

-- z times the first less y times the second and x times the third
abbrev pub xyz_row : Vector
xyz_row = vector 3 (term 1 0 (0 ∷ 0 ∷ 1 ∷ []) ∷ term 100 1 (0 ∷ 1 ∷ []) ∷ term 1 2 (1 ∷ []) ∷ [])

abbrev pub all_variables : Matrix
all_variables = record { ring = plain 101; target = pos 2 ∷ pos 2 ∷ pos 2 ∷ []; rows = xyz_row ∷ [] }

-- no rows over a generator of degree 3
abbrev pub end_of_variables : Matrix
end_of_variables = record { ring = plain 101; target = pos 3 ∷ []; rows = [] }

abbrev pub HasThreeSteps : Type 0
HasThreeSteps =
    IsResolution three_variables (three_variables ∷ pairs_of_variables ∷ all_variables ∷ end_of_variables ∷ [])
