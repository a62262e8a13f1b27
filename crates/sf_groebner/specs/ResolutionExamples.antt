-- The resolutions of the ideal of two variables, and of that of x^2 and x y + y^2. (Weibel, "An Introduction to
-- Homological Algebra", section 4.5: the Koszul complex of a regular sequence.)
use Rattle.std.specs.Prelude.{[], ◌∷◌, pos}
use Rattle.sf_algebra.specs.Matrices.{Matrix}
use Rattle.sf_algebra.specs.Rings.{plain}
use Rattle.sf_algebra.specs.Vectors.{Vector}
use Rattle.sf_groebner.specs.Examples.{term, vector, first_quadric, second_quadric, third_row, quadrics, quadrics_syzygy}
use Rattle.sf_groebner.specs.MinimalGenerators.{AreMinimal}
use Rattle.sf_groebner.specs.Presentations.{IsZero}
use Rattle.sf_groebner.specs.Resolutions.{IsResolution}
use Rattle.sf_groebner.specs.Spans.{InSpan}

abbrev pub x_row : Vector
x_row = vector 1 (term 1 0 (1 ∷ []) ∷ [])

abbrev pub y_row : Vector
y_row = vector 1 (term 1 0 (0 ∷ 1 ∷ []) ∷ [])

-- the ideal of x and y
abbrev pub two_variables : Matrix
two_variables = record { ring = plain 101; target = pos 0 ∷ []; rows = x_row ∷ y_row ∷ [] }

-- y times x less x times y
abbrev pub koszul_row : Vector
koszul_row = vector 2 (term 1 0 (0 ∷ 1 ∷ []) ∷ term 100 1 (1 ∷ []) ∷ [])

abbrev pub koszul : Matrix
koszul = record { ring = plain 101; target = pos 1 ∷ pos 1 ∷ []; rows = koszul_row ∷ [] }

-- no rows over a generator of degree 2
abbrev pub koszul_end : Matrix
koszul_end = record { ring = plain 101; target = pos 2 ∷ []; rows = [] }

abbrev pub HasKoszulResolution : Type 0
HasKoszulResolution = IsResolution two_variables (two_variables ∷ koszul ∷ koszul_end ∷ [])

-- both variables are needed
abbrev pub RefusesOneVariable : Type 0
RefusesOneVariable = AreMinimal (plain 101) (InSpan two_variables) IsZero (x_row ∷ []) → ⊥

abbrev pub quadrics_syzygies : Matrix
quadrics_syzygies = record { ring = plain 101; target = pos 2 ∷ pos 2 ∷ []; rows = quadrics_syzygy ∷ [] }

abbrev pub quadrics_end : Matrix
quadrics_end = record { ring = plain 101; target = pos 4 ∷ []; rows = [] }

-- the first step leaves y^3 out, the third row of the reduced basis
abbrev pub HasQuadricsResolution : Type 0
HasQuadricsResolution = IsResolution quadrics (quadrics ∷ quadrics_syzygies ∷ quadrics_end ∷ [])

-- with y^3 the generators aren't minimal
abbrev pub RefusesThirdRow : Type 0
RefusesThirdRow = AreMinimal (plain 101) (InSpan quadrics) IsZero (first_quadric ∷ second_quadric ∷ third_row ∷ []) → ⊥
