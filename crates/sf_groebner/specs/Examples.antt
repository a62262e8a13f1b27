-- Worked examples of the definitions, over the residues modulo 101; the first three variables are called x, y and z.
-- (The examples are this project's own.)
use Rattle.std.specs.Prelude.{◌≡◌, ℕ, List, [], ◌∷◌, ◌++◌, pos}
use Rattle.sf_algebra.specs.Matrices.{Matrix, IsMatrix}
use Rattle.sf_algebra.specs.Monomials.{from_exponents}
use Rattle.sf_algebra.specs.Rings.{plain}
use Rattle.sf_algebra.specs.Terms.{Term}
use Rattle.sf_algebra.specs.Vectors.{Place, Vector}
use Rattle.sf_groebner.specs.Lifts.{IsLift}
use Rattle.sf_groebner.specs.ReducedBases.{IsGraphBasis, IsSpanBasis, IsSyzygyBasis}
use Rattle.sf_groebner.specs.Small.{IsSmall, IsLarge}
use Rattle.sf_groebner.specs.Spans.{IsCoefficients, combined, IsSyzygy}

-- a coefficient, at a position and the monomial with these exponents
abbrev pub term : ℕ → ℕ → List ℕ → Term Place
term c i es = record { at = record { position = i; monomial = from_exponents es }; coefficient = c }

abbrev pub vector : ℕ → List (Term Place) → Vector
vector d ts = record { degree = pos d; terms = ts }

-- x^2 and x y + y^2
abbrev pub first_quadric : Vector
first_quadric = vector 2 (term 1 0 (2 ∷ []) ∷ [])

abbrev pub second_quadric : Vector
second_quadric = vector 2 (term 1 0 (1 ∷ 1 ∷ []) ∷ term 1 0 (0 ∷ 2 ∷ []) ∷ [])

-- y^3, the third row of their basis
abbrev pub third_row : Vector
third_row = vector 3 (term 1 0 (0 ∷ 3 ∷ []) ∷ [])

-- the ideal of x^2 and x y + y^2, as the span of a column
abbrev pub quadrics : Matrix
quadrics = record { ring = plain 101; target = pos 0 ∷ []; rows = first_quadric ∷ second_quadric ∷ [] }

abbrev pub quadrics_basis : List Vector
quadrics_basis = first_quadric ∷ second_quadric ∷ third_row ∷ []

-- x y + y^2 times x^2, less x^2 times x y + y^2
abbrev pub quadrics_syzygy : Vector
quadrics_syzygy = vector 4 (term 1 0 (1 ∷ 1 ∷ []) ∷ term 1 0 (0 ∷ 2 ∷ []) ∷ term 100 1 (2 ∷ []) ∷ [])

-- y and -x + y: y^3 is y times x^2 and -x + y times x y + y^2
abbrev pub third_row_lift : Vector
third_row_lift = vector 3 (term 1 0 (0 ∷ 1 ∷ []) ∷ term 100 1 (1 ∷ []) ∷ term 1 1 (0 ∷ 1 ∷ []) ∷ [])

-- each row of the matrix with its coefficient 1
abbrev pub quadrics_rows : List Vector
quadrics_rows =
    vector 2 (term 1 0 (2 ∷ []) ∷ term 1 1 [] ∷ [])
    ∷ vector 2 (term 1 0 (1 ∷ 1 ∷ []) ∷ term 1 0 (0 ∷ 2 ∷ []) ∷ term 1 2 [] ∷ [])
    ∷ []

-- y^3 with its coefficients, and the syzygy
abbrev pub quadrics_others : List Vector
quadrics_others =
    vector 3 (term 1 0 (0 ∷ 3 ∷ []) ∷ term 1 1 (0 ∷ 1 ∷ []) ∷ term 100 2 (1 ∷ []) ∷ term 1 2 (0 ∷ 1 ∷ []) ∷ [])
    ∷ vector 4 (term 1 1 (1 ∷ 1 ∷ []) ∷ term 1 1 (0 ∷ 2 ∷ []) ∷ term 100 2 (2 ∷ []) ∷ [])
    ∷ []

abbrev pub quadrics_graph_basis : List Vector
quadrics_graph_basis = quadrics_rows ++ quadrics_others

abbrev pub IsQuadricsMatrix : Type 0
IsQuadricsMatrix = IsMatrix quadrics

abbrev pub HasQuadricsGraphBasis : Type 0
HasQuadricsGraphBasis = IsGraphBasis quadrics quadrics_graph_basis

abbrev pub HasQuadricsBasis : Type 0
HasQuadricsBasis = IsSpanBasis quadrics quadrics_basis

abbrev pub HasQuadricsSyzygy : Type 0
HasQuadricsSyzygy = IsSyzygyBasis quadrics (quadrics_syzygy ∷ [])

abbrev pub HasThirdRowLift : Type 0
HasThirdRowLift = IsLift quadrics third_row third_row_lift

-- the matrix is small for the limit 3
abbrev pub HasSmallQuadrics : Type 0
HasSmallQuadrics = IsSmall 3 quadrics quadrics_graph_basis

-- and not for the limit 2
abbrev pub HasLargeQuadrics : Type 0
HasLargeQuadrics = IsLarge 2 quadrics

-- other coefficients that give y^4: those of its lift and the syzygy's
abbrev pub other_coefficients : Vector
other_coefficients =
    vector 4 (term 1 0 (1 ∷ 1 ∷ []) ∷ term 2 0 (0 ∷ 2 ∷ []) ∷ term 100 1 (2 ∷ []) ∷ term 100 1 (1 ∷ 1 ∷ []) ∷ term 1 1 (0 ∷ 2 ∷ []) ∷ [])

-- they aren't its lift
abbrev pub RefusesOtherCoefficients : Type 0
RefusesOtherCoefficients =
    IsCoefficients quadrics other_coefficients × (combined quadrics other_coefficients ≡ vector 4 (term 1 0 (0 ∷ 4 ∷ []) ∷ []))
    × (IsLift quadrics (vector 4 (term 1 0 (0 ∷ 4 ∷ []) ∷ [])) other_coefficients → ⊥)

-- the coefficient 1 of the first row is no syzygy
abbrev pub RefusesUnitAsSyzygy : Type 0
RefusesUnitAsSyzygy = IsSyzygy quadrics (vector 2 (term 1 0 [] ∷ [])) → ⊥
