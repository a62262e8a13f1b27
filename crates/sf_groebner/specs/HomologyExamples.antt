-- The homology of the Koszul complex of two variables: none in the middle, the quotient by them at the end. (Weibel, "An
-- Introduction to Homological Algebra", section 4.5.)
use Rattle.std.specs.Prelude.{[], ◌∷◌, pos}
use Rattle.sf_algebra.specs.Matrices.{Matrix}
use Rattle.sf_algebra.specs.MatrixOperations.{identity}
use Rattle.sf_algebra.specs.Rings.{plain}
use Rattle.sf_groebner.specs.Homology.{IsCokernel, IsHomology, IsKernel}
use Rattle.sf_groebner.specs.ResolutionExamples.{two_variables, koszul}

-- no relations over the generator of degree 0, over those of degree 1, and over none
abbrev pub no_rows_below : Matrix
no_rows_below = record { ring = plain 101; target = pos 0 ∷ []; rows = [] }

abbrev pub no_rows_between : Matrix
no_rows_between = record { ring = plain 101; target = pos 1 ∷ pos 1 ∷ []; rows = [] }

abbrev pub no_rows_at_all : Matrix
no_rows_at_all = record { ring = plain 101; target = []; rows = [] }

-- each syzygy of x and y is a multiple of the row of the Koszul complex
abbrev pub HasNoKoszulHomology : Type 0
HasNoKoszulHomology =
    IsHomology (record { arriving = koszul; here = no_rows_between; out = two_variables; beyond = no_rows_below }) no_rows_between no_rows_at_all

-- the kernel of x and y is free, with that row as its generator
abbrev pub HasKoszulKernel : Type 0
HasKoszulKernel =
    IsKernel no_rows_between no_rows_below two_variables koszul
    (record { ring = plain 101; target = pos 2 ∷ []; rows = [] })

-- modulo x and y there is one generator, and x and y are its relations
abbrev pub HasKoszulCokernel : Type 0
HasKoszulCokernel = IsCokernel no_rows_below two_variables (identity (plain 101) (pos 0 ∷ [])) two_variables

-- the cokernel isn't 0
abbrev pub RefusesNoCokernel : Type 0
RefusesNoCokernel = (relations : Matrix) → IsCokernel no_rows_below two_variables no_rows_below relations → ⊥
