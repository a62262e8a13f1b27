-- The three lists that the reduced basis of a graph gives: the values that aren't 0, the coefficients beside each of them,
-- and the syzygies. (Cox, Little, O'Shea, "Using Algebraic Geometry", chapter 5, section 3.)
use Rattle.std.specs.Prelude.{◌+◌, List, [], ◌∷◌, length, map}
use Rattle.std.specs.List.{filter}
use Rattle.sf_algebra.specs.Matrices.{Matrix}
use Rattle.sf_algebra.specs.MatrixOperations.{vector_part}
use Rattle.sf_algebra.specs.Vectors.{Vector}
use Rattle.sf_groebner.specs.Cuts.{has_first_part, first_parts, last_parts}
use Rattle.sf_groebner.specs.Lifts.{IsLift}

-- the value c M of a vector (c M, c) of the graph
abbrev pub value_part : Matrix → Vector → Vector
value_part m w = vector_part 0 (length m.target) w

-- its coefficients c
abbrev pub coefficient_part : Matrix → Vector → Vector
coefficient_part m w = vector_part (length m.target) (length m.target + length m.rows) w

-- the values that aren't 0
abbrev pub values_of : Matrix → List Vector → List Vector
values_of m basis = first_parts (length m.target) basis

-- the coefficients beside each of these
abbrev pub coefficients_of : Matrix → List Vector → List Vector
coefficients_of m basis = map (coefficient_part m) (filter (has_first_part (length m.target)) basis)

-- the coefficients of the other vectors
abbrev pub syzygies_of : Matrix → List Vector → List Vector
syzygies_of m basis = last_parts (length m.target) (length m.target + length m.rows) basis

-- the coefficients are the lifts of the values, one by one
abbrev pub AreLifts : Matrix → List Vector → List Vector → Type 0
AreLifts m [] [] = Unit {0}
AreLifts m [] (c ∷ cs) = ⊥
AreLifts m (v ∷ vs) [] = ⊥
AreLifts m (v ∷ vs) (c ∷ cs) = IsLift m v c × AreLifts m vs cs
