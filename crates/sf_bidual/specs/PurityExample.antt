-- The purity filtration of the residue field of one variable: R(0)/x over one variable, modulo 101. Hom of its resolution into
-- the ring is R(0) -x-> R(-1): no map to the ring but 0, and one module of extensions, R(-1)/x. So all of it stands in column
-- -1, which has the number 0 among two columns. (The example is this project's own.)
use Rattle.std.specs.Prelude.{ℕ, [], ◌∷◌, pos}
use Rattle.sf_algebra.specs.Matrices.{Matrix}
use Rattle.sf_algebra.specs.MatrixOperations.{identity}
use Rattle.sf_algebra.specs.Rings.{plain}
use Rattle.sf_groebner.specs.MinimalGenerators.{matrix_of}
use Rattle.sf_groebner.specs.ResolutionExamples.{x_row}
use Rattle.sf_bidual.specs.Bidual.{IsBidualOf}
use Rattle.sf_bidual.specs.CartanEilenberg.{CartanEilenberg}
use Rattle.sf_bidual.specs.Purity.{IsPurityPart}
use Rattle.sf_bidual.specs.TorsionLaws.{HasNoMapsToRing}

abbrev pub variable_relation : Matrix
variable_relation = matrix_of (plain 101) (pos 0 ∷ []) (x_row ∷ [])

-- what its bidual bicomplex of two columns is made of
abbrev pub HasVariableBidual : Type 0
HasVariableBidual = (steps : ℕ → Matrix) × (x : CartanEilenberg) × IsBidualOf variable_relation 1 steps x

-- it has no maps to the ring
abbrev pub HasNoVariableMaps : Type 0
HasNoVariableMaps =
    (steps : ℕ → Matrix) (x : CartanEilenberg) → IsBidualOf variable_relation 1 steps x → HasNoMapsToRing x

-- one part is all of it, the other nothing
abbrev pub HasVariableParts : Type 0
HasVariableParts =
    (steps : ℕ → Matrix) (x : CartanEilenberg) → IsBidualOf variable_relation 1 steps x
    → IsPurityPart variable_relation 1 x 0 (identity (plain 101) (pos 0 ∷ [])) variable_relation
    × IsPurityPart variable_relation 1 x 1 (matrix_of (plain 101) (pos 0 ∷ []) []) (matrix_of (plain 101) [] [])

-- it isn't all in column 0, whose number is 1
abbrev pub RefusesVariableAsFree : Type 0
RefusesVariableAsFree =
    (steps : ℕ → Matrix) (x : CartanEilenberg) → IsBidualOf variable_relation 1 steps x
    → IsPurityPart variable_relation 1 x 1 (identity (plain 101) (pos 0 ∷ [])) variable_relation → ⊥
