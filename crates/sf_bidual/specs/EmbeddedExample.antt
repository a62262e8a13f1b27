-- The purity filtration of a line with an embedded point: R(0)/(x^2, x y) over two variables, modulo 101. Its zeros are the
-- line x = 0, in which a point is embedded at the origin. The lowest column, -2, has this point: x, which x and y take to 0.
-- Column -1 has the line R(0)/x, and column 0 nothing. (The example is this project's own.)
use Rattle.std.specs.Prelude.{ℕ, [], ◌∷◌, pos}
use Rattle.sf_algebra.specs.Matrices.{Matrix}
use Rattle.sf_algebra.specs.MatrixOperations.{identity}
use Rattle.sf_algebra.specs.Rings.{plain}
use Rattle.sf_algebra.specs.Vectors.{Vector}
use Rattle.sf_groebner.specs.Examples.{term, vector}
use Rattle.sf_groebner.specs.MinimalGenerators.{matrix_of}
use Rattle.sf_groebner.specs.ResolutionExamples.{x_row}
use Rattle.sf_bidual.specs.Bidual.{IsBidualOf}
use Rattle.sf_bidual.specs.CartanEilenberg.{CartanEilenberg}
use Rattle.sf_bidual.specs.Purity.{IsPurityPart, IsPuritySubmodule}
use Rattle.sf_bidual.specs.PurityExample.{variable_relation}
use Rattle.sf_bidual.specs.TorsionLaws.{HasNoMapsToRing}

-- x^2 and x y
abbrev pub square_row : Vector
square_row = vector 2 (term 1 0 (2 ∷ []) ∷ [])

abbrev pub product_row : Vector
product_row = vector 2 (term 1 0 (1 ∷ 1 ∷ []) ∷ [])

abbrev pub embedded_relations : Matrix
embedded_relations = matrix_of (plain 101) (pos 0 ∷ []) (square_row ∷ product_row ∷ [])

-- x as a generator, of degree 1, and its relations, x and y
abbrev pub point_generator : Matrix
point_generator = matrix_of (plain 101) (pos 0 ∷ []) (x_row ∷ [])

abbrev pub point_relations : Matrix
point_relations =
    matrix_of (plain 101) (pos 1 ∷ []) (vector 2 (term 1 0 (1 ∷ []) ∷ []) ∷ vector 2 (term 1 0 (0 ∷ 1 ∷ []) ∷ []) ∷ [])

-- what its bidual bicomplex of three columns is made of
abbrev pub HasEmbeddedBidual : Type 0
HasEmbeddedBidual = (steps : ℕ → Matrix) × (x : CartanEilenberg) × IsBidualOf embedded_relations 2 steps x

-- it has no maps to the ring
abbrev pub HasNoEmbeddedMaps : Type 0
HasNoEmbeddedMaps =
    (steps : ℕ → Matrix) (x : CartanEilenberg) → IsBidualOf embedded_relations 2 steps x → HasNoMapsToRing x

-- the parts of its three columns: the point, the line, and nothing
abbrev pub HasEmbeddedParts : Type 0
HasEmbeddedParts =
    (steps : ℕ → Matrix) (x : CartanEilenberg) → IsBidualOf embedded_relations 2 steps x
    → IsPurityPart embedded_relations 2 x 0 point_generator point_relations
    × IsPurityPart embedded_relations 2 x 1 (identity (plain 101) (pos 0 ∷ [])) variable_relation
    × IsPurityPart embedded_relations 2 x 2 (matrix_of (plain 101) (pos 0 ∷ []) []) (matrix_of (plain 101) [] [])

-- the submodule of the lowest column is the point, too
abbrev pub HasEmbeddedSubmodule : Type 0
HasEmbeddedSubmodule =
    (steps : ℕ → Matrix) (x : CartanEilenberg) → IsBidualOf embedded_relations 2 steps x
    → IsPuritySubmodule embedded_relations 2 x 1 point_generator point_relations

-- the module isn't all in the column of the line
abbrev pub RefusesWithoutPoint : Type 0
RefusesWithoutPoint =
    (steps : ℕ → Matrix) (x : CartanEilenberg) → IsBidualOf embedded_relations 2 steps x
    → IsPurityPart embedded_relations 2 x 1 (identity (plain 101) (pos 0 ∷ [])) embedded_relations → ⊥
