-- The unit vectors of a free module in the order of rows: by ascending degree, and in one degree by position. (The order
-- of rows is this project's own.)
use Rattle.std.specs.Prelude.{List, [], ◌∷◌, ℤ}
use Rattle.std.specs.Ordering.{int_cmp, match_ordering}
use Rattle.sf_algebra.specs.MatrixOperations.{unit_rows}
use Rattle.sf_algebra.specs.Vectors.{Vector}

-- a vector, put in front of the first whose degree isn't smaller
abbrev pub insert_by_degree : Vector → List Vector → List Vector
insert_by_degree v [] = v ∷ []
insert_by_degree v (w ∷ ws) =
    match_ordering (int_cmp v.degree w.degree) (v ∷ w ∷ ws) (v ∷ w ∷ ws) (w ∷ insert_by_degree v ws)

-- vectors by ascending degree; those of one degree stay in their order
abbrev pub by_degree : List Vector → List Vector
by_degree [] = []
by_degree (v ∷ vs) = insert_by_degree v (by_degree vs)

abbrev pub unit_basis : List ℤ → List Vector
unit_basis degrees = by_degree (unit_rows 0 degrees)
