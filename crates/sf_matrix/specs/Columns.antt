-- Steps of a transposition. They serve the contracts of private functions.
use Rattle.std.specs.Prelude.{ℕ, suc, List, [], ◌∷◌, ◌++◌, ℤ, neg_ℤ}
use Rattle.sf_algebra.specs.MatrixOperations.{at_position, column_terms}
use Rattle.sf_algebra.specs.Terms.{Term}
use Rattle.sf_algebra.specs.Vectors.{Place, Vector, entry}

-- the columns from j on, each with the entry of row i, which has these terms, at its end
abbrev pub entered : ℕ → List (Term Place) → ℕ → List (List (Term Place)) → List (List (Term Place))
entered i ts j [] = []
entered i ts j (c ∷ cs) = (c ++ at_position i (entry j ts)) ∷ entered i ts (suc j) cs

-- as many columns of some rows as there are degrees, from j on
abbrev pub column_lists : List Vector → ℕ → List ℤ → List (List (Term Place))
column_lists rows j [] = []
column_lists rows j (d ∷ ds) = column_terms j 0 rows ∷ column_lists rows (suc j) ds

-- columns as vectors, of the negatives of their degrees
abbrev pub vectors_of : List ℤ → List (List (Term Place)) → List Vector
vectors_of [] cs = []
vectors_of (d ∷ ds) [] = []
vectors_of (d ∷ ds) (c ∷ cs) = record { degree = neg_ℤ d; terms = c } ∷ vectors_of ds cs
