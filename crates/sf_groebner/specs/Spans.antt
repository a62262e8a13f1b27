-- Spans, syzygies and graphs of a matrix. (Cox, Little, O'Shea, "Using Algebraic Geometry", chapter 5, sections 1 and 3.)
use Rattle.std.specs.Prelude.{◌≡◌, ◌+◌, List, [], ◌++◌, length, ℤ}
use Rattle.sf_algebra.specs.Matrices.{Matrix, row_degrees, degrees_of}
use Rattle.sf_algebra.specs.MatrixOperations.{row_combination, part_terms}
use Rattle.sf_algebra.specs.Rings.{Ring}
use Rattle.sf_algebra.specs.Terms.{Term}
use Rattle.sf_algebra.specs.Vectors.{Place, Vector, IsVector}

-- coefficients for the rows of m: a homogeneous vector over the free module of the rows' degrees
abbrev pub IsCoefficients : Matrix → Vector → Type 0
IsCoefficients m c = IsVector m.ring (row_degrees m) c

-- the combination of rows with the coefficients c, as a vector of the degree of c
abbrev pub combined_rows : Ring → List Vector → Vector → Vector
combined_rows ring rows c = record { degree = c.degree; terms = row_combination ring rows c.terms }

-- c M
abbrev pub combined : Matrix → Vector → Vector
combined m c = combined_rows m.ring m.rows c

-- v is a combination of these rows with homogeneous coefficients
pub record IsSpannedBy (ring : Ring) (rows : List Vector) (v : Vector) : Type 0 where
  pub coefficients : Vector
  pub homogeneous : IsVector ring (degrees_of rows) coefficients
  pub value : combined_rows ring rows coefficients ≡ v

-- v is c M for some coefficients c
abbrev pub InSpan : Matrix → Vector → Type 0
InSpan m v = IsSpannedBy m.ring m.rows v

-- coefficients c with c M = 0
pub record IsSyzygy (m : Matrix) (c : Vector) : Type 0 where
  pub coefficients : IsCoefficients m c
  pub zero : row_combination m.ring m.rows c.terms ≡ []

-- the free module of the graph: the target, then the free module of the rows' degrees
abbrev pub graph_degrees : Matrix → List ℤ
graph_degrees m = m.target ++ row_degrees m

-- the terms of a vector of the graph's free module that stand in the target
abbrev pub value_terms : Matrix → List (Term Place) → List (Term Place)
value_terms m ts = part_terms 0 (length m.target) ts

-- those that stand in the free module of the rows' degrees
abbrev pub coefficient_terms : Matrix → List (Term Place) → List (Term Place)
coefficient_terms m ts = part_terms (length m.target) (length m.target + length m.rows) ts

-- w is (c M, c) for its coefficients c
pub record IsGraphVector (m : Matrix) (w : Vector) : Type 0 where
  pub vector : IsVector m.ring (graph_degrees m) w
  pub value : value_terms m w.terms ≡ row_combination m.ring m.rows (coefficient_terms m w.terms)
