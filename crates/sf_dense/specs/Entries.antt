-- A vector of one degree by the numbers of its places in a list, and sums over such a list. (Textbook: a row of a matrix
-- with a column for each place; Lazard, "Gröbner bases, Gaussian elimination and resolution of systems of algebraic
-- equations", EUROCAL 1983.)
use Rattle.std.specs.Prelude.{ℕ, ◌+◌, ◌*◌, List, [], ◌∷◌, map, slice_index, slice_index_or, slice_set}
use Rattle.sf_algebra.specs.Monomials.{one}
use Rattle.sf_algebra.specs.Sums.{normal}
use Rattle.sf_algebra.specs.Rings.{ones}
use Rattle.sf_algebra.specs.Terms.{Term}
use Rattle.sf_algebra.specs.Vectors.{Place, place_cmp}

-- a coefficient, and the number of its place in a list, counted from 0
pub record Entry : Type 0 where
  pub cell : ℕ
  pub coefficient : ℕ

-- the place with a number
abbrev pub column_at : List Place → ℕ → Place
column_at ks i = slice_index_or ks i (record { position = 0; monomial = one })

-- the terms that entries stand for
abbrev pub placed : List Place → List Entry → List (Term Place)
placed ks es = map (λ (e : Entry). record { at = column_at ks e.cell; coefficient = e.coefficient }) es

-- the terms that sums stand for, one for each place, where both lists have one
unfoldable pub cell_terms : List Place → List ℕ → List (Term Place)
cell_terms [] cs = []
cell_terms (k ∷ ks) [] = []
cell_terms (k ∷ ks) (c ∷ cs) = record { at = k; coefficient = c } ∷ cell_terms ks cs

-- the vector that sums stand for modulo p
abbrev pub dense : ℕ → List Place → List ℕ → List (Term Place)
dense p ks cs = normal (place_cmp ones) p (cell_terms ks cs)

-- the sums with a multiple of entries added; numbers past the last sum change nothing
unfoldable pub added : ℕ → List ℕ → List Entry → List ℕ
added a cs [] = cs
added a cs (e ∷ es) = added a (slice_set cs e.cell (slice_index cs e.cell + a * e.coefficient)) es
