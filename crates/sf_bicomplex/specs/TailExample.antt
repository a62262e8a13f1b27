-- A bicomplex of free modules with one generator each, over the residues modulo 101 and in x, whose differential from the
-- column 2 to the column 0 needs a tail:
--
--     row 1    R(0)  <-x-  R(1)
--                           |1
--     row 0               R(1)  <-1-  R(1)
--
--     column    0          1           2
--
-- The generator in column 2 goes to that below it at the left, and so does the one in column 1 and row 1. Their difference
-- falls to column 0, to -x. (The example is this project's own.)
use Rattle.std.specs.Prelude.{ℕ, zero, suc, List, [], ◌∷◌, map, ℤ, pos, ◌-ℤ◌}
use Rattle.sf_algebra.specs.Matrices.{Matrix}
use Rattle.sf_algebra.specs.Rings.{plain}
use Rattle.sf_algebra.specs.Terms.{Term}
use Rattle.sf_algebra.specs.Vectors.{Place, Vector}
use Rattle.sf_groebner.specs.Examples.{term, vector}
use Rattle.sf_groebner.specs.MinimalGenerators.{matrix_of}
use Rattle.sf_bicomplex.specs.Bicomplexes.{Bicomplex, IsBicomplex}
use Rattle.sf_bicomplex.specs.Pages.{FallsBelow, HasDifferential, IsBoundaryOfPage, IsCycleOfPage}

-- the degrees of the generators
abbrev pub tail_degrees : ℕ → ℤ → List ℤ
tail_degrees zero (pos (suc zero)) = pos 0 ∷ []
tail_degrees (suc zero) (pos zero) = pos 1 ∷ []
tail_degrees (suc zero) (pos (suc zero)) = pos 1 ∷ []
tail_degrees (suc (suc zero)) (pos zero) = pos 1 ∷ []
tail_degrees p q = []

abbrev pub tail_left : ℕ → ℤ → List ℤ
tail_left zero q = []
tail_left (suc p) q = tail_degrees p q

-- where the generators go: down, and to the left
abbrev pub tail_down : ℕ → ℤ → List (Term Place)
tail_down (suc zero) (pos (suc zero)) = term 1 0 [] ∷ []
tail_down p q = []

abbrev pub tail_across : ℕ → ℤ → List (Term Place)
tail_across (suc zero) (pos (suc zero)) = term 1 0 (1 ∷ []) ∷ []
tail_across (suc (suc zero)) (pos zero) = term 1 0 [] ∷ []
tail_across p q = []

-- the matrix all of whose rows have these terms
abbrev pub with_rows : List ℤ → List ℤ → List (Term Place) → Matrix
with_rows source target ts = matrix_of (plain 101) target (map (λ (d : ℤ). record { degree = d; terms = ts }) source)

abbrev pub tail_bicomplex : Bicomplex
tail_bicomplex = record {
  ring = plain 101;
  columns = 3;
  relations = λ p q. matrix_of (plain 101) (tail_degrees p q) [];
  vertical = λ p q. with_rows (tail_degrees p q) (tail_degrees p (q -ℤ pos 1)) (tail_down p q);
  horizontal = λ p q. with_rows (tail_degrees p q) (tail_left p q) (tail_across p q);
}

abbrev pub IsTailBicomplex : Type 0
IsTailBicomplex = IsBicomplex tail_bicomplex

-- the generator in a column of degree 1, alone
abbrev pub generator : Vector
generator = vector 1 (term 1 0 [] ∷ [])

-- -x in column 0
abbrev pub minus_x : Vector
minus_x = vector 1 (term 100 0 (1 ∷ []) ∷ [])

-- the differential of page 2 sends the generator of column 2 to -x
abbrev pub HasTailDifferential : Type 0
HasTailDifferential = HasDifferential tail_bicomplex 2 (pos 2) (pos 1) 0 generator minus_x

-- without a tail it doesn't fall
abbrev pub RefusesNoTail : Type 0
RefusesNoTail = FallsBelow tail_bicomplex (pos 2) (pos 1) 3 1 generator → ⊥

-- so -x is a boundary of page 3
abbrev pub HasTailBoundary : Type 0
HasTailBoundary = IsBoundaryOfPage tail_bicomplex 3 (pos 2) (pos 1) 0 minus_x

-- and the generator is a cycle of page 2
abbrev pub HasTailCycle : Type 0
HasTailCycle = IsCycleOfPage tail_bicomplex 2 (pos 2) (pos 1) 2 generator
