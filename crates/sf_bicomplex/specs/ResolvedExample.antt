-- A bicomplex of free modules, over the residues modulo 101 and in x, whose rows resolve the complex R(1) <-x- R(2):
--
--     row 1                     R(2)        <-- 1 ---    R(2)
--                                | (-x^2, x)             | x
--     row 0    R(0) <-(1, x)-- R(0) + R(1) <-(-x, 1)--   R(1)
--
--     column    0                1                      what is set
--
-- (The example is this project's own.)
use Rattle.std.specs.Prelude.{ℕ, zero, suc, List, [], ◌∷◌, ℤ, pos, ◌-ℤ◌}
use Rattle.sf_algebra.specs.Matrices.{Matrix}
use Rattle.sf_algebra.specs.Rings.{plain}
use Rattle.sf_algebra.specs.Vectors.{Vector}
use Rattle.sf_groebner.specs.Examples.{term, vector}
use Rattle.sf_groebner.specs.MinimalGenerators.{matrix_of}
use Rattle.sf_groebner.specs.Spans.{InSpan}
use Rattle.sf_blocks.specs.MatrixSums.{zero_matrix}
use Rattle.sf_bicomplex.specs.Bicomplexes.{Bicomplex, IsBicomplex}
use Rattle.sf_bicomplex.specs.GivenHomology.{IsGivenHomology}
use Rattle.sf_bicomplex.specs.ResolvedRows.{Augmentation, ResolvesRows}
use Rattle.sf_bicomplex.specs.TotalColumns.{total_map}

-- the degrees of the generators
abbrev pub resolving_degrees : ℕ → ℤ → List ℤ
resolving_degrees zero (pos zero) = pos 0 ∷ []
resolving_degrees (suc zero) (pos zero) = pos 0 ∷ pos 1 ∷ []
resolving_degrees (suc zero) (pos (suc zero)) = pos 2 ∷ []
resolving_degrees p q = []

abbrev pub resolving_left : ℕ → ℤ → List ℤ
resolving_left zero q = []
resolving_left (suc p) q = resolving_degrees p q

-- a row (-x, 1) of R(0) + R(1), and x times it
abbrev pub kernel_row : Vector
kernel_row = vector 1 (term 100 0 (1 ∷ []) ∷ term 1 1 [] ∷ [])

abbrev pub kernel_multiple : Vector
kernel_multiple = vector 2 (term 100 0 (2 ∷ []) ∷ term 1 1 (1 ∷ []) ∷ [])

-- the maps down, and to the left
abbrev pub resolving_down : ℕ → ℤ → Matrix
resolving_down (suc zero) (pos (suc zero)) = matrix_of (plain 101) (pos 0 ∷ pos 1 ∷ []) (kernel_multiple ∷ [])
resolving_down p q = zero_matrix (plain 101) (resolving_degrees p q) (resolving_degrees p (q -ℤ pos 1))

abbrev pub resolving_across : ℕ → ℤ → Matrix
resolving_across (suc zero) (pos zero) =
    matrix_of (plain 101) (pos 0 ∷ []) (vector 0 (term 1 0 [] ∷ []) ∷ vector 1 (term 1 0 (1 ∷ []) ∷ []) ∷ [])
resolving_across p q = zero_matrix (plain 101) (resolving_degrees p q) (resolving_left p q)

abbrev pub resolving_bicomplex : Bicomplex
resolving_bicomplex = record {
  ring = plain 101;
  columns = 2;
  relations = λ p q. matrix_of (plain 101) (resolving_degrees p q) [];
  vertical = resolving_down;
  horizontal = resolving_across;
}

abbrev pub IsResolvingBicomplex : Type 0
IsResolvingBicomplex = IsBicomplex resolving_bicomplex

-- what is set
abbrev pub resolved_degrees : ℤ → List ℤ
resolved_degrees (pos zero) = pos 1 ∷ []
resolved_degrees (pos (suc zero)) = pos 2 ∷ []
resolved_degrees q = []

abbrev pub resolved_map : ℤ → Matrix
resolved_map (pos (suc zero)) = matrix_of (plain 101) (pos 1 ∷ []) (vector 2 (term 1 0 (1 ∷ []) ∷ []) ∷ [])
resolved_map q = zero_matrix (plain 101) (resolved_degrees q) (resolved_degrees (q -ℤ pos 1))

abbrev pub resolved_set : ℤ → Matrix
resolved_set (pos zero) = matrix_of (plain 101) (pos 0 ∷ pos 1 ∷ []) (kernel_row ∷ [])
resolved_set (pos (suc zero)) = matrix_of (plain 101) (pos 2 ∷ []) (vector 2 (term 1 0 [] ∷ []) ∷ [])
resolved_set q = zero_matrix (plain 101) (resolved_degrees q) (resolving_degrees 1 q)

abbrev pub resolved_complex : Augmentation
resolved_complex = record { degrees = resolved_degrees; map = resolved_map; set = resolved_set }

abbrev pub ResolvesExample : Type 0
ResolvesExample = ResolvesRows resolving_bicomplex 1 resolved_complex

-- the generator of R(1), set as (-x, 1), isn't a boundary of the total complex, for 1 isn't a multiple of x
abbrev pub HasClassThatIsSet : Type 0
HasClassThatIsSet = InSpan (total_map resolving_bicomplex (pos 2) (pos 1)) kernel_row → ⊥

-- but x times it is one
abbrev pub HasMultipleThatBounds : Type 0
HasMultipleThatBounds = InSpan (total_map resolving_bicomplex (pos 2) (pos 1)) kernel_multiple

-- so R(1)/x is the homology of the total complex in degree 1, by the row (-x, 1)
abbrev pub GivesQuotient : Type 0
GivesQuotient =
    IsGivenHomology resolving_bicomplex (pos 1) (matrix_of (plain 101) (pos 0 ∷ pos 1 ∷ []) (kernel_row ∷ []))
    (resolved_map (pos 1))
