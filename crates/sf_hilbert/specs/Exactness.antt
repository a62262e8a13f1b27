-- Exactness modulo variables: what stands at multiples of these is left out of account. (Textbook: a sequence of modules
-- modulo elements of the ring.)
use Rattle.std.specs.Prelude.{◌≡◌, ℕ, zero, suc, ◌==◌, Bool, true, ◌&&◌, List, [], ◌∷◌, slice_index, ℤ}
use Rattle.std.specs.List.{filter}
use Rattle.sf_algebra.specs.Matrices.{Matrix, degrees_of}
use Rattle.sf_algebra.specs.MatrixOperations.{row_combination}
use Rattle.sf_algebra.specs.Monomials.{Monomial, exponents}
use Rattle.sf_algebra.specs.Rings.{Ring}
use Rattle.sf_algebra.specs.Terms.{Term}
use Rattle.sf_algebra.specs.Vectors.{Place, Vector, IsVector}

-- the exponent of the variable at place i, counted from 0
abbrev pub exponent : ℕ → Monomial → ℕ
exponent i a = slice_index (exponents a) i

-- whether the variable at place i doesn't divide a monomial
abbrev pub is_without : ℕ → Monomial → Bool
is_without i a = exponent i a == 0

-- whether none of the first n variables divides it
abbrev pub is_free_of : ℕ → Monomial → Bool
is_free_of zero a = true
is_free_of (suc n) a = is_free_of n a && is_without n a

-- the terms whose monomials pass a test
abbrev pub kept : (Monomial → Bool) → List (Term Place) → List (Term Place)
kept test ts = filter (λ (t : Term Place). test t.at.monomial) ts

-- coefficients that rows send to what isn't kept are, as far as they are kept, values of the next rows
abbrev pub IsExactModulo : Ring → (Monomial → Bool) → List Vector → List Vector → Type 0
IsExactModulo ring test rows next =
    (d : ℤ) (c : List (Term Place)) → IsVector ring (degrees_of rows) (record { degree = d; terms = c })
    → kept test (row_combination ring rows c) ≡ []
    → (y : List (Term Place)) × IsVector ring (degrees_of next) (record { degree = d; terms = y })
    × (kept test (row_combination ring next y) ≡ kept test c)

-- so it is with each two steps, from one before the others on
abbrev pub AreExactModulo : Ring → (Monomial → Bool) → Matrix → List Matrix → Type 0
AreExactModulo ring test before [] = Unit {0}
AreExactModulo ring test before (step ∷ steps) =
    IsExactModulo ring test before.rows step.rows × AreExactModulo ring test step steps

-- and with each two of a list of steps
abbrev pub AreAllExact : Ring → (Monomial → Bool) → List Matrix → Type 0
AreAllExact ring test [] = Unit {0}
AreAllExact ring test (step ∷ steps) = AreExactModulo ring test step steps
