-- The constant terms of coefficients. Their positions are turned round, so that the last of them comes first. (This
-- project's own.)
use Rattle.std.specs.Prelude.{Bool, ℕ, suc, ◌-◌, ◌==◌, ◌<◌, List, map}
use Rattle.std.specs.List.{AllByRecursion, filter}
use Rattle.sf_algebra.specs.Monomials.{exponent_sum}
use Rattle.sf_algebra.specs.Terms.{Term}
use Rattle.sf_algebra.specs.Vectors.{Place}

-- whether a term stands at the monomial 1
abbrev pub is_constant : Term Place → Bool
is_constant t = exponent_sum t.at.monomial == 0

-- a term at the position that is as far from the end of n positions as its own is from their beginning
abbrev pub turned : ℕ → Term Place → Term Place
turned n t = record {
  at = record { position = n - suc t.at.position; monomial = t.at.monomial };
  coefficient = t.coefficient;
}

-- the constant terms, turned round
abbrev pub constants : ℕ → List (Term Place) → List (Term Place)
constants n ts = map (turned n) (filter is_constant ts)

-- all terms stand at the first n positions
abbrev pub StandWithin : ℕ → List (Term Place) → Type 0
StandWithin n ts = AllByRecursion (λ (t : Term Place). t.at.position < n) ts
