-- Rows that begin with a generator of the target, without a variable. (Textbook.)
use Rattle.std.specs.Prelude.{◌≡◌, ◌⊎◌, List, [], ◌∷◌}
use Rattle.std.specs.List.{AllByRecursion}
use Rattle.sf_algebra.specs.Matrices.{Matrix}
use Rattle.sf_algebra.specs.Monomials.{exponent_sum}
use Rattle.sf_algebra.specs.Terms.{Term}
use Rattle.sf_algebra.specs.Vectors.{Place, Vector}

-- a list has a first term, and it has no variable
abbrev pub HasUnitLead : List (Term Place) → Type 0
HasUnitLead [] = ⊥
HasUnitLead (t ∷ ts) = exponent_sum t.at.monomial ≡ 0

abbrev pub HaveUnitLeads : List Vector → Type 0
HaveUnitLeads vs = AllByRecursion (λ (v : Vector). HasUnitLead v.terms) vs

-- there is no row, or each begins with a generator, and there is no row of the base
abbrev pub HasFreeRows : Matrix → Matrix → Type 0
HasFreeRows n base = (n.rows ≡ []) ⊎ ((base.rows ≡ []) × HaveUnitLeads n.rows)
