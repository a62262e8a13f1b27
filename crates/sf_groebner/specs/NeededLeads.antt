-- Leads that each reduced basis of a module has. (This project's own; a module is given by the predicate that its vectors
-- meet.)
use Rattle.std.specs.Prelude.{◌≡◌, ◌⊎◌, List, [], ◌∷◌, ℤ, ◌<ℤ◌}
use Rattle.std.specs.List.{AllByRecursion}
use Rattle.sf_algebra.specs.Matrices.{Matrix}
use Rattle.sf_algebra.specs.Rings.{Weights}
use Rattle.sf_algebra.specs.Terms.{Term}
use Rattle.sf_algebra.specs.Vectors.{Place, Vector}
use Rattle.sf_groebner.specs.ReducedBases.{HasDividedLead, IsReducedBasis}
use Rattle.sf_groebner.specs.Spans.{IsGraphVector}

-- the lead of a list stands at k
abbrev pub HasLeadAt : Place → List (Term Place) → Type 0
HasLeadAt k [] = ⊥
HasLeadAt k (t ∷ ts) = t.at ≡ k

-- one of the vectors has its lead at k
abbrev pub HasElementAt : Place → List Vector → Type 0
HasElementAt k [] = ⊥
HasElementAt k (v ∷ vs) = HasLeadAt k v.terms ⊎ HasElementAt k vs

-- each reduced basis of N has an element with its lead at k
abbrev pub IsNeeded : Weights → (Vector → Type 0) → Place → Type 0
IsNeeded weights N k = (basis : List Vector) → IsReducedBasis weights N basis → HasElementAt k basis

-- each reduced basis of the graph of m has an element with its lead at k
abbrev pub IsNeededForGraph : Matrix → Place → Type 0
IsNeededForGraph m k = IsNeeded m.ring.weights (IsGraphVector m) k

-- each lead of N of a degree below d is divided by the lead of one of the rows
abbrev pub IsCompleteBelow : (Vector → Type 0) → List Vector → ℤ → Type 0
IsCompleteBelow N rows d = (v : Vector) → N v → v.degree <ℤ d → HasDividedLead rows v.terms

-- no item of a list is equal to a later one
abbrev pub AreDistinct : {X : Type 0} → List X → Type 0
AreDistinct [] = Unit {0}
AreDistinct (x ∷ xs) = AllByRecursion (λ y. x ≡ y → ⊥) xs × AreDistinct xs
