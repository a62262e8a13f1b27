-- Polynomials and vectors as lists of terms, the greatest first. A polynomial's terms stand at monomials, a vector's at
-- places of a free module. Such a list is canonical, so equal values are equal lists. (Textbook.)
use Rattle.std.specs.Prelude.{◌≡◌, ℕ, ◌<◌, List, [], ◌∷◌}
use Rattle.std.specs.declared.cmp.Ordering.{Ordering}
use Rattle.std.specs.declared.cmp.Ordering.TheVariants.{Less}
use Rattle.std.specs.List.{AllByRecursion}

-- a coefficient, and what it stands at
pub record Term (K : Type 0) : Type 0 where
  pub at : K
  pub coefficient : ℕ

-- each term is greater than those after it, in the order cmp of what they stand at
abbrev pub IsDescending : {K : Type 0} → (K → K → Ordering) → List (Term K) → Type 0
IsDescending cmp [] = Unit {0}
IsDescending cmp (t ∷ ts) = AllByRecursion (λ u. cmp u.at t.at ≡ Less) ts × IsDescending cmp ts

-- a coefficient of a canonical list: a residue modulo p other than 0
abbrev pub IsNonzeroResidue : {K : Type 0} → ℕ → Term K → Type 0
IsNonzeroResidue p t = (0 < t.coefficient) × (t.coefficient < p)

-- the one list for a polynomial or a vector over the residues modulo p
pub record IsCanonical {K : Type 0} (cmp : K → K → Ordering) (p : ℕ) (ts : List (Term K)) : Type 0 where
  pub descending : IsDescending cmp ts
  pub residues : AllByRecursion (IsNonzeroResidue p) ts

-- what stands at k is greater than the first term, where there is one
abbrev pub IsAboveFirst : {K : Type 0} → (K → K → Ordering) → K → List (Term K) → Type 0
IsAboveFirst cmp k [] = Unit {0}
IsAboveFirst cmp k (t ∷ ts) = cmp t.at k ≡ Less
