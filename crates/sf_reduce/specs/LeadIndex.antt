-- The leads that stand at one position, with the numbers of their rows.
use Rattle.std.specs.Prelude.{◌≡◌, ◌==◌, ◌&&◌, Bool, cond, ℕ, suc, List, [], ◌∷◌, ◌++◌, slice_index_or}
use Rattle.sf_algebra.specs.Monomials.{Monomial}
use Rattle.sf_algebra.specs.Vectors.{Place}
use Rattle.sf_groebner.specs.Leads.{divides}

-- the number of a row, and the monomial of its lead
pub record NumberedLead : Type 0 where
  pub row : ℕ
  pub monomial : Monomial

-- those of some places that stand at position q, the first of which has the number n
abbrev pub leads_at : ℕ → ℕ → List Place → List NumberedLead
leads_at q n [] = []
leads_at q n (k ∷ ks) =
    cond (k.position == q) (record { row = n; monomial = k.monomial } ∷ leads_at q (suc n) ks) (leads_at q (suc n) ks)

-- the list at each position has the leads that stand there; past the lists there are none
abbrev pub IsIndex : List (List NumberedLead) → List Place → Type 0
IsIndex index ks = (q : ℕ) → slice_index_or index q [] ≡ leads_at q 0 ks

-- the second lists are the first ones, with one more lead at a position
abbrev pub HasOneMore : ℕ → NumberedLead → List (List NumberedLead) → List (List NumberedLead) → Type 0
HasOneMore position lead old new = (q : ℕ)
    → slice_index_or new q [] ≡ slice_index_or old q [] ++ cond (position == q) (lead ∷ []) []

-- the second lists are the first ones, some empty lists at the end apart
abbrev pub HaveSameLeads : List (List NumberedLead) → List (List NumberedLead) → Type 0
HaveSameLeads old new = (q : ℕ) → slice_index_or new q [] ≡ slice_index_or old q []

-- whether the monomial of a lead divides m
abbrev pub has_divisor : Monomial → NumberedLead → Bool
has_divisor m lead = divides lead.monomial m

-- whether it is the lead of row i as well
abbrev pub is_divisor : ℕ → Monomial → NumberedLead → Bool
is_divisor i m lead = (lead.row == i) && divides lead.monomial m
