-- The entries of a row, whose terms stand in descending order: those at the first columns first.
use Rattle.std.proofs.Common.{◌≡◌, ◌≢◌, refl, ℕ, ◌+◌, ◌≤◌, eqb, cond, true, false, List, [], ◌∷◌, Some, None, ap, ◌∙◌, arith}
use Rattle.std.specs.declared.cmp.Ordering.{Ordering}
use Rattle.std.specs.declared.cmp.Ordering.TheVariants.{Less}
use Rattle.std.specs.Ordering.{nat_cmp, ordering_then}
use Rattle.std.specs.List.{AllByRecursion, cons_option}
use Rattle.std.proofs.lemmas.Bool.Decides.{nat_tests}
use Rattle.sf_algebra.specs.Monomials.{Monomial}
use Rattle.sf_algebra.specs.Rings.{Weights}
use Rattle.sf_algebra.specs.Terms.{Term, IsDescending}
use Rattle.sf_algebra.specs.Vectors.{Place, place_cmp, entry}
use Rattle.sf_algebra.proofs.Basics.Lists.{AllByRecursion-weaken}

-- a term of a vector without its position
abbrev pub without_position : Term Place → Term Monomial
without_position t = record { at = t.at.monomial; coefficient = t.coefficient }

module _ (i : ℕ) (t : Term Place) (ts : List (Term Place)) where
  -- a term at the position
  pub entry-here : t.at.position ≡ i → entry i (t ∷ ts) ≡ without_position t ∷ entry i ts
  entry-here h =
      let e : eqb t.at.position i ≡ true = grind (arith, nat_tests) in
      ap (λ b. cons_option (cond b (Some (without_position t)) None) (entry i ts)) e

  -- a term at another position
  pub entry-elsewhere : t.at.position ≢ i → entry i (t ∷ ts) ≡ entry i ts
  entry-elsewhere h =
      let e : eqb t.at.position i ≡ false = grind (arith, nat_tests) in
      ap (λ b. cons_option (cond b (Some (without_position t)) None) (entry i ts)) e

-- where all terms stand at later positions
pub entry-past : (i : ℕ) (ts : List (Term Place)) → AllByRecursion (λ t. i + 1 ≤ t.at.position) ts → entry i ts ≡ []
entry-past i [] h = refl
entry-past i (t ∷ ts) h = entry-elsewhere i t ts (λ e. omega (arith, h.0)) ∙ entry-past i ts h.1

nat_cmp-lead : (m n : ℕ) (o : Ordering) → ordering_then (nat_cmp m n) o ≡ Less → m ≤ n
nat_cmp-lead m n o e = grind (arith, nat_tests)

-- a smaller place stands at no earlier position
pub position_from_place_cmp : (weights : Weights) (a b : Place) → place_cmp weights a b ≡ Less → b.position ≤ a.position
position_from_place_cmp weights a b e = nat_cmp-lead b.position a.position _ e

-- the terms behind a term of a descending list stand at no earlier position
pub IsDescending-positions : (weights : Weights) (t : Term Place) (ts : List (Term Place))
    → IsDescending (place_cmp weights) (t ∷ ts) → AllByRecursion (λ u. t.at.position ≤ u.at.position) ts
IsDescending-positions weights t ts h =
    AllByRecursion-weaken _ _ (λ u e. position_from_place_cmp weights u.at t.at e) ts h.0
