-- The orders of monomials and of places whose positions are bounded are well founded: nothing falls for ever.
use Rattle.std.proofs.Common.{◌≡◌, ◌⊎◌, inl, inr, ⊎_elim, ℕ, zero, suc, ◌-◌, ◌<◌, ◌≤◌, arith}
use Rattle.std.specs.declared.cmp.Ordering.{Ordering}
use Rattle.std.specs.declared.cmp.Ordering.TheVariants.{Less, Equal}
use Rattle.std.specs.Ordering.{nat_cmp, on, flip_args, then_cmp}
use mathlib.Core.WellFounded.{Acc}
use mathlib.Core.WellFounded.InvImage
use mathlib.Core.WellFounded.Subrelation
use Rattle.sf_algebra.specs.Monomials.{Monomial, monomial_cmp, monomial_degree}
use Rattle.sf_algebra.specs.Rings.{Weights, IsPositive}
use Rattle.sf_algebra.specs.Vectors.{Place, place_cmp}
use Rattle.sf_algebra.proofs.Monomials.Comparisons.{ordering_then-Less, nat_cmp-Less}
use Rattle.sf_algebra.proofs.Monomials.Orders.{nat_cmp-Equal}
use Rattle.sf_algebra.proofs.Monomials.Weights.{exponent_sum-at_most}

-- what f takes into a well-founded relation is well founded
pub image_acc : {A B : Type 0} (R : B → B → Type 0) (S : A → A → Type 0) (f : A → B)
    → ((x y : A) → S x y → R (f x) (f y)) → (x : A) → Acc R (f x) → Acc S x
image_acc R S f keep x h = Subrelation.accessible keep (InvImage.accessible f h)

-- each step of R lowers the rank, or keeps it and is a step of S
abbrev pub IsRanked : {A : Type 0} → (A → ℕ) → (A → A → Type 0) → (A → A → Type 0) → Type 0
IsRanked {A} rank R S = (x y : A) → R x y → (rank x < rank y) ⊎ ((rank x ≡ rank y) × S x y)

module _ {A : Type 0} (rank : A → ℕ) (R S : A → A → Type 0) (ranked : IsRanked rank R S) where
  at_rank : (m : ℕ) → ((y : A) → rank y < m → Acc R y) → (x : A) → Acc S x → rank x < suc m → Acc R x
  at_rank m lower x (Acc.intro z h) bound =
      Acc.intro z (λ y step. ⊎_elim (λ (less : rank y < rank z). lower y (omega arith)) (λ (same : (rank y ≡ rank z) × S y z). at_rank m lower y (h y same.1) (omega arith)) (ranked y z step))

  below_rank : ((x : A) → Acc S x) → (m : ℕ) (x : A) → rank x < m → Acc R x
  below_rank acc zero x bound = absurd (omega arith)
  below_rank acc (suc m) x bound = at_rank m (below_rank acc m) x (acc x) bound

  -- where S is well founded, so is R
  pub ranked_acc : ((x : A) → Acc S x) → (x : A) → Acc R x
  ranked_acc acc x = below_rank acc (suc (rank x)) x (omega arith)

-- a relation whose steps lower a rank is well founded
pub rank_acc : {A : Type 0} (rank : A → ℕ) (R : A → A → Type 0) → ((x y : A) → R x y → rank x < rank y) → (x : A)
    → Acc R x
rank_acc rank R lower x =
    ranked_acc rank R (λ y z. ⊥) (λ y z step. inl (lower y z step)) (λ y. Acc.intro y (λ z none. absurd none)) x

-- less in an order of monomials of one degree
abbrev IsLessOfDegree : Weights → (Monomial → Monomial → Ordering) → Monomial → Monomial → Type 0
IsLessOfDegree weights cmp a b = (monomial_degree weights a ≡ monomial_degree weights b) × (cmp a b ≡ Less)

-- an exponent that is no greater than the degree, where a greater one is less, before an order that is well founded
exponent_acc : (weights : Weights) (exponent : Monomial → ℕ) → ((a : Monomial) → exponent a ≤ monomial_degree weights a)
    → (cmp : Monomial → Monomial → Ordering)
    → ((a : Monomial) → Acc (IsLessOfDegree weights cmp) a) → (a : Monomial)
    → Acc (IsLessOfDegree weights (then_cmp (flip_args (on exponent nat_cmp)) cmp)) a
exponent_acc weights exponent bounded cmp acc a =
    ranked_acc (λ b. monomial_degree weights b - exponent b) _ (IsLessOfDegree weights cmp)
    (λ b c less.
    let bound : exponent b ≤ monomial_degree weights b = bounded b in
    ⊎_elim
    (λ (first : nat_cmp (exponent c) (exponent b) ≡ Less). let smaller = nat_cmp-Less (exponent c) (exponent b) first in inl (omega arith))
    (λ (both : (nat_cmp (exponent c) (exponent b) ≡ Equal) × (cmp b c ≡ Less)). let same = nat_cmp-Equal (exponent c) (exponent b) both.0 in inr (omega arith, (less.0, both.1)))
    (ordering_then-Less _ _ less.1))
    acc a

last_exponent_acc : (weights : Weights) → IsPositive weights → (a : Monomial)
    → Acc (IsLessOfDegree weights (flip_args (on (λ (b : Monomial). b.e1) nat_cmp))) a
last_exponent_acc weights positive a =
    rank_acc (λ (b : Monomial). monomial_degree weights b - b.e1) _ (λ (b c : Monomial) less. let smaller = nat_cmp-Less c.e1 b.e1 less.1 in let bound = exponent_sum-at_most weights positive b in let other = exponent_sum-at_most weights positive c in omega arith) a

-- the order of monomials is well founded
pub monomial_acc : (weights : Weights) → IsPositive weights → (a : Monomial)
    → Acc (λ b c. monomial_cmp weights b c ≡ Less) a
monomial_acc weights positive a =
    ranked_acc (monomial_degree weights) _ _
    (λ b c less.
    ⊎_elim
    (λ (first : nat_cmp (monomial_degree weights b) (monomial_degree weights c) ≡ Less). inl (nat_cmp-Less _ _ first))
    (λ both. let same = nat_cmp-Equal (monomial_degree weights b) (monomial_degree weights c) both.0 in inr (same, (same, both.1)))
    (ordering_then-Less _ _ less))
    (exponent_acc weights (λ (b : Monomial). b.e6) (λ b. let bound = exponent_sum-at_most weights positive b in omega arith) _
    (exponent_acc weights (λ (b : Monomial). b.e5) (λ b. let bound = exponent_sum-at_most weights positive b in omega arith) _
    (exponent_acc weights (λ (b : Monomial). b.e4) (λ b. let bound = exponent_sum-at_most weights positive b in omega arith) _
    (exponent_acc weights (λ (b : Monomial). b.e3) (λ b. let bound = exponent_sum-at_most weights positive b in omega arith) _
    (exponent_acc weights (λ (b : Monomial). b.e2) (λ b. let bound = exponent_sum-at_most weights positive b in omega arith) _ (last_exponent_acc weights positive))))))
    a

-- j is less than k, and its position is below n
abbrev pub IsBelow : Weights → ℕ → Place → Place → Type 0
IsBelow weights n j k = (place_cmp weights j k ≡ Less) × (j.position < n)

-- the order of the places with positions below n is well founded
pub place_acc : (weights : Weights) → IsPositive weights → (n : ℕ) (k : Place) → Acc (IsBelow weights n) k
place_acc weights positive n k =
    ranked_acc (λ (j : Place). n - j.position) (IsBelow weights n)
    (λ (i j : Place). monomial_cmp weights i.monomial j.monomial ≡ Less)
    (λ (i j : Place) below.
    ⊎_elim
    (λ (first : nat_cmp j.position i.position ≡ Less). let later = nat_cmp-Less j.position i.position first in inl (omega arith))
    (λ (both : (nat_cmp j.position i.position ≡ Equal) × (monomial_cmp weights i.monomial j.monomial ≡ Less)). let same = nat_cmp-Equal j.position i.position both.0 in inr (omega arith, both.1))
    (ordering_then-Less _ _ below.0))
    (λ (j : Place). image_acc (λ b c. monomial_cmp weights b c ≡ Less) (λ (i l : Place). monomial_cmp weights i.monomial l.monomial ≡ Less) (λ (i : Place). i.monomial) (λ i l less. less) j (monomial_acc weights positive j.monomial))
    k
