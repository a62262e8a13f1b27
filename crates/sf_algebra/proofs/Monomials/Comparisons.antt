-- Comparisons of numbers, and comparisons one after another.
use Rattle.std.proofs.Common.{◌≡◌, ◌⊎◌, inl, inr, ℕ, ◌<◌, refl, arith}
use Rattle.std.proofs.lemmas.Bool.Decides.{nat_tests}
use Rattle.std.specs.declared.cmp.Ordering.{Ordering}
use Rattle.std.specs.declared.cmp.Ordering.TheVariants.{Less, Equal, Greater}
use Rattle.std.specs.Ordering.{nat_cmp, ordering_then}

-- where one comparison and then another find the first value greater, one of them does
pub ordering_then-Greater : (o p : Ordering) → ordering_then o p ≡ Greater
    → (o ≡ Greater) ⊎ ((o ≡ Equal) × (p ≡ Greater))
ordering_then-Greater Less p e = cc
ordering_then-Greater Equal p e = inr (refl, e)
ordering_then-Greater Greater p e = inl refl

-- where they find the first value less, one of them does
pub ordering_then-Less : (o p : Ordering) → ordering_then o p ≡ Less → (o ≡ Less) ⊎ ((o ≡ Equal) × (p ≡ Less))
ordering_then-Less Less p e = inl refl
ordering_then-Less Equal p e = inr (refl, e)
ordering_then-Less Greater p e = cc

pub nat_cmp-lt : (m n : ℕ) → m < n → nat_cmp m n ≡ Less
nat_cmp-lt m n h = grind (arith, nat_tests)

pub nat_cmp-gt : (m n : ℕ) → n < m → nat_cmp m n ≡ Greater
nat_cmp-gt m n h = grind (arith, nat_tests)

pub nat_cmp-Greater : (m n : ℕ) → nat_cmp m n ≡ Greater → n < m
nat_cmp-Greater m n e = grind (arith, nat_tests)

pub nat_cmp-Less : (m n : ℕ) → nat_cmp m n ≡ Less → m < n
nat_cmp-Less m n e = grind (arith, nat_tests)

pub ordering_then_assoc : (o p q : Ordering) → ordering_then (ordering_then o p) q ≡ ordering_then o (ordering_then p q)
ordering_then_assoc Less p q = refl
ordering_then_assoc Equal p q = refl
ordering_then_assoc Greater p q = refl
