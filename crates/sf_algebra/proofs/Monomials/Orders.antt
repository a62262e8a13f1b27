-- The orders of monomials and of places are linear.
use Rattle.std.proofs.Common.{◌≡◌, ℕ, refl, sym, arith}
use Rattle.std.specs.declared.cmp.Ordering.{Ordering}
use Rattle.std.specs.declared.cmp.Ordering.TheVariants.{Less, Equal, Greater}
use Rattle.std.specs.Ordering.{match_ordering, nat_cmp, ordering_then}
use Rattle.std.proofs.lemmas.Bool.Decides.{nat_tests}
use Rattle.std.specs.Cmp.{IsTotalOrder, then_total, on_total, back_total, nat_cmp_total}
use Rattle.sf_algebra.specs.Monomials.{Monomial, monomial_cmp, monomial_degree}
use Rattle.sf_algebra.specs.Orders.{IsLinearOrder}
use Rattle.sf_algebra.specs.Rings.{Weights}
use Rattle.sf_algebra.specs.Vectors.{Place, place_cmp}

-- what follows from each of the three orderings holds
pub ordering_cases : {A : Type 0} (o : Ordering) → (o ≡ Less → A) → (o ≡ Equal → A) → (o ≡ Greater → A) → A
ordering_cases Less less equal greater = less refl
ordering_cases Equal less equal greater = equal refl
ordering_cases Greater less equal greater = greater refl

-- a fact of what an ordering chooses, by what the ordering is
pub match_ordering_cases : {A : Type 0} (o : Ordering) (a b c : A) (P : A → Type 0) → (o ≡ Less → P a)
    → (o ≡ Equal → P b) → (o ≡ Greater → P c) → P (match_ordering o a b c)
match_ordering_cases Less a b c P less equal greater = less refl
match_ordering_cases Equal a b c P less equal greater = equal refl
match_ordering_cases Greater a b c P less equal greater = greater refl

-- where one order and then another find nothing between two values, neither does
pub ordering_then-Equal : (o p : Ordering) → ordering_then o p ≡ Equal → (o ≡ Equal) × (p ≡ Equal)
ordering_then-Equal Less p e = cc
ordering_then-Equal Equal p e = (cc, e)
ordering_then-Equal Greater p e = cc

pub nat_cmp-Equal : (a b : ℕ) → nat_cmp a b ≡ Equal → a ≡ b
nat_cmp-Equal a b e = grind (arith, nat_tests)

pub monomial_cmp_total : (weights : Weights) → IsTotalOrder (monomial_cmp weights)
monomial_cmp_total weights =
    then_total (on_total (monomial_degree weights) nat_cmp_total)
    (then_total (back_total (on_total (λ (a : Monomial). a.e6) nat_cmp_total))
    (then_total (back_total (on_total (λ (a : Monomial). a.e5) nat_cmp_total))
    (then_total (back_total (on_total (λ (a : Monomial). a.e4) nat_cmp_total))
    (then_total (back_total (on_total (λ (a : Monomial). a.e3) nat_cmp_total))
    (then_total (back_total (on_total (λ (a : Monomial). a.e2) nat_cmp_total))
    (back_total (on_total (λ (a : Monomial). a.e1) nat_cmp_total)))))))

pub monomial_cmp-Equal : (weights : Weights) (a b : Monomial) → monomial_cmp weights a b ≡ Equal → a ≡ b
monomial_cmp-Equal weights a b e =
    let f = ordering_then-Equal _ _ e in
    let g6 = ordering_then-Equal _ _ f.1 in
    let g5 = ordering_then-Equal _ _ g6.1 in
    let g4 = ordering_then-Equal _ _ g5.1 in
    let g3 = ordering_then-Equal _ _ g4.1 in
    let g2 = ordering_then-Equal _ _ g3.1 in
    let p6 = nat_cmp-Equal _ _ g6.0 in
    let p5 = nat_cmp-Equal _ _ g5.0 in
    let p4 = nat_cmp-Equal _ _ g4.0 in
    let p3 = nat_cmp-Equal _ _ g3.0 in
    let p2 = nat_cmp-Equal _ _ g2.0 in
    let p1 = nat_cmp-Equal _ _ g2.1 in
    λ i. record { e1 = sym p1 i; e2 = sym p2 i; e3 = sym p3 i; e4 = sym p4 i; e5 = sym p5 i; e6 = sym p6 i }

pub monomial_cmp_linear : (weights : Weights) → IsLinearOrder (monomial_cmp weights)
monomial_cmp_linear weights = record { total = monomial_cmp_total weights; apart = monomial_cmp-Equal weights }

pub place_cmp_total : (weights : Weights) → IsTotalOrder (place_cmp weights)
place_cmp_total weights =
    then_total (back_total (on_total (λ (a : Place). a.position) nat_cmp_total))
    (on_total (λ (a : Place). a.monomial) (monomial_cmp_total weights))

pub place_cmp-Equal : (weights : Weights) (a b : Place) → place_cmp weights a b ≡ Equal → a ≡ b
place_cmp-Equal weights a b e =
    let f = ordering_then-Equal _ _ e in
    let positions = nat_cmp-Equal _ _ f.0 in
    let monomials = monomial_cmp-Equal weights _ _ f.1 in
    λ i. record { position = sym positions i; monomial = monomials i }

pub place_cmp_linear : (weights : Weights) → IsLinearOrder (place_cmp weights)
place_cmp_linear weights = record { total = place_cmp_total weights; apart = place_cmp-Equal weights }
