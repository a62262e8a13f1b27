-- The product of monomials is that of a commutative monoid, and keeps the order.
use Rattle.std.proofs.Common.{◌≡◌, ℕ, ◌+◌, arith, zero-add}
use Rattle.std.proofs.Math.Nat.{add_assoc, add_comm}
use Rattle.std.proofs.lemmas.Bool.Decides.{nat_tests}
use Rattle.std.specs.Ordering.{nat_cmp}
use Rattle.sf_algebra.specs.Monomials.{Monomial, one, product, monomial_degree, monomial_cmp}
use Rattle.sf_algebra.specs.Rings.{Weights}

pub product-comm : (a b : Monomial) → product a b ≡ product b a
product-comm a b = λ i. record {
  e1 = add_comm a.e1 b.e1 i;
  e2 = add_comm a.e2 b.e2 i;
  e3 = add_comm a.e3 b.e3 i;
  e4 = add_comm a.e4 b.e4 i;
  e5 = add_comm a.e5 b.e5 i;
  e6 = add_comm a.e6 b.e6 i;
}

pub product-assoc : (a b c : Monomial) → product (product a b) c ≡ product a (product b c)
product-assoc a b c = simp add_assoc

pub product-one_first : (a : Monomial) → product one a ≡ a
product-one_first a = simp zero-add

pub monomial_degree-product : (weights : Weights) (a b : Monomial)
    → monomial_degree weights (product a b) ≡ monomial_degree weights a + monomial_degree weights b
monomial_degree-product weights a b = omega arith

-- numbers compare as their sums with a third one do
pub nat_cmp-add : (k m n : ℕ) → nat_cmp (k + m) (k + n) ≡ nat_cmp m n
nat_cmp-add k m n = grind (arith, nat_tests)

pub monomial_cmp-product : (weights : Weights) (c a b : Monomial)
    → monomial_cmp weights (product c a) (product c b) ≡ monomial_cmp weights a b
monomial_cmp-product weights c a b =
    rw (monomial_degree-product weights c a, monomial_degree-product weights c b) (simp nat_cmp-add)
