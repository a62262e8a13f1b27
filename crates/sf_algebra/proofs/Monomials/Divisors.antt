-- Divisors, quotients and least common multiples of monomials.
use Rattle.std.proofs.Common.{◌≡◌, ◌≢◌, ◌↔◌, ℕ, ◌+◌, ◌*◌, ◌<◌, ◌≤◌, inl, inr, sym, ◌∙◌, ap, arith}
use Rattle.std.proofs.Math.Nat.{mul-le-mul_left, le_of_mul-le-mul_left}
use Rattle.std.proofs.lemmas.Bool.{cases_lt}
use Rattle.std.proofs.lemmas.Cmp.{tied_itself}
use Rattle.std.specs.declared.cmp.Ordering.TheVariants.{Greater}
use Rattle.sf_algebra.specs.Divisibility.{Divides, quotient, lcm}
use Rattle.sf_algebra.specs.Monomials.{Monomial, product, monomial_degree, monomial_cmp}
use Rattle.sf_algebra.specs.Rings.{Weights, IsPositive}
use Rattle.sf_algebra.proofs.Monomials.Comparisons.{nat_cmp-lt}
use Rattle.sf_algebra.proofs.Monomials.Orders.{monomial_cmp_total}
use Rattle.sf_algebra.proofs.Monomials.Products.{monomial_degree-product}

-- monomials with equal exponents are equal
pub same_monomial : (a b : Monomial) → a.e1 ≡ b.e1 → a.e2 ≡ b.e2 → a.e3 ≡ b.e3 → a.e4 ≡ b.e4 → a.e5 ≡ b.e5 → a.e6 ≡ b.e6
    → a ≡ b
same_monomial a b p1 p2 p3 p4 p5 p6 = λ i. record { e1 = p1 i; e2 = p2 i; e3 = p3 i; e4 = p4 i; e5 = p5 i; e6 = p6 i }

-- equal monomials have equal exponents
pub exponents_equal : (a b : Monomial) → a ≡ b
    → (a.e1 ≡ b.e1) × (a.e2 ≡ b.e2) × (a.e3 ≡ b.e3) × (a.e4 ≡ b.e4) × (a.e5 ≡ b.e5) × (a.e6 ≡ b.e6)
exponents_equal a b e =
    (ap (λ m. m.e1) e, ap (λ m. m.e2) e, ap (λ m. m.e3) e, ap (λ m. m.e4) e, ap (λ m. m.e5) e, ap (λ m. m.e6) e)

pub product-quotient : (a b : Monomial) → Divides b a → product b (quotient a b) ≡ a
product-quotient a b h =
    same_monomial _ a (omega arith) (omega arith) (omega arith) (omega arith) (omega arith) (omega arith)

pub quotient-only : (a b c : Monomial) → product b c ≡ a → c ≡ quotient a b
quotient-only a b c e =
    let p = exponents_equal _ a e in
    same_monomial c (quotient a b) (omega arith) (omega arith) (omega arith) (omega arith) (omega arith) (omega arith)

pub product-cancel : (a b c : Monomial) → product a b ≡ product a c → b ≡ c
product-cancel a b c e = quotient-only (product a c) a b e ∙ sym (quotient-only (product a c) a c (λ i. product a c))

pub Divides-product : (a b : Monomial) → Divides a (product a b)
Divides-product a b = (omega arith, omega arith, omega arith, omega arith, omega arith, omega arith)

pub Divides-multiple : (a b c : Monomial) → product a c ≡ b → Divides a b
Divides-multiple a b c e =
    let p = exponents_equal _ b e in
    (omega arith, omega arith, omega arith, omega arith, omega arith, omega arith)

pub Divides-iff : (a b : Monomial) → Divides a b ↔ ((c : Monomial) × (product a c ≡ b))
Divides-iff a b = (λ h. (quotient b a, product-quotient b a h), λ w. Divides-multiple a b w.0 w.1)

pub Divides-refl : (a : Monomial) → Divides a a
Divides-refl a = (omega arith, omega arith, omega arith, omega arith, omega arith, omega arith)

pub Divides-trans : (a b c : Monomial) → Divides a b → Divides b c → Divides a c
Divides-trans a b c h k = (omega arith, omega arith, omega arith, omega arith, omega arith, omega arith)

pub Divides-antisymm : (a b : Monomial) → Divides a b → Divides b a → a ≡ b
Divides-antisymm a b h k =
    same_monomial a b (omega arith) (omega arith) (omega arith) (omega arith) (omega arith) (omega arith)

-- what each exponent of a divisor adds to its degree
abbrev HasSmallerParts : Weights → Monomial → Monomial → Type 0
HasSmallerParts weights a b =
    (weights.w1 * a.e1 ≤ weights.w1 * b.e1) × (weights.w2 * a.e2 ≤ weights.w2 * b.e2) × (weights.w3 * a.e3 ≤ weights.w3 * b.e3)
    × (weights.w4 * a.e4 ≤ weights.w4 * b.e4) × (weights.w5 * a.e5 ≤ weights.w5 * b.e5) × (weights.w6 * a.e6 ≤ weights.w6 * b.e6)

smaller_parts : (weights : Weights) (a b : Monomial) → Divides a b → HasSmallerParts weights a b
smaller_parts weights a b h = (
  mul-le-mul_left weights.w1 h.0,
  mul-le-mul_left weights.w2 h.1,
  mul-le-mul_left weights.w3 h.2,
  mul-le-mul_left weights.w4 h.3,
  mul-le-mul_left weights.w5 h.4,
  mul-le-mul_left weights.w6 h.5,
)

-- a smaller exponent that adds as much is the same
tight : (w a b : ℕ) → 0 < w → a ≤ b → w * b ≤ w * a → a ≡ b
tight w a b positive h k = let back = le_of_mul-le-mul_left k positive in omega arith

-- a divisor of the same degree is the monomial itself
Divides-same_degree : (weights : Weights) → IsPositive weights → (a b : Monomial) → Divides a b
    → monomial_degree weights b ≤ monomial_degree weights a → a ≡ b
Divides-same_degree weights positive a b h k =
    let s = smaller_parts weights a b h in
    same_monomial a b
    (tight weights.w1 a.e1 b.e1 positive.first h.0 (omega arith))
    (tight weights.w2 a.e2 b.e2 positive.second h.1 (omega arith))
    (tight weights.w3 a.e3 b.e3 positive.third h.2 (omega arith))
    (tight weights.w4 a.e4 b.e4 positive.fourth h.3 (omega arith))
    (tight weights.w5 a.e5 b.e5 positive.fifth h.4 (omega arith))
    (tight weights.w6 a.e6 b.e6 positive.sixth h.5 (omega arith))

pub Divides-monomial_cmp : (weights : Weights) → IsPositive weights → (a b : Monomial) → Divides a b
    → monomial_cmp weights a b ≢ Greater
Divides-monomial_cmp weights positive a b h greater =
    elim (cases_lt (monomial_degree weights a) (monomial_degree weights b)) [
      | inl less ↦ let e = rw (nat_cmp-lt _ _ less) at greater in cc
      | inr same ↦ let e =
          ap (monomial_cmp weights a) (Divides-same_degree weights positive a b h same) in let f = tied_itself (monomial_cmp_total weights) a in cc
    ]

pub lcm-multiple : (a b : Monomial) → Divides a (lcm a b) × Divides b (lcm a b)
lcm-multiple a b =
    ((omega arith, omega arith, omega arith, omega arith, omega arith, omega arith), (omega arith, omega arith, omega arith, omega arith, omega arith, omega arith))

pub lcm-least : (a b c : Monomial) → Divides a c → Divides b c → Divides (lcm a b) c
lcm-least a b c h k = (omega arith, omega arith, omega arith, omega arith, omega arith, omega arith)

-- the degree of a divisor is not greater
pub monomial_degree-Divides : (weights : Weights) (a b : Monomial) → Divides a b
    → monomial_degree weights a ≤ monomial_degree weights b
monomial_degree-Divides weights a b h = let s = smaller_parts weights a b h in omega arith

-- the least common multiple divides the product
pub Divides-lcm_product : (a b : Monomial) → Divides (lcm a b) (product a b)
Divides-lcm_product a b = (omega arith, omega arith, omega arith, omega arith, omega arith, omega arith)

pub monomial_degree-lcm : (weights : Weights) (a b : Monomial)
    → monomial_degree weights (lcm a b) ≤ monomial_degree weights a + monomial_degree weights b
monomial_degree-lcm weights a b =
    rw (← monomial_degree-product weights a b)
    (monomial_degree-Divides weights (lcm a b) (product a b) (Divides-lcm_product a b))

pub lcm-degree : (weights : Weights) (a b : Monomial)
    → (monomial_degree weights a ≤ monomial_degree weights (lcm a b))
    × (monomial_degree weights b ≤ monomial_degree weights (lcm a b))
lcm-degree weights a b = let h = lcm-multiple a b in (monomial_degree-Divides weights a (lcm a b) h.0, monomial_degree-Divides weights b (lcm a b) h.1)
