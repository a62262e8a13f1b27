-- The comparison of monomials finds what the definition of the order says.
use Rattle.std.proofs.Common.{◌≡◌, ◌↔◌, inl, inr, ℕ, ◌+◌, ◌<◌, ◌≤◌, slice_index, sym, ◌∙◌, ap, subst, arith}
use Rattle.std.proofs.lemmas.Bool.{cases_lt, cases_eq}
use Rattle.std.specs.declared.cmp.Ordering.{Ordering}
use Rattle.std.specs.declared.cmp.Ordering.TheVariants.{Greater}
use Rattle.std.specs.Ordering.{nat_cmp, ordering_then, ordering_reverse}
use Rattle.sf_algebra.specs.Monomials.{Monomial, VARIABLES, exponents, monomial_cmp}
use Rattle.sf_algebra.specs.OrderInWords.{IsSmallerInLastDifference, IsGreater}
use Rattle.sf_algebra.specs.Rings.{Weights}
use Rattle.sf_algebra.proofs.Monomials.Comparisons.{ordering_then-Greater, nat_cmp-Greater}
use Rattle.sf_algebra.proofs.Monomials.Orders.{ordering_cases, nat_cmp-Equal, monomial_cmp_total, monomial_cmp-Equal}

-- the exponent at a place
abbrev exponent : Monomial → ℕ → ℕ
exponent a i = slice_index (exponents a) i

-- the exponents from a place on agree
abbrev Agree : Monomial → Monomial → ℕ → Type 0
Agree a b k = (j : ℕ) → k ≤ j → j < VARIABLES → exponent a j ≡ exponent b j

-- an exponent that agrees and those after it
Agree-from : (a b : Monomial) (k : ℕ) → exponent a k ≡ exponent b k → Agree a b (k + 1) → Agree a b k
Agree-from a b k e rest j from below =
    elim (cases_eq k j) [
      | inl same ↦ subst (λ i. exponent a i ≡ exponent b i) same e
      | inr apart ↦ rest j (omega arith) below
    ]

-- where the exponents after place k agree, those at k decide, and then those before it
last_from : (a b : Monomial) (k : ℕ) (before : Ordering) → k < VARIABLES → Agree a b (k + 1)
    → ordering_then (nat_cmp (exponent b k) (exponent a k)) before ≡ Greater
    → (Agree a b k → before ≡ Greater → IsSmallerInLastDifference a b) → IsSmallerInLastDifference a b
last_from a b k before below agree greater go_on =
    elim (ordering_then-Greater _ _ greater) [
      | inl here ↦ (k, below, nat_cmp-Greater _ _ here, λ j after. agree j (omega arith))
      | inr on ↦ go_on (Agree-from a b k (sym (nat_cmp-Equal _ _ on.0)) agree) on.1
    ]

monomial_cmp-words : (weights : Weights) (a b : Monomial) → monomial_cmp weights a b ≡ Greater → IsGreater weights a b
monomial_cmp-words weights a b greater =
    elim (ordering_then-Greater _ _ greater) [
      | inl sums ↦ inl (nat_cmp-Greater _ _ sums)
      | inr on ↦ inr (
        nat_cmp-Equal _ _ on.0,
        last_from a b 5 _ (omega arith) (λ j from below. absurd (omega arith)) on.1
            (λ agree5 on5. last_from a b 4 _ (omega arith) agree5 on5
            (λ agree4 on4. last_from a b 3 _ (omega arith) agree4 on4
            (λ agree3 on3. last_from a b 2 _ (omega arith) agree3 on3
            (λ agree2 on2. last_from a b 1 _ (omega arith) agree2 on2
            (λ agree1 on1. (0, omega arith, nat_cmp-Greater _ _ on1, λ j after. agree1 j (omega arith))))))),
      )
    ]

-- of two monomials at most one has the smaller exponent at the last difference
IsSmallerInLastDifference-asymm : (a b : Monomial) → IsSmallerInLastDifference a b → IsSmallerInLastDifference b a → ⊥
IsSmallerInLastDifference-asymm a b h k =
    elim (cases_lt h.0 k.0) [
      | inl before ↦ let e = h.3 k.0 before k.1 in let l = k.2 in omega arith
      | inr from ↦ elim (cases_lt k.0 h.0) [
        | inl after ↦ let e = k.3 h.0 after h.1 in let l = h.2 in omega arith
        | inr to ↦ let same : h.0 ≡ k.0 =
            omega arith in let l = subst (λ i. exponent a i < exponent b i) same h.2 in let m = k.2 in omega arith
      ]
    ]

IsGreater-asymm : (weights : Weights) (a b : Monomial) → IsGreater weights a b → IsGreater weights b a → ⊥
IsGreater-asymm weights a b (inl h) (inl k) = omega arith
IsGreater-asymm weights a b (inl h) (inr k) = let e = k.0 in omega arith
IsGreater-asymm weights a b (inr h) (inl k) = let e = h.0 in omega arith
IsGreater-asymm weights a b (inr h) (inr k) = IsSmallerInLastDifference-asymm a b h.1 k.1

IsGreater-irrefl : (weights : Weights) (a : Monomial) → IsGreater weights a a → ⊥
IsGreater-irrefl weights a h = IsGreater-asymm weights a a h h

words-monomial_cmp : (weights : Weights) (a b : Monomial) → IsGreater weights a b → monomial_cmp weights a b ≡ Greater
words-monomial_cmp weights a b h =
    ordering_cases (monomial_cmp weights a b)
    (λ less. absurd (IsGreater-asymm weights a b h (monomial_cmp-words weights b a ((monomial_cmp_total weights).antisymm b a ∙ ap ordering_reverse less))))
    (λ equal. absurd (IsGreater-irrefl weights b (subst (λ m. IsGreater weights m b) (monomial_cmp-Equal weights a b equal) h)))
    (λ greater. greater)

pub monomial_cmp-Greater : (weights : Weights) (a b : Monomial)
    → (monomial_cmp weights a b ≡ Greater) ↔ IsGreater weights a b
monomial_cmp-Greater weights a b = (monomial_cmp-words weights a b, words-monomial_cmp weights a b)
