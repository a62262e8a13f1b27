-- The greatest term of a polynomial has the greatest sum of exponents, so its products bound those of all terms.
use Rattle.std.proofs.Common.{◌≡◌, ℕ, ◌+◌, ◌≤◌, List, [], ◌∷◌, Some, sym, ◌∙◌, ap, subst, arith}
use Rattle.std.specs.declared.cmp.Ordering.{Ordering}
use Rattle.std.specs.declared.cmp.Ordering.TheVariants.{Less}
use Rattle.std.specs.List.{AllByRecursion}
use Rattle.std.specs.Ordering.{nat_cmp, ordering_then}
use Rattle.std.proofs.lemmas.Bool.Decides.{nat_tests}
use Rattle.sf_algebra.specs.Bounds.{GREATEST_SUM}
use Rattle.sf_algebra.specs.Monomials.{Monomial, monomial_cmp, exponent_sum, monomial_degree}
use Rattle.sf_algebra.specs.Rings.{ones}
use Rattle.sf_algebra.specs.Terms.{Term, IsDescending}
use Rattle.sf_algebra.proofs.Basics.Lists.{AllByRecursion-weaken}
use Rattle.sf_poly.specs.Bounds.{IsBoundedBy, ProductsHaveRoom, MultipleFits, ProductFits}
use Rattle.sf_poly.specs.Polynomials.{lead}

nat_cmp-lead : (m n : ℕ) (o : Ordering) → ordering_then (nat_cmp m n) o ≡ Less → m ≤ n
nat_cmp-lead m n o e = grind (arith, nat_tests)

-- a smaller monomial has no greater sum of exponents
pub exponent_sum-Less : (a b : Monomial) → monomial_cmp ones a b ≡ Less → exponent_sum a ≤ exponent_sum b
exponent_sum-Less a b less =
    let h = nat_cmp-lead (monomial_degree ones a) (monomial_degree ones b) _ less in
    omega arith

-- each term has at most the sum of exponents of the first
pub IsBoundedBy-lead : (t : Term Monomial) (ts : List (Term Monomial)) → IsDescending (monomial_cmp ones) (t ∷ ts)
    → IsBoundedBy (exponent_sum t.at) (t ∷ ts)
IsBoundedBy-lead t ts h = (omega arith, AllByRecursion-weaken _ _ (λ u less. exponent_sum-Less u.at t.at less) ts h.0)

-- a multiple has room where its greatest term has
pub HasRoom-MultipleFits : (a : Monomial) (ts : List (Term Monomial)) → IsDescending (monomial_cmp ones) ts
    → MultipleFits a ts → ProductsHaveRoom a ts
HasRoom-MultipleFits a [] h fits = tt
HasRoom-MultipleFits a (t ∷ ts) h fits =
    AllByRecursion-weaken (λ (u : Term Monomial). exponent_sum u.at ≤ exponent_sum t.at)
    (λ (u : Term Monomial). exponent_sum a + exponent_sum u.at ≤ GREATEST_SUM)
    (λ u below. omega arith) (t ∷ ts) (IsBoundedBy-lead t ts h)

-- a product too
pub HasRoom-ProductFits : (us vs : List (Term Monomial)) → IsDescending (monomial_cmp ones) us
    → IsDescending (monomial_cmp ones) vs → ProductFits us vs
    → AllByRecursion (λ (t : Term Monomial). ProductsHaveRoom t.at vs) us
HasRoom-ProductFits [] vs h k fits = tt
HasRoom-ProductFits (t ∷ ts) [] h k fits =
    AllByRecursion-weaken (λ (u : Term Monomial). exponent_sum u.at ≤ exponent_sum t.at)
    (λ (u : Term Monomial). ProductsHaveRoom u.at []) (λ u below. tt) (t ∷ ts) (IsBoundedBy-lead t ts h)
HasRoom-ProductFits (t ∷ ts) (v ∷ vs) h k fits =
    AllByRecursion-weaken (λ (u : Term Monomial). exponent_sum u.at ≤ exponent_sum t.at)
    (λ (u : Term Monomial). ProductsHaveRoom u.at (v ∷ vs))
    (λ u below. HasRoom-MultipleFits u.at (v ∷ vs) k (omega arith)) (t ∷ ts) (IsBoundedBy-lead t ts h)

-- the same by the monomial of the greatest term
pub IsBoundedBy-monomial : (ts : List (Term Monomial)) (a : Monomial) (c d : ℕ) → IsDescending (monomial_cmp ones) ts
    → Some (a, c) ≡ lead ts → d ≡ exponent_sum a → IsBoundedBy d ts
IsBoundedBy-monomial [] a c d h is sum = cc
IsBoundedBy-monomial (t ∷ ts) a c d h is sum =
    let pair : (a, c) ≡ (t.at, t.coefficient) = cc in
    let same = ap (λ (q : Monomial × ℕ). q.0) pair in
    let whole : exponent_sum t.at ≡ d = sym (sum ∙ ap exponent_sum same) in
    subst (λ n. IsBoundedBy n (t ∷ ts)) whole (IsBoundedBy-lead t ts h)
