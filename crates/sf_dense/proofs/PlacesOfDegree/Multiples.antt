-- The list of the multiples of a place by all monomials of a degree, by its first variables and by its last one.
use Rattle.std.proofs.Common.{◌≡◌, ℕ, zero, suc, ◌+◌, ◌-◌, ◌<◌, List, [], ◌∷◌, ◌++◌, refl, sym, ◌∙◌, ap, append_assoc, arith}
use Rattle.sf_algebra.specs.Monomials.{Monomial, VARIABLES, product, variable, from_exponents, exponent_sum}
use Rattle.sf_algebra.specs.Multiples.{place_product}
use Rattle.sf_algebra.specs.Vectors.{Place}
use Rattle.sf_algebra.proofs.Monomials.Divisors.{same_monomial}
use Rattle.sf_algebra.proofs.Monomials.Places.{place_product-one, place_product-assoc}
use Rattle.sf_dense.specs.PlaceLists.{multiples_of}

-- no monomial over no variable has a degree above 0
pub multiples_of-none : (k : Place) (d n : ℕ) → n ≡ 0 → 0 < d → multiples_of k d n ≡ []
unfolding multiples_of
multiples_of-none k zero n h positive = absurd (omega arith)
multiples_of-none k (suc d) zero h positive = refl
multiples_of-none k (suc d) (suc n) h positive = absurd (omega arith)

-- one more of the first variable
power-suc : (d : ℕ) (k : Place)
    → place_product (from_exponents (d ∷ [])) (place_product (variable 0) k)
    ≡ place_product (from_exponents (suc d ∷ [])) k
power-suc d k =
    sym (place_product-assoc (from_exponents (d ∷ [])) (variable 0) k)
    ∙ ap (λ a. place_product a k)
    (same_monomial (product (from_exponents (d ∷ [])) (variable 0)) (from_exponents (suc d ∷ []))
    (omega arith) (omega arith) (omega arith) (omega arith) (omega arith) (omega arith))

multiples_of-first : (d : ℕ) (k : Place) → multiples_of k d 1 ≡ place_product (from_exponents (d ∷ [])) k ∷ []
unfolding multiples_of
multiples_of-first zero k = ap (λ l. l ∷ []) (sym (place_product-one k))
multiples_of-first (suc d) k =
    multiples_of-first d (place_product (variable 0) k) ∙ ap (λ l. l ∷ []) (power-suc d k)

-- over at most one variable they are one by a power of this variable
pub multiples_of-power : (k : Place) (d n : ℕ) → n < 2 → (n ≡ 0 → d ≡ 0)
    → multiples_of k d n ≡ place_product (from_exponents (d ∷ [])) k ∷ []
unfolding multiples_of
multiples_of-power k zero n h e = ap (λ l. l ∷ []) (sym (place_product-one k))
multiples_of-power k (suc d) zero h e = absurd (let z = e refl in omega arith)
multiples_of-power k (suc d) (suc zero) h e = multiples_of-first (suc d) k
multiples_of-power k (suc d) (suc (suc n)) h e = absurd (omega arith)

-- in degree 0 the place alone
pub multiples_of-itself : (k : Place) (d n : ℕ) → d ≡ 0
    → multiples_of k d n ≡ place_product (from_exponents (0 ∷ [])) k ∷ []
unfolding multiples_of
multiples_of-itself k zero n e = ap (λ l. l ∷ []) (sym (place_product-one k))
multiples_of-itself k (suc d) n e = absurd (omega arith)

-- those without the last variable, and then those with it
pub multiples_of-split : (k : Place) (d n : ℕ) → 0 < d → 0 < n
    → multiples_of k d n ≡ multiples_of k d (n - 1) ++ multiples_of (place_product (variable (n - 1)) k) (d - 1) n
unfolding multiples_of
multiples_of-split k zero n h l = absurd (omega arith)
multiples_of-split k (suc d) zero h l = absurd (omega arith)
multiples_of-split k (suc d) (suc n) h l =
    let before : n ≡ suc n - 1 = omega arith in
    let less : d ≡ suc d - 1 = omega arith in
    λ i. multiples_of k (suc d) (before i) ++ multiples_of (place_product (variable (before i)) k) (less i) (suc n)

-- a list to which those without the last variable are added
pub added-split : (old new : List Place) (k : Place) (d n : ℕ) → 0 < d → 0 < n → new ≡ old ++ multiples_of k d (n - 1)
    → new ++ multiples_of (place_product (variable (n - 1)) k) (d - 1) n ≡ old ++ multiples_of k d n
added-split old new k d n h l e =
    ap (λ xs. xs ++ multiples_of (place_product (variable (n - 1)) k) (d - 1) n) e
    ∙ append_assoc old _ _
    ∙ ap (λ xs. old ++ xs) (sym (multiples_of-split k d n h l))

-- a variable adds 1 to the sum of the exponents
pub exponent_sum-variable : (i : ℕ) → i < VARIABLES → (a : Monomial)
    → exponent_sum (product (variable i) a) ≡ exponent_sum a + 1
exponent_sum-variable zero h a = omega arith
exponent_sum-variable (suc zero) h a = omega arith
exponent_sum-variable (suc (suc zero)) h a = omega arith
exponent_sum-variable (suc (suc (suc zero))) h a = omega arith
exponent_sum-variable (suc (suc (suc (suc zero)))) h a = omega arith
exponent_sum-variable (suc (suc (suc (suc (suc zero))))) h a = omega arith
exponent_sum-variable (suc (suc (suc (suc (suc (suc i)))))) h a = absurd (omega arith)
