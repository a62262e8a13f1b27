-- What holds of multiples by terms of polynomials, in an order cmp of the places at which terms stand, on which the
-- monomials act. (Any textbook of algebra: the laws of a module.)
use Rattle.std.specs.Prelude.{◌≡◌, if◌then◌else◌, ℕ, ◌<◌, List, map}
use Rattle.std.specs.declared.cmp.Ordering.{Ordering}
use Rattle.std.specs.Ordering.{is_eq}
use Rattle.sf_algebra.specs.Monomials.{Monomial, one, product}
use Rattle.sf_algebra.specs.Multiples.{term_product, multiple, negative}
use Rattle.sf_algebra.specs.Primes.{IsPrime}
use Rattle.sf_algebra.specs.Residues.{sum_mod, negative_mod, product_mod}
use Rattle.sf_algebra.specs.Sums.{add, total, coefficient_at}
use Rattle.sf_algebra.specs.Terms.{Term, IsNonzeroResidue, IsCanonical}

-- a multiple is canonical
abbrev pub HasCanonicalMultiples : {K : Type 0} → (K → K → Ordering) → (Monomial → K → K) → Type 0
HasCanonicalMultiples {K} cmp act =
    (p : ℕ) → 0 < p → (s : Term Monomial) (us : List (Term K)) → IsCanonical cmp p (multiple cmp act p s us)

-- the coefficient of a multiple at k: the sum of the products of the coefficients, over the terms whose product stands
-- at k
abbrev pub MultipliesCoefficients : {K : Type 0} → (K → K → Ordering) → (Monomial → K → K) → Type 0
MultipliesCoefficients {K} cmp act =
    (p : ℕ) (s : Term Monomial) (us : List (Term K)) (k : K)
    → coefficient_at cmp p k (multiple cmp act p s us)
    ≡ total p (λ u. if is_eq (cmp (act s.at u.at) k) then product_mod p s.coefficient u.coefficient else 0) us

-- a canonical list times 1 is the list
abbrev pub KeepsWithOne : {K : Type 0} → (K → K → Ordering) → (Monomial → K → K) → Type 0
KeepsWithOne {K} cmp act =
    (p : ℕ) → 0 < p → (us : List (Term K)) → IsCanonical cmp p us → multiple cmp act p
    (record { at = one; coefficient = 1 }) us ≡ us

-- a multiple of a multiple is the multiple by the product
abbrev pub ActsByProducts : {K : Type 0} → (K → K → Ordering) → (Monomial → K → K) → Type 0
ActsByProducts {K} cmp act =
    (p : ℕ) → 0 < p → (s t : Term Monomial) (us : List (Term K))
    → multiple cmp act p s (multiple cmp act p t us) ≡ multiple cmp act p (term_product product p s t) us

-- a multiple of a sum is the sum of the multiples
abbrev pub TakesSumsToSums : {K : Type 0} → (K → K → Ordering) → (Monomial → K → K) → Type 0
TakesSumsToSums {K} cmp act =
    (p : ℕ) → 0 < p → (s : Term Monomial) (us vs : List (Term K))
    → multiple cmp act p s (add cmp p us vs) ≡ add cmp p (multiple cmp act p s us) (multiple cmp act p s vs)

-- a multiple by a sum of coefficients is the sum of the multiples
abbrev pub TakesSumsOfCoefficients : {K : Type 0} → (K → K → Ordering) → (Monomial → K → K) → Type 0
TakesSumsOfCoefficients {K} cmp act =
    (p : ℕ) → 0 < p → (a : Monomial) (x y : ℕ) (us : List (Term K))
    → multiple cmp act p (record { at = a; coefficient = sum_mod p x y }) us
    ≡ add cmp p (multiple cmp act p (record { at = a; coefficient = x }) us)
    (multiple cmp act p (record { at = a; coefficient = y }) us)

-- a canonical list times -1 is its negative
abbrev pub NegatesWithNegativeOne : {K : Type 0} → (K → K → Ordering) → (Monomial → K → K) → Type 0
NegatesWithNegativeOne {K} cmp act =
    (p : ℕ) → 0 < p → (us : List (Term K)) → IsCanonical cmp p us → multiple cmp act p
    (record { at = one; coefficient = negative_mod p 1 }) us ≡ negative p us

-- modulo a prime, a multiple by a term with a nonzero coefficient has the product with each term, in the same order
abbrev pub MultipliesEachTerm : {K : Type 0} → (K → K → Ordering) → (Monomial → K → K) → Type 0
MultipliesEachTerm {K} cmp act =
    (p : ℕ) → IsPrime p → (s : Term Monomial) → IsNonzeroResidue p s → (us : List (Term K)) → IsCanonical cmp p us
    → multiple cmp act p s us ≡ map (term_product act p s) us
