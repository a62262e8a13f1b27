use Rattle.std.proofs.Common.{◌≡◌, ℕ, ◌<◌, ◌≤◌, Bool, true, List, [], ◌∷◌, ◌==◌, inl, inr, subst, refl, arith, nat_lt, nat_le, eqb-true}
use Rattle.std.proofs.lemmas.Bool.{and_parts, leb-true, ltb-true, or_cases}
use Rattle.std.specs.List.{list_all, list_any}
use Rattle.sf_algebra.specs.Primes.{IsPrime}
use Rattle.sf_algebra.proofs.Arithmetic.Primes.{no_factor, prime_from}
use Rattle.sf_field.specs.Moduli.{moduli, is_modulus, EachModulus}

-- a test that each number of a list passes is passed by a number that the list has
pub test_from_list_all : (test : ℕ → Bool) (xs : List ℕ) (n : ℕ) → list_all test xs ≡ true
    → list_any (λ m. m == n) xs ≡ true → test n ≡ true
test_from_list_all test [] n all listed = cc
test_from_list_all test (x ∷ xs) n all listed =
    let parts : (test x ≡ true) × (list_all test xs ≡ true) = and_parts (test x) (list_all test xs) all in
    elim (or_cases (x == n) (list_any (λ m. m == n) xs) listed) [
      | inl here ↦ subst (λ m. test m ≡ true) (eqb-true x n here) parts.0
      | inr later ↦ test_from_list_all test xs n parts.1 later
    ]

pub test_from_moduli : (test : ℕ → Bool) → list_all test moduli ≡ true → EachModulus (λ p. test p ≡ true)
unfolding is_modulus
test_from_moduli test all p listed = test_from_list_all test moduli p all listed

pub modulus_above_one : EachModulus (λ p. 1 < p)
modulus_above_one p listed = ltb-true 1 p (test_from_moduli (nat_lt 1) refl p listed)

pub modulus_bounded : EachModulus (λ p. p ≤ 32003)
modulus_bounded p listed = leb-true p 32003 (test_from_moduli (λ n. nat_le n 32003) refl p listed)

-- 179 squared is above 32003
pub modulus_prime : EachModulus IsPrime
unfolding no_factor
modulus_prime p listed =
    prime_from p 177 (modulus_above_one p listed) (test_from_moduli (λ n. no_factor n 177) refl p listed)
    (omega (arith, modulus_bounded p listed))

-- what a program may rely on of a modulus
pub ruleset modulus_facts = (modulus_above_one, modulus_bounded, modulus_prime)
