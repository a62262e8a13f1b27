-- Primes by trial division.
use Rattle.std.proofs.Common.{◌≡◌, ◌≢◌, ℕ, zero, suc, ◌+◌, ◌*◌, ◌/◌, ◌%◌, ◌<◌, ◌≤◌, Bool, true, not, ◌&&◌, ◌||◌, ◌==◌, inl, inr, sym, ◌∙◌, arith, eq-eqb, eqb-true}
use Rattle.std.proofs.Math.Nat.{div-add-mod, mul-le-mul, mul-mod_left}
use Rattle.std.proofs.lemmas.Bool.{and_parts, cases_eq, cases_lt, not-true, or_cases, true≢false}
use Rattle.sf_algebra.specs.Primes.{IsPrime}

-- whether no number from 2 to n + 1, save p itself, divides p
unfoldable pub no_factor : ℕ → ℕ → Bool
no_factor p zero = true
no_factor p (suc n) = (p == suc (suc n) || not (p % suc (suc n) == 0)) && no_factor p n

pub no_factor-at : (p n d : ℕ) → no_factor p n ≡ true → 1 < d → d < n + 2 → d < p → p % d ≢ 0
unfolding no_factor
no_factor-at p zero d tried above in_reach below divides = absurd (omega arith)
no_factor-at p (suc n) d tried above in_reach below divides =
    let parts : ((p == suc (suc n) || not (p % suc (suc n) == 0)) ≡ true) × (no_factor p n ≡ true) =
    and_parts _ _ tried in
    elim (cases_eq d (suc (suc n))) [
      | inl last ↦ elim (or_cases (p == suc (suc n)) (not (p % suc (suc n) == 0)) parts.0) [
        | inl itself ↦ absurd (omega (arith, eqb-true p (suc (suc n)) itself))
        | inr undivided ↦ true≢false (sym (eq-eqb (p % suc (suc n)) 0 (rw last at divides)) ∙ not-true _ undivided)
      ]
      | inr earlier ↦ no_factor-at p n d parts.1 above (omega arith) below divides
    ]

above_one-cofactor : (p d e : ℕ) → d * e ≡ p → 0 < p → d < p → 1 < e
above_one-cofactor p d zero whole positive below = absurd (omega arith)
above_one-cofactor p d (suc zero) whole positive below = absurd (omega arith)
above_one-cofactor p d (suc (suc e)) whole positive below = omega arith

-- a number is a prime if no number up to its root divides it
pub prime_from : (p n : ℕ) → 1 < p → no_factor p n ≡ true → p < (n + 2) * (n + 2) → IsPrime p
prime_from p n above tried small = record { above_one = above; undivided = undivided } where
  -- a divisor beyond the root has one below the root beside it
  beyond : (d e : ℕ) → d * e ≡ p → n + 2 ≤ d → d < p → ⊥
  beyond d e whole high below =
      let e_above : 1 < e = above_one-cofactor p d e whole (omega arith) below in
      let double : 2 * e ≤ d * e = mul-le-mul (omega arith) (omega arith) in
      elim (cases_lt e (n + 2)) [
        | inl low ↦ no_factor-at p n e tried e_above low (omega arith) (rw (← whole) (mul-mod_left d e))
        | inr wide ↦ let square : (n + 2) * (n + 2) ≤ d * e = mul-le-mul high wide in omega arith
      ]

  undivided : (d : ℕ) → 1 < d → d < p → p % d ≢ 0
  undivided d d_above d_below divides = elim (cases_lt d (n + 2)) [
    | inl low ↦ no_factor-at p n d tried d_above low d_below divides
    | inr high ↦ beyond d (p / d) (omega (arith, div-add-mod p d)) high d_below
  ]
