-- Monomials over the first variables without the last of these, and those that it divides.
use Rattle.std.proofs.Common.{◌≡◌, inr, ℕ, zero, suc, ◌<◌, ◌≤◌, List, [], ◌∷◌, drop, slice_index, refl, sym, ◌∙◌, ap, arith}
use Rattle.std.specs.declared.cmp.Ordering.TheVariants.{Less}
use Rattle.std.specs.Ordering.{ordering_reverse}
use Rattle.std.specs.List.{AllByRecursion}
use Rattle.sf_algebra.specs.Divisibility.{Divides}
use Rattle.sf_algebra.specs.Monomials.{Monomial, VARIABLES, exponents, one, product, variable, exponent_sum, monomial_degree, monomial_cmp}
use Rattle.sf_algebra.specs.Rings.{ones}
use Rattle.sf_algebra.proofs.Monomials.Divisors.{same_monomial}
use Rattle.sf_algebra.proofs.Monomials.OrderInWords.{monomial_cmp-Greater}
use Rattle.sf_algebra.proofs.Monomials.Orders.{monomial_cmp_total}
use Rattle.sf_algebra.proofs.Monomials.Weights.{degree_by_ones}
use Rattle.sf_variables.specs.Variables.{IsInVariables}

-- the exponent of the variable at a place
abbrev pub exponent : Monomial → ℕ → ℕ
exponent a i = slice_index (exponents a) i

-- a monomial of a degree over the first n variables
pub record IsOfDegree (d n : ℕ) (a : Monomial) : Type 0 where
  pub degree : exponent_sum a ≡ d
  pub variables : IsInVariables n a

-- a number past those that are dropped, where all others are 0
zero_after : (n j : ℕ) (es : List ℕ) → n ≤ j → AllByRecursion (λ e. e ≡ 0) (drop n es) → slice_index es j ≡ 0
zero_after zero zero [] from h = refl
zero_after zero zero (e ∷ es) from h = h.0
zero_after zero (suc j) [] from h = refl
zero_after zero (suc j) (e ∷ es) from h = zero_after zero j es (omega arith) h.1
zero_after (suc n) zero es from h = absurd (omega arith)
zero_after (suc n) (suc j) [] from h = refl
zero_after (suc n) (suc j) (e ∷ es) from h = zero_after n j es (omega arith) h

-- one number fewer dropped, which is 0
zero_before : (n : ℕ) (es : List ℕ) → slice_index es n ≡ 0 → AllByRecursion (λ e. e ≡ 0) (drop (suc n) es)
    → AllByRecursion (λ e. e ≡ 0) (drop n es)
zero_before zero [] here h = tt
zero_before zero (e ∷ es) here h = (here, h)
zero_before (suc n) [] here h = tt
zero_before (suc n) (e ∷ es) here h = zero_before n es here h

pub exponent-past : (n j : ℕ) (a : Monomial) → n ≤ j → IsInVariables n a → exponent a j ≡ 0
exponent-past n j a = zero_after n j (exponents a)

-- what lacks the last variable is over those before it
pub IsInVariables-fewer : (n : ℕ) (a : Monomial) → exponent a n ≡ 0 → IsInVariables (suc n) a → IsInVariables n a
IsInVariables-fewer n a = zero_before n (exponents a)

-- a variable divides each monomial in which it has an exponent
pub Divides-variable : (n : ℕ) (a : Monomial) → 0 < exponent a n → Divides (variable n) a
Divides-variable zero a h = (omega arith, omega arith, omega arith, omega arith, omega arith, omega arith)
Divides-variable (suc zero) a h = (omega arith, omega arith, omega arith, omega arith, omega arith, omega arith)
Divides-variable (suc (suc zero)) a h = (omega arith, omega arith, omega arith, omega arith, omega arith, omega arith)
Divides-variable (suc (suc (suc zero))) a h =
    (omega arith, omega arith, omega arith, omega arith, omega arith, omega arith)
Divides-variable (suc (suc (suc (suc zero)))) a h =
    (omega arith, omega arith, omega arith, omega arith, omega arith, omega arith)
Divides-variable (suc (suc (suc (suc (suc zero))))) a h =
    (omega arith, omega arith, omega arith, omega arith, omega arith, omega arith)
Divides-variable (suc (suc (suc (suc (suc (suc n)))))) a h = absurd (omega arith)

-- a multiple of a variable has an exponent in it
pub exponent-variable : (n : ℕ) → n < VARIABLES → (a : Monomial) → 0 < exponent (product a (variable n)) n
exponent-variable zero h a = omega arith
exponent-variable (suc zero) h a = omega arith
exponent-variable (suc (suc zero)) h a = omega arith
exponent-variable (suc (suc (suc zero))) h a = omega arith
exponent-variable (suc (suc (suc (suc zero)))) h a = omega arith
exponent-variable (suc (suc (suc (suc (suc zero))))) h a = omega arith
exponent-variable (suc (suc (suc (suc (suc (suc n)))))) h a = absurd (omega arith)

-- the monomial of degree 0
pub one_alone : (a : Monomial) → exponent_sum a ≡ 0 → a ≡ one
one_alone a h = same_monomial a one (omega arith) (omega arith) (omega arith) (omega arith) (omega arith) (omega arith)

-- over no variable there is no other
pub degree-none : (d : ℕ) (a : Monomial) → IsOfDegree (suc d) 0 a → ⊥
degree-none d a h = let v = h.variables in let s = h.degree in omega arith

-- in one degree, what lacks the last variable is greater than what has it
pub monomial_cmp-last : (n d : ℕ) → n < VARIABLES → (a b : Monomial) → IsOfDegree d n a → IsOfDegree d (suc n) b
    → 0 < exponent b n → monomial_cmp ones b a ≡ Less
monomial_cmp-last n d room a b h k has =
    let degrees : monomial_degree ones a ≡ monomial_degree ones b =
    sym (degree_by_ones a) ∙ h.degree ∙ sym k.degree ∙ degree_by_ones b in
    let lacks = exponent-past n n a (omega arith) h.variables in
    let smaller : exponent a n < exponent b n = omega arith in
    let greater = (monomial_cmp-Greater ones a b).1 (inr (
      degrees,
      (
        n,
        room,
        smaller,
        λ j after below. exponent-past n j a (omega arith) h.variables ∙ sym (exponent-past (suc n) j b after k.variables),
      ),
    )) in
    (monomial_cmp_total ones).antisymm b a ∙ ap ordering_reverse greater
