-- The printed factors of a monomial, one exponent after another.
use Rattle.std.proofs.Common.{◌≡◌, refl, ℕ, ◌+◌, ◌<◌, ◌≤◌, false, cond, eqb, List, [], ◌∷◌, Some, length, drop, ap, ◌∙◌, min, ⊎_elim, arith}
use Rattle.std.specs.List.{AllByRecursion, slice_get}
use Rattle.std.proofs.lemmas.List.{drop_all}
use Rattle.std.proofs.lemmas.Bool.{cases_lt}
use Rattle.std.proofs.lemmas.Bool.Decides.{nat_tests}
use Rattle.sf_algebra.specs.Monomials.{Monomial, exponents, exponent_sum}
use Rattle.sf_algebra.specs.Printing.{factor_texts, power_text}
use Rattle.sf_algebra.proofs.Basics.Drops.{drop-slice_get}

factor_texts-nil : (names : List (List ℕ)) → factor_texts names [] ≡ []
factor_texts-nil [] = refl
factor_texts-nil (name ∷ names) = refl

-- where the names or the exponents have ended
pub factor_texts-end : (names : List (List ℕ)) (es : List ℕ) (i : ℕ) → min (length names) (length es) ≤ i
    → factor_texts (drop i names) (drop i es) ≡ []
factor_texts-end names es i h =
    ⊎_elim
    (λ (more : i < length names). ap (factor_texts (drop i names)) (drop_all i es (omega arith)) ∙ factor_texts-nil (drop i names))
    (λ (all : length names ≤ i). ap (λ ns. factor_texts ns (drop i es)) (drop_all i names all))
    (cases_lt i (length names))

-- one factor, from a variable with an exponent other than 0 on
pub factor_texts-power : (names : List (List ℕ)) (es : List ℕ) (i : ℕ) (name : List ℕ) (e : ℕ)
    → slice_get names i ≡ Some name → slice_get es i ≡ Some e → 0 < e
    → factor_texts (drop i names) (drop i es) ≡ power_text name e ∷ factor_texts (drop (i + 1) names) (drop (i + 1) es)
factor_texts-power names es i name e read_name read_exponent h =
    let some : eqb e 0 ≡ false = grind (arith, nat_tests) in
    rw (drop-slice_get names i name read_name, drop-slice_get es i e read_exponent, some)

-- where all exponents are 0
pub factor_texts-zeros : (names : List (List ℕ)) (es : List ℕ) → AllByRecursion (λ e. e ≡ 0) es
    → factor_texts names es ≡ []
factor_texts-zeros [] es h = refl
factor_texts-zeros (name ∷ names) [] h = refl
factor_texts-zeros (name ∷ names) (e ∷ es) h =
    ap (λ k. cond (eqb k 0) (factor_texts names es) (power_text name k ∷ factor_texts names es)) h.0
    ∙ factor_texts-zeros names es h.1

pub factor_texts-one : (names : List (List ℕ)) (a : Monomial) → exponent_sum a ≡ 0
    → factor_texts names (exponents a) ≡ []
factor_texts-one names a h =
    factor_texts-zeros names (exponents a)
    (omega arith, (omega arith, (omega arith, (omega arith, (omega arith, (omega arith, tt))))))
