-- The factors of a monomial and the terms of a polynomial, written one by one.
use Rattle.std.proofs.Common.{◌≡◌, ℕ, ◌+◌, ◌<◌, Bool, true, false, List, [], ◌∷◌, ◌++◌, Some, length, drop, eqb, refl, map, ltb, sym, ap, ◌∙◌, min, ◌≤◌, ◌≢◌, codes, arith}
use Rattle.std.specs.List.{slice_get}
use Rattle.std.proofs.lemmas.Bool.Decides.{nat_tests}
use Rattle.std.proofs.lemmas.List.{append-nil}
use Rattle.std.proofs.lemmas.Fmt.{decimal_digit}
use Rattle.std.specs.Fmt.{decimal}
use Rattle.sf_algebra.specs.Monomials.{Monomial, exponents, exponent_sum}
use Rattle.sf_algebra.specs.Printing.{factor_texts, power_text, term_text, polynomial_text, star, plus}
use Rattle.sf_algebra.specs.Terms.{Term}
use Rattle.sf_algebra.proofs.Basics.Factors.{factor_texts-power, factor_texts-end, factor_texts-one}
use Rattle.sf_text.specs.Joins.{separator_after, joined_after}
use Rattle.sf_text.proofs.JoinedItems.{written, written_all, joined_after-false}

-- what is left to write of the factors from variable i on
abbrev pub factors_from : Bool → List (List ℕ) → List ℕ → ℕ → List ℕ
factors_from follows names es i = joined_after follows star (factor_texts (drop i names) (drop i es))

module _ (follows : Bool) (names : List (List ℕ)) (es : List ℕ) (i : ℕ) (name : List ℕ) (e : ℕ)
    (read_name : slice_get names i ≡ Some name) (read_exponent : slice_get es i ≡ Some e) where
  pub factors_from-power : 0 < e
      → factors_from follows names es i
      ≡ separator_after follows star ++ power_text name e ++ factors_from true names es (i + 1)
  factors_from-power h = ap (joined_after follows star) (factor_texts-power names es i name e read_name read_exponent h)

  -- what is written and what is left make the whole text, before a power is written and behind it
  pub factors_from_more : (whole text next : List ℕ) → text ++ factors_from follows names es i ≡ whole → 0 < e
      → next ≡ text ++ separator_after follows star ++ power_text name e
      → next ++ factors_from true names es (i + 1) ≡ whole
  factors_from_more whole text next so_far h now =
      ap (λ t. t ++ factors_from true names es (i + 1)) now ∙ written text _ (power_text name e) _
      ∙ ap (λ t. text ++ t) (sym (factors_from-power h)) ∙ so_far

pub factors_from-end : (follows : Bool) (names : List (List ℕ)) (es : List ℕ) (i : ℕ)
    → min (length names) (length es) ≤ i → factors_from follows names es i ≡ []
factors_from-end follows names es i h = ap (joined_after follows star) (factor_texts-end names es i h)

module _ (names : List (List ℕ)) (a : Monomial) (c : ℕ) where
  -- a term with no coefficient
  pub term_text-bare : c ≡ 1 → 0 < exponent_sum a
      → term_text names (record { at = a; coefficient = c })
      ≡ joined_after false star (factor_texts names (exponents a))
  term_text-bare one some =
      let is_one : eqb c 1 ≡ true = grind (arith, nat_tests) in
      let has_factors : eqb (exponent_sum a) 0 ≡ false = grind (arith, nat_tests) in
      rw (is_one, has_factors) (sym (joined_after-false star (factor_texts names (exponents a))))

  -- a term with its coefficient
  pub term_text-coefficient : c ≢ 1
      → term_text names (record { at = a; coefficient = c })
      ≡ decimal c ++ joined_after true star (factor_texts names (exponents a))
  term_text-coefficient other =
      let is_other : eqb c 1 ≡ false = grind (arith, nat_tests) in
      rw is_other (sym (joined_after-false star (decimal c ∷ factor_texts names (exponents a))))

  -- the term 1
  pub term_text-one : c ≡ 1 → exponent_sum a ≡ 0
      → term_text names (record { at = a; coefficient = c })
      ≡ decimal c ++ joined_after true star (factor_texts names (exponents a))
  term_text-one one none =
      let is_one : eqb c 1 ≡ true = grind (arith, nat_tests) in
      let no_factors : eqb (exponent_sum a) 0 ≡ true = grind (arith, nat_tests) in
      let digit : codes "1" ≡ decimal c = sym (decimal_digit 1 (omega arith)) ∙ ap decimal (sym one) in
      rw (is_one, no_factors, factor_texts-one names a none) (digit ∙ sym (append-nil (decimal c)))

-- what is left to write of a polynomial, where some of its terms stand before or none does
abbrev pub polynomial_from : Bool → List (List ℕ) → List (Term Monomial) → List ℕ
polynomial_from false names ts = polynomial_text names ts
polynomial_from true names ts = joined_after true plus (map (term_text names) ts)

polynomial_from-cons : (follows : Bool) (names : List (List ℕ)) (t : Term Monomial) (ts : List (Term Monomial))
    → polynomial_from follows names (t ∷ ts)
    ≡ separator_after follows plus ++ term_text names t ++ polynomial_from true names ts
polynomial_from-cons false names t ts = sym (joined_after-false plus (map (term_text names) (t ∷ ts)))
polynomial_from-cons true names t ts = refl

module _ (names : List (List ℕ)) (start k : ℕ) where
  -- what is written and what is left make the whole text, before term k is written and behind it
  pub polynomial_from_more : (all ts : List (Term Monomial)) (t : Term Monomial) (whole text separated next : List ℕ)
      → start ≤ k → text ++ polynomial_from (ltb start k) names all ≡ whole → all ≡ t ∷ ts
      → separated ≡ text ++ separator_after (ltb start k) plus → next ≡ separated ++ term_text names t
      → next ++ polynomial_from (ltb start (k + 1)) names ts ≡ whole
  polynomial_from_more all ts t whole text separated next onward so_far first before now =
      let some : ltb start (k + 1) ≡ true = grind (arith, nat_tests) in
      ap (λ b. next ++ polynomial_from b names ts) some
      ∙ ap (λ u. u ++ polynomial_from true names ts) (now ∙ ap (λ u. u ++ term_text names t) before)
      ∙ written text _ (term_text names t) _
      ∙ ap (λ u. text ++ u)
      (sym (ap (polynomial_from (ltb start k) names) first ∙ polynomial_from-cons (ltb start k) names t ts)) ∙ so_far

  -- with no term left, the whole text is written, or with no term at all a 0 is left to write
  pub polynomial_from-written : (ts : List (Term Monomial)) (whole text : List ℕ) → start < k → ts ≡ []
      → text ++ polynomial_from (ltb start k) names ts ≡ whole → text ≡ whole
  polynomial_from-written ts whole text h none so_far =
      let some : ltb start k ≡ true = grind (arith, nat_tests) in
      written_all whole text _
      (ap (polynomial_from (ltb start k) names) none ∙ ap (λ b. polynomial_from b names []) some) so_far

  pub polynomial_from-zero : (ts : List (Term Monomial)) (whole text next : List ℕ) → k ≤ start → ts ≡ []
      → text ++ polynomial_from (ltb start k) names ts ≡ whole
      → next ≡ text ++ codes "0" → next ≡ whole
  polynomial_from-zero ts whole text next h none so_far now =
      let no : false ≡ ltb start k = grind (arith, nat_tests) in
      now ∙ ap (λ b. text ++ polynomial_from b names []) no
      ∙ ap (λ us. text ++ polynomial_from (ltb start k) names us) (sym none) ∙ so_far
