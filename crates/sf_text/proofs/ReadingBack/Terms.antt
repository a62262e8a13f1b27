-- The terms of a polynomial, as they are printed, read back.
use Rattle.std.proofs.Common.{◌≡◌, ◌⊎◌, ◌≢◌, inl, inr, ℕ, ◌^◌, ◌<◌, ◌≤◌, List, [], ◌∷◌, length, map, ◌==◌, if◌then◌else◌, nat_le, Bool, true, false, cond, Option, Some, codes, refl, sym, ap, subst, ◌∙◌, arith}
use Rattle.std.specs.Fmt.{decimal}
use Rattle.std.specs.List.{AllByRecursion, join_with_byte}
use Rattle.std.proofs.lemmas.Bool.Decides.{nat_tests}
use Rattle.sf_algebra.specs.Monomials.{Monomial, exponents, exponent_sum}
use Rattle.sf_algebra.specs.Printing.{factor_texts, term_text, polynomial_text, star, plus}
use Rattle.sf_algebra.specs.Terms.{Term}
use Rattle.sf_algebra.proofs.Basics.Lists.{AllByRecursion-weaken}
use Rattle.sf_text.specs.MatrixText.{minus, all_of, factor_written, with_factors, term_of_parts, term_written, entry_of}
use Rattle.sf_text.specs.Raw.{RawTerm}
use Rattle.sf_text.specs.ReadingBack.{IsWritableMonomial}
use Rattle.sf_grammar.specs.Words.{begins_with, is_number}
use Rattle.sf_text.proofs.ReadingBack.Joined.{joined-each, each-weaken, Lacks, parts-joined, signed_parts-joined}
use Rattle.sf_text.proofs.ReadingBack.Numbers.{decimal-each, are_digits-decimal, number_value-decimal}
use Rattle.sf_text.proofs.ReadingBack.Factors.{AreNames, IsFactorByte, raw_factors, factors-read, factor_texts-each, factor_texts-names, factor_texts-none, length-raw_factors}

-- a term of at most six factors
abbrev pub raw_of : ℕ → List (List ℕ × ℕ) → RawTerm
raw_of c factors = record { minus = false; coefficient = c; factors = factors }

module _ (texts : List (List ℕ)) (factors : List (List ℕ × ℕ)) (read : all_of factor_written texts ≡ Some factors)
    (few : length factors ≤ 6) where
  with_factors-read : (c : ℕ) → with_factors false c texts ≡ Some (raw_of c factors)
  with_factors-read c = let fits : nat_le (length factors) 6 ≡ true = grind (arith, nat_tests) in rw (read, fits)

  term_of-number : (c : ℕ) → c < 10 ^ 18 → term_of_parts false (decimal c ∷ texts) ≡ Some (raw_of c factors)
  term_of-number c h =
      let digits = are_digits-decimal 18 c (omega arith) h (omega arith) in
      rw (digits, number_value-decimal c (omega arith)) (with_factors-read c)

term_of-factors : (text : List ℕ) (texts : List (List ℕ)) (factors : List (List ℕ × ℕ)) → is_number text ≡ false
    → all_of factor_written (text ∷ texts) ≡ Some factors → length factors ≤ 6
    → term_of_parts false (text ∷ texts) ≡ Some (raw_of 1 factors)
term_of-factors text texts factors named read few = rw named (with_factors-read (text ∷ texts) factors read few 1)

-- texts joined by stars mean the term that they mean one by one
term_written-joined : (texts : List (List ℕ)) (t : RawTerm) → AllByRecursion (Lacks star) texts
    → term_of_parts false texts ≡ Some t → term_written (false, join_with_byte star texts) ≡ Some t
term_written-joined [] t h e = cc
term_written-joined (x ∷ xs) t h e = ap (term_of_parts false) (parts-joined star x xs h) ∙ e

raw_factors-zeros : (names : List (List ℕ)) (es : List ℕ) → AllByRecursion (λ e. e ≡ 0) es → raw_factors names es ≡ []
raw_factors-zeros [] es h = refl
raw_factors-zeros (name ∷ names) [] h = refl
raw_factors-zeros (name ∷ names) (e ∷ es) h =
    ap (λ k. cond (k == 0) (raw_factors names es) ((name, k) ∷ raw_factors names es)) h.0 ∙ raw_factors-zeros names es h.1

exponents-zeros : (a : Monomial) → exponent_sum a ≡ 0 → AllByRecursion (λ e. e ≡ 0) (exponents a)
exponents-zeros a h = (omega arith, (omega arith, (omega arith, (omega arith, (omega arith, (omega arith, tt))))))

exponent_sum-zeros : (a : Monomial) → AllByRecursion (λ e. e ≡ 0) (exponents a) → exponent_sum a ≡ 0
exponent_sum-zeros a h = omega (arith, h.0, h.1.0, h.1.1.0, h.1.1.1.0, h.1.1.1.1.0, h.1.1.1.1.1.0)

-- the texts that are joined to that of a term
abbrev term_texts : List (List ℕ) → ℕ → Monomial → List (List ℕ)
term_texts names c a =
    let factors = factor_texts names (exponents a) in
    if c == 1 then (if exponent_sum a == 0 then codes "1" ∷ [] else factors) else decimal c ∷ factors

abbrev pub raw_term : List (List ℕ) → Term Monomial → RawTerm
raw_term names t = raw_of t.coefficient (raw_factors names (exponents t.at))

-- a byte of a term
abbrev pub IsTermByte : ℕ → Type 0
IsTermByte b = IsFactorByte b ⊎ (b ≡ star)

module _ (names : List (List ℕ)) (few : length names ≤ 6) (named : AreNames names) (a : Monomial)
    (writable : IsWritableMonomial names a) (c : ℕ) (small : c < 10 ^ 18) where
  factors_fit : length (raw_factors names (exponents a)) ≤ 6
  factors_fit = omega (arith, length-raw_factors names (exponents a))

  factors_read : all_of factor_written (factor_texts names (exponents a)) ≡ Some (raw_factors names (exponents a))
  factors_read = factors-read names (exponents a) named writable.small

  term_of-bare : (texts : List (List ℕ)) → factor_texts names (exponents a) ≡ texts → exponent_sum a ≢ 0
      → term_of_parts false texts ≡ Some (raw_of 1 (raw_factors names (exponents a)))
  term_of-bare [] is some =
      absurd (some (exponent_sum-zeros a (factor_texts-none names (exponents a) is writable.known)))
  term_of-bare (text ∷ texts) is some =
      term_of-factors text texts (raw_factors names (exponents a))
      (subst (AllByRecursion (λ t. is_number t ≡ false)) is (factor_texts-names names (exponents a) named)).0
      (sym (ap (all_of factor_written) is) ∙ factors_read) factors_fit

  term_of-texts : term_of_parts false (term_texts names c a) ≡ Some (raw_of c (raw_factors names (exponents a)))
  term_of-texts = by (c == 1) (exponent_sum a == 0) refl refl
    where
      by : (s t : Bool) → (c == 1) ≡ s → (exponent_sum a == 0) ≡ t
          → term_of_parts false
          (cond s (cond t (codes "1" ∷ []) (factor_texts names (exponents a))) (decimal c ∷ factor_texts names (exponents a)))
          ≡ Some (raw_of c (raw_factors names (exponents a)))
      by true true one none =
          let is : 1 ≡ c = grind (arith, nat_tests) in
          let zero : exponent_sum a ≡ 0 = grind (arith, nat_tests) in
          (λ i. Some (raw_of (is i) (sym (raw_factors-zeros names (exponents a) (exponents-zeros a zero)) i)))
      by true false one some =
          let is : 1 ≡ c = grind (arith, nat_tests) in
          let other : exponent_sum a ≢ 0 = λ e. grind (arith, nat_tests) in
          term_of-bare (factor_texts names (exponents a)) refl other
          ∙ ap (λ n. Some (raw_of n (raw_factors names (exponents a)))) is
      by false t other sum =
          term_of-number (factor_texts names (exponents a)) (raw_factors names (exponents a)) factors_read
          factors_fit c small

  term_texts-each : AllByRecursion (AllByRecursion IsFactorByte) (term_texts names c a)
  term_texts-each =
      by (c == 1) (exponent_sum a == 0) (factor_texts-each names (exponents a) named writable.small)
    where
      by : (s t : Bool) → AllByRecursion (AllByRecursion IsFactorByte) (factor_texts names (exponents a))
          → AllByRecursion (AllByRecursion IsFactorByte)
          (cond s (cond t (codes "1" ∷ []) (factor_texts names (exponents a))) (decimal c ∷ factor_texts names (exponents a)))
      by true true factors = (((omega arith, λ is. omega arith, λ is. omega arith), tt), tt)
      by true false factors = factors
      by false t factors =
          let bytes = decimal-each c (omega arith) in
          (AllByRecursion-weaken _ _ (λ b h. (h.0, λ is. omega (arith, h.1), λ is. omega (arith, h.1))) (decimal c) bytes, factors)

  term_written-text : term_written (false, term_text names (record { at = a; coefficient = c }))
      ≡ Some (raw_term names (record { at = a; coefficient = c }))
  term_written-text =
      term_written-joined (term_texts names c a) _
      (each-weaken _ _ (λ b h is. omega (arith, h.0)) (term_texts names c a) term_texts-each)
      term_of-texts

  term_text-each : AllByRecursion IsTermByte (term_text names (record { at = a; coefficient = c }))
  term_text-each =
      joined-each IsTermByte star (inr refl) (term_texts names c a)
      (each-weaken _ _ (λ b h. inl h) (term_texts names c a) term_texts-each)

-- each element is read as what it is made of
pub all_of-map : {X Y Z : Type 0} (read : X → Option Y) (f : Z → X) (g : Z → Y) (zs : List Z)
    → AllByRecursion (λ z. read (f z) ≡ Some (g z)) zs → all_of read (map f zs) ≡ Some (map g zs)
all_of-map read f g [] h = refl
all_of-map read f g (z ∷ zs) h = rw (h.0, all_of-map read f g zs h.1)

-- a term of a polynomial that the grammar can write
abbrev pub IsWritableTerm : List (List ℕ) → Term Monomial → Type 0
IsWritableTerm names t = IsWritableMonomial names t.at × (t.coefficient < 10 ^ 18)

-- what is read of an entry: where it is 0, a term with the coefficient 0
abbrev pub raw_entry : List (List ℕ) → List (Term Monomial) → List RawTerm
raw_entry names [] = raw_of 0 [] ∷ []
raw_entry names (t ∷ ts) = map (raw_term names) (t ∷ ts)

-- a byte of an entry
abbrev pub IsEntryByte : ℕ → Type 0
IsEntryByte b = IsTermByte b ⊎ (b ≡ plus)

begins_with-other : (text : List ℕ) → Lacks minus text → begins_with minus text ≡ false
begins_with-other [] h = refl
begins_with-other (b ∷ bs) h = let other = h.0 in grind (arith, nat_tests)

module _ (names : List (List ℕ)) (few : length names ≤ 6) (named : AreNames names) where
  terms-each : (ts : List (Term Monomial)) → AllByRecursion (IsWritableTerm names) ts
      → AllByRecursion (AllByRecursion IsTermByte) (map (term_text names) ts)
  terms-each [] h = tt
  terms-each (t ∷ ts) h = (term_text-each names few named t.at h.0.0 t.coefficient h.0.1, terms-each ts h.1)

  terms-read : (ts : List (Term Monomial)) → AllByRecursion (IsWritableTerm names) ts
      → all_of term_written (map (λ text. (false, text)) (map (term_text names) ts)) ≡ Some (map (raw_term names) ts)
  terms-read [] h = refl
  terms-read (t ∷ ts) h = rw (term_written-text names few named t.at h.0.0 t.coefficient h.0.1, terms-read ts h.1)

  pub polynomial_text-each : (ts : List (Term Monomial)) → AllByRecursion (IsWritableTerm names) ts
      → AllByRecursion IsEntryByte (polynomial_text names ts)
  polynomial_text-each [] h = (inl (inl (omega arith, λ is. omega arith, λ is. omega arith)), tt)
  polynomial_text-each (t ∷ ts) h =
      joined-each IsEntryByte plus (inr refl) (map (term_text names) (t ∷ ts))
      (each-weaken _ _ (λ b k. inl k) (map (term_text names) (t ∷ ts)) (terms-each (t ∷ ts) h))

  pub entry_of-polynomial : (ts : List (Term Monomial)) → AllByRecursion (IsWritableTerm names) ts
      → entry_of (polynomial_text names ts) ≡ Some (raw_entry names ts)
  entry_of-polynomial [] h = refl
  entry_of-polynomial (t ∷ ts) h =
      let no_minus =
      begins_with-other (polynomial_text names (t ∷ ts))
      (AllByRecursion-weaken _ _ (λ b k is. omega arith) (polynomial_text names (t ∷ ts)) (polynomial_text-each (t ∷ ts) h)) in
      let signed =
      signed_parts-joined (term_text names t) (map (term_text names) ts)
      (each-weaken _ _ (λ b k. (λ is. omega arith, λ is. omega arith)) (map (term_text names) (t ∷ ts)) (terms-each (t ∷ ts) h)) in
      rw (no_minus, signed) (terms-read (t ∷ ts) h)
