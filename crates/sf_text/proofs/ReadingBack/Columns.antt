-- The terms that are read of a row's entries, one column after another, mean the row.
use Rattle.std.proofs.Common.{◌≡◌, ℕ, zero, suc, ◌+◌, ◌<◌, ◌≤◌, List, [], ◌∷◌, ◌++◌, length, map, drop, ⊎_elim, refl, sym, ap, ◌∙◌, arith}
use Rattle.std.specs.declared.cmp.Ordering.{Ordering}
use Rattle.std.specs.List.{AllByRecursion, IsDistinct}
use Rattle.std.specs.Str.{bytes_eq}
use Rattle.std.proofs.lemmas.Bool.{cases_lt}
use Rattle.std.proofs.Math.Nat.{zero-mod}
use Rattle.sf_algebra.specs.Monomials.{Monomial, exponents}
use Rattle.sf_algebra.specs.Orders.{IsLinearOrder}
use Rattle.sf_algebra.specs.Residues.{sum_mod}
use Rattle.sf_algebra.specs.Rings.{ones}
use Rattle.sf_algebra.specs.Sums.{insert, normal, total}
use Rattle.sf_algebra.specs.Terms.{Term, IsDescending, IsCanonical}
use Rattle.sf_algebra.specs.Vectors.{Place, place_cmp, entry}
use Rattle.sf_algebra.proofs.Arithmetic.Residues.{sum_mod-first, sum_mod-zero_first}
use Rattle.sf_algebra.proofs.Basics.Lists.{AllByRecursion-weaken}
use Rattle.sf_algebra.proofs.Monomials.Orders.{place_cmp_linear}
use Rattle.sf_algebra.proofs.Terms.Coefficients.{same_from_total}
use Rattle.sf_algebra.proofs.Terms.Normal.{IsCanonical-normal}
use Rattle.sf_algebra.proofs.Terms.Sums.{normal-canonical}
use Rattle.sf_algebra.proofs.Terms.Totals.{total-cons, total-normal, total-reduced}
use Rattle.sf_algebra.proofs.Vectors.Entries.{without_position, entry-here, entry-elsewhere, entry-past, IsDescending-positions}
use Rattle.sf_text.specs.Placed.{monomial_of, placed_term, placed_terms}
use Rattle.sf_text.specs.declared.ring.Ring.{Ring}
use Rattle.sf_text.proofs.ReadingBack.Exponents.{at_column, placed_term-raw}
use Rattle.sf_text.proofs.ReadingBack.Rows.{entry-each, raw_entries}
use Rattle.sf_text.proofs.ReadingBack.Terms.{raw_term, raw_entry}

-- the terms at a column and at those behind it, so many columns
abbrev pub terms_from : ℕ → ℕ → List (Term Place) → List (Term Place)
terms_from column zero ts = []
terms_from column (suc n) ts = map (at_column column) (entry column ts) ++ terms_from (column + 1) n ts

-- each term stands at one of so many columns
abbrev pub IsWithin : ℕ → ℕ → List (Term Place) → Type 0
IsWithin column n ts = AllByRecursion (λ t. (column ≤ t.at.position) × (t.at.position < column + n)) ts

terms_from-nil : (column n : ℕ) → terms_from column n [] ≡ []
terms_from-nil column zero = refl
terms_from-nil column (suc n) = terms_from-nil (column + 1) n

-- a term at an earlier column
terms_from-past : (column n : ℕ) (t : Term Place) (ts : List (Term Place)) → t.at.position < column
    → terms_from column n (t ∷ ts) ≡ terms_from column n ts
terms_from-past column zero t ts h = refl
terms_from-past column (suc n) t ts h =
    let here = entry-elsewhere column t ts (λ e. omega arith) in
    let later = terms_from-past (column + 1) n t ts (omega arith) in
    (λ i. map (at_column column) (here i) ++ later i)

module _ (column n : ℕ)
    (others : (us : List (Term Place)) → IsDescending (place_cmp ones) us → IsWithin (column + 1) n us
    → terms_from (column + 1) n us ≡ us) where
  first_column : (ts : List (Term Place)) → IsDescending (place_cmp ones) ts → IsWithin column (suc n) ts
      → terms_from column (suc n) ts ≡ ts
  first_column [] d h = terms_from-nil column (suc n)
  first_column (t ∷ ts) d h =
      ⊎_elim
      (λ (later : column < t.at.position).
      let past : AllByRecursion (λ u. column + 1 ≤ u.at.position) (t ∷ ts) =
      (omega arith, AllByRecursion-weaken _ _ (λ u e. omega arith) ts (IsDescending-positions ones t ts d)) in
      (λ i. map (at_column column) (entry-past column (t ∷ ts) past i) ++ others (t ∷ ts) d (within (t ∷ ts) past h) i))
      (λ (at : t.at.position ≤ column).
      let here : t.at.position ≡ column = omega (arith, h.0) in
      let same : at_column column (without_position t) ≡ t =
      (λ i. record { at = record { position = sym here i; monomial = t.at.monomial }; coefficient = t.coefficient }) in
      (λ i. map (at_column column) (entry-here column t ts here i) ++ terms_from-past (column + 1) n t ts (omega arith) i)
      ∙ (λ i. same i ∷ first_column ts d.1 h.1 i))
      (cases_lt column t.at.position)
    where
      within : (us : List (Term Place)) → AllByRecursion (λ u. column + 1 ≤ u.at.position) us → IsWithin column (suc n) us
          → IsWithin (column + 1) n us
      within [] past h = tt
      within (u ∷ us) past h = ((past.0, omega (arith, h.0)), within us past.1 h.1)

-- the entries one after another are the row
terms_from-all : (column n : ℕ) (ts : List (Term Place)) → IsDescending (place_cmp ones) ts → IsWithin column n ts
    → terms_from column n ts ≡ ts
terms_from-all column zero [] d h = refl
terms_from-all column zero (t ∷ ts) d h = absurd (omega (arith, h.0))
terms_from-all column (suc n) ts d h =
    first_column column n (λ us. terms_from-all (column + 1) n us) ts d h

module _ {K : Type 0} (cmp : K → K → Ordering) (p : ℕ) where
  normal-front : (xs ys zs : List (Term K)) → normal cmp p ys ≡ normal cmp p zs
      → normal cmp p (xs ++ ys) ≡ normal cmp p (xs ++ zs)
  unfolding normal
  normal-front [] ys zs e = e
  normal-front (x ∷ xs) ys zs e = ap (insert cmp p x) (normal-front xs ys zs e)

  -- a term with the coefficient 0
  normal-zero : IsLinearOrder cmp → 0 < p → (k : K) (ts : List (Term K))
      → normal cmp p (record { at = k; coefficient = 0 } ∷ ts) ≡ normal cmp p ts
  normal-zero order positive k ts =
      same_from_total cmp order p positive _ _ (IsCanonical-normal cmp order p positive _)
      (IsCanonical-normal cmp order p positive ts)
      (λ g additive.
      total-normal cmp order p g additive (record { at = k; coefficient = 0 } ∷ ts)
      ∙ total-cons p g (record { at = k; coefficient = 0 }) ts
      ∙ sym (sum_mod-first p (g (record { at = k; coefficient = 0 })) (total p g ts))
      ∙ ap (λ n. sum_mod p n (total p g ts)) (additive.at_zero k)
      ∙ sum_mod-zero_first p (total p g ts) ∙ total-reduced p g ts ∙ sym (total-normal cmp order p g additive ts))

-- a term that is read as itself: no exponents past the names, and a residue
abbrev pub IsReadTerm : Ring → Term Monomial → Type 0
IsReadTerm ring t =
    AllByRecursion (λ e. e ≡ 0) (drop (length ring.names) (exponents t.at)) × (t.coefficient < ring.modulus)

module _ (ring : Ring) (positive : 0 < ring.modulus) (few : length ring.names ≤ 6)
    (distinct : IsDistinct bytes_eq ring.names) where
  entry-placed : (column : ℕ) (ts : List (Term Monomial)) → AllByRecursion (IsReadTerm ring) ts
      → map (placed_term ring column) (map (raw_term ring.names) ts) ≡ map (at_column column) ts
  entry-placed column [] h = refl
  entry-placed column (t ∷ ts) h =
      (λ i. placed_term-raw ring column t distinct few h.0.0 h.0.1 i ∷ entry-placed column ts h.1 i)

  placed_terms-read : (column n : ℕ) (ts : List (Term Place)) → AllByRecursion (λ t. IsReadTerm ring (without_position t)) ts
      → normal (place_cmp ones) ring.modulus (placed_terms ring column (raw_entries ring.names column n ts))
      ≡ normal (place_cmp ones) ring.modulus (terms_from column n ts)
  placed_terms-read column zero ts h = refl
  placed_terms-read column (suc n) ts h =
      by (entry column ts) (entry-each (IsReadTerm ring) column ts h)
      (placed_terms ring (column + 1) (raw_entries ring.names (column + 1) n ts)) (terms_from (column + 1) n ts)
      (placed_terms-read (column + 1) n ts h)
    where
      by : (es : List (Term Monomial)) → AllByRecursion (IsReadTerm ring) es → (us vs : List (Term Place))
          → normal (place_cmp ones) ring.modulus us ≡ normal (place_cmp ones) ring.modulus vs
          → normal (place_cmp ones) ring.modulus (map (placed_term ring column) (raw_entry ring.names es) ++ us)
          ≡ normal (place_cmp ones) ring.modulus (map (at_column column) es ++ vs)
      by [] each us vs e =
          let at : Place = record { position = column; monomial = monomial_of ring.names [] } in
          ap (λ c. normal (place_cmp ones) ring.modulus (record { at = at; coefficient = c } ∷ us)) (zero-mod ring.modulus)
          ∙ normal-zero (place_cmp ones) ring.modulus (place_cmp_linear ones) positive at us ∙ e
      by (t ∷ es) each us vs e =
          ap (λ xs. normal (place_cmp ones) ring.modulus (xs ++ us)) (entry-placed column (t ∷ es) each)
          ∙ normal-front (place_cmp ones) ring.modulus (map (at_column column) (t ∷ es)) us vs e

  -- a canonical row over so many columns is read as itself
  pub row-read : (n : ℕ) (ts : List (Term Place)) → IsCanonical (place_cmp ones) ring.modulus ts
      → AllByRecursion (λ t. IsReadTerm ring (without_position t)) ts → IsWithin 0 n ts
      → normal (place_cmp ones) ring.modulus (placed_terms ring 0 (raw_entries ring.names 0 n ts)) ≡ ts
  row-read n ts canonical each within =
      placed_terms-read 0 n ts each
      ∙ ap (normal (place_cmp ones) ring.modulus) (terms_from-all 0 n ts canonical.descending within)
      ∙ normal-canonical (place_cmp ones) (place_cmp_linear ones) ring.modulus positive ts canonical
