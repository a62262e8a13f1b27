-- The monomial and the coefficient that a written term means.
use Rattle.std.proofs.Common.{◌≡◌, ◌≢◌, ℕ, suc, ◌+◌, ◌*◌, ◌<◌, ◌≤◌, if◌then◌else◌, Bool, true, false, List, [], ◌∷◌, length, map, drop, get_or, set, sum, get_or-set_same, get_or-set_other, length-set, below_more, sym, ◌∙◌, ap, arith, ⊎_elim}
use Rattle.std.specs.List.{AllByRecursion}
use Rattle.std.specs.Str.{bytes_eq}
use Rattle.std.proofs.lemmas.Bool.{cases_lt}
use Rattle.std.proofs.lemmas.List.{get_or_past, get_or-map, get_or_read, length-map}
use Rattle.std.proofs.lemmas.List.Sums.{sum_by-cons, sum_by-drop_more}
use Rattle.sf_algebra.specs.Monomials.{exponent_sum, from_exponents}
use Rattle.sf_text.specs.Placed.{GREATEST_WRITTEN_SUM, exponent_in, monomial_of}

-- factors with exponents of at most three digits
abbrev pub HasSmallExponents : List (List ℕ × ℕ) → Type 0
HasSmallExponents factors = AllByRecursion (λ (f : List ℕ × ℕ). f.1 ≤ 999) factors

chosen-le : (b : Bool) (e : ℕ) → e ≤ 999 → (if b then e else 0) ≤ 999
chosen-le true e h = h
chosen-le false e h = omega arith

-- the sum of at most that many exponents
pub exponent_in-le : (factors : List (List ℕ × ℕ)) (name : List ℕ) → HasSmallExponents factors
    → exponent_in factors name ≤ length factors * 999
exponent_in-le [] name h = omega arith
exponent_in-le (f ∷ fs) name h =
    omega (arith, sum_by-cons (λ (g : List ℕ × ℕ). if bytes_eq g.0 name then g.1 else 0) f fs, chosen-le (bytes_eq f.0 name) f.1 h.0, exponent_in-le fs name h.1)

-- one factor more
pub exponent_in-drop : (factors : List (List ℕ × ℕ)) (name : List ℕ) (i : ℕ) (d : List ℕ × ℕ) → i < length factors
    → exponent_in (drop i factors) name
    ≡ (if bytes_eq (get_or factors i d).0 name then (get_or factors i d).1 else 0) + exponent_in
    (drop (i + 1) factors) name
exponent_in-drop factors name i d h =
    sum_by-drop_more (λ (g : List ℕ × ℕ). if bytes_eq g.0 name then g.1 else 0) factors i d h

-- the exponents before a factor and its own are within the bound
pub exponent_in-fits : (factors : List (List ℕ × ℕ)) (name : List ℕ) (i : ℕ) (f : List ℕ × ℕ) (before : ℕ)
    → length factors ≤ 6 → HasSmallExponents factors
    → before + exponent_in (drop i factors) name ≡ exponent_in factors name → i < length factors
    → f ≡ get_or factors i f → bytes_eq f.0 name ≡ true → before + f.1 ≤ 5994
exponent_in-fits factors name i f before few small sum h is named =
    let whole = exponent_in-le factors name small in
    let more = exponent_in-drop factors name i f h in
    let here = sym (ap (λ (g : List ℕ × ℕ). if bytes_eq g.0 name then g.1 else 0) is) in
    let chosen = ap (λ b. if b then f.1 else 0) named in
    omega (arith, whole, more, here, chosen)

-- six exponents, of which those before this place are the variables' and the others are 0
pub record AreExponents (factors : List (List ℕ × ℕ)) (names : List (List ℕ)) (place : ℕ)
    (exponents : List ℕ) : Type 0 where
  pub size : length exponents ≡ 6
  pub before : (k : ℕ) → k < place → get_or exponents k 0 ≡ exponent_in factors (get_or names k [])
  pub behind : (k : ℕ) → place ≤ k → get_or exponents k 0 ≡ 0

module _ (factors : List (List ℕ × ℕ)) (names : List (List ℕ)) (place : ℕ) (exponents : List ℕ)
    (h : AreExponents factors names place exponents) where
  pub AreExponents_more : (name : List ℕ) → place < length names → length names ≤ 6 → name ≡ get_or names place name
      → AreExponents factors names (place + 1) (set exponents place (exponent_in factors name))
  AreExponents_more name next few is = record {
    size = length-set exponents place (exponent_in factors name) ∙ h.size;
    before =
        below_more _ _
        (λ k l. let other : k ≢ place = omega arith in rw get_or-set_other (h.before k l))
        (let room : place < length exponents = omega (arith, h.size) in rw get_or-set_same (ap (exponent_in factors) (get_or_read names place name next is [])));
    behind = λ k l. let other : k ≢ place = omega arith in rw get_or-set_other (h.behind k (omega arith));
  }

  pub AreExponents-same : length names ≡ place → (k : ℕ)
      → get_or exponents k 0 ≡ get_or (map (exponent_in factors) names) k 0
  AreExponents-same all k =
      ⊎_elim
      (λ (l : k < place). h.before k l ∙ sym (get_or-map (exponent_in factors) names k [] 0 (omega arith)))
      (λ (l : place ≤ k). h.behind k l ∙ sym (get_or_past (map (exponent_in factors) names) k 0 (rw length-map (omega arith))))
      (cases_lt k place)

  pub AreExponents-le : length factors ≤ 6 → HasSmallExponents factors → (k : ℕ) → get_or exponents k 0 ≤ 5994
  AreExponents-le few small k =
      ⊎_elim
      (λ (l : k < place). omega (arith, h.before k l, exponent_in-le factors (get_or names k []) small))
      (λ (l : place ≤ k). omega (arith, h.behind k l))
      (cases_lt k place)

-- a monomial by each of its exponents
pub from_exponents-same : (es fs : List ℕ) → ((k : ℕ) → get_or es k 0 ≡ get_or fs k 0)
    → from_exponents es ≡ from_exponents fs
from_exponents-same es fs h = λ i. record { e1 = h 0 i; e2 = h 1 i; e3 = h 2 i; e4 = h 3 i; e5 = h 4 i; e6 = h 5 i }

sum_le : (es : List ℕ) (most : ℕ) → ((k : ℕ) → get_or es k 0 ≤ most) → sum es ≤ length es * most
sum_le [] most h = omega arith
sum_le (e ∷ es) most h = let rest : sum es ≤ length es * most = sum_le es most (λ k. h (suc k)) in omega (arith, sum_by-cons (λ (x : ℕ). x) e es, h 0, rest)

module _ (factors : List (List ℕ × ℕ)) (names : List (List ℕ)) (place : ℕ) (exponents : List ℕ)
    (h : AreExponents factors names place exponents) where
  -- the exponents of some factors fit a monomial
  pub AreExponents-fit : length factors ≤ 6 → HasSmallExponents factors → sum exponents ≤ 65535
  AreExponents-fit few small =
      omega (arith, sum_le exponents 5994 (AreExponents-le factors names place exponents h few small), h.size)

  pub AreExponents-small : length factors ≤ 6 → HasSmallExponents factors
      → exponent_sum (from_exponents exponents) ≤ GREATEST_WRITTEN_SUM
  AreExponents-small few small =
      let le : (k : ℕ) → get_or exponents k 0 ≤ 5994 = AreExponents-le factors names place exponents h few small in
      six _ _ _ _ _ _ (le 0) (le 1) (le 2) (le 3) (le 4) (le 5)
    where
      six : (a b c d e f : ℕ) → a ≤ 5994 → b ≤ 5994 → c ≤ 5994 → d ≤ 5994 → e ≤ 5994 → f ≤ 5994
          → a + b + c + d + e + f ≤ GREATEST_WRITTEN_SUM
      six a b c d e f ha hb hc hd he hf = omega arith

  -- and at the end they are those of the factors' product
  pub AreExponents-monomial : length names ≡ place → from_exponents exponents ≡ monomial_of names factors
  AreExponents-monomial all =
      from_exponents-same exponents (map (exponent_in factors) names)
      (AreExponents-same factors names place exponents h all)
