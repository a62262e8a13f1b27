-- The factors that are read of a monomial give the monomial, and its coefficient is itself.
use Rattle.std.proofs.Common.{◌≡◌, ℕ, zero, suc, ◌+◌, ◌<◌, ◌≤◌, List, [], ◌∷◌, length, map, take, drop, get_or, ◌==◌, if◌then◌else◌, Bool, true, false, cond, refl, sym, ap, ◌∙◌, mod-eq_of_lt, zero-add, add-zero, true≢false, arith}
use Rattle.std.specs.List.{AllByRecursion, IsDistinct}
use Rattle.std.specs.Str.{bytes_eq}
use Rattle.std.proofs.lemmas.Bool.Decides.{nat_tests}
use Rattle.std.proofs.lemmas.List.Sums.{sum_by-cons}
use Rattle.std.proofs.lemmas.Map.Keys.{IsDistinct-head, IsDistinct-tail}
use Rattle.std.proofs.lemmas.Slice.Eq.{bytes_eq-Decides}
use Rattle.sf_algebra.specs.Monomials.{Monomial, exponents, from_exponents}
use Rattle.sf_algebra.specs.Terms.{Term}
use Rattle.sf_algebra.specs.Vectors.{Place}
use Rattle.sf_text.specs.Placed.{exponent_in, monomial_of, placed_term}
use Rattle.sf_text.specs.declared.ring.Ring.{Ring}
use Rattle.sf_text.proofs.PlacedTerms.{from_exponents-same}
use Rattle.sf_text.proofs.ReadingBack.Factors.{raw_factors}
use Rattle.sf_text.proofs.ReadingBack.Terms.{raw_term}

pub bytes_eq-same : (x : List ℕ) → bytes_eq x x ≡ true
bytes_eq-same x = (bytes_eq-Decides x x).1 refl

bytes_eq-flipped : (x y : List ℕ) → bytes_eq x y ≡ false → bytes_eq y x ≡ false
bytes_eq-flipped x y e = by (bytes_eq y x) refl
  where
    by : (t : Bool) → bytes_eq y x ≡ t → bytes_eq y x ≡ false
    by true is = absurd (true≢false (sym ((bytes_eq-Decides x y).1 (sym ((bytes_eq-Decides y x).0 is))) ∙ e))
    by false is = is

exponent_in-cons : (name other : List ℕ) (e : ℕ) (fs : List (List ℕ × ℕ))
    → exponent_in ((other, e) ∷ fs) name ≡ (if bytes_eq other name then e else 0) + exponent_in fs name
exponent_in-cons name other e fs = sum_by-cons (λ (f : List ℕ × ℕ). if bytes_eq f.0 name then f.1 else 0) (other, e) fs

-- none of the factors has this name
exponent_in-absent : (name : List ℕ) (names : List (List ℕ)) (es : List ℕ)
    → AllByRecursion (λ other. bytes_eq name other ≡ false) names → exponent_in (raw_factors names es) name ≡ 0
exponent_in-absent name [] es h = refl
exponent_in-absent name (other ∷ names) [] h = refl
exponent_in-absent name (other ∷ names) (e ∷ es) h = by (e == 0) (exponent_in-absent name names es h.1)
  where
    by : (t : Bool) → exponent_in (raw_factors names es) name ≡ 0
        → exponent_in (cond t (raw_factors names es) ((other, e) ∷ raw_factors names es)) name ≡ 0
    by true rest = rest
    by false rest =
        exponent_in-cons name other e (raw_factors names es)
        ∙ (λ i. (if bytes_eq-flipped name other h.0 i then e else 0) + rest i)

-- a factor of another name
exponents-past : (name : List ℕ) (e : ℕ) (fs : List (List ℕ × ℕ)) (names : List (List ℕ))
    → AllByRecursion (λ other. bytes_eq name other ≡ false) names
    → map (exponent_in ((name, e) ∷ fs)) names ≡ map (exponent_in fs) names
exponents-past name e fs [] h = refl
exponents-past name e fs (other ∷ names) h =
    let here : exponent_in ((name, e) ∷ fs) other ≡ exponent_in fs other =
    exponent_in-cons other name e fs ∙ (λ i. (if h.0 i then e else 0) + exponent_in fs other) ∙ zero-add _ in
    (λ i. here i ∷ exponents-past name e fs names h.1 i)

-- the exponents of different names are those that were written
exponents-read : (names : List (List ℕ)) (es : List ℕ) → IsDistinct bytes_eq names → length names ≤ length es
    → map (exponent_in (raw_factors names es)) names ≡ take (length names) es
exponents-read [] es h few = refl
exponents-read (name ∷ names) [] h few = absurd (omega arith)
exponents-read (name ∷ names) (e ∷ es) h few =
    by (e == 0) refl (exponent_in-absent name names es others)
    (exponents-read names es (IsDistinct-tail bytes_eq name names h) (omega arith))
  where
    others : AllByRecursion (λ other. bytes_eq name other ≡ false) names
    others = IsDistinct-head bytes_eq name names h

    by : (t : Bool) → (e == 0) ≡ t → exponent_in (raw_factors names es) name ≡ 0
        → map (exponent_in (raw_factors names es)) names ≡ take (length names) es
        → map (exponent_in (cond t (raw_factors names es) ((name, e) ∷ raw_factors names es))) (name ∷ names)
        ≡ e ∷ take (length names) es
    by true is none rest =
        let zero : 0 ≡ e = grind (arith, nat_tests) in
        (λ i. (none ∙ zero) i ∷ rest i)
    by false is none rest =
        let here : exponent_in ((name, e) ∷ raw_factors names es) name ≡ e =
        exponent_in-cons name name e (raw_factors names es)
        ∙ (λ i. (if bytes_eq-same name i then e else 0) + none i) ∙ add-zero e in
        (λ i. here i ∷ (exponents-past name e (raw_factors names es) names others ∙ rest) i)

get_or-zeros : (es : List ℕ) (k : ℕ) → AllByRecursion (λ e. e ≡ 0) es → 0 ≡ get_or es k 0
get_or-zeros [] k h = refl
get_or-zeros (e ∷ es) zero h = sym h.0
get_or-zeros (e ∷ es) (suc k) h = get_or-zeros es k h.1

get_or-take_zeros : (n : ℕ) (es : List ℕ) (k : ℕ) → AllByRecursion (λ e. e ≡ 0) (drop n es)
    → get_or (take n es) k 0 ≡ get_or es k 0
get_or-take_zeros zero es k h = get_or-zeros es k h
get_or-take_zeros (suc n) [] k h = refl
get_or-take_zeros (suc n) (e ∷ es) zero h = refl
get_or-take_zeros (suc n) (e ∷ es) (suc k) h = get_or-take_zeros n es k h

pub monomial_of-raw : (names : List (List ℕ)) (a : Monomial) → IsDistinct bytes_eq names → length names ≤ 6
    → AllByRecursion (λ e. e ≡ 0) (drop (length names) (exponents a))
    → monomial_of names (raw_factors names (exponents a)) ≡ a
monomial_of-raw names a distinct few known =
    ap from_exponents (exponents-read names (exponents a) distinct few)
    ∙ from_exponents-same (take (length names) (exponents a)) (exponents a)
    (λ k. get_or-take_zeros (length names) (exponents a) k known)

-- a term at a column
abbrev pub at_column : ℕ → Term Monomial → Term Place
at_column column t = record { at = record { position = column; monomial = t.at }; coefficient = t.coefficient }

pub placed_term-raw : (ring : Ring) (column : ℕ) (t : Term Monomial) → IsDistinct bytes_eq ring.names
    → length ring.names ≤ 6 → AllByRecursion (λ e. e ≡ 0) (drop (length ring.names) (exponents t.at))
    → t.coefficient < ring.modulus → placed_term ring column (raw_term ring.names t) ≡ at_column column t
placed_term-raw ring column t distinct few known below =
    let same = monomial_of-raw ring.names t.at distinct few known in
    (λ i. record { at = record { position = column; monomial = same i }; coefficient = mod-eq_of_lt below i })
