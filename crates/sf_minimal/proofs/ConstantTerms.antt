-- Constant terms that are turned round: they go with sums, and with products by what is constant.
use Rattle.std.proofs.Common.{◌≡◌, ◌==◌, Bool, true, false, cond, if◌then◌else◌, inl, inr, ⊎_elim, ◌⊎◌, ℕ, zero, suc, ◌+◌, ◌-◌, ◌%◌, ◌<◌, List, [], ◌∷◌, ◌++◌, filter, map, refl, sym, ◌∙◌, ap, subst, arith}
use Rattle.std.proofs.Math.Nat.{zero-mod}
use Rattle.std.proofs.lemmas.Bool.Decides.{nat_tests}
use Rattle.std.proofs.lemmas.List.{map-append}
use Rattle.std.proofs.lemmas.List.Elements.{filter-append}
use Rattle.std.specs.List.{AllByRecursion}
use Rattle.sf_algebra.specs.Monomials.{Monomial, exponent_sum}
use Rattle.sf_algebra.specs.Multiples.{place_product, term_product}
use Rattle.sf_algebra.specs.Residues.{sum_mod}
use Rattle.sf_algebra.specs.Sums.{total}
use Rattle.sf_algebra.specs.Terms.{Term}
use Rattle.sf_algebra.specs.Vectors.{Place}
use Rattle.sf_algebra.proofs.Arithmetic.Residues.{sum_mod-zero}
use Rattle.sf_algebra.proofs.Basics.Filters.{total-filter}
use Rattle.sf_algebra.proofs.Terms.DoubleTotals.{total-map}
use Rattle.sf_algebra.proofs.Terms.SameTotals.{SameTotals}
use Rattle.sf_algebra.proofs.Terms.Totals.{IsAdditive}
use Rattle.sf_groebner.proofs.PairTheorems.LeadMultiples.{IsModule}
use Rattle.sf_minimal.specs.Constants.{constants, is_constant, turned}

-- the other terms
abbrev pub IsNotConstant : Term Place → Type 0
IsNotConstant t = 0 < exponent_sum t.at.monomial

abbrev pub all_turned : ℕ → List (Term Place) → List (Term Place)
all_turned n ts = map (turned n) ts

pub constant_cases : (t : Term Place) → (is_constant t ≡ true × (exponent_sum t.at.monomial ≡ 0)) ⊎ (is_constant t ≡ false × IsNotConstant t)
constant_cases t = by_number (exponent_sum t.at.monomial)
  where
    by_number : (m : ℕ) → ((m == 0) ≡ true × (m ≡ 0)) ⊎ ((m == 0) ≡ false × (0 < m))
    by_number zero = inl (refl, refl)
    by_number (suc m) = inr (grind (arith, nat_tests), omega arith)

pub constants-first : (n : ℕ) (t : Term Place) (ts : List (Term Place)) → exponent_sum t.at.monomial ≡ 0
    → constants n (t ∷ ts) ≡ turned n t ∷ constants n ts
constants-first n t ts e =
    let constant : is_constant t ≡ true = ap (λ m. m == 0) e in
    ap (λ b. map (turned n) (cond b (t ∷ filter is_constant ts) (filter is_constant ts))) constant

pub constants-other : (n : ℕ) (t : Term Place) (ts : List (Term Place)) → IsNotConstant t
    → constants n (t ∷ ts) ≡ constants n ts
constants-other n t ts h =
    ap (λ b. map (turned n) (cond b (t ∷ filter is_constant ts) (filter is_constant ts)))
    (⊎_elim (λ (k : is_constant t ≡ true × (exponent_sum t.at.monomial ≡ 0)). absurd (omega (arith, h, k.1)))
    (λ (k : is_constant t ≡ false × IsNotConstant t). k.0) (constant_cases t))

-- where none is constant, nothing is left
pub constants-none : (n : ℕ) (ts : List (Term Place)) → AllByRecursion IsNotConstant ts → constants n ts ≡ []
constants-none n [] h = refl
constants-none n (t ∷ ts) h = constants-other n t ts h.0 ∙ constants-none n ts h.1

pub constants-append : (n : ℕ) (us vs : List (Term Place)) → constants n (us ++ vs) ≡ constants n us ++ constants n vs
constants-append n us vs =
    ap (map (turned n)) (filter-append is_constant us vs)
    ∙ map-append (turned n) (filter is_constant us) (filter is_constant vs)

module _ (p : ℕ) where
  -- a term times terms
  abbrev pub products : Term Monomial → List (Term Place) → List (Term Place)
  products s us = map (term_product place_product p s) us

  exponent_sum-term : (s : Term Monomial) (t : Term Place)
      → exponent_sum (term_product place_product p s t).at.monomial ≡ exponent_sum s.at + exponent_sum t.at.monomial
  exponent_sum-term s t = omega arith

  pub not_constant-product : (s : Term Monomial) (us : List (Term Place)) → AllByRecursion IsNotConstant us
      → AllByRecursion IsNotConstant (products s us)
  not_constant-product s [] h = tt
  not_constant-product s (t ∷ us) h = (omega (arith, h.0), not_constant-product s us h.1)

  factor-not_constant : (s : Term Monomial) (us : List (Term Place)) → 0 < exponent_sum s.at
      → AllByRecursion IsNotConstant (products s us)
  factor-not_constant s [] h = tt
  factor-not_constant s (t ∷ us) h = (omega (arith, h), factor-not_constant s us h)

  pub constants-products : (n : ℕ) (s : Term Monomial) → exponent_sum s.at ≡ 0 → (us : List (Term Place))
      → constants n (products s us) ≡ products s (constants n us)
  constants-products n s e [] = refl
  constants-products n s e (t ∷ us) =
      ⊎_elim
      (λ (k : is_constant t ≡ true × (exponent_sum t.at.monomial ≡ 0)).
      constants-first n (term_product place_product p s t) (products s us) (omega (arith, e, k.1))
      ∙ ap (λ vs. turned n (term_product place_product p s t) ∷ vs) (constants-products n s e us)
      ∙ ap (products s) (sym (constants-first n t us k.1)))
      (λ (k : is_constant t ≡ false × IsNotConstant t).
      constants-other n (term_product place_product p s t) (products s us) (omega (arith, k.1))
      ∙ constants-products n s e us
      ∙ ap (products s) (sym (constants-other n t us k.1)))
      (constant_cases t)

  -- a number for what a constant term becomes
  abbrev at_constant : ℕ → (Term Place → ℕ) → Term Place → ℕ
  at_constant n g t = if is_constant t then g (turned n t) else 0

  at_constant-additive : (n : ℕ) (g : Term Place → ℕ) → IsAdditive p g → IsAdditive p (at_constant n g)
  at_constant-additive n g additive = record {
    at_zero = λ k. zeros k (exponent_sum k.monomial == 0);
    at_sum = λ k a b. sums k a b (exponent_sum k.monomial == 0);
  }
    where
      zeros : (k : Place) (b : Bool) → (if b then g (record { at = record { position = n - suc k.position; monomial = k.monomial }; coefficient = 0 }) else 0) % p ≡ 0
      zeros k true = additive.at_zero (record { position = n - suc k.position; monomial = k.monomial })
      zeros k false = zero-mod p

      sums : (k : Place) (x y : ℕ) (b : Bool)
          → (if b then g (record { at = record { position = n - suc k.position; monomial = k.monomial }; coefficient = sum_mod p x y }) else 0) % p
          ≡ sum_mod p (if b then g (record { at = record { position = n - suc k.position; monomial = k.monomial }; coefficient = x }) else 0)
          (if b then g (record { at = record { position = n - suc k.position; monomial = k.monomial }; coefficient = y }) else 0)
      sums k x y true = additive.at_sum (record { position = n - suc k.position; monomial = k.monomial }) x y
      sums k x y false = sym (sum_mod-zero p 0)

  pub SameTotals-constants : (n : ℕ) (us vs : List (Term Place)) → SameTotals p us vs
      → SameTotals p (constants n us) (constants n vs)
  SameTotals-constants n us vs h = record {
    totals = λ g additive. by_terms g us ∙ h.totals (at_constant n g) (at_constant-additive n g additive) ∙ sym (by_terms g vs);
  }
    where
      by_terms : (g : Term Place → ℕ) (ts : List (Term Place)) → total p g (constants n ts) ≡ total p (at_constant n g) ts
      by_terms g ts =
          total-map p g (turned n) (filter is_constant ts) ∙ total-filter is_constant p (λ t. g (turned n t)) ts

  pub SameTotals-turned : (n : ℕ) (us vs : List (Term Place)) → SameTotals p us vs
      → SameTotals p (all_turned n us) (all_turned n vs)
  SameTotals-turned n us vs h = record {
    totals = λ g additive.
        total-map p g (turned n) us
        ∙ h.totals (λ t. g (turned n t)) (record {
          at_zero = λ k. additive.at_zero (record { position = n - suc k.position; monomial = k.monomial });
          at_sum = λ k. additive.at_sum (record { position = n - suc k.position; monomial = k.monomial });
        })
        ∙ sym (total-map p g (turned n) vs);
  }

  -- the coefficients whose constant terms are members
  pub constants-module : (n : ℕ) (S : List (Term Place) → Type 0) → IsModule p S → IsModule p (λ c. S (constants n c))
  constants-module n S is_module = record {
    has_none = is_module.has_none;
    has_sums = λ us vs h k. subst S (sym (constants-append n us vs)) (is_module.has_sums _ _ h k);
    has_products = λ s us h. by_factor s us h (exponent_sum s.at) refl;
    has_same = λ us vs same h. is_module.has_same _ _ (SameTotals-constants n us vs same) h;
  }
    where
      by_factor : (s : Term Monomial) (us : List (Term Place)) → S (constants n us) → (m : ℕ) → exponent_sum s.at ≡ m
          → S (constants n (products s us))
      by_factor s us h zero e = subst S (sym (constants-products n s e us)) (is_module.has_products s _ h)
      by_factor s us h (suc m) e =
          subst S (sym (constants-none n (products s us) (factor-not_constant s us (omega (arith, e))))) is_module.has_none

-- a fact of what each constant term becomes
pub constants-each : (P : Term Place → Type 0) (n : ℕ) (ts : List (Term Place))
    → AllByRecursion (λ (t : Term Place). exponent_sum t.at.monomial ≡ 0 → P (turned n t)) ts
    → AllByRecursion P (constants n ts)
constants-each P n [] h = tt
constants-each P n (t ∷ ts) h =
    ⊎_elim
    (λ (k : is_constant t ≡ true × (exponent_sum t.at.monomial ≡ 0)).
    subst (AllByRecursion P) (sym (constants-first n t ts k.1)) (h.0 k.1, constants-each P n ts h.1))
    (λ (k : is_constant t ≡ false × IsNotConstant t).
    subst (AllByRecursion P) (sym (constants-other n t ts k.1)) (constants-each P n ts h.1))
    (constant_cases t)

-- a term that is turned round twice
pub turned-turned : (n : ℕ) (t : Term Place) → t.at.position < n → turned n (turned n t) ≡ t
turned-turned n t h =
    let same : n - suc (n - suc t.at.position) ≡ t.at.position = omega arith in
    λ i. record { at = record { position = same i; monomial = t.at.monomial }; coefficient = t.coefficient }
