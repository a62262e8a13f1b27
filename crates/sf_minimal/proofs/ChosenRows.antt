-- The terms that stand at chosen rows, and the constant ones among them.
use Rattle.std.proofs.Common.{◌≡◌, Bool, true, false, cond, if◌then◌else◌, ⊎_elim, ℕ, ◌%◌, List, [], ◌∷◌, filter, refl, sym, ◌∙◌, ap, subst}
use Rattle.std.proofs.Math.Nat.{zero-mod}
use Rattle.std.proofs.lemmas.Bool.{cases_Bool}
use Rattle.std.proofs.lemmas.List.Elements.{filter-append}
use Rattle.std.specs.List.{AllByRecursion}
use Rattle.sf_algebra.specs.Monomials.{Monomial, exponent_sum}
use Rattle.sf_algebra.specs.Multiples.{place_product, term_product}
use Rattle.sf_algebra.specs.Residues.{sum_mod}
use Rattle.sf_algebra.specs.Terms.{Term}
use Rattle.sf_algebra.specs.Vectors.{Place}
use Rattle.sf_algebra.proofs.Arithmetic.Residues.{sum_mod-zero}
use Rattle.sf_algebra.proofs.Basics.Filters.{cond_cases, total-filter}
use Rattle.sf_algebra.proofs.Terms.SameTotals.{SameTotals}
use Rattle.sf_algebra.proofs.Terms.Totals.{IsAdditive}
use Rattle.sf_groebner.proofs.PairTheorems.LeadMultiples.{IsModule}
use Rattle.sf_minimal.specs.Constants.{constants, is_constant, turned}
use Rattle.sf_minimal.proofs.ConstantTerms.{IsNotConstant, constant_cases, constants-first, constants-other, products}

-- the terms at the rows that are chosen
abbrev pub chosen : (ℕ → Bool) → List (Term Place) → List (Term Place)
chosen choice ts = filter (λ (t : Term Place). choice t.at.position) ts

module _ (choice : ℕ → Bool) where
  pub chosen-first : (t : Term Place) (ts : List (Term Place)) → choice t.at.position ≡ true
      → chosen choice (t ∷ ts) ≡ t ∷ chosen choice ts
  chosen-first t ts e = ap (λ b. cond b (t ∷ chosen choice ts) (chosen choice ts)) e

  pub chosen-other : (t : Term Place) (ts : List (Term Place)) → choice t.at.position ≡ false
      → chosen choice (t ∷ ts) ≡ chosen choice ts
  chosen-other t ts e = ap (λ b. cond b (t ∷ chosen choice ts) (chosen choice ts)) e

  module _ (p : ℕ) where
    chosen-products : (s : Term Monomial) (us : List (Term Place))
        → chosen choice (products p s us) ≡ products p s (chosen choice us)
    chosen-products s [] = refl
    chosen-products s (u ∷ us) =
        ⊎_elim
        (λ (e : choice u.at.position ≡ true).
        chosen-first (term_product place_product p s u) (products p s us) e
        ∙ ap (λ vs. term_product place_product p s u ∷ vs) (chosen-products s us)
        ∙ ap (products p s) (sym (chosen-first u us e)))
        (λ (e : choice u.at.position ≡ false).
        chosen-other (term_product place_product p s u) (products p s us) e
        ∙ chosen-products s us
        ∙ ap (products p s) (sym (chosen-other u us e)))
        (cases_Bool (choice u.at.position))

    -- a number for each chosen term, and 0 for the others
    abbrev at_chosen : (Term Place → ℕ) → Term Place → ℕ
    at_chosen g t = if choice t.at.position then g t else 0

    at_chosen-additive : (g : Term Place → ℕ) → IsAdditive p g → IsAdditive p (at_chosen g)
    at_chosen-additive g additive = record {
      at_zero = λ k. zeros k (choice k.position);
      at_sum = λ k a b. sums k a b (choice k.position);
    }
      where
        zeros : (k : Place) (b : Bool) → (if b then g (record { at = k; coefficient = 0 }) else 0) % p ≡ 0
        zeros k true = additive.at_zero k
        zeros k false = zero-mod p

        sums : (k : Place) (x y : ℕ) (b : Bool)
            → (if b then g (record { at = k; coefficient = sum_mod p x y }) else 0) % p
            ≡ sum_mod p (if b then g (record { at = k; coefficient = x }) else 0) (if b then g (record { at = k; coefficient = y }) else 0)
        sums k x y true = additive.at_sum k x y
        sums k x y false = sym (sum_mod-zero p 0)

    SameTotals-chosen : (us vs : List (Term Place)) → SameTotals p us vs → SameTotals p (chosen choice us) (chosen choice vs)
    SameTotals-chosen us vs h = record {
      totals = λ g additive.
          total-filter (λ (t : Term Place). choice t.at.position) p g us
          ∙ h.totals (at_chosen g) (at_chosen-additive g additive)
          ∙ sym (total-filter (λ (t : Term Place). choice t.at.position) p g vs);
    }

    -- the coefficients whose chosen terms are members
    pub chosen-module : (S : List (Term Place) → Type 0) → IsModule p S → IsModule p (λ c. S (chosen choice c))
    chosen-module S is_module = record {
      has_none = is_module.has_none;
      has_sums = λ us vs h k.
          subst S (sym (filter-append (λ (t : Term Place). choice t.at.position) us vs)) (is_module.has_sums _ _ h k);
      has_products = λ s us h. subst S (sym (chosen-products s us)) (is_module.has_products s _ h);
      has_same = λ us vs same h. is_module.has_same _ _ (SameTotals-chosen us vs same) h;
    }

  -- a term that isn't constant may be left out
  constants-chosen_other : (n : ℕ) (t : Term Place) (ts : List (Term Place)) → IsNotConstant t
      → constants n (chosen choice (t ∷ ts)) ≡ constants n (chosen choice ts)
  constants-chosen_other n t ts h =
      cond_cases (choice t.at.position) (t ∷ chosen choice ts) (chosen choice ts)
      (λ us. constants n us ≡ constants n (chosen choice ts)) (λ e. constants-other n t (chosen choice ts) h) (λ e. refl)

  -- where all constant terms are chosen, they are the constant terms
  pub constants-chosen_all : (n : ℕ) (ts : List (Term Place))
      → AllByRecursion (λ (t : Term Place). exponent_sum t.at.monomial ≡ 0 → choice t.at.position ≡ true) ts
      → constants n (chosen choice ts) ≡ constants n ts
  constants-chosen_all n [] h = refl
  constants-chosen_all n (t ∷ ts) h =
      let rest = constants-chosen_all n ts h.1 in
      ⊎_elim
      (λ (k : is_constant t ≡ true × (exponent_sum t.at.monomial ≡ 0)).
      ap (constants n) (chosen-first t ts (h.0 k.1))
      ∙ constants-first n t (chosen choice ts) k.1
      ∙ ap (λ us. turned n t ∷ us) rest
      ∙ sym (constants-first n t ts k.1))
      (λ (k : is_constant t ≡ false × IsNotConstant t).
      constants-chosen_other n t ts k.1 ∙ rest ∙ sym (constants-other n t ts k.1))
      (constant_cases t)

  -- where none of them is chosen, nothing is left
  pub constants-chosen_none : (n : ℕ) (ts : List (Term Place))
      → AllByRecursion (λ (t : Term Place). exponent_sum t.at.monomial ≡ 0 → choice t.at.position ≡ false) ts
      → constants n (chosen choice ts) ≡ []
  constants-chosen_none n [] h = refl
  constants-chosen_none n (t ∷ ts) h =
      let rest = constants-chosen_none n ts h.1 in
      ⊎_elim
      (λ (k : is_constant t ≡ true × (exponent_sum t.at.monomial ≡ 0)).
      ap (constants n) (chosen-other t ts (h.0 k.1)) ∙ rest)
      (λ (k : is_constant t ≡ false × IsNotConstant t). constants-chosen_other n t ts k.1 ∙ rest)
      (constant_cases t)
