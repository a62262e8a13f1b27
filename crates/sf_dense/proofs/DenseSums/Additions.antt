-- Entries added to sums: the vector that the sums stand for grows by a multiple of the one that the entries stand for.
-- Neither an order of the places nor bounds of the sums are asked for.
use Rattle.std.proofs.Common.{◌≡◌, ℕ, zero, suc, ◌+◌, ◌*◌, ◌%◌, ◌<◌, List, [], ◌∷◌, ◌++◌, length, map, refl, get_or, set, sym, ◌∙◌, ap, arith}
use Rattle.std.specs.Prelude.{replicate}
use Rattle.sf_algebra.specs.Multiples.{place_product, term_product, multiple}
use Rattle.sf_algebra.specs.Residues.{sum_mod, product_mod}
use Rattle.sf_algebra.specs.Rings.{ones}
use Rattle.sf_algebra.specs.Sums.{add, total}
use Rattle.sf_algebra.specs.Terms.{Term}
use Rattle.sf_algebra.specs.Vectors.{Place, place_cmp}
use Rattle.sf_algebra.proofs.Arithmetic.Residues.{sum_mod-assoc, sum_mod-comm, sum_mod-first}
use Rattle.sf_algebra.proofs.Terms.Sums.{normal-nil}
use Rattle.std.proofs.lemmas.List.{length-set}
use Rattle.sf_algebra.proofs.Monomials.Orders.{place_cmp_linear}
use Rattle.sf_algebra.proofs.Monomials.Places.{place_product-one}
use Rattle.sf_algebra.proofs.Terms.SameTotals.{SameTotals, SameTotals-append, SameTotals-normal, SameTotals-refl, SameTotals-sym, SameTotals-trans, SameTotals-zero, normal-SameTotals}
use Rattle.sf_algebra.proofs.Terms.Totals.{IsAdditive, additive-reduced, total-cons}
use Rattle.sf_groebner.proofs.PairTheorems.Multiplied.{constant_term}
use Rattle.sf_dense.specs.Entries.{Entry, column_at, placed, cell_terms, dense, added}
use Rattle.sf_dense.specs.MonicEntries.{AreWithin}

-- the entries' terms, a times, with no residue taken
abbrev pub raised_terms : List Place → ℕ → List Entry → List (Term Place)
raised_terms ks a es = map (λ (e : Entry). record { at = column_at ks e.cell; coefficient = a * e.coefficient }) es

module _ {K : Type 0} (p : ℕ) where
  -- two terms at one place in front, or one with the sum of their coefficients
  pub SameTotals-split : (k : K) (m n : ℕ) (us : List (Term K))
      → SameTotals p (record { at = k; coefficient = m + n } ∷ us)
      (record { at = k; coefficient = n } ∷ record { at = k; coefficient = m } ∷ us)
  unfolding sum_mod
  SameTotals-split k m n us = record {
    totals = λ g additive.
        let whole : g (record { at = k; coefficient = m + n }) % p
        ≡ sum_mod p (g (record { at = k; coefficient = n })) (g (record { at = k; coefficient = m })) =
        sym (additive-reduced p g additive k (m + n)) ∙ additive.at_sum k m n ∙ sum_mod-comm p _ _ in
        total-cons p g _ us
        ∙ sym (sum_mod-first p _ _)
        ∙ ap (λ x. sum_mod p x (total p g us)) whole
        ∙ sum_mod-assoc p _ _ _
        ∙ ap (sum_mod p _) (sym (total-cons p g _ us))
        ∙ sym (total-cons p g _ _);
  }

  -- the first two terms exchanged
  pub SameTotals-exchange : (t u : Term K) (us : List (Term K)) → SameTotals p (t ∷ u ∷ us) (u ∷ t ∷ us)
  SameTotals-exchange t u us = record {
    totals = λ g additive.
        total-cons p g t (u ∷ us)
        ∙ ap (sum_mod p (g t)) (total-cons p g u us)
        ∙ sym (sum_mod-assoc p _ _ _)
        ∙ ap (λ x. sum_mod p x (total p g us)) (sum_mod-comm p _ _)
        ∙ sum_mod-assoc p _ _ _
        ∙ ap (sum_mod p (g u)) (sym (total-cons p g t us))
        ∙ sym (total-cons p g u (t ∷ us));
  }

  pub SameTotals-cons : (t : Term K) {us vs : List (Term K)} → SameTotals p us vs → SameTotals p (t ∷ us) (t ∷ vs)
  SameTotals-cons t {us} {vs} h = record {
    totals = λ g additive. total-cons p g t us ∙ ap (sum_mod p (g t)) (h.totals g additive) ∙ sym (total-cons p g t vs);
  }

  -- a term moved to the front
  pub SameTotals-middle : (t : Term K) (us vs : List (Term K)) → SameTotals p (us ++ t ∷ vs) (t ∷ us ++ vs)
  SameTotals-middle t [] vs = SameTotals-refl p (t ∷ vs)
  SameTotals-middle t (u ∷ us) vs =
      SameTotals-trans p (SameTotals-cons u (SameTotals-middle t us vs)) (SameTotals-exchange u t (us ++ vs))

module _ (p : ℕ) where
  -- one sum raised by n
  pub cell_terms-set : (ks : List Place) (cs : List ℕ) (i n : ℕ) → length ks ≡ length cs → i < length ks
      → SameTotals p (cell_terms ks (set cs i (get_or cs i 0 + n)))
      (record { at = column_at ks i; coefficient = n } ∷ cell_terms ks cs)
  unfolding cell_terms
  cell_terms-set [] cs i n same within = absurd (omega arith)
  cell_terms-set (k ∷ ks) [] i n same within = absurd (omega arith)
  cell_terms-set (k ∷ ks) (c ∷ cs) zero n same within = SameTotals-split p k c n (cell_terms ks cs)
  cell_terms-set (k ∷ ks) (c ∷ cs) (suc i) n same within =
      SameTotals-trans p
      (SameTotals-cons p _ (cell_terms-set ks cs i n (omega arith) (omega arith)))
      (SameTotals-exchange p _ _ _)

  -- entries added
  pub cell_terms-added : (ks : List Place) (a : ℕ) (cs : List ℕ) (es : List Entry) → length ks ≡ length cs
      → AreWithin (length ks) es → SameTotals p (cell_terms ks (added a cs es)) (raised_terms ks a es ++ cell_terms ks cs)
  unfolding added
  cell_terms-added ks a cs [] same within = SameTotals-refl p (cell_terms ks cs)
  cell_terms-added ks a cs (e ∷ es) same within =
      let raised : List ℕ = set cs e.cell (get_or cs e.cell 0 + a * e.coefficient) in
      let kept : length ks ≡ length raised = same ∙ sym (length-set cs e.cell _) in
      SameTotals-trans p
      (cell_terms-added ks a raised es kept within.1)
      (SameTotals-trans p
      (SameTotals-append p
      (SameTotals-refl p (raised_terms ks a es))
      (cell_terms-set ks cs e.cell (a * e.coefficient) same within.0))
      (SameTotals-middle p _ (raised_terms ks a es) (cell_terms ks cs)))

  -- a coefficient a times, with no residue taken or as a product modulo p
  additive-raised : (g : Term Place → ℕ) → IsAdditive p g → (a : ℕ) (k : Place) (c : ℕ)
      → g (record { at = k; coefficient = a * c }) % p
      ≡ g (term_product place_product p (constant_term a) (record { at = k; coefficient = c })) % p
  unfolding product_mod
  additive-raised g additive a k c =
      sym (additive-reduced p g additive k (a * c))
      ∙ ap (λ l. g (record { at = l; coefficient = (a * c) % p }) % p) (sym (place_product-one k))

  -- raised with no residue taken, or as products modulo p
  pub SameTotals-raised : (ks : List Place) (a : ℕ) (es : List Entry)
      → SameTotals p (raised_terms ks a es) (map (term_product place_product p (constant_term a)) (placed ks es))
  SameTotals-raised ks a [] = SameTotals-refl p []
  SameTotals-raised ks a (e ∷ es) = record {
    totals = λ g additive.
        total-cons p g _ (raised_terms ks a es)
        ∙ sym (sum_mod-first p _ _)
        ∙ (λ i. sum_mod p (additive-raised g additive a (column_at ks e.cell) e.coefficient i) ((SameTotals-raised ks
        a es).totals g additive i))
        ∙ sum_mod-first p _ _
        ∙ sym (total-cons p g _ _);
  }

  -- sums of which each is 0
  pub SameTotals-zeros : (ks : List Place) (n : ℕ) → SameTotals p (cell_terms ks (replicate n 0)) []
  unfolding cell_terms
  SameTotals-zeros [] n = SameTotals-refl p []
  SameTotals-zeros (k ∷ ks) zero = SameTotals-refl p []
  SameTotals-zeros (k ∷ ks) (suc n) = SameTotals-trans p (SameTotals-zero p k _) (SameTotals-zeros ks n)

module _ (p : ℕ) (positive : 0 < p) where
  -- entries added to sums
  pub dense-added : (ks : List Place) (a : ℕ) (cs : List ℕ) (es : List Entry) → length ks ≡ length cs
      → AreWithin (length ks) es
      → dense p ks (added a cs es)
      ≡ add (place_cmp ones) p (multiple (place_cmp ones) place_product p (constant_term a) (placed ks es)) (dense p ks cs)
  unfolding add multiple
  dense-added ks a cs es same within =
      normal-SameTotals (place_cmp ones) (place_cmp_linear ones) p positive
      (SameTotals-trans p
      (cell_terms-added p ks a cs es same within)
      (SameTotals-append p
      (SameTotals-trans p
      (SameTotals-raised p ks a es)
      (SameTotals-sym p (SameTotals-normal (place_cmp ones) (place_cmp_linear ones) p _)))
      (SameTotals-sym p (SameTotals-normal (place_cmp ones) (place_cmp_linear ones) p (cell_terms ks cs)))))

  -- where no sum is other than 0
  pub dense-zero : (ks : List Place) (n : ℕ) → dense p ks (replicate n 0) ≡ []
  dense-zero ks n =
      normal-SameTotals (place_cmp ones) (place_cmp_linear ones) p positive (SameTotals-zeros p ks n)
      ∙ normal-nil (place_cmp ones) p

-- the number of sums stays
pub length-added : (a : ℕ) (cs : List ℕ) (es : List Entry) → length (added a cs es) ≡ length cs
unfolding added
length-added a cs [] = refl
length-added a cs (e ∷ es) = length-added a (set cs e.cell (get_or cs e.cell 0 + a * e.coefficient)) es
    ∙ length-set cs e.cell _
