-- The terms that entries stand for over falling places: they descend where the entries' numbers rise, and they are a
-- multiple where the entries are those of one.
use Rattle.std.proofs.Common.{◌≡◌, ℕ, zero, suc, ◌<◌, List, [], ◌∷◌, length, map, inl, inr, refl, ◌∙◌, ap, subst, arith}
use Rattle.std.specs.declared.cmp.Ordering.TheVariants.{Less, Equal}
use Rattle.std.specs.List.{AllByRecursion}
use Rattle.std.proofs.lemmas.Bool.{cases_eq, cases_lt}
use Rattle.std.proofs.lemmas.Cmp.{tied_itself}
use Rattle.sf_algebra.proofs.Monomials.Orders.{place_cmp_linear}
use Rattle.sf_algebra.specs.Monomials.{Monomial, one}
use Rattle.sf_algebra.specs.Multiples.{place_product, term_product, multiple}
use Rattle.sf_algebra.specs.Residues.{product_mod}
use Rattle.sf_algebra.specs.Rings.{ones}
use Rattle.sf_algebra.specs.Sums.{normal}
use Rattle.sf_algebra.specs.Terms.{Term, IsCanonical, IsDescending, IsNonzeroResidue}
use Rattle.sf_algebra.specs.Vectors.{Place, place_cmp}
use Rattle.sf_algebra.proofs.GradedMatrices.Stacks.{AllByRecursion-map}
use Rattle.sf_algebra.proofs.Monomials.Places.{place_product-one}
use Rattle.sf_groebner.proofs.PairTheorems.Multiplied.{constant_term}
use Rattle.sf_variables.specs.Columns.{AreFalling}
use Rattle.sf_dense.specs.Entries.{Entry, column_at, placed}
use Rattle.sf_dense.specs.MonicEntries.{AreRising, AreWithin}
use Rattle.sf_dense.specs.Walks.{times_monomial}

place_cmp-irreflexive : (k : Place) → place_cmp ones k k ≡ Less → ⊥
place_cmp-irreflexive k less = let equal : place_cmp ones k k ≡ Equal = tied_itself (place_cmp_linear ones).total k in cc

pub AllByRecursion-column : (P : Place → Type 0) (ks : List Place) (i : ℕ) → AllByRecursion P ks → i < length ks
    → P (column_at ks i)
AllByRecursion-column P [] i each within = absurd (omega arith)
AllByRecursion-column P (k ∷ ks) zero each within = each.0
AllByRecursion-column P (k ∷ ks) (suc i) each within = AllByRecursion-column P ks i each.1 (omega arith)

-- a later place is smaller
pub column_at-falling : (ks : List Place) (i j : ℕ) → AreFalling ones ks → i < j → j < length ks
    → place_cmp ones (column_at ks j) (column_at ks i) ≡ Less
column_at-falling [] i j falling before within = absurd (omega arith)
column_at-falling (k ∷ ks) i zero falling before within = absurd (omega arith)
column_at-falling (k ∷ ks) zero (suc j) falling before within =
    AllByRecursion-column (λ l. place_cmp ones l k ≡ Less) ks j falling.0 (omega arith)
column_at-falling (k ∷ ks) (suc i) (suc j) falling before within =
    column_at-falling ks i j falling.1 (omega arith) (omega arith)

module _ (ks : List Place) (falling : AreFalling ones ks) where
  -- a smaller place has a later number
  pub column_at-after : (i j : ℕ) → i < length ks → place_cmp ones (column_at ks j) (column_at ks i) ≡ Less → i < j
  column_at-after i j within less = elim (cases_lt i j) [
    | inl before ↦ before
    | inr behind ↦ elim (cases_eq j i) [
      | inl same ↦
          absurd (place_cmp-irreflexive (column_at ks i) (subst (λ n. place_cmp ones (column_at ks n) (column_at ks
          i) ≡ Less) same less))
      | inr apart ↦
          let greater : place_cmp ones (column_at ks i) (column_at ks j) ≡ Less =
          column_at-falling ks j i falling (omega arith) within in
          absurd (place_cmp-irreflexive (column_at ks i) ((place_cmp_linear ones).total.trans (column_at ks i)
          (column_at ks j) (column_at ks i) greater less))
    ]
  ]

  -- a place has one number
  pub column_at-one : (i j : ℕ) → i < length ks → j < length ks → column_at ks i ≡ column_at ks j → i ≡ j
  column_at-one i j within_i within_j same = elim (cases_eq i j) [
    | inl here ↦ here
    | inr apart ↦ elim (cases_lt i j) [
      | inl before ↦
          absurd (place_cmp-irreflexive (column_at ks j) (subst (λ k. place_cmp ones (column_at ks j) k
          ≡ Less) same (column_at-falling ks i j falling before within_j)))
      | inr behind ↦
          absurd (place_cmp-irreflexive (column_at ks j) (subst (λ k. place_cmp ones k (column_at ks j)
          ≡ Less) same (column_at-falling ks j i falling (omega arith) within_i)))
    ]
  ]

  IsAboveEach-placed : (i : ℕ) (es : List Entry) → AllByRecursion (λ (e : Entry). i < e.cell) es → AreWithin (length ks) es
      → AllByRecursion (λ (t : Term Place). place_cmp ones t.at (column_at ks i) ≡ Less) (placed ks es)
  IsAboveEach-placed i [] above within = tt
  IsAboveEach-placed i (e ∷ es) above within =
      (column_at-falling ks i e.cell falling above.0 within.0, IsAboveEach-placed i es above.1 within.1)

  -- the terms descend where the numbers rise
  pub IsDescending-placed : (es : List Entry) → AreRising es → AreWithin (length ks) es
      → IsDescending (place_cmp ones) (placed ks es)
  IsDescending-placed [] rising within = tt
  IsDescending-placed (e ∷ es) rising within =
      (IsAboveEach-placed e.cell es rising.0 within.1, IsDescending-placed es rising.1 within.1)

  -- so they are canonical where the coefficients are residues other than 0
  pub IsCanonical-placed : (p : ℕ) (es : List Entry) → AreRising es → AreWithin (length ks) es
      → AllByRecursion (λ (e : Entry). (0 < e.coefficient) × (e.coefficient < p)) es
      → IsCanonical (place_cmp ones) p (placed ks es)
  IsCanonical-placed p es rising within residues = record {
    descending = IsDescending-placed es rising within;
    residues = AllByRecursion-map (IsNonzeroResidue {K = Place} p) _ es residues;
  }

-- a constant times the multiple by a monomial is one multiple
map-times_monomial : (p a : ℕ) (m : Monomial) (ts : List (Term Place))
    → map (term_product place_product p (constant_term a)) (map (times_monomial m) ts)
    ≡ map (term_product place_product p (record { at = m; coefficient = a })) ts
map-times_monomial p a m [] = refl
map-times_monomial p a m (t ∷ ts) =
    let at : place_product one (place_product m t.at) ≡ place_product m t.at = place_product-one (place_product m t.at) in
    λ i. record { at = at i; coefficient = product_mod p a t.coefficient } ∷ map-times_monomial p a m ts i

-- entries of the multiple of some terms by a monomial, a times
pub multiple-placed : (p a : ℕ) (m : Monomial) (ks : List Place) (es : List Entry) (ts : List (Term Place))
    → placed ks es ≡ map (times_monomial m) ts
    → multiple (place_cmp ones) place_product p (constant_term a) (placed ks es)
    ≡ multiple (place_cmp ones) place_product p (record { at = m; coefficient = a }) ts
unfolding multiple
multiple-placed p a m ks es ts same =
    ap (λ us. normal (place_cmp ones) p (map (term_product place_product p (constant_term a)) us)) same
    ∙ ap (normal (place_cmp ones) p) (map-times_monomial p a m ts)
