-- The entries of a combination of rows are sums of products of entries, as those of a vector times a matrix.
use Rattle.std.proofs.Common.{◌≡◌, ◌≢◌, ℕ, zero, suc, ◌+◌, ◌%◌, ◌<◌, eqb, if◌then◌else◌, ◌==◌, true, false, List, [], ◌∷◌, refl, sym, ap, ◌∙◌, inl, inr, arith, zero-add}
use Rattle.std.proofs.Math.Nat.{zero-mod}
use Rattle.std.proofs.lemmas.Bool.{cases_eq}
use Rattle.std.proofs.lemmas.Bool.Decides.{nat_tests}
use Rattle.sf_algebra.specs.MatrixOperations.{row_at, row_combination, entry_products}
use Rattle.sf_algebra.specs.Monomials.{Monomial, product, monomial_cmp}
use Rattle.sf_algebra.specs.Multiples.{term_product}
use Rattle.sf_algebra.specs.Polynomials.{polynomial_product}
use Rattle.sf_algebra.specs.Residues.{sum_mod}
use Rattle.sf_algebra.specs.Rings.{Ring}
use Rattle.sf_algebra.specs.Sums.{total}
use Rattle.sf_algebra.specs.Terms.{Term, IsCanonical}
use Rattle.sf_algebra.specs.Vectors.{Place, Vector, entry}
use Rattle.sf_algebra.proofs.Arithmetic.Residues.{sum_mod-zero, sum_mod-zero_first}
use Rattle.sf_algebra.proofs.Monomials.Orders.{monomial_cmp_linear}
use Rattle.sf_algebra.proofs.Multiplying.CombinationLaws.{combination-same}
use Rattle.sf_algebra.proofs.Multiplying.Combinations.{factor, share, total-combination}
use Rattle.sf_algebra.proofs.Multiplying.Keys.{monomial_keys}
use Rattle.sf_algebra.proofs.Terms.DoubleTotals.{total-same, total-sum, total-zero}
use Rattle.sf_algebra.proofs.Terms.Normal.{IsCanonical-add}
use Rattle.sf_algebra.proofs.Terms.Totals.{IsAdditive, total-add, total-nil}
use Rattle.sf_algebra.proofs.Vectors.EntryTotals.{entry-combination, total-entry}

-- the row at a position, where the first row stands at position i
abbrev pub row_from : ℕ → List Vector → ℕ → List (Term Place)
row_from i [] k = []
row_from i (v ∷ vs) k = if k == i then v.terms else row_from (suc i) vs k

pub row_from-here : (i k : ℕ) (v : Vector) (vs : List Vector) → k ≡ i → row_from i (v ∷ vs) k ≡ v.terms
row_from-here i k v vs here =
    let yes : eqb k i ≡ true = grind (arith, nat_tests) in ap (λ b. if b then v.terms else row_from (suc i) vs k) yes

pub row_from-behind : (i k : ℕ) (v : Vector) (vs : List Vector) → k ≢ i → row_from i (v ∷ vs) k ≡ row_from (suc i) vs k
row_from-behind i k v vs behind =
    let no : eqb k i ≡ false = grind (arith, nat_tests) in ap (λ b. if b then v.terms else row_from (suc i) vs k) no

pub row_from-row_at : (i k : ℕ) (rows : List Vector) → row_from i rows (i + k) ≡ row_at rows k
row_from-row_at i k [] = refl
row_from-row_at i zero (v ∷ vs) = row_from-here i (i + zero) v vs (omega arith)
row_from-row_at i (suc k) (v ∷ vs) =
    row_from-behind i (i + suc k) v vs (λ same. omega arith)
    ∙ ap (row_from (suc i) vs) (omega arith)
    ∙ row_from-row_at (suc i) k vs

pub row_from-before : (i k : ℕ) (rows : List Vector) → k < i → row_from i rows k ≡ []
row_from-before i k [] before = refl
row_from-before i k (v ∷ vs) before =
    row_from-behind i k v vs (λ same. omega arith) ∙ row_from-before (suc i) k vs (omega arith)

-- the total over the products of a coefficient with an entry of a row
abbrev pub products_total : ℕ → ℕ → (Term Monomial → ℕ) → List (Term Place) → Term Place → ℕ
products_total p j g us t =
    total p (λ u. g (term_product product p (factor (λ (k : Place). k.monomial) t) u)) (entry j us)

module _ (ring : Ring) (j : ℕ) (c : List (Term Place)) (g : Term Monomial → ℕ)
    (additive : IsAdditive ring.modulus g) where
  -- a coefficient meets one of the rows
  products_total-row_from : (i : ℕ) (v : Vector) (vs : List Vector) (t : Term Place)
      → products_total ring.modulus j g (row_from i (v ∷ vs) t.at.position) t % ring.modulus
      ≡ sum_mod ring.modulus (if t.at.position == i then products_total ring.modulus j g v.terms t else 0)
      (products_total ring.modulus j g (row_from (suc i) vs t.at.position) t)
  products_total-row_from i v vs t = elim (cases_eq t.at.position i) [
    | inl here ↦
        let yes : eqb t.at.position i ≡ true = grind (arith, nat_tests) in
        ap (λ us. products_total ring.modulus j g us t % ring.modulus) (row_from-here i t.at.position v vs here)
        ∙ sym (sum_mod-zero ring.modulus (products_total ring.modulus j g v.terms t))
        ∙ (λ k. sum_mod ring.modulus (if sym yes k then products_total ring.modulus j g v.terms t else 0) (sym (none (omega arith)) k))
    | inr behind ↦
        let no : eqb t.at.position i ≡ false = grind (arith, nat_tests) in
        ap (λ us. products_total ring.modulus j g us t % ring.modulus) (row_from-behind i t.at.position v vs behind)
        ∙ sym (sum_mod-zero_first ring.modulus (products_total ring.modulus j g (row_from (suc i) vs t.at.position) t))
        ∙ (λ k. sum_mod ring.modulus (if sym no k then products_total ring.modulus j g v.terms t else 0) (products_total ring.modulus j g (row_from (suc i) vs t.at.position) t))
  ]
    where
      none : t.at.position < suc i → products_total ring.modulus j g (row_from (suc i) vs t.at.position) t ≡ 0
      none before =
          ap (λ us. products_total ring.modulus j g us t) (row_from-before (suc i) t.at.position vs before)
          ∙ total-nil ring.modulus _

  total-entry_products : (i : ℕ) (rows : List Vector)
      → total ring.modulus g (entry_products ring j c i rows)
      ≡ total ring.modulus (λ t. products_total ring.modulus j g (row_from i rows t.at.position) t) c
  total-entry_products i [] =
      total-nil ring.modulus g
      ∙ sym (total-zero ring.modulus _ c (λ t. ap (λ n. n % ring.modulus) (total-nil ring.modulus _) ∙ zero-mod ring.modulus))
  total-entry_products i (v ∷ vs) =
      total-add (monomial_cmp ring.weights) (monomial_cmp_linear ring.weights) ring.modulus g additive _ _
      ∙ (λ k. sum_mod ring.modulus (first k) (total-entry_products (suc i) vs k))
      ∙ sym (total-sum ring.modulus _ _ _ c (products_total-row_from i v vs))
    where
      first : total ring.modulus g (polynomial_product ring (entry i c) (entry j v.terms))
          ≡ total ring.modulus (λ t. if t.at.position == i then products_total ring.modulus j g v.terms t else 0) c
      first =
          total-combination (monomial_keys ring.weights) ring.modulus (λ a. a) (λ _. entry j v.terms) g additive
          (entry i c)
          ∙ total-entry ring.modulus i (share product ring.modulus (λ a. a) (λ _. entry j v.terms) g) c

module _ (ring : Ring) (positive : 0 < ring.modulus) where
  IsCanonical-entry_products : (j : ℕ) (c : List (Term Place)) (i : ℕ) (rows : List Vector)
      → IsCanonical (monomial_cmp ring.weights) ring.modulus (entry_products ring j c i rows)
  IsCanonical-entry_products j c i [] = record { descending = tt; residues = tt }
  IsCanonical-entry_products j c i (v ∷ vs) =
      IsCanonical-add (monomial_cmp ring.weights) (monomial_cmp_linear ring.weights) ring.modulus positive _ _

  pub entry-row_combination_products : (rows : List Vector) (c : List (Term Place)) (j : ℕ)
      → entry j (row_combination ring rows c) ≡ entry_products ring j c 0 rows
  entry-row_combination_products rows c j =
      entry-combination ring positive j (λ k. k.monomial) (λ k. row_at rows k.position) c
      ∙ combination-same (monomial_keys ring.weights) ring.modulus positive (λ k. k.monomial)
      (λ k. entry j (row_at rows k.position)) c _ (IsCanonical-entry_products j c 0 rows)
      (λ g additive.
      total-same ring.modulus _ _ c
      (λ t. ap (λ us. products_total ring.modulus j g us t % ring.modulus) (sym (row_from-row_at 0 t.at.position rows) ∙ ap (row_from 0 rows) (zero-add t.at.position)))
      ∙ sym (total-entry_products ring j c g additive 0 rows))
