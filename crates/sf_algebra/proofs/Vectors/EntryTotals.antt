-- Totals over an entry of a vector, and the entries of combinations of rows: products of vectors, entry by entry.
use Rattle.std.proofs.Common.{◌≡◌, ℕ, ◌%◌, ◌<◌, eqb, if◌then◌else◌, ◌==◌, Bool, true, false, List, [], ◌∷◌, sym, ap, ◌∙◌, inl, inr, arith}
use Rattle.std.proofs.Math.Nat.{zero-mod}
use Rattle.std.proofs.lemmas.Bool.{cases_eq}
use Rattle.std.proofs.lemmas.Bool.Decides.{nat_tests}
use Rattle.sf_algebra.specs.MatrixOperations.{row_at, row_combination}
use Rattle.sf_algebra.specs.Monomials.{Monomial, product, monomial_cmp}
use Rattle.sf_algebra.specs.Multiples.{place_product, term_product, combination}
use Rattle.sf_algebra.specs.Residues.{sum_mod}
use Rattle.sf_algebra.specs.Rings.{Ring}
use Rattle.sf_algebra.specs.Sums.{normal, total}
use Rattle.sf_algebra.specs.Terms.{Term}
use Rattle.sf_algebra.specs.Vectors.{Place, Vector, place_cmp, entry}
use Rattle.sf_algebra.proofs.Arithmetic.Residues.{sum_mod-zero, sum_mod-zero_first}
use Rattle.sf_algebra.proofs.Monomials.Orders.{monomial_cmp_linear, place_cmp_linear}
use Rattle.sf_algebra.proofs.Multiplying.CombinationLaws.{combination-same}
use Rattle.sf_algebra.proofs.Multiplying.Combinations.{IsCanonical-combination, factor, total-combination}
use Rattle.sf_algebra.proofs.Multiplying.Keys.{monomial_keys, place_keys}
use Rattle.sf_algebra.proofs.Multiplying.MultipleLaws.{term_product-comm}
use Rattle.sf_algebra.proofs.Terms.Coefficients.{same_from_total}
use Rattle.sf_algebra.proofs.Terms.DoubleTotals.{total_exchange, total-same}
use Rattle.sf_algebra.proofs.Terms.Normal.{IsCanonical-normal}
use Rattle.sf_algebra.proofs.Terms.Totals.{IsAdditive, total-nil, total-cons, total-normal, total-reduced}
use Rattle.sf_algebra.proofs.Vectors.Entries.{without_position, entry-here, entry-elsewhere}
use Rattle.sf_algebra.proofs.Vectors.Positions.{IsCanonical-entry}

-- a number for each term at a position, and 0 for the others
abbrev pub at_entry : ℕ → (Term Monomial → ℕ) → Term Place → ℕ
at_entry j g t = if t.at.position == j then g (without_position t) else 0

-- a total over an entry is one over the vector
pub total-entry : (p j : ℕ) (g : Term Monomial → ℕ) (ts : List (Term Place))
    → total p g (entry j ts) ≡ total p (at_entry j g) ts
total-entry p j g [] = total-nil p g ∙ sym (total-nil p (at_entry j g))
total-entry p j g (t ∷ ts) =
    elim (cases_eq t.at.position j) [
      | inl here ↦
          let yes : eqb t.at.position j ≡ true = grind (arith, nat_tests) in
          ap (total p g) (entry-here j t ts here)
          ∙ total-cons p g (without_position t) (entry j ts)
          ∙ (λ i. sum_mod p (if sym yes i then g (without_position t) else 0) (total-entry p j g ts i))
          ∙ sym (total-cons p (at_entry j g) t ts)
      | inr elsewhere ↦
          let no : eqb t.at.position j ≡ false = grind (arith, nat_tests) in
          ap (total p g) (entry-elsewhere j t ts elsewhere)
          ∙ total-entry p j g ts
          ∙ sym (total-reduced p (at_entry j g) ts)
          ∙ sym (sum_mod-zero_first p (total p (at_entry j g) ts))
          ∙ (λ i. sum_mod p (if sym no i then g (without_position t) else 0) (total p (at_entry j g) ts))
          ∙ sym (total-cons p (at_entry j g) t ts)
    ]

pub at_entry-additive : (p j : ℕ) (g : Term Monomial → ℕ) → IsAdditive p g → IsAdditive p (at_entry j g)
at_entry-additive p j g additive = record {
  at_zero = λ k. none k.monomial (eqb k.position j);
  at_sum = λ k a b. sums k.monomial a b (eqb k.position j);
}
  where
    none : (k : Monomial) (b : Bool) → (if b then g (record { at = k; coefficient = 0 }) else 0) % p ≡ 0
    none k true = additive.at_zero k
    none k false = zero-mod p

    sums : (k : Monomial) (m n : ℕ) (b : Bool)
        → (if b then g (record { at = k; coefficient = sum_mod p m n }) else 0) % p
        ≡ sum_mod p (if b then g (record { at = k; coefficient = m }) else 0)
        (if b then g (record { at = k; coefficient = n }) else 0)
    sums k m n true = additive.at_sum k m n
    sums k m n false = zero-mod p ∙ sym (sum_mod-zero p 0 ∙ zero-mod p)

module _ (ring : Ring) (positive : 0 < ring.modulus) where
  -- an entry of the vector that a list of terms means
  pub entry-normal : (j : ℕ) (ts : List (Term Place))
      → entry j (normal (place_cmp ring.weights) ring.modulus ts)
      ≡ normal (monomial_cmp ring.weights) ring.modulus (entry j ts)
  entry-normal j ts =
      same_from_total (monomial_cmp ring.weights) (monomial_cmp_linear ring.weights) ring.modulus positive _ _
      (IsCanonical-entry ring j (normal (place_cmp ring.weights) ring.modulus ts) (IsCanonical-normal (place_cmp ring.weights) (place_cmp_linear ring.weights) ring.modulus positive ts))
      (IsCanonical-normal (monomial_cmp ring.weights) (monomial_cmp_linear ring.weights) ring.modulus positive (entry j ts))
      (λ g additive.
      total-entry ring.modulus j g (normal (place_cmp ring.weights) ring.modulus ts)
      ∙ total-normal (place_cmp ring.weights) (place_cmp_linear ring.weights) ring.modulus (at_entry j g)
      (at_entry-additive ring.modulus j g additive) ts
      ∙ sym (total-entry ring.modulus j g ts)
      ∙ sym (total-normal (monomial_cmp ring.weights) (monomial_cmp_linear ring.weights) ring.modulus g additive (entry j ts)))

  -- an entry of a combination is the combination of the entries
  pub entry-combination : {C : Type 0} (j : ℕ) (monomial : C → Monomial) (row : C → List (Term Place))
      (c : List (Term C))
      → entry j (combination (place_cmp ring.weights) place_product ring.modulus monomial row c)
      ≡ combination (monomial_cmp ring.weights) product ring.modulus monomial (λ k. entry j (row k)) c
  entry-combination j monomial row c =
      sym (combination-same (monomial_keys ring.weights) ring.modulus positive monomial (λ k. entry j (row k)) c _
      (IsCanonical-entry ring j _ (IsCanonical-combination (place_keys ring.weights) ring.modulus monomial row positive c))
      (λ g additive.
      total-same ring.modulus _ _ c
      (λ t. ap (λ n. n % ring.modulus) (total-entry ring.modulus j (λ u. g (term_product product ring.modulus (factor monomial t) u)) (row t.at)))
      ∙ sym (total-combination (place_keys ring.weights) ring.modulus monomial row (at_entry j g) (at_entry-additive ring.modulus j g additive) c)
      ∙ sym (total-entry ring.modulus j g _)))

-- the product of two vectors, entry by entry
abbrev pub inner_product : Ring → List (Term Place) → List (Term Place) → List (Term Monomial)
inner_product ring c d =
    combination (monomial_cmp ring.weights) product ring.modulus (λ (k : Place). k.monomial)
    (λ (k : Place). entry k.position d) c

meets_comm : (p : ℕ) (g : Term Monomial → ℕ) (t s : Term Place)
    → at_entry t.at.position (λ u. g (term_product product p (without_position t) u)) s
    ≡ at_entry s.at.position (λ u. g (term_product product p (without_position s) u)) t
meets_comm p g t s =
    let same : eqb s.at.position t.at.position ≡ eqb t.at.position s.at.position = grind (arith, nat_tests) in
    λ i. if same i then g (term_product-comm p (without_position t) (without_position s) i) else 0

module _ (ring : Ring) (positive : 0 < ring.modulus) where
  pub inner_product-comm : (c d : List (Term Place)) → inner_product ring c d ≡ inner_product ring d c
  inner_product-comm c d =
      combination-same (monomial_keys ring.weights) ring.modulus positive (λ k. k.monomial)
      (λ k. entry k.position d) c _
      (IsCanonical-combination (monomial_keys ring.weights) ring.modulus (λ k. k.monomial) (λ k. entry k.position c) positive d)
      (λ g additive.
      total-same ring.modulus _ _ c
      (λ t. ap (λ n. n % ring.modulus) (total-entry ring.modulus t.at.position (λ u. g (term_product product ring.modulus (without_position t) u)) d))
      ∙ total_exchange ring.modulus
      (λ t s. at_entry t.at.position (λ u. g (term_product product ring.modulus (without_position t) u)) s) c d
      ∙ total-same ring.modulus _ _ d (λ s. ap (λ n. n % ring.modulus)
      (total-same ring.modulus _ _ c (λ t. ap (λ n. n % ring.modulus) (meets_comm ring.modulus g t s))
      ∙ sym (total-entry ring.modulus s.at.position (λ u. g (term_product product ring.modulus (without_position s) u)) c)))
      ∙ sym (total-combination (monomial_keys ring.weights) ring.modulus (λ k. k.monomial) (λ k. entry k.position c) g additive d))

  -- an entry of a combination of rows is a product with a column, whose entries are the rows'
  pub entry-row_combination : (j : ℕ) (rows : List Vector) (c column : List (Term Place))
      → ((l : ℕ) → entry l column ≡ entry j (row_at rows l))
      → entry j (row_combination ring rows c) ≡ inner_product ring c column
  entry-row_combination j rows c column same =
      entry-combination ring positive j (λ (k : Place). k.monomial) (λ (k : Place). row_at rows k.position) c
      ∙ (λ i. combination (monomial_cmp ring.weights) product ring.modulus (λ (k : Place). k.monomial) (λ (k : Place). sym (same k.position) i) c)
