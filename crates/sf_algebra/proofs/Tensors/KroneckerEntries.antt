-- The entries of a Kronecker product are the products of entries.
use Rattle.std.proofs.Common.{◌≡◌, ◌≢◌, refl, ℕ, ◌+◌, ◌*◌, ◌%◌, ◌<◌, eqb, true, false, if◌then◌else◌, List, [], ◌∷◌, length, sym, ap, ◌∙◌, inl, inr, arith}
use Rattle.std.proofs.lemmas.Bool.{cases_eq, cases_lt}
use Rattle.std.proofs.lemmas.Bool.Decides.{nat_tests}
use Rattle.sf_algebra.specs.Matrices.{Matrix, IsMatrix}
use Rattle.sf_algebra.specs.MatrixOperations.{row_at, moved, kronecker_terms, kronecker}
use Rattle.sf_algebra.specs.Monomials.{Monomial, product}
use Rattle.sf_algebra.specs.Multiples.{term_product}
use Rattle.sf_algebra.specs.Polynomials.{polynomial_product}
use Rattle.sf_algebra.specs.Rings.{Ring}
use Rattle.sf_algebra.specs.Sums.{total}
use Rattle.sf_algebra.specs.Terms.{Term}
use Rattle.sf_algebra.specs.Vectors.{Place, entry}
use Rattle.sf_algebra.proofs.GradedMatrices.MatrixRows.{StandsWithin, IsWithin-matrix_row}
use Rattle.sf_algebra.proofs.Multiplying.CombinationLaws.{combination-same}
use Rattle.sf_algebra.proofs.Multiplying.Combinations.{total-combination}
use Rattle.sf_algebra.proofs.Multiplying.Keys.{monomial_keys}
use Rattle.sf_algebra.proofs.Multiplying.Polynomials.{IsCanonical-polynomial_product}
use Rattle.sf_algebra.proofs.Tensors.Kronecker.{row_at-kronecker}
use Rattle.sf_algebra.proofs.Tensors.KroneckerTerms.{moved_term}
use Rattle.sf_algebra.proofs.Tensors.KroneckerVectors.{pair_below}
use Rattle.sf_algebra.proofs.Terms.DoubleTotals.{total-same}
use Rattle.sf_algebra.proofs.Terms.Totals.{total-nil}
use Rattle.sf_algebra.proofs.Vectors.Entries.{without_position, entry-here, entry-elsewhere}
use Rattle.sf_algebra.proofs.Vectors.EntryTotals.{at_entry, total-entry, entry-combination}

pub entry-moved : (by j m : ℕ) (ts : List (Term Place)) → m ≡ by + j → entry m (moved by ts) ≡ entry j ts
entry-moved by j m [] e = refl
entry-moved by j m (t ∷ ts) e =
    elim (cases_eq t.at.position j) [
      | inl here ↦ entry-here m (moved_term by t) (moved by ts) (omega arith)
          ∙ ap (λ es. without_position t ∷ es) (entry-moved by j m ts e) ∙ sym (entry-here j t ts here)
      | inr elsewhere ↦ entry-elsewhere m (moved_term by t) (moved by ts) (λ same. elsewhere (omega arith))
          ∙ entry-moved by j m ts e ∙ sym (entry-elsewhere j t ts elsewhere)
    ]

-- pairs of other first numbers have other numbers
other_pair : (i j k l n : ℕ) → i ≢ j → k < n → l < n → i * n + k ≢ j * n + l
other_pair i j k l n other first second same =
    elim (cases_lt i j) [
      | inl before ↦ let below = pair_below i k j n before first in omega arith
      | inr le ↦ let below = pair_below j l i n (let h : j < i = omega arith in h) second in omega arith
    ]

-- terms moved by another number of blocks of n positions
entry-moved_other : (n i j l : ℕ) (ts : List (Term Place)) → i ≢ j → l < n → StandsWithin n ts
    → entry (j * n + l) (moved (i * n) ts) ≡ []
entry-moved_other n i j l [] other inside within = refl
entry-moved_other n i j l (t ∷ ts) other inside within =
    entry-elsewhere (j * n + l) (moved_term (i * n) t) (moved (i * n) ts)
    (other_pair i j t.at.position l n other within.0 inside)
    ∙ entry-moved_other n i j l ts other inside within.1

module _ (ring : Ring) (n : ℕ) (positive : 0 < ring.modulus) where
  -- the entry at a pair's number is the product of the two entries
  pub entry-kronecker_terms : (j l : ℕ) (v w : List (Term Place)) → l < n → StandsWithin n w
      → entry (j * n + l) (kronecker_terms ring n v w) ≡ polynomial_product ring (entry j v) (entry l w)
  entry-kronecker_terms j l v w inside within =
      entry-combination ring positive (j * n + l) (λ (k : Place). k.monomial)
      (λ (k : Place). moved (k.position * n) w) v
      ∙ combination-same (monomial_keys ring.weights) ring.modulus positive (λ (k : Place). k.monomial)
      (λ (k : Place). entry (j * n + l) (moved (k.position * n) w)) v _
      (IsCanonical-polynomial_product ring positive (entry j v) (entry l w))
      (λ g additive.
      total-same ring.modulus _ (at_entry j (share g)) v (part g)
      ∙ sym (total-entry ring.modulus j (share g) v)
      ∙ sym (total-combination (monomial_keys ring.weights) ring.modulus (λ a. a) (λ _. entry l w) g additive (entry j v)))
    where
      share : (Term Monomial → ℕ) → Term Monomial → ℕ
      share g e = total ring.modulus (λ u. g (term_product product ring.modulus e u)) (entry l w)

      part : (g : Term Monomial → ℕ) (t : Term Place)
          → total ring.modulus (λ u. g (term_product product ring.modulus (without_position t) u))
          (entry (j * n + l) (moved (t.at.position * n) w)) % ring.modulus
          ≡ at_entry j (λ e. total ring.modulus (λ u. g (term_product product ring.modulus e u)) (entry l w)) t %
          ring.modulus
      part g t =
          elim (cases_eq t.at.position j) [
            | inl here ↦
                let yes : eqb t.at.position j ≡ true = grind (arith, nat_tests) in
                let value =
                total ring.modulus (λ u. g (term_product product ring.modulus (without_position t) u)) (entry l w) in
                ap (λ es. total ring.modulus (λ u. g (term_product product ring.modulus (without_position t) u)) es % ring.modulus)
                (ap (λ i. entry (j * n + l) (moved (i * n) w)) here ∙ entry-moved (j * n) l (j * n + l) w refl)
                ∙ ap (λ b. (if b then value else 0) % ring.modulus) (sym yes)
            | inr elsewhere ↦
                let no : eqb t.at.position j ≡ false = grind (arith, nat_tests) in
                let value =
                total ring.modulus (λ u. g (term_product product ring.modulus (without_position t) u)) (entry l w) in
                ap (λ es. total ring.modulus (λ u. g (term_product product ring.modulus (without_position t) u)) es % ring.modulus) (entry-moved_other n t.at.position j l w elsewhere inside within)
                ∙ ap (λ m. m % ring.modulus) (total-nil ring.modulus _)
                ∙ ap (λ b. (if b then value else 0) % ring.modulus) (sym no)
          ]

pub entry-kronecker : (a b : Matrix) → 0 < a.ring.modulus → IsMatrix b → (i k j l : ℕ) → k < length b.rows
    → l < length b.target
    → entry (j * length b.target + l) (row_at (kronecker a b).rows (i * length b.rows + k))
    ≡ polynomial_product a.ring (entry j (row_at a.rows i)) (entry l (row_at b.rows k))
entry-kronecker a b positive h i k j l row column =
    ap (entry (j * length b.target + l)) (row_at-kronecker a b positive i k row)
    ∙ entry-kronecker_terms a.ring (length b.target) positive j l (row_at a.rows i) (row_at b.rows k) column
    (IsWithin-matrix_row b.ring b.target b.rows h k)
