-- Sums and negatives of vectors at a range of positions.
use Rattle.std.proofs.Common.{◌≡◌, ℕ, ◌%◌, if◌then◌else◌, Bool, true, false, nat_le, nat_lt, ◌&&◌, List, [], ◌∷◌, inl, inr, refl, sym, ◌∙◌, ap, ap}
use Rattle.std.proofs.Math.Nat.{zero-mod}
use Rattle.sf_algebra.specs.MatrixOperations.{part_terms}
use Rattle.sf_algebra.specs.Multiples.{negative, negative_term}
use Rattle.sf_algebra.specs.Residues.{sum_mod}
use Rattle.sf_algebra.specs.Rings.{Ring, IsRing}
use Rattle.sf_algebra.specs.Sums.{total}
use Rattle.sf_algebra.specs.Terms.{Term}
use Rattle.sf_algebra.specs.VectorOperations.{row_sum}
use Rattle.sf_algebra.specs.Vectors.{Place, place_cmp}
use Rattle.sf_algebra.proofs.Arithmetic.Residues.{sum_mod-zero}
use Rattle.sf_algebra.proofs.Basics.Filters.{total-filter}
use Rattle.sf_algebra.proofs.GradedMatrices.PartTerms.{moved_back, cases_between, part_terms-inside, part_terms-outside, IsCanonical-part_terms}
use Rattle.sf_algebra.proofs.Monomials.Orders.{place_cmp_linear}
use Rattle.sf_algebra.proofs.Terms.Coefficients.{same_from_total}
use Rattle.sf_algebra.proofs.Terms.DoubleTotals.{total-map}
use Rattle.sf_algebra.proofs.Terms.Totals.{IsAdditive, total-add}
use Rattle.sf_algebra.proofs.Vectors.RowSums.{IsCanonical-row_sum}

-- a number for each term in the range, once moved, and 0 for the others
abbrev at_part : ℕ → ℕ → (Term Place → ℕ) → Term Place → ℕ
at_part from to g t = if nat_le from t.at.position && nat_lt t.at.position to then g (moved_back from t) else 0

at_part-additive : (p from to : ℕ) (g : Term Place → ℕ) → IsAdditive p g → IsAdditive p (at_part from to g)
at_part-additive p from to g additive = record {
  at_zero = λ k. zeros (moved_back from (record { at = k; coefficient = 0 })).at (nat_le from k.position && nat_lt k.position to);
  at_sum = λ k a b. sums (moved_back from (record { at = k; coefficient = 0 })).at a b (nat_le from k.position && nat_lt k.position to);
}
  where
    zeros : (k : Place) (b : Bool) → (if b then g (record { at = k; coefficient = 0 }) else 0) % p ≡ 0
    zeros k true = additive.at_zero k
    zeros k false = zero-mod p

    sums : (k : Place) (m n : ℕ) (b : Bool)
        → (if b then g (record { at = k; coefficient = sum_mod p m n }) else 0) % p
        ≡ sum_mod p (if b then g (record { at = k; coefficient = m }) else 0)
        (if b then g (record { at = k; coefficient = n }) else 0)
    sums k m n true = additive.at_sum k m n
    sums k m n false = sym (sum_mod-zero p 0)

-- a total over the terms in the range is one over the vector
total-part_terms : (p from to : ℕ) (g : Term Place → ℕ) (ts : List (Term Place))
    → total p g (part_terms from to ts) ≡ total p (at_part from to g) ts
total-part_terms p from to g ts =
    total-map p g (moved_back from) _
    ∙ total-filter (λ (t : Term Place). nat_le from t.at.position && nat_lt t.at.position to) p
    (λ t. g (moved_back from t)) ts

module _ (ring : Ring) (from to : ℕ) where
  pub part_terms-add : IsRing ring → (us vs : List (Term Place))
      → part_terms from to (row_sum ring us vs) ≡ row_sum ring (part_terms from to us) (part_terms from to vs)
  part_terms-add positive us vs =
      same_from_total (place_cmp ring.weights) (place_cmp_linear ring.weights) ring.modulus positive.modulus _ _
      (IsCanonical-part_terms ring from to _ (IsCanonical-row_sum ring positive.modulus us vs))
      (IsCanonical-row_sum ring positive.modulus (part_terms from to us) (part_terms from to vs))
      (λ g additive.
      total-part_terms ring.modulus from to g (row_sum ring us vs)
      ∙ total-add (place_cmp ring.weights) (place_cmp_linear ring.weights) ring.modulus (at_part from to g)
      (at_part-additive ring.modulus from to g additive) us vs
      ∙ (λ i. sum_mod ring.modulus (sym (total-part_terms ring.modulus from to g us) i) (sym (total-part_terms ring.modulus from to g vs) i))
      ∙ sym (total-add (place_cmp ring.weights) (place_cmp_linear ring.weights) ring.modulus g additive (part_terms from to us) (part_terms from to vs)))

  pub part_terms-negative : (us : List (Term Place))
      → part_terms from to (negative ring.modulus us) ≡ negative ring.modulus (part_terms from to us)
  part_terms-negative [] = refl
  part_terms-negative (u ∷ us) =
      elim (cases_between from to u.at.position) [
        | inl inside ↦
            part_terms-inside from to (negative_term ring.modulus u) (negative ring.modulus us) inside.0 inside.1
            ∙ ap (λ ts. negative_term ring.modulus (moved_back from u) ∷ ts) (part_terms-negative us)
            ∙ sym (ap (negative ring.modulus) (part_terms-inside from to u us inside.0 inside.1))
        | inr outside ↦
            part_terms-outside from to (negative_term ring.modulus u) (negative ring.modulus us) outside
            ∙ part_terms-negative us
            ∙ sym (ap (negative ring.modulus) (part_terms-outside from to u us outside))
      ]

  -- the part of a difference
  pub part_terms-difference : IsRing ring → (us vs : List (Term Place))
      → part_terms from to (row_sum ring us (negative ring.modulus vs))
      ≡ row_sum ring (part_terms from to us) (negative ring.modulus (part_terms from to vs))
  part_terms-difference positive us vs =
      part_terms-add positive us (negative ring.modulus vs)
      ∙ ap (row_sum ring (part_terms from to us)) (part_terms-negative vs)
