-- A homogeneous combination is the combination with those coefficients alone that have its degree.
use Rattle.std.proofs.Common.{◌≡◌, ℕ, ◌%◌, ◌<◌, if◌then◌else◌, Bool, true, false, nat_lt, ◌&&◌, int_eq, inl, inr, List, length, refl, sym, ◌∙◌, ap, arith, ℤ, pos, ◌+ℤ◌}
use Rattle.std.proofs.Math.Nat.{zero-mod}
use Rattle.std.proofs.lemmas.Bool.{and_parts, cases_lt}
use Rattle.std.proofs.lemmas.Bool.Decides.{Decides-int_eq, nat_tests}
use Rattle.std.proofs.lemmas.List.{length-map}
use Rattle.sf_algebra.specs.DegreeParts.{has_degree, degree_part}
use Rattle.sf_algebra.specs.Matrices.{degrees_of}
use Rattle.sf_algebra.specs.MatrixOperations.{row_at, row_combination}
use Rattle.sf_algebra.specs.Monomials.{monomial_degree}
use Rattle.sf_algebra.specs.Multiples.{place_product, term_product}
use Rattle.sf_algebra.specs.Residues.{sum_mod}
use Rattle.sf_algebra.specs.Rings.{Ring, Weights}
use Rattle.sf_algebra.specs.Sums.{total}
use Rattle.sf_algebra.specs.Terms.{Term}
use Rattle.sf_algebra.specs.Vectors.{Place, Vector, generator_degree, place_degree, IsTermOfDegree, IsHomogeneous}
use Rattle.sf_algebra.proofs.Arithmetic.Residues.{sum_mod-zero}
use Rattle.sf_algebra.proofs.Basics.Filters.{AllByRecursion-filter, total-filter}
use Rattle.sf_algebra.proofs.Basics.Lists.{AllByRecursion-weaken}
use Rattle.sf_algebra.proofs.Multiplying.CombinationLaws.{combination-same}
use Rattle.sf_algebra.proofs.Multiplying.Combinations.{factor, share, total-combination}
use Rattle.sf_algebra.proofs.Multiplying.Keys.{place_keys}
use Rattle.sf_algebra.proofs.Terms.DoubleTotals.{total-each, total-same, total-zero}
use Rattle.sf_algebra.proofs.Terms.Totals.{IsAdditive, total-nil}
use Rattle.sf_algebra.proofs.Vectors.Degrees.{HasHomogeneousRows, IsHomogeneous-row_at, place_degree-term_product}
use Rattle.sf_algebra.proofs.Vectors.Rows.{IsCanonical-row_combination, row_at-past}

pub IsHomogeneous-degree_part : (weights : Weights) (degrees : List ℤ) (d : ℤ) (ts : List (Term Place)) → IsHomogeneous weights degrees d (degree_part weights degrees d ts)
IsHomogeneous-degree_part weights degrees d ts =
    AllByRecursion-filter (IsTermOfDegree weights degrees d) (has_degree weights degrees d) ts (λ t e.
    let parts : (nat_lt t.at.position (length degrees) ≡ true) × (int_eq d (place_degree weights degrees t.at) ≡ true) =
    and_parts _ _ e in
    (below t.at.position (length degrees) parts.0, (Decides-int_eq d (place_degree weights degrees t.at)).0 parts.1))
  where
    below : (i n : ℕ) → nat_lt i n ≡ true → i < n
    below i n e = grind (arith, nat_tests)

-- a number for each term of degree d, and 0 for the others
abbrev pub at_degree : Weights → List ℤ → ℤ → (Term Place → ℕ) → Term Place → ℕ
at_degree weights degrees d g t = if int_eq d (place_degree weights degrees t.at) then g t else 0

module _ (degrees : List ℤ) (d : ℤ) (ring : Ring) (g : Term Place → ℕ) where
  pub at_degree-additive : IsAdditive ring.modulus g → IsAdditive ring.modulus (at_degree ring.weights degrees d g)
  at_degree-additive additive = record {
    at_zero = λ k. zeros k (int_eq d (place_degree ring.weights degrees k));
    at_sum = λ k a b. sums k a b (int_eq d (place_degree ring.weights degrees k));
  }
    where
      zeros : (k : Place) (b : Bool) → (if b then g (record { at = k; coefficient = 0 }) else 0) % ring.modulus ≡ 0
      zeros k true = additive.at_zero k
      zeros k false = zero-mod ring.modulus

      sums : (k : Place) (m n : ℕ) (b : Bool)
          → (if b then g (record { at = k; coefficient = sum_mod ring.modulus m n }) else 0) % ring.modulus
          ≡ sum_mod ring.modulus (if b then g (record { at = k; coefficient = m }) else 0)
          (if b then g (record { at = k; coefficient = n }) else 0)
      sums k m n true = additive.at_sum k m n
      sums k m n false = sym (sum_mod-zero ring.modulus 0)

  -- over a homogeneous list the other terms are none
  pub total-at_degree : (ts : List (Term Place)) → IsHomogeneous ring.weights degrees d ts
      → total ring.modulus (at_degree ring.weights degrees d g) ts ≡ total ring.modulus g ts
  total-at_degree ts h =
      total-each ring.modulus (at_degree ring.weights degrees d g) g ts
      (AllByRecursion-weaken _ _ (λ t k. ap (λ b. (if b then g t else 0) % ring.modulus) ((Decides-int_eq d (place_degree ring.weights degrees t.at)).1 k.1)) ts h)

nothing : (b : Bool) (n : ℕ) → n ≡ 0 → (if b then n else 0) ≡ 0
nothing true n none = none
nothing false n none = refl

module _ (target : List ℤ) (d : ℤ) (ring : Ring) (rows : List Vector)
    (homogeneous : HasHomogeneousRows ring.weights target rows) where
  -- the products of a coefficient with the terms of its row have the coefficient's degree
  place_degree-share : (t u : Term Place)
      → generator_degree (degrees_of rows) t.at.position ≡ place_degree ring.weights target u.at
      → place_degree ring.weights target (term_product place_product ring.modulus (factor (λ k. k.monomial) t) u).at
      ≡ place_degree ring.weights (degrees_of rows) t.at
  place_degree-share t u e =
      place_degree-term_product target ring (factor (λ k. k.monomial) t) u
      ∙ ap (λ z. z +ℤ pos (monomial_degree ring.weights t.at.monomial)) (sym e)

  -- so the share of a coefficient counts in full or not at all
  share-at_degree : (g : Term Place → ℕ) (t : Term Place)
      → share place_product ring.modulus (λ k. k.monomial) (λ k. row_at rows k.position)
      (at_degree ring.weights target d g) t
      ≡ (if int_eq d (place_degree ring.weights (degrees_of rows) t.at) then share place_product ring.modulus (λ k. k.monomial) (λ k. row_at rows k.position) g t else 0)
  share-at_degree g t =
      total-each ring.modulus _
      (λ u. if int_eq d (place_degree ring.weights (degrees_of rows) t.at) then g (term_product place_product ring.modulus (factor (λ k. k.monomial) t) u) else 0) (row_at rows t.at.position)
      (AllByRecursion-weaken _ _ (λ u h. ap (λ z. (if int_eq d z then g (term_product place_product ring.modulus (factor (λ k. k.monomial) t) u) else 0) % ring.modulus) (place_degree-share t u h.1))
      (row_at rows t.at.position) (IsHomogeneous-row_at ring.weights target rows homogeneous t.at.position))
      ∙ chosen (int_eq d (place_degree ring.weights (degrees_of rows) t.at))
    where
      chosen : (b : Bool) → total ring.modulus
          (λ u. if b then g (term_product place_product ring.modulus (factor (λ k. k.monomial) t) u) else 0)
          (row_at rows t.at.position)
          ≡ (if b then share place_product ring.modulus (λ k. k.monomial) (λ k. row_at rows k.position) g t else 0)
      chosen true = refl
      chosen false = total-zero ring.modulus (λ _. 0) (row_at rows t.at.position) (λ u. zero-mod ring.modulus)

  -- a coefficient past the rows has no share
  share-within : (g : Term Place → ℕ) (t : Term Place)
      → (if has_degree ring.weights (degrees_of rows) d t then share place_product ring.modulus (λ k. k.monomial)
      (λ k. row_at rows k.position) g t else 0)
      ≡ (if int_eq d (place_degree ring.weights (degrees_of rows) t.at) then share place_product ring.modulus (λ k. k.monomial) (λ k. row_at rows k.position) g t else 0)
  share-within g t = elim (cases_lt t.at.position (length (degrees_of rows))) [
    | inl within ↦ let e : nat_lt t.at.position (length (degrees_of rows)) ≡ true = grind (arith, nat_tests) in
        ap (λ b. if b && int_eq d (place_degree ring.weights (degrees_of rows) t.at) then share place_product ring.modulus (λ k. k.monomial) (λ k. row_at rows k.position) g t else 0) e
    | inr past ↦
        let none : share place_product ring.modulus (λ k. k.monomial) (λ k. row_at rows k.position) g t ≡ 0 =
        ap (total ring.modulus (λ u. g (term_product place_product ring.modulus (factor (λ k. k.monomial) t) u)))
        (row_at-past rows t.at.position (simp length-map at past))
        ∙ total-nil ring.modulus _ in
        nothing (has_degree ring.weights (degrees_of rows) d t) _ none
        ∙ sym (nothing (int_eq d (place_degree ring.weights (degrees_of rows) t.at)) _ none)
  ]

  -- the combination with the coefficients of its degree
  pub row_combination-degree_part : 0 < ring.modulus → (c : List (Term Place)) → IsHomogeneous ring.weights target d (row_combination ring rows c)
      → row_combination ring rows (degree_part ring.weights (degrees_of rows) d c) ≡ row_combination ring rows c
  row_combination-degree_part positive c h =
      combination-same (place_keys ring.weights) ring.modulus positive (λ k. k.monomial) (λ k. row_at rows k.position)
      (degree_part ring.weights (degrees_of rows) d c) (row_combination ring rows c)
      (IsCanonical-row_combination ring positive rows c)
      (λ g additive.
      total-filter (has_degree ring.weights (degrees_of rows) d) ring.modulus
      (share place_product ring.modulus (λ k. k.monomial) (λ k. row_at rows k.position) g) c
      ∙ total-same ring.modulus _ _ c (λ t. ap (λ n. n % ring.modulus) (share-within g t ∙ sym (share-at_degree g t)))
      ∙ sym (total-combination (place_keys ring.weights) ring.modulus (λ k. k.monomial) (λ k. row_at rows k.position) (at_degree ring.weights target d g) (at_degree-additive target d ring g additive) c)
      ∙ total-at_degree target d ring g (row_combination ring rows c) h)
