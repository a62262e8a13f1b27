-- Kronecker products with an identity: rows moved on, rows scattered, and an identity.
use Rattle.std.proofs.Common.{ℤ, ◌+ℤ◌, length, ◌≡◌, ℕ, ◌+◌, ◌*◌, ◌%◌, ◌<◌, List, [], ◌∷◌, map, sym, ap, ◌∙◌, subst, inl, inr, arith}
use Rattle.std.specs.Ordering.{nat_cmp, ordering_then}
use Rattle.std.proofs.lemmas.Bool.{cases_lt}
use Rattle.std.proofs.lemmas.Bool.Decides.{nat_tests}
use Rattle.sf_algebra.specs.MatrixOperations.{unit_vector, moved, kronecker_terms, degree_sums}
use Rattle.sf_algebra.specs.Monomials.{one, monomial_cmp}
use Rattle.sf_algebra.specs.Residues.{sum_mod}
use Rattle.sf_algebra.specs.Rings.{Ring, Weights}
use Rattle.sf_algebra.specs.Sums.{total}
use Rattle.sf_algebra.specs.Terms.{Term, IsDescending, IsNonzeroResidue}
use Rattle.sf_algebra.specs.Vectors.{Place, Vector, place_cmp, generator_degree, IsVector, IsCanonicalRow}
use Rattle.sf_algebra.proofs.Arithmetic.Residues.{product_mod-one, sum_mod-zero}
use Rattle.sf_algebra.proofs.Basics.Lists.{AllByRecursion-weaken}
use Rattle.sf_algebra.proofs.GradedMatrices.Stacks.{AllByRecursion-map}
use Rattle.sf_algebra.proofs.Monomials.Orders.{place_cmp_linear}
use Rattle.sf_algebra.proofs.Monomials.Products.{nat_cmp-add, product-comm, product-one_first}
use Rattle.sf_algebra.proofs.Multiplying.CombinationLaws.{combination-one}
use Rattle.sf_algebra.proofs.Multiplying.Keys.{place_keys}
use Rattle.sf_algebra.proofs.Multiplying.MultipleLaws.{multiple-one}
use Rattle.sf_algebra.proofs.Tensors.KroneckerTerms.{kronecker_term, moved_term, total-kronecker_terms, IsCanonical-kronecker_terms}
use Rattle.sf_algebra.proofs.Tensors.KroneckerVectors.{pair_below, IsVector-kronecker_terms}
use Rattle.sf_algebra.proofs.Terms.Coefficients.{same_from_total}
use Rattle.sf_algebra.proofs.Terms.DoubleTotals.{total-map, total-same}
use Rattle.sf_algebra.proofs.Terms.Totals.{IsAdditive, additive-reduced, total-cons, total-nil, total-reduced}
use Rattle.sf_algebra.proofs.Vectors.HomogeneousVectors.{IsVector-unit_vector}
use Rattle.sf_algebra.proofs.Vectors.UnitRows.{unit_term}

IsDescending-moved : (weights : Weights) (by : ℕ) (ts : List (Term Place)) → IsDescending (place_cmp weights) ts
    → IsDescending (place_cmp weights) (moved by ts)
IsDescending-moved weights by [] h = tt
IsDescending-moved weights by (t ∷ ts) h = (
  AllByRecursion-map _ (moved_term by) ts
      (AllByRecursion-weaken _ _
      (λ u less. ap (λ o. ordering_then o (monomial_cmp weights u.at.monomial t.at.monomial)) (nat_cmp-add by t.at.position u.at.position) ∙ less)
      ts h.0),
  IsDescending-moved weights by ts h.1,
)

pub IsCanonical-moved : (ring : Ring) (by : ℕ) (ts : List (Term Place)) → IsCanonicalRow ring ts
    → IsCanonicalRow ring (moved by ts)
IsCanonical-moved ring by ts h = record {
  descending = IsDescending-moved ring.weights by ts h.descending;
  residues = AllByRecursion-map (IsNonzeroResidue ring.modulus) (moved_term by) ts h.residues;
}

-- terms at each n-th position, from k on
abbrev pub scattered : ℕ → ℕ → List (Term Place) → List (Term Place)
scattered n k ts =
    map (λ (t : Term Place). record { at = record { position = t.at.position * n + k; monomial = t.at.monomial }; coefficient = t.coefficient }) ts

nat_cmp-scattered : (n k a b : ℕ) → 0 < n → nat_cmp (a * n + k) (b * n + k) ≡ nat_cmp a b
nat_cmp-scattered n k a b positive =
    elim (cases_lt a b) [
      | inl before ↦ let more : a * n + 0 < b * n = pair_below a 0 b n before positive in grind (arith, nat_tests)
      | inr le ↦ elim (cases_lt b a) [
        | inl after ↦ let more : b * n + 0 < a * n = pair_below b 0 a n after positive in grind (arith, nat_tests)
        | inr ge ↦ let same : a ≡ b =
            omega arith in subst (λ c. nat_cmp (a * n + k) (c * n + k) ≡ nat_cmp a c) same (grind (arith, nat_tests))
      ]
    ]

IsDescending-scattered : (weights : Weights) (n k : ℕ) → 0 < n → (ts : List (Term Place))
    → IsDescending (place_cmp weights) ts → IsDescending (place_cmp weights) (scattered n k ts)
IsDescending-scattered weights n k positive [] h = tt
IsDescending-scattered weights n k positive (t ∷ ts) h = (
  AllByRecursion-map _
      (λ (t : Term Place). record { at = record { position = t.at.position * n + k; monomial = t.at.monomial }; coefficient = t.coefficient }) ts
      (AllByRecursion-weaken _ _
      (λ u less. ap (λ o. ordering_then o (monomial_cmp weights u.at.monomial t.at.monomial)) (nat_cmp-scattered n k t.at.position u.at.position positive) ∙ less)
      ts h.0),
  IsDescending-scattered weights n k positive ts h.1,
)

pub IsCanonical-scattered : (ring : Ring) (n k : ℕ) → 0 < n → (ts : List (Term Place)) → IsCanonicalRow ring ts
    → IsCanonicalRow ring (scattered n k ts)
IsCanonical-scattered ring n k positive ts h = record {
  descending = IsDescending-scattered ring.weights n k positive ts h.descending;
  residues =
      AllByRecursion-map (IsNonzeroResidue ring.modulus)
      (λ (t : Term Place). record { at = record { position = t.at.position * n + k; monomial = t.at.monomial }; coefficient = t.coefficient }) ts h.residues;
}

module _ (ring : Ring) (n : ℕ) (positive : 0 < ring.modulus) where
  -- a unit vector before a vector moves it
  pub kronecker_terms-unit_first : (i : ℕ) (w : List (Term Place)) → IsCanonicalRow ring w
      → kronecker_terms ring n (unit_term i ∷ []) w ≡ moved (i * n) w
  kronecker_terms-unit_first i w h =
      combination-one (place_keys ring.weights) ring.modulus positive (λ k. k.monomial) (λ k. moved (k.position * n) w)
      (unit_term i)
      ∙ multiple-one (place_keys ring.weights) ring.modulus positive (moved (i * n) w)
      (IsCanonical-moved ring (i * n) w h)

  -- a unit vector behind a vector scatters it
  pub kronecker_terms-unit : (k : ℕ) → 0 < n → (v : List (Term Place)) → IsCanonicalRow ring v
      → kronecker_terms ring n v (unit_term k ∷ []) ≡ scattered n k v
  kronecker_terms-unit k some v h =
      same_from_total (place_cmp ring.weights) (place_cmp_linear ring.weights) ring.modulus positive _ _
      (IsCanonical-kronecker_terms ring n positive v (unit_term k ∷ [])) (IsCanonical-scattered ring n k some v h)
      (λ g additive.
      total-kronecker_terms ring n positive g additive v (unit_term k ∷ [])
      ∙ total-same ring.modulus _ _ v (λ t. single g additive t)
      ∙ sym (total-map ring.modulus g (λ (t : Term Place). record { at = record { position = t.at.position * n + k; monomial = t.at.monomial }; coefficient = t.coefficient }) v))
    where
      single : (g : Term Place → ℕ) → IsAdditive ring.modulus g → (t : Term Place)
          → total ring.modulus (λ u. g (kronecker_term ring.modulus n t u)) (unit_term k ∷ []) % ring.modulus
          ≡ g (record {
            at = record { position = t.at.position * n + k; monomial = t.at.monomial };
            coefficient = t.coefficient;
          }) % ring.modulus
      single g additive t =
          total-reduced ring.modulus (λ u. g (kronecker_term ring.modulus n t u)) (unit_term k ∷ [])
          ∙ total-cons ring.modulus (λ u. g (kronecker_term ring.modulus n t u)) (unit_term k) []
          ∙ ap (sum_mod ring.modulus _) (total-nil ring.modulus (λ u. g (kronecker_term ring.modulus n t u)))
          ∙ sum_mod-zero ring.modulus _
          ∙ ap (λ u. g u % ring.modulus) (λ i. record {
            at = record { position = t.at.position * n + k; monomial = (product-comm t.at.monomial one ∙ product-one_first t.at.monomial) i };
            coefficient = product_mod-one ring.modulus t.coefficient i;
          })
          ∙ additive-reduced ring.modulus g additive
          (record { position = t.at.position * n + k; monomial = t.at.monomial }) t.coefficient

module _ (ring : Ring) (above : 1 < ring.modulus) (ds es : List ℤ) where
  -- a vector moved on by whole blocks, over the sums of degrees
  pub IsVector-moved : (i : ℕ) (w : Vector) → i < length ds → IsVector ring es w
      → IsVector ring (degree_sums ds es)
      (record { degree = generator_degree ds i +ℤ w.degree; terms = moved (i * length es) w.terms })
  IsVector-moved i w inside h =
      let positive : 0 < ring.modulus = omega arith in
      subst (λ ts. IsVector ring (degree_sums ds es) (record { degree = generator_degree ds i +ℤ w.degree; terms = ts })) (kronecker_terms-unit_first ring (length es) positive i w.terms h.canonical)
      (IsVector-kronecker_terms ring positive ds es (unit_vector (generator_degree ds i) i) w (IsVector-unit_vector ring ds above i inside) h)

  -- a vector scattered
  pub IsVector-scattered : (k : ℕ) (v : Vector) → k < length es → IsVector ring ds v
      → IsVector ring (degree_sums ds es)
      (record { degree = v.degree +ℤ generator_degree es k; terms = scattered (length es) k v.terms })
  IsVector-scattered k v inside h =
      let positive : 0 < ring.modulus = omega arith in
      subst (λ ts. IsVector ring (degree_sums ds es) (record { degree = v.degree +ℤ generator_degree es k; terms = ts })) (kronecker_terms-unit ring (length es) positive k (omega arith) v.terms h.canonical)
      (IsVector-kronecker_terms ring positive ds es v (unit_vector (generator_degree es k) k) h (IsVector-unit_vector ring es above k inside))
