-- Sums of lists one behind the other: unit rows that begin further on, and the two parts of a vector.
use Rattle.std.proofs.Common.{◌≡◌, subst, ℕ, ◌+◌, ◌%◌, ◌<◌, List, [], ◌++◌, length, sym, ◌∙◌, ap, ℤ}
use Rattle.sf_algebra.specs.MatrixOperations.{moved, part_terms, row_at, row_combination, unit_rows}
use Rattle.sf_algebra.specs.Monomials.{one}
use Rattle.sf_algebra.specs.Multiples.{place_product, term_product}
use Rattle.sf_algebra.specs.Residues.{sum_mod}
use Rattle.sf_algebra.specs.Rings.{Ring, IsRing}
use Rattle.sf_algebra.specs.Sums.{add, total}
use Rattle.sf_algebra.specs.Terms.{Term}
use Rattle.sf_algebra.specs.VectorOperations.{row_sum}
use Rattle.sf_algebra.specs.Vectors.{Place, place_cmp, IsCanonicalRow}
use Rattle.sf_algebra.proofs.Arithmetic.Residues.{product_mod-one, sum_mod-zero}
use Rattle.sf_algebra.proofs.Basics.Lists.{AllByRecursion-weaken}
use Rattle.sf_algebra.proofs.GradedMatrices.MatrixRows.{StandsWithin}
use Rattle.sf_algebra.proofs.Monomials.Orders.{place_cmp_linear}
use Rattle.sf_algebra.proofs.Monomials.Products.{product-comm, product-one_first}
use Rattle.sf_algebra.proofs.Multiplying.CombinationLaws.{combination-same}
use Rattle.sf_algebra.proofs.Multiplying.Combinations.{factor, share}
use Rattle.sf_algebra.proofs.Multiplying.Keys.{place_keys}
use Rattle.sf_algebra.proofs.Tensors.KroneckerUnits.{IsCanonical-moved}
use Rattle.sf_algebra.proofs.Terms.DoubleTotals.{total-each, total-map}
use Rattle.sf_algebra.proofs.Terms.Sums.{normal-canonical}
use Rattle.sf_algebra.proofs.Terms.Totals.{IsAdditive, additive-reduced, total-cons, total-nil, total-reduced}
use Rattle.sf_algebra.proofs.Vectors.UnitRows.{row_at-unit_rows}
use Rattle.sf_groebner.proofs.PartsOfBases.PairedVectors.{paired_terms-parts}

-- a sum whose terms stand in order is one list after the other
pub add-canonical_append : (ring : Ring) → IsRing ring → (us vs : List (Term Place)) → IsCanonicalRow ring (us ++ vs)
    → row_sum ring us vs ≡ us ++ vs
unfolding add
add-canonical_append ring positive us vs h =
    normal-canonical (place_cmp ring.weights) (place_cmp_linear ring.weights) ring.modulus positive.modulus (us ++ vs) h

-- unit rows that begin at position n move coefficients by n
pub row_combination-unit_rows_from : (ring : Ring) → IsRing ring → (n : ℕ) (ds : List ℤ) (c : List (Term Place))
    → IsCanonicalRow ring c → StandsWithin (length ds) c → row_combination ring (unit_rows n ds) c ≡ moved n c
row_combination-unit_rows_from ring positive n ds c canonical within =
    combination-same (place_keys ring.weights) ring.modulus positive.modulus (λ k. k.monomial)
    (λ k. row_at (unit_rows n ds) k.position) c (moved n c) (IsCanonical-moved ring n c canonical)
    (λ g additive.
    total-each ring.modulus _
    (λ t. g (record { at = record { position = n + t.at.position; monomial = t.at.monomial }; coefficient = t.coefficient })) c
    (AllByRecursion-weaken _ _ (λ t h. moves g additive t h) c within)
    ∙ sym (total-map ring.modulus g _ c))
  where
    moves : (g : Term Place → ℕ) → IsAdditive ring.modulus g → (t : Term Place) → t.at.position < length ds
        → share place_product ring.modulus (λ k. k.monomial)
        (λ k. row_at (unit_rows n ds) k.position) g t % ring.modulus
        ≡ g (record { at = record { position = n + t.at.position; monomial = t.at.monomial }; coefficient = t.coefficient }) % ring.modulus
    moves g additive t h =
        let part = λ (u : Term Place). g (term_product place_product ring.modulus (factor (λ k. k.monomial) t) u) in
        let place : Place = record { position = n + t.at.position; monomial = t.at.monomial } in
        ap (λ us. total ring.modulus part us % ring.modulus) (row_at-unit_rows ds n t.at.position h)
        ∙ total-reduced ring.modulus part _
        ∙ total-cons ring.modulus part _ []
        ∙ ap (sum_mod ring.modulus _) (total-nil ring.modulus part)
        ∙ sum_mod-zero ring.modulus _
        ∙ (λ i.
        g (record {
          at = record { position = n + t.at.position; monomial = (product-comm t.at.monomial one ∙ product-one_first t.at.monomial) i };
          coefficient = product_mod-one ring.modulus t.coefficient i;
        })
        % ring.modulus)
        ∙ additive-reduced ring.modulus g additive place t.coefficient

-- a vector is the sum of its terms at the first n positions and of those behind them
pub add-parts : (ring : Ring) → IsRing ring → (n k : ℕ) (ts : List (Term Place)) → IsCanonicalRow ring ts
    → StandsWithin (n + k) ts → row_sum ring (part_terms 0 n ts) (moved n (part_terms n (n + k) ts)) ≡ ts
add-parts ring positive n k ts canonical within =
    let parts = paired_terms-parts ring.weights n k ts canonical.descending within in
    add-canonical_append ring positive (part_terms 0 n ts) (moved n (part_terms n (n + k) ts))
    (subst (IsCanonicalRow ring) (sym parts) canonical) ∙ parts
