-- Unit vectors: as coefficients they pick a row, and as rows they give the coefficients back.
use Rattle.std.proofs.Common.{◌≡◌, ℕ, zero, suc, ◌+◌, ◌%◌, ◌<◌, List, [], ◌∷◌, length, ◌∙◌, ap, arith, ℤ, zero-add}
use Rattle.std.specs.List.{AllByRecursion}
use Rattle.sf_algebra.specs.MatrixOperations.{row_at, row_combination, unit_rows}
use Rattle.sf_algebra.specs.Monomials.{one}
use Rattle.sf_algebra.specs.Multiples.{place_product, term_product}
use Rattle.sf_algebra.specs.Residues.{sum_mod}
use Rattle.sf_algebra.specs.Rings.{Ring}
use Rattle.sf_algebra.specs.Sums.{total}
use Rattle.sf_algebra.specs.Terms.{Term}
use Rattle.sf_algebra.specs.Vectors.{Place, Vector, IsCanonicalRow}
use Rattle.sf_algebra.proofs.Arithmetic.Residues.{product_mod-one, sum_mod-zero}
use Rattle.sf_algebra.proofs.Basics.Lists.{AllByRecursion-weaken}
use Rattle.sf_algebra.proofs.Monomials.Products.{product-comm, product-one_first}
use Rattle.sf_algebra.proofs.Multiplying.CombinationLaws.{combination-same}
use Rattle.sf_algebra.proofs.Multiplying.Combinations.{factor, share}
use Rattle.sf_algebra.proofs.Multiplying.Keys.{place_keys}
use Rattle.sf_algebra.proofs.Multiplying.MultipleLaws.{multiple-one}
use Rattle.sf_algebra.proofs.Terms.DoubleTotals.{total-each}
use Rattle.sf_algebra.proofs.Terms.Totals.{IsAdditive, additive-reduced, total-cons, total-nil, total-reduced}
use Rattle.sf_algebra.proofs.Vectors.Rows.{row_combination-one}

-- the term of the unit vector at a position
abbrev pub unit_term : ℕ → Term Place
unit_term i = record { at = record { position = i; monomial = one }; coefficient = 1 }

pub row_at-unit_rows : (degrees : List ℤ) (from i : ℕ) → i < length degrees
    → row_at (unit_rows from degrees) i ≡ unit_term (from + i) ∷ []
row_at-unit_rows [] from i h = absurd (omega arith)
row_at-unit_rows (d ∷ ds) from zero h = ap (λ n. unit_term n ∷ []) (omega arith)
row_at-unit_rows (d ∷ ds) from (suc i) h =
    row_at-unit_rows ds (suc from) i (omega arith) ∙ ap (λ n. unit_term n ∷ []) (omega arith)

-- a unit vector of coefficients picks a row
pub row_combination-unit : (ring : Ring) → 0 < ring.modulus → (rows : List Vector) (i : ℕ)
    → IsCanonicalRow ring (row_at rows i) → row_combination ring rows (unit_term i ∷ []) ≡ row_at rows i
row_combination-unit ring positive rows i h =
    row_combination-one ring positive rows (unit_term i)
    ∙ multiple-one (place_keys ring.weights) ring.modulus positive (row_at rows i) h

-- a coefficient times the unit vector at its position
pub term_product-unit_term : (p : ℕ) (t : Term Place)
    → term_product place_product p (factor (λ k. k.monomial) t) (unit_term (0 + t.at.position))
    ≡ record { at = t.at; coefficient = t.coefficient % p }
term_product-unit_term p t = λ i. record {
  at = record { position = zero-add t.at.position i; monomial = (product-comm t.at.monomial one ∙ product-one_first t.at.monomial) i };
  coefficient = product_mod-one p t.coefficient i;
}

-- unit rows give the coefficients back
pub row_combination-unit_rows : (ring : Ring) → 0 < ring.modulus → (degrees : List ℤ) (c : List (Term Place))
    → IsCanonicalRow ring c → AllByRecursion (λ t. t.at.position < length degrees) c
    → row_combination ring (unit_rows 0 degrees) c ≡ c
row_combination-unit_rows ring positive degrees c canonical within =
    combination-same (place_keys ring.weights) ring.modulus positive (λ k. k.monomial)
    (λ k. row_at (unit_rows 0 degrees) k.position) c c canonical
    (λ g additive. total-each ring.modulus _ _ c (AllByRecursion-weaken _ _ (λ t h. gives_back g additive t h) c within))
  where
    gives_back : (g : Term Place → ℕ) → IsAdditive ring.modulus g → (t : Term Place) → t.at.position < length degrees
        → share place_product ring.modulus (λ k. k.monomial)
        (λ k. row_at (unit_rows 0 degrees) k.position) g t % ring.modulus ≡ g t % ring.modulus
    gives_back g additive t h =
        let part = λ (u : Term Place). g (term_product place_product ring.modulus (factor (λ k. k.monomial) t) u) in
        ap (λ us. total ring.modulus part us % ring.modulus) (row_at-unit_rows degrees 0 t.at.position h)
        ∙ total-reduced ring.modulus part _
        ∙ total-cons ring.modulus part _ []
        ∙ ap (sum_mod ring.modulus _) (total-nil ring.modulus part)
        ∙ sum_mod-zero ring.modulus _
        ∙ ap (λ u. g u % ring.modulus) (term_product-unit_term ring.modulus t)
        ∙ additive-reduced ring.modulus g additive t.at t.coefficient
