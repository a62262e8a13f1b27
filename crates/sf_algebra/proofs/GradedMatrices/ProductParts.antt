-- A part of a product is the product of the rows' part and the columns' part.
use Rattle.std.proofs.Common.{◌≡◌, refl, ℕ, ◌+◌, ◌%◌, ◌<◌, ◌≤◌, List, [], length, slice_range, sym, ap, ◌∙◌, inl, inr, arith}
use Rattle.std.proofs.Math.Nat.{zero-mod}
use Rattle.std.proofs.lemmas.Bool.{cases_lt}
use Rattle.sf_algebra.specs.Matrices.{Matrix, IsMatrix}
use Rattle.sf_algebra.specs.MatrixOperations.{row_at, row_combination, matrix_product, part, part_terms}
use Rattle.sf_algebra.specs.Monomials.{Monomial, product, monomial_cmp}
use Rattle.sf_algebra.specs.Multiples.{combination}
use Rattle.sf_algebra.specs.Rings.{Ring}
use Rattle.sf_algebra.specs.Terms.{Term}
use Rattle.sf_algebra.specs.Vectors.{Place, Vector, entry}
use Rattle.sf_algebra.proofs.Basics.Lists.{AllByRecursion-weaken}
use Rattle.sf_algebra.proofs.GradedMatrices.MatrixRows.{with_terms}
use Rattle.sf_algebra.proofs.GradedMatrices.PartTerms.{entry-part_terms, IsWithin-part_terms, IsCanonical-part_terms, part_terms-whole}
use Rattle.sf_algebra.proofs.GradedMatrices.Ranges.{AllByRecursion-slice_range, slice_range-map, slice_range-whole}
use Rattle.sf_algebra.proofs.GradedMatrices.Stacks.{with_terms-with_terms, with_terms-each}
use Rattle.sf_algebra.proofs.GradedMatrices.Transposes.{entry-outside}
use Rattle.sf_algebra.proofs.Multiplying.CombinationLaws.{combination-same}
use Rattle.sf_algebra.proofs.Multiplying.Keys.{Keys, monomial_keys}
use Rattle.sf_algebra.proofs.Terms.DoubleTotals.{total-zero}
use Rattle.sf_algebra.proofs.Terms.Totals.{total-nil}
use Rattle.sf_algebra.proofs.Vectors.EntryTotals.{entry-combination}
use Rattle.sf_algebra.proofs.Vectors.Positions.{same_from_entries}
use Rattle.sf_algebra.proofs.Vectors.Rows.{IsCanonical-row_combination, row_at-map}

-- a combination of rows without terms
pub combination-no_rows : {C K : Type 0} (keys : Keys K) (p : ℕ) → 0 < p → (monomial : C → Monomial) (c : List (Term C))
    → combination keys.cmp keys.act p monomial (λ _. []) c ≡ []
combination-no_rows keys p positive monomial c =
    combination-same keys p positive monomial (λ _. []) c [] (record { descending = tt; residues = tt })
    (λ g additive. total-zero p _ c (λ t. ap (λ n. n % p) (total-nil p _) ∙ zero-mod p) ∙ sym (total-nil p g))

module _ (ring : Ring) (positive : 0 < ring.modulus) where
  -- a part of a combination is the combination of the parts
  pub part_terms-row_combination : (from to : ℕ) (rows : List Vector) (c : List (Term Place))
      → part_terms from to (row_combination ring rows c) ≡ row_combination ring (with_terms (part_terms from to) rows) c
  part_terms-row_combination from to rows c =
      same_from_entries ring.weights _ _
      (IsCanonical-part_terms ring from to _ (IsCanonical-row_combination ring positive rows c)).descending
      (IsCanonical-row_combination ring positive (with_terms (part_terms from to) rows) c).descending
      (λ j. elim (cases_lt (from + j) to) [
        | inl within ↦
            entry-part_terms from to j (row_combination ring rows c) within
            ∙ entry-combination ring positive (from + j) (λ (k : Place). k.monomial)
            (λ (k : Place). row_at rows k.position) c
            ∙ (λ i. combination (monomial_cmp ring.weights) product ring.modulus (λ (k : Place). k.monomial)
            (λ (k : Place). sym (ap (entry j) (row_at-map (part_terms from to) refl rows k.position) ∙ entry-part_terms from to j (row_at rows k.position) within) i) c)
            ∙ sym (entry-combination ring positive j (λ (k : Place). k.monomial) (λ (k : Place). row_at (with_terms (part_terms from to) rows) k.position) c)
        | inr past ↦
            outside from to j (row_combination ring rows c) past
            ∙ sym (entry-combination ring positive j (λ (k : Place). k.monomial) (λ (k : Place). row_at (with_terms (part_terms from to) rows) k.position) c
            ∙ (λ i. combination (monomial_cmp ring.weights) product ring.modulus (λ (k : Place). k.monomial)
            (λ (k : Place). (ap (entry j) (row_at-map (part_terms from to) refl rows k.position) ∙ outside from to j (row_at rows k.position) past) i) c)
            ∙ combination-no_rows (monomial_keys ring.weights) ring.modulus positive (λ (k : Place). k.monomial) c)
      ])
    where
      outside : (from to j : ℕ) (ts : List (Term Place)) → to ≤ from + j → entry j (part_terms from to ts) ≡ []
      outside from to j ts past =
          entry-outside _ (part_terms from to ts) j (IsWithin-part_terms from to ts) (omega arith)

pub part-matrix_product : (r0 r1 c0 c1 : ℕ) (a b : Matrix) → 0 < a.ring.modulus → IsMatrix a
    → part r0 r1 c0 c1 (matrix_product a b)
    ≡ matrix_product (part r0 r1 0 (length a.target) a) (part 0 (length b.rows) c0 c1 b)
part-matrix_product r0 r1 c0 c1 a b positive h =
    let ring = a.ring in
    let n = length a.target in
    let few = slice_range a.rows r0 r1 in
    let columns = (part 0 (length b.rows) c0 c1 b).rows in
    let rows = ap (with_terms (part_terms c0 c1)) (slice_range-map (λ (v : Vector). record { degree = v.degree; terms = row_combination ring b.rows v.terms }) a.rows r0 r1)
    ∙ with_terms-with_terms (part_terms c0 c1) (row_combination ring b.rows) few
    ∙ with_terms-each (λ ts. part_terms c0 c1 (row_combination ring b.rows ts))
    (λ ts. row_combination ring columns (part_terms 0 n ts)) few
    (AllByRecursion-weaken _ _
    (λ v k. part_terms-row_combination ring positive c0 c1 b.rows v.terms
    ∙ ap (λ vs. row_combination ring (with_terms (part_terms c0 c1) vs) v.terms)
    (sym (slice_range-whole b.rows (length b.rows) (omega arith)))
    ∙ ap (row_combination ring columns)
    (sym (part_terms-whole n v.terms (AllByRecursion-weaken _ _ (λ t e. e.0) v.terms k.homogeneous))))
    few (AllByRecursion-slice_range _ a.rows r0 r1 h))
    ∙ sym (with_terms-with_terms (row_combination ring columns) (part_terms 0 n) few) in
    λ i. record { ring = ring; target = slice_range b.target c0 c1; rows = rows i }
