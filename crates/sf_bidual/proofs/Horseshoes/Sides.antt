-- Sides of horseshoes exist: each product that is to be lifted is sent to 0 by the map before, so it is in the span.
use Rattle.std.proofs.Common.{◌≡◌, ◌↔◌, ◌<◌, ℕ, zero, suc, List, [], ◌∷◌, refl, sym, ◌∙◌, ap, subst, arith}
use Rattle.std.specs.List.{AllByRecursion}
use Rattle.sf_algebra.specs.Matrices.{Matrix, row_degrees, IsMatrix}
use Rattle.sf_algebra.specs.MatrixOperations.{identity, matrix_product, negated, row_combination, IsComposable}
use Rattle.sf_algebra.specs.Rings.{Ring, IsOverField}
use Rattle.sf_algebra.specs.Vectors.{Vector}
use Rattle.sf_algebra.proofs.Basics.Lists.{AllByRecursion-weaken}
use Rattle.sf_algebra.proofs.GradedMatrices.Identities.{IsMatrix-identity}
use Rattle.sf_algebra.proofs.GradedMatrices.MatrixProducts.{IsMatrix-matrix_product, row_degrees-matrix_product}
use Rattle.sf_algebra.proofs.GradedMatrices.NegatedMatrices.{IsMatrix-negated, row_degrees-negated}
use Rattle.sf_algebra.proofs.GradedMatrices.ProductLaws.{matrix_product-assoc, matrix_product-identity_first, matrix_product-negated, matrix_product-negated_first}
use Rattle.sf_algebra.proofs.GradedMatrices.Stacks.{AllByRecursion-map}
use Rattle.sf_blocks.specs.BlockLists.{IsTo}
use Rattle.sf_blocks.specs.MatrixSums.{IsZeroMatrix}
use Rattle.sf_blocks.proofs.TwoByTwo.ZeroParts.{IsZeroMatrix-product_first}
use Rattle.sf_groebner.specs.MinimalGenerators.{matrix_of}
use Rattle.sf_groebner.specs.Presentations.{IsRelation}
use Rattle.sf_groebner.specs.Spans.{InSpan, combined}
use Rattle.sf_groebner.proofs.Constructions.LiftExistence.{lift_exists}
use Rattle.sf_homotopy.specs.Exactness.{IsExactPair}
use Rattle.sf_homotopy.proofs.Exactness.Lifts.{rows_in_span, span_products}
use Rattle.sf_homotopy.proofs.Exactness.ZeroProducts.{zero_products}
use Rattle.sf_bidual.specs.Horseshoes.{AreLifts, AreSides, HaveLifts, IsHorseshoe}
use Rattle.sf_bidual.proofs.Horseshoes.Lifts.{IsMatrix-lifts, matrix_product-lifts, negated-zero, row_degrees-lifts}

-- what a horseshoe has but for its sides past the first
pub record IsPrepared (first last : ℕ → Matrix) (start : Matrix) : Type 0 where
  pub above_one : 1 < (first 0).ring.modulus
  pub first_exact : (j : ℕ) → IsExactPair (first j) (first (suc j))
  pub last_exact : (j : ℕ) → IsExactPair (last (suc j)) (last (suc (suc j)))
  pub into : IsTo (first 0).ring (first 0).target start
  pub last_ring : (last 1).ring ≡ (first 0).ring
  pub last_target : (last 1).target ≡ row_degrees start
  pub relations : (c : Vector) → IsRelation start (InSpan (first 0)) c ↔ InSpan (last 1) c

pub horseshoe_of : (first last sides : ℕ → Matrix) → IsPrepared first last (sides 0) → AreSides first last sides
    → IsHorseshoe first last sides
horseshoe_of first last sides h lifts = record {
  above_one = h.above_one;
  first_exact = h.first_exact;
  last_exact = h.last_exact;
  start = h.into;
  last_ring = h.last_ring;
  last_target = h.last_target;
  relations = h.relations;
  lifts = lifts;
}

-- the rows of a matrix have lifts where they are in the span
row_lifts : (m : Matrix) → IsOverField m.ring → IsMatrix m → (vs : List Vector) → AllByRecursion (InSpan m) vs
    → (cs : List Vector) × HaveLifts m vs cs
row_lifts m prime matrix [] h = ([], tt)
row_lifts m prime matrix (v ∷ vs) h =
    let c = lift_exists m prime matrix v h.0 in
    let cs = row_lifts m prime matrix vs h.1 in
    (c.0 ∷ cs.0, (c.1, cs.1))

pub lifts_exist : (m v : Matrix) → IsOverField m.ring → IsMatrix m → AllByRecursion (InSpan m) v.rows
    → (l : Matrix) × AreLifts m v l
lifts_exist m v prime matrix h =
    let c = row_lifts m prime matrix v.rows h in
    (matrix_of m.ring (row_degrees m) c.0, record { ring = refl; target = refl; rows = c.1 })

module _ (first last : ℕ → Matrix) (start : Matrix) (h : IsPrepared first last start)
    (prime : IsOverField (first 0).ring) where
  abbrev ring : Ring
  ring = (first 0).ring

  positive : 0 < ring.modulus
  positive = let one = h.above_one in omega arith

  first-ring : (j : ℕ) → (first j).ring ≡ ring
  first-ring zero = refl
  first-ring (suc j) = (h.first_exact j).meet.rings ∙ first-ring j

  last-ring : (j : ℕ) → (last (suc j)).ring ≡ ring
  last-ring zero = h.last_ring
  last-ring (suc j) = (h.last_exact j).meet.rings ∙ last-ring j

  last-matrix : (j : ℕ) → IsMatrix (last (suc j))
  last-matrix j = (h.last_exact j).out_matrix

  last-positive : (j : ℕ) → 0 < (last (suc j)).ring.modulus
  last-positive j = subst (λ (q : Ring). 0 < q.modulus) (sym (last-ring j)) positive

  -- a side, and that the product before it is in the span
  pub record IsSide (j : ℕ) (side : Matrix) : Type 0 where
    pub matrix : IsMatrix side
    pub ring_of : side.ring ≡ (first j).ring
    pub target_of : side.target ≡ (first j).target
    pub meets : (last (suc j)).target ≡ row_degrees side
    pub spanned : AllByRecursion (InSpan (first j)) (negated (matrix_product (last (suc j)) side)).rows

  last-side : (j : ℕ) (side : Matrix) → IsSide j side → IsComposable (last (suc j)) side
  last-side j side s = record {
    positive = last-positive j;
    rings = last-ring j ∙ sym (first-ring j) ∙ sym s.ring_of;
    degrees = sym s.meets;
  }

  pub start-side : IsSide 0 start
  start-side =
      let b = last 1 in
      let above : 1 < b.ring.modulus =
      subst (λ (q : Ring). 1 < q.modulus) (sym h.last_ring) h.above_one in
      let ones = identity b.ring (row_degrees b) in
      let minus = negated b in
      let same : matrix_product (negated ones) b ≡ minus =
      matrix_product-negated_first ones b (last-positive 0) (IsMatrix-identity b.ring above (row_degrees b))
      ∙ ap negated (matrix_product-identity_first b (last-positive 0) (last-matrix 0)) in
      let rows : AllByRecursion (InSpan b) minus.rows =
      subst (λ (m : Matrix). AllByRecursion (InSpan b) m.rows) same
      (span_products (negated ones) b
      (record { positive = last-positive 0; rings = refl; degrees = refl })
      (IsMatrix-negated ones (IsMatrix-identity b.ring above (row_degrees b)))) in
      let images : AllByRecursion (λ v. InSpan (first 0) (combined start v)) minus.rows =
      AllByRecursion-weaken (InSpan b) (λ v. InSpan (first 0) (combined start v))
      (λ v s. ((h.relations v).1 s).inside) minus.rows rows in
      let rings : b.ring ≡ start.ring = h.last_ring ∙ sym h.into.ring_of in
      let product : AllByRecursion (InSpan (first 0)) (matrix_product minus start).rows =
      AllByRecursion-map (InSpan (first 0))
      (λ (v : Vector). record { degree = v.degree; terms = row_combination b.ring start.rows v.terms }) minus.rows
      (subst (λ q. AllByRecursion (λ (v : Vector). InSpan (first 0) (record {
        degree = v.degree;
        terms = row_combination q start.rows v.terms;
      })) minus.rows) (sym rings) images) in
      record {
        matrix = h.into.matrix;
        ring_of = h.into.ring_of;
        target_of = h.into.target_of;
        meets = h.last_target;
        spanned = subst (λ (m : Matrix). AllByRecursion (InSpan (first 0)) m.rows)
            (matrix_product-negated_first b start (last-positive 0) (last-matrix 0)) product;
      }

  module _ (j : ℕ) (side : Matrix) (s : IsSide j side) where
    abbrev before : Matrix
    before = negated (matrix_product (last (suc j)) side)

    pub next_side : (l : Matrix) × AreLifts (first j) (negated (matrix_product (last (suc j)) side)) l
    next_side =
        lifts_exist (first j) before (subst IsOverField (sym (first-ring j)) prime) (h.first_exact j).out_matrix s.spanned

    abbrev l : Matrix
    l = next_side.0

    l-matrix : IsMatrix l
    l-matrix = IsMatrix-lifts (first j) before l next_side.1

    l-degrees : row_degrees l ≡ row_degrees (last (suc j))
    l-degrees =
        row_degrees-lifts (first j) before l next_side.1
        ∙ row_degrees-negated (matrix_product (last (suc j)) side)
        ∙ row_degrees-matrix_product (last (suc j)) side

    value : matrix_product l (first j) ≡ before
    value =
        matrix_product-lifts (first j) before l next_side.1 (first-ring j ∙ sym (last-ring j)) (sym s.target_of)

    abbrev c : Matrix
    c = last (suc (suc j))

    c-l : IsComposable c l
    c-l = record {
      positive = last-positive (suc j);
      rings = last-ring (suc j) ∙ sym (first-ring j) ∙ sym next_side.1.ring;
      degrees = l-degrees ∙ (h.last_exact j).meet.degrees;
    }

    product-matrix : IsMatrix (matrix_product c l)
    product-matrix = IsMatrix-matrix_product c l c-l (last-matrix (suc j)) l-matrix

    c-ring : c.ring ≡ (first j).ring
    c-ring = last-ring (suc j) ∙ sym (first-ring j)

    product-first : IsComposable (negated (matrix_product c l)) (first j)
    product-first = record {
      positive = last-positive (suc j);
      rings = c-ring;
      degrees = sym next_side.1.target;
    }

    -- the next product is sent to 0
    product-zero : IsZeroMatrix (matrix_product (negated (matrix_product c l)) (first j))
    product-zero =
        let b = last (suc j) in
        let above : 1 < b.ring.modulus =
        subst (λ (q : Ring). 1 < q.modulus) (sym (last-ring j)) h.above_one in
        let lower = matrix_product b side in
        let lower-matrix = IsMatrix-matrix_product b side (last-side j side s) (last-matrix j) s.matrix in
        let same : matrix_product (matrix_product c l) (first j) ≡ negated (matrix_product (matrix_product c b) side) =
        matrix_product-assoc c l (first j) (last-positive (suc j)) c-l.rings
        ∙ ap (matrix_product c) value
        ∙ matrix_product-negated c lower (last-positive (suc j)) (h.last_exact j).meet.rings lower-matrix
        ∙ ap negated (sym (matrix_product-assoc c b side (last-positive (suc j)) (h.last_exact j).meet.rings)) in
        let none : IsZeroMatrix (matrix_product (matrix_product c b) side) =
        IsZeroMatrix-product_first (matrix_product c b) side (last-positive (suc j))
        (zero_products b c above (h.last_exact j)) in
        subst IsZeroMatrix
        (sym (matrix_product-negated_first (matrix_product c l) (first j) (last-positive (suc j)) product-matrix))
        (negated-zero (matrix_product (matrix_product c l) (first j))
        (subst IsZeroMatrix (sym same) (negated-zero (matrix_product (matrix_product c b) side) none)))

    pub next-side : IsSide (suc j) (next_side.0)
    next-side = record {
      matrix = l-matrix;
      ring_of = next_side.1.ring ∙ sym (h.first_exact j).meet.rings;
      target_of = next_side.1.target ∙ (h.first_exact j).meet.degrees;
      meets = sym (l-degrees ∙ (h.last_exact j).meet.degrees);
      spanned = rows_in_span (first j) (first (suc j)) (h.first_exact j) (negated (matrix_product c l))
          (IsMatrix-negated (matrix_product c l) product-matrix) product-first product-zero;
    }

  -- side by side
  abbrev pub chain : (j : ℕ) → (side : Matrix) × IsSide j side
  chain zero = (start, start-side)
  chain (suc j) = ((next_side j (chain j).0 (chain j).1).0, next-side j (chain j).0 (chain j).1)

  pub sides_exist : (sides : ℕ → Matrix) × (sides 0 ≡ start) × AreSides first last sides
  sides_exist = (λ j. (chain j).0, refl, λ j. (next_side j (chain j).0 (chain j).1).1)
