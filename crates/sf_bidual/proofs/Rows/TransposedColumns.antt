-- The transposes of an exact sequence of maps that ends in a free module are exact, and the last one is one to one.
use Rattle.std.proofs.Common.{◌≡◌, ◌↔◌, ◌<◌, ℕ, zero, suc, List, [], ◌∷◌, map, refl, sym, ◌∙◌, ap, subst, arith, ℤ, neg_ℤ}
use Rattle.sf_algebra.specs.Matrices.{Matrix, row_degrees, IsMatrix}
use Rattle.sf_algebra.specs.MatrixOperations.{matrix_product, transposed, IsComposable}
use Rattle.sf_algebra.specs.Rings.{Ring}
use Rattle.sf_algebra.specs.Vectors.{Vector, IsVector}
use Rattle.sf_algebra.proofs.GradedMatrices.TransposedProducts.{transposed-matrix_product}
use Rattle.sf_algebra.proofs.GradedMatrices.Transposes.{row_degrees-transposed}
use Rattle.sf_blocks.specs.MatrixSums.{zero_matrix, IsZeroMatrix}
use Rattle.sf_blocks.proofs.MatrixSums.SumGroups.{IsMatrix-zero_matrix, row_at-zero_matrix, row_degrees-zero_matrix}
use Rattle.sf_blocks.proofs.MatrixSums.SumProducts.{row_combination-zeros}
use Rattle.sf_blocks.proofs.MatrixSums.SumTransposes.{transposed-zero}
use Rattle.sf_groebner.specs.Spans.{InSpan, IsSyzygy}
use Rattle.sf_homotopy.specs.Exactness.{AreExactBehind, IsExactPair, to_nothing, from_nothing}
use Rattle.sf_homotopy.specs.Homotopies.{AreContracted, IsHomotopy}
use Rattle.sf_homotopy.proofs.Contracting.Contractions.{contractions}
use Rattle.sf_homotopy.proofs.Contracting.Splitting.{exact_by_homotopy}
use Rattle.sf_homotopy.proofs.Contracting.Transposes.{transposed_homotopy}
use Rattle.sf_homotopy.proofs.Exactness.ZeroProducts.{zero_products}

-- the first maps of a sequence
abbrev pub first_maps : (ℕ → Matrix) → ℕ → List Matrix
first_maps f zero = []
first_maps f (suc k) = f zero ∷ first_maps (λ j. f (suc j)) k

exact_behind : (out : Matrix) (f : ℕ → Matrix) (k : ℕ) → IsExactPair out (f zero)
    → ((j : ℕ) → IsExactPair (f j) (f (suc j))) → AreExactBehind out (first_maps f k)
exact_behind out f zero h e = tt
exact_behind out f (suc k) h e = (h, exact_behind (f zero) (λ j. f (suc j)) k (e zero) (λ j. e (suc j)))

-- a homotopy at a place of the sequence
homotopy_at : (j : ℕ) (out back : Matrix) (f : ℕ → Matrix) → AreContracted out back (first_maps f (suc (suc j)))
    → (b : Matrix) × (c : Matrix) × IsHomotopy (f j) b c (f (suc j))
homotopy_at zero out back f h = (h.0, h.2.0, h.2.1)
homotopy_at (suc j) out back f h = homotopy_at j (f zero) h.0 (λ k. f (suc k)) h.2

-- transposes of maps that give 0, one after the other, give 0 in the other order
pub transposed_zero : (out into : Matrix) → IsComposable into out → IsMatrix into → IsMatrix out
    → IsZeroMatrix (matrix_product into out) → IsZeroMatrix (matrix_product (transposed out) (transposed into))
transposed_zero out into meet mi mo none =
    let product = matrix_product into out in
    let same : transposed product ≡ matrix_product (transposed out) (transposed into) =
    transposed-matrix_product into out meet mi mo in
    let zeros : IsZeroMatrix (transposed product) =
    ap transposed none
    ∙ transposed-zero into.ring (row_degrees product) out.target
    ∙ ap (λ ds. zero_matrix into.ring ds (map neg_ℤ (row_degrees product))) (sym (row_degrees-transposed product)) in
    subst IsZeroMatrix same zeros

transposed_pair : (out back forth into : Matrix) → IsExactPair out into → IsHomotopy out back forth into
    → IsExactPair (transposed into) (transposed out)
transposed_pair out back forth into exact h =
    exact_by_homotopy (transposed into) (transposed forth) (transposed back) (transposed out)
    (transposed_homotopy out back forth into h)
    (transposed_zero out into exact.meet exact.into_matrix exact.out_matrix (zero_products out into h.above_one exact))

module _ (ring : Ring) (above : 1 < ring.modulus) (degrees : List ℤ) (f : ℕ → Matrix) (rings : (f 0).ring ≡ ring)
    (target : (f 0).target ≡ degrees) (onto : (v : Vector) → InSpan (f 0) v ↔ IsVector ring degrees v)
    (exact : (j : ℕ) → IsExactPair (f j) (f (suc j))) where
  positive : 0 < ring.modulus
  positive = omega arith

  start : IsExactPair (to_nothing ring degrees) (f 0)
  start = record {
    out_matrix = IsMatrix-zero_matrix ring degrees [];
    into_matrix = (exact 0).out_matrix;
    meet = record {
      positive = subst (λ (q : Ring). 0 < q.modulus) (sym rings) positive;
      rings = rings;
      degrees = row_degrees-zero_matrix ring degrees [] ∙ sym target;
    };
    exact = λ v. (
      λ k. (onto v).1 (subst (λ ds. IsVector ring ds v) (row_degrees-zero_matrix ring degrees []) k.coefficients),
      λ k. record {
        coefficients = subst (λ ds. IsVector ring ds v) (sym (row_degrees-zero_matrix ring degrees [])) ((onto v).0 k);
        zero = row_combination-zeros ring positive (to_nothing ring degrees).rows (row_at-zero_matrix ring degrees [])
            v.terms;
      },
    );
  }

  contracted : (k : ℕ) → AreContracted (to_nothing ring degrees) (from_nothing ring degrees) (first_maps f k)
  contracted k =
      contractions ring degrees (first_maps f k) above (exact_behind (to_nothing ring degrees) f k start exact)

  pub transposed_exact_at : (j : ℕ) → IsExactPair (transposed (f (suc j))) (transposed (f j))
  transposed_exact_at j =
      let h = homotopy_at j (to_nothing ring degrees) (from_nothing ring degrees) f (contracted (suc (suc j))) in
      transposed_pair (f j) h.0 h.1 (f (suc j)) (exact j) h.2

  start_pair : IsExactPair (transposed (f 0)) (transposed (to_nothing ring degrees))
  start_pair =
      let h = contracted 1 in
      transposed_pair (to_nothing ring degrees) (from_nothing ring degrees) h.0 (f 0) start h.1

  -- what the transpose of the augmentation sends to 0 is 0
  pub transposed_one_to_one : (v : Vector) → IsSyzygy (transposed (f 0)) v → v.terms ≡ []
  transposed_one_to_one v h =
      let s : InSpan (zero_matrix ring [] (map neg_ℤ degrees)) v =
      subst (λ m. InSpan m v) (transposed-zero ring degrees []) ((start_pair.exact v).0 h) in
      sym (ap (λ (w : Vector). w.terms) s.value)
      ∙ row_combination-zeros ring positive [] (λ i. refl) s.coefficients.terms
