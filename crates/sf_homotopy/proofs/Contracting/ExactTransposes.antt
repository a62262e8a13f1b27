-- The transposes of an exact complex that contracts, in the other order, are exact.
use Rattle.std.proofs.Common.{◌≡◌, ◌<◌, List, [], ◌∷◌, ◌++◌, map, reverse, sym, ◌∙◌, ap, subst, ℤ, neg_ℤ}
use Rattle.std.proofs.lemmas.List.{reverse-append}
use Rattle.sf_algebra.specs.Matrices.{Matrix, row_degrees}
use Rattle.sf_algebra.specs.MatrixOperations.{matrix_product, transposed}
use Rattle.sf_algebra.specs.Rings.{Ring}
use Rattle.sf_algebra.proofs.GradedMatrices.TransposedProducts.{transposed-matrix_product}
use Rattle.sf_algebra.proofs.GradedMatrices.Transposes.{row_degrees-transposed}
use Rattle.sf_blocks.specs.MatrixSums.{zero_matrix, IsZeroMatrix}
use Rattle.sf_blocks.proofs.MatrixSums.SumTransposes.{transposed-zero}
use Rattle.sf_homotopy.specs.Exactness.{AreExactBehind, IsExactComplex, IsExactPair, to_nothing, from_nothing}
use Rattle.sf_homotopy.specs.Homotopies.{AreContracted, IsHomotopy}
use Rattle.sf_homotopy.proofs.Contracting.Contractions.{contractions}
use Rattle.sf_homotopy.proofs.Contracting.Splitting.{exact_by_homotopy}
use Rattle.sf_homotopy.proofs.Contracting.Transposes.{transposed_homotopy}
use Rattle.sf_homotopy.proofs.Exactness.ZeroProducts.{zero_products}

-- the transposes of two maps that give 0, one after the other, give 0 in the other order
transposed_zero_product : (out into : Matrix) → IsExactPair out into → IsZeroMatrix (matrix_product into out)
    → IsZeroMatrix (matrix_product (transposed out) (transposed into))
transposed_zero_product out into exact none =
    let product = matrix_product into out in
    let same : transposed product ≡ matrix_product (transposed out) (transposed into) =
    transposed-matrix_product into out exact.meet exact.into_matrix exact.out_matrix in
    let zeros : IsZeroMatrix (transposed product) =
    ap transposed none
    ∙ transposed-zero into.ring (row_degrees product) out.target
    ∙ ap (λ ds. zero_matrix into.ring ds (map neg_ℤ (row_degrees product))) (sym (row_degrees-transposed product)) in
    subst IsZeroMatrix same zeros

transposed_exact : (out back forth into : Matrix) → IsExactPair out into → IsHomotopy out back forth into
    → IsExactPair (transposed into) (transposed out)
transposed_exact out back forth into exact h =
    exact_by_homotopy (transposed into) (transposed forth) (transposed back) (transposed out)
    (transposed_homotopy out back forth into h)
    (transposed_zero_product out into exact (zero_products out into h.above_one exact))

-- one more map behind the last
AreExactBehind-push : (out : Matrix) (more : List Matrix) (a b : Matrix) → AreExactBehind out (more ++ a ∷ [])
    → IsExactPair a b → AreExactBehind out ((more ++ a ∷ []) ++ b ∷ [])
AreExactBehind-push out [] a b h k = (h.0, (k, tt))
AreExactBehind-push out (m ∷ more) a b h k = (h.0, AreExactBehind-push m more a b h.1 k)

IsExactComplex-push : (maps : List Matrix) (a b : Matrix) → IsExactComplex (maps ++ a ∷ []) → IsExactPair a b
    → IsExactComplex ((maps ++ a ∷ []) ++ b ∷ [])
IsExactComplex-push [] a b h k = (k, tt)
IsExactComplex-push (m ∷ more) a b h k = AreExactBehind-push m more a b h k

-- in the other order, the first comes last
reverse-transposed : (m : Matrix) (maps : List Matrix)
    → reverse (map transposed (m ∷ maps)) ≡ reverse (map transposed maps) ++ transposed m ∷ []
reverse-transposed m maps = reverse-append (transposed m ∷ []) (map transposed maps)

exact_of_contracted : (out back : Matrix) (maps : List Matrix) → AreExactBehind out maps → AreContracted out back maps
    → IsExactComplex (reverse (map transposed maps) ++ transposed out ∷ [])
exact_of_contracted out back [] exact h = tt
exact_of_contracted out back (into ∷ more) exact h =
    subst (λ ms. IsExactComplex (ms ++ transposed out ∷ [])) (sym (reverse-transposed into more))
    (IsExactComplex-push (reverse (map transposed more)) (transposed into) (transposed out)
    (exact_of_contracted into h.0 more exact.1 h.2) (transposed_exact out back h.0 into exact.0 h.1))

pub exact_transposes : (ring : Ring) (degrees : List ℤ) (maps : List Matrix) → 1 < ring.modulus
    → IsExactComplex (to_nothing ring degrees ∷ maps)
    → IsExactComplex (reverse (map transposed (to_nothing ring degrees ∷ maps)))
exact_transposes ring degrees maps above exact =
    subst IsExactComplex (sym (reverse-transposed (to_nothing ring degrees) maps))
    (exact_of_contracted (to_nothing ring degrees) (from_nothing ring degrees) maps exact
    (contractions ring degrees maps above exact))
