-- The product of two total differentials is zero exactly where the laws of a bicomplex hold, spot by spot.
use Rattle.std.proofs.Common.{◌≡◌, ◌↔◌, refl, ◌<◌, List, [], ◌∷◌, sym, subst}
use Rattle.sf_algebra.specs.Matrices.{Matrix, row_degrees}
use Rattle.sf_algebra.specs.MatrixOperations.{matrix_product}
use Rattle.sf_algebra.specs.Rings.{Ring}
use Rattle.sf_blocks.specs.MatrixSums.{IsZeroMatrix}
use Rattle.sf_blocks.specs.TotalDifferentials.{Spot, IsSpot, AreDiagonal, AreSpotsBelow, HasLawsAt, HasBicomplexLaws, first_target, total_differential}
use Rattle.sf_blocks.proofs.Totals.TotalProducts.{IsOfBlocks, IsPair, corner, product_blocks, corner-none, corner_pairs}
use Rattle.sf_blocks.proofs.TwoByTwo.Triangles.{IsZeroMatrix-blocks}
use Rattle.sf_blocks.proofs.TwoByTwo.ZeroParts.{IsZeroMatrix-beside}

zero_blocks : (m a b c d : Matrix) → IsOfBlocks m a b c d
    → IsZeroMatrix m ↔ (IsZeroMatrix a × (IsZeroMatrix b × (IsZeroMatrix c × IsZeroMatrix d)))
zero_blocks m a b c d h =
    let parts = IsZeroMatrix-blocks a b c d h.upper h.lower in
    (λ z. parts.0 (subst IsZeroMatrix h.same z), λ z. subst IsZeroMatrix (sym h.same) (parts.1 z))

zero_pair : (m a b : Matrix) → IsPair m a b → IsZeroMatrix m ↔ (IsZeroMatrix a × IsZeroMatrix b)
zero_pair m a b h =
    let parts = IsZeroMatrix-beside a b h.together in
    (λ z. parts.0 (subst IsZeroMatrix h.same z), λ z. subst IsZeroMatrix (sym h.same) (parts.1 z))

module _ (ring : Ring) (positive : 0 < ring.modulus) where
  -- the laws from one spot are that two of the blocks are zero
  laws_at : (s t : Spot) (ss ts : List Spot) (hs : IsSpot ring (first_target ss) s) (ht : IsSpot ring (first_target ts) t)
      (dss : AreDiagonal ring ss) (dts : AreDiagonal ring ts) (below : row_degrees t.vertical ≡ s.vertical.target)
      (others : AreSpotsBelow ss ts)
      → (IsZeroMatrix (matrix_product s.vertical t.vertical)
      × IsZeroMatrix (corner ring positive s t ss ts hs ht dss dts below others)) ↔ HasLawsAt s t ts
  laws_at s t [] [] hs ht dss dts below others =
      (λ h. h.0, λ h. (h, corner-none ring positive s t [] [] hs ht dss dts below others refl))
  laws_at s t [] (u ∷ ts) hs ht dss dts below others = absurd others
  laws_at s t (l ∷ ss) [] hs ht dss dts below others = absurd others
  laws_at s t (l ∷ ss) (u ∷ ts) hs ht dss dts below others =
      let p = corner_pairs ring positive s t l u ss ts hs ht dss dts below others in
      let first = zero_pair _ _ _ p.0 in
      let second = zero_pair _ _ _ p.1.0 in (
        λ h. let both = first.0 h.1 in (h.0, (both.0, (second.0 both.1).0)),
        λ h. (h.0, first.1 (h.1.0, second.1 (h.1.1, p.1.1))),
      )

  pub squares-total : (ss ts : List Spot) → AreDiagonal ring ss → AreDiagonal ring ts → AreSpotsBelow ss ts
      → IsZeroMatrix (matrix_product (total_differential ring ss) (total_differential ring ts)) ↔ HasBicomplexLaws ss ts
  squares-total [] [] dss dts below = (λ h. tt, λ h. refl)
  squares-total [] (t ∷ ts) dss dts below = absurd below
  squares-total (s ∷ ss) [] dss dts below = absurd below
  squares-total (s ∷ ss) (t ∷ ts) dss dts below =
      let p = product_blocks ring positive s t ss ts dss.0 dts.0 dss.1 dts.1 below.0 below.1 in
      let parts = zero_blocks _ _ _ _ _ p.0 in
      let here = laws_at s t ss ts dss.0 dts.0 dss.1 dts.1 below.0 below.1 in
      let rest = squares-total ss ts dss.1 dts.1 below.1 in (
        λ h. let all = parts.0 h in (here.0 (all.0, all.1.0), rest.0 all.1.1.1),
        λ h. let first = here.1 h.0 in parts.1 (first.0, (first.1, (p.1, rest.1 h.1))),
      )
