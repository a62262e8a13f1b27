-- The product of two total differentials, modulo the relations of each module: of its blocks each is zero modulo its own
-- relations.
use Rattle.std.proofs.Common.{◌≡◌, ◌↔◌, refl, List, [], ◌∷◌, ◌++◌, ℤ, sym, ◌∙◌, subst}
use Rattle.sf_algebra.specs.Matrices.{Matrix, row_degrees}
use Rattle.sf_algebra.specs.MatrixOperations.{matrix_product}
use Rattle.sf_algebra.specs.Rings.{Ring, IsRing}
use Rattle.sf_blocks.specs.BlockLists.{IsTo}
use Rattle.sf_blocks.specs.DirectSums.{direct_sum, AreRelations, IsZeroModulo}
use Rattle.sf_blocks.specs.MatrixSums.{zero_matrix, IsZeroMatrix}
use Rattle.sf_blocks.specs.SideBySide.{beside}
use Rattle.sf_blocks.specs.TotalDifferentials.{Spot, IsSpot, AreDiagonal, AreSpotsBelow, first_target, total_target, total_differential}
use Rattle.sf_blocks.specs.TotalRelations.{total_relations, AreRelationsBelow, HasLawsModuloAt, HasBicomplexLawsModulo}
use Rattle.sf_blocks.proofs.DirectSums.SummandSpans.{AreTriangle-direct_sum}
use Rattle.sf_blocks.proofs.DirectSums.ZeroModulo.{IsZeroModulo-beside, IsZeroModulo-stacked, IsZeroModulo-zero}
use Rattle.sf_blocks.proofs.MatrixSums.SumGroups.{IsMatrix-zero_matrix}
use Rattle.sf_blocks.proofs.Totals.TotalMatrices.{total, drop-first_target, drop-second_target}
use Rattle.sf_blocks.proofs.Totals.TotalProducts.{IsOfBlocks, IsPair, IsZeroMatrix-no_columns, corner, product_blocks, target-corner, corner-none, corner_pairs}
use Rattle.sf_blocks.proofs.TwoByTwo.Triangles.{IsMatrix-triangle}

pub IsTo-total_relations : (ring : Ring) (ss : List Spot) (rs : List Matrix) → AreRelationsBelow ring ss rs
    → IsTo ring (total_target ss) (total_relations ring rs)
IsTo-total_relations ring [] [] h = record { ring_of = refl; target_of = refl; matrix = tt }
IsTo-total_relations ring [] (r ∷ rs) h = absurd h
IsTo-total_relations ring (s ∷ ss) [] h = absurd h
IsTo-total_relations ring (s ∷ ss) (r ∷ rs) h =
    let others = IsTo-total_relations ring ss rs h.1 in
    let b = total_relations ring rs in
    let rings = h.0.ring_of ∙ sym others.ring_of in
    let z = zero_matrix r.ring (row_degrees b) r.target in
    record {
      ring_of = h.0.ring_of;
      target_of = λ i. h.0.target_of i ++ others.target_of i;
      matrix =
          IsMatrix-triangle r z b (AreTriangle-direct_sum r b rings) h.0.matrix
          (IsMatrix-zero_matrix r.ring (row_degrees b) r.target) others.matrix;
    }

-- relations to where a matrix goes
relations : (ring : Ring) (target : List ℤ) (r m : Matrix) → IsTo ring target r → m.ring ≡ ring → m.target ≡ target
    → AreRelations r m
relations ring target r m h rings targets = record {
  rings = h.ring_of ∙ sym rings;
  targets = h.target_of ∙ sym targets;
  matrix = h.matrix;
}

module _ (r q : Matrix) where
  pair_modulo : (m a b : Matrix) → IsPair m a b → IsRing a.ring → AreRelations r a → AreRelations q b
      → IsZeroModulo (direct_sum r q) m ↔ (IsZeroModulo r a × IsZeroModulo q b)
  pair_modulo m a b h is_ring x y =
      let parts = IsZeroModulo-beside r q a b is_ring h.together x y h.first h.last in (
        λ z. parts.0 (subst (IsZeroModulo (direct_sum r q)) h.same z),
        λ z. subst (IsZeroModulo (direct_sum r q)) (sym h.same) (parts.1 z),
      )

  blocks_modulo : (m a b c d : Matrix) → IsOfBlocks m a b c d → IsRing a.ring → AreRelations r a → AreRelations q b
      → AreRelations r c → AreRelations q d → IsZeroMatrix c
      → IsZeroModulo (direct_sum r q) m ↔ (IsZeroModulo r a × (IsZeroModulo q b × IsZeroModulo q d))
  blocks_modulo m a b c d h is_ring x y z w zero =
      let is_ring_r : IsRing r.ring = subst IsRing (sym x.rings) is_ring in
      let is_ring_c : IsRing c.ring = subst IsRing z.rings is_ring_r in
      let stack = IsZeroModulo-stacked (direct_sum r q) (beside a b) (beside c d) in
      let upper = IsZeroModulo-beside r q a b is_ring h.upper x y h.first h.second in
      let lower = IsZeroModulo-beside r q c d is_ring_c h.lower z w h.third h.fourth in (
        λ all. let both = stack.0 (subst (IsZeroModulo (direct_sum r q)) h.same all) in (
          (upper.0 both.0).0,
          ((upper.0 both.0).1, (lower.0 both.1).1),
        ),
        λ all. subst (IsZeroModulo (direct_sum r q)) (sym h.same)
            (stack.1 (upper.1 (all.0, all.1.0), lower.1 (IsZeroModulo-zero r c is_ring_r zero, all.1.1))),
      )

module _ (ring : Ring) (is_ring : IsRing ring) where
  -- where the maps of one spot and of the one at its left go
  corner_modulo : (s t l u : Spot) (ss ts : List Spot) (rs : List Matrix) (hs : IsSpot ring l.vertical.target s)
      (ht : IsSpot ring u.vertical.target t) (dss : AreDiagonal ring (l ∷ ss)) (dts : AreDiagonal ring (u ∷ ts))
      (below : row_degrees t.vertical ≡ s.vertical.target) (others : AreSpotsBelow (l ∷ ss) (u ∷ ts)) (r : Matrix)
      → AreRelationsBelow ring (t ∷ u ∷ ts) (r ∷ rs)
      → (IsZeroModulo r (matrix_product s.vertical t.vertical)
      × IsZeroModulo (total_relations ring rs)
      (corner ring is_ring.modulus s t (l ∷ ss) (u ∷ ts) hs ht dss dts below others))
      ↔ HasLawsModuloAt s t (u ∷ ts) (r ∷ rs)
  corner_modulo s t l u ss ts [] hs ht dss dts below others r k = absurd k.1
  corner_modulo s t l u ss [] (q ∷ []) hs ht dss dts below others r k =
      let p = corner_pairs ring is_ring.modulus s t l u ss [] hs ht dss dts below others in
      let none = zero_matrix ring [] [] in
      let empty : IsTo ring [] none = record { ring_of = refl; target_of = refl; matrix = tt } in
      let h_ring = sym hs.together.rings ∙ hs.ring_of in
      let to_u = drop-first_target [] u.horizontal.target dts.0.left_of in
      let pair = pair_modulo q none _ _ _ p.0 (subst IsRing (sym hs.ring_of) is_ring)
      (relations ring u.vertical.target q _ k.1.0 hs.ring_of ht.left_of) (relations ring [] none _ empty h_ring to_u) in (
        λ h. (h.0, ((pair.0 h.1).0, tt)),
        λ h. (h.0, pair.1 (h.1.0, IsZeroModulo-zero none _ is_ring (IsZeroMatrix-no_columns _ p.0.last to_u))),
      )
  corner_modulo s t l u ss (w ∷ ts) (q ∷ []) hs ht dss dts below others r k = absurd k.1.1
  corner_modulo s t l u ss [] (q ∷ g ∷ rs) hs ht dss dts below others r k = absurd k.1.1
  corner_modulo s t l u ss (w ∷ ts) (q ∷ g ∷ rs) hs ht dss dts below others r k =
      let p = corner_pairs ring is_ring.modulus s t l u ss (w ∷ ts) hs ht dss dts below others in
      let after = total_relations ring rs in
      let to_after = IsTo-total_relations ring ts rs k.1.1.1 in
      let to_both = IsTo-total_relations ring (w ∷ ts) (g ∷ rs) k.1.1 in
      let h_ring = sym hs.together.rings ∙ hs.ring_of in
      let to_u = drop-first_target (w ∷ ts) u.horizontal.target dts.0.left_of in
      let behind = drop-second_target w ts u.horizontal.target dts.0.left_of in
      let is_ring_h = subst IsRing (sym h_ring) is_ring in
      let pair = pair_modulo q (total_relations ring (g ∷ rs)) _ _ _ p.0 (subst IsRing (sym hs.ring_of) is_ring)
      (relations ring u.vertical.target q _ k.1.0 hs.ring_of ht.left_of)
      (relations ring (total_target (w ∷ ts)) (total_relations ring (g ∷ rs)) _ to_both h_ring to_u) in
      let last = pair_modulo g after _ _ _ p.1.0 is_ring_h
      (relations ring w.vertical.target g _ k.1.1.0 h_ring dts.0.left_of)
      (relations ring (total_target ts) after _ to_after h_ring behind) in (
        λ h. let both = pair.0 h.1 in (h.0, (both.0, (last.0 both.1).0)),
        λ h. (
          h.0,
          pair.1 (
            h.1.0,
            last.1
                (h.1.1, IsZeroModulo-zero after _ (subst IsRing (sym to_after.ring_of) is_ring) p.1.1),
          ),
        ),
      )

  laws_modulo : (s t : Spot) (ss ts : List Spot) (hs : IsSpot ring (first_target ss) s)
      (ht : IsSpot ring (first_target ts) t)
      (dss : AreDiagonal ring ss) (dts : AreDiagonal ring ts) (below : row_degrees t.vertical ≡ s.vertical.target)
      (others : AreSpotsBelow ss ts) (r : Matrix) (rs : List Matrix) → AreRelationsBelow ring (t ∷ ts) (r ∷ rs)
      → (IsZeroModulo r (matrix_product s.vertical t.vertical)
      × IsZeroModulo (total_relations ring rs) (corner ring is_ring.modulus s t ss ts hs ht dss dts below others))
      ↔ HasLawsModuloAt s t ts (r ∷ rs)
  laws_modulo s t [] [] hs ht dss dts below others r [] k = (
    λ h. h.0,
    λ h. (
      h,
      IsZeroModulo-zero (zero_matrix ring [] []) _ is_ring
          (corner-none ring is_ring.modulus s t [] [] hs ht dss dts below others refl),
    ),
  )
  laws_modulo s t [] [] hs ht dss dts below others r (q ∷ rs) k = absurd k.1
  laws_modulo s t [] (u ∷ ts) hs ht dss dts below others r rs k = absurd others
  laws_modulo s t (l ∷ ss) [] hs ht dss dts below others r rs k = absurd others
  laws_modulo s t (l ∷ ss) (u ∷ ts) hs ht dss dts below others r rs k =
      corner_modulo s t l u ss ts rs hs ht dss dts below others r k

  pub squares-total_modulo : (ss ts : List Spot) (rs : List Matrix) → AreDiagonal ring ss → AreDiagonal ring ts
      → AreSpotsBelow ss ts → AreRelationsBelow ring ts rs
      → IsZeroModulo (total_relations ring rs) (matrix_product (total_differential ring ss) (total_differential ring ts))
      ↔ HasBicomplexLawsModulo ss ts rs
  squares-total_modulo [] [] rs dss dts below k = (λ h. tt, λ h. tt)
  squares-total_modulo [] (t ∷ ts) rs dss dts below k = absurd below
  squares-total_modulo (s ∷ ss) [] rs dss dts below k = absurd below
  squares-total_modulo (s ∷ ss) (t ∷ ts) [] dss dts below k = absurd k
  squares-total_modulo (s ∷ ss) (t ∷ ts) (r ∷ rs) dss dts below k =
      let p = product_blocks ring is_ring.modulus s t ss ts dss.0 dts.0 dss.1 dts.1 below.0 below.1 in
      let others = total_relations ring rs in
      let to_others = IsTo-total_relations ring ts rs k.1 in
      let first = total ring ss dss.1 in
      let second = total ring ts dts.1 in
      let ring_s = dss.0.ring_of in
      let parts = blocks_modulo r others _ _ _ _ _ p.0 (subst IsRing (sym ring_s) is_ring)
      (relations ring t.vertical.target r _ k.0 ring_s refl)
      (relations ring (total_target ts) others _ to_others ring_s
      (target-corner ring is_ring.modulus s t ss ts dss.0 dts.0 dss.1 dts.1 below.0 below.1))
      (relations ring t.vertical.target r _ k.0 refl refl)
      (relations ring (total_target ts) others _ to_others first.ring_of second.target) p.1 in
      let here = laws_modulo s t ss ts dss.0 dts.0 dss.1 dts.1 below.0 below.1 r rs k in
      let rest = squares-total_modulo ss ts rs dss.1 dts.1 below.1 k.1 in (
        λ h. let all = parts.0 h in (here.0 (all.0, all.1.0), rest.0 all.1.1),
        λ h. let front = here.1 h.0 in parts.1 (front.0, (front.1, rest.1 h.1)),
      )
