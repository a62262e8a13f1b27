-- Two maps of the total complex, one after the other, are zero modulo relations: the laws of the bicomplex, spot by
-- spot.
use Rattle.std.proofs.Common.{◌≡◌, ℕ, zero, suc, sym, ap, ◌∙◌, subst, ℤ, pos, ◌-ℤ◌}
use Rattle.sf_algebra.specs.MatrixOperations.{matrix_product}
use Rattle.sf_blocks.specs.DirectSums.{IsZeroModulo}
use Rattle.sf_blocks.specs.MatrixSums.{matrix_sum}
use Rattle.sf_blocks.specs.TotalDifferentials.{AreSpotsBelow}
use Rattle.sf_blocks.specs.TotalRelations.{AreRelationsBelow, HasBicomplexLawsModulo}
use Rattle.sf_blocks.proofs.Totals.SquaresModulo.{squares-total_modulo}
use Rattle.sf_bicomplex.specs.Bicomplexes.{Bicomplex, IsBicomplex}
use Rattle.sf_bicomplex.specs.TotalColumns.{place, places, spots, total_map, total_module}
use Rattle.sf_bicomplex.proofs.TotalComplexes.Diagonals.{row-left, row-lower, spots-diagonal, total_map-same, vertical_source, vertical_target}

module _ (b : Bicomplex) (h : IsBicomplex b) (n m l : ℤ) (lower : m ≡ n -ℤ pos 1) (last : l ≡ m -ℤ pos 1) where
  spots-below : (k : ℕ) → AreSpotsBelow (spots b n k) (spots b m k)
  spots-below zero = tt
  spots-below (suc k) = (vertical_source b h m k ∙ sym (vertical_target b h n m lower k), spots-below k)

  places-below : (k : ℕ) → AreRelationsBelow b.ring (spots b m k) (places b l k)
  places-below zero = tt
  places-below (suc k) = (
    record {
      ring_of = (h.modules k (l -ℤ pos k)).ring_of;
      target_of = sym (vertical_target b h m l last k);
      matrix = (h.modules k (l -ℤ pos k)).matrix;
    },
    places-below k,
  )

  twice_down : (k : ℕ) → IsZeroModulo (place b l k)
      (matrix_product (b.vertical k (n -ℤ pos k)) (b.vertical k (m -ℤ pos k)))
  twice_down k =
      let there : n -ℤ pos k -ℤ pos 1 ≡ m -ℤ pos k = row-lower n m k lower in
      let end : n -ℤ pos k -ℤ pos 1 -ℤ pos 1 ≡ l -ℤ pos k = ap (λ q. q -ℤ pos 1) there ∙ row-lower m l k last in
      subst (λ q. IsZeroModulo (b.relations k q) (matrix_product (b.vertical k (n -ℤ pos k)) (b.vertical k (m -ℤ pos k))))
      end
      (subst (λ q. IsZeroModulo (b.relations k (n -ℤ pos k -ℤ pos 1 -ℤ pos 1))
      (matrix_product (b.vertical k (n -ℤ pos k)) (b.vertical k q))) there (h.twice_down k (n -ℤ pos k)))

  across : (k : ℕ) → IsZeroModulo (place b l k)
      (matrix_sum (matrix_product (b.vertical (suc k) (n -ℤ pos (suc k))) (b.horizontal (suc k) (m -ℤ pos (suc k))))
      (matrix_product (b.horizontal (suc k) (n -ℤ pos (suc k))) (b.vertical k (m -ℤ pos k))))
  across k =
      let q = n -ℤ pos (suc k) in
      let left : q ≡ m -ℤ pos k = row-left n m k lower in
      let down : q -ℤ pos 1 ≡ m -ℤ pos (suc k) = row-lower n m (suc k) lower in
      let end : q -ℤ pos 1 ≡ l -ℤ pos k = down ∙ row-left m l k last in
      subst (λ r. IsZeroModulo (b.relations k r)
      (matrix_sum (matrix_product (b.vertical (suc k) q) (b.horizontal (suc k) (m -ℤ pos (suc k))))
      (matrix_product (b.horizontal (suc k) q) (b.vertical k (m -ℤ pos k))))) end
      (subst (λ r. IsZeroModulo (b.relations k (q -ℤ pos 1))
      (matrix_sum (matrix_product (b.vertical (suc k) q) (b.horizontal (suc k) (m -ℤ pos (suc k))))
      (matrix_product (b.horizontal (suc k) q) (b.vertical k r)))) left
      (subst (λ r. IsZeroModulo (b.relations k (q -ℤ pos 1))
      (matrix_sum (matrix_product (b.vertical (suc k) q) (b.horizontal (suc k) r))
      (matrix_product (b.horizontal (suc k) q) (b.vertical k q)))) down (h.across k q)))

  twice_left : (k : ℕ) → IsZeroModulo (place b l k)
      (matrix_product (b.horizontal (suc (suc k)) (n -ℤ pos (suc (suc k)))) (b.horizontal (suc k) (m -ℤ pos (suc k))))
  twice_left k =
      let q = n -ℤ pos (suc (suc k)) in
      let left : q ≡ m -ℤ pos (suc k) = row-left n m (suc k) lower in
      let end : q ≡ l -ℤ pos k = left ∙ row-left m l k last in
      subst (λ r. IsZeroModulo (b.relations k r)
      (matrix_product (b.horizontal (suc (suc k)) q) (b.horizontal (suc k) (m -ℤ pos (suc k))))) end
      (subst (λ r. IsZeroModulo (b.relations k q)
      (matrix_product (b.horizontal (suc (suc k)) q) (b.horizontal (suc k) r))) left (h.twice_left k q))

  laws : (k : ℕ) → HasBicomplexLawsModulo (spots b n k) (spots b m k) (places b l k)
  laws zero = tt
  laws (suc zero) = (twice_down 0, tt)
  laws (suc (suc zero)) = ((twice_down 1, (across 0, tt)), laws (suc zero))
  laws (suc (suc (suc k))) = ((twice_down (suc (suc k)), (across (suc k), twice_left k)), laws (suc (suc k)))

  pub zero_squares : IsZeroModulo (total_module b l) (matrix_product (total_map b n m) (total_map b m l))
  zero_squares =
      let k = b.columns in
      let squares =
      squares-total_modulo b.ring h.is_ring (spots b n k) (spots b m k) (places b l k)
      (spots-diagonal b h n m lower k) (spots-diagonal b h m l last k) (spots-below k) (places-below k) in
      subst (IsZeroModulo (total_module b l))
      (λ i. matrix_product (total_map-same b h n m lower i) (total_map-same b h m l last i)) (squares.1 (laws k))
