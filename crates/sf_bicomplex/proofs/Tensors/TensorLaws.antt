-- The tensor product of complexes is a bicomplex: where rows of the second factor are multiples of relations they stay so,
-- and one factor before the other, and after it, is the Kronecker product of both.
use Rattle.std.proofs.Common.{◌≡◌, ◌<◌, ℕ, suc, refl, sym, ap, ◌∙◌, subst, arith, ℤ, pos, ◌-ℤ◌}
use Rattle.sf_algebra.specs.Matrices.{IsMatrix, Matrix, row_degrees}
use Rattle.sf_algebra.specs.MatrixOperations.{degree_sums, identity, kronecker, matrix_product, negated}
use Rattle.sf_algebra.specs.Rings.{IsRing, Ring}
use Rattle.sf_algebra.proofs.GradedMatrices.Identities.{IsMatrix-identity, row_degrees-identity}
use Rattle.sf_algebra.proofs.GradedMatrices.ProductLaws.{matrix_product-identity}
use Rattle.sf_algebra.proofs.Tensors.Kronecker.{IsMatrix-kronecker, row_degrees-kronecker}
use Rattle.sf_algebra.proofs.Tensors.KroneckerFactors.{kronecker-factors, kronecker-factors_exchanged}
use Rattle.sf_algebra.proofs.Tensors.KroneckerProducts.{kronecker-matrix_product}
use Rattle.sf_groebner.specs.Presentations.{IsModuleMap}
use Rattle.sf_blocks.specs.DirectSums.{IsZeroModulo}
use Rattle.sf_blocks.specs.MatrixSums.{IsZeroMatrix, matrix_sum}
use Rattle.sf_blocks.proofs.DirectSums.ZeroModulo.{IsZeroModulo-zero}
use Rattle.sf_blocks.proofs.Kroneckers.Crossings.{other_crossings}
use Rattle.sf_blocks.proofs.Kroneckers.FactorSums.{kronecker-zero_first}
use Rattle.sf_blocks.proofs.TwoByTwo.ZeroParts.{IsZeroMatrix-zero_matrix}
use Rattle.sf_bicomplex.specs.Bicomplexes.{Bicomplex, IsBicomplex}
use Rattle.sf_bicomplex.specs.TensorBicomplexes.{FreeComplex, IsFreeComplex, IsModuleComplex, ModuleComplex, signed, tensor_bicomplex}
use Rattle.sf_bicomplex.specs.TensorLaws.{HasTensorBicomplexes}
use Rattle.sf_bicomplex.proofs.Tensors.Multiples.{IsMatrix-signed, IsMultiple, kronecker-product, kronecker-signed, map-from_multiple, multiple-from_map, multiple-from_zero, multiple-kronecker, multiple-signed, ring-signed, row_degrees-signed, signed-product, target-signed, zero-from_multiple}

module _ (c : FreeComplex) (hc : IsFreeComplex c) (above : 1 < c.ring.modulus) (d : ModuleComplex)
    (hd : IsModuleComplex c.ring d) where
  ring : Ring
  ring = c.ring

  positive : 0 < c.ring.modulus
  positive = omega arith

  abbrev b : Bicomplex
  b = tensor_bicomplex c d

  abbrev ones : ℕ → Matrix
  ones p = identity c.ring (c.degrees p)

  ones_matrix : (p : ℕ) → IsMatrix (ones p)
  ones_matrix p = IsMatrix-identity c.ring above (c.degrees p)

  -- the relations and the maps of the second factor
  abbrev R : ℤ → Matrix
  R q = d.relations q

  abbrev D : ℤ → Matrix
  D q = d.map q

  R_ring : (q : ℤ) → c.ring ≡ (R q).ring
  R_ring q = sym (hd.modules q).ring_of

  R_matrix : (q : ℤ) → IsMatrix (R q)
  R_matrix q = (hd.modules q).matrix

  D_ring : (q : ℤ) → c.ring ≡ (D q).ring
  D_ring q = R_ring q ∙ sym (hd.maps q).source_ring

  D_matrix : (q : ℤ) → IsMatrix (D q)
  D_matrix q = (hd.maps q).matrix

  relations_matrix : (p : ℕ) (q : ℤ) → IsMatrix (b.relations p q)
  relations_matrix p q = IsMatrix-kronecker (ones p) (R q) positive (R_ring q) (ones_matrix p) (R_matrix q)

  down_matrix : (p : ℕ) (q : ℤ) → IsMatrix (kronecker (ones p) (D q))
  down_matrix p q = IsMatrix-kronecker (ones p) (D q) positive (D_ring q) (ones_matrix p) (D_matrix q)

  degrees-ones : (p : ℕ) (m : Matrix) → row_degrees (kronecker (ones p) m) ≡ degree_sums (c.degrees p) (row_degrees m)
  degrees-ones p m =
      row_degrees-kronecker (ones p) m ∙ ap (λ ds. degree_sums ds (row_degrees m)) (row_degrees-identity c.ring (c.degrees p))

  downward : (p : ℕ) (q : ℤ) → IsModuleMap (b.relations p q) (b.relations p (q -ℤ pos 1)) (b.vertical p q)
  downward p q =
      let below = q -ℤ pos 1 in
      let K = kronecker (ones p) (D q) in
      let same : c.ring ≡ (b.vertical p q).ring = sym (ring-signed p K) in
      let image : IsMultiple (R below) (matrix_product (R q) (D q)) =
      multiple-from_map (R q) (R below) (D q) (subst IsRing (D_ring q) hc.is_ring) (hd.maps q).source_ring
      (hd.maps q).target_ring (subst (λ (r : Ring). 1 < r.modulus) (D_ring q) above) (R_matrix q) (hd.maps q) in
      let product : matrix_product (b.relations p q) (b.vertical p q)
      ≡ signed p (kronecker (ones p) (matrix_product (R q) (D q))) =
      signed-product 0 p (b.relations p q) K positive refl (relations_matrix p q) (down_matrix p q)
      ∙ ap (signed p)
      (sym (kronecker-product c.ring above (c.degrees p) (R q) (D q) (R_ring q) (sym (R_ring q) ∙ D_ring q)
      (hd.maps q).source_degrees (R_matrix q))) in
      map-from_multiple (b.relations p q) (b.relations p below) (b.vertical p q) (subst IsRing same hc.is_ring)
      (sym same) (sym same) (relations_matrix p below) (IsMatrix-signed p K (down_matrix p q))
      (row_degrees-signed p K ∙ degrees-ones p (D q) ∙ ap (degree_sums (c.degrees p)) (hd.maps q).source_degrees)
      (target-signed p K ∙ ap (degree_sums (c.degrees p)) (hd.maps q).target_degrees)
      (subst (IsMultiple (b.relations p below)) (sym product)
      (multiple-signed p (b.relations p below) (kronecker (ones p) (matrix_product (R q) (D q))) positive
      (multiple-kronecker c.ring above (c.degrees p) (R below) (matrix_product (R q) (D q)) (R_ring below) image)))

  twice_down : (p : ℕ) (q : ℤ)
      → IsZeroModulo (b.relations p (q -ℤ pos 1 -ℤ pos 1)) (matrix_product (b.vertical p q) (b.vertical p (q -ℤ pos 1)))
  twice_down p q =
      let below = q -ℤ pos 1 in
      let lowest = q -ℤ pos 1 -ℤ pos 1 in
      let both = matrix_product (D q) (D below) in
      let zero_both : IsMultiple (R lowest) both =
      multiple-from_zero (R lowest) both (sym (D_ring q) ∙ R_ring lowest) (hd.maps below).target_degrees (hd.squares q) in
      let product : matrix_product (b.vertical p q) (b.vertical p below) ≡ signed p (signed p (kronecker (ones p) both)) =
      signed-product p p (kronecker (ones p) (D q)) (kronecker (ones p) (D below)) positive refl (down_matrix p q)
      (down_matrix p below)
      ∙ ap (λ m. signed p (signed p m))
      (sym (kronecker-product c.ring above (c.degrees p) (D q) (D below) (D_ring q) (sym (D_ring q) ∙ D_ring below)
      ((hd.maps below).source_degrees ∙ sym (hd.maps q).target_degrees) (D_matrix q))) in
      zero-from_multiple (b.relations p lowest) (matrix_product (b.vertical p q) (b.vertical p below))
      (subst (IsMultiple (b.relations p lowest)) (sym product)
      (multiple-signed p (b.relations p lowest) (signed p (kronecker (ones p) both)) positive
      (multiple-signed p (b.relations p lowest) (kronecker (ones p) both) positive
      (multiple-kronecker c.ring above (c.degrees p) (R lowest) both (R_ring lowest) zero_both))))

  -- the maps of the first factor
  A_ring : (p : ℕ) → (c.map p).ring ≡ c.ring
  A_ring p = (hc.sources p).ring_of

  across_matrix : (p : ℕ) (q : ℤ) → IsMatrix (b.horizontal p q)
  across_matrix p q =
      subst (λ r. IsMatrix (kronecker (c.map p) (identity r (R q).target))) (A_ring p)
      (IsMatrix-kronecker (c.map p) (identity (c.map p).ring (R q).target) (subst (λ (r : Ring). 0 < r.modulus) (sym (A_ring p)) positive)
      refl (hc.sources p).matrix
      (IsMatrix-identity (c.map p).ring (subst (λ (r : Ring). 1 < r.modulus) (sym (A_ring p)) above) (R q).target))

  across_degrees : (p : ℕ) (q : ℤ) → row_degrees (b.horizontal p q) ≡ (b.relations p q).target
  across_degrees p q =
      row_degrees-kronecker (c.map p) (identity c.ring (R q).target)
      ∙ (λ i. degree_sums ((hc.sources p).source_of i) (row_degrees-identity c.ring (R q).target i))

  leftward : (p : ℕ) (q : ℤ) → IsModuleMap (b.relations (suc p) q) (b.relations p q) (b.horizontal (suc p) q)
  leftward p q =
      let A = c.map (suc p) in
      let r = A_ring (suc p) in
      let above_A = subst (λ (s : Ring). 1 < s.modulus) (sym r) above in
      let rings : A.ring ≡ (R q).ring = r ∙ R_ring q in
      let exchanged : matrix_product (b.relations (suc p) q) (b.horizontal (suc p) q)
      ≡ matrix_product (kronecker A (identity c.ring (row_degrees (R q)))) (b.relations p q) =
      (λ i. matrix_product (kronecker (identity (sym r i) (sym (hc.sources (suc p)).source_of i)) (R q))
      (kronecker A (identity (sym r i) (R q).target)))
      ∙ sym (kronecker-factors_exchanged A (R q) above_A rings (hc.sources (suc p)).matrix (R_matrix q))
      ∙ kronecker-factors A (R q) above_A rings (hc.sources (suc p)).matrix (R_matrix q)
      ∙ (λ i. matrix_product (kronecker A (identity (r i) (row_degrees (R q))))
      (kronecker (identity (r i) (hc.targets p i)) (R q))) in
      map-from_multiple (b.relations (suc p) q) (b.relations p q) (b.horizontal (suc p) q)
      (subst IsRing (sym r) hc.is_ring) r r (relations_matrix p q) (across_matrix (suc p) q) (across_degrees (suc p) q)
      (ap (λ ds. degree_sums ds (R q).target) (hc.targets p))
      (record {
        factor = kronecker A (identity c.ring (row_degrees (R q)));
        ring = r;
        target = ap (λ ds. degree_sums ds (row_degrees (R q))) (hc.targets p) ∙ sym (degrees-ones p (R q));
        matrix = subst (λ s. IsMatrix (kronecker A (identity s (row_degrees (R q))))) r
            (IsMatrix-kronecker A (identity A.ring (row_degrees (R q))) (subst (λ (s : Ring). 0 < s.modulus) (sym r) positive)
            refl (hc.sources (suc p)).matrix (IsMatrix-identity A.ring above_A (row_degrees (R q))));
        product = exchanged;
      })

  across : (p : ℕ) (q : ℤ)
      → IsZeroModulo (b.relations p (q -ℤ pos 1))
      (matrix_sum (matrix_product (b.vertical (suc p) q) (b.horizontal (suc p) (q -ℤ pos 1)))
      (matrix_product (b.horizontal (suc p) q) (b.vertical p q)))
  across p q =
      let below = q -ℤ pos 1 in
      let A = c.map (suc p) in
      let r = A_ring (suc p) in
      let S = signed p (D q) in
      let source = (hc.sources (suc p)).source_of in
      let crossing = other_crossings A S (subst (λ (s : Ring). 1 < s.modulus) (sym r) above)
      (r ∙ D_ring q ∙ sym (ring-signed p (D q))) (hc.sources (suc p)).matrix (IsMatrix-signed p (D q) (D_matrix q)) in
      let sources : row_degrees S ≡ (R q).target = row_degrees-signed p (D q) ∙ (hd.maps q).source_degrees in
      let targets : S.target ≡ (R below).target = target-signed p (D q) ∙ (hd.maps q).target_degrees in
      let change : matrix_sum
      (matrix_product (negated (kronecker (identity A.ring (row_degrees A)) S)) (kronecker A (identity A.ring S.target)))
      (matrix_product (kronecker A (identity A.ring (row_degrees S))) (kronecker (identity A.ring A.target) S))
      ≡ matrix_sum (matrix_product (b.vertical (suc p) q) (b.horizontal (suc p) below))
      (matrix_product (b.horizontal (suc p) q) (b.vertical p q)) =
      (λ i. matrix_sum
      (matrix_product (negated (kronecker (identity (r i) (source i)) S)) (kronecker A (identity (r i) (targets i))))
      (matrix_product (kronecker A (identity (r i) (sources i))) (kronecker (identity (r i) (hc.targets p i)) S)))
      ∙ (λ i. matrix_sum
      (matrix_product (negated (kronecker-signed p (ones (suc p)) (D q) positive (D_ring q) (D_matrix q) i)) (b.horizontal (suc p) below))
      (matrix_product (b.horizontal (suc p) q) (kronecker-signed p (ones p) (D q) positive (D_ring q) (D_matrix q) i))) in
      IsZeroModulo-zero (b.relations p below)
      (matrix_sum (matrix_product (b.vertical (suc p) q) (b.horizontal (suc p) below))
      (matrix_product (b.horizontal (suc p) q) (b.vertical p q))) hc.is_ring
      (subst IsZeroMatrix change crossing)

  twice_left : (p : ℕ) (q : ℤ)
      → IsZeroModulo (b.relations p q) (matrix_product (b.horizontal (suc (suc p)) q) (b.horizontal (suc p) q))
  twice_left p q =
      let A = c.map (suc (suc p)) in
      let B = c.map (suc p) in
      let r = A_ring (suc (suc p)) in
      let one = identity c.ring (R q).target in
      let one_matrix : IsMatrix one = IsMatrix-identity c.ring above (R q).target in
      let product : kronecker (matrix_product A B) one
      ≡ matrix_product (b.horizontal (suc (suc p)) q) (b.horizontal (suc p) q) =
      ap (kronecker (matrix_product A B)) (sym (matrix_product-identity one positive one_matrix))
      ∙ kronecker-matrix_product A B one one
      (record {
        positive = subst (λ (s : Ring). 0 < s.modulus) (sym r) positive;
        rings = r ∙ sym (A_ring (suc p));
        degrees = (hc.sources (suc p)).source_of ∙ sym (hc.targets (suc p));
      })
      (record { positive = positive; rings = refl; degrees = row_degrees-identity c.ring (R q).target }) r one_matrix in
      let none : IsZeroMatrix (kronecker (matrix_product A B) one) =
      subst (λ m. IsZeroMatrix (kronecker m one)) (sym (hc.squares p))
      (subst IsZeroMatrix
      (sym (kronecker-zero_first A.ring (row_degrees (matrix_product A B)) B.target one
      (subst (λ (s : Ring). 0 < s.modulus) (sym r) positive)))
      (IsZeroMatrix-zero_matrix A.ring (degree_sums (row_degrees (matrix_product A B)) (row_degrees one))
      (degree_sums B.target one.target))) in
      IsZeroModulo-zero (b.relations p q) (matrix_product (b.horizontal (suc (suc p)) q) (b.horizontal (suc p) q))
      hc.is_ring (subst IsZeroMatrix product none)

  pub tensor-bicomplex : IsBicomplex (tensor_bicomplex c d)
  tensor-bicomplex = record {
    is_ring = hc.is_ring;
    modules = λ p q. record { ring_of = refl; target_of = refl; matrix = relations_matrix p q };
    outside = λ p q h. ap (λ ds. degree_sums ds (R q).target) (hc.outside p h);
    downward = downward;
    leftward = leftward;
    leaving = λ q. record { ring_of = A_ring 0; source_of = across_degrees 0 q; matrix = across_matrix 0 q };
    leaving_target = λ q. ap (λ ds. degree_sums ds (R q).target) hc.leaving;
    twice_down = twice_down;
    across = across;
    twice_left = twice_left;
  }

pub tensor_bicomplexes : HasTensorBicomplexes
tensor_bicomplexes c hc above d hd = tensor-bicomplex c hc above d hd
