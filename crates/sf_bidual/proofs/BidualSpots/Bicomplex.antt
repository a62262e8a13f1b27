-- The bidual bicomplex is a bicomplex: in each row and column by the place that stands there.
use Rattle.std.proofs.Common.{◌≡◌, ◌<◌, ◌≤◌, ◌-◌, ◌++◌, ℕ, zero, suc, List, [], map, refl, sym, ◌∙◌, ap, subst, arith, ℤ, pos, negsuc, neg_ℤ, ◌-ℤ◌}
use Rattle.std.proofs.lemmas.Int.{ints}
use Rattle.sf_algebra.specs.Matrices.{Matrix, degrees_of, IsMatrix}
use Rattle.sf_algebra.specs.MatrixOperations.{matrix_product}
use Rattle.sf_algebra.specs.Rings.{Ring, IsOverField}
use Rattle.sf_algebra.proofs.GradedMatrices.MatrixProducts.{row_degrees-matrix_product}
use Rattle.sf_algebra.proofs.Monomials.Weights.{field_ring}
use Rattle.sf_groebner.specs.Presentations.{IsModuleMap}
use Rattle.sf_blocks.specs.BlockLists.{IsFrom}
use Rattle.sf_blocks.specs.MatrixSums.{matrix_sum, IsZeroMatrix}
use Rattle.sf_blocks.proofs.DirectSums.ZeroModulo.{IsZeroModulo-zero}
use Rattle.sf_blocks.proofs.MatrixSums.SumGroups.{IsMatrix-zero_matrix, row_degrees-zero_matrix}
use Rattle.sf_blocks.proofs.TwoByTwo.ZeroParts.{IsZeroMatrix-product_first, IsZeroMatrix-product_second, IsZeroMatrix-sum, IsZeroMatrix-zero_matrix}
use Rattle.sf_homotopy.specs.Exactness.{from_nothing, to_nothing}
use Rattle.sf_bicomplex.specs.Bicomplexes.{IsBicomplex}
use Rattle.sf_bidual.specs.Bidual.{HasNoStepPast, IsBidualOf, bidual, bidual_across, bidual_degrees, bidual_down, dual_across, dual_degrees, dual_down, dual_maps}
use Rattle.sf_bidual.specs.CartanEilenberg.{CartanEilenberg, IsCartanEilenberg, IsCochainComplex}
use Rattle.sf_bidual.proofs.BidualSpots.DualComplexes.{complex_of_steps}
use Rattle.sf_bidual.proofs.BidualSpots.FreeMaps.{free_map}
use Rattle.sf_bidual.proofs.BidualSpots.Places.{across, across-matrix, across-ring, across-source, across-target, across-twice, down, down-matrix, down-ring, down-source, down-target, down-twice, signed_square}

module _ (ring : Ring) (maps : ℕ → Matrix) (x : CartanEilenberg) (prime : IsOverField ring)
    (complex : IsCochainComplex ring maps) (h : IsCartanEilenberg ring maps x) (n : ℕ) (ends : HasNoStepPast n x) where
  positive : 0 < ring.modulus
  positive = (field_ring prime).modulus

  -- what stands at no place
  nothing_map : (target : List ℤ) → IsModuleMap (from_nothing ring []) (from_nothing ring target) (from_nothing ring target)
  nothing_map target = free_map ring positive [] target (from_nothing ring target) tt refl refl refl

  across-from : (i a : ℕ) (degrees : List ℤ) → IsFrom ring (dual_degrees x i a) (dual_across ring x i degrees a)
  across-from i zero degrees = record { ring_of = refl; source_of = refl; matrix = tt }
  across-from i (suc j) degrees = record {
    ring_of = across-ring ring maps x prime complex h i j;
    source_of = across-source ring maps x prime complex h i j;
    matrix = across-matrix ring maps x prime complex h i j;
  }

  across-map : (i a b : ℕ) → ((j : ℕ) → a ≡ suc j → b ≡ suc (suc j))
      → IsModuleMap (from_nothing ring (dual_degrees x i a)) (from_nothing ring (dual_degrees x i b))
      (dual_across ring x i (dual_degrees x i b) a)
  across-map i zero b fits = nothing_map (dual_degrees x i b)
  across-map i (suc j) b fits =
      subst (λ c. IsModuleMap (from_nothing ring (dual_degrees x i (suc j))) (from_nothing ring (dual_degrees x i c))
      (dual_across ring x i (dual_degrees x i c) (suc j))) (sym (fits j refl))
      (free_map ring positive (dual_degrees x i (suc j)) (dual_degrees x i (suc (suc j)))
      (across ring maps x prime complex h i j) (across-matrix ring maps x prime complex h i j)
      (across-ring ring maps x prime complex h i j) (across-source ring maps x prime complex h i j)
      (across-target ring maps x prime complex h i j))

  down-map : (i a : ℕ) → IsModuleMap (from_nothing ring (dual_degrees x (suc i) a)) (from_nothing ring (dual_degrees x i a))
      (dual_down ring x i a)
  down-map i zero = nothing_map []
  down-map i (suc j) =
      free_map ring positive (dual_degrees x (suc i) (suc j)) (dual_degrees x i (suc j))
      (down ring maps x prime complex h i j) (down-matrix ring maps x prime complex h i j)
      (down-ring ring maps x prime complex h i j) (down-source ring maps x prime complex h i j)
      (down-target ring maps x prime complex h i j)

  to_nothing-map : (source : List ℤ) → IsModuleMap (from_nothing ring source) (from_nothing ring []) (to_nothing ring source)
  to_nothing-map source =
      free_map ring positive source [] (to_nothing ring source) (IsMatrix-zero_matrix ring source []) refl
      (row_degrees-zero_matrix ring source []) refl

  to_nothing-zero : (source : List ℤ) → IsZeroMatrix (to_nothing ring source)
  to_nothing-zero source = IsZeroMatrix-zero_matrix ring source []

  -- by rows
  bidual_downward : (p : ℕ) (q r : ℤ) → r ≡ q -ℤ pos 1
      → IsModuleMap (from_nothing ring (bidual_degrees n x p q)) (from_nothing ring (bidual_degrees n x p r))
      (bidual_down ring n x p q)
  bidual_downward p (pos (suc i)) r e =
      let lower : r ≡ pos i = omega (arith, ints) in
      subst (λ s. IsModuleMap (from_nothing ring (bidual_degrees n x p (pos (suc i))))
      (from_nothing ring (bidual_degrees n x p s)) (bidual_down ring n x p (pos (suc i)))) (sym lower)
      (down-map i (suc n - p))
  bidual_downward p (pos zero) r e =
      let lower : r ≡ negsuc zero = omega (arith, ints) in
      subst (λ s. IsModuleMap (from_nothing ring (bidual_degrees n x p (pos zero)))
      (from_nothing ring (bidual_degrees n x p s)) (bidual_down ring n x p (pos zero))) (sym lower)
      (to_nothing-map (dual_degrees x zero (suc n - p)))
  bidual_downward p (negsuc i) r e =
      let lower : r ≡ negsuc (suc i) = omega (arith, ints) in
      subst (λ s. IsModuleMap (from_nothing ring (bidual_degrees n x p (negsuc i)))
      (from_nothing ring (bidual_degrees n x p s)) (bidual_down ring n x p (negsuc i))) (sym lower)
      (nothing_map [])

  -- the place at the left of a column is the next one
  places : (p j : ℕ) → suc n - suc p ≡ suc j → suc n - p ≡ suc (suc j)
  places p j e = omega arith

  bidual_leftward : (p : ℕ) (q : ℤ)
      → IsModuleMap (from_nothing ring (bidual_degrees n x (suc p) q)) (from_nothing ring (bidual_degrees n x p q))
      (bidual_across ring n x (suc p) q)
  bidual_leftward p (pos i) =
      let same : suc n - (suc p - 1) ≡ suc n - p = omega arith in
      subst (λ c. IsModuleMap (from_nothing ring (bidual_degrees n x (suc p) (pos i)))
      (from_nothing ring (bidual_degrees n x p (pos i))) (dual_across ring x i (dual_degrees x i c) (suc n - suc p)))
      (sym same) (across-map i (suc n - suc p) (suc n - p) (places p))
  bidual_leftward p (negsuc i) = nothing_map []

  bidual_twice_down : (p : ℕ) (q r : ℤ) → r ≡ q -ℤ pos 1
      → IsZeroMatrix (matrix_product (bidual_down ring n x p q) (bidual_down ring n x p r))
  bidual_twice_down p (pos (suc (suc i))) r e =
      let lower : r ≡ pos (suc i) = omega (arith, ints) in
      subst (λ s. IsZeroMatrix (matrix_product (bidual_down ring n x p (pos (suc (suc i)))) (bidual_down ring n x p s)))
      (sym lower) (at (suc n - p))
    where
      at : (a : ℕ) → IsZeroMatrix (matrix_product (dual_down ring x (suc i) a) (dual_down ring x i a))
      at zero = refl
      at (suc j) = down-twice ring maps x prime complex h i j
  bidual_twice_down p (pos (suc zero)) r e =
      let lower : r ≡ pos zero = omega (arith, ints) in
      subst (λ s. IsZeroMatrix (matrix_product (bidual_down ring n x p (pos (suc zero))) (bidual_down ring n x p s)))
      (sym lower) (at (suc n - p))
    where
      at : (a : ℕ) → IsZeroMatrix (matrix_product (dual_down ring x zero a) (to_nothing ring (dual_degrees x zero a)))
      at zero = refl
      at (suc j) =
          IsZeroMatrix-product_second (down ring maps x prime complex h zero j)
          (to_nothing ring (dual_degrees x zero (suc j)))
          (subst (λ (q : Ring). 0 < q.modulus) (sym (down-ring ring maps x prime complex h zero j)) positive)
          (to_nothing-zero (dual_degrees x zero (suc j)))
  bidual_twice_down p (pos zero) r e =
      IsZeroMatrix-product_first (to_nothing ring (dual_degrees x zero (suc n - p))) (bidual_down ring n x p r) positive
      (to_nothing-zero (dual_degrees x zero (suc n - p)))
  bidual_twice_down p (negsuc i) r e = refl

  bidual_twice_left : (p : ℕ) (q : ℤ)
      → IsZeroMatrix (matrix_product (bidual_across ring n x (suc (suc p)) q) (bidual_across ring n x (suc p) q))
  bidual_twice_left p (pos i) = at (suc n - suc (suc p)) (suc n - suc p) (places (suc p)) _ _
    where
      at : (a b : ℕ) → ((j : ℕ) → a ≡ suc j → b ≡ suc (suc j)) → (ds es : List ℤ)
          → IsZeroMatrix (matrix_product (dual_across ring x i ds a) (dual_across ring x i es b))
      at zero b fits ds es = refl
      at (suc j) b fits ds es =
          subst (λ c. IsZeroMatrix (matrix_product (dual_across ring x i ds (suc j)) (dual_across ring x i es c)))
          (sym (fits j refl)) (across-twice ring maps x prime complex h i j)
  bidual_twice_left p (negsuc i) = refl

  bidual_anticommutes : (p : ℕ) (q r : ℤ) → r ≡ q -ℤ pos 1
      → IsZeroMatrix (matrix_sum (matrix_product (bidual_down ring n x (suc p) q) (bidual_across ring n x (suc p) r))
      (matrix_product (bidual_across ring n x (suc p) q) (bidual_down ring n x p q)))
  bidual_anticommutes p (pos (suc i)) r e =
      let lower : r ≡ pos i = omega (arith, ints) in
      subst (λ s. IsZeroMatrix (matrix_sum
      (matrix_product (bidual_down ring n x (suc p) (pos (suc i))) (bidual_across ring n x (suc p) s))
      (matrix_product (bidual_across ring n x (suc p) (pos (suc i))) (bidual_down ring n x p (pos (suc i))))))
      (sym lower) (at (suc n - suc p) (suc n - p) (places p) _ _)
    where
      at : (a b : ℕ) → ((j : ℕ) → a ≡ suc j → b ≡ suc (suc j)) → (ds es : List ℤ)
          → IsZeroMatrix (matrix_sum (matrix_product (dual_down ring x i a) (dual_across ring x i ds a))
          (matrix_product (dual_across ring x (suc i) es a) (dual_down ring x i b)))
      at zero b fits ds es = refl
      at (suc j) b fits ds es =
          subst (λ c. IsZeroMatrix (matrix_sum (matrix_product (dual_down ring x i (suc j)) (dual_across ring x i ds (suc j)))
          (matrix_product (dual_across ring x (suc i) es (suc j)) (dual_down ring x i c))))
          (sym (fits j refl)) (signed_square ring maps x prime complex h i j)
  bidual_anticommutes p (pos zero) r e =
      let lower : r ≡ negsuc zero = omega (arith, ints) in
      let a = suc n - suc p in
      let first = to_nothing ring (dual_degrees x zero a) in
      let left = bidual_across ring n x (suc p) (pos zero) in
      let last = to_nothing ring (dual_degrees x zero (suc n - p)) in
      let from = across-from zero a (dual_degrees x zero (suc n - (suc p - 1))) in
      subst (λ s. IsZeroMatrix (matrix_sum (matrix_product first (bidual_across ring n x (suc p) s))
      (matrix_product left last))) (sym lower)
      (IsZeroMatrix-sum (matrix_product first (from_nothing ring [])) (matrix_product left last)
      (record {
        rings = sym from.ring_of;
        targets = refl;
        degrees = row_degrees-matrix_product first (from_nothing ring [])
            ∙ row_degrees-zero_matrix ring (dual_degrees x zero a) []
            ∙ sym (row_degrees-matrix_product left last ∙ from.source_of);
      })
      (IsZeroMatrix-product_first first (from_nothing ring []) positive (to_nothing-zero (dual_degrees x zero a)))
      (IsZeroMatrix-product_second left last (subst (λ (q : Ring). 0 < q.modulus) (sym from.ring_of) positive)
      (to_nothing-zero (dual_degrees x zero (suc n - p)))))
  bidual_anticommutes p (negsuc i) r e = refl

  no_degrees : (i : ℕ) → dual_degrees x i (suc (suc n)) ≡ []
  no_degrees i =
      λ k. map neg_ℤ ((degrees_of (ends.boundaries i k) ++ degrees_of (ends.homology i k))
      ++ degrees_of (ends.boundaries (suc i) k))

  leaving-target : (i a : ℕ) (degrees : List ℤ) → a ≡ suc n → (dual_across ring x i degrees a).target ≡ []
  leaving-target i a degrees e =
      ap (λ b. (dual_across ring x i degrees b).target) e
      ∙ across-target ring maps x prime complex h i n ∙ no_degrees i

  bidual_outside : (p : ℕ) (q : ℤ) → suc n ≤ p → bidual_degrees n x p q ≡ []
  bidual_outside p (pos i) e = ap (dual_degrees x i) (let none : suc n - p ≡ 0 = omega arith in none)
  bidual_outside p (negsuc i) e = refl

  bidual_leaving : (q : ℤ) → IsFrom ring (bidual_degrees n x 0 q) (bidual_across ring n x 0 q)
  bidual_leaving (pos i) = across-from i (suc n - 0) (dual_degrees x i (suc n - (0 - 1)))
  bidual_leaving (negsuc i) = record { ring_of = refl; source_of = refl; matrix = tt }

  bidual_leaving_target : (q : ℤ) → (bidual_across ring n x 0 q).target ≡ []
  bidual_leaving_target (pos i) = leaving-target i (suc n - 0) (dual_degrees x i (suc n - (0 - 1))) (omega arith)
  bidual_leaving_target (negsuc i) = refl

  pub is_bicomplex : IsBicomplex (bidual ring n x)
  is_bicomplex = record {
    is_ring = field_ring prime;
    modules = λ p q. record { ring_of = refl; target_of = refl; matrix = tt };
    outside = bidual_outside;
    downward = λ p q. bidual_downward p q (q -ℤ pos 1) refl;
    leftward = bidual_leftward;
    leaving = bidual_leaving;
    leaving_target = bidual_leaving_target;
    twice_down = λ p q. IsZeroModulo-zero (from_nothing ring (bidual_degrees n x p (q -ℤ pos 1 -ℤ pos 1)))
        (matrix_product (bidual_down ring n x p q) (bidual_down ring n x p (q -ℤ pos 1))) (field_ring prime)
        (bidual_twice_down p q (q -ℤ pos 1) refl);
    across = λ p q. IsZeroModulo-zero (from_nothing ring (bidual_degrees n x p (q -ℤ pos 1)))
        (matrix_sum (matrix_product (bidual_down ring n x (suc p) q) (bidual_across ring n x (suc p) (q -ℤ pos 1)))
        (matrix_product (bidual_across ring n x (suc p) q) (bidual_down ring n x p q))) (field_ring prime)
        (bidual_anticommutes p q (q -ℤ pos 1) refl);
    twice_left = λ p q. IsZeroModulo-zero (from_nothing ring (bidual_degrees n x p q))
        (matrix_product (bidual_across ring n x (suc (suc p)) q) (bidual_across ring n x (suc p) q)) (field_ring prime)
        (bidual_twice_left p q);
  }

-- with Hom of the resolution of a module into the ring
module _ (relations : Matrix) (n : ℕ) (steps : ℕ → Matrix) (x : CartanEilenberg) (prime : IsOverField relations.ring)
    (matrix : IsMatrix relations) (d : IsBidualOf relations n steps x) where
  pub dual_complex : IsCochainComplex relations.ring (dual_maps steps)
  dual_complex = complex_of_steps relations steps prime matrix d.first d.next

  pub bidual_bicomplex : IsBicomplex (bidual relations.ring n x)
  bidual_bicomplex = is_bicomplex relations.ring (dual_maps steps) x prime dual_complex d.cartan n d.ends
