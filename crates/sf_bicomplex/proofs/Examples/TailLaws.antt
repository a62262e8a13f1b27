-- The laws of the worked example, spot by spot.
use Rattle.std.proofs.Common.{◌≡◌, sym, subst, ℕ, zero, suc, ◌≤◌, List, [], ◌∷◌, refl, arith, ℤ, pos, ◌-ℤ◌}
use Rattle.std.proofs.lemmas.Int.{ints}
use Rattle.sf_algebra.specs.Matrices.{IsMatrix, Matrix}
use Rattle.sf_algebra.specs.MatrixOperations.{matrix_product}
use Rattle.sf_algebra.specs.Terms.{Term}
use Rattle.sf_algebra.specs.Vectors.{Place}
use Rattle.sf_groebner.specs.Examples.{term}
use Rattle.sf_blocks.specs.MatrixSums.{matrix_sum}
use Rattle.sf_bicomplex.specs.TailExample.{IsTailBicomplex, tail_across, tail_bicomplex, tail_degrees, tail_down, tail_left, with_rows}
use Rattle.sf_bicomplex.proofs.Examples.FreeSpots.{HasNoTerms, plain_ring, product-first, product-second, sum-nothing, with_rows-degrees, with_rows-map, with_rows-nothing, zero_modulo}

outside : (p : ℕ) (q : ℤ) → 3 ≤ p → tail_degrees p q ≡ []
outside zero q h = absurd (omega arith)
outside (suc zero) q h = absurd (omega arith)
outside (suc (suc zero)) q h = absurd (omega arith)
outside (suc (suc (suc p))) q h = refl

down_matrix : (p : ℕ) (q : ℤ) → IsMatrix (with_rows (tail_degrees p q) (tail_degrees p (q -ℤ pos 1)) (tail_down p q))
down_matrix zero q = with_rows-nothing (tail_degrees zero q) (tail_degrees zero (q -ℤ pos 1))
down_matrix (suc zero) (pos zero) = search (arith, ints)
down_matrix (suc zero) (pos (suc zero)) = search (arith, ints)
down_matrix (suc zero) q = tt
down_matrix (suc (suc p)) q =
    with_rows-nothing (tail_degrees (suc (suc p)) q) (tail_degrees (suc (suc p)) (q -ℤ pos 1))

across_matrix : (p : ℕ) (q : ℤ) → IsMatrix (with_rows (tail_degrees p q) (tail_left p q) (tail_across p q))
across_matrix zero q = with_rows-nothing (tail_degrees zero q) []
across_matrix (suc zero) (pos zero) = search (arith, ints)
across_matrix (suc zero) (pos (suc zero)) = search (arith, ints)
across_matrix (suc zero) q = tt
across_matrix (suc (suc zero)) (pos zero) = search (arith, ints)
across_matrix (suc (suc zero)) q = tt
across_matrix (suc (suc (suc p))) q = tt

-- a product is zero where a map has no terms
module _ (p : ℕ) (q : ℤ) where
  abbrev down : Matrix
  down = tail_bicomplex.vertical p q

  abbrev across : Matrix
  across = tail_bicomplex.horizontal p q

  no_down : tail_down p q ≡ [] → (m : Matrix) → HasNoTerms (matrix_product (tail_bicomplex.vertical p q) m).rows
  no_down none m =
      subst (λ ts. HasNoTerms (matrix_product (with_rows (tail_degrees p q) (tail_degrees p (q -ℤ pos 1)) ts) m).rows)
      (sym none) (product-first (tail_degrees p q) (tail_degrees p (q -ℤ pos 1)) m)

  no_across : tail_across p q ≡ [] → (m : Matrix) → HasNoTerms (matrix_product (tail_bicomplex.horizontal p q) m).rows
  no_across none m =
      subst (λ ts. HasNoTerms (matrix_product (with_rows (tail_degrees p q) (tail_left p q) ts) m).rows)
      (sym none) (product-first (tail_degrees p q) (tail_left p q) m)

  then_no_down : tail_down p q ≡ [] → (source target : List ℤ) (ts : List (Term Place))
      → HasNoTerms (matrix_product (with_rows source target ts) (tail_bicomplex.vertical p q)).rows
  then_no_down none source target ts =
      subst (λ us. HasNoTerms (matrix_product (with_rows source target ts)
      (with_rows (tail_degrees p q) (tail_degrees p (q -ℤ pos 1)) us)).rows)
      (sym none) (product-second source target ts (tail_degrees p q) (tail_degrees p (q -ℤ pos 1)))

  then_no_across : tail_across p q ≡ [] → (source target : List ℤ) (ts : List (Term Place))
      → HasNoTerms (matrix_product (with_rows source target ts) (tail_bicomplex.horizontal p q)).rows
  then_no_across none source target ts =
      subst (λ us. HasNoTerms (matrix_product (with_rows source target ts)
      (with_rows (tail_degrees p q) (tail_left p q) us)).rows)
      (sym none) (product-second source target ts (tail_degrees p q) (tail_left p q))

-- the maps of the bicomplex, one after another
twice_down : (p : ℕ) (q : ℤ)
    → HasNoTerms (matrix_product (tail_bicomplex.vertical p q) (tail_bicomplex.vertical p (q -ℤ pos 1))).rows
twice_down zero q = no_down 0 q refl (down 0 (q -ℤ pos 1))
twice_down (suc zero) (pos zero) = no_down 1 (pos 0) refl (down 1 (pos 0 -ℤ pos 1))
twice_down (suc zero) (pos (suc zero)) = then_no_down 1 (pos 0) refl (pos 1 ∷ []) (pos 1 ∷ []) (term 1 0 [] ∷ [])
twice_down (suc zero) q = tt
twice_down (suc (suc p)) q = no_down (suc (suc p)) q refl (down (suc (suc p)) (q -ℤ pos 1))

down_left : (p : ℕ) (q : ℤ)
    → HasNoTerms (matrix_product (tail_bicomplex.vertical (suc p) q) (tail_bicomplex.horizontal (suc p) (q -ℤ pos 1))).rows
down_left zero (pos zero) = no_down 1 (pos 0) refl (across 1 (pos 0 -ℤ pos 1))
down_left zero (pos (suc zero)) = then_no_across 1 (pos 0) refl (pos 1 ∷ []) (pos 1 ∷ []) (term 1 0 [] ∷ [])
down_left zero q = tt
down_left (suc p) q = no_down (suc (suc p)) q refl (across (suc (suc p)) (q -ℤ pos 1))

left_down : (p : ℕ) (q : ℤ)
    → HasNoTerms (matrix_product (tail_bicomplex.horizontal (suc p) q) (tail_bicomplex.vertical p q)).rows
left_down zero q = then_no_down 0 q refl (tail_degrees 1 q) (tail_left 1 q) (tail_across 1 q)
left_down (suc zero) (pos zero) = then_no_down 1 (pos 0) refl (pos 1 ∷ []) (pos 1 ∷ []) (term 1 0 [] ∷ [])
left_down (suc zero) q = tt
left_down (suc (suc p)) q = tt

twice_left : (p : ℕ) (q : ℤ)
    → HasNoTerms (matrix_product (tail_bicomplex.horizontal (suc (suc p)) q) (tail_bicomplex.horizontal (suc p) q)).rows
twice_left zero (pos zero) = then_no_across 1 (pos 0) refl (pos 1 ∷ []) (pos 1 ∷ []) (term 1 0 [] ∷ [])
twice_left zero q = tt
twice_left (suc p) q = tt

pub tail-bicomplex : IsTailBicomplex
tail-bicomplex = record {
  is_ring = plain_ring;
  modules = λ p q. record { ring_of = refl; target_of = refl; matrix = tt };
  outside = outside;
  downward = λ p q. with_rows-map (tail_degrees p q) (tail_degrees p (q -ℤ pos 1)) (tail_down p q) (down_matrix p q);
  leftward = λ p q. with_rows-map (tail_degrees (suc p) q) (tail_degrees p q) (tail_across (suc p) q)
      (across_matrix (suc p) q);
  leaving = λ q. record {
    ring_of = refl;
    source_of = with_rows-degrees (tail_degrees 0 q) [] [];
    matrix = across_matrix 0 q;
  };
  leaving_target = λ q. refl;
  twice_down = λ p q. zero_modulo (tail_degrees p (q -ℤ pos 1 -ℤ pos 1))
      (matrix_product (down p q) (down p (q -ℤ pos 1))) (twice_down p q);
  across = λ p q.
      let first = matrix_product (down (suc p) q) (across (suc p) (q -ℤ pos 1)) in
      let second = matrix_product (across (suc p) q) (down p q) in
      zero_modulo (tail_degrees p (q -ℤ pos 1)) (matrix_sum first second)
      (sum-nothing first.rows second.rows (down_left p q) (left_down p q));
  twice_left = λ p q. zero_modulo (tail_degrees p q) (matrix_product (across (suc (suc p)) q) (across (suc p) q))
      (twice_left p q);
}
