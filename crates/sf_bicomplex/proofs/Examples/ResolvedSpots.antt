-- The laws of the bicomplex whose rows are resolved, spot by spot.
use Rattle.std.proofs.Common.{◌≡◌, ℕ, zero, suc, ◌≤◌, List, [], ◌∷◌, refl, arith, ℤ, pos, ◌-ℤ◌}
use Rattle.std.proofs.lemmas.Int.{ints}
use Rattle.sf_algebra.specs.Matrices.{Matrix}
use Rattle.sf_algebra.specs.MatrixOperations.{matrix_product}
use Rattle.sf_algebra.specs.Multiples.{combination, combination_terms}
use Rattle.sf_algebra.specs.Residues.{product_mod, sum_mod}
use Rattle.sf_algebra.specs.Rings.{plain}
use Rattle.sf_algebra.specs.Sums.{add, normal, insert}
use Rattle.sf_groebner.specs.MinimalGenerators.{matrix_of}
use Rattle.sf_groebner.specs.Presentations.{IsModuleMap}
use Rattle.sf_blocks.specs.MatrixSums.{matrix_sum, zero_matrix}
use Rattle.sf_bicomplex.specs.ResolvedExample.{IsResolvingBicomplex, kernel_multiple, resolving_across, resolving_degrees, resolving_down}
use Rattle.sf_bicomplex.proofs.Examples.FreeSpots.{HasNoTerms, free-map, plain_ring, product-first, with_rows-degrees, with_rows-map, with_rows-nothing, zero_modulo}

outside : (p : ℕ) (q : ℤ) → 2 ≤ p → resolving_degrees p q ≡ []
outside zero q h = absurd (omega arith)
outside (suc zero) q h = absurd (omega arith)
outside (suc (suc p)) q h = refl

abbrev IsMapOfFree : List ℤ → List ℤ → Matrix → Type 0
IsMapOfFree source target m = IsModuleMap (matrix_of (plain 101) source []) (matrix_of (plain 101) target []) m

nothing-map : (source target : List ℤ) → IsMapOfFree source target (zero_matrix (plain 101) source target)
nothing-map source target = with_rows-map source target [] (with_rows-nothing source target)

downward : (p : ℕ) (q : ℤ) → IsMapOfFree (resolving_degrees p q) (resolving_degrees p (q -ℤ pos 1)) (resolving_down p q)
downward zero q = nothing-map (resolving_degrees 0 q) (resolving_degrees 0 (q -ℤ pos 1))
downward (suc zero) (pos zero) = nothing-map (pos 0 ∷ pos 1 ∷ []) (resolving_degrees 1 (pos 0 -ℤ pos 1))
downward (suc zero) (pos (suc zero)) =
    free-map (pos 2 ∷ []) (pos 0 ∷ pos 1 ∷ []) (kernel_multiple ∷ []) refl (search (arith, ints))
downward (suc zero) q = nothing-map [] (resolving_degrees 1 (q -ℤ pos 1))
downward (suc (suc p)) q = nothing-map [] []

leftward : (p : ℕ) (q : ℤ) → IsMapOfFree (resolving_degrees (suc p) q) (resolving_degrees p q) (resolving_across (suc p) q)
leftward zero (pos zero) =
    free-map (pos 0 ∷ pos 1 ∷ []) (pos 0 ∷ []) (resolving_across 1 (pos 0)).rows refl (search (arith, ints))
leftward zero q = nothing-map (resolving_degrees 1 q) (resolving_degrees 0 q)
leftward (suc p) q = nothing-map [] (resolving_degrees (suc p) q)

-- the maps of the bicomplex, one after another
twice_down : (p : ℕ) (q : ℤ) → HasNoTerms (matrix_product (resolving_down p q) (resolving_down p (q -ℤ pos 1))).rows
unfolding add combination combination_terms normal insert sum_mod product_mod
twice_down zero q = product-first (resolving_degrees 0 q) (resolving_degrees 0 (q -ℤ pos 1)) (resolving_down 0 (q -ℤ pos 1))
twice_down (suc zero) (pos zero) =
    product-first (pos 0 ∷ pos 1 ∷ []) (resolving_degrees 1 (pos 0 -ℤ pos 1)) (resolving_down 1 (pos 0 -ℤ pos 1))
twice_down (suc zero) (pos (suc zero)) = (refl, tt)
twice_down (suc zero) q = tt
twice_down (suc (suc p)) q = tt

across : (p : ℕ) (q : ℤ)
    → HasNoTerms (matrix_sum (matrix_product (resolving_down (suc p) q) (resolving_across (suc p) (q -ℤ pos 1)))
    (matrix_product (resolving_across (suc p) q) (resolving_down p q))).rows
unfolding add combination combination_terms normal insert sum_mod product_mod
across zero (pos zero) = (refl, (refl, tt))
across zero (pos (suc zero)) = (refl, tt)
across zero q = tt
across (suc p) q = tt

pub resolving-bicomplex : IsResolvingBicomplex
resolving-bicomplex = record {
  is_ring = plain_ring;
  modules = λ p q. record { ring_of = refl; target_of = refl; matrix = tt };
  outside = outside;
  downward = downward;
  leftward = leftward;
  leaving = λ q. record {
    ring_of = refl;
    source_of = with_rows-degrees (resolving_degrees 0 q) [] [];
    matrix = with_rows-nothing (resolving_degrees 0 q) [];
  };
  leaving_target = λ q. refl;
  twice_down = λ p q. zero_modulo (resolving_degrees p (q -ℤ pos 1 -ℤ pos 1))
      (matrix_product (resolving_down p q) (resolving_down p (q -ℤ pos 1))) (twice_down p q);
  across = λ p q. zero_modulo (resolving_degrees p (q -ℤ pos 1))
      (matrix_sum (matrix_product (resolving_down (suc p) q) (resolving_across (suc p) (q -ℤ pos 1)))
      (matrix_product (resolving_across (suc p) q) (resolving_down p q))) (across p q);
  twice_left = λ p q. zero_modulo (resolving_degrees p q)
      (matrix_product (resolving_across (suc (suc p)) q) (resolving_across (suc p) q)) tt;
}
