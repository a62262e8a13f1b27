-- The S-vector of two rows as the sum of two multiples of rows.
use Rattle.std.proofs.Common.{◌≡◌, ℕ, ◌<◌, ◌≤◌, List, [], ◌∷◌, length, refl, sym, ◌∙◌, ap, subst, arith}
use Rattle.std.proofs.lemmas.List.{length-map}
use Rattle.std.specs.List.{AllByRecursion}
use Rattle.sf_algebra.specs.Bounds.{GREATEST_SUM}
use Rattle.sf_algebra.specs.Matrices.{Matrix, IsMatrix, degrees_of}
use Rattle.sf_algebra.specs.MatrixOperations.{row_at}
use Rattle.sf_algebra.specs.Monomials.{exponent_sum}
use Rattle.sf_algebra.specs.Primes.{IsPrime}
use Rattle.sf_algebra.specs.Residues.{negative_mod}
use Rattle.sf_algebra.specs.Rings.{Ring, ones, plain}
use Rattle.sf_algebra.specs.Terms.{Term}
use Rattle.sf_algebra.specs.VectorOperations.{row_multiple, row_sum}
use Rattle.sf_algebra.specs.Vectors.{IsHomogeneous, IsTermOfDegree, Place, Vector, place_degree}
use Rattle.sf_algebra.proofs.Monomials.Weights.{ones_positive}
use Rattle.sf_algebra.proofs.Multiplying.Keys.{place_keys}
use Rattle.sf_algebra.proofs.Multiplying.Multiples.{IsCanonical-multiple}
use Rattle.sf_algebra.proofs.Vectors.RowSums.{row_sum-nil_first}
use Rattle.sf_algebra.proofs.Vectors.Rows.{row_combination-cons, row_combination-one}
use Rattle.sf_groebner.specs.Criterion.{IsMonicRow, lcm_place, lead_at, pair_place, s_vector}
use Rattle.sf_groebner.specs.ReducedBases.{IsMonic}
use Rattle.sf_groebner.proofs.Basics.Items.{AllByRecursion-both}
use Rattle.sf_groebner.proofs.Constructions.MonicVectors.{monic_row}
use Rattle.sf_groebner.proofs.PairTheorems.MonicRows.{IsMonic-shape}
use Rattle.sf_groebner.proofs.PairTheorems.PairDegrees.{place_degree-pair_place}
use Rattle.sf_matrix.specs.Bounds.{DegreeFits}
use Rattle.sf_matrix.specs.Places.{factor_of}
use Rattle.sf_reduce.proofs.DivisionLoops.{HasDigits-degree, monic_vectors}

module _ (m : Matrix) (is_matrix : IsMatrix m) (monic : AllByRecursion (λ (v : Vector). IsMonic v.terms) m.rows)
    (p : ℕ) (prime : IsPrime p) (rings : m.ring ≡ plain p) (i j : ℕ) (i_in : i < length m.rows)
    (j_in : j < length m.rows) where
  abbrev lead : ℕ → Place
  lead = lead_at m.rows

  abbrev pair_term : ℕ → ℕ → ℕ → Term Place
  pair_term k l c = record { at = pair_place lead k l; coefficient = c }

  monic_rows : AllByRecursion (IsMonicRow m.ring) m.rows
  monic_rows = AllByRecursion-both _ _ _ (λ v h k. record { canonical = h.canonical; monic = k }) m.rows is_matrix monic

  position_in : (lead i).position < length m.target
  position_in =
      let row = monic_row m.ring m.target m.rows (monic_vectors m is_matrix monic p prime rings) i i_in in
      (subst (IsHomogeneous m.ring.weights m.target _) (IsMonic-shape (row_at m.rows i) row.monic) row.vector.homogeneous).0.0

  -- the least common multiple fits
  pub lcm_fits : DegreeFits m.target (place_degree ones m.target (lcm_place lead i j))
      → exponent_sum (lcm_place lead i j).monomial ≤ GREATEST_SUM
  lcm_fits fits =
      HasDigits-degree (plain p) ones_positive m.target (place_degree ones m.target (lcm_place lead i j))
      (record { at = lcm_place lead i j; coefficient = 1 }) (position_in, refl) fits

  pub pair_degree : place_degree ones (degrees_of m.rows) (pair_place lead i j)
      ≡ place_degree ones m.target (lcm_place lead i j)
  pair_degree =
      subst (λ (r : Ring). place_degree r.weights (degrees_of m.rows) (pair_place lead i j) ≡ place_degree r.weights m.target (lcm_place lead i j)) rings
      (place_degree-pair_place m is_matrix monic_rows i j i_in)

  pub pair_term-degree : (c : ℕ)
      → IsTermOfDegree ones (degrees_of m.rows) (place_degree ones m.target (lcm_place lead i j)) (pair_term i j c)
  pair_term-degree c = (simp length-map i_in, sym pair_degree)

  -- the sum of the two multiples
  pub s_vector-sum : row_sum (plain p)
      (row_sum (plain p) [] (row_multiple (plain p) (factor_of (pair_term i j 1)) (row_at m.rows i)))
      (row_multiple (plain p) (factor_of (pair_term j i (negative_mod p 1))) (row_at m.rows j))
      ≡ s_vector m.ring m.rows i j
  s_vector-sum =
      let positive : 0 < p = omega (arith, prime.above_one) in
      let first : List (Term Place) = row_multiple (plain p) (factor_of (pair_term i j 1)) (row_at m.rows i) in
      let second : List (Term Place) = row_multiple (plain p) (factor_of (pair_term j i (negative_mod p 1))) (row_at m.rows j) in
      ap (λ l. row_sum (plain p) l second)
      (row_sum-nil_first (plain p) positive first (IsCanonical-multiple (place_keys ones) p positive (factor_of (pair_term i j 1)) (row_at m.rows i)))
      ∙ ap (row_sum (plain p) first) (sym (row_combination-one (plain p) positive m.rows (pair_term j i (negative_mod p 1))))
      ∙ sym (row_combination-cons (plain p) positive m.rows (pair_term i j 1) (pair_term j i (negative_mod p 1) ∷ []))
      ∙ ap (λ (r : Ring). s_vector r m.rows i j) (sym rings)
