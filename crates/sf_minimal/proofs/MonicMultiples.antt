-- Rows of constants that are made monic.
use Rattle.std.proofs.Common.{◌≡◌, ℕ, ◌<◌, List, ◌∷◌, map, sym, ◌∙◌, ap, subst, arith, ℤ, pos, ◌+ℤ◌}
use Rattle.std.proofs.lemmas.Int.{ints}
use Rattle.std.specs.List.{AllByRecursion}
use Rattle.sf_algebra.specs.Monomials.{exponent_sum, one, product}
use Rattle.sf_algebra.specs.Multiples.{multiple, place_product, term_product}
use Rattle.sf_algebra.specs.Primes.{IsPrime}
use Rattle.sf_algebra.specs.Residues.{product_mod}
use Rattle.sf_algebra.specs.Rings.{Ring, ones, plain}
use Rattle.sf_algebra.specs.Terms.{IsCanonical, Term}
use Rattle.sf_algebra.specs.VectorOperations.{row_multiple}
use Rattle.sf_algebra.specs.Vectors.{IsVector, Place, Vector, place_cmp}
use Rattle.sf_algebra.proofs.Arithmetic.Residues.{product_mod-comm}
use Rattle.sf_algebra.proofs.Basics.Lists.{AllByRecursion-weaken}
use Rattle.sf_algebra.proofs.Monomials.Places.{place_product-one}
use Rattle.sf_algebra.proofs.Monomials.Weights.{ones_positive}
use Rattle.sf_algebra.proofs.Multiplying.Keys.{place_keys}
use Rattle.sf_algebra.proofs.Multiplying.MultipleLaws.{multiple-multiple, multiple-one}
use Rattle.sf_algebra.proofs.Multiplying.PrimeMultiples.{multiple-map}
use Rattle.sf_algebra.proofs.Vectors.HomogeneousVectors.{IsVector-multiple}
use Rattle.sf_groebner.specs.Criterion.{lead_place}
use Rattle.sf_groebner.specs.Divisions.{tail_of}
use Rattle.sf_groebner.specs.ReducedBases.{IsMonic}
use Rattle.sf_groebner.proofs.PairTheorems.Multiplied.{constant_term}
use Rattle.sf_matrix.specs.Bounds.{HasRoom}
use Rattle.sf_minimal.specs.Pivots.{IsMonicMultiple}
use Rattle.sf_minimal.proofs.PivotRows.{constants-within}

module _ (p : ℕ) (prime : IsPrime p) (ring : Ring) (same : ring ≡ plain p) (target : List ℤ)
    (zeros : AllByRecursion (λ (e : ℤ). e ≡ pos 0) target) (rest : Vector) (h : IsVector ring target rest)
    (zero : rest.degree ≡ pos 0) where
  vector : IsVector (plain p) target rest
  vector = subst (λ (r : Ring). IsVector r target rest) same h

  pub rest-canonical : IsCanonical (place_cmp ones) p rest.terms
  rest-canonical = vector.canonical

  pub rest-room : HasRoom one rest.terms
  rest-room =
      AllByRecursion-weaken _ _ (λ t k. omega (arith, k.0)) rest.terms
      (constants-within ones ones_positive target rest.degree zeros zero rest.terms vector.homogeneous)

  module _ (t : Term Place) (first : rest.terms ≡ t ∷ tail_of rest.terms) (y : ℕ) (nonzero : 0 < y) (below : y < p)
      (inverse : product_mod p t.coefficient y ≡ 1) (w : Vector)
      (made : w ≡ record { degree = rest.degree +ℤ pos (exponent_sum one); terms = multiple (place_cmp ones) place_product p (record { at = one; coefficient = y }) rest.terms }) where
    no_more : (d : ℤ) → d +ℤ pos (exponent_sum one) ≡ d
    no_more d = omega (arith, ints)

    terms : w.terms ≡ row_multiple (plain p) (constant_term y) rest.terms
    terms = ap (λ (u : Vector). u.terms) made

    shape : w.terms ≡ term_product place_product p (constant_term y) t ∷ map (term_product place_product p (constant_term y)) (tail_of rest.terms)
    shape =
        terms
        ∙ multiple-map (place_keys ones) p (constant_term y) prime (nonzero, below) rest.terms vector.canonical
        ∙ ap (map (term_product place_product p (constant_term y))) first

    factors : term_product product p (constant_term t.coefficient) (constant_term y) ≡ constant_term 1
    factors = λ i. record { at = one; coefficient = inverse i }

    pub IsMonicMultiple-made : IsMonicMultiple ring rest.terms w
    IsMonicMultiple-made =
        subst (λ (r : Ring). IsMonicMultiple r rest.terms w) (sym same)
        (record {
          factor = y;
          inverse = t.coefficient;
          value = sym terms;
          back = ap (row_multiple (plain p) (constant_term t.coefficient)) terms
              ∙ multiple-multiple (place_keys ones) p (omega (arith, below)) (constant_term t.coefficient) (constant_term y) rest.terms
              ∙ ap (λ s. row_multiple (plain p) s rest.terms) factors
              ∙ multiple-one (place_keys ones) p (omega (arith, below)) rest.terms vector.canonical;
          degree = ap (λ (u : Vector). u.degree) made ∙ no_more rest.degree ∙ zero;
          place = ap lead_place shape ∙ place_product-one t.at ∙ sym (ap lead_place first);
          monic = subst IsMonic (sym shape) (product_mod-comm p y t.coefficient ∙ inverse);
        })

    pub IsVector-made : IsVector ring target w
    IsVector-made =
        subst (λ (r : Ring). IsVector r target w) (sym same)
        (subst (IsVector (plain p) target) (sym made)
        (IsVector-multiple (plain p) target (omega (arith, below)) rest.degree (constant_term y) rest.terms vector))
