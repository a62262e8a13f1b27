-- Modulo a prime no term of a multiple vanishes: the multiple is the list of the products.
use Rattle.std.proofs.Common.{◌≡◌, ◌⊎◌, refl, ℕ, zero, suc, ◌<◌, inl, inr, List, [], ◌∷◌, map, ◌∙◌, arith}
use Rattle.std.specs.List.{AllByRecursion}
use Rattle.sf_algebra.specs.Monomials.{Monomial}
use Rattle.sf_algebra.specs.Multiples.{term_product, multiple}
use Rattle.sf_algebra.specs.Primes.{IsPrime}
use Rattle.sf_algebra.specs.Residues.{product_mod}
use Rattle.sf_algebra.specs.Terms.{Term, IsDescending, IsNonzeroResidue, IsCanonical}
use Rattle.sf_algebra.proofs.Arithmetic.Inverses.{no_zero_divisors}
use Rattle.sf_algebra.proofs.Arithmetic.Residues.{product_mod-below}
use Rattle.sf_algebra.proofs.Multiplying.Keys.{Keys}
use Rattle.sf_algebra.proofs.Terms.Normal.{IsAboveEach}
use Rattle.sf_algebra.proofs.Terms.Sums.{normal-canonical}

-- a product of nonzero residues of a prime is nonzero
pub product_mod-nonzero : (p a b : ℕ) → IsPrime p → 0 < a → a < p → 0 < b → b < p → 0 < product_mod p a b
product_mod-nonzero p a b prime a_positive a_below b_positive b_below =
    from_zero (product_mod p a b) (no_zero_divisors p prime a b a_below b_below)
  where
    from_zero : (n : ℕ) → (n ≡ 0 → (a ≡ 0) ⊎ (b ≡ 0)) → 0 < n
    from_zero zero factors = elim (factors refl) [
      | inl none ↦ absurd (omega arith)
      | inr none ↦ absurd (omega arith)
    ]
    from_zero (suc n) factors = omega arith

module _ {K : Type 0} (keys : Keys K) (p : ℕ) (s : Term Monomial) where
  IsAboveEach-map_term_product : (k : K) (us : List (Term K)) → IsAboveEach keys.cmp k us
      → IsAboveEach keys.cmp (keys.act s.at k) (map (term_product keys.act p s) us)
  IsAboveEach-map_term_product k [] h = tt
  IsAboveEach-map_term_product k (u ∷ us) h = (keys.act_cmp s.at u.at k ∙ h.0, IsAboveEach-map_term_product k us h.1)

  pub IsDescending-map_term_product : (us : List (Term K)) → IsDescending keys.cmp us
      → IsDescending keys.cmp (map (term_product keys.act p s) us)
  IsDescending-map_term_product [] h = tt
  IsDescending-map_term_product (u ∷ us) h =
      (IsAboveEach-map_term_product u.at us h.0, IsDescending-map_term_product us h.1)

  module _ (prime : IsPrime p) (nonzero : IsNonzeroResidue p s) where
    residues-map_term_product : (us : List (Term K)) → AllByRecursion (IsNonzeroResidue p) us
        → AllByRecursion (IsNonzeroResidue p) (map (term_product keys.act p s) us)
    residues-map_term_product [] h = tt
    residues-map_term_product (u ∷ us) h = (
      (product_mod-nonzero p s.coefficient u.coefficient prime nonzero.0 nonzero.1 h.0.0 h.0.1, product_mod-below p s.coefficient u.coefficient (omega (arith, h.0.1))),
      residues-map_term_product us h.1,
    )

    pub IsCanonical-map_term_product : (us : List (Term K)) → IsCanonical keys.cmp p us
        → IsCanonical keys.cmp p (map (term_product keys.act p s) us)
    IsCanonical-map_term_product us h = record {
      descending = IsDescending-map_term_product us h.descending;
      residues = residues-map_term_product us h.residues;
    }

    -- a multiple of a canonical list, term by term
    pub multiple-map : (us : List (Term K)) → IsCanonical keys.cmp p us
        → multiple keys.cmp keys.act p s us ≡ map (term_product keys.act p s) us
    unfolding multiple
    multiple-map us h =
        normal-canonical keys.cmp keys.order p (omega (arith, nonzero.1)) (map (term_product keys.act p s) us)
        (IsCanonical-map_term_product us h)
