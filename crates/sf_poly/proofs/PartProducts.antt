-- The product of a part of a polynomial's terms with a polynomial.
use Rattle.std.proofs.Common.{◌≡◌, ℕ, ◌<◌, ◌≤◌, List, [], ◌∷◌, length, map, take, drop, sym, ◌∙◌, ap, subst, arith}
use Rattle.std.specs.List.{AllByRecursion}
use Rattle.std.proofs.lemmas.List.{take-append-drop, take_all}
use Rattle.sf_algebra.specs.Monomials.{Monomial, product, monomial_cmp}
use Rattle.sf_algebra.specs.Multiples.{term_product, multiple}
use Rattle.sf_algebra.specs.Polynomials.{polynomial_product}
use Rattle.sf_algebra.specs.Primes.{IsPrime}
use Rattle.sf_algebra.specs.Rings.{plain, ones}
use Rattle.sf_algebra.specs.Sums.{add}
use Rattle.sf_algebra.specs.Terms.{Term, IsCanonical, IsNonzeroResidue}
use Rattle.sf_algebra.proofs.Multiplying.Keys.{monomial_keys}
use Rattle.sf_algebra.proofs.Multiplying.Polynomials.{polynomial_product-append}
use Rattle.sf_algebra.proofs.Multiplying.PrimeMultiples.{IsCanonical-map_term_product, multiple-map}

-- a modulus of which there is a nonzero residue is positive
pub positive_from_residues : (p : ℕ) (us : List (Term Monomial)) → 0 < length us
    → AllByRecursion (IsNonzeroResidue p) us → 0 < p
positive_from_residues p [] some h = absurd (omega arith)
positive_from_residues p (u ∷ us) some h = omega (arith, h.0.1)

-- the halves
pub polynomial_product-halves : (p : ℕ) → 0 < p → (v : List (Term Monomial)) (k : ℕ) (us : List (Term Monomial))
    → polynomial_product (plain p) us v
    ≡ add (monomial_cmp ones) p (polynomial_product (plain p) (take k us) v)
    (polynomial_product (plain p) (drop k us) v)
polynomial_product-halves p positive v k us =
    ap (λ l. polynomial_product (plain p) l v) (sym (take-append-drop k us))
    ∙ polynomial_product-append (plain p) positive (take k us) (drop k us) v

-- the products of a term with each of the terms, once a loop has been through all
module _ (p : ℕ) (t : Term Monomial) (prime : IsPrime p) (nonzero : IsNonzeroResidue p t) (us : List (Term Monomial))
    (canonical : IsCanonical (monomial_cmp ones) p us) where
  module _ (i : ℕ) (products : List (Term Monomial)) (all : length us ≤ i)
      (taken : products ≡ map (term_product product p t) (take i us)) where
    whole : products ≡ map (term_product product p t) us
    whole = taken ∙ ap (map (term_product product p t)) (take_all i us all)

    pub multiple-taken : products ≡ multiple (monomial_cmp ones) product p t us
    multiple-taken = whole ∙ sym (multiple-map (monomial_keys ones) p t prime nonzero us canonical)

    pub IsCanonical-taken : IsCanonical (monomial_cmp ones) p products
    IsCanonical-taken =
        subst (IsCanonical (monomial_cmp ones) p) (sym whole)
        (IsCanonical-map_term_product (monomial_keys ones) p t prime nonzero us canonical)
