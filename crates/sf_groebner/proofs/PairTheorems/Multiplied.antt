-- Lists of coefficients times a term, term by term.
use Rattle.std.proofs.Common.{ℕ, ◌%◌, List, [], ◌∷◌, map, subst, sym, ◌∙◌, ap}
use Rattle.sf_algebra.specs.Monomials.{Monomial, one}
use Rattle.sf_algebra.specs.Multiples.{place_product, term_product}
use Rattle.sf_algebra.specs.Residues.{sum_mod}
use Rattle.sf_algebra.specs.Sums.{total}
use Rattle.sf_algebra.specs.Terms.{Term}
use Rattle.sf_algebra.specs.Vectors.{Place}
use Rattle.sf_algebra.proofs.Arithmetic.Residues.{product_mod-one, sum_mod-first}
use Rattle.sf_algebra.proofs.Monomials.Places.{place_product-one}
use Rattle.sf_algebra.proofs.Terms.Normal.{EachPlace}
use Rattle.sf_algebra.proofs.Terms.SameTotals.{SameTotals}
use Rattle.sf_algebra.proofs.Terms.Totals.{additive-reduced, total-cons}
use Rattle.sf_groebner.proofs.PairTheorems.LeadMultiples.{at_place}

-- the term that multiplies by x
abbrev pub constant_term : ℕ → Term Monomial
constant_term x = record { at = one; coefficient = x }

-- the coefficient 1 at a place, times a term
pub SameTotals-at_place : (p : ℕ) (s : Term Monomial) (k : Place)
    → SameTotals p (map (term_product place_product p s) (at_place k))
    (record { at = place_product s.at k; coefficient = s.coefficient } ∷ [])
SameTotals-at_place p s k = record {
  totals = λ g additive.
      total-cons p g _ []
      ∙ sym (sum_mod-first p _ _)
      ∙ ap (λ n. sum_mod p n (total p g []))
      (ap (λ n. g (record { at = place_product s.at k; coefficient = n }) % p) (product_mod-one p s.coefficient)
      ∙ additive-reduced p g additive (place_product s.at k) s.coefficient)
      ∙ sum_mod-first p _ _
      ∙ sym (total-cons p g _ []);
}

-- the coefficient 1 at a place, x times
pub SameTotals-constant : (p : ℕ) (x : ℕ) (k : Place)
    → SameTotals p (map (term_product place_product p (constant_term x)) (at_place k))
    (record { at = k; coefficient = x } ∷ [])
SameTotals-constant p x k =
    subst (λ l. SameTotals p (map (term_product place_product p (constant_term x)) (at_place k)) (record { at = l; coefficient = x } ∷ [])) (place_product-one k)
    (SameTotals-at_place p (constant_term x) k)

-- what follows for the product with a monomial from a fact of each place
pub EachPlace-products : (P Q : Place → Type 0) (p : ℕ) (s : Term Monomial)
    → ((k : Place) → P k → Q (place_product s.at k)) → (us : List (Term Place)) → EachPlace P us
    → EachPlace Q (map (term_product place_product p s) us)
EachPlace-products P Q p s f [] h = tt
EachPlace-products P Q p s f (u ∷ us) h = (f u.at h.0, EachPlace-products P Q p s f us h.1)

-- a fact of the places stays one of their products with the monomial 1
pub EachPlace-constant : (P : Place → Type 0) (p x : ℕ) (us : List (Term Place)) → EachPlace P us
    → EachPlace P (map (term_product place_product p (constant_term x)) us)
EachPlace-constant P p x us h =
    EachPlace-products P P p (constant_term x) (λ k. subst P (sym (place_product-one k))) us h
