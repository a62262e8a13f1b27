-- Whether polynomials are equal: a test of the rings, and then of the terms, one after another. (Textbook.)
use Rattle.std.specs.Prelude.{◌≡◌, Bool, ◌&&◌, ◌==◌}
use Rattle.std.specs.Bool.{Decides}
use Rattle.std.specs.Cmp.{IsEquivalence, IsPartialEquivalence, decided, partial_equiv_from_equiv}
use Rattle.std.specs.Cmp.Lexicographic.{pointwise, pointwise_decides}
use Rattle.std.proofs.Common.{ap}
use Rattle.std.proofs.lemmas.Bool.Decides.{Decides-and, Decides-eqb, Decides-like}
use Rattle.sf_algebra.specs.Monomials.{Monomial}
use Rattle.sf_algebra.specs.Terms.{Term}
use Rattle.sf_algebra.proofs.GradedMatrices.Equality.{same_ring, Decides-same_ring}
use Rattle.sf_algebra.proofs.Monomials.MonomialEquality.{same_exponents, Decides-same_exponents}
use Rattle.sf_poly.specs.Polynomials.{Polynomial}

abbrev pub same_monomial_term : Term Monomial → Term Monomial → Bool
same_monomial_term s t = same_exponents s.at t.at && (s.coefficient == t.coefficient)

abbrev pub same_polynomial : Polynomial → Polynomial → Bool
same_polynomial f g = same_ring f.ring g.ring && pointwise same_monomial_term f.terms g.terms

Decides-same_term : (s t : Term Monomial) → Decides (same_monomial_term s t) (s ≡ t)
Decides-same_term s t =
    Decides-like (same_monomial_term s t)
    (λ h. λ i. record { at = h.0 i; coefficient = h.1 i }) (λ e. (ap (λ u. u.at) e, ap (λ u. u.coefficient) e))
    (Decides-and (same_exponents s.at t.at) (s.coefficient == t.coefficient) (Decides-same_exponents s.at t.at) (Decides-eqb s.coefficient t.coefficient))

-- the test tells whether two polynomials are equal
pub Decides-same_polynomial : (f g : Polynomial) → Decides (same_polynomial f g) (f ≡ g)
Decides-same_polynomial f g =
    Decides-like (same_polynomial f g)
    (λ h. λ i. record { ring = h.0 i; terms = h.1 i }) (λ e. (ap (λ u. u.ring) e, ap (λ u. u.terms) e))
    (Decides-and (same_ring f.ring g.ring) (pointwise same_monomial_term f.terms g.terms) (Decides-same_ring f.ring g.ring) (pointwise_decides {E = same_monomial_term} Decides-same_term f.terms g.terms))

pub same_polynomial_equivalence : IsEquivalence same_polynomial
same_polynomial_equivalence = decided same_polynomial Decides-same_polynomial

pub same_polynomial_partial : IsPartialEquivalence same_polynomial
same_polynomial_partial = partial_equiv_from_equiv same_polynomial_equivalence
