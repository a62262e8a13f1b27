-- Multiples of lists of terms by a term of a polynomial, negatives, and combinations. A monomial acts on that at which
-- terms stand: on monomials by the product, on the places of a free module by the product with their monomials.
-- (Textbook.)
use Rattle.std.specs.Prelude.{ℕ, List, map}
use Rattle.std.specs.declared.cmp.Ordering.{Ordering}
use Rattle.std.specs.List.{flat_map}
use Rattle.sf_algebra.specs.Monomials.{Monomial, product}
use Rattle.sf_algebra.specs.Residues.{product_mod, negative_mod}
use Rattle.sf_algebra.specs.Sums.{normal}
use Rattle.sf_algebra.specs.Terms.{Term}
use Rattle.sf_algebra.specs.Vectors.{Place}

-- a monomial times a place
abbrev pub place_product : Monomial → Place → Place
place_product a k = record { position = k.position; monomial = product a k.monomial }

-- a term of a polynomial times a term
abbrev pub term_product : {K : Type 0} → (Monomial → K → K) → ℕ → Term Monomial → Term K → Term K
term_product act p s t = record { at = act s.at t.at; coefficient = product_mod p s.coefficient t.coefficient }

-- a term of a polynomial times a list of terms
unfoldable pub multiple : {K : Type 0} → (K → K → Ordering) → (Monomial → K → K) → ℕ → Term Monomial → List (Term K)
    → List (Term K)
multiple cmp act p s ts = normal cmp p (map (term_product act p s) ts)

-- a term with the negative of its coefficient
abbrev pub negative_term : {K : Type 0} → ℕ → Term K → Term K
negative_term p t = record { at = t.at; coefficient = negative_mod p t.coefficient }

-- the negative of a canonical list
abbrev pub negative : {K : Type 0} → ℕ → List (Term K) → List (Term K)
negative p ts = map (negative_term p) ts

-- the terms of a combination: each term of c, by the monomial at which it stands, times the list for which it stands
unfoldable pub combination_terms : {C K : Type 0} → (Monomial → K → K) → ℕ → (C → Monomial) → (C → List (Term K))
    → List (Term C) → List (Term K)
combination_terms act p monomial row c =
    flat_map (λ t. map (term_product act p (record { at = monomial t.at; coefficient = t.coefficient })) (row t.at)) c

-- the combination of lists of terms with the coefficients c
unfoldable pub combination : {C K : Type 0} → (K → K → Ordering) → (Monomial → K → K) → ℕ → (C → Monomial)
    → (C → List (Term K)) → List (Term C) → List (Term K)
combination cmp act p monomial row c = normal cmp p (combination_terms act p monomial row c)
