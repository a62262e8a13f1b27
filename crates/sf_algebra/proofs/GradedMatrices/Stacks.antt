-- Rows below rows, and matrices whose rows are changed one by one.
use Rattle.std.proofs.Common.{◌≡◌, refl, List, [], ◌∷◌, ◌++◌, map, sym, ap, ◌∙◌, subst, append_assoc, append-nil}
use Rattle.std.specs.List.{AllByRecursion}
use Rattle.std.proofs.lemmas.List.{map-append}
use Rattle.sf_algebra.specs.Matrices.{Matrix, row_degrees, IsMatrix}
use Rattle.sf_algebra.specs.MatrixOperations.{negated, stacked}
use Rattle.sf_algebra.specs.Multiples.{negative}
use Rattle.sf_algebra.specs.Rings.{Ring}
use Rattle.sf_algebra.specs.Terms.{Term}
use Rattle.sf_algebra.specs.Vectors.{Place, Vector, IsVector}
use Rattle.sf_algebra.proofs.Basics.Lists.{AllByRecursion-append}
use Rattle.sf_algebra.proofs.GradedMatrices.MatrixRows.{with_terms}

pub AllByRecursion-map : {X Y : Type 0} (P : Y → Type 0) (f : X → Y) (xs : List X) → AllByRecursion (λ x. P (f x)) xs
    → AllByRecursion P (map f xs)
AllByRecursion-map P f [] h = tt
AllByRecursion-map P f (x ∷ xs) h = (h.0, AllByRecursion-map P f xs h.1)

-- other terms change no degree
pub degrees-with_terms : (f : List (Term Place) → List (Term Place)) (vs : List Vector)
    → map (λ (v : Vector). v.degree) (with_terms f vs) ≡ map (λ (v : Vector). v.degree) vs
degrees-with_terms f [] = refl
degrees-with_terms f (v ∷ vs) = ap (λ ds. v.degree ∷ ds) (degrees-with_terms f vs)

-- two changes of the terms are one
pub with_terms-with_terms : (f g : List (Term Place) → List (Term Place)) (vs : List Vector)
    → with_terms f (with_terms g vs) ≡ with_terms (λ ts. f (g ts)) vs
with_terms-with_terms f g [] = refl
with_terms-with_terms f g (v ∷ vs) =
    ap (λ ws. record { degree = v.degree; terms = f (g v.terms) } ∷ ws) (with_terms-with_terms f g vs)

-- changes that agree at the terms of each vector
pub with_terms-each : (f g : List (Term Place) → List (Term Place)) (vs : List Vector)
    → AllByRecursion (λ v. f v.terms ≡ g v.terms) vs → with_terms f vs ≡ with_terms g vs
with_terms-each f g [] h = refl
with_terms-each f g (v ∷ vs) h = λ i. record { degree = v.degree; terms = h.0 i } ∷ with_terms-each f g vs h.1 i

-- a change that keeps the terms of each vector
pub with_terms-same : (f : List (Term Place) → List (Term Place)) (vs : List Vector)
    → AllByRecursion (λ v. f v.terms ≡ v.terms) vs → with_terms f vs ≡ vs
with_terms-same f [] h = refl
with_terms-same f (v ∷ vs) h = λ i. record { degree = v.degree; terms = h.0 i } ∷ with_terms-same f vs h.1 i

pub IsMatrix-stacked : (a b : Matrix) → a.ring ≡ b.ring → a.target ≡ b.target → IsMatrix a → IsMatrix b
    → IsMatrix (stacked a b)
IsMatrix-stacked a b rings targets h k =
    AllByRecursion-append (IsVector a.ring a.target) a.rows b.rows h
    (subst (λ ring. AllByRecursion (IsVector ring a.target) b.rows) (sym rings) (subst (λ ds. AllByRecursion (IsVector b.ring ds) b.rows) (sym targets) k))

pub row_degrees-stacked : (a b : Matrix) → row_degrees (stacked a b) ≡ row_degrees a ++ row_degrees b
row_degrees-stacked a b = map-append (λ (v : Vector). v.degree) a.rows b.rows

pub stacked-assoc : (a b c : Matrix) → stacked (stacked a b) c ≡ stacked a (stacked b c)
stacked-assoc a b c = λ i. record { ring = a.ring; target = a.target; rows = append_assoc a.rows b.rows c.rows i }

-- no rows below
pub stacked-nil : (a b : Matrix) → b.rows ≡ [] → stacked a b ≡ a
stacked-nil a b none = λ i. record { ring = a.ring; target = a.target; rows = (ap (λ vs. a.rows ++ vs) none ∙ append-nil a.rows) i }

pub negated-stacked : (a b : Matrix) → a.ring ≡ b.ring → negated (stacked a b) ≡ stacked (negated a) (negated b)
negated-stacked a b rings =
    let rows = map-append (λ (v : Vector). record { degree = v.degree; terms = negative a.ring.modulus v.terms }) a.rows b.rows
    ∙ ap (λ (q : Ring). with_terms (negative a.ring.modulus) a.rows ++ with_terms (negative q.modulus) b.rows) rings in
    λ i. record { ring = a.ring; target = a.target; rows = rows i }
