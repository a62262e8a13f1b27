-- The multiples of a place by all monomials of a degree are listed with none forgotten, the greatest first.
use Rattle.std.proofs.Common.{◌≡◌, inl, inr, ℕ, zero, suc, ◌<◌, ◌≤◌, List, [], ◌∷◌, ◌++◌, sym, ◌∙◌, ap, subst, arith}
use Rattle.std.specs.declared.cmp.Ordering.TheVariants.{Less}
use Rattle.std.specs.List.{AllByRecursion, Contains}
use Rattle.std.proofs.lemmas.Bool.{cases_lt}
use Rattle.std.proofs.lemmas.List.Elements.{Contains-append_left, Contains-append_right, Contains-push}
use Rattle.sf_algebra.specs.Divisibility.{quotient}
use Rattle.sf_algebra.specs.Monomials.{Monomial, VARIABLES, one, product, variable, exponent_sum, monomial_cmp}
use Rattle.sf_algebra.specs.Multiples.{place_product}
use Rattle.sf_algebra.specs.Rings.{Weights, ones}
use Rattle.sf_algebra.specs.Vectors.{Place, place_cmp}
use Rattle.sf_algebra.proofs.Basics.Lists.{AllByRecursion-append, AllByRecursion-weaken}
use Rattle.sf_algebra.proofs.Monomials.Divisors.{product-quotient}
use Rattle.sf_algebra.proofs.Monomials.Places.{place_product-one, place_product-assoc}
use Rattle.sf_algebra.proofs.Monomials.Products.{product-comm, monomial_cmp-product}
use Rattle.sf_algebra.proofs.Vectors.Positions.{place_cmp-position}
use Rattle.sf_variables.specs.Columns.{AreFalling}
use Rattle.sf_variables.proofs.Keeping.Monomials.{IsInVariables-one, IsInVariables-product, IsInVariables-quotient, IsInVariables-variable, IsInVariables-more}
use Rattle.sf_dense.specs.PlaceLists.{multiples_of}
use Rattle.sf_dense.proofs.PlacesOfDegree.LastVariables.{exponent, IsOfDegree, IsInVariables-fewer, Divides-variable, exponent-variable, one_alone, degree-none, monomial_cmp-last}
use Rattle.sf_dense.proofs.PlacesOfDegree.Multiples.{exponent_sum-variable}

-- a multiple of a place by a monomial of a degree over the first n variables
abbrev pub IsMultiple : Place → ℕ → ℕ → Place → Type 0
IsMultiple k d n l = (a : Monomial) × IsOfDegree d n a × (place_product a k ≡ l)

IsOfDegree-more : (d n : ℕ) (a : Monomial) → IsOfDegree d n a → IsOfDegree d (suc n) a
IsOfDegree-more d n a h =
    record { degree = h.degree; variables = IsInVariables-more n (suc n) (omega arith) a h.variables }

-- times the last variable
IsOfDegree-times : (d n : ℕ) → n < VARIABLES → (a : Monomial) → IsOfDegree d (suc n) a
    → IsOfDegree (suc d) (suc n) (product a (variable n))
IsOfDegree-times d n room a h = record {
  degree =
      let sum = ap exponent_sum (product-comm a (variable n)) ∙ exponent_sum-variable n room a in
      let e = h.degree in
      omega arith;
  variables =
      IsInVariables-product (suc n) a (variable n) h.variables (IsInVariables-variable (suc n) n (omega arith));
}

-- a multiple of the last variable's multiple has the last variable
times_last : (k l : Place) (d n : ℕ) → n < VARIABLES → IsMultiple (place_product (variable n) k) d (suc n) l
    → (a : Monomial) × IsOfDegree (suc d) (suc n) a × (place_product a k ≡ l) × (0 < exponent a n)
times_last k l d n room w = (
  product w.0 (variable n),
  IsOfDegree-times d n room w.0 w.1,
  place_product-assoc w.0 (variable n) k ∙ w.2,
  exponent-variable n room w.0,
)

-- each place of the list is a multiple
pub multiples_of-inside : (k : Place) (d n : ℕ) → n ≤ VARIABLES → AllByRecursion (IsMultiple k d n) (multiples_of k d n)
unfolding multiples_of
multiples_of-inside k zero n room =
    ((one, record { degree = omega arith; variables = IsInVariables-one n }, place_product-one k), tt)
multiples_of-inside k (suc d) zero room = tt
multiples_of-inside k (suc d) (suc n) room =
    AllByRecursion-append (IsMultiple k (suc d) (suc n)) (multiples_of k (suc d) n)
    (multiples_of (place_product (variable n) k) d (suc n))
    (AllByRecursion-weaken (IsMultiple k (suc d) n) (IsMultiple k (suc d) (suc n))
    (λ l w. (w.0, IsOfDegree-more (suc d) n w.0 w.1, w.2))
    (multiples_of k (suc d) n)
    (multiples_of-inside k (suc d) n (omega arith)))
    (AllByRecursion-weaken (IsMultiple (place_product (variable n) k) d (suc n)) (IsMultiple k (suc d) (suc n))
    (λ l w. let t = times_last k l d n (omega arith) w in (t.0, t.1, t.2))
    (multiples_of (place_product (variable n) k) d (suc n))
    (multiples_of-inside (place_product (variable n) k) d (suc n) room))

-- each multiple is in the list
pub multiples_of-all : (k : Place) (d n : ℕ) → n ≤ VARIABLES → (a : Monomial) → IsOfDegree d n a
    → Contains (multiples_of k d n) (place_product a k)
unfolding multiples_of
multiples_of-all k zero n room a h =
    let alone = ap (λ b. place_product b k) (one_alone a h.degree) ∙ place_product-one k in
    subst (Contains (k ∷ [])) (sym alone) (Contains-push [] k)
multiples_of-all k (suc d) zero room a h = absurd (degree-none d a h)
multiples_of-all k (suc d) (suc n) room a h =
    elim (cases_lt 0 (exponent a n)) [
      | inl with_last ↦
          let x = variable n in
          let whole : product (quotient a x) x ≡ a =
          product-comm (quotient a x) x ∙ product-quotient a x (Divides-variable n a with_last) in
          let sums = ap exponent_sum (product-quotient a x (Divides-variable n a with_last)) in
          let more = exponent_sum-variable n (omega arith) (quotient a x) in
          let degree = h.degree in
          let rest : IsOfDegree d (suc n) (quotient a x) =
          record { degree = omega arith; variables = IsInVariables-quotient (suc n) a x h.variables } in
          Contains-append_right (multiples_of k (suc d) n) (multiples_of (place_product x k) d (suc n))
          (place_product a k)
          (subst (Contains (multiples_of (place_product x k) d (suc n)))
          (sym (place_product-assoc (quotient a x) x k) ∙ ap (λ b. place_product b k) whole)
          (multiples_of-all (place_product x k) d (suc n) room (quotient a x) rest))
      | inr without ↦
          let fewer : IsOfDegree (suc d) n a =
          record { degree = h.degree; variables = IsInVariables-fewer n a (omega arith) h.variables } in
          Contains-append_left (multiples_of k (suc d) n) (multiples_of (place_product (variable n) k) d (suc n))
          (place_product a k)
          (multiples_of-all k (suc d) n (omega arith) a fewer)
    ]

-- two multiples of a place compare as the monomials do
place_cmp-multiples : (weights : Weights) (k : Place) (a b : Monomial)
    → place_cmp weights (place_product a k) (place_product b k) ≡ monomial_cmp weights a b
place_cmp-multiples weights k a b =
    place_cmp-position weights k.position (product a k.monomial) (product b k.monomial)
    ∙ (λ i. monomial_cmp weights (product-comm a k.monomial i) (product-comm b k.monomial i))
    ∙ monomial_cmp-product weights k.monomial a b

-- two falling lists, each place of the first greater than each of the second
pub AreFalling-append : (weights : Weights) (P Q : Place → Type 0)
    → ((k l : Place) → P k → Q l → place_cmp weights l k ≡ Less) → (ks ls : List Place) → AreFalling weights ks
    → AllByRecursion P ks → AreFalling weights ls → AllByRecursion Q ls → AreFalling weights (ks ++ ls)
AreFalling-append weights P Q less [] ls f p g q = g
AreFalling-append weights P Q less (k ∷ ks) ls f p g q = (
  AllByRecursion-append (λ l. place_cmp weights l k ≡ Less) ks ls f.0
      (AllByRecursion-weaken Q (λ l. place_cmp weights l k ≡ Less) (λ l. less k l p.0) ls q),
  AreFalling-append weights P Q less ks ls f.1 p.1 g q,
)

pub multiples_of-falling : (k : Place) (d n : ℕ) → n ≤ VARIABLES → AreFalling ones (multiples_of k d n)
unfolding multiples_of
multiples_of-falling k zero n room = (tt, tt)
multiples_of-falling k (suc d) zero room = tt
multiples_of-falling k (suc d) (suc n) room =
    let x = variable n in
    AreFalling-append ones (IsMultiple k (suc d) n) (IsMultiple (place_product x k) d (suc n))
    (λ l m w v.
    let t = times_last k m d n (omega arith) v in
    subst (λ b. place_cmp ones b l ≡ Less) t.2
    (subst (λ b. place_cmp ones (place_product t.0 k) b ≡ Less) w.2
    (place_cmp-multiples ones k t.0 w.0 ∙ monomial_cmp-last n (suc d) (omega arith) w.0 t.0 w.1 t.1 t.3)))
    (multiples_of k (suc d) n)
    (multiples_of (place_product x k) d (suc n))
    (multiples_of-falling k (suc d) n (omega arith))
    (multiples_of-inside k (suc d) n (omega arith))
    (multiples_of-falling (place_product x k) d (suc n) room)
    (multiples_of-inside (place_product x k) d (suc n) room)
