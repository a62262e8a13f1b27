-- Polynomials with sums and products are a commutative ring.
use Rattle.std.proofs.Common.{◌≡◌, ◌%◌, ◌<◌, List, [], ◌∷◌, ◌++◌, refl, sym, ◌∙◌, ap}
use Rattle.sf_algebra.specs.Monomials.{Monomial, product, monomial_cmp}
use Rattle.sf_algebra.specs.Multiples.{multiple, negative, term_product, combination, combination_terms}
use Rattle.sf_algebra.specs.Polynomials.{polynomial_product}
use Rattle.sf_algebra.specs.Rings.{Ring, Weights}
use Rattle.sf_algebra.specs.Sums.{add, normal, total, part_at, coefficient_at}
use Rattle.sf_algebra.specs.Terms.{Term, IsCanonical}
use Rattle.sf_algebra.proofs.Multiplying.Associativity.{IsOfRows, combination_combination, combination-multiple, combination-negative}
use Rattle.sf_algebra.proofs.Multiplying.CombinationLaws.{combination-add, combination-add_rows, combination-append, combination-cons, combination-push, combination-one, combination-same}
use Rattle.sf_algebra.proofs.Multiplying.Combinations.{IsCanonical-combination, total-combination}
use Rattle.sf_algebra.proofs.Multiplying.Keys.{monomial_keys}
use Rattle.sf_algebra.proofs.Multiplying.MultipleLaws.{multiple-one, one_term, term_product-comm}
use Rattle.sf_algebra.proofs.Terms.Coefficients.{part_at-additive}
use Rattle.sf_algebra.proofs.Terms.DoubleTotals.{total_exchange, total-same}

-- every coefficient of a product of polynomials stands for the second factor
constant_rows : (weights : Weights) (v : List (Term Monomial)) → IsOfRows (monomial_keys weights) (λ a. a) (λ _. v)
constant_rows weights v = record { monomial_act = λ a k. refl; row_act = λ a k. refl }

pub polynomial_product-nil : (ring : Ring) (u : List (Term Monomial)) → polynomial_product ring [] u ≡ []
unfolding combination combination_terms normal
polynomial_product-nil ring u = refl

module _ (ring : Ring) (positive : 0 < ring.modulus) where
  pub IsCanonical-polynomial_product : (u v : List (Term Monomial))
      → IsCanonical (monomial_cmp ring.weights) ring.modulus (polynomial_product ring u v)
  IsCanonical-polynomial_product u v =
      IsCanonical-combination (monomial_keys ring.weights) ring.modulus (λ a. a) (λ _. v) positive u

  pub polynomial_product-comm : (u v : List (Term Monomial)) → polynomial_product ring u v ≡ polynomial_product ring v u
  polynomial_product-comm u v =
      combination-same (monomial_keys ring.weights) ring.modulus positive (λ a. a) (λ _. v) u
      (polynomial_product ring v u) (IsCanonical-polynomial_product v u)
      (λ g additive.
      total_exchange ring.modulus (λ t s. g (term_product product ring.modulus t s)) u v
      ∙ total-same ring.modulus _ _ v
      (λ s. ap (λ n. n % ring.modulus) (total-same ring.modulus _ _ u (λ t. ap (λ r. g r % ring.modulus) (term_product-comm ring.modulus t s))))
      ∙ sym (total-combination (monomial_keys ring.weights) ring.modulus (λ a. a) (λ _. u) g additive v))

  pub polynomial_product-assoc : (u v w : List (Term Monomial))
      → polynomial_product ring (polynomial_product ring u v) w
      ≡ polynomial_product ring u (polynomial_product ring v w)
  polynomial_product-assoc u v w =
      combination_combination (monomial_keys ring.weights) (monomial_keys ring.weights) ring.modulus positive (λ a. a)
      (λ _. w) (constant_rows ring.weights w) (λ a. a) (λ _. v) u

  pub polynomial_product-add : (u v w : List (Term Monomial))
      → polynomial_product ring (add (monomial_cmp ring.weights) ring.modulus u v) w
      ≡ add (monomial_cmp ring.weights) ring.modulus (polynomial_product ring u w) (polynomial_product ring v w)
  polynomial_product-add u v w =
      combination-add (monomial_keys ring.weights) (monomial_keys ring.weights) ring.modulus positive (λ a. a)
      (λ _. w) u v

  -- the constant 1 is the one
  pub polynomial_product-one : (u : List (Term Monomial)) → IsCanonical (monomial_cmp ring.weights) ring.modulus u
      → polynomial_product ring (one_term ∷ []) u ≡ u
  polynomial_product-one u canonical =
      combination-one (monomial_keys ring.weights) ring.modulus positive (λ a. a) (λ _. u) one_term
      ∙ multiple-one (monomial_keys ring.weights) ring.modulus positive u canonical

  pub polynomial_product-negative : (u v : List (Term Monomial))
      → IsCanonical (monomial_cmp ring.weights) ring.modulus u
      → polynomial_product ring (negative ring.modulus u) v ≡ negative ring.modulus (polynomial_product ring u v)
  polynomial_product-negative u v h =
      combination-negative (monomial_keys ring.weights) (monomial_keys ring.weights) ring.modulus positive (λ a. a)
      (λ _. v) (constant_rows ring.weights v) u h

  -- additive in the second factor too
  pub polynomial_product-add_second : (u v w : List (Term Monomial))
      → polynomial_product ring u (add (monomial_cmp ring.weights) ring.modulus v w)
      ≡ add (monomial_cmp ring.weights) ring.modulus (polynomial_product ring u v) (polynomial_product ring u w)
  polynomial_product-add_second u v w =
      combination-add_rows (monomial_keys ring.weights) ring.modulus positive (λ a. a) (λ _. v) (λ _. w) u

  pub polynomial_product-nil_second : (u : List (Term Monomial)) → polynomial_product ring u [] ≡ []
  polynomial_product-nil_second u = polynomial_product-comm u [] ∙ polynomial_product-nil ring u

  -- a first factor of one term gives the multiple
  pub polynomial_product-one_term : (t : Term Monomial) (v : List (Term Monomial))
      → polynomial_product ring (t ∷ []) v ≡ multiple (monomial_cmp ring.weights) product ring.modulus t v
  polynomial_product-one_term t v =
      combination-one (monomial_keys ring.weights) ring.modulus positive (λ a. a) (λ _. v) t

  -- one term more in the first factor, in front
  pub polynomial_product-cons : (t : Term Monomial) (u v : List (Term Monomial))
      → polynomial_product ring (t ∷ u) v
      ≡ add (monomial_cmp ring.weights) ring.modulus (multiple (monomial_cmp ring.weights) product ring.modulus t v)
      (polynomial_product ring u v)
  polynomial_product-cons t u v =
      combination-cons (monomial_keys ring.weights) ring.modulus positive (λ a. a) (λ _. v) t u

  -- one term more, behind, as a loop adds it
  pub polynomial_product-push : (u : List (Term Monomial)) (t : Term Monomial) (v : List (Term Monomial))
      → polynomial_product ring (u ++ t ∷ []) v
      ≡ add (monomial_cmp ring.weights) ring.modulus (polynomial_product ring u v)
      (multiple (monomial_cmp ring.weights) product ring.modulus t v)
  polynomial_product-push u t v =
      combination-push (monomial_keys ring.weights) ring.modulus positive (λ a. a) (λ _. v) u t

  -- two lists of terms of the first factor, one after the other
  pub polynomial_product-append : (u v w : List (Term Monomial))
      → polynomial_product ring (u ++ v) w
      ≡ add (monomial_cmp ring.weights) ring.modulus (polynomial_product ring u w) (polynomial_product ring v w)
  polynomial_product-append u v w =
      combination-append (monomial_keys ring.weights) ring.modulus positive (λ a. a) (λ _. w) u v

  pub polynomial_product-multiple : (s : Term Monomial) (u v : List (Term Monomial))
      → polynomial_product ring (multiple (monomial_cmp ring.weights) product ring.modulus s u) v
      ≡ multiple (monomial_cmp ring.weights) product ring.modulus s (polynomial_product ring u v)
  polynomial_product-multiple s u v =
      combination-multiple (monomial_keys ring.weights) (monomial_keys ring.weights) ring.modulus positive (λ a. a)
      (λ _. v) (constant_rows ring.weights v) s u

-- the coefficient of a product is the sum of the products of those pairs of coefficients whose terms' product stands
-- there
pub coefficient_at-polynomial_product : (ring : Ring) (k : Monomial) (u v : List (Term Monomial))
    → coefficient_at (monomial_cmp ring.weights) ring.modulus k (polynomial_product ring u v)
    ≡ total ring.modulus
    (λ t. total ring.modulus (λ s. part_at (monomial_cmp ring.weights) k (term_product product ring.modulus t s)) v) u
coefficient_at-polynomial_product ring k u v =
    total-combination (monomial_keys ring.weights) ring.modulus (λ a. a) (λ _. v)
    (part_at (monomial_cmp ring.weights) k) (part_at-additive (monomial_cmp ring.weights) ring.modulus k) u
