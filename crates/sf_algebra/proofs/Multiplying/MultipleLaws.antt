-- Laws of multiples by a term of a polynomial.
use Rattle.std.proofs.Common.{◌≡◌, ℕ, ◌%◌, ◌<◌, List, [], sym, ◌∙◌, ap}
use Rattle.sf_algebra.specs.Monomials.{Monomial, one, product}
use Rattle.sf_algebra.specs.Multiples.{term_product, multiple}
use Rattle.sf_algebra.specs.Residues.{sum_mod}
use Rattle.sf_algebra.specs.Sums.{add, total}
use Rattle.sf_algebra.specs.Terms.{Term, IsCanonical}
use Rattle.sf_algebra.proofs.Arithmetic.Residues.{product_mod-assoc, product_mod-comm, product_mod-one}
use Rattle.sf_algebra.proofs.Monomials.Products.{product-comm}
use Rattle.sf_algebra.proofs.Multiplying.Keys.{Keys}
use Rattle.sf_algebra.proofs.Multiplying.Multiples.{IsCanonical-multiple, term_product-additive, term_product-additive_first, total-multiple}
use Rattle.sf_algebra.proofs.Terms.Coefficients.{same_from_total}
use Rattle.sf_algebra.proofs.Terms.DoubleTotals.{total-same, total-sum, total-zero}
use Rattle.sf_algebra.proofs.Terms.Normal.{IsCanonical-add}
use Rattle.sf_algebra.proofs.Terms.Totals.{IsAdditive, additive-reduced, total-add, total-nil}

-- the term 1
abbrev pub one_term : Term Monomial
one_term = record { at = one; coefficient = 1 }

-- the product of terms of polynomials is commutative
pub term_product-comm : (p : ℕ) (s t : Term Monomial) → term_product product p s t ≡ term_product product p t s
term_product-comm p s t = λ i. record { at = product-comm s.at t.at i; coefficient = product_mod-comm p s.coefficient t.coefficient i }

module _ {K : Type 0} (keys : Keys K) (p : ℕ) where
  -- products of terms act one after the other
  pub term_product-assoc : (s t : Term Monomial) (u : Term K)
      → term_product keys.act p (term_product product p s t) u ≡ term_product keys.act p s (term_product keys.act p t u)
  term_product-assoc s t u = λ i. record {
    at = keys.act_product s.at t.at u.at i;
    coefficient = product_mod-assoc p s.coefficient t.coefficient u.coefficient i;
  }

  pub term_product-exchange : (s t : Term Monomial) (u : Term K)
      → term_product keys.act p s (term_product keys.act p t u)
      ≡ term_product keys.act p t (term_product keys.act p s u)
  term_product-exchange s t u =
      sym (term_product-assoc s t u) ∙ ap (λ r. term_product keys.act p r u) (term_product-comm p s t)
      ∙ term_product-assoc t s u

  -- the term 1 changes a coefficient by reducing it
  pub term_product-one : (u : Term K)
      → term_product keys.act p one_term u ≡ record { at = u.at; coefficient = u.coefficient % p }
  term_product-one u = λ i. record {
    at = keys.act_one u.at i;
    coefficient = (product_mod-comm p 1 u.coefficient ∙ product_mod-one p u.coefficient) i;
  }

  pub additive-term_product_one : (g : Term K → ℕ) → IsAdditive p g → (u : Term K)
      → g (term_product keys.act p one_term u) % p ≡ g u % p
  additive-term_product_one g additive u =
      ap (λ t. g t % p) (term_product-one u) ∙ additive-reduced p g additive u.at u.coefficient

module _ {K : Type 0} (keys : Keys K) (p : ℕ) (positive : 0 < p) where
  -- two multiples and the like are equal where all totals are
  pub multiple-same : (s : Term Monomial) (us : List (Term K)) (vs : List (Term K)) → IsCanonical keys.cmp p vs
      → ((g : Term K → ℕ) → IsAdditive p g → total p (λ u. g (term_product keys.act p s u)) us ≡ total p g vs)
      → multiple keys.cmp keys.act p s us ≡ vs
  multiple-same s us vs canonical same =
      same_from_total keys.cmp keys.order p positive _ _ (IsCanonical-multiple keys p positive s us) canonical
      (λ g additive. total-multiple keys p g additive s us ∙ same g additive)

  -- a canonical list once is itself
  pub multiple-one : (us : List (Term K)) → IsCanonical keys.cmp p us → multiple keys.cmp keys.act p one_term us ≡ us
  multiple-one us canonical =
      multiple-same one_term us us canonical
      (λ g additive. total-same p _ _ us (additive-term_product_one keys p g additive))

  -- multiples of multiples are multiples by products
  pub multiple-multiple : (s t : Term Monomial) (us : List (Term K))
      → multiple keys.cmp keys.act p s (multiple keys.cmp keys.act p t us)
      ≡ multiple keys.cmp keys.act p (term_product product p s t) us
  multiple-multiple s t us =
      multiple-same s (multiple keys.cmp keys.act p t us) _
      (IsCanonical-multiple keys p positive (term_product product p s t) us)
      (λ g additive.
      total-multiple keys p _ (term_product-additive keys.act p g additive s) t us
      ∙ total-same p _ _ us (λ u. ap (λ v. g v % p) (sym (term_product-assoc keys p s t u)))
      ∙ sym (total-multiple keys p g additive (term_product product p s t) us))

  -- multiples by two terms, in either order
  pub multiple-exchange : (s t : Term Monomial) (us : List (Term K))
      → multiple keys.cmp keys.act p s (multiple keys.cmp keys.act p t us)
      ≡ multiple keys.cmp keys.act p t (multiple keys.cmp keys.act p s us)
  multiple-exchange s t us =
      multiple-multiple s t us
      ∙ ap (λ r. multiple keys.cmp keys.act p r us) (term_product-comm p s t)
      ∙ sym (multiple-multiple t s us)

  -- a multiple of a sum
  pub multiple-add : (s : Term Monomial) (us vs : List (Term K))
      → multiple keys.cmp keys.act p s (add keys.cmp p us vs)
      ≡ add keys.cmp p (multiple keys.cmp keys.act p s us) (multiple keys.cmp keys.act p s vs)
  multiple-add s us vs =
      multiple-same s (add keys.cmp p us vs) _ (IsCanonical-add keys.cmp keys.order p positive _ _)
      (λ g additive.
      total-add keys.cmp keys.order p _ (term_product-additive keys.act p g additive s) us vs
      ∙ (λ i. sum_mod p (sym (total-multiple keys p g additive s us) i) (sym (total-multiple keys p g additive s vs) i))
      ∙ sym (total-add keys.cmp keys.order p g additive _ _))

  -- a multiple by a sum of coefficients
  pub multiple-sum_mod : (a : Monomial) (x y : ℕ) (us : List (Term K))
      → multiple keys.cmp keys.act p (record { at = a; coefficient = sum_mod p x y }) us
      ≡ add keys.cmp p (multiple keys.cmp keys.act p (record { at = a; coefficient = x }) us)
      (multiple keys.cmp keys.act p (record { at = a; coefficient = y }) us)
  multiple-sum_mod a x y us =
      multiple-same (record { at = a; coefficient = sum_mod p x y }) us _
      (IsCanonical-add keys.cmp keys.order p positive _ _)
      (λ g additive.
      total-sum p _ _ _ us (λ u. (term_product-additive_first keys.act p g additive (λ b. b) u).at_sum a x y)
      ∙ (λ i. sum_mod p (sym (total-multiple keys p g additive (record { at = a; coefficient = x }) us) i) (sym (total-multiple keys p g additive (record { at = a; coefficient = y }) us) i))
      ∙ sym (total-add keys.cmp keys.order p g additive _ _))

  -- a multiple by 0
  pub multiple-zero : (a : Monomial) (us : List (Term K))
      → multiple keys.cmp keys.act p (record { at = a; coefficient = 0 }) us ≡ []
  multiple-zero a us =
      multiple-same (record { at = a; coefficient = 0 }) us [] (record { descending = tt; residues = tt })
      (λ g additive.
      total-zero p _ us (λ u. (term_product-additive_first keys.act p g additive (λ b. b) u).at_zero a)
      ∙ sym (total-nil p g))
