-- A monomial is the product of a monomial in the variables past n, its outer part, and one in the first n variables, its
-- inner part. Both are multiplicative.
use Rattle.std.proofs.Common.{◌≡◌, ℕ, zero, suc, ◌+◌, if◌then◌else◌, Bool, true, false, [], refl, sym, ◌∙◌, ap, arith}
use Rattle.sf_algebra.specs.Monomials.{Monomial, one, product}
use Rattle.sf_algebra.proofs.Monomials.Divisors.{exponents_equal, product-cancel}
use Rattle.sf_algebra.proofs.Monomials.Products.{product-comm, product-one_first}
use Rattle.sf_variables.specs.Variables.{IsInVariables}
use Rattle.sf_variables.proofs.Keeping.Monomials.{AreZero-drop}

-- k is less than n
abbrev is_before : ℕ → ℕ → Bool
is_before k zero = false
is_before zero (suc n) = true
is_before (suc k) (suc n) = is_before k n

abbrev past : Bool → ℕ → ℕ
past b e = if b then 0 else e

abbrev kept : Bool → ℕ → ℕ
kept b e = if b then e else 0

abbrev pub outer : ℕ → Monomial → Monomial
outer n a = record {
  e1 = past (is_before 0 n) a.e1;
  e2 = past (is_before 1 n) a.e2;
  e3 = past (is_before 2 n) a.e3;
  e4 = past (is_before 3 n) a.e4;
  e5 = past (is_before 4 n) a.e5;
  e6 = past (is_before 5 n) a.e6;
}

abbrev pub inner : ℕ → Monomial → Monomial
inner n a = record {
  e1 = kept (is_before 0 n) a.e1;
  e2 = kept (is_before 1 n) a.e2;
  e3 = kept (is_before 2 n) a.e3;
  e4 = kept (is_before 3 n) a.e4;
  e5 = kept (is_before 4 n) a.e5;
  e6 = kept (is_before 5 n) a.e6;
}

past-sum : (b : Bool) (x y : ℕ) → past b (x + y) ≡ past b x + past b y
past-sum true x y = refl
past-sum false x y = refl

kept-sum : (b : Bool) (x y : ℕ) → kept b (x + y) ≡ kept b x + kept b y
kept-sum true x y = refl
kept-sum false x y = refl

past-kept : (b : Bool) (x : ℕ) → past b x + kept b x ≡ x
past-kept true x = omega arith
past-kept false x = omega arith

kept-kept : (b : Bool) (x : ℕ) → kept b (kept b x) ≡ kept b x
kept-kept true x = refl
kept-kept false x = refl

module _ (n : ℕ) where
  pub outer-product : (a b : Monomial) → outer n (product a b) ≡ product (outer n a) (outer n b)
  outer-product a b = λ i. record {
    e1 = past-sum (is_before 0 n) a.e1 b.e1 i;
    e2 = past-sum (is_before 1 n) a.e2 b.e2 i;
    e3 = past-sum (is_before 2 n) a.e3 b.e3 i;
    e4 = past-sum (is_before 3 n) a.e4 b.e4 i;
    e5 = past-sum (is_before 4 n) a.e5 b.e5 i;
    e6 = past-sum (is_before 5 n) a.e6 b.e6 i;
  }

  pub inner-product : (a b : Monomial) → inner n (product a b) ≡ product (inner n a) (inner n b)
  inner-product a b = λ i. record {
    e1 = kept-sum (is_before 0 n) a.e1 b.e1 i;
    e2 = kept-sum (is_before 1 n) a.e2 b.e2 i;
    e3 = kept-sum (is_before 2 n) a.e3 b.e3 i;
    e4 = kept-sum (is_before 3 n) a.e4 b.e4 i;
    e5 = kept-sum (is_before 4 n) a.e5 b.e5 i;
    e6 = kept-sum (is_before 5 n) a.e6 b.e6 i;
  }

  pub product-outer_inner : (a : Monomial) → product (outer n a) (inner n a) ≡ a
  product-outer_inner a = λ i. record {
    e1 = past-kept (is_before 0 n) a.e1 i;
    e2 = past-kept (is_before 1 n) a.e2 i;
    e3 = past-kept (is_before 2 n) a.e3 i;
    e4 = past-kept (is_before 3 n) a.e4 i;
    e5 = past-kept (is_before 4 n) a.e5 i;
    e6 = past-kept (is_before 5 n) a.e6 i;
  }

  pub inner-inner : (a : Monomial) → inner n (inner n a) ≡ inner n a
  inner-inner a = λ i. record {
    e1 = kept-kept (is_before 0 n) a.e1 i;
    e2 = kept-kept (is_before 1 n) a.e2 i;
    e3 = kept-kept (is_before 2 n) a.e3 i;
    e4 = kept-kept (is_before 3 n) a.e4 i;
    e5 = kept-kept (is_before 4 n) a.e5 i;
    e6 = kept-kept (is_before 5 n) a.e6 i;
  }

-- over the first n variables nothing is outer, and nothing else is so
pub outer-IsInVariables : (n : ℕ) (a : Monomial) → IsInVariables n a → outer n a ≡ one
outer-IsInVariables zero a h =
    λ i. record { e1 = h.0 i; e2 = h.1.0 i; e3 = h.1.1.0 i; e4 = h.1.1.1.0 i; e5 = h.1.1.1.1.0 i; e6 = h.1.1.1.1.1.0 i }
outer-IsInVariables (suc zero) a h =
    λ i. record { e1 = 0; e2 = h.0 i; e3 = h.1.0 i; e4 = h.1.1.0 i; e5 = h.1.1.1.0 i; e6 = h.1.1.1.1.0 i }
outer-IsInVariables (suc (suc zero)) a h =
    λ i. record { e1 = 0; e2 = 0; e3 = h.0 i; e4 = h.1.0 i; e5 = h.1.1.0 i; e6 = h.1.1.1.0 i }
outer-IsInVariables (suc (suc (suc zero))) a h =
    λ i. record { e1 = 0; e2 = 0; e3 = 0; e4 = h.0 i; e5 = h.1.0 i; e6 = h.1.1.0 i }
outer-IsInVariables (suc (suc (suc (suc zero)))) a h =
    λ i. record { e1 = 0; e2 = 0; e3 = 0; e4 = 0; e5 = h.0 i; e6 = h.1.0 i }
outer-IsInVariables (suc (suc (suc (suc (suc zero))))) a h =
    λ i. record { e1 = 0; e2 = 0; e3 = 0; e4 = 0; e5 = 0; e6 = h.0 i }
outer-IsInVariables (suc (suc (suc (suc (suc (suc n)))))) a h = refl

pub IsInVariables-outer : (n : ℕ) (a : Monomial) → outer n a ≡ one → IsInVariables n a
IsInVariables-outer zero a e = let p = exponents_equal _ one e in (p.0, (p.1, (p.2, (p.3, (p.4, (p.5, tt))))))
IsInVariables-outer (suc zero) a e = let p = exponents_equal _ one e in (p.1, (p.2, (p.3, (p.4, (p.5, tt)))))
IsInVariables-outer (suc (suc zero)) a e = let p = exponents_equal _ one e in (p.2, (p.3, (p.4, (p.5, tt))))
IsInVariables-outer (suc (suc (suc zero))) a e = let p = exponents_equal _ one e in (p.3, (p.4, (p.5, tt)))
IsInVariables-outer (suc (suc (suc (suc zero)))) a e = let p = exponents_equal _ one e in (p.4, (p.5, tt))
IsInVariables-outer (suc (suc (suc (suc (suc zero))))) a e = let p = exponents_equal _ one e in (p.5, tt)
IsInVariables-outer (suc (suc (suc (suc (suc (suc n)))))) a e = AreZero-drop n [] tt

module _ (n : ℕ) where
  -- a monomial over the first n variables is its inner part, and has no outer one as a factor
  pub inner-IsInVariables : (a : Monomial) → IsInVariables n a → inner n a ≡ a
  inner-IsInVariables a h =
      sym (product-one_first (inner n a))
      ∙ ap (λ b. product b (inner n a)) (sym (outer-IsInVariables n a h))
      ∙ product-outer_inner n a

  -- nothing is outer where a monomial is its inner part
  pub outer-inner_same : (a : Monomial) → inner n a ≡ a → outer n a ≡ one
  outer-inner_same a e =
      product-cancel (inner n a) (outer n a) one
      (product-comm (inner n a) (outer n a) ∙ product-outer_inner n a ∙ sym e ∙ sym (product-one_first (inner n a))
      ∙ product-comm one (inner n a))

  -- a factor over the first n variables changes the inner part alone
  pub outer-product_inside : (a b : Monomial) → IsInVariables n b → outer n (product a b) ≡ outer n a
  outer-product_inside a b h =
      outer-product n a b
      ∙ ap (product (outer n a)) (outer-IsInVariables n b h)
      ∙ product-comm (outer n a) one
      ∙ product-one_first (outer n a)

  pub inner-product_inside : (a b : Monomial) → IsInVariables n b → inner n (product a b) ≡ product (inner n a) b
  inner-product_inside a b h = inner-product n a b ∙ ap (product (inner n a)) (inner-IsInVariables b h)
