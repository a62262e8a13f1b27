-- What holds of the product of monomials. (Cox, Little, O'Shea, "Ideals, Varieties, and Algorithms", chapter 2, section
-- 2.)
use Rattle.std.specs.Prelude.{◌≡◌}
use Rattle.sf_algebra.specs.Monomials.{Monomial, one, product, monomial_cmp}
use Rattle.sf_algebra.specs.Rings.{Weights}

-- the factors may be exchanged
abbrev pub IsCommutative : {A : Type 0} → (A → A → A) → Type 0
IsCommutative {A} operation = (a b : A) → operation a b ≡ operation b a

-- three factors may be grouped either way
abbrev pub IsAssociative : {A : Type 0} → (A → A → A) → Type 0
IsAssociative {A} operation = (a b c : A) → operation (operation a b) c ≡ operation a (operation b c)

-- a factor 1 may be left out
abbrev pub LeavesOutOne : Type 0
LeavesOutOne = (a : Monomial) → product one a ≡ a

-- the order is kept by products: two monomials compare as their products with a third one do
abbrev pub KeptByProducts : Type 0
KeptByProducts =
    (weights : Weights) (c a b : Monomial) → monomial_cmp weights (product c a) (product c b) ≡ monomial_cmp weights a b
