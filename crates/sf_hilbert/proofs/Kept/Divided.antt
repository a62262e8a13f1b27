-- A row each of whose terms a monomial x divides is x times another one.
use Rattle.std.proofs.Common.{◌≡◌, ℕ, ◌%◌, ◌*◌, ◌<◌, List, [], ◌∷◌, length, map, refl, sym, ◌∙◌, ap, arith, ℤ, pos, ◌+ℤ◌, neg_ℤ, mod-eq_of_lt}
use Rattle.std.specs.declared.cmp.Ordering.TheVariants.{Less}
use Rattle.std.specs.List.{AllByRecursion}
use Rattle.std.proofs.lemmas.Int.{ints}
use Rattle.sf_algebra.specs.Divisibility.{Divides, quotient}
use Rattle.sf_algebra.specs.Monomials.{Monomial, monomial_degree}
use Rattle.sf_algebra.specs.Multiples.{place_product, term_product}
use Rattle.sf_algebra.specs.Residues.{negative_mod, product_mod, sum_mod}
use Rattle.sf_algebra.specs.Rings.{Ring, Weights, IsOverField}
use Rattle.sf_algebra.specs.Terms.{Term, IsDescending, IsNonzeroResidue}
use Rattle.sf_algebra.specs.VectorOperations.{row_sum, row_multiple}
use Rattle.sf_algebra.specs.Vectors.{Place, place_cmp, IsHomogeneous, IsCanonicalRow, IsVector}
use Rattle.sf_algebra.proofs.Arithmetic.Residues.{sum_mod-negative}
use Rattle.sf_algebra.proofs.Monomials.Divisors.{product-quotient}
use Rattle.sf_algebra.proofs.Monomials.Places.{place_cmp-place_product}
use Rattle.sf_algebra.proofs.Monomials.Products.{monomial_degree-product}
use Rattle.sf_algebra.proofs.Multiplying.Keys.{place_keys}
use Rattle.sf_algebra.proofs.Multiplying.MultipleLaws.{multiple-sum_mod, multiple-zero}
use Rattle.sf_algebra.proofs.Multiplying.PrimeMultiples.{multiple-map}

-- x divides the monomial of each term
abbrev pub IsDividedBy : Monomial → List (Term Place) → Type 0
IsDividedBy x ts = AllByRecursion (λ (t : Term Place). Divides x t.at.monomial) ts

abbrev quotient_place : Monomial → Place → Place
quotient_place x k = record { position = k.position; monomial = quotient k.monomial x }

abbrev quotient_term : Monomial → Term Place → Term Place
quotient_term x t = record { at = quotient_place x t.at; coefficient = t.coefficient }

-- a row divided by x
abbrev pub quotients : Monomial → List (Term Place) → List (Term Place)
quotients x ts = map (quotient_term x) ts

-- x with the coefficient 1, and with -1
abbrev pub monic : Monomial → Term Monomial
monic x = record { at = x; coefficient = 1 }

abbrev pub negative_monic : ℕ → Monomial → Term Monomial
negative_monic p x = record { at = x; coefficient = negative_mod p 1 }

product_mod-one_first : (p c : ℕ) → c < p → product_mod p 1 c ≡ c
unfolding product_mod
product_mod-one_first p c below = let same : 1 * c ≡ c = omega arith in ap (λ n. n % p) same ∙ mod-eq_of_lt below

module _ (x : Monomial) where
  place_product-quotient : (k : Place) → Divides x k.monomial → place_product x (quotient_place x k) ≡ k
  place_product-quotient k h = λ i. record { position = k.position; monomial = product-quotient k.monomial x h i }

  place_cmp-quotient : (weights : Weights) (j k : Place) → Divides x j.monomial → Divides x k.monomial
      → place_cmp weights (quotient_place x j) (quotient_place x k) ≡ place_cmp weights j k
  place_cmp-quotient weights j k d e =
      sym (place_cmp-place_product weights x (quotient_place x j) (quotient_place x k))
      ∙ (λ i. place_cmp weights (place_product-quotient j d i) (place_product-quotient k e i))

  each_below : (weights : Weights) (t : Term Place) (us : List (Term Place)) → Divides x t.at.monomial
      → IsDividedBy x us → AllByRecursion (λ (u : Term Place). place_cmp weights u.at t.at ≡ Less) us
      → AllByRecursion (λ (u : Term Place). place_cmp weights u.at (quotient_place x t.at) ≡ Less) (quotients x us)
  each_below weights t [] e each h = tt
  each_below weights t (u ∷ us) e each h =
      (place_cmp-quotient weights u.at t.at each.0 e ∙ h.0, each_below weights t us e each.1 h.1)

  IsDescending-quotients : (weights : Weights) (ts : List (Term Place)) → IsDividedBy x ts
      → IsDescending (place_cmp weights) ts → IsDescending (place_cmp weights) (quotients x ts)
  IsDescending-quotients weights [] each h = tt
  IsDescending-quotients weights (t ∷ ts) each h =
      (each_below weights t ts each.0 each.1 h.0, IsDescending-quotients weights ts each.1 h.1)

  residues-quotients : (p : ℕ) (ts : List (Term Place)) → AllByRecursion (IsNonzeroResidue p) ts
      → AllByRecursion (IsNonzeroResidue p) (quotients x ts)
  residues-quotients p [] h = tt
  residues-quotients p (t ∷ ts) h = (h.0, residues-quotients p ts h.1)

  IsHomogeneous-quotients : (weights : Weights) (degrees : List ℤ) (d : ℤ) (ts : List (Term Place)) → IsDividedBy x ts
      → IsHomogeneous weights degrees d ts
      → IsHomogeneous weights degrees (d +ℤ neg_ℤ (pos (monomial_degree weights x))) (quotients x ts)
  IsHomogeneous-quotients weights degrees d [] each h = tt
  IsHomogeneous-quotients weights degrees d (t ∷ ts) each h =
      let whole = ap (monomial_degree weights) (sym (product-quotient t.at.monomial x each.0))
      ∙ monomial_degree-product weights x (quotient t.at.monomial x) in
      ((h.0.0, omega (arith, ints, whole, h.0.1)), IsHomogeneous-quotients weights degrees d ts each.1 h.1)

  pub IsVector-quotients : (ring : Ring) (degrees : List ℤ) (d : ℤ) (ts : List (Term Place)) → IsDividedBy x ts
      → IsVector ring degrees (record { degree = d; terms = ts })
      → IsVector ring degrees
      (record { degree = d +ℤ neg_ℤ (pos (monomial_degree ring.weights x)); terms = quotients x ts })
  IsVector-quotients ring degrees d ts each h = record {
    canonical = record {
      descending = IsDescending-quotients ring.weights ts each h.canonical.descending;
      residues = residues-quotients ring.modulus ts h.canonical.residues;
    };
    homogeneous = IsHomogeneous-quotients ring.weights degrees d ts each h.homogeneous;
  }

  module _ (ring : Ring) (field : IsOverField ring) where
    nonzero : IsNonzeroResidue ring.modulus (monic x)
    nonzero = (omega arith, field.prime.above_one)

    multiplied : (ts : List (Term Place)) → IsDividedBy x ts → AllByRecursion (IsNonzeroResidue ring.modulus) ts
        → map (term_product place_product ring.modulus (monic x)) (quotients x ts) ≡ ts
    multiplied [] each h = refl
    multiplied (t ∷ ts) each h = λ i. record {
      at = place_product-quotient t.at each.0 i;
      coefficient = product_mod-one_first ring.modulus t.coefficient h.0.1 i;
    } ∷ multiplied ts each.1 h.1 i

    pub row_multiple-quotients : (ts : List (Term Place)) → IsDividedBy x ts → IsCanonicalRow ring ts
        → row_multiple ring (monic x) (quotients x ts) ≡ ts
    row_multiple-quotients ts each h =
        multiple-map (place_keys ring.weights) ring.modulus (monic x) field.prime nonzero (quotients x ts)
        (record {
          descending = IsDescending-quotients ring.weights ts each h.descending;
          residues = residues-quotients ring.modulus ts h.residues;
        })
        ∙ multiplied ts each h.residues

    -- a multiple of a row is 0 where the row is
    pub row_multiple-cancel : (us : List (Term Place)) → IsCanonicalRow ring us
        → row_multiple ring (monic x) us ≡ [] → us ≡ []
    row_multiple-cancel us h e =
        none us
        (sym (multiple-map (place_keys ring.weights) ring.modulus (monic x) field.prime nonzero us h) ∙ e)
      where
        none : (vs : List (Term Place)) → map (term_product place_product ring.modulus (monic x)) vs ≡ [] → vs ≡ []
        none [] l = refl
        none (v ∷ vs) l = absurd (omega (arith, ap length l))

    -- x times a row and -x times it add to 0
    pub row_multiple-opposite : (us : List (Term Place))
        → row_sum ring (row_multiple ring (monic x) us) (row_multiple ring (negative_monic ring.modulus x) us) ≡ []
    row_multiple-opposite us =
        sym (multiple-sum_mod (place_keys ring.weights) ring.modulus (omega (arith, field.prime.above_one)) x 1
        (negative_mod ring.modulus 1) us)
        ∙ ap (λ c. row_multiple ring (record { at = x; coefficient = c }) us) cancels
        ∙ multiple-zero (place_keys ring.weights) ring.modulus (omega (arith, field.prime.above_one)) x us
      where
        cancels : sum_mod ring.modulus 1 (negative_mod ring.modulus 1) ≡ 0
        cancels = sum_mod-negative ring.modulus 1 field.prime.above_one
