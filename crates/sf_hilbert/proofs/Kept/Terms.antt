-- The terms of a row whose monomials pass a test that is multiplicative: that of a product says whether both factors
-- pass, as "none of some variables divides it" does. Rows that agree in what is kept agree modulo these variables.
use Rattle.std.proofs.Common.{◌≡◌, ℕ, ◌%◌, ◌<◌, if◌then◌else◌, Bool, true, false, ◌&&◌, List, [], map, refl, sym, ◌∙◌, ap, ap₂}
use Rattle.std.proofs.Math.Nat.{zero-mod}
use Rattle.sf_algebra.specs.MatrixOperations.{row_at, row_combination}
use Rattle.sf_algebra.specs.Monomials.{Monomial, product}
use Rattle.sf_algebra.specs.Multiples.{place_product, term_product}
use Rattle.sf_algebra.specs.Residues.{sum_mod}
use Rattle.sf_algebra.specs.Rings.{Ring}
use Rattle.sf_algebra.specs.Sums.{total}
use Rattle.sf_algebra.specs.Terms.{Term}
use Rattle.sf_algebra.specs.VectorOperations.{row_sum, row_multiple}
use Rattle.sf_algebra.specs.Vectors.{Place, Vector, place_cmp, IsCanonicalRow}
use Rattle.sf_algebra.proofs.Arithmetic.Residues.{sum_mod-zero}
use Rattle.sf_algebra.proofs.Basics.Filters.{IsCanonical-filter, total-filter}
use Rattle.sf_algebra.proofs.Monomials.Orders.{place_cmp_linear}
use Rattle.sf_algebra.proofs.Multiplying.Combinations.{factor, share, total-combination}
use Rattle.sf_algebra.proofs.Multiplying.Keys.{place_keys}
use Rattle.sf_algebra.proofs.Multiplying.Multiples.{IsCanonical-multiple, total-multiple}
use Rattle.sf_algebra.proofs.Terms.Coefficients.{same_from_total}
use Rattle.sf_algebra.proofs.Terms.DoubleTotals.{total-same, total-zero}
use Rattle.sf_algebra.proofs.Terms.Totals.{IsAdditive, total-add, total-nil}
use Rattle.sf_algebra.proofs.Vectors.RowSums.{IsCanonical-row_sum}
use Rattle.sf_algebra.proofs.Vectors.Rows.{IsCanonical-row_combination, row_at-map}
use Rattle.sf_hilbert.specs.Exactness.{kept}

-- a product passes exactly where both factors do
abbrev pub IsMultiplicative : (Monomial → Bool) → Type 0
IsMultiplicative test = (a b : Monomial) → test (product a b) ≡ (test a && test b)

-- rows with the terms that pass
abbrev pub kept_rows : (Monomial → Bool) → List Vector → List Vector
kept_rows test rows = map (λ (v : Vector). record { degree = v.degree; terms = kept test v.terms }) rows

-- a number for each term that passes, and 0 for the others
abbrev at_kept : (Monomial → Bool) → (Term Place → ℕ) → Term Place → ℕ
at_kept test g t = if test t.at.monomial then g t else 0

module _ (test : Monomial → Bool) (ring : Ring) where
  at_kept-additive : (g : Term Place → ℕ) → IsAdditive ring.modulus g → IsAdditive ring.modulus (at_kept test g)
  at_kept-additive g additive = record {
    at_zero = λ k. zeros k (test k.monomial);
    at_sum = λ k a b. sums k a b (test k.monomial);
  }
    where
      zeros : (k : Place) (b : Bool)
          → (if b then g (record { at = k; coefficient = 0 }) else 0) % ring.modulus ≡ 0
      zeros k true = additive.at_zero k
      zeros k false = zero-mod ring.modulus

      sums : (k : Place) (m n : ℕ) (b : Bool)
          → (if b then g (record { at = k; coefficient = sum_mod ring.modulus m n }) else 0) % ring.modulus
          ≡ sum_mod ring.modulus (if b then g (record { at = k; coefficient = m }) else 0)
          (if b then g (record { at = k; coefficient = n }) else 0)
      sums k m n true = additive.at_sum k m n
      sums k m n false = sym (sum_mod-zero ring.modulus 0)

  pub IsCanonical-kept : (ts : List (Term Place)) → IsCanonicalRow ring ts → IsCanonicalRow ring (kept test ts)
  IsCanonical-kept ts h =
      IsCanonical-filter (λ (t : Term Place). test t.at.monomial) (place_cmp ring.weights) ring.modulus ts h

  module _ (positive : 0 < ring.modulus) where
    -- what is kept of one list is another, where each additive number says so
    kept-same : (us vs : List (Term Place)) → IsCanonicalRow ring us → IsCanonicalRow ring vs
        → ((g : Term Place → ℕ) → IsAdditive ring.modulus g
        → total ring.modulus (at_kept test g) us ≡ total ring.modulus g vs)
        → kept test us ≡ vs
    kept-same us vs h k same =
        same_from_total (place_cmp ring.weights) (place_cmp_linear ring.weights) ring.modulus positive (kept test us) vs
        (IsCanonical-kept us h) k
        (λ g additive. total-filter (λ (t : Term Place). test t.at.monomial) ring.modulus g us ∙ same g additive)

    pub kept-row_sum : (us vs : List (Term Place))
        → kept test (row_sum ring us vs) ≡ row_sum ring (kept test us) (kept test vs)
    kept-row_sum us vs =
        kept-same (row_sum ring us vs) (row_sum ring (kept test us) (kept test vs))
        (IsCanonical-row_sum ring positive us vs) (IsCanonical-row_sum ring positive (kept test us) (kept test vs))
        (λ g additive.
        total-add (place_cmp ring.weights) (place_cmp_linear ring.weights) ring.modulus (at_kept test g)
        (at_kept-additive g additive) us vs
        ∙ ap₂ (sum_mod ring.modulus) (counted g us) (counted g vs)
        ∙ sym (total-add (place_cmp ring.weights) (place_cmp_linear ring.weights) ring.modulus g additive (kept test us)
        (kept test vs)))
      where
        counted : (g : Term Place → ℕ) (ts : List (Term Place))
            → total ring.modulus (at_kept test g) ts ≡ total ring.modulus g (kept test ts)
        counted g ts = sym (total-filter (λ (t : Term Place). test t.at.monomial) ring.modulus g ts)

    module _ (multiplicative : IsMultiplicative test) where
      -- of a multiple by a term that passes the multiples are kept, and of others nothing
      at_kept-product : (s : Term Monomial) (g : Term Place → ℕ) (b : Bool) → test s.at ≡ b → (u : Term Place)
          → at_kept test g (term_product place_product ring.modulus s u)
          ≡ (if b then at_kept test (λ v. g (term_product place_product ring.modulus s v)) u else 0)
      at_kept-product s g b e u =
          ap (λ c. if c then g (term_product place_product ring.modulus s u) else 0)
          (multiplicative s.at u.at.monomial ∙ ap (λ c. c && test u.at.monomial) e)
          ∙ both b (test u.at.monomial) (g (term_product place_product ring.modulus s u))
        where
          both : (b c : Bool) (n : ℕ) → (if b && c then n else 0) ≡ (if b then (if c then n else 0) else 0)
          both true c n = refl
          both false c n = refl

      pub kept-row_multiple : (s : Term Monomial) (us : List (Term Place)) → test s.at ≡ true
          → kept test (row_multiple ring s us) ≡ row_multiple ring s (kept test us)
      kept-row_multiple s us e =
          kept-same (row_multiple ring s us) (row_multiple ring s (kept test us))
          (IsCanonical-multiple (place_keys ring.weights) ring.modulus positive s us)
          (IsCanonical-multiple (place_keys ring.weights) ring.modulus positive s (kept test us))
          (λ g additive.
          total-multiple (place_keys ring.weights) ring.modulus (at_kept test g) (at_kept-additive g additive) s us
          ∙ total-same ring.modulus _ _ us (λ u. ap (λ n. n % ring.modulus) (at_kept-product s g true e u))
          ∙ sym (total-filter (λ (t : Term Place). test t.at.monomial) ring.modulus
          (λ v. g (term_product place_product ring.modulus s v)) us)
          ∙ sym (total-multiple (place_keys ring.weights) ring.modulus g additive s (kept test us)))

      pub kept-row_multiple_other : (s : Term Monomial) (us : List (Term Place)) → test s.at ≡ false
          → kept test (row_multiple ring s us) ≡ []
      kept-row_multiple_other s us e =
          kept-same (row_multiple ring s us) []
          (IsCanonical-multiple (place_keys ring.weights) ring.modulus positive s us)
          (record { descending = tt; residues = tt })
          (λ g additive.
          total-multiple (place_keys ring.weights) ring.modulus (at_kept test g) (at_kept-additive g additive) s us
          ∙ total-same ring.modulus _ (λ _. 0) us (λ u. ap (λ n. n % ring.modulus) (at_kept-product s g false e u))
          ∙ total-zero ring.modulus (λ _. 0) us (λ u. zero-mod ring.modulus)
          ∙ sym (total-nil ring.modulus g))

      -- the share of a coefficient
      share-kept : (rows : List Vector) (g : Term Place → ℕ) (t : Term Place)
          → share place_product ring.modulus (λ k. k.monomial) (λ k. row_at rows k.position) (at_kept test g) t
          ≡ (if test t.at.monomial then share place_product ring.modulus (λ k. k.monomial)
          (λ k. row_at (kept_rows test rows) k.position) g t else 0)
      share-kept rows g t =
          total-same ring.modulus _ _ (row_at rows t.at.position)
          (λ u. ap (λ n. n % ring.modulus)
          (at_kept-product (factor (λ k. k.monomial) t) g (test t.at.monomial) refl u))
          ∙ chosen (test t.at.monomial)
        where
          chosen : (b : Bool) → total ring.modulus
              (λ u. if b then at_kept test
              (λ v. g (term_product place_product ring.modulus (factor (λ k. k.monomial) t) v)) u else 0)
              (row_at rows t.at.position)
              ≡ (if b then share place_product ring.modulus (λ k. k.monomial)
              (λ k. row_at (kept_rows test rows) k.position) g t else 0)
          chosen true =
              sym (total-filter (λ (u : Term Place). test u.at.monomial) ring.modulus
              (λ v. g (term_product place_product ring.modulus (factor (λ k. k.monomial) t) v))
              (row_at rows t.at.position))
              ∙ ap (total ring.modulus (λ v. g (term_product place_product ring.modulus (factor (λ k. k.monomial) t) v)))
              (sym (row_at-map (kept test) refl rows t.at.position))
          chosen false = total-zero ring.modulus (λ _. 0) (row_at rows t.at.position) (λ u. zero-mod ring.modulus)

      -- of a combination the combination of what is kept
      pub kept-row_combination : (rows : List Vector) (c : List (Term Place))
          → kept test (row_combination ring rows c) ≡ row_combination ring (kept_rows test rows) (kept test c)
      kept-row_combination rows c =
          kept-same (row_combination ring rows c) (row_combination ring (kept_rows test rows) (kept test c))
          (IsCanonical-row_combination ring positive rows c)
          (IsCanonical-row_combination ring positive (kept_rows test rows) (kept test c))
          (λ g additive.
          total-combination (place_keys ring.weights) ring.modulus (λ k. k.monomial) (λ k. row_at rows k.position)
          (at_kept test g) (at_kept-additive g additive) c
          ∙ total-same ring.modulus _ _ c (λ t. ap (λ n. n % ring.modulus) (share-kept rows g t))
          ∙ sym (total-filter (λ (t : Term Place). test t.at.monomial) ring.modulus
          (share place_product ring.modulus (λ k. k.monomial) (λ k. row_at (kept_rows test rows) k.position) g) c)
          ∙ sym (total-combination (place_keys ring.weights) ring.modulus (λ k. k.monomial)
          (λ k. row_at (kept_rows test rows) k.position) g additive (kept test c)))

      -- so coefficients that agree in what is kept give what agrees
      pub row_combination-agree : (rows : List Vector) (c d : List (Term Place)) → kept test c ≡ kept test d
          → kept test (row_combination ring rows c) ≡ kept test (row_combination ring rows d)
      row_combination-agree rows c d same =
          kept-row_combination rows c ∙ ap (row_combination ring (kept_rows test rows)) same
          ∙ sym (kept-row_combination rows d)
