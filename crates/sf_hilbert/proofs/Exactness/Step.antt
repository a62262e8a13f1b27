-- Exactness modulo the variables of a test, and what it says modulo one variable x more. Let c be coefficients that rows
-- send to a multiple x w modulo the test. The rows before send x w to 0, and so w, since x may be cancelled. So w is the
-- value of some u; then c - x u is sent to 0, and is the value of some y of the next rows. Modulo x, that is c.
use Rattle.std.proofs.Common.{◌≡◌, ◌<◌, Bool, true, false, ◌&&◌, List, [], ◌∷◌, cond, filter, refl, sym, ◌∙◌, ap, ap₂, subst, arith, ℤ, pos, ◌+ℤ◌, neg_ℤ}
use Rattle.std.proofs.lemmas.Int.{ints}
use Rattle.sf_algebra.specs.Matrices.{degrees_of, IsMatrix}
use Rattle.sf_algebra.specs.MatrixOperations.{row_combination}
use Rattle.sf_algebra.specs.Monomials.{Monomial, monomial_degree}
use Rattle.sf_algebra.specs.Rings.{Ring, IsOverField}
use Rattle.sf_algebra.specs.Terms.{Term}
use Rattle.sf_algebra.specs.VectorOperations.{row_sum, row_multiple}
use Rattle.sf_algebra.specs.Vectors.{Place, Vector, IsVector}
use Rattle.sf_algebra.proofs.Basics.Filters.{AllByRecursion-filter_keeps}
use Rattle.sf_algebra.proofs.Monomials.Weights.{field_ring}
use Rattle.sf_algebra.proofs.Vectors.HomogeneousVectors.{IsVector-add, IsVector-multiple, IsVector-row_combination}
use Rattle.sf_algebra.proofs.Vectors.RowSums.{row_sum-nil}
use Rattle.sf_algebra.proofs.Vectors.Rows.{IsCanonical-row_combination, row_combination-add, row_combination-multiple}
use Rattle.sf_groebner.specs.MinimalGenerators.{matrix_of}
use Rattle.sf_hilbert.specs.Exactness.{IsExactModulo, kept}
use Rattle.sf_hilbert.proofs.Kept.Divided.{IsDividedBy, monic, negative_monic, quotients, IsVector-quotients, row_multiple-quotients, row_multiple-cancel, row_multiple-opposite}
use Rattle.sf_hilbert.proofs.Kept.Terms.{IsMultiplicative, IsCanonical-kept, kept-row_sum, kept-row_multiple, kept-row_multiple_other, row_combination-agree}

-- rows one after the other: they are vectors of the free modules of the rows before, and are sent to 0
pub record AreSyzygies (ring : Ring) (before rows : List Vector) : Type 0 where
  pub vectors : IsMatrix (matrix_of ring (degrees_of before) rows)
  pub zeros : (c : List (Term Place)) → row_combination ring before (row_combination ring rows c) ≡ []

-- a filter by two tests is one after the other
pub filter-both : {X : Type 0} (p q : X → Bool) (xs : List X) → filter (λ x. p x && q x) xs ≡ filter q (filter p xs)
filter-both p q [] = refl
filter-both p q (x ∷ xs) = step (filter-both p q xs) (p x) (q x) refl
  where
    step : filter (λ y. p y && q y) xs ≡ filter q (filter p xs) → (b c : Bool) → q x ≡ c
        → cond (b && c) (x ∷ filter (λ y. p y && q y) xs) (filter (λ y. p y && q y) xs)
        ≡ filter q (cond b (x ∷ filter p xs) (filter p xs))
    step rest true true e =
        (λ i. x ∷ rest i) ∙ sym (ap (λ c. cond c (x ∷ filter q (filter p xs)) (filter q (filter p xs))) e)
    step rest true false e =
        rest ∙ sym (ap (λ c. cond c (x ∷ filter q (filter p xs)) (filter q (filter p xs))) e)
    step rest false c e = rest

pub filter-twice : {X : Type 0} (p : X → Bool) (xs : List X) → filter p (filter p xs) ≡ filter p xs
filter-twice p xs = sym (filter-both p p xs) ∙ ap (λ (test : _ → Bool). filter test xs) (λ i x. idempotent (p x) i)
  where
    idempotent : (b : Bool) → (b && b) ≡ b
    idempotent true = refl
    idempotent false = refl

module _ (ring : Ring) (field : IsOverField ring) (test is_without : Monomial → Bool)
    (multiplicative : IsMultiplicative test)
    (multiplicative_both : IsMultiplicative (λ a. test a && is_without a)) (x : Monomial)
    (divides : (ts : List (Term Place)) → kept is_without ts ≡ [] → IsDividedBy x ts) (passes : test x ≡ true)
    (fails : is_without x ≡ false) where
  positive : 0 < ring.modulus
  positive = (field_ring field).modulus

  abbrev pub both : Monomial → Bool
  both a = test a && is_without a

  kept-both : (ts : List (Term Place)) → kept both ts ≡ kept is_without (kept test ts)
  kept-both ts = filter-both (λ (t : Term Place). test t.at.monomial) (λ (t : Term Place). is_without t.at.monomial) ts

  kept-twice : (ts : List (Term Place)) → kept test (kept test ts) ≡ kept test ts
  kept-twice ts = filter-twice (λ (t : Term Place). test t.at.monomial) ts

  module _ (before rows next : List Vector) (complex : AreSyzygies ring before rows) where
    -- what the rows send c to, as far as it is kept, divided by x
    module _ (d : ℤ) (c : List (Term Place))
        (vector : IsVector ring (degrees_of rows) (record { degree = d; terms = c }))
        (nil : kept both (row_combination ring rows c) ≡ []) where
      abbrev value : List (Term Place)
      value = kept test (row_combination ring rows c)

      value-vector : IsVector ring (degrees_of before) (record { degree = d; terms = value })
      value-vector =
          let whole = IsVector-row_combination (matrix_of ring (degrees_of before) rows) positive complex.vectors
          (record { degree = d; terms = c }) vector in
          record {
            canonical = IsCanonical-kept test ring (row_combination ring rows c) whole.canonical;
            homogeneous = AllByRecursion-filter_keeps _ (λ (t : Term Place). test t.at.monomial)
                (row_combination ring rows c) whole.homogeneous;
          }

      divided : IsDividedBy x value
      divided = divides value (sym (kept-both (row_combination ring rows c)) ∙ nil)

      abbrev quotient_degree : ℤ
      quotient_degree = d +ℤ neg_ℤ (pos (monomial_degree ring.weights x))

      quotient-vector : IsVector ring (degrees_of before)
          (record { degree = quotient_degree; terms = quotients x value })
      quotient-vector = IsVector-quotients x ring (degrees_of before) d value divided value-vector

      multiplied : row_multiple ring (monic x) (quotients x value) ≡ value
      multiplied = row_multiple-quotients x ring field value divided value-vector.canonical

      -- the rows before send the quotient to 0
      quotient-zero : kept test (row_combination ring before (quotients x value)) ≡ []
      quotient-zero =
          row_multiple-cancel x ring field (kept test (row_combination ring before (quotients x value)))
          (IsCanonical-kept test ring _ (IsCanonical-row_combination ring positive before (quotients x value)))
          (sym (kept-row_multiple test ring positive multiplicative (monic x)
          (row_combination ring before (quotients x value)) passes)
          ∙ ap (kept test) (sym (row_combination-multiple ring positive before (monic x) (quotients x value)))
          ∙ ap (λ us. kept test (row_combination ring before us)) multiplied
          ∙ row_combination-agree test ring positive multiplicative before value (row_combination ring rows c)
          (kept-twice (row_combination ring rows c))
          ∙ ap (kept test) (complex.zeros c))

      -- c with x u taken away, where the rows send u to the quotient
      module _ (u : List (Term Place))
          (u_vector : IsVector ring (degrees_of rows) (record { degree = quotient_degree; terms = u }))
          (same : kept test (row_combination ring rows u) ≡ kept test (quotients x value)) where
        abbrev opposite : List (Term Place)
        opposite = row_multiple ring (negative_monic ring.modulus x) u

        abbrev rest : List (Term Place)
        rest = row_sum ring c opposite

        rest-vector : IsVector ring (degrees_of rows) (record { degree = d; terms = rest })
        rest-vector =
            IsVector-add ring (degrees_of rows) positive d c opposite vector
            (subst (λ e. IsVector ring (degrees_of rows) (record { degree = e; terms = opposite })) (omega (arith, ints))
            (IsVector-multiple ring (degrees_of rows) positive quotient_degree (negative_monic ring.modulus x) u u_vector))

        rest-zero : kept test (row_combination ring rows rest) ≡ []
        rest-zero =
            ap (kept test) (row_combination-add ring positive rows c opposite
            ∙ ap (row_sum ring (row_combination ring rows c))
            (row_combination-multiple ring positive rows (negative_monic ring.modulus x) u))
            ∙ kept-row_sum test ring positive (row_combination ring rows c)
            (row_multiple ring (negative_monic ring.modulus x) (row_combination ring rows u))
            ∙ ap₂ (row_sum ring) whole
            (kept-row_multiple test ring positive multiplicative (negative_monic ring.modulus x)
            (row_combination ring rows u) passes
            ∙ ap (row_multiple ring (negative_monic ring.modulus x)) same)
            ∙ row_multiple-opposite x ring field (kept test (quotients x value))
          where
            whole : value ≡ row_multiple ring (monic x) (kept test (quotients x value))
            whole =
                sym (kept-twice (row_combination ring rows c)) ∙ ap (kept test) (sym multiplied)
                ∙ kept-row_multiple test ring positive multiplicative (monic x) (quotients x value) passes

        -- modulo x it is c
        rest-both : kept both rest ≡ kept both c
        rest-both =
            kept-row_sum both ring positive c opposite
            ∙ ap (row_sum ring (kept both c))
            (kept-row_multiple_other both ring positive multiplicative_both (negative_monic ring.modulus x) u
            (ap (λ b. test x && b) fails ∙ never (test x)))
            ∙ row_sum-nil ring positive (kept both c) (IsCanonical-kept both ring c vector.canonical)
          where
            never : (b : Bool) → (b && false) ≡ false
            never true = refl
            never false = refl

    pub IsExactModulo-step : IsExactModulo ring test before rows → IsExactModulo ring test rows next
        → IsExactModulo ring both rows next
    IsExactModulo-step earlier later d c vector nil =
        let u = earlier (quotient_degree d c vector nil) (quotients x (value d c vector nil))
        (quotient-vector d c vector nil) (quotient-zero d c vector nil) in
        let y = later d (rest d c vector nil u.0 u.1 u.2) (rest-vector d c vector nil u.0 u.1 u.2)
        (rest-zero d c vector nil u.0 u.1 u.2) in (
          y.0,
          y.1,
          kept-both (row_combination ring next y.0) ∙ ap (kept is_without) y.2
              ∙ sym (kept-both (rest d c vector nil u.0 u.1 u.2)) ∙ rest-both d c vector nil u.0 u.1 u.2,
        )
