-- Where rows of the other matrix and pairs are done, the constant terms of all relations are spanned by the pivots. (By
-- Schreyer's theorem: Cox, Little, O'Shea, "Using Algebraic Geometry", chapter 5, section 3.)
use Rattle.std.proofs.Common.{◌≡◌, ◌⊎◌, inl, inr, ⊎_elim, ℕ, ◌<◌, List, [], ◌∷◌, ◌++◌, length, sym, ◌∙◌, ap, arith, ℤ}
use Rattle.std.specs.List.{AllByRecursion}
use Rattle.sf_algebra.specs.Matrices.{Matrix}
use Rattle.sf_algebra.specs.MatrixOperations.{row_at, row_combination}
use Rattle.sf_algebra.specs.Monomials.{Monomial}
use Rattle.sf_algebra.specs.Rings.{IsRing}
use Rattle.sf_algebra.specs.Terms.{Term}
use Rattle.sf_algebra.specs.VectorOperations.{row_multiple, row_sum}
use Rattle.sf_algebra.specs.Vectors.{Place, Vector}
use Rattle.sf_algebra.proofs.Basics.Lists.{AllByRecursion-append}
use Rattle.sf_algebra.proofs.Vectors.RowSums.{row_sum-nil_first}
use Rattle.sf_algebra.proofs.Vectors.Rows.{IsCanonical-row_combination, row_combination-append, row_combination-cons, row_combination-nil}
use Rattle.sf_groebner.specs.Criterion.{IsForRows, IsMonicRow, IsPair, lcm_place, lead_at, lead_multiple, pair_place, s_coefficients, s_vector}
use Rattle.sf_groebner.specs.Divisions.{IsDivided}
use Rattle.sf_groebner.proofs.PairTheorems.Buchberger.{IsInside}
use Rattle.sf_groebner.proofs.PairTheorems.Kernels.{IsZero, IsZero-module, row_combination-difference, row_combination-products, settled-syzygy}
use Rattle.sf_groebner.proofs.PairTheorems.LeadMultiples.{IsModule}
use Rattle.sf_groebner.proofs.PairTheorems.MonicRows.{lead_bound, monic_leads}
use Rattle.sf_groebner.proofs.PairTheorems.Multiplied.{EachPlace-products}
use Rattle.sf_groebner.proofs.PairTheorems.Pairs.{same_lead_position, settled_pairs}
use Rattle.sf_groebner.proofs.PairTheorems.SVectors.{s_vector-below}
use Rattle.sf_groebner.proofs.PairTheorems.Standard.{standard}
use Rattle.sf_groebner.proofs.PairTheorems.TopCoefficients.{Begins}
use Rattle.sf_minimal.specs.Steps.{IsPassedOver, pair_degree}
use Rattle.sf_minimal.proofs.ConstantTerms.{IsNotConstant, products}
use Rattle.sf_minimal.proofs.Differences.{SameTotals-minus, minus}
use Rattle.sf_minimal.proofs.PassedOver.{IsSettledPair, all_settled}

-- terms are divided without a rest, by quotients in a set
pub record IsDone (m : Matrix) (Has : List (Term Place) → Type 0) (d : ℤ) (terms : List (Term Place)) : Type 0 where
  pub steps : List (Term Place)
  pub divided : IsDivided m.ring m.target m.rows d terms [] steps
  pub inside : Has steps

-- no lead of two rows at one position divides the other
abbrev pub HasProperPairs : List Vector → Type 0
HasProperPairs rows = (i j : ℕ) → IsPair rows i j
    → AllByRecursion IsNotConstant (record { at = pair_place (lead_at rows) i j; coefficient = 1 } ∷ record { at = pair_place (lead_at rows) j i; coefficient = 1 } ∷ [])

module _ (m : Matrix) (positive : IsRing m.ring) (Has : List (Term Place) → Type 0)
    (has_module : IsModule m.ring.modulus Has) where
  done-value : (d : ℤ) (terms : List (Term Place)) (h : IsDone m Has d terms)
      → row_combination m.ring m.rows h.steps ≡ terms
  done-value d terms h =
      sym (row_sum-nil_first m.ring positive.modulus _ (IsCanonical-row_combination m.ring positive.modulus m.rows h.steps))
      ∙ h.divided.sum

  module _ (monic : AllByRecursion (IsMonicRow m.ring) m.rows) (proper : HasProperPairs m.rows)
      (has_others : (c : List (Term Place)) → AllByRecursion IsNotConstant c → Has c)
      (pairs : (i j : ℕ) → IsPair m.rows i j
      → IsDone m Has (pair_degree m i j) (s_vector m.ring m.rows i j) ⊎ IsPassedOver m.rows i j) where
    -- syzygies in the set
    abbrev IsSyzygyInside : List (Term Place) → Type 0
    IsSyzygyInside c = Has c × IsZero m.ring positive m.rows c

    syzygy-module : IsModule m.ring.modulus IsSyzygyInside
    syzygy-module =
        let zero_module = IsZero-module m.ring positive m.rows in
        record {
          has_none = (has_module.has_none, zero_module.has_none);
          has_sums = λ us vs h k. (has_module.has_sums us vs h.0 k.0, zero_module.has_sums us vs h.1 k.1);
          has_products = λ s us h. (has_module.has_products s us h.0, zero_module.has_products s us h.1);
          has_same = λ us vs same h. (has_module.has_same us vs same h.0, zero_module.has_same us vs same h.1);
        }

    pair-settled : (i j : ℕ) → IsPair m.rows i j → IsDone m Has (pair_degree m i j) (s_vector m.ring m.rows i j)
        → IsSettledPair m.ring positive IsSyzygyInside syzygy-module m.rows i j
    pair-settled i j pair done =
        let steps = done.steps in
        let terms = s_coefficients m.ring.modulus (lead_at m.rows) i j in
        let first : i < length m.rows = omega (arith, pair.earlier, pair.later) in
        settled-syzygy m.ring positive m.rows (IsInside m.rows) (lead_at m.rows) i j pair.positions IsSyzygyInside steps
        (terms ++ minus m.ring positive steps)
        (done.divided.below (lcm_place (lead_at m.rows) i j) (s_vector-below m.ring positive m.rows monic i j first pair.later pair.positions)).1 (
          has_module.has_sums terms (minus m.ring positive steps)
              (has_others terms ((proper i j pair).0, ((proper i j pair).1.0, tt)))
              (has_module.has_products _ steps done.inside),
          row_combination-difference m.ring positive m.rows terms steps (sym (done-value _ _ done)),
        )
        (SameTotals-minus m.ring positive terms steps)

    all-settled : (i j : ℕ) → IsPair m.rows i j
        → IsSettledPair m.ring positive IsSyzygyInside syzygy-module m.rows i j
    all-settled =
        all_settled m.ring positive IsSyzygyInside syzygy-module m.rows
        (λ i j pair. ⊎_elim
        (λ (done : IsDone m Has (pair_degree m i j) (s_vector m.ring m.rows i j)). inl (pair-settled i j pair done))
        (λ (passed : IsPassedOver m.rows i j). inr passed) (pairs i j pair))

    -- each syzygy is in the set
    pub syzygy-inside : (c : List (Term Place)) → AllByRecursion (IsForRows m.rows) c
        → row_combination m.ring m.rows c ≡ [] → Has c
    syzygy-inside c h none =
        ⊎_elim (λ (member : IsSyzygyInside c). member.0)
        (λ (found : (k : Place) × IsInside m.rows k × Begins (lead_multiple (lead_at m.rows) k) (row_combination m.ring m.rows c)).
        absurd (nothing_begins _ _ none found.2))
        (standard m.ring (lead_bound m.rows) positive (IsInside m.rows) m.rows (lead_at m.rows) (monic_leads m.ring m.rows monic (IsInside m.rows) (λ k h. h)) IsSyzygyInside syzygy-module
        (settled_pairs m.ring IsSyzygyInside syzygy-module (IsInside m.rows) (lead_at m.rows) positive
        (λ j k j_in k_in e earlier.
        all-settled j.position k.position
        (record { earlier = earlier; later = k_in; positions = same_lead_position (lead_at m.rows) j k e })))
        (λ s member. member.1) c h)
      where
        nothing_begins : (b : Place) (v : List (Term Place)) → v ≡ [] → Begins b v → ⊥
        nothing_begins b v none begins = let shape = sym begins.shape ∙ none in cc

    module _ (others : List Vector)
        (rows_done : (l : ℕ) → (q : List (Term Place)) × AllByRecursion (IsForRows m.rows) q × (row_combination m.ring m.rows q ≡ row_at others l) × Has q) where
      -- coefficients that give a combination of the other rows
      record IsLifted (a : List (Term Place)) : Type 0 where
        coefficients : List (Term Place)
        for_rows : AllByRecursion (IsForRows m.rows) coefficients
        value : row_combination m.ring m.rows coefficients ≡ row_combination m.ring others a
        inside : Has coefficients

      lifted : (a : List (Term Place)) → IsLifted a
      lifted [] = record {
        coefficients = [];
        for_rows = tt;
        value = row_combination-nil m.ring positive.modulus m.rows ∙ sym (row_combination-nil m.ring positive.modulus others);
        inside = has_module.has_none;
      }
      lifted (t ∷ a) =
          let s : Term Monomial = record { at = t.at.monomial; coefficient = t.coefficient } in
          let q = rows_done t.at.position in
          let rest = lifted a in
          record {
            coefficients = products m.ring.modulus s q.0 ++ rest.coefficients;
            for_rows =
                AllByRecursion-append (IsForRows m.rows) (products m.ring.modulus s q.0) rest.coefficients
                (EachPlace-products (IsInside m.rows) (IsInside m.rows) m.ring.modulus s (λ k h. h) q.0 q.1) rest.for_rows;
            value =
                row_combination-append m.ring positive.modulus m.rows (products m.ring.modulus s q.0) rest.coefficients
                ∙ (λ i. row_sum m.ring ((row_combination-products m.ring positive m.rows s q.0 ∙ ap (row_multiple m.ring s) q.2) i) (rest.value i))
                ∙ sym (row_combination-cons m.ring positive.modulus others t a);
            inside = has_module.has_sums (products m.ring.modulus s q.0) rest.coefficients (has_module.has_products s q.0 q.3) rest.inside;
          }

      -- so are the coefficients of each relation
      pub relation-inside : (c a : List (Term Place)) → AllByRecursion (IsForRows m.rows) c
          → row_combination m.ring m.rows c ≡ row_combination m.ring others a → Has c
      relation-inside c a h e =
          let l = lifted a in
          let away = minus m.ring positive l.coefficients in
          let difference =
          syzygy-inside (c ++ away)
          (AllByRecursion-append (IsForRows m.rows) c away h
          (EachPlace-products (IsInside m.rows) (IsInside m.rows) m.ring.modulus _ (λ k inside. inside) l.coefficients l.for_rows))
          (row_combination-difference m.ring positive m.rows c l.coefficients (e ∙ sym l.value)) in
          has_module.has_same _ c (SameTotals-minus m.ring positive c l.coefficients)
          (has_module.has_sums (c ++ away) l.coefficients difference l.inside)
