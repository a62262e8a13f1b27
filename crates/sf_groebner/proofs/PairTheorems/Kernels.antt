-- The combinations that are 0, as a set that settles pairs: a pair of rows is settled there exactly where it reduces to
-- zero.
use Rattle.std.proofs.Common.{◌≡◌, ℕ, List, [], ◌∷◌, ◌++◌, map, sym, ◌∙◌, ap, subst, append-nil, append_assoc}
use Rattle.sf_algebra.specs.MatrixOperations.{row_at, row_combination}
use Rattle.sf_algebra.specs.Monomials.{Monomial}
use Rattle.sf_algebra.specs.Multiples.{place_product, term_product, multiple}
use Rattle.sf_algebra.specs.Residues.{negative_mod}
use Rattle.sf_algebra.specs.Rings.{Ring, IsRing}
use Rattle.sf_algebra.specs.Terms.{Term}
use Rattle.sf_algebra.specs.VectorOperations.{row_sum, row_multiple}
use Rattle.sf_algebra.specs.Vectors.{Place, Vector, place_cmp}
use Rattle.sf_algebra.proofs.Monomials.Orders.{place_cmp_linear}
use Rattle.sf_algebra.proofs.Multiplying.Keys.{place_keys}
use Rattle.sf_algebra.proofs.Terms.Negatives.{negative_one_term}
use Rattle.sf_algebra.proofs.Terms.Normal.{EachPlace}
use Rattle.sf_algebra.proofs.Terms.SameTotals.{SameTotals, SameTotals-append, SameTotals-equal, SameTotals-negative, SameTotals-normal, SameTotals-refl, SameTotals-swap, SameTotals-sym, SameTotals-trans, combination-SameTotals}
use Rattle.sf_algebra.proofs.Terms.Sums.{normal-nil}
use Rattle.sf_algebra.proofs.Vectors.RowSums.{row_sum-nil}
use Rattle.sf_algebra.proofs.Vectors.Rows.{IsCanonical-row_combination, row_combination-append, row_combination-multiple, row_combination-nil}
use Rattle.sf_groebner.specs.Criterion.{lcm_place, pair_place, s_coefficients}
use Rattle.sf_groebner.proofs.PairTheorems.LeadMultiples.{IsModule, IsSettled, IsUnder, at_place}
use Rattle.sf_groebner.proofs.PairTheorems.Multiplied.{SameTotals-constant}
use Rattle.sf_groebner.proofs.PairTheorems.Pairs.{lead_multiple-pair_place, lcm_place-comm}

module _ (ring : Ring) (positive : IsRing ring) where
  -- the coefficient -1 at a place, and no other
  abbrev pub minus_at : Place → List (Term Place)
  minus_at k = record { at = k; coefficient = negative_mod ring.modulus 1 } ∷ []

  SameTotals-minus_at : (k : Place) → SameTotals ring.modulus (at_place k ++ minus_at k) []
  SameTotals-minus_at k =
      SameTotals-trans ring.modulus
      (SameTotals-append ring.modulus (SameTotals-refl ring.modulus (at_place k)) (SameTotals-sym ring.modulus (SameTotals-constant ring.modulus (negative_mod ring.modulus 1) k)))
      (SameTotals-negative (place_keys ring.weights) ring.modulus positive.modulus (at_place k))

  -- one place is another and c exactly where their difference is c
  pub SameTotals-difference : (j k : Place) (c : List (Term Place))
      → SameTotals ring.modulus (at_place j) (at_place k ++ c) → SameTotals ring.modulus (at_place j ++ minus_at k) c
  SameTotals-difference j k c h =
      SameTotals-trans ring.modulus
      (SameTotals-append ring.modulus (SameTotals-trans ring.modulus h (SameTotals-swap ring.modulus (at_place k) c)) (SameTotals-refl ring.modulus (minus_at k)))
      (SameTotals-trans ring.modulus (SameTotals-equal ring.modulus _ _ (append_assoc c (at_place k) (minus_at k)))
      (SameTotals-trans ring.modulus (SameTotals-append ring.modulus (SameTotals-refl ring.modulus c) (SameTotals-minus_at k)) (SameTotals-equal ring.modulus _ _ (append-nil c))))

  pub SameTotals-from_difference : (j k : Place) (c : List (Term Place))
      → SameTotals ring.modulus (at_place j ++ minus_at k) c → SameTotals ring.modulus (at_place j) (at_place k ++ c)
  SameTotals-from_difference j k c h =
      SameTotals-trans ring.modulus
      (SameTotals-trans ring.modulus (SameTotals-equal ring.modulus _ _ (sym (append-nil (at_place j))))
      (SameTotals-append ring.modulus (SameTotals-refl ring.modulus (at_place j)) (SameTotals-sym ring.modulus (SameTotals-trans ring.modulus (SameTotals-swap ring.modulus (minus_at k) (at_place k)) (SameTotals-minus_at k)))))
      (SameTotals-trans ring.modulus (SameTotals-append ring.modulus h (SameTotals-refl ring.modulus (at_place k))) (SameTotals-swap ring.modulus c (at_place k)))

  module _ (rows : List Vector) where
    -- equal coefficients up to their order give equal combinations
    pub row_combination-SameTotals : {c d : List (Term Place)} → SameTotals ring.modulus c d
        → row_combination ring rows c ≡ row_combination ring rows d
    row_combination-SameTotals same =
        combination-SameTotals (place_keys ring.weights) ring.modulus positive.modulus (λ k. k.monomial)
        (λ k. row_at rows k.position) same

    pub row_combination-products : (s : Term Monomial) (c : List (Term Place))
        → row_combination ring rows (map (term_product place_product ring.modulus s) c)
        ≡ row_multiple ring s (row_combination ring rows c)
    unfolding multiple
    row_combination-products s c =
        row_combination-SameTotals
        (SameTotals-sym ring.modulus (SameTotals-normal (place_cmp ring.weights) (place_cmp_linear ring.weights) ring.modulus (map (term_product place_product ring.modulus s) c)))
        ∙ row_combination-multiple ring positive.modulus rows s c

    -- coefficients that add nothing
    pub row_combination-append_zero : (c d : List (Term Place)) → row_combination ring rows d ≡ []
        → row_combination ring rows (c ++ d) ≡ row_combination ring rows c
    row_combination-append_zero c d none =
        row_combination-append ring positive.modulus rows c d
        ∙ ap (row_sum ring (row_combination ring rows c)) none
        ∙ row_sum-nil ring positive.modulus (row_combination ring rows c)
        (IsCanonical-row_combination ring positive.modulus rows c)

    pub row_combination-append_zero_first : (c d : List (Term Place)) → row_combination ring rows c ≡ []
        → row_combination ring rows (c ++ d) ≡ row_combination ring rows d
    row_combination-append_zero_first c d none =
        row_combination-SameTotals (SameTotals-swap ring.modulus c d) ∙ row_combination-append_zero d c none

    -- what has the same combination taken away
    pub row_combination-difference : (c d : List (Term Place))
        → row_combination ring rows c ≡ row_combination ring rows d
        → row_combination ring rows
        (c ++ map (term_product place_product ring.modulus (negative_one_term ring.modulus)) d) ≡ []
    row_combination-difference c d same =
        let minus : List (Term Place) =
        map (term_product place_product ring.modulus (negative_one_term ring.modulus)) d in
        row_combination-append ring positive.modulus rows c minus
        ∙ ap (λ us. row_sum ring us (row_combination ring rows minus)) same
        ∙ sym (row_combination-append ring positive.modulus rows d minus)
        ∙ row_combination-SameTotals (SameTotals-negative (place_keys ring.weights) ring.modulus positive.modulus d)
        ∙ row_combination-nil ring positive.modulus rows

    -- the combination is 0
    abbrev pub IsZero : List (Term Place) → Type 0
    IsZero c = row_combination ring rows c ≡ []

    multiple-zero_list : (s : Term Monomial) → row_multiple ring s [] ≡ []
    unfolding multiple
    multiple-zero_list s = normal-nil (place_cmp ring.weights) ring.modulus

    pub IsZero-module : IsModule ring.modulus IsZero
    IsZero-module = record {
      has_none = row_combination-nil ring positive.modulus rows;
      has_sums = λ us vs h k. row_combination-append_zero us vs k ∙ h;
      has_products = λ s us h. row_combination-products s us ∙ ap (row_multiple ring s) h ∙ multiple-zero_list s;
      has_same = λ us vs same h. sym (row_combination-SameTotals same) ∙ h;
    }

    module _ (In : Place → Type 0) (lead : ℕ → Place) (i j : ℕ)
        (positions : (lead i).position ≡ (lead j).position) where
      -- a syzygy z of a pair settles it for a set that has z
      pub settled-syzygy : (S : List (Term Place) → Type 0) (steps z : List (Term Place))
          → EachPlace (IsUnder ring.weights In lead (lcm_place lead i j)) steps → S z
          → SameTotals ring.modulus (z ++ steps) (s_coefficients ring.modulus lead i j)
          → IsSettled ring In lead S (pair_place lead i j) (pair_place lead j i)
      settled-syzygy S steps z below inside same = record {
        lower = steps;
        rest = z;
        under =
            subst (λ b. EachPlace (IsUnder ring.weights In lead b) steps)
            (lcm_place-comm lead i j positions ∙ sym (lead_multiple-pair_place lead j i)) below;
        inside = inside;
        same =
            SameTotals-from_difference (pair_place lead i j) (pair_place lead j i) (steps ++ z)
            (SameTotals-sym ring.modulus (SameTotals-trans ring.modulus (SameTotals-swap ring.modulus steps z) same));
      }

      -- a pair that reduces to zero is settled
      pub settled-reduces : (steps : List (Term Place))
          → EachPlace (IsUnder ring.weights In lead (lcm_place lead i j)) steps
          → row_combination ring rows steps ≡ row_combination ring rows (s_coefficients ring.modulus lead i j)
          → IsSettled ring In lead IsZero (pair_place lead i j) (pair_place lead j i)
      settled-reduces steps below value =
          let minus : List (Term Place) =
          map (term_product place_product ring.modulus (negative_one_term ring.modulus)) steps in
          let terms = s_coefficients ring.modulus lead i j in
          settled-syzygy IsZero steps (terms ++ minus) below (row_combination-difference terms steps (sym value))
          (SameTotals-trans ring.modulus (SameTotals-equal ring.modulus _ _ (append_assoc terms minus steps))
          (SameTotals-trans ring.modulus
          (SameTotals-append ring.modulus (SameTotals-refl ring.modulus terms) (SameTotals-trans ring.modulus (SameTotals-swap ring.modulus minus steps) (SameTotals-negative (place_keys ring.weights) ring.modulus positive.modulus steps)))
          (SameTotals-equal ring.modulus _ _ (append-nil terms))))

      -- a pair that is settled reduces to zero
      pub reduces-settled : (h : IsSettled ring In lead IsZero (pair_place lead i j) (pair_place lead j i))
          → row_combination ring rows h.lower ≡ row_combination ring rows (s_coefficients ring.modulus lead i j)
      reduces-settled h =
          sym (row_combination-append_zero h.lower h.rest h.inside)
          ∙ sym (row_combination-SameTotals (SameTotals-difference (pair_place lead i j) (pair_place lead j i) (h.lower ++ h.rest) h.same))
