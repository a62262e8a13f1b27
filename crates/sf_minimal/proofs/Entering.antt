-- One more pivot: what the others leave of a row of constants, made monic.
use Rattle.std.proofs.Common.{◌≡◌, false, true, ⊎_elim, ℕ, ◌+◌, ◌<◌, ◌≤◌, List, [], ◌∷◌, ◌++◌, append-nil, length, refl, sym, ◌∙◌, ap, subst, arith, pos}
use Rattle.std.proofs.lemmas.Bool.{cases_lt}
use Rattle.std.proofs.lemmas.List.{length-append, length-map}
use Rattle.std.specs.List.{AllByRecursion}
use Rattle.sf_algebra.specs.Matrices.{Matrix, IsMatrix, degrees_of}
use Rattle.sf_algebra.specs.MatrixOperations.{row_at, row_combination}
use Rattle.sf_algebra.specs.Monomials.{exponent_sum}
use Rattle.sf_algebra.specs.Rings.{IsRing}
use Rattle.sf_algebra.specs.Sums.{add}
use Rattle.sf_algebra.specs.Terms.{Term}
use Rattle.sf_algebra.specs.VectorOperations.{row_sum}
use Rattle.sf_algebra.specs.Vectors.{IsVector, Place, Vector, place_cmp}
use Rattle.sf_algebra.proofs.Basics.Lists.{AllByRecursion-append, AllByRecursion-weaken}
use Rattle.sf_algebra.proofs.Monomials.Orders.{place_cmp_linear}
use Rattle.sf_algebra.proofs.Terms.SameTotals.{SameTotals, SameTotals-append, SameTotals-equal, SameTotals-normal, SameTotals-refl, SameTotals-trans}
use Rattle.sf_algebra.proofs.Terms.Sums.{normal-canonical}
use Rattle.sf_algebra.proofs.Vectors.RowSums.{row_sum-nil_first}
use Rattle.sf_algebra.proofs.Vectors.Rows.{IsCanonical-row_combination, row_at-append_first, row_at-append_second}
use Rattle.sf_groebner.specs.Criterion.{IsPair, lead_at, lead_place}
use Rattle.sf_groebner.specs.Divisions.{IsDivision}
use Rattle.sf_groebner.specs.ReducedBases.{IsMonic, IsReducedBy, is_divided}
use Rattle.sf_groebner.proofs.Basics.Items.{AllByRecursion-both}
use Rattle.sf_groebner.proofs.Constructions.LeadDivisors.{lead_divides-own}
use Rattle.sf_groebner.proofs.Constructions.MonicVectors.{AllByRecursion-row_at}
use Rattle.sf_groebner.proofs.PairTheorems.MonicRows.{is_divided-row}
use Rattle.sf_groebner.proofs.PairTheorems.Schreyer.{IsSpanned, IsSpanned-module, IsSpanned-row}
use Rattle.sf_minimal.specs.Pivots.{ArePivots, IsEntered, IsMonicMultiple, constant_row}
use Rattle.sf_minimal.proofs.Differences.{SameTotals-plus, minus}
use Rattle.sf_minimal.proofs.Modules.{has_row_multiple, has_row_sum}
use Rattle.sf_minimal.proofs.PivotRows.{IsConstantWithin, constants-within, same_constants}
use Rattle.sf_minimal.proofs.States.{IsSpanned-more}

module _ (m : Matrix) (positive : IsRing m.ring) (h : ArePivots m) where
  -- nothing changes for a row that the pivots span
  pub IsEntered-none : (c : List (Term Place)) → IsSpanned m.ring m.rows c → IsEntered m m c
  IsEntered-none c spanned = record {
    pivots = h;
    ring = refl;
    target = refl;
    more = [];
    rows = sym (append-nil m.rows);
    spanned = spanned;
    made = tt;
  }

  pub IsEntered-empty : (c : List (Term Place)) → c ≡ [] → IsEntered m m c
  IsEntered-empty c e = IsEntered-none c (subst (IsSpanned m.ring m.rows) (sym e) (IsSpanned-module m.ring positive m.rows).has_none)

  -- the row v at the end
  last_row : (v : Vector) → row_at (m.rows ++ v ∷ []) (length m.rows) ≡ v.terms
  last_row v =
      ap (row_at (m.rows ++ v ∷ [])) (let e : length m.rows ≡ length m.rows + 0 = omega arith in e)
      ∙ row_at-append_second m.rows (v ∷ []) 0

  last_within : (v : Vector) → length m.rows < length (m.rows ++ v ∷ [])
  last_within v = let size = length-append m.rows (v ∷ []) in omega (arith, size)

  last_spanned : (v : Vector) → IsSpanned m.ring (m.rows ++ v ∷ []) v.terms
  last_spanned v =
      subst (IsSpanned m.ring (m.rows ++ v ∷ [])) (last_row v)
      (IsSpanned-row m.ring positive (m.rows ++ v ∷ []) (length m.rows) (last_within v))

  module _ (matrix : IsMatrix m) (c rest quotients : Vector) (zero : c.degree ≡ pos 0)
      (division : IsDivision m.ring m.target m.rows c rest quotients) where
    abbrev taken : List (Term Place)
    taken = row_combination m.ring m.rows quotients.terms

    taken_spanned : IsSpanned m.ring m.rows taken
    taken_spanned = record {
      coefficients = quotients.terms;
      for_rows = AllByRecursion-weaken _ _ (λ t k. within t.at.position k.0) quotients.terms division.divided.homogeneous;
      value = sym (normal-canonical (place_cmp m.ring.weights) (place_cmp_linear m.ring.weights) m.ring.modulus positive.modulus taken (IsCanonical-row_combination m.ring positive.modulus m.rows quotients.terms));
    }
      where
        within : (i : ℕ) → i < length (degrees_of m.rows) → i < length m.rows
        within i k = simp length-map at k

    pub IsEntered-spanned : rest.terms ≡ [] → IsEntered m m c.terms
    IsEntered-spanned e =
        IsEntered-none c.terms
        (subst (IsSpanned m.ring m.rows)
        (sym (row_sum-nil_first m.ring positive.modulus taken (IsCanonical-row_combination m.ring positive.modulus m.rows quotients.terms))
        ∙ ap (λ us. row_sum m.ring us taken) (sym e)
        ∙ division.divided.sum)
        taken_spanned)

    -- the rest is the row without what is taken away
    SameTotals-rest : SameTotals m.ring.modulus (c.terms ++ minus m.ring positive taken) rest.terms
    unfolding add
    SameTotals-rest =
        SameTotals-trans m.ring.modulus
        (SameTotals-append m.ring.modulus
        (SameTotals-trans m.ring.modulus (SameTotals-equal m.ring.modulus _ _ (sym division.divided.sum))
        (SameTotals-normal (place_cmp m.ring.weights) (place_cmp_linear m.ring.weights) m.ring.modulus (rest.terms ++ taken)))
        (SameTotals-refl m.ring.modulus (minus m.ring positive taken)))
        (SameTotals-plus m.ring positive rest.terms taken)

    -- a monic multiple of the rest
    module _ (v : Vector) (made : IsMonicMultiple m.ring rest.terms v) (nonzero : rest.terms ≡ [] → ⊥) where
      abbrev rows : List Vector
      rows = m.rows ++ v ∷ []

      constant_rest : AllByRecursion (IsConstantWithin (length m.target)) rest.terms
      constant_rest =
          constants-within m.ring.weights positive.weights m.target c.degree h.target zero rest.terms division.divided.vector.homogeneous

      first_constant : (ts : List (Term Place)) → (ts ≡ [] → ⊥) → AllByRecursion (IsConstantWithin (length m.target)) ts
          → exponent_sum (lead_place ts).monomial ≡ 0
      first_constant [] k all = absurd (k refl)
      first_constant (t ∷ ts) k all = all.0.0

      first_free : (ts : List (Term Place)) → (ts ≡ [] → ⊥) → IsReducedBy m.rows ts → is_divided m.rows (lead_place ts) ≡ false
      first_free [] k reduced = absurd (k refl)
      first_free (t ∷ ts) k reduced = reduced.0

      row_constant : (i : ℕ) → i < length m.rows → exponent_sum (lead_at m.rows i).monomial ≡ 0
      row_constant i within =
          by_terms (row_at m.rows i) (AllByRecursion-row_at (λ d ts. IsMonic ts) m.rows h.monic i within)
          (AllByRecursion-row_at (λ d ts. AllByRecursion (IsConstantWithin (length m.target)) ts) m.rows
          (AllByRecursion-both (IsVector m.ring m.target) (λ (w : Vector). w.degree ≡ pos 0)
          (λ (w : Vector). AllByRecursion (IsConstantWithin (length m.target)) w.terms)
          (λ w vector degree. constants-within m.ring.weights positive.weights m.target w.degree h.target degree w.terms vector.homogeneous) m.rows matrix h.degrees) i within)
        where
          by_terms : (ts : List (Term Place)) → IsMonic ts → AllByRecursion (IsConstantWithin (length m.target)) ts
              → exponent_sum (lead_place ts).monomial ≡ 0
          by_terms [] monic all = absurd monic
          by_terms (t ∷ ts) monic all = all.0.0

      -- no pivot stands where the rest begins
      apart_new : (i : ℕ) → i < length m.rows → (lead_at m.rows i).position ≡ (lead_place v.terms).position → ⊥
      apart_new i within positions =
          let same : lead_at m.rows i ≡ lead_place rest.terms =
          λ j. record {
            position = (positions ∙ ap (λ (k : Place). k.position) made.place) j;
            monomial = same_constants (lead_at m.rows i).monomial (lead_place rest.terms).monomial (row_constant i within) (first_constant rest.terms nonzero constant_rest) j;
          } in
          let divided : is_divided m.rows (lead_place rest.terms) ≡ true =
          subst (λ k. is_divided m.rows k ≡ true) same
          (is_divided-row m.rows i (lead_at m.rows i) within
          (lead_divides-own (row_at m.rows i) (AllByRecursion-row_at (λ d ts. IsMonic ts) m.rows h.monic i within))) in
          let free = first_free rest.terms nonzero division.divided.reduced in
          let clash = sym divided ∙ free in
          cc

      lead-old : (i : ℕ) → i < length m.rows → lead_at rows i ≡ lead_at m.rows i
      lead-old i within = ap lead_place (row_at-append_first m.rows (v ∷ []) i within)

      apart : (i j : ℕ) → IsPair rows i j → ⊥
      apart i j pair =
          let size = length-append m.rows (v ∷ []) in
          let later = pair.later in
          let earlier = pair.earlier in
          ⊎_elim
          (λ (old : j < length m.rows).
          let first : i < length m.rows = omega (arith, earlier, old) in
          h.apart i j (record {
            earlier = earlier;
            later = old;
            positions = ap (λ (k : Place). k.position) (sym (lead-old i first)) ∙ pair.positions ∙ ap (λ (k : Place). k.position) (lead-old j old);
          }))
          (λ (not_old : length m.rows ≤ j).
          let last : j ≡ length m.rows = omega (arith, later, size, not_old) in
          let first : i < length m.rows = omega (arith, earlier, last) in
          apart_new i first
          (ap (λ (k : Place). k.position) (sym (lead-old i first)) ∙ pair.positions
          ∙ ap (λ k. (lead_place (row_at rows k)).position) last ∙ ap (λ ts. (lead_place ts).position) (last_row v)))
          (cases_lt j (length m.rows))

      rest_spanned : IsSpanned m.ring rows rest.terms
      rest_spanned =
          subst (IsSpanned m.ring rows) made.back
          (has_row_multiple m.ring positive (IsSpanned m.ring rows) (IsSpanned-module m.ring positive rows) _ v.terms (last_spanned v))

      v_spanned : IsSpanned m.ring (m.rows ++ constant_row c.terms ∷ []) v.terms
      v_spanned =
          let S_module = IsSpanned-module m.ring positive (m.rows ++ constant_row c.terms ∷ []) in
          subst (IsSpanned m.ring (m.rows ++ constant_row c.terms ∷ [])) made.value
          (has_row_multiple m.ring positive (IsSpanned m.ring (m.rows ++ constant_row c.terms ∷ [])) S_module _ rest.terms
          (S_module.has_same _ _ SameTotals-rest
          (S_module.has_sums c.terms (minus m.ring positive taken) (last_spanned (constant_row c.terms))
          (S_module.has_products _ taken (IsSpanned-more m.ring positive m.rows (constant_row c.terms ∷ []) taken taken_spanned)))))

      pub IsEntered-pivot : (new : Matrix) → new ≡ record m { rows = m.rows ++ v ∷ [] } → IsEntered m new c.terms
      IsEntered-pivot new e =
          subst (λ (x : Matrix). IsEntered m x c.terms) (sym e)
          (record {
            pivots = record {
              target = h.target;
              degrees = AllByRecursion-append (λ (w : Vector). w.degree ≡ pos 0) m.rows (v ∷ []) h.degrees (made.degree, tt);
              monic = AllByRecursion-append (λ (w : Vector). IsMonic w.terms) m.rows (v ∷ []) h.monic (made.monic, tt);
              apart = apart;
            };
            ring = refl;
            target = refl;
            more = v ∷ [];
            rows = refl;
            spanned = subst (IsSpanned m.ring rows) division.divided.sum
                (has_row_sum m.ring positive (IsSpanned m.ring rows) (IsSpanned-module m.ring positive rows) rest.terms taken rest_spanned
                (IsSpanned-more m.ring positive m.rows (v ∷ []) taken taken_spanned));
            made = (v_spanned, tt);
          })
