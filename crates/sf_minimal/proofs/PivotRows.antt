-- A pivot gives a relation that begins with the row for which it stands.
use Rattle.std.proofs.Common.{◌≡◌, ⊎_elim, IsTrue, ℕ, suc, ◌-◌, ◌<◌, ◌≤◌, List, [], ◌∷◌, ◌++◌, length, take, refl, sym, ◌∙◌, ap, subst, arith, ℤ, pos}
use Rattle.std.proofs.lemmas.Bool.{cases_lt}
use Rattle.std.proofs.lemmas.Cmp.{tied_itself}
use Rattle.std.proofs.lemmas.Int.{ints}
use Rattle.std.proofs.lemmas.Option.{slice_get-get_or}
use Rattle.std.specs.declared.cmp.Ordering.TheVariants.{Less}
use Rattle.std.specs.Ordering.{ordering_reverse}
use Rattle.std.specs.List.{AllByRecursion}
use Rattle.sf_algebra.specs.Matrices.{Matrix, IsMatrix}
use Rattle.sf_algebra.specs.MatrixOperations.{row_at}
use Rattle.sf_algebra.specs.Monomials.{Monomial, exponent_sum, one}
use Rattle.sf_algebra.specs.Rings.{IsRing, IsPositive, Ring, Weights}
use Rattle.sf_algebra.specs.Terms.{Term}
use Rattle.sf_algebra.specs.Vectors.{IsHomogeneous, IsVector, Place, Vector, place_cmp}
use Rattle.sf_algebra.proofs.Basics.Lists.{AllByRecursion-append, AllByRecursion-get, AllByRecursion-weaken}
use Rattle.sf_algebra.proofs.Monomials.Divisors.{same_monomial}
use Rattle.sf_algebra.proofs.Monomials.Orders.{place_cmp_total}
use Rattle.sf_algebra.proofs.Monomials.Weights.{exponent_sum-at_most}
use Rattle.sf_algebra.proofs.Vectors.Positions.{place_cmp-later}
use Rattle.sf_algebra.proofs.Vectors.UnitRows.{unit_term}
use Rattle.sf_groebner.specs.Criterion.{lead_at, lead_place}
use Rattle.sf_groebner.specs.Divisions.{tail_of}
use Rattle.sf_groebner.specs.MinimalGenerators.{IsInSum}
use Rattle.sf_groebner.specs.ReducedBases.{IsMonic, IsSorted}
use Rattle.sf_groebner.specs.Spans.{InSpan}
use Rattle.sf_groebner.proofs.Basics.Items.{AllByRecursion-both}
use Rattle.sf_groebner.proofs.Constructions.MonicVectors.{AllByRecursion-row_at, IsMonicVector, is_divided-position, monic_row}
use Rattle.sf_groebner.proofs.PairTheorems.MonicRows.{IsMonic-shape, tail_of-low}
use Rattle.sf_matrix.specs.KeptNumbers.{vector_at}
use Rattle.sf_minimal.specs.Constants.{StandWithin, turned}
use Rattle.sf_minimal.specs.Numbers.{has_pivot, pivot_place}
use Rattle.sf_minimal.specs.Pivots.{ArePivots}
use Rattle.sf_minimal.proofs.ConstantParts.{IsConstantPart, IsRelation}
use Rattle.sf_minimal.proofs.ConstantTerms.{IsNotConstant, all_turned}
use Rattle.sf_minimal.proofs.FromPivots.{IsBefore, not_constant-before, relation-in_sum}

-- a constant term at one of n positions
abbrev pub IsConstantWithin : ℕ → Term Place → Type 0
IsConstantWithin n t = (exponent_sum t.at.monomial ≡ 0) × (t.at.position < n)

-- where all degrees are 0, all terms are constant
pub constants-within : (weights : Weights) → IsPositive weights → (target : List ℤ) (d : ℤ)
    → AllByRecursion (λ (e : ℤ). e ≡ pos 0) target → d ≡ pos 0 → (ts : List (Term Place))
    → IsHomogeneous weights target d ts → AllByRecursion (IsConstantWithin (length target)) ts
constants-within weights positive target d zeros zero ts h =
    AllByRecursion-weaken _ _
    (λ t k.
    let e = AllByRecursion-get (λ (e : ℤ). e ≡ pos 0) target t.at.position _ zeros (slice_get-get_or target t.at.position (pos 0) k.0) in
    let least = exponent_sum-at_most weights positive t.at.monomial in
    let degree = k.1 in
    (omega (arith, ints, e, least, degree, zero), k.0))
    ts h

pub same_constants : (a b : Monomial) → exponent_sum a ≡ 0 → exponent_sum b ≡ 0 → a ≡ b
same_constants a b h k =
    same_monomial a b (omega arith) (omega arith) (omega arith) (omega arith) (omega arith) (omega arith)

-- of constant terms the less one stands further on
pub later-position : (weights : Weights) (j k : Place) → exponent_sum j.monomial ≡ 0 → exponent_sum k.monomial ≡ 0
    → place_cmp weights j k ≡ Less → k.position < j.position
later-position weights j k first second less =
    ⊎_elim (λ (later : k.position < j.position). later)
    (λ (not_later : j.position ≤ k.position).
    ⊎_elim
    (λ (earlier : j.position < k.position).
    let greater = (place_cmp_total weights).antisymm j k ∙ ap ordering_reverse (place_cmp-later weights k j earlier) in
    absurd (let clash = sym less ∙ greater in cc))
    (λ (not_earlier : k.position ≤ j.position).
    let positions : j.position ≡ k.position = omega (arith, not_later, not_earlier) in
    let same : j ≡ k = λ i. record { position = positions i; monomial = same_constants j.monomial k.monomial first second i } in
    absurd (let clash = sym less ∙ ap (λ l. place_cmp weights l k) same ∙ tied_itself (place_cmp_total weights) k in cc))
    (cases_lt j.position k.position))
    (cases_lt k.position j.position)

module _ (m base pivots : Matrix) (positive : IsRing m.ring) (matrix : IsMatrix m) (base_matrix : IsMatrix base)
    (rings : base.ring ≡ m.ring) (targets : base.target ≡ m.target) (sorted : IsSorted m.ring.weights m.rows)
    (pivot_rings : pivots.ring ≡ m.ring) (pivot_matrix : IsMatrix pivots) (are_pivots : ArePivots pivots)
    (columns : length pivots.target ≡ length m.rows)
    (sound : AllByRecursion (λ (v : Vector). IsConstantPart m positive base.rows v.terms) pivots.rows) where
  abbrev n : ℕ
  n = length m.rows

  monic_pivots : AllByRecursion (IsMonicVector m.ring pivots.target) pivots.rows
  monic_pivots =
      subst (λ (r : Ring). AllByRecursion (IsMonicVector r pivots.target) pivots.rows) pivot_rings
      (AllByRecursion-both (IsVector pivots.ring pivots.target) (λ (v : Vector). IsMonic v.terms) (IsMonicVector pivots.ring pivots.target)
      (λ v a b. record { vector = a; monic = b }) pivots.rows pivot_matrix are_pivots.monic)

  -- what a pivot with its lead at the place for row i says
  at_lead : (i : ℕ) → i < n → (ts : List (Term Place)) → IsMonicVector m.ring pivots.target (record { degree = pos 0; terms = ts })
      → lead_place ts ≡ pivot_place n i → IsConstantPart m positive base.rows ts
      → IsInSum m.ring (take i m.rows) (InSpan base) (vector_at m.rows i)
  at_lead i within ts monic place part =
      relation-in_sum m base positive matrix base_matrix rings targets sorted i within c stands before relation
    where
      shape : ts ≡ record { at = lead_place ts; coefficient = 1 } ∷ tail_of ts
      shape = IsMonic-shape ts monic.monic

      terms : AllByRecursion (IsConstantWithin n) (record { at = lead_place ts; coefficient = 1 } ∷ tail_of ts)
      terms =
          subst (AllByRecursion (IsConstantWithin n)) shape
          (subst (λ k. AllByRecursion (IsConstantWithin k) ts) columns
          (constants-within m.ring.weights positive.weights pivots.target (pos 0) are_pivots.target refl ts monic.vector.homogeneous))

      further : AllByRecursion (λ (t : Term Place). (n - suc i < t.at.position) × (t.at.position < n)) (tail_of ts)
      further =
          AllByRecursion-both (λ (t : Term Place). place_cmp m.ring.weights t.at (lead_place ts) ≡ Less) (IsConstantWithin n)
          (λ (t : Term Place). (n - suc i < t.at.position) × (t.at.position < n))
          (λ t less k. (subst (λ (q : Place). q.position < t.at.position) place (later-position m.ring.weights t.at (lead_place ts) k.0 terms.0.0 less), k.1))
          (tail_of ts) (tail_of-low m.ring ts monic.vector.canonical) terms.1

      c : List (Term Place)
      c = all_turned n (tail_of ts) ++ part.rest

      turned-all : (P : Place → Type 0) → ((t : Term Place) → n - suc i < t.at.position → t.at.position < n → P (turned n t).at)
          → (us : List (Term Place)) → AllByRecursion (λ (t : Term Place). (n - suc i < t.at.position) × (t.at.position < n)) us
          → AllByRecursion (λ (t : Term Place). P t.at) (all_turned n us)
      turned-all P f [] h = tt
      turned-all P f (u ∷ us) h = (f u h.0.0 h.0.1, turned-all P f us h.1)

      stands : StandWithin n c
      stands =
          AllByRecursion-append (λ (t : Term Place). t.at.position < n) (all_turned n (tail_of ts)) part.rest
          (turned-all (λ k. k.position < n) (λ t a b. omega (arith, within)) (tail_of ts) further) part.within

      earlier : (p : ℕ) → n - suc i < p → p < n → n - suc p < i
      earlier p a b = omega (arith, within)

      before : AllByRecursion (λ (t : Term Place). IsBefore m base positive matrix base_matrix rings targets sorted i within t.at) c
      before =
          AllByRecursion-append (λ (t : Term Place). IsBefore m base positive matrix base_matrix rings targets sorted i within t.at) (all_turned n (tail_of ts)) part.rest
          (turned-all (IsBefore m base positive matrix base_matrix rings targets sorted i within) (λ t a b _. earlier t.at.position a b) (tail_of ts) further)
          (AllByRecursion-both IsNotConstant (λ (t : Term Place). t.at.position < n) (λ (t : Term Place). IsBefore m base positive matrix base_matrix rings targets sorted i within t.at)
          (λ t h k. not_constant-before m base positive matrix base_matrix rings targets sorted i within t h k) part.rest part.not_constant part.within)

      unit : turned n (record { at = lead_place ts; coefficient = 1 }) ≡ unit_term i
      unit =
          ap (λ (k : Place). turned n (record { at = k; coefficient = 1 })) place
          ∙ (let same : n - suc (n - suc i) ≡ i = omega (arith, within) in
          λ j. record { at = record { position = same j; monomial = one }; coefficient = 1 })

      relation : IsRelation m positive base.rows (unit_term i ∷ c)
      relation =
          subst (IsRelation m positive base.rows)
          (ap (λ us. all_turned n us ++ part.rest) shape ∙ ap (λ u. u ∷ c) unit) part.relation

  pub pivot-in_sum : (i : ℕ) → i < n → IsTrue (has_pivot pivots.rows n i)
      → IsInSum m.ring (take i m.rows) (InSpan base) (vector_at m.rows i)
  pivot-in_sum i within h =
      let found = is_divided-position pivots.rows (pivot_place n i) h in
      let k = found.0 in
      let row = monic_row m.ring pivots.target pivots.rows monic_pivots k found.1 in
      let degree = AllByRecursion-row_at (λ d ts. d ≡ pos 0) pivots.rows are_pivots.degrees k found.1 in
      let lead : lead_at pivots.rows k ≡ pivot_place n i =
      λ j. record {
        position = found.2.0 j;
        monomial = same_monomial (lead_at pivots.rows k).monomial one (omega (arith, found.2.1.0)) (omega (arith, found.2.1.1)) (omega (arith, found.2.1.2)) (omega (arith, found.2.1.3)) (omega (arith, found.2.1.4)) (omega (arith, found.2.1.5)) j;
      } in
      at_lead i within (row_at pivots.rows k)
      (subst (λ d. IsMonicVector m.ring pivots.target (record { degree = d; terms = row_at pivots.rows k })) degree row)
      lead
      (AllByRecursion-row_at (λ d ts. IsConstantPart m positive base.rows ts) pivots.rows sound k found.1)
