-- The unit vectors, by ascending degree and then by position, are the reduced basis of a free module: one of them divides
-- each lead, no two stand at one position, and inserting one by one sorts them.
use Rattle.std.proofs.Common.{◌≡◌, ◌||◌, true, false, inl, inr, ℕ, zero, suc, ◌+◌, ◌<◌, ◌≤◌, List, [], ◌∷◌, length, refl, sym, ◌∙◌, ap, subst, ℤ, arith}
use Rattle.std.proofs.lemmas.Bool.{cases_Bool, or_cases, or_left, or_right}
use Rattle.std.proofs.lemmas.Cmp.{int_cmp_total}
use Rattle.std.specs.declared.cmp.Ordering.TheVariants.{Less, Equal, Greater}
use Rattle.std.specs.List.{AllByRecursion}
use Rattle.std.specs.Ordering.{int_cmp, ordering_reverse, ordering_then}
use Rattle.sf_algebra.specs.MatrixOperations.{identity, unit_rows, unit_vector}
use Rattle.sf_algebra.specs.Monomials.{one, monomial_cmp}
use Rattle.sf_algebra.specs.Rings.{Ring, Weights, IsRing}
use Rattle.sf_algebra.specs.Terms.{Term}
use Rattle.sf_algebra.specs.Vectors.{Place, Vector, IsHomogeneous, IsVector}
use Rattle.sf_algebra.proofs.Basics.Lists.{AllByRecursion-weaken}
use Rattle.sf_algebra.proofs.GradedMatrices.Identities.{IsMatrix-identity, row_degrees-identity}
use Rattle.sf_algebra.proofs.Monomials.Comparisons.{nat_cmp-lt}
use Rattle.sf_algebra.proofs.Monomials.Orders.{match_ordering_cases}
use Rattle.sf_algebra.proofs.Vectors.HomogeneousVectors.{row_combination-identity}
use Rattle.sf_groebner.specs.Homology.{IsAny}
use Rattle.sf_groebner.specs.Leads.{place_divides}
use Rattle.sf_groebner.specs.ReducedBases.{AreApart, HasDividedLead, IsApart, IsMonic, IsReducedBasis, IsSorted, IsSpanBasis, is_divided, lead_cmp, lead_divides, row_cmp}
use Rattle.sf_groebner.specs.Spans.{InSpan}
use Rattle.sf_groebner.proofs.Basics.PlaceDivisors.{Decides-place_divides}
use Rattle.sf_groebner.proofs.Constructions.SortedRows.{row_cmp-trans}
use Rattle.sf_groebner.proofs.Spanning.SameModules.{IsReducedBasis-same}
use Rattle.sf_groebner.proofs.Spanning.Spans.{span_module}
use Rattle.sf_presented.specs.FreeBases.{insert_by_degree, by_degree, unit_basis}
use Rattle.sf_presented.proofs.RowMaps.{rows-InSpan}

-- a unit vector at position i or behind it
record IsUnitFrom (i : ℕ) (w : Vector) : Type 0 where
  degree : ℤ
  position : ℕ
  behind : i ≤ position
  same : unit_vector degree position ≡ w

unit_rows-from : (i : ℕ) (ds : List ℤ) → AllByRecursion (IsUnitFrom i) (unit_rows i ds)
unit_rows-from i [] = tt
unit_rows-from i (d ∷ ds) = (
  record { degree = d; position = i; behind = omega arith; same = refl },
  AllByRecursion-weaken (IsUnitFrom (suc i)) (IsUnitFrom i)
      (λ w h. let later : suc i ≤ h.position = h.behind in record { degree = h.degree; position = h.position; behind = omega arith; same = h.same })
      (unit_rows (suc i) ds) (unit_rows-from (suc i) ds),
)

-- facts of an insertion
AllByRecursion-insert_by_degree : (P : Vector → Type 0) (v : Vector) (ws : List Vector) → P v → AllByRecursion P ws
    → AllByRecursion P (insert_by_degree v ws)
AllByRecursion-insert_by_degree P v [] h k = (h, tt)
AllByRecursion-insert_by_degree P v (w ∷ ws) h k =
    match_ordering_cases (int_cmp v.degree w.degree) _ _ _ (AllByRecursion P) (λ less. (h, k)) (λ equal. (h, k))
    (λ greater. (k.0, AllByRecursion-insert_by_degree P v ws h k.1))

pub AllByRecursion-by_degree : (P : Vector → Type 0) (vs : List Vector) → AllByRecursion P vs
    → AllByRecursion P (by_degree vs)
AllByRecursion-by_degree P [] h = tt
AllByRecursion-by_degree P (v ∷ vs) h =
    AllByRecursion-insert_by_degree P v (by_degree vs) h.0 (AllByRecursion-by_degree P vs h.1)

is_divided-insert_by_degree : (v : Vector) (ws : List Vector) (k : Place) → is_divided (v ∷ ws) k ≡ true
    → is_divided (insert_by_degree v ws) k ≡ true
is_divided-insert_by_degree v [] k h = h
is_divided-insert_by_degree v (w ∷ ws) k h =
    match_ordering_cases (int_cmp v.degree w.degree) _ _ _ (λ l. is_divided l k ≡ true) (λ less. h) (λ equal. h)
    (λ greater. elim (or_cases (lead_divides v.terms k) (is_divided (w ∷ ws) k) h) [
      | inl first ↦ or_right (lead_divides w.terms k) _
          (is_divided-insert_by_degree v ws k (or_left (lead_divides v.terms k) _ first))
      | inr behind ↦ elim (or_cases (lead_divides w.terms k) (is_divided ws k) behind) [
        | inl second ↦ or_left (lead_divides w.terms k) _ second
        | inr rest ↦ or_right (lead_divides w.terms k) _
            (is_divided-insert_by_degree v ws k (or_right (lead_divides v.terms k) _ rest))
      ]
    ])

is_divided-by_degree : (vs : List Vector) (k : Place) → is_divided vs k ≡ true → is_divided (by_degree vs) k ≡ true
is_divided-by_degree [] k h = h
is_divided-by_degree (v ∷ vs) k h =
    is_divided-insert_by_degree v (by_degree vs) k
    (elim (or_cases (lead_divides v.terms k) (is_divided vs k) h) [
      | inl first ↦ or_left (lead_divides v.terms k) _ first
      | inr rest ↦ or_right (lead_divides v.terms k) _ (is_divided-by_degree vs k rest)
    ])

IsApart-insert_by_degree : (v : Vector) (ws : List Vector) → AllByRecursion (AreApart v) ws → IsApart ws
    → IsApart (insert_by_degree v ws)
IsApart-insert_by_degree v [] h k = (tt, tt)
IsApart-insert_by_degree v (w ∷ ws) h k =
    match_ordering_cases (int_cmp v.degree w.degree) _ _ _ IsApart (λ less. (h, k)) (λ equal. (h, k))
    (λ greater. (
      AllByRecursion-insert_by_degree (AreApart w) v ws
          (h.0.1, h.0.0) k.0,
      IsApart-insert_by_degree v ws h.1 k.1,
    ))

-- unit vectors at two positions
not_divided : (j k : Place) → (j.position ≡ k.position → ⊥) → place_divides j k ≡ false
not_divided j k apart =
    elim (cases_Bool (place_divides j k)) [
      | inl divided ↦ absurd (apart ((Decides-place_divides j k).0 divided).0)
      | inr free ↦ free
    ]

apart-unit : (d : ℤ) (i : ℕ) (w : Vector) → IsUnitFrom (suc i) w → AreApart (unit_vector d i) w
apart-unit d i w h =
    let later : suc i ≤ h.position = h.behind in
    let here : Place = record { position = i; monomial = one } in
    let there : Place = record { position = h.position; monomial = one } in
    subst (AreApart (unit_vector d i)) h.same (
      (ap (λ b. b || false) (not_divided there here (λ e. omega (arith, later))), tt),
      (ap (λ b. b || false) (not_divided here there (λ e. omega (arith, later))), tt),
    )

module _ (weights : Weights) where
  lead-unit : (d : ℤ) (i : ℕ) (w : Vector) → IsUnitFrom (suc i) w
      → lead_cmp weights w.terms (unit_vector d i).terms ≡ Less
  lead-unit d i w h =
      let later : suc i ≤ h.position = h.behind in
      subst (λ (x : Vector). lead_cmp weights x.terms (unit_vector d i).terms ≡ Less) h.same
      (ap (λ o. ordering_then o (monomial_cmp weights one one)) (nat_cmp-lt i h.position (omega arith)))

  row_cmp-unit_Less : (d : ℤ) (i : ℕ) (w : Vector) → IsUnitFrom (suc i) w → int_cmp d w.degree ≡ Less
      → row_cmp weights (unit_vector d i) w ≡ Less
  row_cmp-unit_Less d i w h e = ap (λ o. ordering_then o (lead_cmp weights w.terms (unit_vector d i).terms)) e

  row_cmp-unit_Equal : (d : ℤ) (i : ℕ) (w : Vector) → IsUnitFrom (suc i) w → int_cmp d w.degree ≡ Equal
      → row_cmp weights (unit_vector d i) w ≡ Less
  row_cmp-unit_Equal d i w h e =
      ap (λ o. ordering_then o (lead_cmp weights w.terms (unit_vector d i).terms)) e ∙ lead-unit d i w h

  row_cmp-unit_Greater : (d : ℤ) (i : ℕ) (w : Vector) → int_cmp d w.degree ≡ Greater
      → row_cmp weights w (unit_vector d i) ≡ Less
  row_cmp-unit_Greater d i w e =
      ap (λ o. ordering_then o (lead_cmp weights (unit_vector d i).terms w.terms))
      (int_cmp_total.antisymm w.degree d ∙ ap ordering_reverse e)

  IsSorted-insert_by_degree : (d : ℤ) (i : ℕ) (ws : List Vector) → AllByRecursion (IsUnitFrom (suc i)) ws
      → IsSorted weights ws → IsSorted weights (insert_by_degree (unit_vector d i) ws)
  IsSorted-insert_by_degree d i [] h k = (tt, tt)
  IsSorted-insert_by_degree d i (w ∷ ws) h k =
      let v : Vector = unit_vector d i in
      let first : row_cmp weights v w ≡ Less → IsSorted weights (v ∷ w ∷ ws) = λ less.
      ((less, AllByRecursion-weaken _ _ (λ x further. row_cmp-trans weights v w x less further) ws k.0), k) in
      match_ordering_cases (int_cmp d w.degree) _ _ _ (IsSorted weights)
      (λ less. first (row_cmp-unit_Less d i w h.0 less))
      (λ equal. first (row_cmp-unit_Equal d i w h.0 equal))
      (λ greater. (
        AllByRecursion-insert_by_degree (λ x. row_cmp weights w x ≡ Less) v ws (row_cmp-unit_Greater d i w greater) k.0,
        IsSorted-insert_by_degree d i ws h.1 k.1,
      ))

  IsSorted-units : (i : ℕ) (ds : List ℤ) → IsSorted weights (by_degree (unit_rows i ds))
  IsSorted-units i [] = tt
  IsSorted-units i (d ∷ ds) =
      IsSorted-insert_by_degree d i (by_degree (unit_rows (suc i) ds))
      (AllByRecursion-by_degree (IsUnitFrom (suc i)) (unit_rows (suc i) ds) (unit_rows-from (suc i) ds))
      (IsSorted-units (suc i) ds)

IsApart-units : (i : ℕ) (ds : List ℤ) → IsApart (by_degree (unit_rows i ds))
IsApart-units i [] = tt
IsApart-units i (d ∷ ds) =
    IsApart-insert_by_degree (unit_vector d i) (by_degree (unit_rows (suc i) ds))
    (AllByRecursion-by_degree (AreApart (unit_vector d i)) (unit_rows (suc i) ds)
    (AllByRecursion-weaken _ _ (apart-unit d i) (unit_rows (suc i) ds) (unit_rows-from (suc i) ds)))
    (IsApart-units (suc i) ds)

IsMonic-units : (i : ℕ) (ds : List ℤ) → AllByRecursion (λ (v : Vector). IsMonic v.terms) (unit_rows i ds)
IsMonic-units i [] = tt
IsMonic-units i (d ∷ ds) = (refl, IsMonic-units (suc i) ds)

-- one of them divides each place of the free module
is_divided-units : (i : ℕ) (ds : List ℤ) (n : ℕ) (k : Place) → k.position ≡ i + n → n < length ds
    → is_divided (unit_rows i ds) k ≡ true
is_divided-units i [] n k e h = absurd (omega arith)
is_divided-units i (d ∷ ds) zero k e h =
    or_left (place_divides (record { position = i; monomial = one }) k) _
    ((Decides-place_divides (record { position = i; monomial = one }) k).1
    (omega arith, (omega arith, omega arith, omega arith, omega arith, omega arith, omega arith)))
is_divided-units i (d ∷ ds) (suc n) k e h =
    or_right (place_divides (record { position = i; monomial = one }) k) _
    (is_divided-units (suc i) ds n k (omega arith) (omega arith))

HasDividedLead-units : (ring : Ring) (degrees : List ℤ) (v : Vector) → IsVector ring degrees v
    → HasDividedLead (unit_basis degrees) v.terms
HasDividedLead-units ring degrees v h = lead v.terms h.homogeneous
  where
    lead : (ts : List (Term Place)) → IsHomogeneous ring.weights degrees v.degree ts
        → HasDividedLead (unit_basis degrees) ts
    lead [] k = tt
    lead (t ∷ ts) k =
        is_divided-by_degree (unit_rows 0 degrees) t.at
        (is_divided-units 0 degrees t.at.position t.at (omega arith) k.0.0)

module _ (ring : Ring) (positive : IsRing ring) (above : 1 < ring.modulus) (degrees : List ℤ) where
  units-matrix : AllByRecursion (IsVector ring degrees) (unit_rows 0 degrees)
  units-matrix = IsMatrix-identity ring above degrees

  span_vector : (v : Vector) → InSpan (identity ring degrees) v → IsVector ring degrees v
  span_vector = (span_module (identity ring degrees) positive units-matrix).vectors

  pub InSpan-identity : (v : Vector) → IsVector ring degrees v → InSpan (identity ring degrees) v
  InSpan-identity v h = record {
    coefficients = v;
    homogeneous = subst (λ ds. IsVector ring ds v) (sym (row_degrees-identity ring degrees)) h;
    value = λ i. record { degree = v.degree; terms = row_combination-identity ring positive.modulus degrees v h i };
  }

  pub reduced-identity : IsSpanBasis (identity ring degrees) (unit_basis degrees)
  reduced-identity = record {
    inside =
        AllByRecursion-by_degree (InSpan (identity ring degrees)) (unit_rows 0 degrees)
        (rows-InSpan (identity ring degrees) positive above units-matrix);
    monic = AllByRecursion-by_degree (λ v. IsMonic v.terms) (unit_rows 0 degrees) (IsMonic-units 0 degrees);
    complete = λ v h. HasDividedLead-units ring degrees v (span_vector v h);
    apart = IsApart-units 0 degrees;
    sorted = IsSorted-units ring.weights 0 degrees;
  }

  pub reduced-any : IsReducedBasis ring.weights (IsAny ring degrees) (unit_basis degrees)
  reduced-any =
      IsReducedBasis-same ring.weights (InSpan (identity ring degrees)) (IsAny ring degrees) span_vector InSpan-identity
      (unit_basis degrees) reduced-identity
