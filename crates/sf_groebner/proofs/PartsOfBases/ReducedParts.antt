-- Parts of the elements of a reduced basis are a reduced basis of the module of such parts, where they take the leads
-- along.
use Rattle.std.proofs.Common.{◌≡◌, Bool, true, false, ◌||◌, ℕ, List, [], ◌∷◌, filter, map, refl, sym, ◌∙◌, ap, subst}
use Rattle.std.specs.Bool.{IsFalse}
use Rattle.std.specs.declared.cmp.Ordering.TheVariants.{Less}
use Rattle.std.specs.List.{AllByRecursion}
use Rattle.std.specs.Ordering.{int_cmp, ordering_then}
use Rattle.sf_algebra.specs.MatrixOperations.{part_terms, vector_part}
use Rattle.sf_algebra.specs.Rings.{Weights}
use Rattle.sf_algebra.specs.Terms.{Term}
use Rattle.sf_algebra.specs.Vectors.{Place, Vector}
use Rattle.sf_algebra.proofs.Basics.Filters.{cond_cases}
use Rattle.sf_algebra.proofs.GradedMatrices.PartTerms.{moved_back, IsBetween, part_terms-inside, AllByRecursion-part_terms}
use Rattle.sf_groebner.specs.Leads.{place_divides}
use Rattle.sf_groebner.specs.ReducedBases.{lead_divides, is_divided, IsMonic, HasDividedLead, IsReducedBy, AreApart, IsApart, row_cmp, IsSorted, IsReducedBasis}
use Rattle.sf_groebner.proofs.Basics.Items.{AllByRecursion-item, AllByRecursion-both, AllByRecursion-filter_map, list_any-item, list_any-from_item, IsItem-filter, IsItem-map}
use Rattle.sf_groebner.proofs.Basics.PlaceDivisors.{Decides-place_divides}
use Rattle.sf_groebner.proofs.PartsOfBases.PartLeads.{HasLeadBetween, lead_divides-part, lead_cmp-part}
use Rattle.sf_groebner.proofs.Uniqueness.Apart.{IsMonic-lead, IsReducedBy-each}

-- P has the parts in a range of those vectors of N that a test keeps: those whose lead is in the range
pub record IsPart (from to : ℕ) (keep : Vector → Bool) (N P : Vector → Type 0) : Type 0 where
  pub kept : (w : Vector) → N w → keep w ≡ true → (t : Term Place) (ts : List (Term Place)) → w.terms ≡ t ∷ ts
      → IsBetween from to t.at.position
  pub keeps : (w : Vector) → N w → (t : Term Place) (ts : List (Term Place)) → w.terms ≡ t ∷ ts
      → IsBetween from to t.at.position → keep w ≡ true
  pub inside : (w : Vector) → N w → keep w ≡ true → P (vector_part from to w)
  pub lifted : (v : Vector) → P v → (t : Term Place) (ts : List (Term Place)) → v.terms ≡ t ∷ ts
      → (w : Vector) × N w × (keep w ≡ true) × (vector_part from to w ≡ v)

module _ (from to : ℕ) (keep : Vector → Bool) (N P : Vector → Type 0) (cut : IsPart from to keep N P) where
  -- what is known of an element of a basis
  abbrev pub IsElement : Vector → Type 0
  IsElement w = N w × IsMonic w.terms

  pub HasLeadBetween-kept : (w : Vector) → IsElement w → keep w ≡ true → HasLeadBetween from to w.terms
  HasLeadBetween-kept w h e =
      let lead = IsMonic-lead w.terms h.1 in
      subst (HasLeadBetween from to) (sym lead.2) (cut.kept w h.0 e lead.0 lead.1 lead.2)

  part-monic : (ts : List (Term Place)) → HasLeadBetween from to ts → IsMonic ts → IsMonic (part_terms from to ts)
  part-monic [] h monic = absurd h
  part-monic (t ∷ ts) h monic = subst IsMonic (sym (part_terms-inside from to t ts h.0 h.1)) monic

  part-reduced : (v w : Vector) → HasLeadBetween from to w.terms → IsReducedBy (w ∷ []) v.terms
      → IsReducedBy (vector_part from to w ∷ []) (part_terms from to v.terms)
  part-reduced v w h free =
      AllByRecursion-part_terms (λ (t : Term Place). IsFalse (is_divided (w ∷ []) t.at))
      (λ (t : Term Place). IsFalse (is_divided (vector_part from to w ∷ []) t.at)) from to
      (λ t reached within e. ap (λ b. b || false) (lead_divides-part from to w.terms t h reached) ∙ e) v.terms free

  -- what no kept element divides has a part that none of their parts divides
  pub reduced_by-parts : (basis : List Vector) → AllByRecursion IsElement basis → (v : Vector)
      → AllByRecursion (λ w. keep w ≡ true → IsReducedBy (w ∷ []) v.terms) basis
      → IsReducedBy (map (vector_part from to) (filter keep basis)) (part_terms from to v.terms)
  reduced_by-parts basis each v free =
      IsReducedBy-each (map (vector_part from to) (filter keep basis)) (part_terms from to v.terms)
      (AllByRecursion-filter_map (λ w. IsElement w × (keep w ≡ true → IsReducedBy (w ∷ []) v.terms)) (λ w. IsReducedBy (w ∷ []) (part_terms from to v.terms)) keep (vector_part from to)
      (λ w k h. part-reduced v w (HasLeadBetween-kept w h.0 k) (h.1 k)) basis
      (AllByRecursion-both IsElement _ (λ w. IsElement w × (keep w ≡ true → IsReducedBy (w ∷ []) v.terms)) (λ w a b. (a, b)) basis each free))

  part-apart : (basis : List Vector) → AllByRecursion IsElement basis → IsApart basis
      → IsApart (map (vector_part from to) (filter keep basis))
  part-apart [] each apart = tt
  part-apart (v ∷ vs) each apart =
      let rest = part-apart vs each.1 apart.1 in
      cond_cases (keep v) (v ∷ filter keep vs) (filter keep vs) (λ l. IsApart (map (vector_part from to) l))
      (λ e.
      let here = HasLeadBetween-kept v each.0 e in (
        AllByRecursion-filter_map (λ w. IsElement w × AreApart v w) (AreApart (vector_part from to v)) keep
            (vector_part from to)
            (λ w k h. (part-reduced v w (HasLeadBetween-kept w h.0 k) h.1.0, part-reduced w v here h.1.1)) vs
            (AllByRecursion-both IsElement (AreApart v) (λ w. IsElement w × AreApart v w) (λ w a b. (a, b)) vs each.1 apart.0),
        rest,
      ))
      (λ e. rest)

  part-sorted : (weights : Weights) (basis : List Vector) → AllByRecursion IsElement basis → IsSorted weights basis
      → IsSorted weights (map (vector_part from to) (filter keep basis))
  part-sorted weights [] each sorted = tt
  part-sorted weights (v ∷ vs) each sorted =
      let rest = part-sorted weights vs each.1 sorted.1 in
      cond_cases (keep v) (v ∷ filter keep vs) (filter keep vs) (λ l. IsSorted weights (map (vector_part from to) l))
      (λ e.
      let here = HasLeadBetween-kept v each.0 e in (
        AllByRecursion-filter_map (λ w. IsElement w × (row_cmp weights v w ≡ Less))
            (λ w. row_cmp weights (vector_part from to v) w ≡ Less) keep (vector_part from to)
            (λ w k h. ap (ordering_then (int_cmp v.degree w.degree)) (lead_cmp-part from to weights w.terms v.terms (HasLeadBetween-kept w h.0 k) here) ∙ h.1) vs
            (AllByRecursion-both IsElement (λ w. row_cmp weights v w ≡ Less) (λ w. IsElement w × (row_cmp weights v w ≡ Less)) (λ w a b. (a, b)) vs each.1 sorted.0),
        rest,
      ))
      (λ e. rest)

  -- a lead that divides the lead of a kept vector is that of a kept one
  part-divided : (basis : List Vector) → AllByRecursion IsElement basis → (t : Term Place)
      → IsBetween from to t.at.position → is_divided basis t.at ≡ true
      → is_divided (map (vector_part from to) (filter keep basis)) (moved_back from t).at ≡ true
  part-divided basis each t inside divided =
      let found = list_any-item (λ (v : Vector). lead_divides v.terms t.at) basis divided in
      let v = found.0 in
      let h = AllByRecursion-item IsElement basis v each found.1 in
      let lead = IsMonic-lead v.terms h.1 in
      let same : place_divides lead.0.at t.at ≡ true = sym (ap (λ ts. lead_divides ts t.at) lead.2) ∙ found.2 in
      let position = ((Decides-place_divides lead.0.at t.at).0 same).0 in
      let between : IsBetween from to lead.0.at.position = subst (IsBetween from to) (sym position) inside in
      let k = cut.keeps v h.0 lead.0 lead.1 lead.2 between in
      list_any-from_item (λ (w : Vector). lead_divides w.terms (moved_back from t).at)
      (map (vector_part from to) (filter keep basis)) (vector_part from to v)
      (IsItem-map (vector_part from to) (filter keep basis) v (IsItem-filter keep basis v found.1 k))
      (lead_divides-part from to v.terms t (HasLeadBetween-kept v h k) inside.0 ∙ found.2)

  part-complete : (basis : List Vector) → AllByRecursion IsElement basis
      → ((w : Vector) → N w → HasDividedLead basis w.terms) → (v : Vector) → P v
      → HasDividedLead (map (vector_part from to) (filter keep basis)) v.terms
  part-complete basis each complete v h = by_terms v.terms refl
    where
      lead_of_part : (w : Vector) → N w → keep w ≡ true → (us : List (Term Place)) → w.terms ≡ us
          → (t : Term Place) (ts : List (Term Place)) → part_terms from to us ≡ t ∷ ts
          → is_divided (map (vector_part from to) (filter keep basis)) t.at ≡ true
      lead_of_part w hw k [] e t ts p = cc
      lead_of_part w hw k (u ∷ us) e t ts p =
          let between = cut.kept w hw k u us e in
          let heads : moved_back from u ∷ part_terms from to us ≡ t ∷ ts =
          sym (part_terms-inside from to u us between.0 between.1) ∙ p in
          let head : moved_back from u ≡ t = cc in
          subst (λ (x : Term Place). is_divided (map (vector_part from to) (filter keep basis)) x.at ≡ true) head
          (part-divided basis each u between (subst (HasDividedLead basis) e (complete w hw)))

      by_terms : (ts : List (Term Place)) → v.terms ≡ ts
          → HasDividedLead (map (vector_part from to) (filter keep basis)) ts
      by_terms [] e = tt
      by_terms (t ∷ ts) e =
          let lift = cut.lifted v h t ts e in
          lead_of_part lift.0 lift.1 lift.2 lift.0.terms refl t ts (ap (λ x. x.terms) lift.3 ∙ e)

  pub elements : (weights : Weights) (basis : List Vector) → IsReducedBasis weights N basis
      → AllByRecursion IsElement basis
  elements weights basis h =
      AllByRecursion-both N (λ (w : Vector). IsMonic w.terms) IsElement (λ w a b. (a, b)) basis h.inside h.monic

  -- the parts of the kept elements
  pub reduced_part : (weights : Weights) (basis : List Vector) → IsReducedBasis weights N basis
      → IsReducedBasis weights P (map (vector_part from to) (filter keep basis))
  reduced_part weights basis h =
      let each = elements weights basis h in
      record {
        inside = AllByRecursion-filter_map N P keep (vector_part from to) (λ w e k. cut.inside w k e) basis h.inside;
        monic =
            AllByRecursion-filter_map IsElement (λ (w : Vector). IsMonic w.terms) keep (vector_part from to)
            (λ w e k. part-monic w.terms (HasLeadBetween-kept w k e) k.1) basis each;
        complete = part-complete basis each h.complete;
        apart = part-apart basis each h.apart;
        sorted = part-sorted weights basis each h.sorted;
      }
