-- A module that has the outer parts of its vectors has a reduced basis over the first n variables. For where a term of
-- an element has an outer part, the part of the element there is in the module, and what divides its lead divides the
-- term from which this comes: no later term, as elements are apart; and the lead only where it has no outer part.
use Rattle.std.proofs.Common.{◌≡◌, ◌≢◌, inl, inr, ℕ, Bool, true, false, List, [], ◌∷◌, map, filter, refl, sym, ◌∙◌, ap, subst}
use Rattle.std.proofs.lemmas.Bool.{cases_Bool}
use Rattle.std.specs.List.{AllByRecursion}
use Rattle.sf_algebra.specs.Monomials.{Monomial, one}
use Rattle.sf_algebra.specs.Rings.{Ring, IsPositive, Weights}
use Rattle.sf_algebra.specs.Terms.{Term}
use Rattle.sf_algebra.specs.Vectors.{Place, Vector, IsCanonicalRow}
use Rattle.sf_algebra.proofs.Basics.Filters.{AllByRecursion-filter_keeps}
use Rattle.sf_algebra.proofs.Basics.Lists.{AllByRecursion-weaken}
use Rattle.sf_algebra.proofs.Monomials.MonomialEquality.{same_exponents, Decides-same_exponents}
use Rattle.sf_groebner.specs.Leads.{PlaceDivides}
use Rattle.sf_groebner.specs.ReducedBases.{lead_divides, HasDividedLead, IsReducedBy, IsReducedBasis}
use Rattle.sf_groebner.proofs.Basics.Items.{IsItem, IsItem-filter, AllByRecursion-from_items, AllByRecursion-item, list_any-item}
use Rattle.sf_groebner.proofs.Basics.PlaceDivisors.{Decides-place_divides, PlaceDivides-antisymm, PlaceDivides-place_product}
use Rattle.sf_groebner.proofs.Constructions.LeadDivisors.{lead_divides-trans}
use Rattle.sf_groebner.proofs.Uniqueness.Apart.{IsMonic-lead, IsApart-lead, IsApart-tail, IsReducedBy-item, lead_divides-tail}
use Rattle.sf_variables.specs.Variables.{AreInVariables, IsRowInVariables, IsVectorInVariables}
use Rattle.sf_variables.proofs.OuterParts.Splitting.{outer, IsInVariables-outer, outer-inner_same}
use Rattle.sf_variables.proofs.OuterParts.Vectors.{inner_place, inner_term, is_at_outer, outer_part, outer_terms, AllByRecursion-at_outer, place_product-inner}

-- the module has the outer parts of its vectors
abbrev pub HasOuterParts : Weights → ℕ → (Vector → Type 0) → Type 0
HasOuterParts weights n N = (b : Monomial) (v : Vector) → N v → N (outer_part weights n b v)

clash : (b : Bool) → b ≡ true → b ≡ false → ⊥
clash b e f = cc

module _ (n : ℕ) where
  -- the lead of an outer part comes from a term with this outer part
  record Source (b : Monomial) (ts : List (Term Place)) : Type 0 where
    term : Term Place
    later : List (Term Place)
    parts : outer_terms n b ts ≡ inner_term n term ∷ later
    item : IsItem term ts
    at_outer : outer n term.at.monomial ≡ b

  source : (b : Monomial) (ts : List (Term Place)) (u : Term Place) → IsItem u ts → outer n u.at.monomial ≡ b
      → Source b ts
  source b ts u item e =
      first (filter (is_at_outer n b) ts) refl
      (IsItem-filter (is_at_outer n b) ts u item ((Decides-same_exponents (outer n u.at.monomial) b).1 e))
      (AllByRecursion-filter_keeps (λ (x : Term Place). IsItem x ts) (is_at_outer n b) ts
      (AllByRecursion-from_items (λ (x : Term Place). IsItem x ts) ts (λ x i. i)))
      (AllByRecursion-at_outer n b ts)
    where
      first : (xs : List (Term Place)) → filter (is_at_outer n b) ts ≡ xs → IsItem u xs
          → AllByRecursion (λ (x : Term Place). IsItem x ts) xs
          → AllByRecursion (λ (x : Term Place). outer n x.at.monomial ≡ b) xs → Source b ts
      first [] same i items outers = absurd i
      first (x ∷ xs) same i items outers = record {
        term = x;
        later = map (inner_term n) xs;
        parts = ap (map (inner_term n)) same;
        item = items.0;
        at_outer = outers.0;
      }

  PlaceDivides-inner : (k : Place) → PlaceDivides (inner_place n k) k
  PlaceDivides-inner k =
      subst (PlaceDivides (inner_place n k)) (place_product-inner n (outer n k.monomial) k refl)
      (PlaceDivides-place_product (outer n k.monomial) (inner_place n k))

  module _ (weights : Weights) (N : Vector → Type 0) (basis : List Vector) (h : IsReducedBasis weights N basis) where
    -- an element of the basis whose lead divides the inner part of such a term
    record Divisor (k : Place) : Type 0 where
      vector : Vector
      item : IsItem vector basis
      divides_inner : lead_divides vector.terms (inner_place n k) ≡ true
      divides_whole : lead_divides vector.terms k ≡ true

    divisor : (b : Monomial) (v : Vector) → N (outer_part weights n b v) → (s : Source b v.terms) → Divisor s.term.at
    divisor b v inside s =
        let found =
        list_any-item (λ (w : Vector). lead_divides w.terms (inner_place n s.term.at)) basis
        (subst (HasDividedLead basis) s.parts (h.complete (outer_part weights n b v) inside)) in
        record {
          vector = found.0;
          item = found.1;
          divides_inner = found.2;
          divides_whole = lead_divides-trans found.0.terms (inner_place n s.term.at) s.term.at found.2
              (PlaceDivides-inner s.term.at);
        }

    -- what is reduced by the basis, and whose outer parts but the first are in the module, has no other parts
    pub reduced_in_variables : (c : Vector) → IsReducedBy basis c.terms
        → ((b : Monomial) → b ≢ one → N (outer_part weights n b c))
        → IsVectorInVariables n c
    reduced_in_variables c free parts =
        AllByRecursion-from_items _ c.terms (λ u item. IsInVariables-outer n u.at.monomial (inside u item))
      where
        inside : (u : Term Place) → IsItem u c.terms → outer n u.at.monomial ≡ one
        inside u item =
            elim (cases_Bool (same_exponents (outer n u.at.monomial) one)) [
              | inl same ↦ (Decides-same_exponents (outer n u.at.monomial) one).0 same
              | inr other ↦
                  let s = source (outer n u.at.monomial) c.terms u item refl in
                  let d = divisor (outer n u.at.monomial) c
                  (parts (outer n u.at.monomial)
                  (λ e. clash _ ((Decides-same_exponents (outer n u.at.monomial) one).1 e) other)) s in
                  absurd (clash _ d.divides_whole
                  (AllByRecursion-item _ c.terms s.term (IsReducedBy-item basis d.vector c.terms free d.item) s.item))
            ]

  -- a lead that divides its own inner part has no outer one
  lead_outer : (t : Term Place) (us : List (Term Place)) → lead_divides (t ∷ us) (inner_place n t.at) ≡ true
      → outer n t.at.monomial ≡ one
  lead_outer t us e =
      outer-inner_same n t.at.monomial
      (ap (λ (k : Place). k.monomial) (PlaceDivides-antisymm (inner_place n t.at) t.at (PlaceDivides-inner t.at)
      ((Decides-place_divides t.at (inner_place n t.at)).0 e)))

  -- the reduced basis of a module of vectors that has their outer parts
  pub basis_in_variables : (ring : Ring) → IsPositive ring.weights → (N : Vector → Type 0)
      → ((v : Vector) → N v → IsCanonicalRow ring v.terms) → HasOuterParts ring.weights n N
      → (basis : List Vector) → IsReducedBasis ring.weights N basis → AreInVariables n basis
  basis_in_variables ring positive N canonical parts basis h =
      AllByRecursion-from_items _ basis (λ v item.
      let lead = IsMonic-lead v.terms (AllByRecursion-item _ basis v h.monic item) in
      let inside = AllByRecursion-item N basis v h.inside item in
      subst (IsRowInVariables n) (sym lead.2)
      (AllByRecursion-from_items _ (lead.0 ∷ lead.1)
      (λ u i. IsInVariables-outer n u.at.monomial (none v item inside lead.0 lead.1 lead.2 u i))))
    where
      none : (v : Vector) → IsItem v basis → N v → (t : Term Place) (us : List (Term Place)) → v.terms ≡ t ∷ us
          → (u : Term Place) → IsItem u (t ∷ us) → outer n u.at.monomial ≡ one
      none v item inside t us e u i =
          let b = outer n u.at.monomial in
          let s : Source b v.terms = source b v.terms u (subst (IsItem u) (sym e) i) refl in
          let d : Divisor ring.weights N basis h s.term.at = divisor ring.weights N basis h b v (parts b v inside) s in
          let falling : IsCanonicalRow ring (t ∷ us) = subst (IsCanonicalRow ring) e (canonical v inside) in
          let free : IsReducedBy basis us =
          IsApart-tail basis v t us e h.apart item
          (AllByRecursion-weaken _ _ (λ x no. ap (λ ts. lead_divides ts x.at) e ∙ no) us
          (lead_divides-tail ring.weights positive t us falling.descending)) in
          from_source v item t us e free b s d (subst (IsItem s.term) e s.item)
        where
          from_source : (v : Vector) → IsItem v basis → (t : Term Place) (us : List (Term Place)) → v.terms ≡ t ∷ us
              → IsReducedBy basis us → (b : Monomial) (s : Source b v.terms)
              → Divisor ring.weights N basis h s.term.at → IsItem s.term (t ∷ us) → b ≡ one
          from_source v item t us e free b s d (inl first) =
              let same : d.vector ≡ v =
              IsApart-lead basis v d.vector t us e h.apart item d.item
              (ap (λ (x : Term Place). lead_divides d.vector.terms x.at) (sym first) ∙ d.divides_whole) in
              let own : lead_divides (t ∷ us) (inner_place n t.at) ≡ true =
              (λ i. lead_divides (sym (ap (λ (x : Vector). x.terms) same ∙ e) i) (inner_place n (sym first i).at))
              ∙ d.divides_inner in
              sym s.at_outer ∙ ap (λ (x : Term Place). outer n x.at.monomial) first
              ∙ lead_outer t us own
          from_source v item t us e free b s d (inr behind) =
              absurd (clash _ d.divides_whole
              (AllByRecursion-item _ us s.term (IsReducedBy-item basis d.vector us free d.item) behind))
