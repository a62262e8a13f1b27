-- A module has at most one reduced basis.
use Rattle.std.proofs.Common.{◌≡◌, Bool, true, false, List, [], ◌∷◌, refl, sym, ◌∙◌, ap, subst, ℤ}
use Rattle.std.specs.List.{AllByRecursion}
use Rattle.sf_algebra.specs.Multiples.{negative}
use Rattle.sf_algebra.specs.Rings.{Ring, IsRing}
use Rattle.sf_algebra.specs.Terms.{Term}
use Rattle.sf_algebra.specs.VectorOperations.{row_sum, vector_difference}
use Rattle.sf_algebra.specs.Vectors.{Place, Vector, place_cmp, place_degree, IsCanonicalRow}
use Rattle.sf_algebra.proofs.Basics.Lists.{AllByRecursion-weaken}
use Rattle.sf_algebra.proofs.Multiplying.Keys.{place_keys}
use Rattle.sf_algebra.proofs.Terms.Coefficients.{IsCanonical-tail}
use Rattle.sf_algebra.proofs.Terms.Negatives.{EachPlace-negative}
use Rattle.sf_algebra.proofs.Terms.Normal.{EachPlace, EachPlace-add}
use Rattle.sf_groebner.specs.Leads.{place_divides}
use Rattle.sf_groebner.specs.ReducedBases.{lead_divides, is_divided, HasDividedLead, IsReducedBy, IsReducedBasis}
use Rattle.sf_groebner.proofs.Basics.Items.{IsItem, AllByRecursion-item, list_any-item}
use Rattle.sf_groebner.proofs.Basics.PlaceDivisors.{Decides-place_divides, PlaceDivides-trans, PlaceDivides-antisymm}
use Rattle.sf_groebner.proofs.Spanning.Modules.{IsModuleLike}
use Rattle.sf_groebner.proofs.Uniqueness.Apart.{IsMonic-lead, lead_divides-tail, IsApart-lead, IsApart-tail}
use Rattle.sf_groebner.proofs.Uniqueness.Differences.{add-negative_first, add-negative_same}
use Rattle.sf_groebner.proofs.Uniqueness.Sorted.{same_sorted}

-- an item of a basis with its lead
pub record Element (ring : Ring) (degrees : List ℤ) (N : Vector → Type 0) (basis : List Vector)
    (v : Vector) : Type 0 where
  pub item : IsItem v basis
  pub inside : N v
  pub lead : Term Place
  pub tail : List (Term Place)
  pub terms : v.terms ≡ lead ∷ tail
  pub one : lead.coefficient ≡ 1
  pub canonical : IsCanonicalRow ring (lead ∷ tail)
  pub degree : v.degree ≡ place_degree ring.weights degrees lead.at

module _ (ring : Ring) (positive : IsRing ring) (degrees : List ℤ) (N : Vector → Type 0)
    (module_like : IsModuleLike ring degrees N) where
  pub element : (basis : List Vector) → IsReducedBasis ring.weights N basis → (v : Vector) → IsItem v basis
      → Element ring degrees N basis v
  element basis h v item =
      let inside = AllByRecursion-item N basis v h.inside item in
      let lead = IsMonic-lead v.terms (AllByRecursion-item _ basis v h.monic item) in
      let vector = module_like.vectors v inside in
      record {
        item = item;
        inside = inside;
        lead = lead.0;
        tail = lead.1;
        terms = lead.2;
        one = lead.3;
        canonical = subst (IsCanonicalRow ring) lead.2 vector.canonical;
        degree = (subst (AllByRecursion _) lead.2 vector.homogeneous).0.1;
      }

  -- no lead of the basis divides a term behind the lead of an element
  pub tail-reduced : (basis : List Vector) → IsReducedBasis ring.weights N basis → (v : Vector)
      → (e : Element ring degrees N basis v) → IsReducedBy basis e.tail
  tail-reduced basis h v e =
      IsApart-tail basis v e.lead e.tail e.terms h.apart e.item
      (AllByRecursion-weaken _ _ (λ u free. ap (λ ts. lead_divides ts u.at) e.terms ∙ free) e.tail (lead_divides-tail ring.weights positive.weights e.lead e.tail e.canonical.descending))

  -- an element of the basis whose lead divides the first term of a vector of the module
  pub divisor : (basis : List Vector) → IsReducedBasis ring.weights N basis → (v : Vector) → N v
      → (t : Term Place) (us : List (Term Place)) → v.terms ≡ t ∷ us
      → (w : Vector) × (e : Element ring degrees N basis w) × (place_divides e.lead.at t.at ≡ true)
  divisor basis h v inside t us terms =
      let found =
      list_any-item (λ (w : Vector). lead_divides w.terms t.at) basis
      (subst (HasDividedLead basis) terms (h.complete v inside)) in
      let e = element basis h found.0 found.1 in
      (found.0, e, sym (ap (λ ts. lead_divides ts t.at) e.terms) ∙ found.2)

  -- vectors of the module none of whose terms behind a common lead is divided by all bases are equal
  same_tails : (u v : Vector) → N u → N v → u.degree ≡ v.degree → (t : Term Place) (us vs : List (Term Place))
      → u.terms ≡ t ∷ us → v.terms ≡ t ∷ vs
      → (first second : List Vector) → IsReducedBasis ring.weights N first → IsReducedBasis ring.weights N second
      → IsReducedBy first us → IsReducedBy second vs → us ≡ vs
  same_tails u v hu hv degree t us vs eu ev first second hf hs free_us free_vs =
      let cu : IsCanonicalRow ring (t ∷ us) = subst (IsCanonicalRow ring) eu (module_like.vectors u hu).canonical in
      let cv : IsCanonicalRow ring (t ∷ vs) = subst (IsCanonicalRow ring) ev (module_like.vectors v hv).canonical in
      let terms : row_sum ring u.terms (negative ring.modulus v.terms) ≡ row_sum ring us (negative ring.modulus vs) =
      (λ i. row_sum ring (eu i) (negative ring.modulus (ev i)))
      ∙ add-negative_first (place_keys ring.weights) ring.modulus positive.modulus t us vs cu cv in
      let inside = module_like.differences u v hu hv degree in
      let free : EachPlace NotBoth (row_sum ring us (negative ring.modulus vs)) =
      EachPlace-add NotBoth (place_cmp ring.weights) ring.modulus us (negative ring.modulus vs)
      (AllByRecursion-weaken _ _ (λ x h a b. clash (is_divided first x.at) a h) us free_us)
      (EachPlace-negative NotBoth ring.modulus vs (AllByRecursion-weaken _ _ (λ x h a b. clash (is_divided second x.at) b h) vs free_vs)) in
      let none = no_lead (row_sum ring us (negative ring.modulus vs)) free
      (subst (HasDividedLead first) terms (hf.complete (vector_difference ring u v) inside))
      (subst (HasDividedLead second) terms (hs.complete (vector_difference ring u v) inside)) in
      add-negative_same (place_keys ring.weights) ring.modulus positive.modulus us vs
      (IsCanonical-tail (place_cmp ring.weights) ring.modulus t us cu)
      (IsCanonical-tail (place_cmp ring.weights) ring.modulus t vs cv) none
    where
      NotBoth : Place → Type 0
      NotBoth k = is_divided first k ≡ true → is_divided second k ≡ true → ⊥

      clash : (b : Bool) → b ≡ true → b ≡ false → ⊥
      clash b h k = cc

      no_lead : (ts : List (Term Place)) → EachPlace NotBoth ts → HasDividedLead first ts → HasDividedLead second ts
          → ts ≡ []
      no_lead [] free a b = refl
      no_lead (t ∷ ts) free a b = absurd (free.0 a b)

  module _ (first second : List Vector) (hf : IsReducedBasis ring.weights N first)
      (hs : IsReducedBasis ring.weights N second) where
    -- the two bases have one lead at an element of the first
    same_lead : (v : Vector) (e : Element ring degrees N first v)
        → (w : Vector) × (f : Element ring degrees N second w) × (e.lead ≡ f.lead)
    same_lead v e =
        let there = divisor second hs v e.inside e.lead e.tail e.terms in
        let f = there.1 in
        let back = divisor first hf there.0 f.inside f.lead f.tail f.terms in
        let g = back.1 in
        let near = (Decides-place_divides f.lead.at e.lead.at).0 there.2 in
        let far = (Decides-place_divides g.lead.at f.lead.at).0 back.2 in
        let through : lead_divides back.0.terms e.lead.at ≡ true =
        ap (λ ts. lead_divides ts e.lead.at) g.terms
        ∙ (Decides-place_divides g.lead.at e.lead.at).1 (PlaceDivides-trans g.lead.at f.lead.at e.lead.at far near) in
        let same : back.0 ≡ v = IsApart-lead first v back.0 e.lead e.tail e.terms hf.apart e.item g.item through in
        let leads : g.lead ∷ g.tail ≡ e.lead ∷ e.tail = sym g.terms ∙ ap (λ x. x.terms) same ∙ e.terms in
        let lead : g.lead ≡ e.lead = cc in
        let place : e.lead.at ≡ f.lead.at =
        PlaceDivides-antisymm e.lead.at f.lead.at
        ((Decides-place_divides e.lead.at f.lead.at).0 (ap (λ x. place_divides x.at f.lead.at) (sym lead) ∙ back.2)) near in
        (there.0, f, (λ i. record { at = place i; coefficient = (e.one ∙ sym f.one) i }))

    included : (v : Vector) → IsItem v first → IsItem v second
    included v item =
        let e = element first hf v item in
        let other = same_lead v e in
        let w = other.0 in
        let f = other.1 in
        let degree : v.degree ≡ w.degree =
        e.degree ∙ ap (λ (t : Term Place). place_degree ring.weights degrees t.at) other.2 ∙ sym f.degree in
        let terms : w.terms ≡ e.lead ∷ f.tail = f.terms ∙ ap (λ t. t ∷ f.tail) (sym other.2) in
        let tails = same_tails v w e.inside f.inside degree e.lead e.tail f.tail e.terms terms first second hf hs (tail-reduced first hf v e) (tail-reduced second hs w f) in
        let same : v ≡ w =
        λ i. record { degree = degree i; terms = (e.terms ∙ ap (λ us. e.lead ∷ us) tails ∙ sym terms) i } in
        subst (λ x. IsItem x second) (sym same) f.item

  pub unique_reduced : (first second : List Vector) → IsReducedBasis ring.weights N first
      → IsReducedBasis ring.weights N second → first ≡ second
  unique_reduced first second h k =
      same_sorted ring.weights first second h.sorted k.sorted (included first second h k) (included second first k h)
