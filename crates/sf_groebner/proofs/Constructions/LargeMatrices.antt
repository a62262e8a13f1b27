-- Needed leads show that a matrix is large, and a large matrix over a field has them. (This project's own.)
use Rattle.std.proofs.Common.{◌≡◌, ◌⊎◌, inl, inr, true, false, ◌||◌, ℕ, ◌<◌, ◌≤◌, List, [], ◌∷◌, length, refl, sym, ◌∙◌, ap, subst, arith}
use Rattle.std.proofs.lemmas.Bool.{cases_lt}
use Rattle.std.proofs.lemmas.List.{length-map}
use Rattle.std.specs.List.{AllByRecursion}
use Rattle.sf_algebra.specs.Bounds.{GREATEST_SIZE, HasSmallSize}
use Rattle.sf_algebra.specs.Matrices.{Matrix, IsMatrix}
use Rattle.sf_algebra.specs.Monomials.{monomial_degree}
use Rattle.sf_algebra.specs.Rings.{Weights, IsOverField}
use Rattle.sf_algebra.specs.Terms.{Term}
use Rattle.sf_algebra.specs.Vectors.{Place, Vector}
use Rattle.sf_algebra.proofs.Basics.Lists.{AllByRecursion-weaken}
use Rattle.sf_algebra.proofs.GradedMatrices.Stacks.{AllByRecursion-map}
use Rattle.sf_algebra.proofs.Monomials.Weights.{field_ring}
use Rattle.sf_groebner.specs.Criterion.{lead_place}
use Rattle.sf_groebner.specs.Leads.{place_divides}
use Rattle.sf_groebner.specs.NeededLeads.{AreDistinct, HasElementAt, HasLeadAt, IsNeeded, IsNeededForGraph}
use Rattle.sf_groebner.specs.ReducedBases.{AreApart, IsApart, IsGraphBasis, IsMonic, IsReducedBasis, is_divided}
use Rattle.sf_groebner.specs.Small.{HasLeadUpTo, IsLarge}
use Rattle.sf_groebner.specs.Spans.{IsGraphVector, graph_degrees}
use Rattle.sf_groebner.proofs.Basics.Items.{AllByRecursion-both, AllByRecursion-from_items, AllByRecursion-item, IsItem}
use Rattle.sf_groebner.proofs.Constructions.Completions.{each_or}
use Rattle.sf_groebner.proofs.Constructions.LeadDivisors.{lead_divides-own, lead_places}
use Rattle.sf_groebner.proofs.Constructions.MatrixBases.{graph_basis}
use Rattle.sf_groebner.proofs.PairLoops.NeededLeads.{HasElementAt-item, IsItem-HasElementAt, item-HasElementAt, no_more}
use Rattle.sf_groebner.proofs.Spanning.Spans.{graph_module}
use Rattle.sf_groebner.proofs.Uniqueness.UniqueBases.{unique_reduced}

-- needed leads are no more than the elements of a reduced basis
pub needed_no_more : (weights : Weights) (N : Vector → Type 0) (ks : List Place) → AreDistinct ks
    → AllByRecursion (IsNeeded weights N) ks → (basis : List Vector) → IsReducedBasis weights N basis
    → length ks ≤ length basis
needed_no_more weights N ks distinct needed basis h =
    subst (λ n. length ks ≤ n) (length-map basis (λ (v : Vector). lead_place v.terms))
    (no_more ks (lead_places basis) distinct
    (AllByRecursion-weaken _ _ (λ k need. IsItem-HasElementAt k basis (need basis h)) ks needed))

low_lead : (weights : Weights) (limit : ℕ) (k : Place) (ts : List (Term Place)) → HasLeadAt k ts
    → HasLeadUpTo weights limit ts → monomial_degree weights k.monomial ≤ limit
low_lead weights limit k [] lead low = absurd lead
low_lead weights limit k (t ∷ ts) lead low = subst (λ (j : Place). monomial_degree weights j.monomial ≤ limit) lead low

pub large_above : (limit : ℕ) (m : Matrix) (k : Place) → IsNeededForGraph m k
    → limit < monomial_degree m.ring.weights k.monomial → IsLarge limit m
large_above limit m k needed above basis small =
    let found = item-HasElementAt k basis (needed basis small.reduced) in
    let v : Vector = found.0 in
    let low = low_lead m.ring.weights limit k v.terms found.2
    (AllByRecursion-item (λ (w : Vector). HasLeadUpTo m.ring.weights limit w.terms) basis v small.within.low found.1) in
    clash (monomial_degree m.ring.weights k.monomial) limit low above
  where
    clash : (a b : ℕ) → a ≤ b → b < a → ⊥
    clash a b h l = omega arith

pub large_beyond : (limit : ℕ) (m : Matrix) (ks : List Place) → AreDistinct ks
    → AllByRecursion (IsNeededForGraph m) ks → GREATEST_SIZE < length ks → IsLarge limit m
large_beyond limit m ks distinct needed beyond basis small =
    let fewer = needed_no_more m.ring.weights (IsGraphVector m) ks distinct needed basis small.reduced in
    clash (length ks) (length basis) fewer beyond small.within.few
  where
    clash : (a b : ℕ) → a ≤ b → GREATEST_SIZE < a → b ≤ GREATEST_SIZE → ⊥
    clash a b h l k = omega arith

-- vectors that are apart have different leads
leads_apart : (v w : Vector) → IsMonic v.terms → IsMonic w.terms → AreApart v w
    → lead_place v.terms ≡ lead_place w.terms → ⊥
leads_apart v w hv hw apart = by_terms v.terms w.terms hv hw apart.0
  where
    no : (t u : Place) → (place_divides u t || false) ≡ false → place_divides u u ≡ true → t ≡ u → ⊥
    no t u free own same = let e = ap (λ k. place_divides u k) same ∙ own in let f = sym (ap (λ b. b || false) e) ∙ free in cc

    by_terms : (ts us : List (Term Place)) → IsMonic ts → IsMonic us
        → AllByRecursion (λ (t : Term Place). is_divided (record { degree = w.degree; terms = us } ∷ []) t.at ≡ false) ts
        → lead_place ts ≡ lead_place us → ⊥
    by_terms [] us ht hu free same = absurd ht
    by_terms (t ∷ ts) [] ht hu free same = absurd hu
    by_terms (t ∷ ts) (u ∷ us) ht hu free same = no t.at u.at free.0 (lead_divides-own (u ∷ us) hu) same

pub AreDistinct-lead_places : (vs : List Vector) → AllByRecursion (λ (v : Vector). IsMonic v.terms) vs → IsApart vs
    → AreDistinct (lead_places vs)
AreDistinct-lead_places [] monic apart = tt
AreDistinct-lead_places (v ∷ vs) monic apart = (
  AllByRecursion-map (λ k. lead_place v.terms ≡ k → ⊥) (λ (w : Vector). lead_place w.terms) vs
      (AllByRecursion-both (AreApart v) (λ (w : Vector). IsMonic w.terms) (λ w. lead_place v.terms ≡ lead_place w.terms → ⊥) (λ w a b. leads_apart v w monic.0 b a) vs apart.0 monic.1),
  AreDistinct-lead_places vs monic.1 apart.1,
)

HasLeadAt-lead_place : (ts : List (Term Place)) → IsMonic ts → HasLeadAt (lead_place ts) ts
HasLeadAt-lead_place [] h = absurd h
HasLeadAt-lead_place (t ∷ ts) h = refl

low_or_above : (weights : Weights) (limit : ℕ) (ts : List (Term Place)) → IsMonic ts
    → HasLeadUpTo weights limit ts ⊎ (limit < monomial_degree weights (lead_place ts).monomial)
low_or_above weights limit [] h = absurd h
low_or_above weights limit (t ∷ ts) h = elim (cases_lt limit (monomial_degree weights t.at.monomial)) [
  | inl above ↦ inr above
  | inr low ↦ inl low
]

-- a large matrix of a small size has a needed lead above the limit, or too many needed leads
module _ (limit : ℕ) (m : Matrix) (prime : IsOverField m.ring) (matrix : IsMatrix m) where
  abbrev HasHighLead : Type 0
  HasHighLead =
      (k : Place) × IsNeededForGraph m k × (limit < monomial_degree m.ring.weights k.monomial)

  abbrev HasManyLeads : Type 0
  HasManyLeads =
      (ks : List Place) × AreDistinct ks × AllByRecursion (IsNeededForGraph m) ks × (GREATEST_SIZE < length ks)

  module _ (basis : List Vector) (h : IsGraphBasis m basis) where
    -- the leads of the reduced basis are needed
    lead_of_basis : (v : Vector) → IsItem v basis → IsNeededForGraph m (lead_place v.terms)
    lead_of_basis v item other k =
        let same : basis ≡ other =
        unique_reduced m.ring (field_ring prime) (graph_degrees m) (IsGraphVector m) (graph_module m (field_ring prime)) basis other h k in
        subst (HasElementAt (lead_place v.terms)) same
        (HasElementAt-item (lead_place v.terms) basis v item (HasLeadAt-lead_place v.terms (AllByRecursion-item _ basis v h.monic item)))

    lead_low : (v : Vector) → IsItem v basis → HasLeadUpTo m.ring.weights limit v.terms ⊎ HasHighLead
    lead_low v item =
        elim (low_or_above m.ring.weights limit v.terms (AllByRecursion-item _ basis v h.monic item)) [
          | inl low ↦ inl low
          | inr above ↦ inr (lead_place v.terms, lead_of_basis v item, above)
        ]

    all_low : AllByRecursion (λ (v : Vector). HasLeadUpTo m.ring.weights limit v.terms) basis ⊎ HasHighLead
    all_low =
        each_or (λ (v : Vector). IsItem v basis) (λ (v : Vector). HasLeadUpTo m.ring.weights limit v.terms) HasHighLead
        lead_low basis (AllByRecursion-from_items (λ (v : Vector). IsItem v basis) basis (λ v item. item))

    reason_of : HasSmallSize m → IsLarge limit m → HasHighLead ⊎ HasManyLeads
    reason_of size large =
        elim (cases_lt GREATEST_SIZE (length basis)) [
          | inl many ↦
              inr (
                lead_places basis,
                AreDistinct-lead_places basis h.monic h.apart,
                AllByRecursion-map (IsNeededForGraph m) (λ (v : Vector). lead_place v.terms) basis (AllByRecursion-from_items (λ (v : Vector). IsNeededForGraph m (lead_place v.terms)) basis lead_of_basis),
                subst (λ n. GREATEST_SIZE < n) (sym (length-map basis (λ (v : Vector). lead_place v.terms))) many,
              )
          | inr few ↦ elim all_low [
            | inl low ↦ absurd (large basis (record { size = size; reduced = h; within = record { few = few; low = low } }))
            | inr found ↦ inl found
          ]
        ]

  pub large_reason : HasSmallSize m → IsLarge limit m → HasHighLead ⊎ HasManyLeads
  large_reason = reason_of (graph_basis m prime matrix).0 (graph_basis m prime matrix).1
