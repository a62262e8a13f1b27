-- Where nothing waits any more, the rows with their tails reduced, in their order, are the reduced basis.
use Rattle.std.proofs.Common.{◌≡◌, inl, inr, true, false, ℕ, ◌≤◌, List, [], ◌∷◌, length, refl, sym, ◌∙◌, ap, subst, ℤ}
use Rattle.std.proofs.lemmas.Bool.{cases_Bool}
use Rattle.std.specs.List.{AllByRecursion}
use Rattle.sf_algebra.specs.Bounds.{GREATEST_SIZE, HasSmallSize}
use Rattle.sf_algebra.specs.Matrices.{Matrix, IsMatrix}
use Rattle.sf_algebra.specs.Rings.{Ring, Weights, IsRing, IsOverField}
use Rattle.sf_algebra.specs.Terms.{Term}
use Rattle.sf_algebra.specs.Vectors.{Place, Vector}
use Rattle.sf_algebra.proofs.Basics.Lists.{AllByRecursion-weaken}
use Rattle.sf_algebra.proofs.Monomials.Weights.{field_ring}
use Rattle.sf_groebner.specs.Criterion.{lead_place}
use Rattle.sf_groebner.specs.NeededLeads.{AreDistinct, HasLeadAt, IsNeeded}
use Rattle.sf_groebner.specs.ReducedBases.{IsMonic, IsReducedBasis, lead_divides}
use Rattle.sf_groebner.specs.Small.{HasLeadUpTo, IsSmall}
use Rattle.sf_groebner.specs.Spans.{IsGraphVector, graph_degrees}
use Rattle.sf_groebner.proofs.Constructions.Antichains.{AreIncomparable, IsAntichain}
use Rattle.sf_groebner.proofs.Constructions.LeadDivisors.{lead_divides-lead_place, lead_places}
use Rattle.sf_groebner.proofs.Constructions.MatrixBases.{graph_basis}
use Rattle.sf_groebner.proofs.Constructions.ReducedExistence.{sorted_basis}
use Rattle.sf_groebner.proofs.Constructions.SortedRows.{AllByRecursion-sort_rows, length-sort_rows, sort_rows}
use Rattle.sf_groebner.proofs.Constructions.Tails.{HaveReducedTails, HaveReducedTails-length, HaveReducedTails-low}
use Rattle.sf_groebner.proofs.PairLoops.GrowingBases.{IsGrowing, complete_end}
use Rattle.sf_groebner.proofs.PairLoops.NeededLeads.{item-HasElementAt}
use Rattle.sf_groebner.proofs.Spanning.Generators.{AreGenerators}
use Rattle.sf_groebner.proofs.Spanning.GraphGenerators.{graph_submodule}
use Rattle.sf_groebner.proofs.Spanning.Submodules.{IsSubmodule}
use Rattle.sf_groebner.proofs.Uniqueness.Apart.{IsApart-lead}

-- the lead that stands at a place, and what is behind it
lead_terms : (k : Place) (ts : List (Term Place)) → HasLeadAt k ts
    → (t : Term Place) × (us : List (Term Place)) × (ts ≡ t ∷ us) × (t.at ≡ k)
lead_terms k [] h = absurd h
lead_terms k (t ∷ us) h = (t, us, refl, h)

-- different leads of a reduced basis don't divide each other
module _ (weights : Weights) (N : Vector → Type 0) (basis : List Vector) (h : IsReducedBasis weights N basis) where
  needed-apart : (j k : Place) → IsNeeded weights N j → IsNeeded weights N k → (j ≡ k → ⊥) → (v : Vector) → IsMonic v.terms
      → lead_place v.terms ≡ j
      → lead_divides v.terms k ≡ false
  needed-apart j k need_j need_k different v monic lead =
      elim (cases_Bool (lead_divides v.terms k)) [
        | inr none ↦ none
        | inl divided ↦
            let first = item-HasElementAt j basis (need_j basis h) in
            let second = item-HasElementAt k basis (need_k basis h) in
            let x : Vector = first.0 in
            let y : Vector = second.0 in
            let s = lead_terms j x.terms first.2 in
            let t = lead_terms k y.terms second.2 in
            let whole : lead_divides x.terms t.0.at ≡ true =
            (λ i. lead_divides (s.2 i) (t.3 i))
            ∙ ap (λ l. lead_divides (record { at = l; coefficient = s.0.coefficient } ∷ s.1) k) (s.3 ∙ sym lead)
            ∙ sym (lead_divides-lead_place v.terms k monic) ∙ divided in
            let same : x ≡ y = IsApart-lead basis y x t.0 t.1 t.2 h.apart second.1 first.1 whole in
            let leads : s.0 ∷ s.1 ≡ t.0 ∷ t.1 = sym s.2 ∙ ap (λ (z : Vector). z.terms) same ∙ t.2 in
            absurd (different (sym s.3 ∙ ap lead_place leads ∙ t.3))
      ]

  incomparable : (v : Vector) → IsMonic v.terms → IsNeeded weights N (lead_place v.terms) → (vs : List Vector)
      → AllByRecursion (λ (w : Vector). IsMonic w.terms) vs
      → AllByRecursion (IsNeeded weights N) (lead_places vs)
      → AllByRecursion (λ k. lead_place v.terms ≡ k → ⊥) (lead_places vs)
      → AllByRecursion (AreIncomparable v) vs
  incomparable v one need [] monic needed different = tt
  incomparable v one need (w ∷ ws) monic needed different = (
    (
      needed-apart (lead_place v.terms) (lead_place w.terms) need needed.0 different.0 v one refl,
      needed-apart (lead_place w.terms) (lead_place v.terms) needed.0 need (λ e. different.0 (sym e)) w monic.0 refl,
    ),
    incomparable v one need ws monic.1 needed.1 different.1,
  )

  pub IsAntichain-needed : (rows : List Vector) → AllByRecursion (λ (w : Vector). IsMonic w.terms) rows
      → AllByRecursion (IsNeeded weights N) (lead_places rows) → AreDistinct (lead_places rows) → IsAntichain rows
  IsAntichain-needed [] monic needed distinct = tt
  IsAntichain-needed (v ∷ vs) monic needed distinct =
      (incomparable v monic.0 needed.0 vs monic.1 needed.1 distinct.0, IsAntichain-needed vs monic.1 needed.1 distinct.1)

-- no row is left out, since each lead is one of the reduced basis, of which it is enough that there is one
pub finished : (ring : Ring) → IsRing ring → (target : List ℤ) (N : Vector → Type 0) → IsSubmodule ring target N
    → (generators : List Vector) → AreGenerators ring N generators
    → (rows : List Vector) → IsGrowing ring N generators rows [] []
    → (basis : List Vector) → IsReducedBasis ring.weights N basis
    → (ws : List Vector) → HaveReducedTails ring target rows rows ws
    → IsReducedBasis ring.weights N (sort_rows ring.weights ws)
finished ring positive target N submodule generators generate rows g basis h ws tails =
    sorted_basis ring positive target N submodule rows g.monic
    (IsAntichain-needed ring.weights N basis h rows (AllByRecursion-weaken _ _ (λ v k. k.1) rows g.monic) g.needed g.distinct)
    (complete_end ring positive target N submodule generators generate rows [] [] g refl refl) ws tails

-- so a matrix is small where the rows of its graph are few, with low leads
pub small_end : (limit : ℕ) (m : Matrix) → IsOverField m.ring → IsMatrix m → HasSmallSize m → (generators : List Vector)
    → AreGenerators m.ring (IsGraphVector m) generators
    → (rows : List Vector) → IsGrowing m.ring (IsGraphVector m) generators rows [] [] → length rows ≤ GREATEST_SIZE
    → AllByRecursion (λ (v : Vector). HasLeadUpTo m.ring.weights limit v.terms) rows
    → (ws : List Vector) → HaveReducedTails m.ring (graph_degrees m) rows rows ws
    → IsSmall limit m (sort_rows m.ring.weights ws)
small_end limit m prime matrix size generators generate rows g few low ws tails =
    let positive : IsRing m.ring = field_ring prime in
    let b = graph_basis m prime matrix in
    record {
      size = size;
      reduced = finished m.ring positive (graph_degrees m) (IsGraphVector m) (graph_submodule m positive prime.prime.above_one matrix) generators generate rows g b.0 b.1 ws tails;
      within = record {
        few =
            subst (λ n. n ≤ GREATEST_SIZE)
            (sym (length-sort_rows m.ring.weights ws ∙ HaveReducedTails-length m.ring (graph_degrees m) rows rows ws tails))
            few;
        low = AllByRecursion-sort_rows m.ring.weights (λ (v : Vector). HasLeadUpTo m.ring.weights limit v.terms) ws
            (HaveReducedTails-low m.ring (graph_degrees m) m.ring.weights limit rows rows ws (AllByRecursion-weaken _ _ (λ v k. k.1) rows g.monic) tails low);
      };
    }
