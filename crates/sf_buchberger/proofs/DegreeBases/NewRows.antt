-- One element more, and several: what they keep.
use Rattle.std.proofs.Common.{◌≡◌, ℕ, ◌≤◌, List, [], ◌∷◌, ◌++◌, IsFalse, length, length-append, append-nil, append_assoc, refl, sym, ◌∙◌, ap, subst, arith, ℤ}
use Rattle.std.proofs.lemmas.List.{map-append}
use Rattle.std.specs.List.{AllByRecursion, list_any}
use Rattle.sf_algebra.specs.Bounds.{GREATEST_SIZE}
use Rattle.sf_algebra.specs.Matrices.{Matrix}
use Rattle.sf_algebra.specs.Rings.{Weights, ones}
use Rattle.sf_algebra.specs.Terms.{Term}
use Rattle.sf_algebra.specs.Vectors.{Place, Vector, IsHomogeneous, place_degree}
use Rattle.sf_algebra.proofs.Basics.Lists.{AllByRecursion-append}
use Rattle.sf_algebra.proofs.Monomials.Weights.{degree_by_ones}
use Rattle.sf_groebner.specs.Criterion.{lead_place}
use Rattle.sf_groebner.specs.Divisions.{tail_of}
use Rattle.sf_groebner.specs.Leads.{place_divides}
use Rattle.sf_groebner.specs.ReducedBases.{IsMonic, IsSorted, is_divided}
use Rattle.sf_groebner.specs.Small.{HasLeadUpTo}
use Rattle.sf_groebner.specs.Spans.{IsGraphVector}
use Rattle.sf_groebner.proofs.Constructions.LeadDivisors.{is_divided-lead_places, lead_places}
use Rattle.sf_variables.specs.Variables.{IsVectorInVariables}
use Rattle.sf_counting.specs.CountLaws.{AreGraphRows}
use Rattle.sf_buchberger.specs.CountedRows.{AreNew, HasNewRow, HasNewRows, IsFinding, IsTakenUp}
use Rattle.sf_buchberger.specs.GrowthSteps.{PairsFit}
use Rattle.sf_buchberger.specs.declared.counted.state.Counting.{Counting}
use Rattle.sf_buchberger.proofs.MonicMultiples.{PairsFit-low}

module _ (limit : ℕ) (bound : limit ≤ 60) (m : Matrix) (weights : m.ring.weights ≡ ones) (c : Counting)
    (finding : IsFinding limit m c) (v : Vector) (graph : IsGraphVector m v) (over : IsVectorInVariables c.variables v)
    (t : Term Place) (first : v.terms ≡ t ∷ tail_of v.terms) (taken : IsTakenUp limit c v t) where
  -- its pairs have room
  pub element_room : PairsFit c.rows.rows t.at
  element_room =
      PairsFit-low limit c.rows.rows t.at bound taken.low
      (subst (λ (w : Weights). AllByRecursion (λ (x : Vector). HasLeadUpTo w limit x.terms) c.rows.rows) weights finding.low)

  -- its degree is that of its lead
  pub element_degree : v.degree ≡ place_degree ones c.rows.target t.at
  element_degree =
      (subst (IsHomogeneous ones c.rows.target v.degree) first
      (subst (λ (w : Weights). IsHomogeneous w c.rows.target v.degree v.terms) weights
      (subst (λ (ds : List ℤ). IsHomogeneous m.ring.weights ds v.degree v.terms) (sym finding.target) graph.vector.homogeneous))).0.1

  lead : lead_place v.terms ≡ t.at
  lead = ap lead_place first

  -- it is an element more
  pub new_element : (after : Counting) → after.variables ≡ c.variables → after.full ≡ c.full
      → after.rows ≡ record c.rows { rows = c.rows.rows ++ v ∷ [] } → after.leads ≡ c.leads ++ t.at ∷ []
      → HasNewRow limit m c v after
  new_element after variables full rows leads =
      let whole : after.rows.rows ≡ c.rows.rows ++ v ∷ [] = ap (λ (x : Matrix). x.rows) rows in
      record {
        finding = record {
          ring = ap (λ (x : Matrix). x.ring) rows ∙ finding.ring;
          target = ap (λ (x : Matrix). x.target) rows ∙ finding.target;
          rows = subst (λ (vs : List Vector). AreGraphRows after.variables m vs) (sym whole)
              (subst (λ n. AreGraphRows n m (c.rows.rows ++ v ∷ [])) (sym variables) (record {
                inside = AllByRecursion-append _ c.rows.rows (v ∷ []) finding.rows.inside (graph, tt);
                variables = AllByRecursion-append _ c.rows.rows (v ∷ []) finding.rows.variables (over, tt);
                monic = AllByRecursion-append _ c.rows.rows (v ∷ []) finding.rows.monic (subst IsMonic (sym first) taken.monic, tt);
              }));
          sorted = subst (IsSorted m.ring.weights) (sym whole)
              (subst (λ (w : Weights). IsSorted w (c.rows.rows ++ v ∷ [])) (sym weights)
              (taken.sorted (subst (λ (w : Weights). IsSorted w c.rows.rows) weights finding.sorted)));
          few = subst (λ (vs : List Vector). length vs ≤ GREATEST_SIZE) (sym whole)
              (simp length-append (omega (arith, taken.few)));
          low = subst (AllByRecursion (λ (x : Vector). HasLeadUpTo m.ring.weights limit x.terms)) (sym whole)
              (AllByRecursion-append _ c.rows.rows (v ∷ []) finding.low (
                subst (HasLeadUpTo m.ring.weights limit) (sym first)
                    (subst (λ (w : Weights). HasLeadUpTo w limit (t ∷ tail_of v.terms)) (sym weights)
                    (subst (λ n. n ≤ limit) (degree_by_ones t.at.monomial) taken.low)),
                tt,
              ));
          places = leads ∙ (λ i. finding.places i ++ sym lead i ∷ [])
              ∙ sym (map-append (λ (x : Vector). lead_place x.terms) c.rows.rows (v ∷ [])) ∙ ap lead_places (sym whole);
        };
        rows = whole;
        new = is_divided-lead_places c.rows.rows (lead_place v.terms) finding.rows.monic
            ∙ (λ i. list_any (λ j. place_divides j (lead i)) (sym finding.places i)) ∙ taken.new;
        variables = variables;
        full = full;
      }

-- one lead more that is new
AreNew-last : (rows vs : List Vector) (v : Vector) → AreNew rows vs
    → IsFalse (is_divided (rows ++ vs) (lead_place v.terms)) → AreNew rows (vs ++ v ∷ [])
AreNew-last rows [] v h new = (ap (λ l. is_divided l (lead_place v.terms)) (sym (append-nil rows)) ∙ new, tt)
AreNew-last rows (w ∷ ws) v h new = (
  h.0,
  AreNew-last (rows ++ w ∷ []) ws v h.1
      (ap (λ l. is_divided l (lead_place v.terms)) (append_assoc rows (w ∷ []) ws) ∙ new),
)

module _ (limit : ℕ) (m : Matrix) (before : Counting) (d : ℤ) where
  -- no elements more yet
  pub HasNewRows-none : IsFinding limit m before → HasNewRows limit m before d before
  HasNewRows-none finding = record {
    finding = finding;
    more = [];
    rows = sym (append-nil before.rows.rows);
    degrees = tt;
    new = tt;
    variables = refl;
    full = refl;
  }

  -- one more of them
  pub HasNewRows-one : (now after : Counting) → HasNewRows limit m before d now → (v : Vector) → v.degree ≡ d
      → HasNewRow limit m now v after → HasNewRows limit m before d after
  HasNewRows-one now after h v degree one = record {
    finding = one.finding;
    more = h.more ++ v ∷ [];
    rows = one.rows ∙ ap (λ l. l ++ v ∷ []) h.rows ∙ append_assoc before.rows.rows h.more (v ∷ []);
    degrees = AllByRecursion-append _ h.more (v ∷ []) h.degrees (degree, tt);
    new = AreNew-last before.rows.rows h.more v h.new
        (ap (λ l. is_divided l (lead_place v.terms)) (sym h.rows) ∙ one.new);
    variables = one.variables ∙ h.variables;
    full = one.full ∙ h.full;
  }
