-- Leads of the graph in one degree, over n variables: vectors of the graph are zero where their coefficients are, so that
-- there are no more leads than places of coefficients, and rows that divide as many places divide each lead.
use Rattle.std.proofs.Common.{◌≡◌, inl, inr, ℕ, ◌<◌, ◌≤◌, Bool, true, ◌||◌, List, [], ◌∷◌, length, filter, refl, sym, ◌∙◌, ap, subst, arith, ℤ}
use Rattle.std.proofs.Math.Nat.{mod-eq_of_lt}
use Rattle.std.proofs.lemmas.Bool.{cases_Bool, cases_lt, le-leb, or_cases}
use Rattle.std.proofs.lemmas.Cmp.{tied_itself}
use Rattle.std.proofs.lemmas.Int.{ints}
use Rattle.std.specs.Cmp.{Equal-is}
use Rattle.std.specs.List.{AllByRecursion}
use Rattle.std.specs.Ordering.{is_eq}
use Rattle.sf_algebra.specs.Matrices.{Matrix, IsMatrix, degrees_of}
use Rattle.sf_algebra.specs.MatrixOperations.{part_terms, row_combination}
use Rattle.sf_algebra.specs.Monomials.{one}
use Rattle.sf_algebra.specs.Residues.{product_mod, sum_mod}
use Rattle.sf_algebra.specs.Rings.{IsRing, IsOverField}
use Rattle.sf_algebra.specs.Terms.{Term, IsNonzeroResidue}
use Rattle.sf_algebra.specs.VectorOperations.{row_multiple, row_sum}
use Rattle.sf_algebra.specs.Vectors.{Place, Vector, IsHomogeneous, IsTermOfDegree, place_cmp}
use Rattle.sf_algebra.proofs.Arithmetic.Residues.{product_mod-comm, product_mod-one}
use Rattle.sf_algebra.proofs.Basics.Filters.{AllByRecursion-filter, AllByRecursion-filter_keeps}
use Rattle.sf_algebra.proofs.GradedMatrices.PartTerms.{part_terms-outside}
use Rattle.sf_algebra.proofs.Monomials.Orders.{place_cmp-Equal, place_cmp_linear, place_cmp_total}
use Rattle.sf_algebra.proofs.Monomials.Weights.{field_ring}
use Rattle.sf_algebra.proofs.Terms.Coefficients.{coefficient_at-head}
use Rattle.sf_algebra.proofs.Terms.Totals.{total-nil}
use Rattle.sf_algebra.proofs.Vectors.HomogeneousVectors.{IsVector-nil}
use Rattle.sf_algebra.proofs.Vectors.Rows.{row_combination-cons, row_combination-nil, row_combination-one}
use Rattle.sf_groebner.specs.Criterion.{lead_at}
use Rattle.sf_groebner.specs.Divisions.{step, step_tail}
use Rattle.sf_groebner.specs.Leads.{PlaceDivides}
use Rattle.sf_groebner.specs.ReducedBases.{HasDividedLead, IsMonic, is_divided}
use Rattle.sf_groebner.specs.Spans.{IsGraphVector, coefficient_terms, graph_degrees}
use Rattle.sf_groebner.proofs.Basics.Items.{AllByRecursion-both, AllByRecursion-from_items, AllByRecursion-item, IsItem, IsItem-filter}
use Rattle.sf_groebner.proofs.Constructions.MonicVectors.{IsMonicVector, IsTermOfDegree-step, is_divided-position, multiple_at}
use Rattle.sf_groebner.proofs.PairTheorems.Multiplied.{constant_term}
use Rattle.sf_groebner.proofs.PartsOfBases.GraphVectors.{graph_vector-unique}
use Rattle.sf_groebner.proofs.Spanning.GraphGenerators.{graph_submodule}
use Rattle.sf_groebner.proofs.Spanning.Submodules.{IsSubmodule}
use Rattle.sf_variables.specs.Columns.{IsColumn}
use Rattle.sf_variables.specs.Variables.{AreInVariables, IsInVariables, IsRowInVariables}
use Rattle.sf_variables.proofs.Keeping.Monomials.{IsInVariables-one, IsInVariables-quotient}
use Rattle.sf_variables.proofs.Keeping.Rows.{IsRowInVariables-combination}
use Rattle.sf_counting.specs.CountLaws.{AreGraphRows}
use Rattle.sf_counting.specs.Counts.{AreGraphColumns, IsFull, count_divided, count_sources, is_source}
use Rattle.sf_counting.proofs.Counting.Coefficients.{coefficient, coefficient-above, coefficient-below, coefficient-constant, coefficient-item, coefficient-sum}
use Rattle.sf_counting.proofs.Counting.Elimination.{HasLead, IsClosed, count_leads}
use Rattle.sf_counting.proofs.Counting.Filters.{AreFalling-filter, IsItem-Contains, length-filter_lt}

-- terms of degree d are a vector of the graph, over n variables
abbrev pub InGraph : ℕ → Matrix → ℤ → List (Term Place) → Type 0
InGraph n m d ts = IsGraphVector m (record { degree = d; terms = ts }) × IsRowInVariables n ts

-- where all terms stand before them there are none at some positions
part_terms-before : (from to : ℕ) (ts : List (Term Place))
    → AllByRecursion (λ (t : Term Place). t.at.position < from) ts → part_terms from to ts ≡ []
part_terms-before from to [] h = refl
part_terms-before from to (t ∷ ts) h = part_terms-outside from to t ts (inl h.0) ∙ part_terms-before from to ts h.1

-- whether a place is this one
abbrev is_place : Matrix → Place → Place → Bool
is_place m l k = is_eq (place_cmp m.ring.weights k l)

module _ (n : ℕ) (m : Matrix) (prime : IsOverField m.ring) (matrix : IsMatrix m) where
  abbrev p : ℕ
  p = m.ring.modulus

  pub graph_is_submodule : IsSubmodule m.ring (graph_degrees m) (IsGraphVector m)
  graph_is_submodule = graph_submodule m (field_ring prime) prime.prime.above_one matrix

  pub InGraph-combination : (rows : List Vector) → AllByRecursion (IsGraphVector m) rows → AreInVariables n rows → (d : ℤ)
      → (c : List (Term Place)) → IsHomogeneous m.ring.weights (degrees_of rows) d c → IsRowInVariables n c
      → InGraph n m d (row_combination m.ring rows c)
  InGraph-combination rows inside variables d c homogeneous over =
      (graph_is_submodule.combinations rows inside d c homogeneous, IsRowInVariables-combination n m.ring rows c variables over)

  module _ (d : ℤ) where
    graph_combined : (x : ℕ) (u v : List (Term Place)) → InGraph n m d u → InGraph n m d v
        → (w : List (Term Place)) × InGraph n m d w
        × ((k : Place) → coefficient m.ring w k ≡ sum_mod p (coefficient m.ring u k) (product_mod p x (coefficient m.ring v k)))
    graph_combined x u v h k =
        let positive : IsRing m.ring = field_ring prime in
        let rows : List Vector =
        record { degree = d; terms = u } ∷ (record { degree = d; terms = v } ∷ []) in
        let first : Term Place = record { at = record { position = 0; monomial = one }; coefficient = 1 } in
        let second : Term Place = record { at = record { position = 1; monomial = one }; coefficient = x } in
        let sums : row_combination m.ring rows (first ∷ (second ∷ [])) ≡ row_sum m.ring (row_multiple m.ring (constant_term 1) u) (row_multiple m.ring (constant_term x) v) =
        row_combination-cons m.ring positive.modulus rows first (second ∷ [])
        ∙ ap (row_sum m.ring (row_multiple m.ring (constant_term 1) u))
        (row_combination-one m.ring positive.modulus rows second) in (
          row_combination m.ring rows (first ∷ (second ∷ [])),
          InGraph-combination rows (h.0, (k.0, tt)) (h.1, (k.1, tt)) d (first ∷ (second ∷ []))
              ((omega arith, omega (arith, ints)), ((omega arith, omega (arith, ints)), tt))
              (IsInVariables-one n, (IsInVariables-one n, tt)),
          λ l.
              ap (λ ts. coefficient m.ring ts l) sums
              ∙ coefficient-sum m.ring (row_multiple m.ring (constant_term 1) u) (row_multiple m.ring (constant_term x) v) l
              ∙ (λ i. sum_mod p (once u l i) (coefficient-constant m.ring x v l i)),
        )
      where
        once : (ts : List (Term Place)) (l : Place)
            → coefficient m.ring (row_multiple m.ring (constant_term 1) ts) l ≡ coefficient m.ring ts l
        once ts l =
            let above = prime.prime.above_one in
            coefficient-constant m.ring 1 ts l ∙ product_mod-comm p 1 (coefficient m.ring ts l)
            ∙ product_mod-one p (coefficient m.ring ts l)
            ∙ mod-eq_of_lt (coefficient-below m.ring (omega (arith, above)) ts l)

    graph_closed : IsClosed m.ring.weights p prime.prime (coefficient m.ring) (InGraph n m d)
    graph_closed = record {
      below = λ ts h. coefficient-below m.ring (omega (arith, prime.prime.above_one)) ts;
      combined = graph_combined;
    }

    abbrev HasGraphLead : Place → Type 0
    HasGraphLead k = HasLead m.ring.weights p prime.prime (coefficient m.ring) (InGraph n m d) k

    graph_lead : (t : Term Place) (ts : List (Term Place)) → InGraph n m d (t ∷ ts) → HasGraphLead t.at
    graph_lead t ts h = (
      t ∷ ts,
      h,
      record {
        nonzero =
            subst (λ x. 0 < x)
            (sym (coefficient_at-head (place_cmp m.ring.weights) (place_cmp_linear m.ring.weights) p t ts h.0.vector.canonical))
            h.0.vector.canonical.residues.0.0;
        greatest = coefficient-above m.ring t ts h.0.vector.canonical;
      },
    )

    module _ (ks : List Place) (columns : AreGraphColumns n m d ks) where
      -- what has no coefficients is 0
      graph_zero : (ts : List (Term Place)) → InGraph n m d ts
          → AllByRecursion (λ k. coefficient m.ring ts k ≡ 0) (filter (is_source m) ks) → ts ≡ []
      graph_zero ts h none =
          let positive : IsRing m.ring = field_ring prime in
          let empty : coefficient_terms m ts ≡ [] =
          part_terms-before (length m.target) _ ts
          (AllByRecursion-from_items (λ (t : Term Place). t.at.position < length m.target) ts in_target) in
          ap (λ (w : Vector). w.terms)
          (graph_vector-unique m (record { degree = d; terms = ts }) (record { degree = d; terms = [] }) h.0
          (record { vector = IsVector-nil m.ring (graph_degrees m) d; value = sym (row_combination-nil m.ring positive.modulus m.rows) })
          (λ i. record { degree = d; terms = empty i }))
        where
          no_zero : (x : ℕ) → 0 < x → x ≡ 0 → ⊥
          no_zero x h e = omega arith

          in_target : (t : Term Place) → IsItem t ts → t.at.position < length m.target
          in_target t item =
              elim (cases_lt t.at.position (length m.target)) [
                | inl before ↦ before
                | inr source ↦
                    let term : IsTermOfDegree m.ring.weights (graph_degrees m) d t =
                    AllByRecursion-item (IsTermOfDegree m.ring.weights (graph_degrees m) d) ts t h.0.vector.homogeneous item in
                    let over : IsInVariables n t.at.monomial =
                    AllByRecursion-item (λ (s : Term Place). IsInVariables n s.at.monomial) ts t h.1 item in
                    let residue : IsNonzeroResidue p t =
                    AllByRecursion-item (IsNonzeroResidue p) ts t h.0.vector.canonical.residues item in
                    let place : IsItem t.at (filter (is_source m) ks) =
                    IsItem-filter (is_source m) ks t.at (IsItem-Contains ks t.at (columns.all t.at (record { generator = term.0; degree = term.1; variables = over }))) (le-leb _ _ source) in
                    absurd
                    (no_zero t.coefficient residue.0
                    (sym (coefficient-item m.ring ts h.0.vector.canonical t item) ∙ AllByRecursion-item (λ k. coefficient m.ring ts k ≡ 0) (filter (is_source m) ks) t.at none place))
              ]

      -- columns that are leads are no more than those that stand for coefficients
      bounded_leads : (test : Place → Bool)
          → ((k : Place) → IsColumn m.ring.weights n (graph_degrees m) d k → test k ≡ true → HasGraphLead k)
          → length (filter test ks) ≤ count_sources m ks
      bounded_leads test leads =
          count_leads m.ring.weights p prime.prime (coefficient m.ring) (filter (is_source m) ks) (InGraph n m d) graph_closed
          (λ ts h none k. ap (λ us. coefficient m.ring us k) (graph_zero ts h none) ∙ total-nil p _)
          (filter test ks) (AreFalling-filter m.ring.weights test ks columns.falling)
          (AllByRecursion-both (λ k. test k ≡ true) (IsColumn m.ring.weights n (graph_degrees m) d) HasGraphLead (λ k e column. leads k column e) (filter test ks)
          (AllByRecursion-filter (λ k. test k ≡ true) test ks (λ k e. e))
          (AllByRecursion-filter_keeps (IsColumn m.ring.weights n (graph_degrees m) d) test ks columns.inside))

  module _ (rows : List Vector) (g : AreGraphRows n m rows) where
    pub graph_monic : AllByRecursion (IsMonicVector m.ring (graph_degrees m)) rows
    graph_monic =
        AllByRecursion-both (IsGraphVector m) (λ (v : Vector). IsMonic v.terms) (IsMonicVector m.ring (graph_degrees m))
        (λ v inside monic. record { vector = inside.vector; monic = monic }) rows g.inside g.monic

    -- the multiple of a row whose lead divides the place of a term, and which begins with this term
    pub multiple_in_graph : (d : ℤ) (t : Term Place) → IsNonzeroResidue p t
        → IsTermOfDegree m.ring.weights (graph_degrees m) d t → IsInVariables n t.at.monomial
        → (i : ℕ) → i < length rows → PlaceDivides (lead_at rows i) t.at
        → InGraph n m d (t ∷ step_tail m.ring rows i t)
    multiple_in_graph d t residue term over i within divides =
        subst (InGraph n m d) (multiple_at m.ring (graph_degrees m) rows graph_monic prime i within t residue divides)
        (InGraph-combination rows g.inside g.variables d (step rows i t ∷ [])
        (IsTermOfDegree-step m.ring (graph_degrees m) rows graph_monic i within d t divides term, tt)
        (IsInVariables-quotient n t.at.monomial (lead_at rows i).monomial over, tt))

    -- so a column that a lead divides is a lead
    divided_lead : (d : ℤ) (k : Place) → IsColumn m.ring.weights n (graph_degrees m) d k → is_divided rows k ≡ true
        → HasGraphLead d k
    divided_lead d k column divided =
        let found = is_divided-position rows k divided in
        let t : Term Place = record { at = k; coefficient = 1 } in
        graph_lead d t (step_tail m.ring rows found.0 t)
        (multiple_in_graph d t (omega arith, prime.prime.above_one) (column.generator, column.degree) column.variables found.0 found.1 found.2)

    pub no_more_leads : (d : ℤ) (ks : List Place) → AreGraphColumns n m d ks
        → count_divided rows ks ≤ count_sources m ks
    no_more_leads d ks columns = bounded_leads d ks columns (is_divided rows) (divided_lead d)

    -- where rows are full, a lead that they didn't divide were one too many
    pub complete_where_full : (d : ℤ) → IsFull n m rows d → (ts : List (Term Place)) → InGraph n m d ts
        → HasDividedLead rows ts
    complete_where_full d full [] h = tt
    complete_where_full d full (t ∷ ts) h =
        elim (cases_Bool (is_divided rows t.at)) [
          | inl divided ↦ divided
          | inr free ↦
              let column : IsColumn m.ring.weights n (graph_degrees m) d t.at =
              record { generator = h.0.vector.homogeneous.0.0; degree = h.0.vector.homogeneous.0.1; variables = h.1.0 } in
              let test : Place → Bool = λ k. is_divided rows k || is_place m t.at k in
              let tied : is_place m t.at t.at ≡ true = ap is_eq (tied_itself (place_cmp_total m.ring.weights) t.at) in
              let more =
              length-filter_lt (is_divided rows) test (λ k e. ap (λ b. b || is_place m t.at k) e) t.at free
              (ap (λ b. b || is_place m t.at t.at) free ∙ tied) full.columns (IsItem-Contains full.columns t.at (full.places.all t.at column)) in
              let fewer = bounded_leads d full.columns full.places test leads in
              absurd (omega (arith, more, fewer, full.enough))
        ]
      where
        leads : (k : Place) → IsColumn m.ring.weights n (graph_degrees m) d k
            → (is_divided rows k || is_place m t.at k) ≡ true → HasGraphLead d k
        leads k column e =
            elim (or_cases (is_divided rows k) (is_place m t.at k) e) [
              | inl divided ↦ divided_lead d k column divided
              | inr same ↦
                  let equal : k ≡ t.at = place_cmp-Equal m.ring.weights k t.at ((Equal-is _).0 same) in
                  subst (HasGraphLead d) (sym equal) (graph_lead d t ts h)
            ]
