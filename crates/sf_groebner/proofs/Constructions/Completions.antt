-- Buchberger's algorithm as a proof: each finitely generated module has monic vectors whose leads divide each lead.
-- Rests of generators and of S-vectors are taken in until there are none; Dickson's lemma ends this. (Cox, Little,
-- O'Shea, "Using Algebraic Geometry", chapter 5, section 2.)
use Rattle.std.proofs.Common.{◌≡◌, ◌⊎◌, inl, inr, false, ℕ, zero, suc, ◌<◌, List, [], ◌∷◌, length, refl, sym, ◌∙◌, ap, subst, arith, ℤ}
use Rattle.std.proofs.lemmas.Bool.{cases_eq, cases_lt}
use Rattle.std.proofs.lemmas.List.{length-map}
use Rattle.std.specs.List.{AllByRecursion, list_any}
use mathlib.Core.WellFounded.{Acc}
use Rattle.sf_algebra.specs.Matrices.{degrees_of}
use Rattle.sf_algebra.specs.MatrixOperations.{row_combination}
use Rattle.sf_algebra.specs.Rings.{Ring, IsOverField}
use Rattle.sf_algebra.specs.Terms.{Term}
use Rattle.sf_algebra.specs.VectorOperations.{row_sum}
use Rattle.sf_algebra.specs.Vectors.{Place, Vector, IsHomogeneous}
use Rattle.sf_algebra.proofs.Basics.Lists.{AllByRecursion-weaken}
use Rattle.sf_algebra.proofs.Monomials.Weights.{field_ring}
use Rattle.sf_algebra.proofs.Vectors.RowSums.{row_sum-nil_first}
use Rattle.sf_algebra.proofs.Vectors.Rows.{IsCanonical-row_combination}
use Rattle.sf_groebner.specs.Criterion.{HaveLeadsAtOnePosition, ReducesToZero, lead_at, lead_place, s_vector, s_coefficients}
use Rattle.sf_groebner.specs.Divisions.{IsDivided}
use Rattle.sf_groebner.specs.Leads.{place_divides}
use Rattle.sf_groebner.specs.ReducedBases.{HasDividedLead, IsMonic, IsReducedBy, is_divided}
use Rattle.sf_groebner.proofs.Basics.Dickson.{AddsLead, leads_acc}
use Rattle.sf_groebner.proofs.Constructions.Antichains.{IsGrown}
use Rattle.sf_groebner.proofs.Constructions.Divisions.{Division, divide}
use Rattle.sf_groebner.proofs.Constructions.LeadDivisors.{is_divided-lead_places, lead_places}
use Rattle.sf_groebner.proofs.Constructions.MonicVectors.{IsMonicVector}
use Rattle.sf_groebner.proofs.PairLoops.HomogeneousPairs.{ReducesToZero-division, pair_degree, s_coefficients-homogeneous}
use Rattle.sf_groebner.proofs.PairTheorems.Buchberger.{buchberger}
use Rattle.sf_groebner.proofs.Spanning.Generators.{AreGenerators, IsCombination, IsCombination-trans}
use Rattle.sf_groebner.proofs.Spanning.Submodules.{HasMonicAt, IsSubmodule, monic_multiple, rest_inside}

-- a fact of each item, or one that an item gives
pub each_or : {X : Type 0} (R P : X → Type 0) (Q : Type 0) → ((x : X) → R x → P x ⊎ Q) → (xs : List X) → AllByRecursion R xs
    → AllByRecursion P xs ⊎ Q
each_or R P Q f [] h = inl tt
each_or R P Q f (x ∷ xs) h = elim (f x h.0) [
  | inr found ↦ inr found
  | inl first ↦ elim (each_or R P Q f xs h.1) [
    | inr found ↦ inr found
    | inl others ↦ inl (first, others)
  ]
]

-- a fact of each number below n, or one that such a number gives
below_or : (P : ℕ → Type 0) (Q : Type 0) (n : ℕ) → ((i : ℕ) → i < n → P i ⊎ Q) → ((i : ℕ) → i < n → P i) ⊎ Q
below_or P Q zero f = inl (λ i h. absurd (omega arith))
below_or P Q (suc n) f = elim (f n (omega arith)) [
  | inr found ↦ inr found
  | inl last ↦ elim (below_or P Q n (λ i h. f i (omega arith))) [
    | inr found ↦ inr found
    | inl others ↦ inl (λ i h. elim (cases_lt i n) [ inl less ↦ others i less | inr not_less ↦ let same : n ≡ i = omega arith in subst P same last ])
  ]
]

-- a vector of the module whose lead has the coefficient 1
abbrev pub IsMonicIn : (Vector → Type 0) → Vector → Type 0
IsMonicIn N v = N v × IsMonic v.terms

-- monic vectors of the module whose leads divide each lead
pub record Completion (N : Vector → Type 0) : Type 0 where
  pub rows : List Vector
  pub monic : AllByRecursion (IsMonicIn N) rows
  pub grown : IsGrown rows
  pub complete : (v : Vector) → N v → HasDividedLead rows v.terms

module _ (ring : Ring) (prime : IsOverField ring) (target : List ℤ) (N : Vector → Type 0)
    (submodule : IsSubmodule ring target N) where
  -- a lead of the module that no lead of the rows divides
  abbrev HasNewLead : List Vector → Type 0
  HasNewLead rows = (k : Place) × HasMonicAt N k × (is_divided rows k ≡ false)

  pub monic_vectors : (rows : List Vector) → AllByRecursion (IsMonicIn N) rows
      → AllByRecursion (IsMonicVector ring target) rows
  monic_vectors rows h =
      AllByRecursion-weaken _ _ (λ v k. record { vector = submodule.module_like.vectors v k.0; monic = k.1 }) rows h

  module _ (rows : List Vector) (monic : AllByRecursion (IsMonicIn N) rows) where
    rest_or_new : (d : ℤ) (ts : List (Term Place)) → N (record { degree = d; terms = ts }) → IsReducedBy rows ts
        → (ts ≡ []) ⊎ HasNewLead rows
    rest_or_new d [] h free = inl refl
    rest_or_new d (t ∷ ts) h free = inr (t.at, monic_multiple ring prime target N submodule d t ts h, free.0)

    -- a vector of the module has a division without a rest, or gives a new lead
    division_or_new : (v : Vector) → N v → ((e : Division ring target rows v) × (e.rest ≡ [])) ⊎ HasNewLead rows
    division_or_new v h =
        let e = divide ring prime target rows (monic_vectors rows monic) v (submodule.module_like.vectors v h) in
        elim (rest_or_new v.degree e.rest (rest_inside ring (field_ring prime) target N submodule rows (AllByRecursion-weaken _ _ (λ w k. k.0) rows monic) v.degree v.terms e.rest e.quotients h e.divided) e.divided.reduced) [
          | inl none ↦ inl (e, none)
          | inr found ↦ inr found
        ]

    -- it is a combination of the rows, or gives a new lead
    combination_or_new : (v : Vector) → N v → IsCombination ring rows v ⊎ HasNewLead rows
    combination_or_new v h = elim (division_or_new v h) [
      | inl found ↦ let e = found.0 in
          inl (record {
            coefficients = e.quotients;
            homogeneous = e.divided.homogeneous;
            value =
                sym (row_sum-nil_first ring (field_ring prime).modulus (row_combination ring rows e.quotients) (IsCanonical-row_combination ring (field_ring prime).modulus rows e.quotients))
                ∙ ap (λ ts. row_sum ring ts (row_combination ring rows e.quotients)) (sym found.1)
                ∙ e.divided.sum;
          })
      | inr found ↦ inr found
    ]

    -- a pair reduces to zero, or gives a new lead
    pair_or_new : (i : ℕ) → i < length rows → (j : ℕ) → j < length rows
        → (HaveLeadsAtOnePosition rows i j → ReducesToZero ring rows i j) ⊎ HasNewLead rows
    pair_or_new i i_in j j_in =
        elim (cases_eq (lead_at rows i).position (lead_at rows j).position) [
          | inr apart ↦ inl (λ positions. absurd (apart positions))
          | inl positions ↦
              let vectors = monic_vectors rows monic in
              let d : ℤ = pair_degree ring (field_ring prime) target rows vectors i j i_in j_in positions in
              let inside : N (record { degree = d; terms = s_vector ring rows i j }) =
              submodule.combinations rows (AllByRecursion-weaken _ _ (λ w k. k.0) rows monic) d
              (s_coefficients ring.modulus (lead_at rows) i j)
              (s_coefficients-homogeneous ring (field_ring prime) target rows vectors i j i_in j_in positions) in
              elim (division_or_new (record { degree = d; terms = s_vector ring rows i j }) inside) [
                | inl found ↦
                    let e = found.0 in
                    inl
                    (λ same.
                    ReducesToZero-division ring (field_ring prime) target rows vectors i j i_in j_in positions d e.quotients
                    (subst (λ ts. IsDivided ring target rows d (s_vector ring rows i j) ts e.quotients) found.1 e.divided))
                | inr found ↦ inr found
              ]
        ]

    complete_or_new : (generators : List Vector) → AreGenerators ring N generators
        → ((v : Vector) → N v → HasDividedLead rows v.terms) ⊎ HasNewLead rows
    complete_or_new generators generate =
        elim (each_or N (IsCombination ring rows) (HasNewLead rows) combination_or_new generators generate.inside) [
          | inr found ↦ inr found
          | inl combinations ↦
              elim (below_or (λ i. (j : ℕ) → j < length rows → HaveLeadsAtOnePosition rows i j → ReducesToZero ring rows i j) (HasNewLead rows) (length rows)
              (λ i i_in. below_or (λ j. HaveLeadsAtOnePosition rows i j → ReducesToZero ring rows i j) (HasNewLead rows) (length rows) (pair_or_new i i_in))) [
                | inr found ↦ inr found
                | inl pairs ↦ inl (λ v h.
                    let c =
                    IsCombination-trans ring rows (field_ring prime) generators combinations v (generate.spans v h) in
                    subst (HasDividedLead rows) c.value
                    (buchberger ring (field_ring prime) rows (AllByRecursion-weaken _ _ (λ w k. record { canonical = (submodule.module_like.vectors w k.0).canonical; monic = k.1 }) rows monic)
                    (λ i j before j_in positions. pairs i (omega arith) j j_in positions)
                    c.coefficients
                    (AllByRecursion-weaken _ _ (λ t k. within t k.0) c.coefficients c.homogeneous)))
              ]
        ]
      where
        within : (t : Term Place) → t.at.position < length (degrees_of rows) → t.at.position < length rows
        within t h = simp length-map at h

  module _ (generators : List Vector) (generate : AreGenerators ring N generators) where
    complete_from : (ks : List Place) → Acc (AddsLead (length target)) ks → (rows : List Vector)
        → AllByRecursion (IsMonicIn N) rows → IsGrown rows → lead_places rows ≡ ks → Completion N
    complete_from ks (Acc.intro js h) rows monic grown leads =
        elim (complete_or_new rows monic generators generate) [
          | inl complete ↦ record { rows = rows; monic = monic; grown = grown; complete = complete }
          | inr found ↦
              let k : Place = found.0 in
              let e = found.1 in
              let first : lead_place e.vector.terms ≡ k = ap lead_place e.terms in
              let column : k.position < length target =
              (subst (IsHomogeneous ring.weights target e.vector.degree) e.terms (submodule.module_like.vectors e.vector e.inside).homogeneous).0.0 in
              let none : list_any (λ j. place_divides j k) js ≡ false =
              ap (list_any (λ j. place_divides j k)) (sym leads)
              ∙ sym (is_divided-lead_places rows k (AllByRecursion-weaken _ _ (λ w m. m.1) rows monic)) ∙ found.2 in
              complete_from (k ∷ js) (h (k ∷ js) (k, refl, none, column)) (e.vector ∷ rows)
              ((e.inside, subst IsMonic (sym e.terms) refl), monic)
              (ap (is_divided rows) first ∙ found.2, grown)
              (λ i. first i ∷ leads i)
        ]

    pub completion : Completion N
    completion = complete_from [] (leads_acc (length target) []) [] tt tt refl
